-- A duty as entries: its waits, its off runs and its acts say all of it.
use Rattle.std.proofs.Common.{◌≡◌, ◌≢◌, ◌⊎◌, inl, inr, ℕ, List, [], ◌∷◌, ◌++◌, length, zero, suc, drop, get_or, refl, ap, sym, ◌∙◌, append_assoc, length-append, arith}
use Rattle.std.proofs.lemmas.List.{append-nil}
use Rattle.minute_line.specs.declared.marks.Kind.{Kind}
use Rattle.minute_line.specs.declared.marks.Kind.TheVariants.{Plain, Daily, Weekly}
use Rattle.duty_plan.specs.declared.duties.Act.{Act}
use Rattle.duty_plan.specs.declared.duties.Step.{Step}
use Rattle.duty_plan.specs.PartialDuties.{PartialDuty}

-- what a line of a duty says: Ready minutes, Off minutes of a kind, or an act
pub data Entry : Type 0 where
  waits : ℕ → Entry
  rests : ℕ → Kind → Entry
  acts : Act → Entry

abbrev pub wait_entries : ℕ → List Entry
wait_entries zero = []
wait_entries (suc n) = waits (suc n) ∷ []

abbrev pub rest_entries : ℕ → Kind → List Entry
rest_entries zero Plain = []
rest_entries n kind = rests n kind ∷ []

abbrev pub entries : PartialDuty → List Entry
entries [] = []
entries (step ∷ before) =
    entries before ++ (wait_entries step.stay.ready ++ (rest_entries step.stay.off step.stay.kind ++ acts step.act ∷ []))

-- the last of a list with one more, and the rest of it
pub snoc-same : {X : Type 0} (xs ys : List X) (x y : X) → xs ++ x ∷ [] ≡ ys ++ y ∷ [] → (xs ≡ ys) × (x ≡ y)
snoc-same [] [] x y e = (refl, ap (λ zs. get_or zs 0 x) e)
snoc-same [] (v ∷ ys) x y e =
    let short : 1 ≡ suc (length (ys ++ y ∷ [])) = ap length e in absurd (omega (arith, short, length-append ys (y ∷ [])))
snoc-same (u ∷ xs) [] x y e =
    let short : suc (length (xs ++ x ∷ [])) ≡ 1 = ap length e in absurd (omega (arith, short, length-append xs (x ∷ [])))
snoc-same (u ∷ xs) (v ∷ ys) x y e =
    let more = snoc-same xs ys x y (ap (drop 1) e) in
    let head : u ≡ v = ap (λ zs. get_or zs 0 u) e in
    (ap (λ zs. u ∷ zs) more.0 ∙ ap (λ z. z ∷ ys) head, more.1)

-- a number for each sort of entry, and that of the last entry
abbrev sort_of : Entry → ℕ
sort_of (waits n) = 0
sort_of (rests n kind) = 1
sort_of (acts act) = 2

abbrev last_sort : List Entry → ℕ
last_sort [] = 2
last_sort (e ∷ []) = sort_of e
last_sort (e ∷ next ∷ es) = last_sort (next ∷ es)

last-of : (es : List Entry) (e : Entry) → last_sort (es ++ e ∷ []) ≡ sort_of e
last-of [] e = refl
last-of (d ∷ []) e = refl
last-of (d ∷ next ∷ es) e = last-of (next ∷ es) e

step-entries : (step : Step) (before : PartialDuty)
    → entries (step ∷ before) ≡ ((entries before ++ wait_entries step.stay.ready) ++ rest_entries step.stay.off step.stay.kind) ++ acts step.act ∷ []
step-entries step before =
    sym (append_assoc (entries before ++ wait_entries step.stay.ready) (rest_entries step.stay.off step.stay.kind) (acts step.act ∷ [])
    ∙ append_assoc (entries before) (wait_entries step.stay.ready) (rest_entries step.stay.off step.stay.kind ++ acts step.act ∷ []))

-- before a stay stands nothing or an act
ends-in-act : (before : PartialDuty) → last_sort (entries before) ≡ 2
ends-in-act [] = refl
ends-in-act (step ∷ before) =
    ap last_sort (step-entries step before)
    ∙ last-of ((entries before ++ wait_entries step.stay.ready) ++ rest_entries step.stay.off step.stay.kind) (acts step.act)

-- before an off run stands none
no-rest : (before : PartialDuty) (n : ℕ) → last_sort (entries before ++ wait_entries n) ≢ 1
no-rest before zero e =
    let act : 2 ≡ 1 = sym (ends-in-act before) ∙ ap last_sort (sym (append-nil (entries before))) ∙ e in omega (arith, act)
no-rest before (suc n) e =
    let wait : 0 ≡ 1 = sym (last-of (entries before) (waits (suc n))) ∙ e in omega (arith, wait)

-- what an entry has, or something else
abbrev act_or : Act → Entry → Act
act_or other (acts act) = act
act_or other _ = other

abbrev minutes_or : ℕ → Entry → ℕ
minutes_or other (waits n) = n
minutes_or other (rests n kind) = n
minutes_or other _ = other

abbrev kind_or : Kind → Entry → Kind
kind_or other (rests n kind) = kind
kind_or other _ = other

-- entries before a wait, and the wait
same-waits : (xs ys : List Entry) (m n : ℕ) → last_sort xs ≡ 2 → last_sort ys ≡ 2 → xs ++ wait_entries m ≡ ys ++ wait_entries n → (xs ≡ ys) × (m ≡ n)
same-waits xs ys zero zero p q e = (sym (append-nil xs) ∙ e ∙ append-nil ys, refl)
same-waits xs ys (suc m) (suc n) p q e =
    let two = snoc-same xs ys (waits (suc m)) (waits (suc n)) e in (two.0, ap (minutes_or 0) two.1)
same-waits xs ys zero (suc n) p q e =
    let act : 2 ≡ 0 = sym p ∙ ap last_sort (sym (append-nil xs) ∙ e) ∙ last-of ys (waits (suc n)) in absurd (omega (arith, act))
same-waits xs ys (suc m) zero p q e =
    let act : 0 ≡ 2 = sym (last-of xs (waits (suc m))) ∙ ap last_sort (e ∙ append-nil ys) ∙ q in absurd (omega (arith, act))

-- an off run is told, or it is none
rest-told : (n : ℕ) (kind : Kind) → ((n ≡ 0) × (kind ≡ Plain) × (rest_entries n kind ≡ [])) ⊎ (rest_entries n kind ≡ rests n kind ∷ [])
rest-told zero Plain = inl (refl, refl, refl)
rest-told zero Daily = inr refl
rest-told zero Weekly = inr refl
rest-told (suc n) kind = inr refl

-- entries before an off run, and the off run
pub record SameRest (xs ys : List Entry) (m n : ℕ) (first other : Kind) : Type 0 where
  pub before : xs ≡ ys
  pub off : m ≡ n
  pub kind : first ≡ other

same-rests : (xs ys : List Entry) (m n : ℕ) (kind other : Kind) → last_sort xs ≢ 1 → last_sort ys ≢ 1
    → xs ++ rest_entries m kind ≡ ys ++ rest_entries n other → SameRest xs ys m n kind other
same-rests xs ys m n kind other p q e = elim (rest-told m kind) [
  | inl none ↦ elim (rest-told n other) [
    | inl bare ↦ record {
      before = sym (append-nil xs) ∙ (ap (λ t. xs ++ t) (sym none.2) ∙ e ∙ ap (λ t. ys ++ t) bare.2) ∙ append-nil ys;
      off = none.0 ∙ sym bare.0;
      kind = none.1 ∙ sym bare.1;
    }
    | inr some ↦ absurd (p (ap last_sort (sym (append-nil xs) ∙ (ap (λ t. xs ++ t) (sym none.2) ∙ e ∙ ap (λ t. ys ++ t) some)) ∙ last-of ys (rests n other)))
  ]
  | inr some ↦ elim (rest-told n other) [
    | inl bare ↦ absurd (q (ap last_sort (sym (append-nil ys) ∙ (ap (λ t. ys ++ t) (sym bare.2) ∙ sym e ∙ ap (λ t. xs ++ t) some)) ∙ last-of xs (rests m kind)))
    | inr more ↦
        let two = snoc-same xs ys (rests m kind) (rests n other) (ap (λ t. xs ++ t) (sym some) ∙ e ∙ ap (λ t. ys ++ t) more) in record {
          before = two.0;
          off = ap (minutes_or 0) two.1;
          kind = ap (kind_or Plain) two.1;
        }
  ]
]

same-step : (a b : Step) → a.stay.ready ≡ b.stay.ready → a.stay.off ≡ b.stay.off → a.stay.kind ≡ b.stay.kind → a.act ≡ b.act → a ≡ b
same-step a b ready off kind act =
    let with : ℕ → ℕ → Kind → Act → Step = λ r o k t. record { stay = record { ready = r; off = o; kind = k }; act = t } in
    ap (λ r. with r a.stay.off a.stay.kind a.act) ready ∙ ap (λ o. with b.stay.ready o a.stay.kind a.act) off
    ∙ ap (λ k. with b.stay.ready b.stay.off k a.act) kind ∙ ap (λ t. with b.stay.ready b.stay.off b.stay.kind t) act

-- the entries of a duty say its steps
pub entries-say : (one two : PartialDuty) → entries one ≡ entries two → one ≡ two
entries-say [] [] e = refl
entries-say [] (step ∷ two) e =
    let short : 0 ≡ length (((entries two ++ wait_entries step.stay.ready) ++ rest_entries step.stay.off step.stay.kind) ++ acts step.act ∷ []) =
    ap length (e ∙ step-entries step two) in
    absurd (omega (arith, short, length-append ((entries two ++ wait_entries step.stay.ready) ++ rest_entries step.stay.off step.stay.kind) (acts step.act ∷ [])))
entries-say (step ∷ one) [] e =
    let short : length (((entries one ++ wait_entries step.stay.ready) ++ rest_entries step.stay.off step.stay.kind) ++ acts step.act ∷ []) ≡ 0 =
    ap length (sym (step-entries step one) ∙ e) in
    absurd (omega (arith, short, length-append ((entries one ++ wait_entries step.stay.ready) ++ rest_entries step.stay.off step.stay.kind) (acts step.act ∷ [])))
entries-say (a ∷ one) (b ∷ two) e =
    let last = snoc-same ((entries one ++ wait_entries a.stay.ready) ++ rest_entries a.stay.off a.stay.kind) ((entries two ++ wait_entries b.stay.ready) ++ rest_entries b.stay.off b.stay.kind)
    (acts a.act) (acts b.act) (sym (step-entries a one) ∙ e ∙ step-entries b two) in
    let rest = same-rests (entries one ++ wait_entries a.stay.ready) (entries two ++ wait_entries b.stay.ready) a.stay.off b.stay.off a.stay.kind b.stay.kind
    (no-rest one a.stay.ready) (no-rest two b.stay.ready) last.0 in
    let wait = same-waits (entries one) (entries two) a.stay.ready b.stay.ready (ends-in-act one) (ends-in-act two) rest.before in
    ap (λ before. a ∷ before) (entries-say one two wait.0)
    ∙ ap (λ step. step ∷ two) (same-step a b wait.1 rest.off rest.kind (ap (act_or a.act) last.1))
