-- Where a span begins.
use Rattle.std.proofs.Common.{◌≡◌, Bool, true, false, [], ◌∷◌, ◌++◌, length, refl, ap, sym, ◌∙◌, arith, inl, inr, ◌⊎◌, length-append}
use Rattle.minute_line.specs.Minutes.{Minute, Minutes}
use Rattle.hours_rules.specs.Counts.{since}
use Rattle.hours_rules.specs.Laws.{SpanBegins, SpansBegin}

not_empty : {A : Type 0} (later : Minutes) (m : Minute) (before : Minutes) → [] ≡ later ++ m ∷ before → A
not_empty [] m before e = cc
not_empty (y ∷ later) m before e = cc

no_span : (begins : Minute → Minutes → Bool) (line : Minutes) → since begins line ≡ [] → line ≡ []
no_span begins [] e = refl
no_span begins (m ∷ before) e = cc

pub spans_begin : SpansBegin
spans_begin begins [] = record {
  earlier = [];
  is = refl;
  some = λ e. refl;
  inside = λ later m x before e. not_empty later m (x ∷ before) e;
  starts = λ later m e. inl refl;
}
spans_begin begins (m0 ∷ line) = by_test (begins m0 line) refl (spans_begin begins line)
  where
    first_inside : since begins (m0 ∷ line) ≡ m0 ∷ [] → (later : Minutes) (m x : Minute) (before : Minutes) →
        since begins (m0 ∷ line) ≡ later ++ m ∷ (x ∷ before) → begins m ((x ∷ before) ++ line) ≡ false
    first_inside one later m x before e =
        absurd (omega (arith, ap length (sym one ∙ e), length-append later (m ∷ (x ∷ before))))

    first_begins : begins m0 line ≡ true → since begins (m0 ∷ line) ≡ m0 ∷ [] → (later : Minutes) (m : Minute) →
        since begins (m0 ∷ line) ≡ later ++ m ∷ [] → (line ≡ []) ⊎ (begins m line ≡ true)
    first_begins t one [] m e = let same : m0 ≡ m = let both : m0 ∷ [] ≡ m ∷ [] = sym one ∙ e in cc in inr (rw (← same) t)
    first_begins t one (y ∷ later) m e =
        absurd (omega (arith, ap length (sym one ∙ e), length-append later (m ∷ [])))

    later_inside : begins m0 line ≡ false → since begins (m0 ∷ line) ≡ m0 ∷ since begins line → (d : SpanBegins begins line) →
        (later : Minutes) (m x : Minute) (before : Minutes) →
        since begins (m0 ∷ line) ≡ later ++ m ∷ (x ∷ before) → begins m ((x ∷ before) ++ d.earlier) ≡ false
    later_inside t one d [] m x before e =
        let both : m0 ∷ since begins line ≡ m ∷ (x ∷ before) = sym one ∙ e in
        let same : m0 ≡ m = cc in
        let rest : since begins line ≡ x ∷ before = cc in
        let back : (x ∷ before) ++ d.earlier ≡ line = ap (λ (w : Minutes). w ++ d.earlier) (sym rest) ∙ sym d.is in
        ap (λ (k : Minutes). begins m k) back ∙ ap (λ (z : Minute). begins z line) (sym same) ∙ t
    later_inside t one d (y ∷ later) m x before e =
        let both : m0 ∷ since begins line ≡ y ∷ (later ++ m ∷ (x ∷ before)) = sym one ∙ e in
        let rest : since begins line ≡ later ++ m ∷ (x ∷ before) = cc in d.inside later m x before rest

    later_begins : since begins (m0 ∷ line) ≡ m0 ∷ since begins line → (d : SpanBegins begins line) → (later : Minutes) (m : Minute) →
        since begins (m0 ∷ line) ≡ later ++ m ∷ [] → (d.earlier ≡ []) ⊎ (begins m d.earlier ≡ true)
    later_begins one d [] m e =
        let both : m0 ∷ since begins line ≡ m ∷ [] = sym one ∙ e in
        let rest : since begins line ≡ [] = cc in
        let empty : line ≡ [] = no_span begins line rest in
        let all : line ≡ since begins line ++ d.earlier = d.is in
        inl (rw rest at (sym all) ∙ empty)
    later_begins one d (y ∷ later) m e =
        let both : m0 ∷ since begins line ≡ y ∷ (later ++ m ∷ []) = sym one ∙ e in
        let rest : since begins line ≡ later ++ m ∷ [] = cc in d.starts later m rest

    by_test : (b : Bool) → begins m0 line ≡ b → SpanBegins begins line → SpanBegins begins (m0 ∷ line)
    by_test true t d =
        let one : since begins (m0 ∷ line) ≡ m0 ∷ [] = rw t refl in record {
          earlier = line;
          is = sym (ap (λ (w : Minutes). w ++ line) one);
          inside = first_inside one;
          some = no_span begins (m0 ∷ line);
          starts = first_begins t one;
        }
    by_test false t d =
        let one : since begins (m0 ∷ line) ≡ m0 ∷ since begins line = rw t refl in record {
          earlier = d.earlier;
          is = ap (λ (x : Minutes). m0 ∷ x) d.is ∙ sym (ap (λ (w : Minutes). w ++ d.earlier) one);
          inside = later_inside t one d;
          some = no_span begins (m0 ∷ line);
          starts = later_begins one d;
        }
