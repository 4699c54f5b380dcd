-- What a seat keeps after it gave a chunk.
use Rattle.std.proofs.Common.{◌≡◌, ◌≢◌, ℕ, suc, ◌+◌, ◌-◌, ◌<◌, ◌≤◌, eqb, ltb, cond, List, [], ◌∷◌, ◌++◌, length, get_or, sym, ap, subst, ◌∙◌, refl, arith, length-append}
use Rattle.std.specs.Prelude.{Option, None, Some}
use Rattle.std.proofs.lemmas.Bool.Decides.{nat_tests}
use Rattle.atomic_table.specs.Table.{rest}
use Rattle.label_arena.specs.Counting.{times, top, without}
use Rattle.label_arena.specs.Rule.{Seated}
use Rattle.label_arena.specs.Holding.{numbers, held_of, AreEmptied, HoldsSeat, turned_by}
use Rattle.label_arena.proofs.Counts.{times_snoc, times_self, times_else}
use Rattle.label_arena.proofs.Rows.{Cut, length-numbers, cut_at, turned_to, turned_back}

without_self : (n : ℕ) (xs : List ℕ) → without n (n ∷ xs) ≡ xs
without_self n xs = grind (arith, nat_tests)

without_else : (n k : ℕ) (xs : List ℕ) → n ≢ k → without n (k ∷ xs) ≡ k ∷ without n xs
without_else n k xs ne = grind (arith, nat_tests)

apart : (n k : ℕ) (xs : List ℕ) → times n (xs ++ k ∷ []) ≡ 0 → n ≢ k
apart n k xs none = let sum = times_snoc n k xs in λ e. absurd (grind (arith, nat_tests))

module _ (T : Type 0) where
  abbrev Slots : Type 0
  Slots = List (ℕ × Option (List T))

  pub held_in : (n : ℕ) (xs : Slots) → times n (held_of xs) ≤ times n (numbers xs)
  held_in n [] = omega arith
  held_in n ((k, None) ∷ xs) = let rest = held_in n xs in let sum = times_snoc n k (numbers xs) in omega arith
  held_in n ((k, Some c) ∷ xs) = let rest = held_in n xs in let sum = times_snoc n k (numbers xs) in omega arith

  numbers_same : (before after : Slots) (n : ℕ) (y z : Option (List T)) → numbers (before ++ (n, y) ∷ after) ≡ numbers (before ++ (n, z) ∷ after)
  numbers_same [] after n y z = refl
  numbers_same (x ∷ before) after n y z = ap (λ (l : List ℕ). l ++ x.0 ∷ []) (numbers_same before after n y z)

  times_parts : (x : ℕ) (before after : Slots) (n : ℕ) (y : Option (List T)) → times x (numbers (before ++ (n, y) ∷ after)) ≡ times x (numbers before) + (cond (eqb x n) 1 0 + times x (numbers after))
  times_parts x [] after n y = let sum = times_snoc x n (numbers after) in omega arith
  times_parts x (b ∷ before) after n y =
      let rest = times_parts x before after n y in let one = times_snoc x b.0 (numbers before) in
      let all = times_snoc x b.0 (numbers (before ++ (n, y) ∷ after)) in omega arith

  emptied : (before after : Slots) (n : ℕ) (y : Option (List T)) → AreEmptied (before ++ (n, y) ∷ after) → AreEmptied (before ++ (n, Some []) ∷ after)
  emptied [] after n y each = (refl, each.1)
  emptied (x ∷ before) after n y each = (each.0, emptied before after n y each.1)

  held_after : (before after : Slots) (n : ℕ) (y : Option (List T)) → times n (numbers before) ≡ 0 → times n (numbers after) ≡ 0 → 0 < times n (held_of (before ++ (n, y) ∷ after))
      → held_of (before ++ (n, Some []) ∷ after) ≡ without n (held_of (before ++ (n, y) ∷ after))
  held_after [] after n None bare bare' pos = sym (without_self n (held_of after))
  held_after [] after n (Some c) bare bare' pos = absurd (let most = held_in n after in omega arith)
  held_after ((k, None) ∷ before) after n y bare bare' pos =
      let ne = apart n k (numbers before) bare in let sum = times_snoc n k (numbers before) in
      let less = times_else n k (held_of (before ++ (n, y) ∷ after)) ne in
      ap (λ (l : List ℕ). k ∷ l) (held_after before after n y (omega arith) bare' (omega arith)) ∙ sym (without_else n k (held_of (before ++ (n, y) ∷ after)) ne)
  held_after ((k, Some c) ∷ before) after n y bare bare' pos = let sum = times_snoc n k (numbers before) in held_after before after n y (omega arith) bare' pos

  -- the seat has the slot of the number with an empty chunk in it
  pub seat_given : (me me' : Seated T) (order : List ℕ) (slots room turns n : ℕ) → HoldsSeat me order slots room → (cut : Cut (Option (List T)) me.1 turns n) → 0 < times n (held_of me.1)
      → me' ≡ (me.0, cut.before ++ (n, Some []) ∷ cut.after) → HoldsSeat me' order slots room × (held_of me'.1 ≡ without n (held_of me.1))
  seat_given me me' order slots room turns n h cut pos is =
      let row : me'.1 ≡ cut.before ++ (n, Some []) ∷ cut.after = ap (λ m. m.1) is in
      let view : me'.0 ≡ me.0 = ap (λ m. m.0) is in
      let same : numbers me'.1 ≡ numbers me.1 = ap numbers row ∙ (numbers_same cut.before cut.after n (Some []) cut.value ∙ ap numbers (sym cut.whole)) in
      let parts : times n (numbers me.1) ≡ times n (numbers cut.before) + (cond (eqb n n) 1 0 + times n (numbers cut.after)) = ap (λ l. times n (numbers l)) cut.whole ∙ times_parts n cut.before cut.after n cut.value in
      let own = h.own n in let once = h.once n in
      let one = times_self n (numbers cut.after) in
      let most : times n (numbers me.1) ≤ 1 = grind (arith, nat_tests) in (
        record {
          one_part = ap (λ v. v.parts) view ∙ h.one_part;
          away = ap (λ v. v.has_returned) view ∙ h.away;
          seat = ap (λ v. v.is_rest) view ∙ h.seat;
          in_order = h.in_order ∙ sym same;
          roomy = h.roomy;
          short = subst (λ v. length order ≤ top v.drawn) (sym view) h.short;
          once = λ x. subst (λ v. times x v.drawn ≤ 1) (sym view) (h.once x);
          own = λ x. ap (times x) same ∙ (h.own x ∙ ap (λ v. cond (ltb x slots) (times x v.drawn) 0) (sym view));
          empty = subst AreEmptied (sym row) (emptied cut.before cut.after n cut.value (subst AreEmptied cut.whole h.empty));
        },
        ap held_of row ∙ (held_after cut.before cut.after n cut.value (omega arith) (omega arith) (subst (λ l. 0 < times n (held_of l)) cut.whole pos) ∙ ap (λ l. without n (held_of l)) (sym cut.whole)),
      )

  -- the row, cut at the slot of the number
  cut_of : (me : Seated T) (order : List ℕ) (slots room after n : ℕ) → HoldsSeat me order slots room → after < length order → get_or order (length order - 1 - after) 0 ≡ n → Cut (Option (List T)) me.1 after n
  cut_of me order slots room after n h below is =
      let long : length order ≡ length me.1 = ap length h.in_order ∙ length-numbers (Option (List T)) me.1 in
      cut_at (Option (List T)) me.1 after (length order - 1 - after) n (omega arith) (subst (λ l. get_or l (length order - 1 - after) 0 ≡ n) h.in_order is)

  -- the number of a chunk that the seat holds is among the numbers of its slots
  pub in_order : (me : Seated T) (order : List ℕ) (slots room n : ℕ) → HoldsSeat me order slots room → 0 < times n (held_of me.1) → 0 < times n order
  in_order me order slots room n h pos = let least = held_in n me.1 in subst (λ l. 0 < times n l) (sym h.in_order) (omega arith)

  -- after that many turns the slot of the number is the first
  pub reaches : (me first : Seated T) (order : List ℕ) (slots room after n : ℕ) → HoldsSeat me order slots room → after < length order → get_or order (length order - 1 - after) 0 ≡ n
      → first ≡ (me.0, turned_by after me.1) → (value : Option (List T)) × (first.1 ≡ (n, value) ∷ rest first.1)
  reaches me first order slots room after n h below is turned =
      let cut = cut_of me order slots room after n h below is in
      let row : first.1 ≡ (n, cut.value) ∷ (cut.after ++ cut.before) = ap (λ m. m.1) turned ∙ turned_to (Option (List T)) me.1 after n cut in
      (cut.value, row ∙ ap (λ l. (n, cut.value) ∷ rest l) (sym row))

  -- the row is turned to the slot, an empty chunk is put there, and the row is turned on until it stands as before
  pub gives : (me first given last : Seated T) (order : List ℕ) (slots room after turns n : ℕ) → HoldsSeat me order slots room → after < length order → get_or order (length order - 1 - after) 0 ≡ n
      → 0 < times n (held_of me.1) → first ≡ (me.0, turned_by after me.1) → given ≡ (first.0, (n, Some []) ∷ rest first.1) → turns + after ≡ length order
      → last ≡ (given.0, turned_by turns given.1) → HoldsSeat last order slots room × (held_of last.1 ≡ without n (held_of me.1))
  gives me first given last order slots room after turns n h below is pos to put count back =
      let cut = cut_of me order slots room after n h below is in
      let long : length order ≡ length me.1 = ap length h.in_order ∙ length-numbers (Option (List T)) me.1 in
      let row : rest first.1 ≡ cut.after ++ cut.before = ap (λ m. rest m.1) to ∙ ap rest (turned_to (Option (List T)) me.1 after n cut) in
      let held : given.1 ≡ (n, Some []) ∷ (cut.after ++ cut.before) = ap (λ m. m.1) put ∙ ap (λ (l : List (ℕ × Option (List T))). (n, Some []) ∷ l) row in
      let parts : length me.1 ≡ length cut.before + suc (length cut.after) = ap length cut.whole ∙ length-append cut.before ((n, cut.value) ∷ cut.after) in
      let whole : turned_by turns given.1 ≡ cut.before ++ (n, Some []) ∷ cut.after =
      ap (turned_by turns) held ∙ turned_back (Option (List T)) cut.before cut.after n (Some []) turns (let before = cut.long in omega arith) in
      let view : given.0 ≡ me.0 = ap (λ m. m.0) put ∙ ap (λ m. m.0) to in
      seat_given me last order slots room after n h cut pos (back ∙ (ap (λ v. (v, turned_by turns given.1)) view ∙ ap (λ (l : List (ℕ × Option (List T))). (me.0, l)) whole))
