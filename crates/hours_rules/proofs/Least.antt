-- The least room of all rules, from the rooms of some, and the first rule that has it.
use Rattle.std.proofs.Common.{◌≡◌, ℕ, ◌+◌, ◌≤◌, ◌<◌, Bool, true, false, List, [], ◌∷◌, length, refl, arith, min, drop, get_or, add-one, drop-cons, leb, find, Some, None}
use Rattle.std.proofs.Math.Nat.{le-min, min-le_left, min-le_right}
use Rattle.std.proofs.lemmas.List.{drop_all}
use Rattle.minute_line.specs.declared.marks.Mark.{Mark}
use Rattle.minute_line.specs.declared.marks.Mark.TheVariants.{Drive, Work, Ready, Off}
use Rattle.minute_line.specs.declared.marks.Kind.{Kind}
use Rattle.minute_line.specs.declared.marks.Kind.TheVariants.{Plain}
use Rattle.minute_line.specs.Marks.{is_working, is_drive}
use Rattle.hours_rules.specs.declared.clocks.Clock.{Clock}
use Rattle.hours_rules.specs.declared.rules.Rule.{Rule}
use Rattle.hours_rules.specs.declared.rules.Rule.TheVariants.{H1, H2, H3, H4, H5, H6, H7, H8, H9, H10, H11, H12}
use Rattle.hours_rules.specs.Machine.{room, least_room, fault_after, IsDutyRoom, work_room, drive_room}
use Rattle.hours_rules.specs.Rules.{all_rules}
use Rattle.hours_rules.proofs.Faults.{least_room-le, least_room-at_most}

-- a number that is no more than any room is no more than the least one
greatest : (f : Rule → ℕ) (n k : ℕ) (rs : List Rule) → k ≤ n → ((r : Rule) → k ≤ f r) → k ≤ least_room f n rs
greatest f n k [] h g = h
greatest f n k (r ∷ rs) h g = le-min (g r) (greatest f n k rs h g)

-- and it is the least one, where it is no less
least_is : (f : Rule → ℕ) (n k : ℕ) → k ≤ n → ((r : Rule) → k ≤ f r) → least_room f n all_rules ≤ k → k ≡ least_room f n all_rules
least_is f n k h g l = let m : k ≤ least_room f n all_rules = greatest f n k all_rules h g in omega arith

pub find_skip : (p : Rule → Bool) (rs : List Rule) (i : ℕ) (d : Rule) → i < length rs → p (get_or rs i d) ≡ false →
    find p (drop (i + 1) rs) ≡ find p (drop i rs)
find_skip p rs i d h f =
    let e : drop i rs ≡ get_or rs i d ∷ drop (i + 1) rs = rw add-one (drop-cons rs i d h) in rw (e, f) refl

pub find_hit : (p : Rule → Bool) (rs : List Rule) (i : ℕ) (d : Rule) → i < length rs → p (get_or rs i d) ≡ true →
    find p (drop i rs) ≡ Some (get_or rs i d)
find_hit p rs i d h f =
    let e : drop i rs ≡ get_or rs i d ∷ drop (i + 1) rs = rw add-one (drop-cons rs i d h) in rw (e, f) refl

pub find_end : (p : Rule → Bool) (rs : List Rule) (i : ℕ) → length rs ≤ i → find p (drop i rs) ≡ None
find_end p rs i h = rw (drop_all i rs h) refl

pub after_found : (f : Rule → ℕ) (at least : ℕ) (r : Rule) → find (λ rule. leb (f rule) least) all_rules ≡ Some r →
    fault_after f at least ≡ Some (record { rule = r; minute = at + least })
after_found f at least r h = rw h refl

pub after_none : (f : Rule → ℕ) (at least : ℕ) → find (λ rule. leb (f rule) least) all_rules ≡ None → fault_after f at least ≡ None
after_none f at least h = rw h refl

trans : {a b c : ℕ} → a ≤ b → b ≤ c → a ≤ c
trans g h = omega arith

least_of_three : (a b c : ℕ) → (min (min a b) c ≤ a) × (min (min a b) c ≤ b) × (min (min a b) c ≤ c)
least_of_three a b c = (omega arith, omega arith, omega arith)

least_of_four : (a b c d : ℕ) →
    (min (min (min a b) c) d ≤ a) × (min (min (min a b) c) d ≤ b) × (min (min (min a b) c) d ≤ c) × (min (min (min a b) c) d ≤ d)
least_of_four a b c d = (omega arith, omega arith, omega arith, omega arith)

-- a number that is no more than the room by each rule
record Within (f : Rule → ℕ) (k : ℕ) : Type 0 where
  h1 : k ≤ f H1
  h2 : k ≤ f H2
  h3 : k ≤ f H3
  h4 : k ≤ f H4
  h5 : k ≤ f H5
  h6 : k ≤ f H6
  h7 : k ≤ f H7
  h8 : k ≤ f H8
  h9 : k ≤ f H9
  h10 : k ≤ f H10
  h11 : k ≤ f H11
  h12 : k ≤ f H12

each : (f : Rule → ℕ) (k : ℕ) → Within f k → (r : Rule) → k ≤ f r
each f k w H1 = w.h1
each f k w H2 = w.h2
each f k w H3 = w.h3
each f k w H4 = w.h4
each f k w H5 = w.h5
each f k w H6 = w.h6
each f k w H7 = w.h7
each f k w H8 = w.h8
each f k w H9 = w.h9
each f k w H10 = w.h10
each f k w H11 = w.h11
each f k w H12 = w.h12

-- the least room is no more than that of the rules that are judged at each on-duty minute
below_duty : (c e : Clock) (mark : Mark) (kind : Kind) (n d : ℕ) → n ≤ 20000 → IsDutyRoom c e kind d →
    least_room (room c e mark kind) n all_rules ≤ min n d
below_duty c e mark kind n d s r =
    let f = room c e mark kind in
    let top = least_room-at_most f n all_rules in
    le-min top ((r (least_room f n all_rules) (trans top s)).1 (least_room-le f n H3, least_room-le f n H4, least_room-le f n H5, least_room-le f n H6, least_room-le f n H12))

-- and that is no more than the room by each of them
within_duty : (c e : Clock) (kind : Kind) (n d k : ℕ) → n ≤ 20000 → IsDutyRoom c e kind d → k ≤ min n d →
    (k ≤ 20000) × (k ≤ room c e Ready kind H3) × (k ≤ room c e Ready kind H4) × (k ≤ room c e Ready kind H5) × (k ≤ room c e Ready kind H6)
    × (k ≤ room c e Ready kind H12)
within_duty c e kind n d k s r h =
    let small : k ≤ 20000 = trans (trans h (min-le_left n d)) s in
    let five = (r k small).0 (trans h (min-le_right n d)) in (small, five.0, five.1, five.2, five.3, five.4)

pub least_duty : (c e : Clock) (mark : Mark) (kind : Kind) (n d : ℕ) → is_working mark ≡ false → n ≤ 20000 →
    IsDutyRoom c e kind d → min n d ≡ least_room (room c e mark kind) n all_rules
least_duty c e Drive kind n d h s r = cc
least_duty c e Work kind n d h s r = cc
least_duty c e Ready kind n d h s r =
    let k = min n d in
    let w = within_duty c e kind n d k s r (omega arith) in
    least_is (room c e Ready kind) n k (min-le_left n d)
    (each (room c e Ready kind) k (record { h1 = w.0; h2 = w.0; h3 = w.1; h4 = w.2; h5 = w.3; h6 = w.4; h7 = w.0; h8 = w.0; h9 = w.0; h10 = w.0; h11 = w.0; h12 = w.5 }))
    (below_duty c e Ready kind n d s r)
least_duty c e Off kind n d h s r =
    let k = min n d in
    let w = within_duty c e kind n d k s r (omega arith) in
    least_is (room c e Off kind) n k (min-le_left n d)
    (each (room c e Off kind) k (record { h1 = w.0; h2 = w.0; h3 = w.1; h4 = w.2; h5 = w.3; h6 = w.4; h7 = w.0; h8 = w.0; h9 = w.0; h10 = w.0; h11 = w.0; h12 = w.5 }))
    (below_duty c e Off kind n d s r)

below_work : (c e : Clock) (mark : Mark) (kind : Kind) (n : ℕ) → is_working mark ≡ true →
    least_room (room c e mark kind) n all_rules ≤ work_room e
below_work c e Off kind n h = cc
below_work c e Ready kind n h = cc
below_work c e Drive kind n h =
    let f = room c e Drive kind in le-min (le-min (least_room-le f n H9) (least_room-le f n H10)) (least_room-le f n H11)
below_work c e Work kind n h =
    let f = room c e Work kind in le-min (le-min (least_room-le f n H9) (least_room-le f n H10)) (least_room-le f n H11)

within_work : (e : Clock) (k : ℕ) → k ≤ work_room e →
    (k ≤ room e e Work Plain H9) × (k ≤ room e e Work Plain H10) × (k ≤ room e e Work Plain H11)
within_work e k h =
    let three = least_of_three (room e e Work Plain H9) (room e e Work Plain H10) (room e e Work Plain H11) in
    (trans h three.0, trans h three.1, trans h three.2)

within_drive : (e : Clock) (k : ℕ) → k ≤ drive_room e →
    (k ≤ room e e Drive Plain H1) × (k ≤ room e e Drive Plain H2) × (k ≤ room e e Drive Plain H7) × (k ≤ room e e Drive Plain H8)
within_drive e k h =
    let four = least_of_four (room e e Drive Plain H1) (room e e Drive Plain H2) (room e e Drive Plain H7) (room e e Drive Plain H8) in
    (trans h four.0, trans h four.1, trans h four.2, trans h four.3)

pub least_work : (c e : Clock) (mark : Mark) (kind : Kind) (n d : ℕ) → is_working mark ≡ true → is_drive mark ≡ false → n ≤ 20000 →
    IsDutyRoom c e kind d → min (min n d) (work_room e) ≡ least_room (room c e mark kind) n all_rules
least_work c e Drive kind n d h g s r = cc
least_work c e Ready kind n d h g s r = cc
least_work c e Off kind n d h g s r = cc
least_work c e Work kind n d h g s r =
    let k = min (min n d) (work_room e) in
    let low : k ≤ min n d = min-le_left (min n d) (work_room e) in
    let w = within_duty c e kind n d k s r low in
    let v = within_work e k (min-le_right (min n d) (work_room e)) in
    least_is (room c e Work kind) n k (trans low (min-le_left n d))
    (each (room c e Work kind) k (record { h1 = w.0; h2 = w.0; h3 = w.1; h4 = w.2; h5 = w.3; h6 = w.4; h7 = w.0; h8 = w.0; h9 = v.0; h10 = v.1; h11 = v.2; h12 = w.5 }))
    (le-min (below_duty c e Work kind n d s r) (below_work c e Work kind n h))

pub least_drive : (c e : Clock) (mark : Mark) (kind : Kind) (n d : ℕ) → is_drive mark ≡ true → n ≤ 20000 →
    IsDutyRoom c e kind d → min (min (min n d) (work_room e)) (drive_room e) ≡ least_room (room c e mark kind) n all_rules
least_drive c e Work kind n d h s r = cc
least_drive c e Ready kind n d h s r = cc
least_drive c e Off kind n d h s r = cc
least_drive c e Drive kind n d h s r =
    let f = room c e Drive kind in
    let k = min (min (min n d) (work_room e)) (drive_room e) in
    let most : k ≤ min (min n d) (work_room e) = min-le_left (min (min n d) (work_room e)) (drive_room e) in
    let low : k ≤ min n d = trans most (min-le_left (min n d) (work_room e)) in
    let w = within_duty c e kind n d k s r low in
    let v = within_work e k (trans most (min-le_right (min n d) (work_room e))) in
    let u = within_drive e k (min-le_right (min (min n d) (work_room e)) (drive_room e)) in
    least_is f n k (trans low (min-le_left n d))
    (each f k (record { h1 = u.0; h2 = u.1; h3 = w.1; h4 = w.2; h5 = w.3; h6 = w.4; h7 = u.2; h8 = u.3; h9 = v.0; h10 = v.1; h11 = v.2; h12 = w.5 }))
    (le-min (le-min (below_duty c e Drive kind n d s r) (below_work c e Drive kind n refl))
    (le-min (le-min (le-min (least_room-le f n H1) (least_room-le f n H2)) (least_room-le f n H7)) (least_room-le f n H8)))
