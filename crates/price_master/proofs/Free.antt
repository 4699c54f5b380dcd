-- The drivers that have no duty, and how many of a class there are.
use Rattle.std.proofs.Common.{◌≡◌, ◌≢◌, ◌⊎◌, inl, inr, ℕ, zero, suc, ◌+◌, ◌-◌, ◌*◌, ◌<◌, ◌≤◌, Bool, true, false, cond, eqb, List, length, get_or, set, refl, ap, sym, ◌∙◌, arith, get_or-set_same, get_or-set_other}
use Rattle.std.proofs.lemmas.Bool.Decides.{nat_tests}
use Rattle.duty_plan.proofs.Sums.{total-same}
use Rattle.price_master.specs.Classes.{free_of, is_home, sum_free, taken}
use Rattle.price_master.proofs.Lookups.{same-or-not}

-- a test of two numbers
pub same-tests : (a b : ℕ) → ((eqb a b ≡ true) × (a ≡ b)) ⊎ ((eqb a b ≡ false) × (a ≢ b))
same-tests a b = by_kind (same-or-not a b)
  where
    by_kind : (a ≡ b) ⊎ (a ≢ b) → ((eqb a b ≡ true) × (a ≡ b)) ⊎ ((eqb a b ≡ false) × (a ≢ b))
    by_kind (inl e) = inl (grind (arith, nat_tests), e)
    by_kind (inr d) = inr (grind (arith, nat_tests), d)

pub flag-on : (b : Bool) → b ≡ true → (let z : ℕ = cond b 1 0 in z ≡ 1)
flag-on true e = refl
flag-on false e = cc

pub flag-off : (b : Bool) → b ≡ false → (let z : ℕ = cond b 1 0 in z ≡ 0)
flag-off true e = cc
flag-off false e = refl

-- a sum has one term less where a driver takes a duty
pub free-less : (f : ℕ → ℕ) (places : List ℕ) (driver place n : ℕ) → driver < n → driver < length places → is_home places driver ≡ true →
    place ≢ 4294967295 → sum_free f places n ≡ f driver + sum_free f (set places driver place) n
free-less f places driver place zero l room home away = absurd (omega arith)
free-less f places driver place (suc n) l room home away = by_place (same-or-not driver n) (λ b. free-less f places driver place n b room home away)
  where
    gone : eqb place 4294967295 ≡ false
    gone = grind (arith, nat_tests)

    by_place : (driver ≡ n) ⊎ (driver ≢ n) → (driver < n → sum_free f places n ≡ f driver + sum_free f (set places driver place) n) →
        sum_free f places (suc n) ≡ f driver + sum_free f (set places driver place) (suc n)
    by_place (inr d) rest =
        let same : get_or (set places driver place) n 0 ≡ get_or places n 0 = get_or-set_other places driver n place 0 (λ e. d (sym e)) in
        let term : cond (is_home (set places driver place) n) (f n) 0 ≡ cond (is_home places n) (f n) 0 = ap (λ (x : ℕ). cond (eqb x 4294967295) (f n) 0) same in
        omega (arith, rest (omega arith), term)
    by_place (inl e) rest =
        let others : sum_free f (set places driver place) n ≡ sum_free f places n =
        total-same _ _ n (λ o b. ap (λ (x : ℕ). cond (eqb x 4294967295) (f o) 0) (get_or-set_other places driver o place 0 (λ s. absurd (omega arith)))) in
        let here : get_or (set places driver place) n 0 ≡ place = ap (λ (k : ℕ). get_or (set places driver place) k 0) (sym e) ∙ get_or-set_same places driver place 0 room in
        let none : cond (is_home (set places driver place) n) (f n) 0 ≡ 0 = ap (λ (x : ℕ). cond (eqb x 4294967295) (f n) 0) here ∙ ap (λ (b : Bool). cond b (f n) 0) gone in
        let mine : cond (is_home places n) (f n) 0 ≡ f driver = ap (λ (k : ℕ). cond (is_home places k) (f k) 0) (sym e) ∙ ap (λ (b : Bool). cond b (f driver) 0) home in
        omega (arith, others, none, mine)

-- where a sum is something a driver adds to it
pub free-some : (f : ℕ → ℕ) (places : List ℕ) (n : ℕ) → 1 ≤ sum_free f places n →
    (driver : ℕ) × (driver < n) × (is_home places driver ≡ true) × (1 ≤ f driver)
free-some f places zero some = absurd (omega arith)
free-some f places (suc n) some = by_home (is_home places n) refl (f n) refl (λ more. free-some f places n more)
  where
    by_home : (b : Bool) → is_home places n ≡ b → (t : ℕ) → f n ≡ t →
        (1 ≤ sum_free f places n → (driver : ℕ) × (driver < n) × (is_home places driver ≡ true) × (1 ≤ f driver)) →
        (driver : ℕ) × (driver < suc n) × (is_home places driver ≡ true) × (1 ≤ f driver)
    by_home true home (suc t) here rest = (n, omega arith, home, omega arith)
    by_home true home zero here rest =
        let nothing : cond (is_home places n) (f n) 0 ≡ 0 = ap (λ (b : Bool). cond b (f n) 0) home ∙ here in
        let more = rest (omega (arith, some, nothing)) in (more.0, omega (arith, more.1), more.2, more.3)
    by_home false home t here rest =
        let nothing : cond (is_home places n) (f n) 0 ≡ 0 = ap (λ (b : Bool). cond b (f n) 0) home in
        let more = rest (omega (arith, some, nothing)) in (more.0, omega (arith, more.1), more.2, more.3)

-- one number for each driver
pub free-times : (top : ℕ) (places : List ℕ) (n : ℕ) → sum_free (λ driver. top) places n ≡ sum_free (λ driver. 1) places n * top
free-times top places zero = omega arith
free-times top places (suc n) = by_home (is_home places n) refl (free-times top places n)
  where
    by_home : (b : Bool) → is_home places n ≡ b → sum_free (λ driver. top) places n ≡ sum_free (λ driver. 1) places n * top →
        sum_free (λ driver. top) places (suc n) ≡ sum_free (λ driver. 1) places (suc n) * top
    by_home true home rest = rw home (omega (arith, rest))
    by_home false home rest = rw home (omega (arith, rest))

-- ---- classes

pub taken-more : (f g : ℕ → ℕ) (class : ℕ) → ((c : ℕ) → f c ≤ g c) → (c : ℕ) → taken f class c ≤ taken g class c
taken-more f g class low c = by_test (eqb c class)
  where
    by_test : (b : Bool) → cond b (f c - 1) (f c) ≤ cond b (g c - 1) (g c)
    by_test true = omega (arith, low c)
    by_test false = low c

-- a driver of the class takes a duty
pub free-taken : (classes places : List ℕ) (class driver place n : ℕ) → driver < n → driver < length places → is_home places driver ≡ true →
    place ≢ 4294967295 → get_or classes driver 0 ≡ class →
    (c : ℕ) → free_of classes (set places driver place) n c ≡ taken (free_of classes places n) class c
free-taken classes places class driver place n l room home away is c = by_test (same-tests c class)
  where
    less : free_of classes places n c ≡ cond (eqb (get_or classes driver 0) c) 1 0 + free_of classes (set places driver place) n c
    less = free-less (λ d. cond (eqb (get_or classes d 0) c) 1 0) places driver place n l room home away

    by_test : ((eqb c class ≡ true) × (c ≡ class)) ⊎ ((eqb c class ≡ false) × (c ≢ class)) →
        free_of classes (set places driver place) n c ≡ taken (free_of classes places n) class c
    by_test (inl e) =
        let yes : eqb (get_or classes driver 0) c ≡ true = grind (arith, nat_tests, is, e.1) in
        let one = flag-on (eqb (get_or classes driver 0) c) yes in
        let its : taken (free_of classes places n) class c ≡ free_of classes places n c - 1 = ap (λ (b : Bool). cond b (free_of classes places n c - 1) (free_of classes places n c)) e.0 in
        omega (arith, less, one, its)
    by_test (inr e) =
        let differs : get_or classes driver 0 ≢ c = λ s. e.1 (sym s ∙ is) in
        let not_it : eqb (get_or classes driver 0) c ≡ false = grind (arith, nat_tests) in
        let none = flag-off (eqb (get_or classes driver 0) c) not_it in
        let its : taken (free_of classes places n) class c ≡ free_of classes places n c = ap (λ (b : Bool). cond b (free_of classes places n c - 1) (free_of classes places n c)) e.0 in
        omega (arith, less, none, its)
