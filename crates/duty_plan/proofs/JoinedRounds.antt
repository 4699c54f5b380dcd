-- Joined workers are a shared round, and so is a lone one.
use Rattle.std.proofs.Common.{◌≡◌, ◌⊎◌, inl, inr, ℕ, suc, ◌*◌, ◌<◌, List, [], ◌∷◌, length, refl, ap, sym, subst, ◌∙◌, arith, Some, slice_get}
use Rattle.std.proofs.lemmas.Bool.Decides.{nat_tests}
use Rattle.duty_plan.specs.declared.plans.Case.{Case}
use Rattle.duty_plan.specs.declared.deciding.Pairs.{Pairs}
use Rattle.duty_plan.specs.declared.pricing.Prices.{Prices}
use Rattle.duty_plan.specs.LabelLists.{Entry, IsLabelList}
use Rattle.duty_plan.specs.SharedRounds.{IsSeatOf, IsSpentSeat, IsFound, Worker, AreJoined, JoinedLicence, JoinedIsRound, LoneLicence}
use Rattle.duty_plan.proofs.LabelLists.{only-first}
use Rattle.duty_plan.proofs.Drawing.{upto, times-upto, chunks-past}
use Rattle.duty_plan.proofs.SharedRounds.{SharedRound, shares_licence, shared_is_round}
use Rattle.duty_plan.proofs.Workers.{gathered, IsApart, gathered-none, gathered-at, gathered-times, find-worker}

-- joined workers are a shared round
abbrev pub joined : (m : ℕ) (case : Case) (pairs : Pairs) (prices : Prices) (rep : ℕ → ℕ) (counter : ℕ) (workers : List Worker) →
    AreJoined m case pairs prices rep counter workers → SharedRound m case pairs prices
joined m case pairs prices rep counter workers j = record {
  rep = rep;
  drawn = gathered (λ w. w.drawn) workers;
  entries = gathered (λ w. w.entries) workers;
  counter = counter;
  classes = j.classes;
  seat = λ driver l own. seat driver (find-worker workers driver);
  idle = λ driver l other. gathered-none (λ w. w.drawn) workers driver
      (λ n w h same. other (ap rep (sym same) ∙ (j.own n w h ∙ same)));
  once = λ number. gathered-times number (length case.week.drivers) workers j.known ∙ j.once number;
}
  where
    seat : (driver : ℕ) →
        ((n : ℕ) × (worker : Worker) × (slice_get workers n ≡ Some worker) × (worker.driver ≡ driver)) ⊎ IsApart workers driver →
        IsSeatOf m case driver pairs prices (gathered (λ w. w.drawn) workers driver) (gathered (λ w. w.entries) workers driver)
    seat driver (inl found) =
        let w : Worker = found.1 in
        let at : IsSeatOf m case w.driver pairs prices (gathered (λ w. w.drawn) workers w.driver) (gathered (λ w. w.entries) workers w.driver) =
        subst (λ (xs : List ℕ). IsSeatOf m case w.driver pairs prices xs (gathered (λ w. w.entries) workers w.driver))
        (sym (gathered-at (λ w. w.drawn) workers j.one found.0 w found.2))
        (subst (λ (es : List Entry). IsSeatOf m case w.driver pairs prices w.drawn es) (sym (gathered-at (λ w. w.entries) workers j.one found.0 w found.2))
        (j.seats found.0 w found.2)) in
        subst (λ (k : ℕ). IsSeatOf m case k pairs prices (gathered (λ w. w.drawn) workers k) (gathered (λ w. w.entries) workers k)) found.3 at
    seat driver (inr none) =
        let no_number : [] ≡ gathered (λ w. w.drawn) workers driver = sym (gathered-none (λ w. w.drawn) workers driver none) in
        let no_entry : [] ≡ gathered (λ w. w.entries) workers driver = sym (gathered-none (λ w. w.entries) workers driver none) in
        subst (λ (xs : List ℕ). IsSeatOf m case driver pairs prices xs (gathered (λ w. w.entries) workers driver)) no_number
        (subst (λ (es : List Entry). IsSeatOf m case driver pairs prices [] es) no_entry (record { list = inl refl; filled = omega arith }))

pub joined_licence : JoinedLicence
joined_licence m case pairs prices rep counter workers j n worker h spent =
    shares_licence m case pairs prices (joined m case pairs prices rep counter workers j) worker.driver (j.known n worker h)
    (subst (λ (xs : List ℕ). IsSpentSeat m xs (gathered (λ w. w.entries) workers worker.driver))
    (sym (gathered-at (λ w. w.drawn) workers j.one n worker h))
    (subst (λ (es : List Entry). IsSpentSeat m worker.drawn es) (sym (gathered-at (λ w. w.entries) workers j.one n worker h)) spent))

pub joined_is_round : JoinedIsRound
joined_is_round m case pairs prices rep counter workers answers j found =
    shared_is_round m case pairs prices (joined m case pairs prices rep counter workers j) answers
    (record {
      drivers = found.drivers;
      found = λ driver answer h.
          let by = found.found driver answer h in
          let w : Worker = by.1 in
          subst (λ (k : ℕ). IsFound m case pairs prices k (gathered (λ w. w.drawn) workers k) (gathered (λ w. w.entries) workers k) answer) by.3
          (subst (λ (xs : List ℕ). IsFound m case pairs prices w.driver xs (gathered (λ w. w.entries) workers w.driver) answer)
          (sym (gathered-at (λ w. w.drawn) workers j.one by.0 w by.2))
          (subst (λ (es : List Entry). IsFound m case pairs prices w.driver w.drawn es answer)
          (sym (gathered-at (λ w. w.entries) workers j.one by.0 w by.2)) by.4));
    })

-- one worker whose list fills all chunks, and who then drew the number m
abbrev pub lone : ℕ → ℕ → List Entry → Worker
lone m driver entries = record { driver = driver; drawn = upto (suc m); entries = entries }

pub lone_joined : (m : ℕ) (case : Case) (pairs : Pairs) (prices : Prices) (driver : ℕ) (entries : List Entry) → driver < length case.week.drivers →
    IsLabelList case driver pairs prices entries → length entries ≡ 1024 * m →
    AreJoined m case pairs prices (λ k. k) (suc m) (lone m driver entries ∷ [])
lone_joined m case pairs prices driver entries l list long = record {
  classes = record {
    below = λ k lk. lk;
    own = λ k lk. refl;
    twin = λ k lk. record { capacity = refl; fee = refl; past = refl; open_off = refl; row = λ o lo. refl };
  };
  known = λ n w h. let only = only-first (lone m driver entries) w n h in
      subst (λ (x : Worker). x.driver < length case.week.drivers) only.1 l;
  own = λ n w h. refl;
  one = λ n k a b lk h i. let none = (only-first (lone m driver entries) a n h).0 in absurd (omega arith);
  seats = λ n w h. let only = only-first (lone m driver entries) w n h in
      subst (λ (x : Worker). IsSeatOf m case x.driver pairs prices x.drawn x.entries) only.1
      (record { list = inr list; filled = omega (arith, chunks-past m) });
  once = λ x. omega (arith, times-upto x (suc m));
}

pub lone_licence : LoneLicence
lone_licence m case pairs prices driver entries l list long =
    joined_licence m case pairs prices (λ k. k) (suc m) (lone m driver entries ∷ []) (lone_joined m case pairs prices driver entries l list long)
    0 (lone m driver entries) refl
    (record { number = m; drew = grind (arith, nat_tests, times-upto); past = omega arith; full = omega (arith, chunks-past m) })
