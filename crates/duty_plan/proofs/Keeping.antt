-- The office rules hold where no test fails.
use Rattle.std.proofs.Common.{◌≡◌, ℕ, Bool, true, false, List, [], ◌∷◌, ◌++◌, Option, Some, None, refl, sym, ◌∙◌}
use Rattle.week_book.specs.declared.weeks.Week.{Week}
use Rattle.duty_plan.specs.declared.duties.Step.{Step}
use Rattle.duty_plan.specs.declared.faults.DutyFault.{DutyFault}
use Rattle.duty_plan.specs.PartialDuties.{PartialDuty, KeepsOffice, KeepsOfficeThrough}
use Rattle.duty_plan.specs.Verdicts.{Test, first_failed, tests_of_step, office_fault}

-- where no test fails, the first one passes, and none of the rest fails
passes : (test : Test) (rest : List Test) → first_failed (test ∷ rest) ≡ None → (test.passes ≡ true) × (first_failed rest ≡ None)
passes test rest h = by_test test.passes refl
  where
    by_test : (b : Bool) → test.passes ≡ b → (test.passes ≡ true) × (first_failed rest ≡ None)
    by_test true e = let same : first_failed (test ∷ rest) ≡ first_failed rest = rw e refl in (e, sym same ∙ h)
    by_test false e = let bad : first_failed (test ∷ rest) ≡ Some test.fault = rw e refl in cc

-- each test passes
abbrev AllPass : List Test → Type 0
AllPass [] = Unit {0}
AllPass (test ∷ rest) = (test.passes ≡ true) × AllPass rest

all-pass : (tests : List Test) → first_failed tests ≡ None → AllPass tests
all-pass [] h = tt
all-pass (test ∷ rest) h = let p = passes test rest h in (p.0, all-pass rest p.1)

-- a step that fails no test keeps the office rules
pub keeps-passed : (week : Week) (open_off capacity : ℕ) (step : Step) (before : PartialDuty) →
    first_failed (tests_of_step week open_off capacity step before) ≡ None → KeepsOffice week open_off capacity step before
keeps-passed week open_off capacity step before h =
    let p : AllPass (tests_of_step week open_off capacity step before) = all-pass (tests_of_step week open_off capacity step before) h in record {
      road = p.0;
      stay = p.1.0;
      away = p.1.1.0;
      grid = p.1.1.1.0;
      late = p.1.1.1.1.0;
      window = p.1.1.1.1.1.0;
      load = p.1.1.1.1.1.1.0;
      twice = p.1.1.1.1.1.1.1.0;
    }

-- a step that keeps the office rules fails no test
pub passed-keeps : (week : Week) (open_off capacity : ℕ) (step : Step) (before : PartialDuty) → KeepsOffice week open_off capacity step before →
    first_failed (tests_of_step week open_off capacity step before) ≡ None
passed-keeps week open_off capacity step before k = rw (k.road, k.stay, k.away, k.grid, k.late, k.window, k.load, k.twice) refl

-- the office finds no fault in a partial duty that keeps its rules
pub none-keeps : (week : Week) (open_off capacity : ℕ) (partial : PartialDuty) → KeepsOfficeThrough week open_off capacity partial →
    office_fault week open_off capacity partial ≡ None
none-keeps week open_off capacity [] k = refl
none-keeps week open_off capacity (step ∷ before) k =
    rw (none-keeps week open_off capacity before k.1) (passed-keeps week open_off capacity step before k.0)

-- a partial duty in which it finds none keeps them
pub keeps-none : (week : Week) (open_off capacity : ℕ) (partial : PartialDuty) → office_fault week open_off capacity partial ≡ None →
    KeepsOfficeThrough week open_off capacity partial
keeps-none week open_off capacity [] h = tt
keeps-none week open_off capacity (step ∷ before) h =
    by_before (office_fault week open_off capacity before) refl (λ n. keeps-none week open_off capacity before n)
  where
    by_before : (found : Option DutyFault) → office_fault week open_off capacity before ≡ found →
        (office_fault week open_off capacity before ≡ None → KeepsOfficeThrough week open_off capacity before) →
        KeepsOfficeThrough week open_off capacity (step ∷ before)
    by_before (Some fault) e more = let bad : office_fault week open_off capacity (step ∷ before) ≡ Some fault = rw e refl in cc
    by_before None e more =
        let same : office_fault week open_off capacity (step ∷ before) ≡ first_failed (tests_of_step week open_off capacity step before) = rw e refl in
        (keeps-passed week open_off capacity step before (sym same ∙ h), more e)

-- the fault of a step that follows a partial duty that keeps the rules
pub fault-step : (week : Week) (open_off capacity : ℕ) (step : Step) (before : PartialDuty) (fault : DutyFault) → KeepsOfficeThrough week open_off capacity before →
    first_failed (tests_of_step week open_off capacity step before) ≡ Some fault → office_fault week open_off capacity (step ∷ before) ≡ Some fault
fault-step week open_off capacity step before fault k h = rw (none-keeps week open_off capacity before k) h

-- the first fault stays the first, whatever follows
pub fault-more : (week : Week) (open_off capacity : ℕ) (later partial : PartialDuty) (fault : DutyFault) → office_fault week open_off capacity partial ≡ Some fault →
    office_fault week open_off capacity (later ++ partial) ≡ Some fault
fault-more week open_off capacity [] partial fault h = h
fault-more week open_off capacity (step ∷ later) partial fault h = rw (fault-more week open_off capacity later partial fault h) refl
