-- A row that is raised by all acts covers, and what is kept of it stays sound.
use Rattle.std.proofs.Common.{◌≡◌, ℕ, ◌+◌, ◌*◌, ◌≤◌, ◌<◌, List, arith, ◌-ℤ◌}
use Rattle.std.specs.Prelude.{bit_or}
use Rattle.std.proofs.lemmas.Int.{ints}
use Rattle.week_book.specs.declared.weeks.Week.{Week}
use Rattle.week_book.specs.Weeks.{IsWeek}
use Rattle.duty_plan.specs.declared.duties.Act.{Act}
use Rattle.duty_plan.specs.declared.duties.Act.TheVariants.{Load}
use Rattle.duty_plan.specs.declared.pricing.Prices.{Prices}
use Rattle.duty_plan.specs.Values.{IsPrices}
use Rattle.duty_plan.proofs.OfficeSteps.{or-none}
use Rattle.duty_outlook.specs.declared.spots.Spot.{Spot}
use Rattle.duty_outlook.specs.declared.outlooks.Outlook.{Outlook}
use Rattle.duty_outlook.specs.Timetables.{saved_by}
use Rattle.duty_outlook.specs.Covering.{Covers}
use Rattle.duty_outlook.specs.Rows.{number_at, Grows}
use Rattle.duty_outlook.specs.Outlooks.{CoversRow, AdmitsRow, IsFilled, AreBlank, cents_of, later_spot}
use Rattle.duty_outlook.proofs.Steps.{covers-up, covers-step}

-- what a load brings
pub row-load : (week : Week) (capacity unit : ℕ) (prices : Prices) (spot : Spot) (next row : List ℕ) → spot.place ≡ 0 →
    CoversRow week capacity unit prices (record { place = 0; minute = spot.minute + week.load; orders = spot.orders }) next →
    ((level : ℕ) → level < 32 → number_at next 0 ≤ number_at row level) → AdmitsRow week capacity unit prices spot Load row
row-load week capacity unit prices spot next row p c r = record {
  each = λ level l m. record {
    next = λ small.
        let raised = r level l in
        let none : 0 * unit ≡ 0 = omega arith in
        let covers : Covers week capacity prices (bit_or spot.orders 0) spot.place (spot.minute + week.load) 0 (cents_of (number_at next 0))
        = rw (or-none, p) (rw none at (c.each 0 (omega arith))) in
        covers-up (cents_of (number_at row level) -ℤ saved_by week prices spot.place Load) covers (omega (arith, ints, raised));
  };
}

-- a row that is no less than a later one's, and admits all acts
pub row-covers : (week : Week) (capacity unit : ℕ) (prices : Prices) (spot : Spot) (later row : List ℕ) → IsWeek week → IsPrices week prices →
    (spot.minute < 10080 → CoversRow week capacity unit prices (later_spot spot) later) → Grows later row →
    (spot.place ≡ 0 → (level : ℕ) → level < 32 → 2000000000000 ≤ number_at row level) →
    ((act : Act) → AdmitsRow week capacity unit prices spot act row) → CoversRow week capacity unit prices spot row
row-covers week capacity unit prices spot later row w p wait g home acts = record {
  each = λ level l.
      covers-step week capacity prices spot.orders spot.place spot.minute (level * unit) (cents_of (number_at row level)) w p
      (λ e. let large = home e level l in omega (arith, ints, large))
      (λ early. let grew = g level l in covers-up (cents_of (number_at row level)) ((wait early).each level l) (omega (arith, ints, grew)))
      (λ act may. (acts act).each level l may);
}

-- an outlook without an entry of the week
pub filled-blank : (week : Week) (prices : Prices) (outlook : Outlook) → IsWeek week → IsPrices week prices →
    AreBlank outlook → IsFilled week prices outlook
filled-blank week prices outlook w p b = record {
  is_week = w;
  is_prices = p;
  sound = λ k d l early. absurd (omega (arith, b k d l, early));
}
