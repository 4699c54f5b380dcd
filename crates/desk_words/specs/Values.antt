-- What the options of a command give.
use Rattle.std.specs.Prelude.{ℕ, ◌≤◌, if◌then◌else◌, List, Option, Some, None, IfSome, option_map, option_and_then, length, codes}
use Rattle.std.specs.Int.{is_in_range}
use Rattle.clap.specs.Words.{Text, Row, first_of}
use Rattle.minute_line.specs.declared.dates.Monday.{Monday}
use Rattle.desk_csv.specs.Fields.{digits_from, monday_said}
use Rattle.desk_words.specs.declared.values.Values.{Values}

-- a number is 1 to 9 ASCII digits
abbrev pub number_of : Text → Option ℕ
number_of text = if is_in_range 1 9 (length text) then digits_from 0 text else None

-- a number within a range
abbrev pub within : ℕ → ℕ → ℕ → Option ℕ
within low high n = if is_in_range low high n then Some n else None

-- the value of an option that takes a number within a range, where the option is given; none where it is no such number
abbrev pub number_given : ℕ → ℕ → Option Text → Option (Option ℕ)
number_given low high None = Some None
number_given low high (Some text) = option_map Some (option_and_then (within low high) (number_of text))

-- the value of an option that takes a Monday, where the option is given; none where it is no Monday
abbrev pub monday_given : Option Text → Option (Option Monday)
monday_given None = Some None
monday_given (Some text) = option_map Some (monday_said text)

-- the numbers of the options, where each that is given is in its range, and the Monday
abbrev pub values_of : List Row → Option Values
values_of rows =
    option_and_then (λ labels. option_and_then (λ nodes. option_and_then (λ rounds. option_and_then (λ seed.
    option_and_then (λ monday. option_and_then (λ rev. option_and_then (λ port. option_map (λ count.
    record { labels = labels; nodes = nodes; rounds = rounds; seed = seed; monday = monday; rev = rev; port = port; count = count })
    (number_given 1 10000 (first_of (codes "count") rows)))
    (number_given 1 65535 (first_of (codes "port") rows)))
    (number_given 1 1000000 (first_of (codes "rev") rows)))
    (monday_given (first_of (codes "monday") rows)))
    (number_given 0 999999999 (first_of (codes "seed") rows)))
    (number_given 1 100 (first_of (codes "rounds") rows)))
    (number_given 1 4095 (first_of (codes "nodes") rows)))
    (number_given 0 2097152 (first_of (codes "labels") rows))

-- a number that is given lies in a range
abbrev pub IsGivenWithin : ℕ → ℕ → Option ℕ → Type 0
IsGivenWithin low high given = IfSome given (λ n. (low ≤ n) × (n ≤ high))

-- each number that is given lies in its range
pub record AreInRange (values : Values) : Type 0 where
  pub labels : IsGivenWithin 0 2097152 values.labels
  pub nodes : IsGivenWithin 1 4095 values.nodes
  pub rounds : IsGivenWithin 1 100 values.rounds
  pub seed : IsGivenWithin 0 999999999 values.seed
  pub rev : IsGivenWithin 1 1000000 values.rev
  pub port : IsGivenWithin 1 65535 values.port
  pub count : IsGivenWithin 1 10000 values.count
