-- What the words of the command line ask for.
use Rattle.std.specs.Prelude.{ℕ, ◌||◌, Bool, if◌then◌else◌, List, Option, Some, None, is_some, unwrap_or, option_map, option_and_then, codes}
use Rattle.std.specs.List.{list_any}
use Rattle.std.specs.Str.{bytes_eq}
use Rattle.clap.specs.Words.{Text, Row, first_of, matches_of}
use Rattle.minute_line.specs.declared.dates.Monday.{Monday}
use Rattle.duty_plan.specs.declared.outcomes.Limits.{Limits}
use Rattle.desk_words.specs.declared.asks.Ask.{Ask}
use Rattle.desk_words.specs.declared.asks.Ask.TheVariants.{Plan, Check, Publish, Show, Export, Make, Serve}
use Rattle.desk_words.specs.declared.values.Values.{Values}
use Rattle.desk_words.specs.Values.{values_of}
use Rattle.desk_words.specs.Words.{desk_app, is_command}

-- a budget of a search is given
abbrev pub has_budget : Values → Bool
has_budget values = is_some values.labels || (is_some values.nodes || is_some values.rounds)

-- what says which draft is meant is given
abbrev pub has_draft : Values → Bool
has_draft values = is_some values.monday || is_some values.rev

-- what only a server takes is given
abbrev pub has_server : Values → Bool
has_server values = is_some values.port || is_some values.count

-- what a plan may spend whose limits are not named
abbrev pub usual_limits : Limits
usual_limits = record { labels = 65536; nodes = 31; rounds = 8 }

-- what the plan of a made week may spend whose limits are not named
abbrev pub made_limits : Limits
made_limits = record { labels = 16384; nodes = 1; rounds = 2 }

-- what a search may spend, where budgets that are not given have the usual sizes
abbrev pub limits_or : Limits → Values → Limits
limits_or usual values =
    record { labels = unwrap_or values.labels usual.labels; nodes = unwrap_or values.nodes usual.nodes; rounds = unwrap_or values.rounds usual.rounds }

-- a plan takes budgets alone
abbrev pub plan_of : Values → Option Ask
plan_of values =
    if is_some values.seed || (has_draft values || has_server values) then None else Some (Plan (limits_or usual_limits values))

-- a check takes nothing
abbrev pub check_of : Values → Option Ask
check_of values =
    if has_budget values || (is_some values.seed || (has_draft values || has_server values)) then None else Some Check

-- a publication takes a Monday and a revision, and needs both
abbrev pub publish_of : Values → Option Ask
publish_of values =
    if has_budget values || (is_some values.seed || has_server values) then None
    else option_and_then (λ monday. option_map (λ rev. Publish monday rev) values.rev) values.monday

-- the Monday, where nothing else is given
abbrev pub only_monday : Values → Option Monday
only_monday values = if has_budget values || (is_some values.seed || (is_some values.rev || has_server values)) then None else values.monday

-- a report is asked for by a Monday alone
abbrev pub show_of : Values → Option Ask
show_of values = option_map (λ monday. Show monday) (only_monday values)

-- an export is asked for by a Monday alone
abbrev pub export_of : Values → Option Ask
export_of values = option_map (λ monday. Export monday) (only_monday values)

-- a made week needs a seed, and takes budgets
abbrev pub make_of : Values → Option Ask
make_of values =
    if has_draft values || has_server values then None else option_map (λ seed. Make seed (limits_or made_limits values)) values.seed

-- a server needs a port and a number of connections
abbrev pub serve_of : Values → Option Ask
serve_of values =
    if has_budget values || (is_some values.seed || has_draft values) then None
    else option_and_then (λ port. option_map (λ count. Serve port count) values.count) values.port

-- what an action asks for, with the values of its options
abbrev pub ask_of : Text → Values → Option Ask
ask_of action values =
    if bytes_eq action (codes "plan") then plan_of values
    else (if bytes_eq action (codes "check") then check_of values
    else (if bytes_eq action (codes "publish") then publish_of values
    else (if bytes_eq action (codes "show") then show_of values
    else (if bytes_eq action (codes "export") then export_of values
    else (if bytes_eq action (codes "make") then make_of values
    else (if bytes_eq action (codes "serve") then serve_of values else None))))))

-- what is asked for by what `clap` found
abbrev pub asked_in : List Row → Option Ask
asked_in rows = option_and_then (λ action. option_and_then (ask_of action) (values_of rows)) (first_of (codes "action") rows)

-- a word is two dashes alone, which `clap` would read as the end of the options
abbrev pub has_dashes : List Text → Bool
has_dashes words = list_any (λ word. bytes_eq word (codes "--")) words

-- what words ask for by which `clap` is asked, or nothing where they are no command
abbrev pub command_asked : List Text → Option Ask
command_asked words = if is_command words then asked_in (matches_of desk_app words) else None

-- what the words ask for, or nothing
abbrev pub asked_by : List Text → Option Ask
asked_by words = if has_dashes words then None else command_asked words
