-- The words of the command line, as `clap` reads them.
use Rattle.std.specs.Prelude.{List, Some, Bool, true, codes}
use Rattle.clap.specs.Words.{App, Rule, Text, new_app, new_rule, with_rule}
use Rattle.clap.specs.Faults.{fault_of}
use Rattle.clap.specs.Simple.{on_top}
use Rattle.clap.specs.Walk.{is_empty}

-- the action, a required word
abbrev pub action_rule : Rule
action_rule = record (new_rule (codes "action")) { required = true }

-- an option of that name, with one value
abbrev pub option_rule : Text → Rule
option_rule name = record (new_rule name) { long = Some name }

-- a command without words, which knows neither help nor version
abbrev pub bare_app : App
bare_app = on_top (λ s. record s { no_binary_name = true; disable_help_flag = true; disable_version_flag = true }) (new_app (codes "desk"))

-- the command: an action, and options of any action
abbrev pub desk_app : App
desk_app =
    with_rule (with_rule (with_rule (with_rule (with_rule (with_rule (with_rule (with_rule (with_rule bare_app action_rule) (option_rule (codes "labels"))) (option_rule (codes "nodes"))) (option_rule (codes "rounds"))) (option_rule (codes "seed"))) (option_rule (codes "monday"))) (option_rule (codes "rev"))) (option_rule (codes "port"))) (option_rule (codes "count"))

-- the words are a command of that form
abbrev pub is_command : List Text → Bool
is_command words = is_empty (fault_of desk_app words)
