-- The command line, as the crate `clap` reads it. This project's own:
--     revroute run [--workers N] [--seed S] [--budget B] [--alone] [--json [--ways]] [--strict]
--     revroute serve [--workers N] [--seed S] [--budget B] [--alone] [--json [--ways]] [--strict]
--     revroute play [--workers N] [--seed S] [--steps M]
use Rattle.std.specs.Prelude.{◌≡◌, ℕ, ◌≤◌, List, [], ◌∷◌, Option, Some, true, pos, codes, option_map}
use Rattle.std.specs.Str.Parse.{digits_value, without_leading_plus, IsNumeral}
use Rattle.clap.specs.Walk.{Row, Rule, Text, one_of}
use Rattle.clap.specs.Simple.{App, Shape, new_app, new_rule, on_top, with_rule, with_subcommand}
use Rattle.clap.specs.declared.builder.action.ArgAction.TheVariants.{SetTrue}
use Rattle.clap.specs.declared.builder.value_parser.ValueParser.{ValueParser}
use Rattle.clap.specs.declared.builder.value_parser.ValueParser.TheVariants.{Signed, Unsigned}
use Rattle.fr_core.specs.Limits.{most_workers}
use Rattle.fr_cli.specs.Draws.{most_steps}

-- an option with this name and one number, and its text if it is not given
abbrev pub option : Text → Text → ValueParser → Rule
option name default numbers =
    record (new_rule name) { long = Some name; value_names = 1; defaults = default ∷ []; parser = Some numbers }

-- from 1 to the greatest number of workers
abbrev pub workers_option : Text → Rule
workers_option default = option (codes "workers") default (Signed (pos 1) (pos most_workers))

-- the largest seed
abbrev pub most_seed : ℕ
most_seed = 18446744073709551615

abbrev pub seed_option : Rule
seed_option = option (codes "seed") (codes "0") (Unsigned 0 most_seed)

-- the largest budget that the command line accepts
abbrev pub most_budget : ℕ
most_budget = 1000000000

abbrev pub budget_option : Rule
budget_option = option (codes "budget") (codes "1000000") (Signed (pos 0) (pos most_budget))

abbrev pub steps_option : Rule
steps_option = option (codes "steps") (codes "100") (Signed (pos 0) (pos most_steps))

-- a flag with this name: an option without a value
abbrev pub flag : Text → Rule
flag name = record (new_rule name) { long = Some name; action = Some SetTrue }

-- a subcommand with this name that settles networks with a plan
abbrev pub planning : Text → App
planning name = with_rule (with_rule (with_rule (new_app name) (workers_option (codes "4"))) seed_option) budget_option

-- a subcommand with this name that answers requests
abbrev pub answering : Text → App
answering name =
    with_rule (with_rule (with_rule (with_rule (planning name) (flag (codes "alone"))) (flag (codes "json")))
    (flag (codes "ways"))) (flag (codes "strict"))

abbrev pub run_command : App
run_command = answering (codes "run")

abbrev pub serve_command : App
serve_command = answering (codes "serve")

abbrev pub play_command : App
play_command = with_rule
    (with_rule (with_rule (new_app (codes "play")) (workers_option (codes "2"))) seed_option) steps_option

-- a command that prints its version and needs a subcommand
abbrev pub program : Shape → Shape
program s = record s { has_version = true; subcommand_required = true }

-- the program's command
abbrev pub command : App
command =
    with_subcommand (with_subcommand
    (with_subcommand (on_top program (new_app (codes "revroute"))) run_command.top) serve_command.top) play_command.top

-- the text is a number of at most `most`
abbrev pub IsNumberUpTo : ℕ → Text → Type 0
IsNumberUpTo most text = IsNumeral 10 (without_leading_plus text) × (digits_value 10 (without_leading_plus text) ≤ most)

-- the option with this name was given a number of at most `most`
abbrev pub HasNumber : ℕ → Text → List Row → Type 0
HasNumber most name rows = (text : Text) × (one_of name rows ≡ Some text) × IsNumberUpTo most text

-- the number of an option
abbrev pub number_of : Text → List Row → Option ℕ
number_of name rows = option_map (λ text. digits_value 10 (without_leading_plus text)) (one_of name rows)

-- the flag with this name was given
abbrev pub IsGiven : Text → List Row → Type 0
IsGiven name rows = one_of name rows ≡ Some (codes "true")

-- the flag `ways` was given without the flag `json`
abbrev pub LacksJson : List Row → Type 0
LacksJson rows = IsGiven (codes "ways") rows × ¬ IsGiven (codes "json") rows
