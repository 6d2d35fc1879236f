use Rattle.std.proofs.Common.{map}
use Rattle.clap.specs.Simple.{app_of}
use Rattle.fr_cli.specs.Commands.{command}
use Rattle.fr_cli.proofs.Makings.{made}
use Rattle.fr_cli.proofs.Faulting.{refused_kinds, taken_faultless, taken_subcommand}
use Rattle.fr_cli.proofs.command.matches_of.Goals as goal

pub returns-clause-taken : goal.returns-clause-taken
returns-clause-taken c = taken_faultless (app_of c.in_ok-whole_command.field-0) (map (λ s. s.now) c.args.words.now)
    c.try_get_matches_from.result (made command c.in_ok-whole_command.field-0 c.in_ok-whole_command.ensures)
    c.try_get_matches_from.ensures.kinds

pub returns-clause-ok : goal.returns-clause-ok
returns-clause-ok c = taken_subcommand (app_of c.in_ok-whole_command.field-0) (map (λ s. s.now) c.args.words.now)
    c.try_get_matches_from.result (made command c.in_ok-whole_command.field-0 c.in_ok-whole_command.ensures)
    c.try_get_matches_from.ensures.matches

pub returns-clause-err : goal.returns-clause-err
returns-clause-err c = refused_kinds (app_of c.in_ok-whole_command.field-0) (map (λ s. s.now) c.args.words.now)
    c.try_get_matches_from.result (made command c.in_ok-whole_command.field-0 c.in_ok-whole_command.ensures)
    c.try_get_matches_from.ensures.kinds
