use Rattle.fr_cli.proofs.Makings.{makes_subcommand}
use Rattle.fr_cli.proofs.command.with_made_subcommand.Goals as goal

pub returns : goal.returns
returns c = makes_subcommand c.args.command c.in_ok-command.field-0 c.args.subcommand c.subcommand.result
    c.in_ok-command.was c.subcommand.ensures
