use Rattle.fr_cli.proofs.Makings.{makes_option}
use Rattle.fr_cli.proofs.command.with_option.Goals as goal

pub returns : goal.returns
returns c = makes_option c.args.command c.args.option c.in_ok-command.field-0 c.arg.result
    c.in_ok-command.was c.requires c.arg.ensures
