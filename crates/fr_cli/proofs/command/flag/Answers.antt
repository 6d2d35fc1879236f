use Rattle.fr_cli.proofs.OptionRules.{flag_rule}
use Rattle.fr_cli.proofs.command.flag.Goals as goal

pub returns-clause-rule : goal.returns-clause-rule
returns-clause-rule c =
    flag_rule c.args.name c.args.help c.new.result c.long.result c.action.result c.help.result
    c.new.ensures.rule c.long.ensures c.action.ensures c.help.ensures
