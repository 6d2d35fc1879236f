use Rattle.std.proofs.Common.{◌∙◌, Some, ap}
use Rattle.fr_cli.proofs.OptionRules.{option_rule}
use Rattle.fr_cli.proofs.command.option.Goals as goal

pub returns-clause-rule : goal.returns-clause-rule
returns-clause-rule c =
    let given = c.value_parser.ensures.given in
    option_rule c.args.name _ c.args.default c.args.help c.args.numbers c.new.result c.long.result c.value_name.result
    c.default_value.result c.value_parser.result c.help.result
    c.new.ensures.rule c.long.ensures c.value_name.ensures c.default_value.ensures c.value_parser.ensures.others
    (given.1 ∙ ap Some given.2) c.help.ensures
