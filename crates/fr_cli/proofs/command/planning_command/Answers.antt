use Rattle.std.proofs.Common.{codes, ◌∙◌}
use Rattle.fr_cli.specs.Commands.{option as option_of}
use Rattle.fr_cli.proofs.Makings.{makes_rule}
use Rattle.fr_cli.proofs.command.planning_command.Goals as goal

pub returns : goal.returns
returns c =
    makes_rule _ _ _ _ _ (c.option-budget.ensures.rule
    ∙ (λ i. option_of (codes "budget") (codes "1000000") (c.budget_numbers.ensures i)))
    c.with_option-3.ensures
    (makes_rule _ _ _ _ _ (c.option-seed.ensures.rule
    ∙ (λ i. option_of (codes "seed") (codes "0") (c.value_parser.ensures i)))
    c.with_option-2.ensures
    (makes_rule _ _ _ _ _ (c.option-workers.ensures.rule
    ∙ (λ i. option_of (codes "workers") (codes "4") (c.worker_numbers.ensures i)))
    c.with_option.ensures c.described_command-command.ensures))
