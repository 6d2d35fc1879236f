use Rattle.fr_cli.proofs.command.answering_command.Goals as goal

pub returns : goal.returns
returns c =
    c.with_flag.ensures _
    (c.with_flag-command-3.ensures _
    (c.with_flag-command-2.ensures _
    (c.with_flag-command.ensures _ c.planning_command-command.ensures)))
