use Rattle.fr_cli.proofs.command.whole_command.Goals as goal

pub returns : goal.returns
returns c =
    c.with_subcommand.ensures _ _
    (c.with_subcommand-command-2.ensures _ _
    (c.with_subcommand-command.ensures _ _ c.bare_command-command.ensures c.answering_command.ensures)
    c.answering_command-2.ensures) c.play_command.ensures
