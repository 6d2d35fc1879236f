use Rattle.clap.specs.Words.{found_of}
use Rattle.fr_cli.proofs.Flags.{flag_read}
use Rattle.fr_cli.proofs.task.is_given.Goals as goal

pub returns : goal.returns
returns c =
    rw (c.unwrap_or.ensures)
    (flag_read _ (found_of c.args.options.now) c.args.name.now c.get_one.result c.get_one.ensures.none
    c.get_one.ensures.value)
