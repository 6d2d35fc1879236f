use Rattle.std.proofs.Common.{map}
use Rattle.fr_cli.proofs.Faulting.{said_fault}
use Rattle.fr_cli.proofs.task.command_line.Goals as goal

pub returns-in-Err-clause-fault : goal.returns-in-Err-clause-fault
returns-in-Err-clause-fault c =
    said_fault (map (λ s. s.now) c.args.words.now) c.in-Err.error c.usage_fault.result c.in-Err.ensures.err
    c.usage_fault.ensures
