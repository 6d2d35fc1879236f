use Rattle.std.proofs.Common.{codes, arith}
use Rattle.std.specs.Str.Parse.{ParsesUnsigned, ExplainsUnsignedError, HasUnsignedDigitsIfOk}
use Rattle.clap.specs.Words.{found_of}
use Rattle.fr_cli.specs.Commands.{most_seed}
use Rattle.fr_cli.proofs.OptionNumbers.{number_read, nothing_read}
use Rattle.fr_cli.proofs.task.seed_in.Goals as goal

pub returns-clause-number : goal.returns-clause-number
returns-clause-number c =
    number_read _ 64 (λ bs r. ParsesUnsigned 64 10 bs r × ExplainsUnsignedError 10 bs r × HasUnsignedDigitsIfOk bs r)
    (found_of c.args.options.now) (codes "seed") (λ u x h. h.0)
    c.get_one.result c.get_one.ensures.none c.get_one.ensures.value

pub returns-clause-none : goal.returns-clause-none
returns-clause-none c =
    nothing_read _ 64 most_seed (λ bs r. ParsesUnsigned 64 10 bs r × ExplainsUnsignedError 10 bs r
    × HasUnsignedDigitsIfOk bs r) (found_of c.args.options.now) (codes "seed") (λ u x h. h.0)
    (omega arith) c.get_one.result c.get_one.ensures.value
