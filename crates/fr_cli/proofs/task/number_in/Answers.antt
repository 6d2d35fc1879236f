use Rattle.std.proofs.Common.{Some, None, arith}
use Rattle.std.specs.Str.Parse.{ParsesUnsigned, ExplainsUnsignedError, HasUnsignedDigitsIfOk}
use Rattle.clap.specs.Words.{found_of}
use Rattle.fr_cli.proofs.OptionNumbers.{number_read, number_not_read}
use Rattle.fr_cli.proofs.task.number_in.Goals as goal

pub returns-in-Some-clause-number : goal.returns-in-Some-clause-number
returns-in-Some-clause-number c =
    let read = number_read _ 32 (λ bs r. ParsesUnsigned 32 10 bs r × ExplainsUnsignedError 10 bs r
    × HasUnsignedDigitsIfOk bs r) (found_of c.args.options.now) c.args.name.now (λ u x h. h.0)
    (Some c.in-Some.number) c.in-Some.ensures.none c.in-Some.ensures.value in
    (read, omega arith)

pub returns-in_default-clause-none : goal.returns-in_default-clause-none
returns-in_default-clause-none c _ =
    number_not_read _ 32 c.args.most (λ bs r. ParsesUnsigned 32 10 bs r × ExplainsUnsignedError 10 bs r
    × HasUnsignedDigitsIfOk bs r) (found_of c.args.options.now) c.args.name.now (λ u x h. h.0)
    (omega arith) (Some c.in-Some.number) c.in-Some.ensures.value c.if-number-most.false

pub returns-in_default-2-clause-none : goal.returns-in_default-2-clause-none
returns-in_default-2-clause-none c _ =
    number_not_read _ 32 c.args.most (λ bs r. ParsesUnsigned 32 10 bs r × ExplainsUnsignedError 10 bs r
    × HasUnsignedDigitsIfOk bs r) (found_of c.args.options.now) c.args.name.now (λ u x h. h.0)
    (omega arith) None c.in_default.ensures.value tt
