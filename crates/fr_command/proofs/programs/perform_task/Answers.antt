use Rattle.std.proofs.Common.{subst, sym}
use Rattle.fr_bytes.specs.Streams.{traffic_of}
use Rattle.fr_command.specs.Programs.{FailsTask, form_of}
use Rattle.fr_command.specs.declared.programs.Failure.TheVariants.{Stopped, StoppedServing}
use Rattle.fr_command.proofs.programs.perform_task.Goals as goal

pub returns-in-Err-clause-failed : goal.returns-in-Err-clause-failed
returns-in-Err-clause-failed g c =
    let old = traffic_of (g.R.Read.remaining c.args.stream.now.reader) (g.W.Write.contents c.args.stream.now.writer) in
    let new = traffic_of (g.R.Read.remaining c.run_in.new.reader) (g.W.Write.contents c.run_in.new.writer) in
    subst (λ task. FailsTask task (form_of c.args.line.now) old new (Stopped c.in-Err.fault)) (sym c.in-Run.is)
    (rw c.answer_form-form.ensures at c.in-Err.ensures.fault)

pub returns-in-Err-serve_in-clause-failed : goal.returns-in-Err-serve_in-clause-failed
returns-in-Err-serve_in-clause-failed g c =
    let old = traffic_of (g.R.Read.remaining c.args.stream.now.reader) (g.W.Write.contents c.args.stream.now.writer) in
    let stream = c.serve_in.new.stream in
    let new = traffic_of (g.R.Read.remaining stream.reader) (g.W.Write.contents stream.writer) in
    subst (λ task. FailsTask task (form_of c.args.line.now) old new (StoppedServing c.in-Err-serve_in.fault))
    (sym c.in-Serve.is) (rw c.answer_form-form.ensures at c.in-Err-serve_in.ensures.fault)
