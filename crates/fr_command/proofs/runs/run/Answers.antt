use Rattle.fr_route.specs.declared.form.Form.TheVariants.{Text}
use Rattle.fr_command.proofs.Progress.{counts_all, writes_text}
use Rattle.fr_command.proofs.runs.run.Goals as goal

pub returns-in-Ok-clause-ok : goal.returns-in-Ok-clause-ok
returns-in-Ok-clause-ok g c =
    let old = g.W.Write.contents c.args.writer.now in
    let new = g.W.Write.contents c.run_in.new.writer in
    let h = c.in-Ok.ensures.ok in (
      h.0,
      h.1,
      writes_text h.0 old new c.in-Ok.tally c.in-Ok.tally.answered h.2
          (counts_all Text h.0 old new c.in-Ok.tally h.1.2 h.2),
    )
