use Rattle.std.proofs.Common.{refl}
use Rattle.fr_bytes.specs.Lines.{lines_of}
use Rattle.fr_command.specs.Outputs.{asking_count}
use Rattle.fr_command.proofs.Progress.{writes_text}
use Rattle.fr_command.proofs.serving.serve.Goals as goal

pub returns-in-Ok-clause-ok : goal.returns-in-Ok-clause-ok
returns-in-Ok-clause-ok g c =
    let h = c.in-Ok.ensures.ok in (
      h.0,
      h.1,
      h.2,
      writes_text h.0 (g.S.Stream.traffic c.args.stream.now).written (g.S.Stream.traffic c.serve_in.new.stream).written
          c.in-Ok.field-0
          (asking_count (lines_of h.0)) h.3 refl,
    )
