use Rattle.std.proofs.Common.{rules, ◌∷◌, [], List, ℕ, drop, string_bytes, sym, take}
use Rattle.std.proofs.lemmas.List.{take-append-drop}
use Rattle.std.proofs.lemmas.Result.{on_ok_weaker}
use Rattle.std.specs.Io.KnownBytes.{Appends}
use Rattle.fr_bytes.proofs.Results.{of_the_fault}
use Rattle.fr_bytes.specs.declared.fault.RunFault.TheVariants.{Write}
use Rattle.fr_command.specs.InLines.{IsLineFault}
use Rattle.fr_command.specs.Points.{AreAnswersIn}
use Rattle.fr_command.proofs.answers.answer_one.Goals as goal

pub returns-in-Ok-Some : goal.returns-in-Ok-Some
returns-in-Ok-Some g c =
    let old = g.W.Write.contents c.args.writer.now in
    let new = g.W.Write.contents c.write_whole-written.new.writer in
    let answer : List ℕ = string_bytes c.in-Ok-Some.text in
    let told : AreAnswersIn c.args.form c.args.responder.now (c.args.line.now ∷ []) answer c.answer_text.new.responder =
    rw c.in-Ok-Some.field-0-is at c.in-Ok-Some.ensures.text in
    let kept : AreAnswersIn c.args.form c.args.responder.now (c.args.line.now ∷ []) answer c.reuse.new.self =
    rw c.reuse.ensures told in
    record {
      ok = on_ok_weaker c.write_whole-written.result (λ (whole : Appends old new answer). (answer, kept, whole))
          (rw c.as_bytes.ensures.value at c.write_whole-written.ensures.ok);
      fault =
          of_the_fault c.write_whole-written.result Write
          (IsLineFault c.args.form c.args.responder.now c.args.line.now old new)
          ((n : ℕ) × Appends old new (take n answer)) c.write_whole-written.ensures.kind
          (rw c.as_bytes.ensures.value at c.write_whole-written.ensures.err)
          (λ part. record {
            answer = answer;
            last = c.answer_text.new.responder;
            out = take part.0 answer;
            are_answers = told;
            begins = (drop part.0 answer, sym (take-append-drop part.0 answer));
            writes = part.1;
          });
      no_start = search rules;
    }
