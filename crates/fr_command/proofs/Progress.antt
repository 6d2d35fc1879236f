-- How many lines of an input are answered.
use Rattle.std.proofs.Common.{◌≡◌, ◌∙◌, ℕ, ◌≤◌, false, List, [], ◌∷◌, ◌++◌, length, take, Option, Some}
use Rattle.std.proofs.Common.{append-nil, append_assoc, inr, refl, sym, ap, subst}
use Rattle.std.specs.Prelude.{slice_get}
use Rattle.std.proofs.Math.Seq.{take-append_seam}
use Rattle.std.proofs.KnownBytes.{Appends-nil, Appends-trans, Appends-kept}
use Rattle.std.specs.Io.KnownBytes.{Appends, Keeps}
use Rattle.fr_route.specs.Blank.{is_blank}
use Rattle.fr_route.specs.declared.form.Form.{Form}
use Rattle.fr_route.specs.declared.form.Form.TheVariants.{Text}
use Rattle.fr_bytes.specs.Lines.{lines_of}
use Rattle.fr_bytes.specs.Bytes.{IsBeginning, ReadsInput, most_bytes}
use Rattle.fr_bytes.specs.declared.fault.RunFault.{RunFault}
use Rattle.fr_bytes.specs.declared.fault.RunFault.TheVariants.{Read, Write, TooLong, Start, Memory}
use Rattle.fr_command.specs.Outputs.{asking_count, WritesOutput, WritesOutputIn, WritesBeginning, StopsAtLine}
use Rattle.fr_command.specs.Faults.{IsRunFaultIn}
use Rattle.fr_command.specs.Points.{Point, AreAnswersIn, first_point}
use Rattle.fr_command.specs.InLines.{BeginsAnswer, IsLineFault, IsAnsweringFault}
use Rattle.fr_command.specs.declared.responder.Tally.{Tally}
use Rattle.fr_command.proofs.AnswersIn.{answers_append}
use Rattle.fr_command.proofs.Counting.{answered_all}
use Rattle.fr_command.proofs.Determined.{each_output, output_unique, output_begins_with, begins-trans, begins_behind}

-- the lines of the whole input up to those that are left are answered
pub record HasAnswered (form : Form) (whole : List ℕ) (left : List (List ℕ)) (now : Point)
    (old new : Option (List ℕ)) : Type 0 where
  pub out : List ℕ
  pub done : List (List ℕ)
  pub cut : lines_of whole ≡ done ++ left
  pub are_answers : AreAnswersIn form first_point done out now
  pub writes : Appends old new out

pub at_start : (form : Form) (whole : List ℕ) (left : List (List ℕ)) (now : Point) (old : Option (List ℕ))
    → left ≡ lines_of whole
    → now ≡ first_point → HasAnswered form whole left now old old
at_start form whole left now old all none = rw (all, none) record {
  out = [];
  done = [];
  cut = refl;
  are_answers = (refl, refl);
  writes = Appends-nil old;
}

slice_get-at : (xs : List (List ℕ)) (y : List ℕ) (ys : List (List ℕ)) → slice_get (xs ++ y ∷ ys) (length xs) ≡ Some y
slice_get-at [] y ys = refl
slice_get-at (x ∷ xs) y ys = slice_get-at xs y ys

-- the next line is the first of those that are left
pub next_line : (form : Form) (whole line : List ℕ) (all left : List (List ℕ)) (now : Point) (old mid : Option (List ℕ))
    → all ≡ line ∷ left → HasAnswered form whole all now old mid → HasAnswered form whole (line ∷ left) now old mid
next_line form whole line all left now old mid is h = subst
    (λ (ls : List (List ℕ)). HasAnswered form whole ls now old mid) is h

module _ (form : Form) (whole line : List ℕ) (left : List (List ℕ)) (now : Point) (old mid : Option (List ℕ))
    (h : HasAnswered form whole (line ∷ left) now old mid) where
  -- one more line is answered, or was blank
  pub one_line_more : (next : Point) (new : Option (List ℕ)) (out : List ℕ)
      → AreAnswersIn form now (line ∷ []) out next → Appends mid new out → HasAnswered form whole left next old new
  one_line_more next new out are more = record {
    out = h.out ++ out;
    done = h.done ++ line ∷ [];
    cut = h.cut ∙ sym (append_assoc h.done (line ∷ []) left);
    are_answers = answers_append form first_point now next h.done (line ∷ []) h.out out h.are_answers are;
    writes = Appends-trans old mid new h.out out h.writes more;
  }

  -- a write failed within the line's answer
  stops_writing : (new : Option (List ℕ)) → BeginsAnswer form now line mid new → WritesBeginning form whole old new
  stops_writing new part =
      let done : List (List ℕ) = h.done ++ line ∷ [] in
      let cut : lines_of whole ≡ done ++ left = h.cut ∙ sym (append_assoc h.done (line ∷ []) left) in
      let answer = answers_append form first_point now part.last h.done
      (line ∷ []) h.out part.answer h.are_answers part.are_answers in
      let front : take (length done) (lines_of whole)
      ≡ done = ap (take (length done)) cut ∙ take-append_seam done left in
      let answers : AreAnswersIn form first_point (take (length done) (lines_of whole))
      (h.out ++ part.answer) part.last =
      subst (λ (ls : List (List ℕ)). AreAnswersIn form first_point ls (h.out ++ part.answer) part.last)
      (sym front) answer in
      let begins : IsBeginning (h.out ++ part.out)
      (h.out ++ part.answer) = begins_behind h.out part.out part.answer part.begins in
      let all = each_output form whole in
      record {
        whole = all.0;
        out = h.out ++ part.out;
        output = all.1;
        only = λ other is. output_unique form whole other all.0 is all.1;
        begins = begins-trans (h.out ++ part.out) (h.out ++ part.answer) all.0 begins
            (output_begins_with form whole (h.out ++ part.answer) all.0 (length done) part.last answers all.1);
        writes = Appends-trans old mid new h.out part.out h.writes part.writes;
      }

  -- the line failed
  stops_at_line : (new : Option (List ℕ)) → is_blank line ≡ false → Keeps mid new
      → (stop : StopsAtLine form whole old new) × (stop.last ≡ now) × (stop.line ≡ line)
  stops_at_line new asks kept =
      let done = h.done in
      let front : take (length done) (lines_of whole) ≡ done = rw h.cut (take-append_seam done (line ∷ left)) in
      let answers : AreAnswersIn form first_point (take (length done) (lines_of whole)) h.out now =
      subst (λ (ls : List (List ℕ)). AreAnswersIn form first_point ls h.out now) (sym front) h.are_answers in
      let stop : StopsAtLine form whole old new = record {
        place = length done;
        line = line;
        out = h.out;
        last = now;
        is_line = ap (λ (ls : List (List ℕ)). slice_get ls (length done)) h.cut ∙ slice_get-at done line left;
        asks = asks;
        are_answers = answers;
        begins = λ all is. output_begins_with form whole h.out all (length done) now answers is;
        writes = Appends-kept old mid new h.out h.writes kept;
      } in
      (stop, refl, refl)

  -- the line was not answered
  pub line_failed : (new : Option (List ℕ)) (fault : RunFault) → IsLineFault form now line mid new fault
      → IsAnsweringFault form whole old new fault
  line_failed new Read why = why
  line_failed new Write why = stops_writing new why
  line_failed new TooLong why = why
  line_failed new Start why =
      let stop = stops_at_line new why.0.0 why.1 in
      (stop.0, rw (stop.1, stop.2) why.0)
  line_failed new Memory why = (stops_at_line new why.0 why.1).0

-- no line is left
pub all_answered : (form : Form) (whole : List ℕ) (now : Point) (old new : Option (List ℕ)) (tally : Tally)
    → HasAnswered form whole [] now old new → tally.answered ≡ now.answered → tally.refused ≡ now.refused
    → WritesOutputIn form whole old new tally
all_answered form whole now old new tally h answered refused =
    let all : h.done ≡ lines_of whole = sym (h.cut ∙ append-nil h.done) in
    let output : AreAnswersIn form first_point (lines_of whole) h.out now =
    subst (λ (ls : List (List ℕ)). AreAnswersIn form first_point ls h.out now) all h.are_answers in
    record {
      out = h.out;
      last = now;
      output = output;
      only = λ other is. output_unique form whole other h.out is (now, output);
      writes = h.writes;
      answered = answered;
      refused = refused;
    }

-- everything was answered, and what came then wrote nothing
pub output_begins : (form : Form) (whole : List ℕ) (old mid new : Option (List ℕ)) (tally : Tally)
    → WritesOutputIn form whole old mid tally → Keeps mid new → WritesBeginning form whole old new
output_begins form whole old mid new tally w kept = record {
  whole = w.out;
  out = w.out;
  output = (w.last, w.output);
  only = w.only;
  begins = ([], sym (append-nil w.out));
  writes = Appends-kept old mid new w.out w.writes kept;
}

-- it was flushed
pub flushed : (form : Form) (whole : List ℕ) (old mid new : Option (List ℕ)) (tally : Tally)
    → WritesOutputIn form whole old mid tally → Keeps mid new → WritesOutputIn form whole old new tally
flushed form whole old mid new tally w kept = record {
  out = w.out;
  last = w.last;
  output = w.output;
  only = w.only;
  writes = Appends-kept old mid new w.out w.writes kept;
  answered = w.answered;
  refused = w.refused;
}

-- the output text was written
pub writes_text : (whole : List ℕ) (old new : Option (List ℕ)) (tally : Tally) (count : ℕ)
    → WritesOutputIn Text whole old new tally
    → count ≡ asking_count (lines_of whole) → WritesOutput whole old new count
writes_text whole old new tally count w counted = record {
  out = w.out;
  output = (w.last, w.output);
  only = w.only;
  writes = w.writes;
  counted = counted;
}

-- as many answers as lines that are not blank
pub counts_all : (form : Form) (whole : List ℕ) (old new : Option (List ℕ)) (tally : Tally) → length whole ≤ most_bytes
    → WritesOutputIn form whole old new tally → tally.answered ≡ asking_count (lines_of whole)
counts_all form whole old new tally short w = w.answered ∙ answered_all form whole w.out w.last short w.output

-- a run that has read its input fails as the answering of its lines does
pub run_failed : (form : Form) (bytes : List ℕ) (r s old new : Option (List ℕ)) (fault : RunFault)
    → ReadsInput r s bytes → IsAnsweringFault form bytes old new fault → IsRunFaultIn form r s old new fault
run_failed form bytes r s old new Read reads why = absurd why
run_failed form bytes r s old new Write reads why = (bytes, reads, why)
run_failed form bytes r s old new TooLong reads why = absurd why
run_failed form bytes r s old new Start reads why = (bytes, reads, why.0, why.1)
run_failed form bytes r s old new Memory reads why = inr (bytes, reads, why)
