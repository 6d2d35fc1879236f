-- How much of an input was served.
use Rattle.std.proofs.Common.{◌≡◌, ◌≢◌, ◌∙◌, ℕ, ◌+◌, ◌<◌, ◌≤◌, List, [], ◌∷◌, ◌++◌, length}
use Rattle.std.proofs.Common.{take, drop, take-append-drop, length-append, append_assoc}
use Rattle.std.proofs.Common.{append-nil, refl, sym, ap, subst, Option, true, false, not, arith}
use Rattle.std.proofs.Math.Seq.{take-add}
use Rattle.std.proofs.lemmas.List.{take-append-le}
use Rattle.std.proofs.lemmas.List.Folds.{length-prefix_len}
use Rattle.std.proofs.lemmas.List.Sums.{prefix_len-le-length}
use Rattle.std.proofs.KnownBytes.{Appends-trans, Appends-nil, Appends-kept, Consumes-nil, Consumes-trans}
use Rattle.std.specs.Io.KnownBytes.{Appends, Consumes, Keeps}
use Rattle.std.specs.List.{before_first}
use Rattle.fr_route.specs.Blank.{is_blank}
use Rattle.fr_route.specs.declared.form.Form.{Form}
use Rattle.fr_bytes.specs.Lines.{lines_of}
use Rattle.fr_bytes.specs.Bytes.{IsBeginning, most_bytes}
use Rattle.fr_bytes.specs.Streams.{Traffic, Writes}
use Rattle.fr_bytes.specs.declared.fault.RunFault.{RunFault}
use Rattle.fr_bytes.specs.declared.fault.RunFault.TheVariants.{Read, Write, TooLong, Start, Memory}
use Rattle.fr_command.specs.Outputs.{IsOutputIn, WritesOutputIn, WritesBeginning}
use Rattle.fr_command.specs.Points.{AreAnswersIn}
use Rattle.fr_command.specs.Conversations.{Talk, Takes, Ends, Says, AnswersBefore}
use Rattle.fr_command.specs.Conversations.{carried, point_of, silence_in, talk_at}
use Rattle.fr_command.specs.Faults.{IsServeFaultIn, IsTakeFault}
use Rattle.fr_command.specs.declared.responder.Tally.{Tally}
use Rattle.fr_command.specs.InLines.{BeginsAnswer, IsLineFault}
use Rattle.fr_command.specs.InPieces.{Answers, StopsInPiece, BeginsInPiece, IsFrontFault, IsPieceFault, Tells}
use Rattle.fr_command.proofs.Determined.{each_output, output_unique, begins-trans, begins_behind}
use Rattle.fr_bytes.proofs.Ending.{lines_go_on, line_goes_on, begun_alone}
use Rattle.fr_bytes.proofs.Ending.{begun_short, first_line_is, one_line, ends_line}
use Rattle.fr_bytes.proofs.Traffics.{writes_nothing, writes_on}
use Rattle.fr_command.proofs.Taking.{takes_on, takes_none, answer_stands, ends_in, lines_end}

-- nothing was taken yet
pub says_nothing : (talk : Talk) (w : Option (List ℕ)) → lines_of talk.begun ≡ talk.begun ∷ [] → Says talk [] talk w w
says_nothing talk w alone = record {
  text = [];
  takes = takes_none talk talk [] alone refl (sym (append-nil talk.begun)) refl refl;
  writes = Appends-nil w;
}

-- more bytes were taken
pub says_on : (first mid last : Talk) (xs ys : List ℕ) (u v w : Option (List ℕ)) → Says first xs mid u v
    → Says mid ys last v w → Says first (xs ++ ys) last u w
says_on first mid last xs ys u v w h k = record {
  text = h.text ++ k.text;
  takes = takes_on first mid last xs ys h.text k.text h.takes k.takes;
  writes = Appends-trans u v w h.text k.text h.writes k.writes;
}

-- what came then wrote nothing
pub says_kept : (first last : Talk) (xs : List ℕ) (u v w : Option (List ℕ)) → Says first xs last u v → Keeps v w
    → Says first xs last u w
says_kept first last xs u v w h kept = record {
  text = h.text;
  takes = h.takes;
  writes = Appends-kept u v w h.text h.writes kept;
}

-- the same for a stream
pub tells_nothing : (talk : Talk) (t : Traffic) → lines_of talk.begun ≡ talk.begun ∷ [] → Tells talk [] talk t t
tells_nothing talk t alone = record {
  text = [];
  takes = takes_none talk talk [] alone refl (sym (append-nil talk.begun)) refl refl;
  writes = writes_nothing t;
}

pub tells_on : (first mid last : Talk) (xs ys : List ℕ) (t u v : Traffic) → Tells first xs mid t u
    → Tells mid ys last u v → Tells first (xs ++ ys) last t v
tells_on first mid last xs ys t u v h k = record {
  text = h.text ++ k.text;
  takes = takes_on first mid last xs ys h.text k.text h.takes k.takes;
  writes = writes_on t u v h.text k.text h.writes k.writes;
}

pub tells_still : (first last : Talk) (xs : List ℕ) (t u v : Traffic) → Tells first xs last t u → Writes u v []
    → Tells first xs last t v
tells_still first last xs t u v h none = record {
  text = h.text;
  takes = h.takes;
  writes = subst (λ (text : List ℕ). Writes t v text) (append-nil h.text) (writes_on t u v h.text [] h.writes none);
}

pub tells_says : (first last : Talk) (xs : List ℕ) (t u : Traffic) → Tells first xs last t u
    → Says first xs last t.written u.written
tells_says first last xs t u h = record { text = h.text; takes = h.takes; writes = h.writes.1 }

-- what was answered and flushed
pub answers_says : (first last : Talk) (xs : List ℕ) (t u : Traffic) → Answers first xs last t u
    → Says first xs last t.written u.written
answers_says first last xs t u h =
    says_kept first last xs t.written h.0.written u.written (tells_says first last xs t h.0 h.1) h.2.1

-- everything that was written is a prefix, too
pub says_begins : (first last : Talk) (piece : List ℕ) (done : ℕ) (u v : Option (List ℕ))
    → Says first (take done piece) last u v → BeginsInPiece first piece u v
says_begins first last piece done u v h = record {
  count = done;
  new = last;
  whole = h.text;
  out = h.text;
  takes = h.takes;
  begins = ([], sym (append-nil h.text));
  writes = h.writes;
}

-- a prefix of the answer to the line that the end of the input ends
pub ends_begun : (old last : Talk) (text out : List ℕ) (before after : Option (List ℕ)) → Ends old text last
    → IsBeginning out text → Appends before after out → BeginsAnswer old.form (point_of old) old.begun before after
ends_begun old last text out before after end begins writes = record {
  answer = text;
  last = point_of last;
  out = out;
  are_answers = end.0;
  begins = begins;
  writes = writes;
}

-- the same for a text and its end
pub text_begun : (text end : List ℕ) (n : ℕ) → IsBeginning (take n text) (text ++ end)
text_begun text end n = (
  drop n text ++ end,
  ap (λ (l : List ℕ). l ++ end) (sym (take-append-drop n text)) ∙ append_assoc (take n text)
      (drop n text) end,
)

pub end_begun : (text end : List ℕ) (n : ℕ) → IsBeginning (text ++ take n end) (text ++ end)
end_begun text end n = begins_behind text (take n end) end (drop n end, sym (take-append-drop n end))

module _ (first mid : Talk) (piece : List ℕ) (done : ℕ) (u v : Option (List ℕ))
    (h : Says first (take done piece) mid u v) where
  -- the answer to more bytes of a piece was begun
  begins_later : (w : Option (List ℕ)) → BeginsInPiece mid (drop done piece) v w → BeginsInPiece first piece u w
  begins_later w k = record {
    count = done + k.count;
    new = k.new;
    whole = h.text ++ k.whole;
    out = h.text ++ k.out;
    takes = subst (λ (l : List ℕ). Takes first l (h.text ++ k.whole) k.new) (sym (take-add done k.count piece))
        (takes_on first mid k.new (take done piece) (take k.count (drop done piece)) h.text k.whole h.takes k.takes);
    begins = begins_behind h.text k.out k.whole k.begins;
    writes = Appends-trans u v w h.text k.out h.writes k.writes;
  }

  -- or it stops there
  stops_later : (fault : RunFault) (new : Talk) (w : Option (List ℕ)) → new ≡ mid → Keeps v w
      → IsTakeFault (point_of mid) (carried mid (drop done piece)) (drop done piece) fault
      → StopsInPiece fault first piece new u w
  stops_later fault new w same kept why = record {
    count = done;
    says = subst (λ (t : Talk). Says first (take done piece) t u w) (sym same)
        (says_kept first mid (take done piece) u v w h kept);
    untaken = subst (λ (t : Talk). IsTakeFault (point_of t) (carried t (drop done piece)) (drop done piece) fault)
        (sym same) why;
  }

  -- a fault at the first line of the rest of a piece is a fault of the piece
  pub fails_later : (new : Talk) (w : Option (List ℕ)) (fault : RunFault)
      → IsFrontFault mid (drop done piece) new v w fault → IsPieceFault first piece new u w fault
  fails_later new w Read why = stops_later Read new w why.0 why.1 why.2
  fails_later new w Write why = begins_later w why
  fails_later new w TooLong why = stops_later TooLong new w why.0 why.1 why.2
  fails_later new w Start why = stops_later Start new w why.0 why.1 why.2
  fails_later new w Memory why = stops_later Memory new w why.0 why.1 why.2

-- a line that is not blank has a byte
pub blank_or_some : (line : List ℕ) → is_blank line ≡ false → line ≢ []
blank_or_some [] asks = cc
blank_or_some (x ∷ xs) asks = λ e. cc

-- the lines that ended in the bytes read were answered
pub record HasServed (form : Form) (r s u v : Option (List ℕ)) (talk : Talk) : Type 0 where
  pub bytes : List ℕ
  pub reads : Consumes r s bytes
  pub says : Says (silence_in form) bytes talk u v

pub nothing_served : (form : Form) (r u : Option (List ℕ)) (talk : Talk) → talk ≡ silence_in form
    → HasServed form r r u u talk
nothing_served form r u talk same = record {
  bytes = [];
  reads = Consumes-nil r;
  says = subst (λ (t : Talk). Says (silence_in form) [] t u u) (sym same) (says_nothing (silence_in form) u refl);
}

-- a read brought no byte
pub read_nothing : (r s t : Option (List ℕ)) (bytes piece : List ℕ) (count : ℕ) → count ≡ 0 → Consumes r s bytes
    → Consumes s t (take count piece) → Consumes r t bytes
read_nothing r s t bytes piece count none h k =
    let both : Consumes r t (bytes ++ []) = Consumes-trans r s t bytes [] h
    (subst (λ (n : ℕ). Consumes s t (take n piece)) none k) in
    subst (λ (l : List ℕ). Consumes r t l) (append-nil bytes) both

-- a read brought some bytes, to the front of the room for a piece
pub read_on : (r s t : Option (List ℕ)) (bytes piece room : List ℕ) (count : ℕ) → count ≤ length piece
    → Consumes r s bytes
    → Consumes s t (take count piece) → Consumes r t (bytes ++ take count (piece ++ room))
read_on r s t bytes piece room count few h k = Consumes-trans r s t bytes (take count (piece ++ room)) h
    (subst (λ (l : List ℕ). Consumes s t l) (sym (take-append-le count piece room few)) k)

module _ (form : Form) (bytes : List ℕ) (talk : Talk) (a : Traffic) (v : Option (List ℕ))
    (h : Says (silence_in form) bytes talk a.written v) where
  -- the answers to the lines before the one that has begun
  before_begun : (w : Option (List ℕ)) → Keeps v w
      → (stop : AnswersBefore form bytes talk.begun a.written w) × (stop.last ≡ point_of talk)
  before_begun w kept =
      let stop : AnswersBefore form bytes talk.begun a.written w = record {
        before = h.takes.ended;
        behind = [];
        text = h.text;
        last = point_of talk;
        cut = h.takes.cut;
        are_answers = h.takes.are_answers;
        writes = Appends-kept a.written v w h.text h.writes kept;
      } in
      (stop, refl)

  -- the end of the input ended that line, and its answer was written
  pub output_written : (last : Talk) (text : List ℕ) (w : Option (List ℕ)) (tally : Tally) → Ends talk text last
      → Appends v w text
      → tally.answered ≡ last.answered → tally.refused ≡ last.refused → WritesOutputIn form bytes a.written w tally
  output_written last text w tally end more answered refused =
      let output = lines_end form bytes h.text text talk (point_of last) h.takes
      (ends_in form bytes h.text text talk last h.takes end) in
      record {
        out = h.text ++ text;
        last = point_of last;
        output = output;
        only = λ other is. output_unique form bytes other (h.text ++ text) is (point_of last, output);
        writes = Appends-trans a.written v w h.text text h.writes more;
        answered = answered;
        refused = refused;
      }

  -- or a prefix of its answer was written
  output_begun : (w : Option (List ℕ)) → BeginsAnswer talk.form (point_of talk) talk.begun v w
      → WritesBeginning form bytes a.written w
  output_begun w part =
      let answer = subst (λ (f : Form). AreAnswersIn f (point_of talk)
      (talk.begun ∷ []) part.answer part.last) h.takes.same_form part.are_answers in
      let output : IsOutputIn form bytes (h.text ++ part.answer) =
      (part.last, lines_end form bytes h.text part.answer talk part.last h.takes answer) in
      record {
        whole = h.text ++ part.answer;
        out = h.text ++ part.out;
        output = output;
        only = λ other is. output_unique form bytes other (h.text ++ part.answer) is output;
        begins = begins_behind h.text part.out part.answer part.begins;
        writes = Appends-trans a.written v w h.text part.out h.writes part.writes;
      }

  -- or it was not answered
  pub end_failed : (b : Traffic) (fault : RunFault) → Consumes a.left b.left bytes
      → IsLineFault talk.form (point_of talk) talk.begun v b.written fault → IsServeFaultIn form a b fault
  end_failed b Read reads why = absurd why
  end_failed b Write reads why = (bytes, reads, output_begun b.written why)
  end_failed b TooLong reads why = absurd why
  end_failed b Start reads why =
      let stop = before_begun b.written why.1 in
      (bytes, talk.begun, reads, stop.0, rw stop.1 why.0)
  end_failed b Memory reads why = (
    bytes,
    talk.begun,
    reads,
    (before_begun b.written why.1).0,
    blank_or_some talk.begun why.0,
    λ blank. let bad : true ≡ false = sym blank ∙ why.0 in cc,
  )

  module _ (piece : List ℕ) (b : Traffic) where
    -- the answer to a later piece was begun
    piece_begun : BeginsInPiece talk piece v b.written → WritesBeginning form (bytes ++ piece) a.written b.written
    piece_begun k =
        let output = each_output form (bytes ++ piece) in
        let front = take k.count piece in
        let whole : bytes ++ piece ≡ (bytes ++ front) ++ drop k.count piece =
        sym (append_assoc bytes front (drop k.count piece) ∙ ap (λ (l : List ℕ). bytes ++ l)
        (take-append-drop k.count piece)) in
        let takes = takes_on (silence_in form) talk k.new bytes front h.text k.whole h.takes k.takes in
        let stands = answer_stands form (bytes ++ front) (drop k.count piece) (h.text ++ k.whole) output.0 k.new takes
        (subst (λ (l : List ℕ). IsOutputIn form l output.0) whole output.1) in
        record {
          whole = output.0;
          out = h.text ++ k.out;
          output = output.1;
          only = λ other is. output_unique form (bytes ++ piece) other output.0 is output.1;
          begins = begins-trans (h.text ++ k.out) (h.text ++ k.whole) output.0
              (begins_behind h.text k.out k.whole k.begins) stands;
          writes = Appends-trans a.written v b.written h.text k.out h.writes k.writes;
        }

    module _ (fault : RunFault) (new : Talk) (k : StopsInPiece fault talk piece new v b.written) where
      -- or it stops at a line, after which there is none if the rest of the piece does not end it
      piece_stopped : (line : List ℕ) × (stop : AnswersBefore form (bytes ++ piece) line a.written b.written)
          × IsTakeFault stop.last line (drop k.count piece) fault
          × (lines_of (drop k.count piece) ≡ drop k.count piece ∷ [] → stop.behind ≡ [])
      piece_stopped =
          let front = take k.count piece in
          let rest = drop k.count piece in
          let said = says_on (silence_in form) talk new bytes front a.written v b.written h k.says in
          let whole : bytes ++ piece ≡ (bytes ++ front) ++ rest =
          sym (append_assoc bytes front rest ∙ ap (λ (l : List ℕ). bytes ++ l) (take-append-drop k.count piece)) in
          let first = first_line_is rest in
          let onward = lines_go_on (bytes ++ front) new.begun said.takes.ended said.takes.cut rest in
          let alone = begun_alone (bytes ++ front) new.begun said.takes.ended said.takes.cut in
          let line = line_goes_on new.begun rest (before_first ends_line rest) first.0 alone first.1 in
          let answers : AnswersBefore form (bytes ++ piece) (carried new rest) a.written b.written = record {
            before = said.takes.ended;
            behind = first.0;
            text = said.text;
            last = point_of new;
            cut = ap lines_of whole ∙ (onward ∙ ap (λ (ls : List (List ℕ)). said.takes.ended ++ ls) line);
            are_answers = said.takes.are_answers;
            writes = said.writes;
          } in
          (carried new rest, answers, k.untaken, λ one. ap (λ (ls : List (List ℕ)). drop 1 ls) (sym first.1 ∙ one))

      -- this is all that the bytes have after the last newline, if there were few
      stopped_at_last : length talk.begun + length piece ≤ most_bytes + 1
          → most_bytes < length (carried new (drop k.count piece))
          → (last : Talk) × Says (silence_in form) (bytes ++ piece) last a.written b.written
          × (length last.begun ≡ most_bytes + 1)
      stopped_at_last few long =
          let front = take k.count piece in
          let rest = drop k.count piece in
          let alone = begun_alone (talk.begun ++ front) new.begun k.says.takes.ended k.says.takes.cut in
          let short = begun_short (talk.begun ++ front) new.begun k.says.takes.ended k.says.takes.cut in
          let parts : length front + length rest
          ≡ length piece = sym (length-append front rest) ∙ ap length (take-append-drop k.count piece) in
          let bound : length new.begun + length rest ≤ most_bytes + 1 = omega (arith, length-append talk.begun front) in
          let one : lines_of rest ≡ rest ∷ [] =
          one_line rest (omega (
            arith,
            length-append new.begun (before_first ends_line rest),
            length-prefix_len
                (λ x. not (ends_line x)) rest,
          )) in
          let last : Talk = talk_at new.form (point_of new) (new.begun ++ rest) in
          let tail : Says new rest last b.written b.written = record
          { text = []; takes = takes_none new last rest alone one refl refl refl; writes = Appends-nil b.written } in
          let said = says_on (silence_in form) talk last bytes (front ++ rest) a.written v b.written h
          (says_on talk new last front rest v b.written b.written k.says tail) in
          let exact : length (new.begun ++ rest) ≡ most_bytes + 1 =
          omega (
            arith,
            length-append new.begun rest,
            length-append new.begun (before_first ends_line rest),
            length-prefix_len (λ x. not (ends_line x)) rest,
            prefix_len-le-length (λ x. not (ends_line x)) rest,
          ) in (
            last,
            subst (λ (l : List ℕ). Says (silence_in form) (bytes ++ l) last a.written b.written)
                (take-append-drop k.count piece) said,
            exact,
          )

    -- the piece was not answered to its end
    pub piece_failed : (new : Talk) (fault : RunFault) → Consumes a.left b.left (bytes ++ piece)
        → length talk.begun + length piece ≤ most_bytes + 1 → IsPieceFault talk piece new v b.written fault
        → IsServeFaultIn form a b fault
    piece_failed new Read reads few why = absurd why.untaken
    piece_failed new Write reads few why = (bytes ++ piece, reads, piece_begun why)
    piece_failed new TooLong reads few why =
        let last = stopped_at_last TooLong new why few why.untaken in
        (bytes ++ piece, last.0, reads, last.1, last.2)
    piece_failed new Start reads few why =
        let stopped = piece_stopped Start new why in
        (bytes ++ piece, stopped.0, reads, stopped.1, stopped.2)
    piece_failed new Memory reads few why =
        let stopped = piece_stopped Memory new why in
        (bytes ++ piece, stopped.0, reads, stopped.1, stopped.2.0, λ blank. stopped.3 (stopped.2.1 blank))
