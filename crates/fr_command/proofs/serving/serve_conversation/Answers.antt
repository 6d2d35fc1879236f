use Rattle.std.proofs.Common.{◌≡◌, ◌<◌, ◌≤◌, ◌+◌, ◌++◌, ℕ, List, Option, length, length-append}
use Rattle.std.proofs.Common.{length-drop, length-take, take, drop, ap, refl, subst, sym, arith}
use Rattle.std.proofs.lemmas.Result.{IfErr-weaker, IfOk-weaker}
use Rattle.std.specs.Io.KnownBytes.{Appends}
use Rattle.fr_bytes.specs.Bytes.{most_bytes}
use Rattle.fr_bytes.proofs.Results.{handed_on}
use Rattle.fr_command.specs.Conversations.{Ends, Says, point_of, silence_in}
use Rattle.fr_command.specs.Faults.{IsServeFaultIn}
use Rattle.fr_command.specs.InLines.{IsLineFault}
use Rattle.fr_command.specs.Services.{Serves}
use Rattle.fr_command.specs.declared.responder.Tally.{Tally}
use Rattle.fr_command.proofs.InTime.{in_time_first, in_time_on, read_in_time}
use Rattle.fr_command.proofs.Served.{HasServed, answers_says, nothing_served, read_nothing, read_on}
use Rattle.fr_command.proofs.InTime.{read_by}
use Rattle.fr_command.proofs.Served.{output_written, end_failed, piece_failed, says_on}
use Rattle.fr_command.proofs.serving.serve_conversation.Goals as goal

pub reads-init : goal.reads-init
reads-init g c =
    let first = g.S.Stream.traffic c.args.stream.now in
    let talk = c.args.conversation.now in
    record {
      served = nothing_served talk.form first.left first.written talk c.requires;
      in_time = in_time_first talk.form first.log talk c.requires;
      long = refl;
    }

-- what was said before a read, which writes nothing
said_at : (form : _) (bytes : List ℕ) (talk : _) (u v w : Option (List ℕ)) → w ≡ v
    → Says (silence_in form) bytes talk u v
    → Says (silence_in form) bytes talk u w
said_at form bytes talk u v w same h =
    subst (λ (x : Option (List ℕ)). Says (silence_in form) bytes talk u x) (sym same) h

pub returns-then-count-eq0-clause-ok : goal.returns-then-count-eq0-clause-ok
returns-then-count-eq0-clause-ok g c =
    let h = c.reads.invariant.served in
    let first = g.S.Stream.traffic c.args.stream.now in
    let old = g.S.Stream.traffic c.reads.stream in
    let mid = g.S.Stream.traffic c.read.new.self in
    let new = g.S.Stream.traffic c.answer_last_line.new.stream in
    let is = c.in_ok-count.ensures.ok in
    let reads = read_nothing first.left old.left mid.left h.bytes c.read.new.piece c.in_ok-count.count
    c.if-count-eq0.true h.reads is.0 in
    let some : 0 < length (take c.min-room.result c.reads.piece) =
    omega (
      arith,
      c.min-room.ensures,
      c.begun.ensures.within,
      ap length c.begun.ensures.line,
      length-take c.min-room.result c.reads.piece,
      c.reads.invariant.long,
    ) in
    let form = c.args.conversation.now.form in
    let talk = c.reads.conversation in
    let last = c.answer_last_line.new.conversation in
    let says = said_at form h.bytes talk first.written old.written mid.written is.1 h.says in
    let unread = c.answer_last_line.ensures.unread.0 in
    IfOk-weaker c.answer_last_line.result
    (λ (tally : Tally). (text : List ℕ) × Ends talk text last × Appends mid.written new.written text
    × (tally.answered ≡ last.answered) × (tally.refused ≡ last.refused))
    (Serves form first new)
    (λ tally end. (
      h.bytes,
      rw unread reads,
      rw unread (c.in_ok-count.ensures.end c.if-count-eq0.true some),
      output_written form h.bytes talk first mid.written says last end.0 new.written tally end.1 end.2 end.3 end.4,
    ))
    c.answer_last_line.ensures.ok

pub returns-then-count-eq0-clause-fault : goal.returns-then-count-eq0-clause-fault
returns-then-count-eq0-clause-fault g c =
    let h = c.reads.invariant.served in
    let first = g.S.Stream.traffic c.args.stream.now in
    let old = g.S.Stream.traffic c.reads.stream in
    let mid = g.S.Stream.traffic c.read.new.self in
    let new = g.S.Stream.traffic c.answer_last_line.new.stream in
    let is = c.in_ok-count.ensures.ok in
    let reads = read_nothing first.left old.left mid.left h.bytes c.read.new.piece c.in_ok-count.count
    c.if-count-eq0.true h.reads is.0 in
    let talk = c.reads.conversation in
    let form = c.args.conversation.now.form in
    let says = said_at form h.bytes talk first.written old.written mid.written is.1 h.says in
    IfErr-weaker c.answer_last_line.result (IsLineFault talk.form (point_of talk) talk.begun mid.written new.written)
    (IsServeFaultIn form first new)
    (λ fault why. end_failed form h.bytes talk first mid.written says new fault
    (rw c.answer_last_line.ensures.unread.0 reads) why)
    c.answer_last_line.ensures.fault

pub returns-then-count-eq0-clause-in_time : goal.returns-then-count-eq0-clause-in_time
returns-then-count-eq0-clause-in_time g c =
    read_in_time c.args.conversation.now.form (g.S.Stream.traffic c.args.stream.now).log
    (g.S.Stream.traffic c.reads.stream) (g.S.Stream.traffic c.read.new.self)
    (g.S.Stream.traffic c.answer_last_line.new.stream) c.reads.conversation _ c.reads.invariant.in_time
    c.in_ok-count.ensures.ok c.answer_last_line.ensures.unread

pub reads-preserved : goal.reads-preserved
reads-preserved g c =
    let h = c.reads.invariant.served in
    let first = g.S.Stream.traffic c.args.stream.now in
    let old = g.S.Stream.traffic c.reads.stream in
    let mid = g.S.Stream.traffic c.read.new.self in
    let new = g.S.Stream.traffic c.answer_piece.new.stream in
    let form = c.args.conversation.now.form in
    let talk = c.reads.conversation in
    let last = c.answer_piece.new.conversation in
    let room : List ℕ = drop c.min-room.result c.reads.piece in
    let piece : List ℕ = take c.in_ok-count.count (c.read.new.piece ++ room) in
    let few : c.in_ok-count.count
    ≤ length c.read.new.piece = omega (arith, c.in_ok-count.ensures.bound, c.read.auto.piece) in
    let is = c.in_ok-count.ensures.ok in
    let reads =
    read_on first.left old.left mid.left h.bytes c.read.new.piece room c.in_ok-count.count few h.reads is.0 in
    let says = said_at form h.bytes talk first.written old.written mid.written is.1 h.says in
    let answers = c.in_ok-answer_piece.ensures.ok in
    let served : HasServed form first.left new.left first.written new.written last = record {
      bytes = h.bytes ++ piece;
      reads = rw c.answer_piece.ensures.unread.0 reads;
      says = says_on (silence_in form) talk last h.bytes piece first.written mid.written new.written says
          (answers_says talk last piece mid new answers);
    } in
    record {
      served = served;
      in_time = in_time_on form first.log old mid new talk last piece c.reads.invariant.in_time
          (read_by old mid c.read.new.piece room c.in_ok-count.count few is) answers;
      long = omega (
        arith,
        length-append c.read.new.piece room,
        c.read.auto.piece,
        length-take c.min-room.result c.reads.piece,
        length-drop c.min-room.result c.reads.piece,
        c.reads.invariant.long,
      );
    }

pub returns-in_err-answer_piece-clause-fault : goal.returns-in_err-answer_piece-clause-fault
returns-in_err-answer_piece-clause-fault g c =
    let h = c.reads.invariant.served in
    let first = g.S.Stream.traffic c.args.stream.now in
    let old = g.S.Stream.traffic c.reads.stream in
    let mid = g.S.Stream.traffic c.read.new.self in
    let new = g.S.Stream.traffic c.answer_piece.new.stream in
    let room : List ℕ = drop c.min-room.result c.reads.piece in
    let piece : List ℕ = take c.in_ok-count.count (c.read.new.piece ++ room) in
    let few : c.in_ok-count.count
    ≤ length c.read.new.piece = omega (arith, c.in_ok-count.ensures.bound, c.read.auto.piece) in
    let is = c.in_ok-count.ensures.ok in
    let reads =
    read_on first.left old.left mid.left h.bytes c.read.new.piece room c.in_ok-count.count few h.reads is.0 in
    let short : length c.reads.conversation.begun + length piece ≤ most_bytes + 1 =
    omega (
      arith,
      c.in_ok-count.ensures.bound,
      c.min-room.ensures,
      c.begun.ensures.within,
      ap length c.begun.ensures.line,
      length-take c.in_ok-count.count (c.read.new.piece ++ room),
      length-take c.min-room.result c.reads.piece,
    ) in
    let fault = c.in_err-answer_piece.field-0.0 in
    let exit = c.from_residual-in_err-answer_piece in
    let form = c.args.conversation.now.form in
    let talk = c.reads.conversation in
    let says = said_at form h.bytes talk first.written old.written mid.written is.1 h.says in
    handed_on exit.result fault (IsServeFaultIn form first new) exit.ensures.1
    (piece_failed form h.bytes talk first mid.written says piece new c.answer_piece.new.conversation fault
    (rw c.answer_piece.ensures.unread.0 reads) short c.in_err-answer_piece.ensures.fault)

pub returns-in_err-answer_piece-clause-in_time : goal.returns-in_err-answer_piece-clause-in_time
returns-in_err-answer_piece-clause-in_time g c =
    read_in_time c.args.conversation.now.form (g.S.Stream.traffic c.args.stream.now).log
    (g.S.Stream.traffic c.reads.stream) (g.S.Stream.traffic c.read.new.self)
    (g.S.Stream.traffic c.answer_piece.new.stream) c.reads.conversation _ c.reads.invariant.in_time
    c.in_ok-count.ensures.ok c.in_err-answer_piece.ensures.unread
