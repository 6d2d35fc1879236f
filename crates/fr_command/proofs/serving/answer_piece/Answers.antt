use Rattle.std.proofs.Common.{◌≡◌, ◌-◌, [], List, ℕ, length-drop, length, take, drop, sym, subst, arith}
use Rattle.std.proofs.Math.Seq.{take-add}
use Rattle.std.proofs.lemmas.List.{take_all}
use Rattle.std.proofs.lemmas.Result.{on_ok_weaker}
use Rattle.fr_bytes.specs.Streams.{Flushes, Writes}
use Rattle.fr_bytes.proofs.Results.{handed_on, of_the_fault}
use Rattle.fr_bytes.proofs.Traffics.{write_reads_nothing}
use Rattle.fr_bytes.specs.declared.fault.RunFault.TheVariants.{Write}
use Rattle.fr_command.specs.Conversations.{line_size}
use Rattle.fr_command.specs.InPieces.{IsPieceFault, Tells}
use Rattle.fr_command.proofs.InTime.{flush_unread, nothing_on}
use Rattle.fr_command.proofs.Served.{tells_nothing, tells_on, tells_says, tells_still, says_begins, fails_later}
use Rattle.fr_command.proofs.serving.answer_piece.Goals as goal

-- the rest of a piece
rest_is : (piece : List ℕ) (done : ℕ) → take (length piece - done) (drop done piece) ≡ drop done piece
rest_is piece done = take_all (length piece - done) (drop done piece) (omega (arith, length-drop done piece))

pub loop-done-init : goal.loop-done-init
loop-done-init g c = record {
  in_range = omega arith;
  tells = tells_nothing c.args.conversation.now (g.S.Stream.traffic c.args.stream.now) c.requires;
}

pub loop-done-preserved : goal.loop-done-preserved
loop-done-preserved g c =
    let piece : List ℕ = c.args.piece.now in
    let done : ℕ = c.loop-done.done in
    let count : ℕ = c.in_ok-count.count in
    let old = g.S.Stream.traffic c.args.stream.now in
    let new = g.S.Stream.traffic c.answer_first_line.new.stream in
    let size : count ≡ line_size (drop done piece) = rw (rest_is piece done) at c.in_ok-count.ensures.count in
    let more = rw (rest_is piece done) at c.in_ok-count.ensures.ok in
    let told = tells_on c.args.conversation.now c.loop-done.conversation c.answer_first_line.new.conversation
    (take done piece) (take count (drop done piece)) old (g.S.Stream.traffic c.loop-done.stream) new
    c.loop-done.invariant.tells more in
    record {
      in_range = omega (arith, size, length-drop done piece);
      tells = subst (λ (l : List ℕ). Tells c.args.conversation.now l c.answer_first_line.new.conversation old new)
          (sym (take-add done count piece)) told;
    }

pub returns-in_err-count-clause-fault : goal.returns-in_err-count-clause-fault
returns-in_err-count-clause-fault g c =
    let first = c.args.conversation.now in
    let last = c.answer_first_line.new.conversation in
    let piece = c.args.piece.now in
    let done = c.loop-done.done in
    let old = g.S.Stream.traffic c.args.stream.now in
    let mid = g.S.Stream.traffic c.loop-done.stream in
    let new = g.S.Stream.traffic c.answer_first_line.new.stream in
    let fault = c.in_err-count.field-0.0 in
    let why = rw (rest_is piece done) at c.in_err-count.ensures.fault in
    let says = tells_says first c.loop-done.conversation (take done piece) old mid c.loop-done.invariant.tells in
    handed_on c.from_residual.result fault (IsPieceFault first piece last old.written new.written)
    c.from_residual.ensures.1
    (fails_later first c.loop-done.conversation piece done old.written mid.written says last new.written fault why)

pub returns-in_err-count-clause-unread : goal.returns-in_err-count-clause-unread
returns-in_err-count-clause-unread g c =
    let old = g.S.Stream.traffic c.args.stream.now in
    let mid = g.S.Stream.traffic c.loop-done.stream in
    nothing_on old mid (g.S.Stream.traffic c.answer_first_line.new.stream)
    (write_reads_nothing old mid c.loop-done.invariant.tells.text c.loop-done.invariant.tells.writes)
    c.in_err-count.ensures.unread

pub returns-clause-ok : goal.returns-clause-ok
returns-clause-ok g c =
    let piece : List ℕ = c.args.piece.now in
    let first = c.args.conversation.now in
    let last = c.loop-done.conversation in
    let old = g.S.Stream.traffic c.args.stream.now in
    let mid = g.S.Stream.traffic c.loop-done.stream in
    let new = g.S.Stream.traffic c.flush.new.self in
    let all : take c.loop-done.done piece ≡ piece = take_all c.loop-done.done piece (omega arith) in
    let told = subst (λ (l : List ℕ). Tells first l last old mid) all c.loop-done.invariant.tells in
    on_ok_weaker c.flush.result (λ (flushed : Flushes mid new). (mid, told, flushed)) c.flush.ensures.ok

pub returns-clause-fault : goal.returns-clause-fault
returns-clause-fault g c =
    let first = c.args.conversation.now in
    let last = c.loop-done.conversation in
    let piece = c.args.piece.now in
    let done = c.loop-done.done in
    let old = g.S.Stream.traffic c.args.stream.now in
    let mid = g.S.Stream.traffic c.loop-done.stream in
    let new = g.S.Stream.traffic c.flush.new.self in
    of_the_fault c.flush.result Write (IsPieceFault first piece last old.written new.written) (Writes mid new [])
    c.flush.ensures.kind c.flush.ensures.err
    (λ none. says_begins first last piece done old.written new.written (tells_says first last (take done piece) old new
    (tells_still first last (take done piece) old mid new c.loop-done.invariant.tells none)))

pub returns-clause-unread : goal.returns-clause-unread
returns-clause-unread g c =
    let old = g.S.Stream.traffic c.args.stream.now in
    let mid = g.S.Stream.traffic c.loop-done.stream in
    let new = g.S.Stream.traffic c.flush.new.self in
    nothing_on old mid new
    (write_reads_nothing old mid c.loop-done.invariant.tells.text c.loop-done.invariant.tells.writes)
    (flush_unread c.flush.result mid new c.flush.ensures.ok c.flush.ensures.err)
