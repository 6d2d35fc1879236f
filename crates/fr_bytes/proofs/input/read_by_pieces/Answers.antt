use Rattle.std.proofs.Common.{◌++◌, ◌+◌, ◌<◌, ◌≤◌, List, ℕ, length, take, arith, length-append}
use Rattle.std.proofs.lemmas.List.{length-take}
use Rattle.std.proofs.KnownBytes.{Consumes-trans}
use Rattle.fr_bytes.specs.Bytes.{most_bytes}
use Rattle.fr_bytes.proofs.input.read_by_pieces.Goals as goal

-- the last bytes were read, but are not kept
pub returns-then-is_err-clause-limit : goal.returns-then-is_err-clause-limit
returns-then-is_err-clause-limit g c =
    let last : List ℕ = take c.in_ok-count.count c.read_piece.new.piece in
    let few : length (c.reads.input.items ++ last) ≤ most_bytes + 1 = simp (length-append, length-take)
    (omega (arith, c.in_ok-count.ensures.bound, length-take c.min-room.result c.reads.piece)) in
    (c.reads.input.items ++ last, Consumes-trans _ _ _ _ _ c.reads.invariant.taken c.in_ok-count.ensures.bytes, few)

-- there were some
pub returns-then-is_err-clause-fault : goal.returns-then-is_err-clause-fault
returns-then-is_err-clause-fault g c =
    let last : List ℕ = take c.in_ok-count.count c.read_piece.new.piece in
    let some : 0 < length (c.reads.input.items ++ last) = simp (length-append, length-take)
    (omega (arith, c.in_ok-count.ensures.bound, length-take c.min-room.result c.reads.piece)) in
    (c.reads.input.items ++ last, Consumes-trans _ _ _ _ _ c.reads.invariant.taken c.in_ok-count.ensures.bytes, some)
