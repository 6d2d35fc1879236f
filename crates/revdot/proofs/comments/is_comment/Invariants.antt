use Rattle.std.proofs.Common.{drop, ◌≡◌}
use Rattle.revdot.specs.Comments.{is_comment}
use Rattle.revdot.proofs.comments.is_comment.Given as goal

-- the bytes so far decide nothing
abbrev pub invariant-loop-byte : goal.invariant-loop-byte
invariant-loop-byte l = is_comment (drop l.byte-index l.line) ≡ is_comment l.line
