use Rattle.std.proofs.Common.{take, true, ◌≡◌}
use Rattle.fr_route.specs.Blank.{is_blank}
use Rattle.fr_route.proofs.blank.is_blank.Given as goal

-- the bytes so far are blank
abbrev pub invariant-loop-byte : goal.invariant-loop-byte
invariant-loop-byte l = is_blank (take l.byte-index l.line) ≡ true
