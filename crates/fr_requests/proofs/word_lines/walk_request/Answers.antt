use Rattle.std.proofs.Common.{arith, ◌<◌, ◌^◌}
use Rattle.fr_requests.proofs.ByteLines.{walk_reads}
use Rattle.fr_requests.proofs.word_lines.walk_request.Goals as goal

pub returns : goal.returns
returns c =
    let small : c.in_ok-x.x < 2 ^ 32 = grind arith in
    walk_reads _ _ small c.in_ok-x.ensures
