use Rattle.std.proofs.Common.{arith, ◌<◌, ◌^◌}
use Rattle.fr_requests.proofs.ByteLines.{dest_reads}
use Rattle.fr_requests.proofs.word_lines.destination_request.Goals as goal

pub returns : goal.returns
returns c =
    let small : c.in_ok-dest.dest < 2 ^ 32 = grind arith in
    dest_reads _ _ small c.in_ok-dest.ensures
