-- The greatest length of a report.
use Rattle.std.proofs.Common.{arith, codes, length, length-append, ℕ, ◌++◌, ◌<◌, ◌≤◌, ◌^◌}
use Rattle.std.specs.Fmt.{decimal}
use Rattle.std.proofs.lemmas.Fmt.{length-decimal-le}
use Rattle.fr_route.specs.Texts.{longest_report, report_text}

pub report_short : (turned cut : ℕ) → turned < 2 ^ 64 → cut < 2 ^ 64 → length (report_text turned cut) ≤ longest_report
report_short turned cut t c =
    let first : length (decimal turned) ≤ 20 = length-decimal-le 20 turned (omega arith) (omega (arith, t)) t in
    let second : length (decimal cut) ≤ 20 = length-decimal-le 20 cut (omega arith) (omega (arith, c)) c in
    omega (
      arith,
      first,
      second,
      length-append (codes "turned ") (decimal turned ++ (codes " cut " ++ decimal cut)),
      length-append (decimal turned) (codes " cut " ++ decimal cut),
      length-append (codes " cut ") (decimal cut),
    )
