use Rattle.std.proofs.Common.{◌-◌, string_bytes}
use Rattle.fr_route.proofs.Walking.{HasWritten}
use Rattle.fr_route.proofs.questions.route_line.Given as goal

abbrev pub invariant-hops : goal.invariant-hops
invariant-hops l = HasWritten l.router l.x l.at l.count (string_bytes l.line)

abbrev pub decreases-hops : goal.decreases-hops
decreases-hops l = l.router.nodes - l.count
