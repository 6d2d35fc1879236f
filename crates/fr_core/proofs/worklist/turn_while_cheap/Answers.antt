use Rattle.std.proofs.Common.{List, arith, drop, length, subst, sym, take, ℕ, ◌-◌, ◌≤◌, ◌≡◌}
use Rattle.std.proofs.lemmas.List.{length-drop, take_all}
use Rattle.fr_core.proofs.Worklists.{held_among}
use Rattle.fr_core.specs.Finish.{HoldsAllThatCanTurn}
use Rattle.fr_core.proofs.worklist.turn_while_cheap.Goals as goal

pub turn_with_long_list-requires-else-end-len-clause-from : goal.turn_with_long_list-requires-else-end-len-clause-from
turn_with_long_list-requires-else-end-len-clause-from c =
    let net = c.args.net.now in
    let turned = c.turn_queued_while_cheap-end in
    let work : List ℕ = turned.new.work in
    let rest : List ℕ = drop turned.result work in
    let within : turned.result ≤ length work = omega (arith, c.len.ensures.value) in
    let whole : take (length work - turned.result) rest ≡ rest =
    take_all (length work - turned.result) rest (omega (arith, length-drop turned.result work)) in
    rw c.nodes.ensures (subst (HoldsAllThatCanTurn net.nodes c.args.dest net.links turned.new.turns) (sym whole)
    (held_among net c.args.dest turned.new.turns work turned.result within turned.ensures.work))
