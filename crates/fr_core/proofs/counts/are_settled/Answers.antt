use Rattle.std.proofs.Common.{arith, inl, inr, refl, subst, ◌≡◌}
use Rattle.std.proofs.lemmas.Bool.{cases_lt, false≢true}
use Rattle.fr_core.proofs.Settling.{settled_from_none}
use Rattle.fr_core.proofs.Unique.{none_at_settled}
use Rattle.fr_core.proofs.Turning.{can_turn_below}
use Rattle.fr_core.specs.History.{moment_of}
use Rattle.fr_core.specs.Legal.{CanTurn}
use Rattle.fr_core.proofs.counts.are_settled.Goals as goal

pub returns-then-can_turn : goal.returns-then-can_turn
returns-then-can_turn c =
    let net = c.args.net.now in (
      λ f. absurd (false≢true f),
      λ settled. absurd (none_at_settled net.nodes c.args.dest net.links c.network_law.ensures.is_net c.requires.node
          c.args.counts.now settled c.loop-x.x (c.can_turn.ensures.0 c.if-can_turn.true)),
    )

pub loop-x-preserved : goal.loop-x-preserved
loop-x-preserved c = λ y below can. elim (cases_lt y c.loop-x.x) [
  | inl less ↦ c.loop-x.invariant y less can
  | inr ge ↦
      let e : y ≡ c.loop-x.x = omega (arith, below, ge) in
      absurd (cc (
        c.can_turn.ensures.1
            (subst (CanTurn c.args.net.now.nodes c.args.dest (moment_of c.args.net.now.links c.args.counts.now)) e can),
        c.if-can_turn.false,
      ))
]

pub returns : goal.returns
returns c =
    let net = c.args.net.now in
    let known = c.network_law.ensures.is_net in (
      λ t. settled_from_none net.nodes c.args.dest net.links known c.requires.node c.args.counts.now c.requires.lawful
          (λ x can. (let below = can_turn_below net.nodes c.args.dest net.links known
          (moment_of net.links c.args.counts.now) refl x can in c.loop-x.invariant x (omega (arith, below)) can)),
      λ settled. refl,
    )
