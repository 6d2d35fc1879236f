use Rattle.std.proofs.Common.{List, replicate, subst, sym, ℕ, ◌<◌, ◌∙◌, ◌≡◌}
use Rattle.std.proofs.lemmas.Bool.{false≢true}
use Rattle.fr_core.proofs.Finishing.{zeros_lawful}
use Rattle.fr_core.proofs.Settling.{settled_from_none}
use Rattle.fr_core.specs.History.{moment_of}
use Rattle.fr_core.specs.Legal.{CanTurn, NoneCanTurn}
use Rattle.fr_crew.proofs.Beginning.{counted, zeros_hold}
use Rattle.fr_crew.specs.Settlements.{HoldsSinks}
use Rattle.fr_route.proofs.settling.Settler.settled_from.Goals as goal

pub returns-then-not-any_can_turn-clause-answer : goal.returns-then-not-any_can_turn-clause-answer
returns-then-not-any_can_turn-clause-answer g c =
    let net = c.args.net.now in
    let n = net.nodes in
    let d = c.args.dest in
    let from : (d < n) × HoldsSinks net d c.args.from.now = c.requires.from in
    let zeros : List ℕ = replicate n 0 in
    let counts : c.counts.result.now ≡ zeros = c.counts.ensures ∙ c.requires.none in
    let none : NoneCanTurn n d (moment_of net.links zeros) =
    λ x can.
    let (k, low, at) = (zeros_hold net d c.args.from.now from.1).all x can in
    false≢true (sym c.if-not-any_can_turn.true
    ∙ c.any_can_turn.ensures.1 (
      k,
      x,
      low,
      at,
      subst (λ (table : List ℕ). CanTurn n d (moment_of net.links table) x) (sym counts) can,
    )) in
    let is_net = c.network_law.ensures.is_net in
    record {
      settled = rw c.requires.none (counted n d net.links is_net from.0 zeros
          (settled_from_none n d net.links is_net from.0 zeros (zeros_lawful n d net.links) none));
      range = tt;
      still = λ _. tt;
    }
