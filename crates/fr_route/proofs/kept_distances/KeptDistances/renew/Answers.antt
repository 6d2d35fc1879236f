use Rattle.std.proofs.Common.{inl, inr, subst, ℕ, ⊎_elim, ◌<◌, ◌⊎◌}
use Rattle.std.specs.List.{All, Contains}
use Rattle.fr_graph.proofs.TurnedNodes.{turned_below}
use Rattle.fr_graph.specs.Turns.{AreTurned}
use Rattle.fr_route.specs.NodeWays.{HasTurnedEnd}
use Rattle.fr_route.proofs.kept_distances.KeptDistances.renew.Goals as goal

pub renew-requires-clause-old : goal.renew-requires-clause-old
renew-requires-clause-old c =
    let old = c.requires.old c.if-self.true in
    let counts = c.args.outcome.now.turns in
    let nodes = c.nodes.result.now in
    let turned : AreTurned counts nodes = c.nodes.ensures in
    let listed : (x w : ℕ) → HasTurnedEnd counts x w → Contains nodes x ⊎ Contains nodes w = λ x w is.
    ⊎_elim (λ h. inl ((turned.each x).1 h)) (λ h. inr ((turned.each w).1 h)) is in
    record {
      links = old.links;
      node = old.node;
      were = old.were;
      edits = old.ends;
      turned = subst (λ (n : ℕ). All (λ (x : ℕ). x < n) nodes) old.counted (turned_below counts nodes turned);
      kept = λ x w link. ⊎_elim (λ cut. inl cut)
          (λ left. inr (⊎_elim (λ same. inl same) (λ back. inr (back.0, listed x w back.1)) left)) (old.kept x w link);
      new = λ x w link. ⊎_elim (λ add. inl add)
          (λ left. inr (⊎_elim (λ was. inl was) (λ ends. inr (listed x w ends)) left)) (old.new x w link);
    }
