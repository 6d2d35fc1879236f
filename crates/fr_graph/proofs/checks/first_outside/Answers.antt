use Rattle.std.proofs.Common.{List, add-one, arith, drop, find, get_or, length, nat_le, refl, take_all, ℕ, ◌+◌, ◌<◌}
use Rattle.std.proofs.Common.{◌∙◌, ◌≡◌}
use Rattle.std.proofs.Math.Seq.{drop-cons}
use Rattle.std.proofs.lemmas.Bool.{lt-leb}
use Rattle.std.proofs.lemmas.List.Elements.{All-more}
use Rattle.fr_graph.specs.Evidence.{ends_of}
use Rattle.fr_graph.proofs.checks.first_outside.Goals as goal

-- the ends of a link that are nodes are passed
ends_past : (n : ℕ) (links : List (ℕ × ℕ)) (i : ℕ) → i < length links → (get_or links i (0, 0)).0 < n
    → (get_or links i (0, 0)).1 < n
    → find (nat_le n) (ends_of (drop i links)) ≡ find (nat_le n) (ends_of (drop (i + 1) links))
ends_past n links i inside tail head =
    rw (
      add-one,
      drop-cons links i (0, 0) inside,
      lt-leb n (get_or links i (0, 0)).0 tail,
      lt-leb n (get_or links i (0, 0)).1 head,
    ) refl

pub loop-tail-preserved : goal.loop-tail-preserved
loop-tail-preserved c =
    let tail = c.if-tail-nodes.false in
    let head = c.if-head-nodes.false in
    record {
      below =
          All-more (λ (l : ℕ × ℕ). (l.0 < c.args.nodes)
          × (l.1 < c.args.nodes)) c.args.links.now c.loop-tail.tail-index (0, 0)
          (omega arith) c.loop-tail.invariant.below (omega (arith, tail), omega (arith, head));
      rest = c.loop-tail.invariant.rest
          ∙ ends_past c.args.nodes c.args.links.now c.loop-tail.tail-index (omega arith) (omega (arith, tail)) (omega (
            arith,
            head,
          ));
    }

pub returns-clause-none : goal.returns-clause-none
returns-clause-none c = record {
  some = omega arith;
  below = let whole = take_all c.loop-tail.tail-index c.args.links.now c.loop-tail-test.false in
      rw whole at c.loop-tail.invariant.below;
}
