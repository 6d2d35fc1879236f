use Rattle.std.proofs.Common.{List, ap, arith, get_or, inl, inr, length, length-set, subst, sym, take, ℕ}
use Rattle.std.proofs.Common.{⊎_elim, ◌+◌, ◌<◌, ◌∙◌, ◌≡◌, ◌⊎◌}
use Rattle.std.proofs.lemmas.Grind.{get_or_default_zero}
use Rattle.fr_route.specs.NodeWays.{AreNodeWays}
use Rattle.fr_route.specs.States.{State}
use Rattle.fr_ways.specs.Ways.{ways}
use Rattle.fr_readers.proofs.Altered.{set_others}
use Rattle.fr_readers.proofs.FirstWays.{set_each, ways_low}
use Rattle.fr_readers.proofs.ways.set_listed_ways.Goals as goal

pub write_ways-count-requires-clause-node : goal.write_ways-count-requires-clause-node
write_ways-count-requires-clause-node c =
    omega (
      arith,
      c.requires.nodes c.loop-x.x-index 0 c.loop-x-test.true,
      ap (λ (s : State). s.nodes) c.loop-x.invariant.same,
    )

pub write_ways-count-requires-clause-space : goal.write_ways-count-requires-clause-space
write_ways-count-requires-clause-space c =
    omega (
      arith,
      c.loop-x.invariant.space,
      c.requires.settled.few,
      ap (λ (s : State). s.nodes) c.loop-x.invariant.same,
    )

pub set-requires-clause-node : goal.set-requires-clause-node
set-requires-clause-node c =
    omega (
      arith,
      c.requires.nodes c.loop-x.x-index 0 c.loop-x-test.true,
      c.loop-x.invariant.long,
      c.requires.settled.few,
    )

pub set-requires-clause-low : goal.set-requires-clause-low
set-requires-clause-low c =
    let s = c.args.router.now in
    let x : ℕ = get_or c.args.nodes.now c.loop-x.x-index 0 in
    let list : List ℕ = take c.write_ways-count.result c.write_ways-count.new.space in
    let are : AreNodeWays s x list =
    subst (λ (r : State). AreNodeWays r x list) c.loop-x.invariant.same c.write_ways-count.ensures.ways in
    ways_low s c.requires.settled x list are

pub loop-x-preserved : goal.loop-x-preserved
loop-x-preserved c =
    let inv = c.loop-x.invariant in
    let s = c.args.router.now in
    let nodes = c.args.nodes.now in
    let i : ℕ = c.loop-x.x-index in
    let x : ℕ = get_or nodes i 0 in
    let wanted = c.loop-x.wanted in
    let list : List ℕ = take c.write_ways-count.result c.write_ways-count.new.space in
    let are : AreNodeWays s x list =
    subst (λ (r : State). AreNodeWays r x list) inv.same c.write_ways-count.ensures.ways in
    let inside : i < length nodes = c.loop-x-test.true in
    let low : x < length wanted = omega (arith, c.requires.nodes i 0 inside, inv.long, c.requires.settled.few) in
    record {
      same = c.write_ways-count.ensures.same ∙ inv.same;
      long = ap length c.set.ensures ∙ (length-set wanted x (take 5 list) ∙ inv.long);
      space = c.write_ways-count.ensures.length ∙ inv.space;
      each = subst (λ (t : List (List ℕ)). (k : ℕ) → k < i + 1
          → (l : List ℕ) × AreNodeWays s (get_or nodes k 0) l × (ways t (get_or nodes k 0) ≡ take 5 l))
          (sym c.set.ensures) (set_each (AreNodeWays s) (λ (k : ℕ). get_or nodes k 0) i wanted list low inv.each are);
      others = subst (λ (t : List (List ℕ)). (y : ℕ) → ((k : ℕ) × (k < i + 1) × (get_or nodes k 0 ≡ y))
          ⊎ (ways t y ≡ ways c.args.wanted.now y))
          (sym c.set.ensures) (set_others nodes i c.args.wanted.now wanted (take 5 list) inv.others);
    }

pub returns-clause-listed : goal.returns-clause-listed
returns-clause-listed c = λ x (k, low, is).
    let s = c.args.router.now in
    let nodes = c.args.nodes.now in
    let here : get_or nodes k 0 ≡ x = sym (get_or_default_zero nodes k x low) ∙ is in
    let all : length nodes ≡ c.loop-x.x-index = omega (arith, c.loop-x-test.false, c.loop-x.auto.x-index-end) in
    subst (λ (y : ℕ). (list : List ℕ) × AreNodeWays s y list × (ways c.loop-x.wanted y ≡ take 5 list)) here
    (c.loop-x.invariant.each k (omega (arith, low, all)))

pub returns-clause-others : goal.returns-clause-others
returns-clause-others c = λ x. ⊎_elim
    (λ found.
    let (k, low, is) = found in
    let nodes = c.args.nodes.now in
    let inside : k < length nodes = omega (arith, low, c.loop-x.auto.x-index-end) in
    inl (k, inside, get_or_default_zero nodes k x inside ∙ is))
    (λ same. inr same)
    (c.loop-x.invariant.others x)
