use Rattle.std.proofs.Common.{List, [], ap, arith, cond, length, ltb, sym, ℕ, ◌++◌, ◌+◌, ◌∙◌, ◌∷◌, ◌≡◌}
use Rattle.std.specs.List.{filter}
use Rattle.std.specs.Prelude.{not, ◌==◌}
use Rattle.std.specs.Vec.{with_items}
use Rattle.std.proofs.lemmas.Bool.{false≢true}
use Rattle.std.proofs.lemmas.List.{with_items_is}
use lib.Pointwise.{bytes_decides}
use Rattle.fr_ways.specs.Changes.{IsNotedTo, MayNote, Noted}
use Rattle.fr_ways.specs.Phases.{is_empty, is_way}
use Rattle.fr_ways.proofs.Changing.{few_noted, inside_places, noted_loser, noted_other, noted_same}
use Rattle.fr_ways.proofs.changes.WayChanges.note.Goals as goal
use Rattle.fr_ways.proofs.changes.WayChanges.note.Goals.{After-push_if-2}

pub returns-then-eq-clause-noted : goal.returns-then-eq-clause-noted
returns-then-eq-clause-noted c before after may =
    let equal = (bytes_decides c.args.old.now c.args.new.now).0 (sym c.if-eq.ensures) in
    noted_same before after c.args.x c.args.self.now (may.ways_before ∙ (equal ∙ sym may.ways_after)) may.below

pub loses_way-requires-clause-range : goal.loses_way-requires-clause-range
loses_way-requires-clause-range c = rw c.deref_mut.ensures.value
    (inside_places c.self.inside c.args.self.now c.args.x c.args.old.now c.args.new.now c.self.view_is c.requires).range

pub push-requires : goal.push-requires
push-requires c =
    let p = inside_places c.self.inside c.args.self.now c.args.x c.args.old.now c.args.new.now c.self.view_is
    c.requires in
    record { nodes = omega (arith, p.grow, c.self.invariant.grow); ways = omega (arith, p.grow_ways) }

pub returns-then-not-loses_way-clause-noted : goal.returns-then-not-loses_way-clause-noted
returns-then-not-loses_way-clause-noted c before after may =
    let view = c.self.view_is in
    noted_other before after c.args.x c.args.old.now c.args.new.now c.args.self.now _ may
    (sym c.loses_way.ensures.loses ∙ c.if-not-loses_way.true)
    (λ same. false≢true (c.if-eq.ensures ∙ (bytes_decides c.args.old.now c.args.new.now).1 same))
    (ap (λ (noted : Noted). noted.shrink) view)
    (ap (λ (noted : Noted). noted.emptied) view)
    (c.push.ensures.pairs ∙ ap (λ (noted : Noted). noted.grow ++ (c.args.x, c.args.new.now) ∷ []) view)

pub push_kept-kept-requires-clause-place : goal.push_kept-kept-requires-clause-place
push_kept-kept-requires-clause-place c =
    let p = inside_places c.self.inside c.args.self.now c.args.x c.args.old.now c.args.new.now c.self.view_is
    c.requires in
    record { nodes = omega (arith, p.shrink, c.self.invariant.shrink); ways = omega (arith, p.shrink_ways) }

pub push_kept-kept-requires-clause-range : goal.push_kept-kept-requires-clause-range
push_kept-kept-requires-clause-range c k d low =
    let p = inside_places c.self.inside c.args.self.now c.args.x c.args.old.now c.args.new.now c.self.view_is
    c.requires in
    omega (arith, p.range k d low, c.deref_mut-2.ensures.len, c.self.inside.marks.ok.0)

pub push_if-requires : goal.push_if-requires
push_if-requires c =
    let p = inside_places c.self.inside c.args.self.now c.args.x c.args.old.now c.args.new.now c.self.view_is
    c.requires in
    omega (arith, p.shrink, c.self.invariant.emptied)

pub push_if-requires-2 : goal.push_if-requires-2
push_if-requires-2 c =
    let p = inside_places c.self.inside c.args.self.now c.args.x c.args.old.now c.args.new.now c.self.view_is
    c.requires in
    record { nodes = omega (arith, p.grow, c.self.invariant.grow); ways = omega (arith, p.grow_ways) }

-- the pushes once a node that loses ways is noted
abbrev pushes : After-push_if-2 → Noted
pushes c = record {
  shrink = c.push_kept-kept.new.self.pairs;
  emptied = c.push_if.new.nodes.items;
  grow = c.push_if-2.new.self.pairs;
  nodes = 0;
  ways = 0;
}

noted : (c : After-push_if-2) (before after : List (List ℕ))
    → MayNote before after c.args.x c.args.old.now c.args.new.now c.args.self.now
    → IsNotedTo before after (c.args.x + 1) (pushes c)
noted c before after may =
    let x : ℕ = c.args.x in
    let new = c.args.new.now in
    let view = c.self.view_is in
    let count : ℕ = c.push_kept-kept.result in
    let kept = filter (is_way c.args.old.now) new in
    noted_loser before after x c.args.old.now new c.args.self.now (pushes c) may count
    (sym c.loses_way.ensures.loses ∙ c.if-not-loses_way.false)
    c.push_kept-kept.ensures.kept.0
    (c.push_kept-kept.ensures.kept.1 ∙ ap (λ (noted : Noted). noted.shrink
    ++ cond {A = List (ℕ × List ℕ)} (not (is_empty kept)) ((x, kept) ∷ []) []) view)
    (c.push_if.ensures.items ∙ ap (λ (noted : Noted). noted.emptied ++ cond (count == 0) (x ∷ []) []) view)
    (c.push_if-2.ensures.pairs ∙ ap (λ (noted : Noted). noted.grow
    ++ cond {A = List (ℕ × List ℕ)} (ltb count (length new)) ((x, new) ∷ []) []) view)

pub invariant_of-self-2 : goal.invariant_of-self-2
invariant_of-self-2 c =
    let marks = c.self.inside.marks in
    let (before, after, may) = c.requires in
    let few = few_noted before after (c.args.x + 1) (pushes (goal.at.invariant_of-self-2 c).After-push_if-2)
    (noted (goal.at.invariant_of-self-2 c).After-push_if-2 before after may) in
    let first : (with_items marks c.loses_way.new.noted).items ≡ marks.items =
    with_items_is marks c.loses_way.new.noted
    (omega (arith, ap length (c.loses_way.ensures.same ∙ c.deref_mut.ensures.value), marks.ok.0))
    ∙ (c.loses_way.ensures.same ∙ c.deref_mut.ensures.value) in
    let is : c.push_kept-kept.new.noted ≡ marks.items =
    c.push_kept-kept.ensures.same ∙ (c.deref_mut-2.ensures.value ∙ first) in
    let second : (with_items (with_items marks c.loses_way.new.noted) c.push_kept-kept.new.noted).items ≡ marks.items =
    with_items_is (with_items marks c.loses_way.new.noted) c.push_kept-kept.new.noted
    (omega (arith, ap length is, marks.ok.0))
    ∙ is in
    record {
      clear = rw second c.self.invariant.clear;
      shrink = omega (arith, ap length second, c.push_kept-kept.ensures.room.nodes, c.self.invariant.shrink);
      grow = omega (arith, ap length second, c.push_if-2.ensures.room.nodes, c.self.invariant.grow);
      emptied = omega (arith, ap length second, c.push_if.ensures.same_room, c.self.invariant.emptied);
      few = omega (
        arith,
        ap length second,
        few,
        may.inside,
        may.room.nodes,
        ap (λ (noted : Noted). noted.nodes) c.self.view_is,
      );
    }

pub returns-clause-noted : goal.returns-clause-noted
returns-clause-noted c before after may =
    let is = noted (goal.at.returns-clause-noted c).After-push_if-2 before after may in
    record { shrink = is.shrink; emptied = is.emptied; grow = is.grow }
