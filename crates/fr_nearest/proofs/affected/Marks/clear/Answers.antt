use Rattle.std.proofs.Common.{ap, arith, get_or, length, ◌∙◌, ◌<◌, ◌≡◌, ℕ}
use Rattle.std.specs.Vec.{with_items}
use Rattle.std.proofs.lemmas.List.{with_items_is}
use Rattle.std.proofs.lemmas.List.Elements.{Contains-get_or}
use Rattle.fr_nearest.specs.Marks.{IsUnmarked}
use Rattle.fr_nearest.proofs.Marking.{cleared}
use Rattle.fr_nearest.proofs.affected.Marks.clear.Goals as goal

pub unmark-requires : goal.unmark-requires
unmark-requires c =
    let nodes = c.args.self.now.nodes.items in
    let low : (k d : ℕ) → k < length nodes → get_or nodes k d < length c.args.self.now.marked.items = λ k d l.
    c.requires.below (get_or nodes k d) (Contains-get_or nodes k d l) in
    rw (c.deref.ensures.value, c.deref_mut.ensures.value) low

pub returns : goal.returns
returns c =
    let was = c.args.self.now in
    let t : IsUnmarked was.nodes.items was.marked.items c.unmark.new.marked =
    rw (c.deref.ensures.value, c.deref_mut.ensures.value) at c.unmark.ensures in
    let marked_is : (with_items was.marked c.unmark.new.marked).items ≡ c.unmark.new.marked =
    with_items_is was.marked c.unmark.new.marked (omega (arith, t.long, was.marked.ok.0)) in
    record {
      marks = cleared c.requires t marked_is c.clear.ensures.items c.clear.ensures.capacity;
      none = c.clear.ensures.items;
      long = ap length marked_is ∙ t.long;
    }
