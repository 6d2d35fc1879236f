use Rattle.std.proofs.Common.{arith, false, get_or, refl, sym, ◌∙◌, ◌≡◌}
use Rattle.std.proofs.lemmas.Bool.{false≢true}
use Rattle.std.proofs.lemmas.List.{get_or_read}
use Rattle.fr_nearest.specs.Marks.{IsMarked}
use Rattle.fr_nearest.proofs.Marking.{marked_none, marks_it, place_left}
use Rattle.fr_nearest.proofs.affected.Marks.mark.Goals as goal

pub push_reserved-requires : goal.push_reserved-requires
push_reserved-requires c =
    let was = c.args.self.now in
    let read = get_or_read was.marked.items c.args.x c.index.result.now c.requires.node c.index.ensures false in
    let fresh : ¬ IsMarked was c.args.x = λ is. false≢true (sym c.if-not-index.true ∙ (read ∙ is)) in
    omega (arith, place_left c.requires.marks c.requires.node fresh, was.nodes.ok.0)

pub returns-then-not-index : goal.returns-then-not-index
returns-then-not-index c =
    let was = c.args.self.now in
    let read = get_or_read was.marked.items c.args.x c.index.result.now c.requires.node c.index.ensures false in
    let fresh : ¬ IsMarked was c.args.x = λ is. false≢true (sym c.if-not-index.true ∙ (read ∙ is)) in
    marks_it c.requires.marks c.requires.node fresh refl c.push_reserved.ensures.items c.push_reserved.ensures.capacity

pub returns-else-not-index : goal.returns-else-not-index
returns-else-not-index c =
    let was = c.args.self.now in
    let read : c.index.result.now ≡ get_or was.marked.items c.args.x false =
    get_or_read was.marked.items c.args.x c.index.result.now c.requires.node c.index.ensures false in
    marked_none (λ y. y ≡ c.args.x) (λ y. y ≡ c.args.x) c.requires.marks
    (λ y e. rw e ((c.requires.marks.same c.args.x).0 (sym read ∙ c.if-not-index.false)))
