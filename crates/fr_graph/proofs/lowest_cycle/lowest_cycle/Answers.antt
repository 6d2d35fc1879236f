use Rattle.std.proofs.Common.{arith, length, sym, ◌+◌, ◌-◌, ◌∙◌, ◌≡◌}
use Rattle.std.proofs.lemmas.List.{length-map}
use Rattle.std.proofs.lemmas.Result.{IfOk-weaker}
use Rattle.fr_graph.proofs.LowestPaths.{descent_begins, descent_ends}
use Rattle.fr_graph.specs.Descents.{nodes_of}
use Rattle.fr_graph.specs.declared.lowest_cycle.Step.{Step}
use Rattle.fr_graph.proofs.lowest_cycle.lowest_cycle.Goals as goal

pub loop-descent-init : goal.loop-descent-init
loop-descent-init c =
    let begun =
    descent_begins c.args.rows.now c.args.v c.args.u c.in_ok-descent.descent c.requires.v c.requires.u c.requires.leads
    (rw c.len.ensures at c.in_ok-descent.ensures) in
    record { descent = begun.0; start = begun.1; end = c.in_ok-descent.ensures.to_is }

pub returns : goal.returns
returns c =
    let inv = c.loop-descent.invariant in
    let path = c.loop-descent.descent.path in
    let last = path.len - 1 in
    let whole : last + 1 ≡ length (nodes_of path.items) =
    omega (arith, inv.descent.full, path.ok.0, length-map path.items (λ (s : Step). s.node)) in
    let ends =
    descent_ends inv.descent last whole (sym c.last_on_path.ensures ∙ c.loop-descent-test.false ∙ sym inv.end) in
    IfOk-weaker c.closed_walk.result _ _ (λ walk is. rw is (rw inv.end (rw (inv.end, inv.start) at ends)))
    c.closed_walk.ensures
