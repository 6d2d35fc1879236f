use Rattle.std.proofs.Common.{List, arith, subst, sym, ◌≡◌}
use Rattle.fr_graph.proofs.Undoing.{last_done, no_steps, rooms_kept, still_done}
use Rattle.fr_graph.specs.Graph.{AreDone, CanUndo, HasRoomFor, IsDone, shown}
use Rattle.fr_graph.specs.Network.{Network}
use Rattle.fr_graph.specs.declared.graph.Effect.{Effect}
use Rattle.fr_graph.proofs.graph.Graph.undo_all.Goals as goal
use Rattle.fr_graph.proofs.graph.Graph.undo_all.Goals.{In-Some}

-- the network before the last step that is still to be undone
last : (c : In-Some) (first : Network) → CanUndo first c.args.done.now.items c.args.self.now
    → (mid : Network) × (AreDone c.loop-last.self first c.pop.new.self.items mid
    × (HasRoomFor c.loop-last.self mid × IsDone mid c.in-Some.last (shown c.loop-last.self)))
last c first can =
    last_done c.loop-last.self first c.pop.new.self.items c.in-Some.last (shown c.loop-last.self)
    (subst (λ (ds : List Effect). AreDone c.loop-last.self first ds (shown c.loop-last.self)) c.in-Some.ensures.items
    (c.loop-last.invariant.undo first can))

pub undo-requires-clause-done : goal.undo-requires-clause-done
undo-requires-clause-done c =
    let mid = last (goal.at.undo-requires-clause-done c).In-Some c.requires.done.0 c.requires.done.1 in
    (mid.0, mid.1.1.1, mid.1.1.0)

pub loop-last-preserved : goal.loop-last-preserved
loop-last-preserved c = record {
  graph = c.undo.ensures.graph;
  undo = λ first can.
      let mid = last (goal.at.loop-last-preserved c).In-Some first can in
      let back : shown c.undo.new.self ≡ mid.0 = c.undo.ensures.undone mid.0 mid.1.1.1 in
      still_done c.loop-last.self c.undo.new.self first c.pop.new.self.items (shown c.undo.new.self)
      (rooms_kept c.loop-last.self c.undo.new.self c.undo.ensures.rooms)
      (subst (λ (m : Network). AreDone c.loop-last.self first c.pop.new.self.items m) (sym back) mid.1.0);
}

pub returns-clause-undone : goal.returns-clause-undone
returns-clause-undone c = λ first can.
    no_steps c.loop-last.self first c.loop-last.done.items (shown c.loop-last.self)
    (omega (arith, c.in_default.ensures.cases.0, c.loop-last.done.ok.0)) (c.loop-last.invariant.undo first can)
