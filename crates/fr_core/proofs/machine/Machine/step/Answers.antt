use Rattle.std.proofs.Common.{List, ap, arith, drop, length, slice_set, subst, sym, take, ℕ, ◌++◌, ◌<◌, ◌∙◌}
use Rattle.std.proofs.lemmas.Grind.{common_steps}
use Rattle.fr_graph.specs.Links.{IsNet}
use Rattle.fr_core.proofs.MachineRuns.{keeps_sound, written}
use Rattle.fr_core.proofs.Stepping.{come_on}
use Rattle.fr_core.specs.Machine.{outcome}
use Rattle.fr_core.specs.Played.{MachineView}
use Rattle.fr_core.specs.Sound.{IsSoundMachine, view_of}
use Rattle.fr_core.proofs.machine.Machine.step.Goals as goal
use Rattle.fr_core.proofs.machine.Machine.step.Goals.{After-step}

-- whether the step decides a call or not, the machine stays sound
stays_sound : (c : After-step)
    → let s = c.self.inside in IsSoundMachine
    (view_of s.net.now.nodes s.dest s.net.now.links
    (take s.counts.len (c.step.new.counts
    ++ drop (length c.step.new.counts) s.counts.items)) (slice_set s.workers.items c.args.worker c.step.new.self))
stays_sound c =
    let s = c.self.inside in
    let inside : c.args.worker < length s.workers.items =
    subst (λ (m : MachineView). c.args.worker < length m.state.workers) (sym c.self.view_is) c.requires in
    let long = ap (length {A = ℕ}) c.deref_mut.ensures.value in
    keeps_sound s.net.now.nodes s.dest s.net.now.links s.counts.items s.workers.items c.self.invariant c.args.worker
    inside
    c.index_mut.result.now c.index_mut.ensures.value c.step.new.self c.step.result _ c.step.new.counts
    (c.step.ensures
    ∙ ap (λ (counts : List ℕ). outcome s.net.now.nodes s.net.now.links counts c.index_mut.result.now.left
    c.index_mut.result.now.phase) c.deref_mut.ensures.value)
    (written s.counts.items c.step.new.counts s.counts.len (omega (arith, long)) (omega (arith, long)))

pub invariant_of-self : goal.invariant_of-self
invariant_of-self c = stays_sound (goal.at.invariant_of-self c).After-step

pub invariant_of-self-2 : goal.invariant_of-self-2
invariant_of-self-2 c = stays_sound (goal.at.invariant_of-self-2 c).After-step

pub returns-in_err-node-clause-next : goal.returns-in_err-node-clause-next
returns-in_err-node-clause-next c = grind (arith, common_steps)

pub returns-in_err-node-clause-entry : goal.returns-in_err-node-clause-entry
returns-in_err-node-clause-entry c = grind (arith, common_steps)

pub returns-in_err-node-clause-come : goal.returns-in_err-node-clause-come
returns-in_err-node-clause-come c = λ targets entries come.
    come_on c.args.self.now _ targets entries _ c.args.worker
    (subst (λ (m : MachineView). IsNet m.nodes m.links) c.self.view_is c.self.invariant.net) c.requires
    (returns-in_err-node-clause-next c) (returns-in_err-node-clause-entry c) come

pub returns-clause-next : goal.returns-clause-next
returns-clause-next c = grind (arith, common_steps)

pub returns-clause-entry : goal.returns-clause-entry
returns-clause-entry c = grind (arith, common_steps)

pub returns-clause-come : goal.returns-clause-come
returns-clause-come c = λ targets entries come.
    come_on c.args.self.now _ targets entries _ c.args.worker
    (subst (λ (m : MachineView). IsNet m.nodes m.links) c.self.view_is c.self.invariant.net) c.requires
    (returns-clause-next c) (returns-clause-entry c) come
