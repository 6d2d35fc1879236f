use Rattle.std.proofs.Common.{Global, List, Option, Vec, ap, option_to_list, subst, sym, ◌++◌, ◌∙◌, ◌≡◌}
use Rattle.std.proofs.lemmas.List.{append-nil}
use Rattle.fr_core.specs.Played.{HasCome, MachineView}
use Rattle.fr_core.specs.Targets.{lists_of}
use Rattle.fr_core.specs.declared.entry.Entry.{Entry}
use Rattle.test_networks.proofs.machines.step_by_hand.Goals as goal
use Rattle.test_networks.proofs.machines.step_by_hand.Goals.{in-Some+in_ok-push, in_default}

pub loop-worker-preserved : goal.loop-worker-preserved
loop-worker-preserved c =
    let targets = lists_of c.args.targets.items in
    let next = c.step.ensures.next in
    let held = c.loop-worker.invariant in
    let came = c.step.ensures.come targets c.loop-worker.entries.items held.3 in
    let before : List Entry = c.loop-worker.entries.items in
    let items : Vec Entry Global → List Entry = λ v. v.items in
    let same : before ++ option_to_list c.step.result ≡ c.match-step.entries.items =
    elim c.match-step.branch [
      | in-Some+in_ok-push w ↦ ap (λ (o : Option Entry). before ++ option_to_list o) w.in-Some.is
          ∙ sym (ap items w.entries-is ∙ w.in_ok-push.ensures.items)
      | in_default w ↦ ap (λ (o : Option Entry). before ++ option_to_list o) w.in_default.is
          ∙ (append-nil before ∙ sym (ap items w.entries-is))
    ] in (
      ap (λ (m : MachineView). m.nodes) next ∙ held.0,
      ap (λ (m : MachineView). m.dest) next ∙ held.1,
      ap (λ (m : MachineView). m.links) next ∙ held.2,
      subst (HasCome c.step.new.self targets) same came,
    )
