use Rattle.std.proofs.Common.{Global, List, Option, Vec, ap, drop, option_to_list, subst, sym, ◌+◌, ◌++◌, ◌∙◌, ◌≡◌}
use Rattle.std.proofs.lemmas.List.{append-nil}
use Rattle.fr_core.proofs.Stepping.{on_the_way}
use Rattle.fr_core.specs.Played.{MachineView}
use Rattle.fr_core.specs.Sound.{IsOnTheWay}
use Rattle.fr_core.specs.declared.entry.Entry.{Entry}
use Rattle.fr_core.proofs.machine.Machine.follow_schedule.Goals as goal
use Rattle.fr_core.proofs.machine.Machine.follow_schedule.Goals.{in-Some+in_ok-push, in_default}

pub step-requires : goal.step-requires
step-requires c = rw c.loop-worker.invariant.workers (c.requires c.loop-worker.worker-index 0 c.loop-worker-test.true)

pub loop-worker-preserved : goal.loop-worker-preserved
loop-worker-preserved c =
    let l = c.loop-worker in
    let old : List Entry = l.entries.items in
    let ks = c.args.schedule.now in
    let longer : c.match-step.entries.items ≡ old ++ option_to_list c.step.result = elim c.match-step.branch [
      | in-Some+in_ok-push w ↦ ap (λ (v : Vec Entry Global). v.items) w.entries-is ∙ w.in_ok-push.ensures.items
          ∙ ap (λ (o : Option Entry). old ++ option_to_list o) (sym w.in-Some.is)
      | in_default w ↦ ap (λ (v : Vec Entry Global). v.items) w.entries-is ∙ sym (append-nil old)
          ∙ ap (λ (o : Option Entry). old ++ option_to_list o) (sym w.in_default.is)
    ] in
    let way =
    on_the_way c.args.self.now l.self old (option_to_list c.step.result) ks l.worker-index c.loop-worker-test.true
    l.invariant c.step.ensures.entry in
    rw longer (subst (λ (m : MachineView). IsOnTheWay c.args.self.now m (old ++ option_to_list c.step.result)
    (drop (l.worker-index + 1) ks) ks) (sym c.step.ensures.next) way)
