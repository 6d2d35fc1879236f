use Rattle.std.proofs.Common.{All, Any, Bool, Global, List, Vec, ap, arith, false, get_or, inl, inr, length, map, refl, subst, sym, true, ℕ, ⊎_elim}
use Rattle.std.proofs.Common.{◌<◌, ◌∙◌, ◌≡◌, ◌≤◌}
use Rattle.std.proofs.lemmas.Bool.{cases_lt, false≢true}
use Rattle.std.proofs.lemmas.List.{get_or_default, length-map}
use Rattle.std.proofs.lemmas.Result.{err_from_is_err_and}
use Rattle.fr_core.proofs.MachineParts.{played}
use Rattle.fr_core.specs.Machine.{entries_of, fresh}
use Rattle.fr_core.specs.Played.{MachineView}
use Rattle.fr_core.specs.Targets.{IsMachineFault, IsPlayFault, IsPlayInRange, lists_of}
use Rattle.fr_core.specs.declared.play_fault.PlayFault.{PlayFault}
use Rattle.fr_core.specs.declared.play_fault.PlayFault.TheVariants.{BadTarget, Memory, Range}
use Rattle.fr_core.specs.declared.targets.Target.{Target}
use Rattle.fr_core.proofs.schedules.play.Goals as goal
use Rattle.fr_core.proofs.schedules.play.Goals.{then-dest-nodes-via-then-dest-nodes, then-dest-nodes-via-else-dest-nodes+then-names_unknown_worker}

-- where no number is found that names no worker, each names one
all_named : (targets : List (Vec Target Global)) (schedule : List ℕ) (workers : ℕ) (found : Bool) → workers ≡ length targets
    → found ≡ false → (Any (λ k. workers ≤ k) schedule → found ≡ true)
    → All (λ k. k < length (lists_of targets)) schedule
all_named targets schedule workers found each none named i d l =
    let k : ℕ = get_or schedule i d in
    let long = length-map targets (λ (v : Vec Target Global). v.items) in
    ⊎_elim (λ inside. inside)
    (λ past. absurd (false≢true (sym none ∙ named (i, k, l, get_or_default schedule i k d l, omega (arith, past, long)))))
    (cases_lt k (length (lists_of targets)))

-- in range, the fault of a machine is that of a play
fault_of_play : (n d : ℕ) (links : List (ℕ × ℕ)) (targets : List (List Target)) (schedule : List ℕ) (fault : PlayFault)
    → IsPlayInRange n d targets schedule → IsMachineFault n d links targets fault
    → IsPlayFault n d links targets schedule fault
fault_of_play n d links targets schedule Range range h = inl h
fault_of_play n d links targets schedule (BadTarget worker at) range h = (range, h.1)
fault_of_play n d links targets schedule Memory range h = absurd h

pub returns-then-dest-nodes-clause-refused : goal.returns-then-dest-nodes-clause-refused
returns-then-dest-nodes-clause-refused c _ = elim c.then-dest-nodes.branch [
  | then-dest-nodes-via-then-dest-nodes w ↦ inl (omega (arith, w.if-dest-nodes.true, c.nodes.ensures.value))
  | then-dest-nodes-via-else-dest-nodes+then-names_unknown_worker w ↦
      let each : w.len.result ≡ length (lists_of c.args.targets.items) =
      omega (arith, w.len.ensures, length-map c.args.targets.items (λ (v : Vec Target Global). v.items)) in
      inr (subst (λ (workers : ℕ). Any (λ k. workers ≤ k) c.args.schedule.now) each (w.names_unknown_worker.ensures.0 w.if-names_unknown_worker.true))
]

pub follow_schedule-requires : goal.follow_schedule-requires
follow_schedule-requires c i d l =
    let lists = lists_of c.args.targets.items in
    let named = all_named c.args.targets.items c.args.schedule.now c.len.result c.names_unknown_worker.result
    (omega arith) c.if-names_unknown_worker.false c.names_unknown_worker.ensures.1 in
    let workers : length c.in_ok-machine.machine.state.workers ≡ length (map fresh lists) =
    ap (λ (m : MachineView). length m.state.workers) c.in_ok-machine.ensures.ok in
    omega (arith, named i d l, workers, length-map lists fresh)

pub returns-in_err-machine-clause-refused : goal.returns-in_err-machine-clause-refused
returns-in_err-machine-clause-refused c =
    let net = c.args.net.now in
    let lists = lists_of c.args.targets.items in
    let named = all_named c.args.targets.items c.args.schedule.now c.len.result c.names_unknown_worker.result
    (omega arith) c.if-names_unknown_worker.false c.names_unknown_worker.ensures.1 in
    let range : IsPlayInRange net.nodes c.args.dest lists c.args.schedule.now =
    record { destination = omega (arith, c.if-dest-nodes.false, c.nodes.ensures.value); workers = named } in
    let told = err_from_is_err_and c.from_residual.result c.from_residual.ensures.1 in
    rw (told.1, told.2) (λ other. fault_of_play net.nodes c.args.dest net.links lists c.args.schedule.now _ range (c.in_err-machine.ensures.refused other))

pub returns-in_err-follow_schedule-clause-refused : goal.returns-in_err-follow_schedule-clause-refused
returns-in_err-follow_schedule-clause-refused c =
    let told = err_from_is_err_and c.from_residual-in_err-follow_schedule.result c.from_residual-in_err-follow_schedule.ensures.1 in
    rw (told.1, told.2) (λ other. absurd (other refl))

pub returns-clause-ok : goal.returns-clause-ok
returns-clause-ok c =
    let net = c.args.net.now in
    let lists = lists_of c.args.targets.items in
    let named = all_named c.args.targets.items c.args.schedule.now c.len.result c.names_unknown_worker.result
    (omega arith) c.if-names_unknown_worker.false c.names_unknown_worker.ensures.1 in
    played net.nodes c.args.dest net.links lists c.args.schedule.now c.in_ok-follow_schedule.field-0.items c.nodes.ensures.faultless.is_net
    (record { in_range = record { destination = c.in_ok-machine.ensures.destination; workers = named }; accepted = c.in_ok-machine.ensures.accepted })
    (c.in_ok-follow_schedule.ensures ∙ ap (λ (m : MachineView). entries_of m.nodes m.links m.state c.args.schedule.now) c.in_ok-machine.ensures.ok)
