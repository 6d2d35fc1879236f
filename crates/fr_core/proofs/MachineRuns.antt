-- A machine makes a run, and keeps what its functions need.
use Rattle.std.proofs.Common.{List, Option, [], ap, drop, inl, inr, length, map, refl, replicate, slice_index_or}
use Rattle.std.proofs.Common.{slice_set, subst, sym, take, ℕ}
use Rattle.std.proofs.Common.{⊎_elim, ◌++◌, ◌<◌, ◌∙◌, ◌∷◌, ◌≡◌, ◌≤◌}
use Rattle.std.proofs.lemmas.Bool.{cases_lt}
use Rattle.std.proofs.lemmas.List.{append-nil, append_assoc, drop_all, get_or_default, get_or_past, take_all}
use Rattle.std.proofs.lemmas.List.Elements.{All-get_or, All-map, All-nil, All-set, All-weaker}
use Rattle.fr_graph.specs.Links.{IsNet}
use Rattle.fr_core.proofs.Finishing.{zeros_lawful}
use Rattle.fr_core.proofs.MachineSteps.{IsFine, outcome_fine, phase_rises}
use Rattle.fr_core.proofs.Rounds.{after_all-append, run_append}
use Rattle.fr_core.proofs.Runs.{run_to}
use Rattle.fr_core.proofs.Settling.{cases_linked}
use Rattle.fr_core.specs.History.{Moment, after_all, moment_of}
use Rattle.fr_core.specs.Legal.{IsRun}
use Rattle.fr_core.specs.Machine.{Outcome, MachineState, WorkerState, entries_of, entry_of, fresh, outcome, outcome_of}
use Rattle.fr_core.specs.Machine.{start, state_after, step, worker_of}
use Rattle.fr_core.specs.Runs.{IsRunTo}
use Rattle.fr_core.specs.Sound.{IsFit, IsSound, IsSoundMachine, IsSoundWorker, outcome_with, view_of}
use Rattle.fr_core.specs.Targets.{AreAllAccepted, AreAccepted, IsLookable, IsTurnable, IsUnlookable, IsUnturnable}
use Rattle.fr_core.specs.Targets.{IsTargetRefused}
use Rattle.fr_core.specs.declared.entry.Entry.{Entry}
use Rattle.fr_core.specs.declared.entry.Reply.{Reply}
use Rattle.fr_core.specs.declared.targets.Target.{Target}
use Rattle.fr_core.specs.declared.targets.Target.TheVariants.{Look, Turn}

sound_worker : (n d : ℕ) (first : List (ℕ × ℕ)) (m : MachineState) → IsSound n d first m → (k : ℕ)
    → IsSoundWorker n d first m.counts (worker_of m k)
sound_worker n d first m sound k = ⊎_elim
    (λ l. All-get_or (IsSoundWorker n d first m.counts) m.workers k (fresh []) l sound.workers)
    (λ past. subst (IsSoundWorker n d first m.counts) (sym (get_or_past m.workers k (fresh []) past)) (record {
      fit = All-nil (IsFit n d first);
      phase = tt;
    }))
    (cases_lt k (length m.workers))

step_fine : (n d : ℕ) (first : List (ℕ × ℕ)) → IsNet n first → (m : MachineState) → IsSound n d first m → (k : ℕ)
    → IsFine n d first k m.counts (outcome_of n first m k)
step_fine n d first net m sound k = let w = sound_worker n d first m sound k in
    outcome_fine n d first net k m.counts sound.lawful (worker_of m k).left w.fit (worker_of m k).phase w.phase

step_sound : (n d : ℕ) (first : List (ℕ × ℕ)) → IsNet n first → (m : MachineState) → IsSound n d first m → (k : ℕ)
    → IsSound n d first (step n first m k)
step_sound n d first net m sound k =
    let fine = step_fine n d first net m sound k in
    let after : List ℕ = (outcome_of n first m k).counts in
    record {
      lawful = fine.lawful;
      workers =
          All-set (IsSoundWorker n d first after) m.workers k (outcome_of n first m k).worker (record {
            fit = fine.fit;
            phase = fine.phase;
          })
          (All-weaker (IsSoundWorker n d first m.counts) (IsSoundWorker n d first after)
          (λ (w : WorkerState) o. record {
            fit = o.fit;
            phase = phase_rises n d first m.counts after fine.rises w.phase o.phase;
          }) m.workers sound.workers);
    }

-- what a sound machine makes of a schedule
record IsSoundRun (n d : ℕ) (first : List (ℕ
    × ℕ)) (m : MachineState) (entries : List Entry) (end : MachineState) : Type 0 where
  run : IsRun n d (moment_of first m.counts) entries
  moment : after_all (moment_of first m.counts) entries ≡ moment_of first end.counts
  sound : IsSound n d first end

sound_run : (n d : ℕ) (first : List (ℕ × ℕ)) → IsNet n first → (m : MachineState) → IsSound n d first m
    → (schedule : List ℕ) → IsSoundRun n d first m (entries_of n first m schedule) (state_after n first m schedule)
sound_run n d first net m sound [] = record { run = tt; moment = refl; sound = sound }
sound_run n d first net m sound (k ∷ ks) =
    let fine = step_fine n d first net m sound k in
    let rest = sound_run n d first net (step n first m k) (step_sound n d first net m sound k) ks in
    let here : List Entry = entry_of k (outcome_of n first m k).decided in
    let later : List Entry = entries_of n first (step n first m k) ks in
    record {
      run =
          run_append n d (moment_of first m.counts) here later fine.run
          (subst (λ (z : Moment). IsRun n d z later) (sym fine.moment) rest.run);
      moment =
          after_all-append (moment_of first m.counts) here later
          ∙ (ap (λ (z : Moment). after_all z later) fine.moment ∙ rest.moment);
      sound = rest.sound;
    }

turnable_from : (n d : ℕ) (first : List (ℕ × ℕ)) (x : ℕ) → ¬ IsUnturnable n d first x → IsTurnable n d first x
turnable_from n d first x good = record {
  inside = ⊎_elim (λ l. l) (λ past. absurd (good (inl past))) (cases_lt x n);
  not_destination = λ e. good (inr (inl e));
  linked = ⊎_elim (λ l. l) (λ alone. absurd (good (inr (inr alone)))) (cases_linked first x);
}

lookable_from : (n : ℕ) (first : List (ℕ × ℕ)) (x : ℕ) → ¬ IsUnlookable n first x → IsLookable n first x
lookable_from n first x good = record {
  inside = ⊎_elim (λ l. l) (λ past. absurd (good (inl past))) (cases_lt x n);
  linked = ⊎_elim (λ l. l) (λ alone. absurd (good (inr alone))) (cases_linked first x);
}

fit_from : (n d : ℕ) (first : List (ℕ × ℕ)) (t : Target) → ¬ IsTargetRefused n d first t → IsFit n d first t
fit_from n d first (Turn x) good = turnable_from n d first x good
fit_from n d first (Look x) good = lookable_from n first x good

start_sound : (n d : ℕ) (first : List (ℕ × ℕ)) (targets : List (List Target)) → AreAllAccepted n d first targets
    → IsSound n d first (start n targets)
start_sound n d first targets good = record {
  lawful = zeros_lawful n d first;
  workers = All-map (IsSoundWorker n d first (replicate n 0)) fresh targets
      (All-weaker (AreAccepted n d first) (λ (list : List Target). IsSoundWorker n d first (replicate n 0) (fresh list))
      (λ list accepted. record {
        fit = All-weaker (λ (t : Target). ¬ IsTargetRefused n d first t) (IsFit n d first)
            (fit_from n d first) list accepted;
        phase = tt;
      }) targets good);
}

pub machine_runs : (n d : ℕ) (first : List (ℕ × ℕ)) (targets : List (List Target)) (schedule : List ℕ) → IsNet n first
    → AreAllAccepted n d first targets
    → IsRunTo n d first (entries_of n first (start n targets) schedule)
    (state_after n first (start n targets) schedule).counts
machine_runs n d first targets schedule net good =
    let r = sound_run n d first net (start n targets) (start_sound n d first targets good) schedule in
    run_to n d first net (entries_of n first (start n targets) schedule)
    (state_after n first (start n targets) schedule).counts r.run r.moment r.sound.lawful

-- a worker more is outcome_with of the next list of targets
pub one_more : (before now : List WorkerState) (w : WorkerState) (rest left whole : List WorkerState)
    → now ≡ before ++ w ∷ [] → left ≡ w ∷ rest → before ++ left ≡ whole → now ++ rest ≡ whole
one_more before now w rest left whole e f g = ap (λ (z : List WorkerState). z ++ rest) e
    ∙ (append_assoc before (w ∷ []) rest ∙ (ap (λ (z : List WorkerState). before ++ z) (sym f) ∙ g))

pub begun_sound : (n d : ℕ) (first : List (ℕ × ℕ)) (targets : List (List Target)) (counts : List ℕ)
    (workers : List WorkerState) → IsNet n first → AreAllAccepted n d first targets → counts ≡ replicate n 0 → workers
    ≡ map fresh targets
    → IsSoundMachine (view_of n d first counts workers)
begun_sound n d first targets counts workers net good e f = record {
  net = net;
  sound =
      subst (λ (m : MachineState). IsSound n d first m) (λ i. record { counts = sym e i; workers = sym f i })
      (start_sound n d first targets good);
}

module _ (n d : ℕ) (first : List (ℕ × ℕ)) (counts : List ℕ) (workers : List WorkerState)
    (is : IsSoundMachine (view_of n d first counts workers)) (k : ℕ) (inside : k < length workers) (old : WorkerState)
    (at : old ≡ slice_index_or workers k old) where
  -- a step keeps a machine sound
  pub keeps_sound : (new : WorkerState) (decided : Option (ℕ × Reply)) (shown now : List ℕ)
      → outcome_with now new decided ≡ outcome n first counts old.left old.phase → shown ≡ now
      → IsSoundMachine (view_of n d first shown (slice_set workers k new))
  keeps_sound new decided shown now step_made same =
      let m : MachineState = record { counts = counts; workers = workers } in
      let here : worker_of m k ≡ old = get_or_default workers k (fresh []) old inside ∙ sym at in
      let by : outcome n first counts old.left old.phase ≡ outcome_of n first m k =
      ap (λ (w : WorkerState). outcome n first counts w.left w.phase) (sym here) in
      let all : Outcome = outcome_of n first m k in
      let c : all.counts ≡ shown = sym (same ∙ ap (λ (o : Outcome). o.counts) (step_made ∙ by)) in
      let w : all.worker ≡ new = sym (ap (λ (o : Outcome). o.worker) (step_made ∙ by)) in
      record {
        net = is.net;
        sound = subst (λ (z : MachineState). IsSound n d first z)
            (λ i. record { counts = c i; workers = slice_set workers k (w i) })
            (step_sound n d first is.net m is.sound k);
      }

-- a list that was written over as a slice
pub written : (items new : List ℕ) (len : ℕ) → length items ≤ length new → length new ≤ len
    → take len (new ++ drop (length new) items) ≡ new
written items new len low high =
    ap (take len) (ap (λ (r : List ℕ). new ++ r) (drop_all (length new) items low) ∙ append-nil new)
    ∙ take_all len new high
