-- A machine that is stepped by hand: where its steps have brought it, and what they decided.
use Rattle.std.proofs.Common.{List, [], ap, arith, drop, get_or, length, refl, subst, sym, ℕ, ◌+◌, ◌++◌, ◌<◌, ◌∙◌, ◌∷◌}
use Rattle.std.proofs.Common.{◌≡◌}
use Rattle.std.proofs.lemmas.List.{append-nil, append_assoc, drop_more, length-map, length-set}
use Rattle.std.proofs.lemmas.List.Elements.{All-nil, All-push}
use Rattle.fr_graph.specs.Links.{IsNet}
use Rattle.fr_core.proofs.MachineParts.{played}
use Rattle.fr_core.specs.Machine.{MachineState, entries_of, entry_of, fresh, outcome_of, start, state_after, step}
use Rattle.fr_core.specs.Played.{HasCome, MachineView, started}
use Rattle.fr_core.specs.Runs.{IsRunTo}
use Rattle.fr_core.specs.Sound.{IsOnTheWay}
use Rattle.fr_core.specs.Targets.{AreAllAccepted}
use Rattle.fr_core.specs.declared.entry.Entry.{Entry}
use Rattle.fr_core.specs.declared.targets.Target.{Target}

-- a step more at the end of a schedule
module _ (n : ℕ) (first : List (ℕ × ℕ)) where
  state_after-push : (m : MachineState) (schedule : List ℕ) (k : ℕ)
      → state_after n first m (schedule ++ k ∷ []) ≡ step n first (state_after n first m schedule) k
  state_after-push m [] k = refl
  state_after-push m (j ∷ js) k = state_after-push (step n first m j) js k

  entries_of-push : (m : MachineState) (schedule : List ℕ) (k : ℕ)
      → entries_of n first m (schedule ++ k ∷ []) ≡ entries_of n first m schedule
      ++ entry_of k (outcome_of n first (state_after n first m schedule) k).decided
  entries_of-push m [] k = append-nil (entry_of k (outcome_of n first m k).decided)
  entries_of-push m (j ∷ js) k =
      let here : List Entry = entry_of j (outcome_of n first m j).decided in
      ap (λ (es : List Entry). here ++ es) (entries_of-push (step n first m j) js k)
      ∙ sym (append_assoc here (entries_of n first (step n first m j) js)
      (entry_of k (outcome_of n first (state_after n first (step n first m j) js) k).decided))

  length-state_after : (m : MachineState) (schedule : List ℕ)
      → length (state_after n first m schedule).workers ≡ length m.workers
  length-state_after m [] = refl
  length-state_after m (j ∷ js) =
      length-state_after (step n first m j) js ∙ length-set m.workers j (outcome_of n first m j).worker

-- before its first step a machine has decided nothing
pub come_start : (n d : ℕ) (first : List (ℕ × ℕ)) (targets : List (List Target)) → IsNet n first → d < n
    → AreAllAccepted n d first targets → HasCome (started n d first targets) targets []
come_start n d first targets net below good = record {
  schedule = [];
  play = played n d first targets [] [] net
      (record {
        in_range = record { destination = below; workers = All-nil (λ k. k < length targets) };
        accepted = good;
      }) refl;
  state = refl;
}

-- a step brings it on, with what it decides
come_step : (m : MachineView) (targets : List (List Target)) (entries : List Entry) (k : ℕ) → IsNet m.nodes m.links
    → k < length m.state.workers → HasCome m targets entries
    → HasCome (record m { state = step m.nodes m.links m.state k }) targets (entries
    ++ entry_of k (outcome_of m.nodes m.links m.state k).decided)
come_step m targets entries k net inside come =
    let n = m.nodes in
    let first = m.links in
    let begun : MachineState = start n targets in
    let whole : List ℕ = come.schedule ++ k ∷ [] in
    let playable = come.play.playable in
    let long : length m.state.workers ≡ length targets = ap (λ (s : MachineState). length s.workers) come.state
    ∙ (length-state_after n first begun come.schedule ∙ length-map targets fresh) in
    record {
      schedule = whole;
      play = played n m.dest first targets whole (entries ++ entry_of k (outcome_of n first m.state k).decided) net
          (record {
            in_range = record {
              destination = playable.in_range.destination;
              workers =
                  All-push (λ j. j < length targets) come.schedule k playable.in_range.workers (omega (
                    arith,
                    inside,
                    long,
                  ));
            };
            accepted = playable.accepted;
          })
          ((λ i. come.play.decided i ++ entry_of k (outcome_of n first (come.state i) k).decided)
          ∙ sym (entries_of-push n first begun come.schedule k));
      state =
          ap (λ (s : MachineState). step n first s k) come.state ∙ sym (state_after-push n first begun come.schedule k);
    }

pub come_on : (m now : MachineView) (targets : List (List Target)) (entries decided : List Entry) (k : ℕ)
    → IsNet m.nodes m.links → k < length m.state.workers → now ≡ record m { state = step m.nodes m.links m.state k }
    → decided ≡ entry_of k (outcome_of m.nodes m.links m.state k).decided → HasCome m targets entries
    → HasCome now targets (entries ++ decided)
come_on m now targets entries decided k net inside is by come =
    subst (λ (z : MachineView). HasCome z targets (entries ++ decided)) (sym is)
    (subst (λ (es : List Entry). HasCome (record m { state = step m.nodes m.links m.state k }) targets (entries ++ es))
    (sym by) (come_step m targets entries k net inside come))

-- and the entries are a run to its counts
pub come_run : (m : MachineView) (targets : List (List Target)) (entries : List Entry) → HasCome m targets entries
    → IsRunTo m.nodes m.dest m.links entries m.state.counts
come_run m targets entries come =
    subst (λ (s : MachineState). IsRunTo m.nodes m.dest m.links entries s.counts) (sym come.state) come.play.run

-- on the way through a schedule, a step of the worker whose turn it is
pub on_the_way : (begun now : MachineView) (entries some : List Entry) (schedule : List ℕ) (i : ℕ) → i < length schedule
    → IsOnTheWay begun now entries (drop i schedule) schedule
    → some ≡ entry_of (get_or schedule i 0) (outcome_of now.nodes now.links now.state (get_or schedule i 0)).decided
    → IsOnTheWay begun (record now { state = step now.nodes now.links now.state (get_or schedule i 0) }) (entries
    ++ some) (drop (i + 1) schedule) schedule
on_the_way begun now entries some schedule i l way decided =
    let k : ℕ = get_or schedule i 0 in
    let rest : List Entry =
    entries_of now.nodes now.links (step now.nodes now.links now.state k) (drop (i + 1) schedule) in record {
      nodes = way.nodes;
      dest = way.dest;
      links = way.links;
      workers = length-set now.state.workers k (outcome_of now.nodes now.links now.state k).worker ∙ way.workers;
      come = append_assoc entries some rest ∙ ap (λ (es : List Entry). entries ++ (es ++ rest)) decided
          ∙ ap (λ (ks : List ℕ). entries
          ++ entries_of now.nodes now.links now.state ks) (sym (drop_more schedule i 0 l)) ∙ way.come;
    }
