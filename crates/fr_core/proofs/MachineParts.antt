-- Each worker's part of what a machine decides.
use Rattle.std.proofs.Common.{List, None, Option, Some, [], ap, eq-eqb, false, length, map, nat_lt, ne_eqb}
use Rattle.std.proofs.Common.{option_to_list, refl, slice_index}
use Rattle.std.proofs.Common.{slice_index_or, slice_set, subst, suc, sym, true, zero, Bool, ℕ, if◌then◌else◌, ⊎_elim}
use Rattle.std.proofs.Common.{◌+◌, ◌++◌, ◌<◌, ◌==◌, ◌∙◌, ◌∷◌}
use Rattle.std.proofs.Common.{◌≡◌, ◌≤◌}
use Rattle.std.proofs.lemmas.Bool.{cases_eq, cases_lt, cond-false, cond-true, cond_both}
use Rattle.std.proofs.lemmas.List.{append_assoc, get_or-set_other, get_or-set_same, get_or_past, map-append, set_past}
use Rattle.std.proofs.lemmas.List.Elements.{filter-append}
use Rattle.fr_graph.specs.Links.{IsNet}
use Rattle.fr_graph.specs.Rows.{row}
use Rattle.fr_graph.specs.declared.first.First.{First}
use Rattle.fr_core.proofs.MachineRuns.{machine_runs}
use Rattle.fr_core.specs.History.{part}
use Rattle.fr_core.specs.Machine.{Outcome, MachineState, WorkerState, all_but_first, begin_call, bound_of, confirm}
use Rattle.fr_core.specs.Machine.{decided_by, decides, entries_of}
use Rattle.fr_core.specs.Machine.{entry_of, exchange, fresh, goes_on, load_neighbour, load_own, neighbour_at, outcome}
use Rattle.fr_core.specs.Machine.{outcome_of, phase_unheld}
use Rattle.fr_core.specs.Machine.{start, state_after, step, step_idle, worker_of}
use Rattle.fr_core.specs.Played.{HasPart, IsPlay, answer_of}
use Rattle.fr_core.specs.Replies.{AreAnswersTo, IsAnswerTo}
use Rattle.fr_core.specs.Runs.{IsRunTo}
use Rattle.fr_core.specs.Targets.{IsPlayable, node_of}
use Rattle.fr_core.specs.declared.entry.Entry.{Entry}
use Rattle.fr_core.specs.declared.entry.Reply.{Reply}
use Rattle.fr_core.specs.declared.entry.Reply.TheVariants.{Cut, Held, Moved, Sink, Turned}
use Rattle.fr_core.specs.declared.targets.Target.{Target}
use Rattle.fr_core.specs.declared.targets.Target.TheVariants.{Look, Turn}
use Rattle.fr_core.specs.declared.worker.Phase.{Phase}
use Rattle.fr_core.specs.declared.worker.Phase.TheVariants.{Confirming, Idle, Looking, Swapping}

one_entry : {B : Type 0} (f : Entry → B) (b : Bool) (e : Entry)
    → map f (if b then e ∷ [] else []) ≡ (if b then f e ∷ [] else [])
one_entry f true e = refl
one_entry f false e = refl

no_entry : {B : Type 0} (b : Bool) → ◌≡◌ {A = List B} (if b then [] else []) []
no_entry true = refl
no_entry false = refl

part_answers : (j k : ℕ) (o : Option (ℕ × Reply))
    → map answer_of (part k (entry_of j o)) ≡ (if j == k then option_to_list o else [])
part_answers j k None = sym (no_entry (j == k))
part_answers j k (Some p) = one_entry answer_of (j == k) (record { worker = j; node = p.0; reply = p.1 })

part_append : {B : Type 0} (f : Entry → B) (k : ℕ) (a b : List Entry)
    → map f (part k (a ++ b)) ≡ map f (part k a) ++ map f (part k b)
part_append f k a b = ap (map f) (filter-append (λ (e : Entry). e.worker == k) a b) ∙ map-append f (part k a) (part k b)

replies : (n : ℕ) (first : List (ℕ × ℕ)) (m : MachineState) (k : ℕ) (schedule : List ℕ)
    → map answer_of (part k (entries_of n first m schedule)) ≡ decided_by n first m k schedule
replies n first m k [] = refl
replies n first m k (j ∷ ks) =
    part_append answer_of k (entry_of j (outcome_of n first m j).decided) (entries_of n first (step n first m j) ks)
    ∙ (λ i. part_answers j k (outcome_of n first m j).decided i ++ replies n first (step n first m j) k ks i)

-- a call that is under way is one on the first of the targets left
abbrev IsOnFirst : List Target → Phase → Type 0
IsOnFirst left Idle = Unit {0}
IsOnFirst left (Looking t c j) = (ts : List Target) × (left ≡ t ∷ ts)
IsOnFirst left (Swapping x c) = (ts : List Target) × (left ≡ Turn x ∷ ts)
IsOnFirst left (Confirming x c) = (ts : List Target) × (left ≡ Look x ∷ ts)

-- what is decided answers the targets that were used up, and these and what is then left are the targets before
record Answers (before left : List Target) (decided : List (ℕ × Reply)) : Type 0 where
  used : List Target
  parted : used ++ left ≡ before
  answered : AreAnswersTo used decided

no_answer : (left : List Target) → Answers left left []
no_answer left = record { used = []; parted = refl; answered = tt }

answers_append : (us : List Target) (some : List (ℕ × Reply)) (vs : List Target) (more : List (ℕ × Reply))
    → AreAnswersTo us some → AreAnswersTo vs more → AreAnswersTo (us ++ vs) (some ++ more)
answers_append [] [] vs more h g = g
answers_append [] (a ∷ some) vs more h g = absurd h
answers_append (u ∷ us) [] vs more h g = absurd h
answers_append (u ∷ us) (a ∷ some) vs more h g = (h.0, answers_append us some vs more h.1 g)

more_answers : (before now left : List Target) (some more : List (ℕ × Reply)) → Answers before now some
    → Answers now left more → Answers before left (some ++ more)
more_answers before now left some more h g = record {
  used = h.used ++ g.used;
  parted = append_assoc h.used g.used left ∙ (ap (λ (ts : List Target). h.used ++ ts) g.parted ∙ h.parted);
  answered = answers_append h.used some g.used more h.answered g.answered;
}

-- what a step decides is an answer to the first of the targets left, which it uses up
record UsesUp (left : List Target) (made : Outcome) : Type 0 where
  answers : Answers left made.worker.left (option_to_list made.decided)
  on_first : IsOnFirst made.worker.left made.worker.phase

stays : (counts : List ℕ) (left : List Target) (phase : Phase) → IsOnFirst left phase
    → UsesUp left (goes_on counts left phase)
stays counts left phase b = record { answers = no_answer left; on_first = b }

decides_uses : (counts : List ℕ) (left : List Target) (t : Target) (reply : Reply) → IsAnswerTo t (node_of t, reply)
    → (ts : List Target) × (left ≡ t ∷ ts) → UsesUp left (decides counts left (node_of t) reply)
decides_uses counts left t reply answer (ts, e) = record {
  answers =
      record {
        used = t ∷ [];
        parted = subst (λ (l : List Target). t ∷ all_but_first l ≡ l) (sym e) refl;
        answered = (answer, tt);
      };
  on_first = tt;
}

load_own_uses : (n : ℕ) (counts : List ℕ) (left : List Target) (x : ℕ) → (ts : List Target) × (left ≡ Turn x ∷ ts)
    → UsesUp left (load_own n counts left x)
load_own_uses n counts left x b = cond_both (slice_index counts x == n) _ _ (UsesUp left)
    (λ t. decides_uses counts left (Turn x) Cut (refl, tt) b)
    (λ f. stays counts left (Looking (Turn x) (slice_index counts x) 0) b)

begin_uses : (n : ℕ) (counts : List ℕ) (t : Target) (ts : List Target)
    → UsesUp (t ∷ ts) (begin_call n counts (t ∷ ts) t)
begin_uses n counts (Turn x) ts = load_own_uses n counts (Turn x ∷ ts) x (ts, refl)
begin_uses n counts (Look x) ts = stays counts (Look x ∷ ts) (Looking (Look x) (slice_index counts x) 0) (ts, refl)

idle_uses : (n : ℕ) (counts : List ℕ) (left : List Target) → UsesUp left (step_idle n counts left)
idle_uses n counts [] = stays counts [] Idle tt
idle_uses n counts (t ∷ ts) = begin_uses n counts t ts

held_answers : (t : Target) (w : ℕ) → IsAnswerTo t (node_of t, Held w)
held_answers (Turn x) w = (refl, tt)
held_answers (Look x) w = (refl, tt)

unheld_on_first : (left : List Target) (t : Target) (c : ℕ) → (ts : List Target) × (left ≡ t ∷ ts)
    → IsOnFirst left (phase_unheld t c)
unheld_on_first left (Turn x) c b = b
unheld_on_first left (Look x) c b = b

load_neighbour_uses : (r : List (ℕ × First)) (counts : List ℕ) (left : List Target) (t : Target) (c j : ℕ)
    → (ts : List Target) × (left ≡ t ∷ ts) → UsesUp left (load_neighbour r counts left t c j)
load_neighbour_uses r counts left t c j b =
    cond_both (nat_lt (slice_index counts (neighbour_at r j).0) (bound_of (neighbour_at r j).1 c)) _ _ (UsesUp left)
    (λ h. decides_uses counts left t (Held (neighbour_at r j).0) (held_answers t (neighbour_at r j).0) b)
    (λ f. cond_both (j + 1 == length r) _ _ (UsesUp left)
    (λ h. stays counts left (phase_unheld t c) (unheld_on_first left t c b))
    (λ g. stays counts left (Looking t c (j + 1)) b))

exchange_uses : (counts : List ℕ) (left : List Target) (x c : ℕ) → (ts : List Target) × (left ≡ Turn x ∷ ts)
    → UsesUp left (exchange counts left x c)
exchange_uses counts left x c b =
    cond_both (slice_index counts x == c) _ _ (UsesUp left)
    (λ t. decides_uses (slice_set counts x (c + 1)) left (Turn x) (Turned (c + 1)) (refl, tt) b)
    (λ f. decides_uses counts left (Turn x) (Moved c (slice_index counts x)) (refl, tt) b)

confirm_uses : (counts : List ℕ) (left : List Target) (x c : ℕ) → (ts : List Target) × (left ≡ Look x ∷ ts)
    → UsesUp left (confirm counts left x c)
confirm_uses counts left x c b =
    cond_both (slice_index counts x == c) _ _ (UsesUp left)
    (λ t. decides_uses counts left (Look x) Sink (refl, tt) b)
    (λ f. decides_uses counts left (Look x) (Moved c (slice_index counts x)) (refl, tt) b)

outcome_uses : (n : ℕ) (first : List (ℕ × ℕ)) (counts : List ℕ) (left : List Target) (phase : Phase)
    → IsOnFirst left phase
    → UsesUp left (outcome n first counts left phase)
outcome_uses n first counts left Idle b = idle_uses n counts left
outcome_uses n first counts left (Looking t c j) b = load_neighbour_uses (row n first (node_of t)) counts left t c j b
outcome_uses n first counts left (Swapping x c) b = exchange_uses counts left x c b
outcome_uses n first counts left (Confirming x c) b = confirm_uses counts left x c b

abbrev AreOnFirst : MachineState → Type 0
AreOnFirst m = (k : ℕ) → IsOnFirst (worker_of m k).left (worker_of m k).phase

answers_is : {a b c d : List Target} {s t : List (ℕ × Reply)} → a ≡ b → c ≡ d → s ≡ t → Answers a c s → Answers b d t
answers_is {a} {b} {c} {d} {s} {t} p q r h = subst (λ (z : List Target). Answers z d t) p
    (subst (λ (z : List Target). Answers a z t) q (subst (λ (z : List (ℕ × Reply)). Answers a c z) r h))

module _ (n : ℕ) (first : List (ℕ × ℕ)) (m : MachineState) (j k : ℕ) where
  same_past : length m.workers ≤ j → worker_of (step n first m j) k ≡ worker_of m k
  same_past past =
      ap (λ (ws : List WorkerState). slice_index_or ws k (fresh []))
      (set_past m.workers j (outcome_of n first m j).worker past)

  same_other : ¬ (k ≡ j) → worker_of (step n first m j) k ≡ worker_of m k
  same_other ne = get_or-set_other m.workers j k (outcome_of n first m j).worker (fresh []) ne

  new_here : j < length m.workers → k ≡ j → worker_of (step n first m j) k ≡ (outcome_of n first m j).worker
  new_here l e =
      ap (λ (z : ℕ). worker_of (step n first m j) z) e
      ∙ get_or-set_same m.workers j (outcome_of n first m j).worker (fresh []) l

  none_past : length m.workers ≤ j → (outcome_of n first m j).decided ≡ None
  none_past past =
      ap (λ (w : WorkerState). (outcome n first m.counts w.left w.phase).decided)
      (get_or_past m.workers j (fresh []) past)

  step_on_first : AreOnFirst m → IsOnFirst (worker_of (step n first m j) k).left (worker_of (step n first m j) k).phase
  step_on_first all = ⊎_elim
      (λ l. ⊎_elim
      (λ e. subst (λ (w : WorkerState). IsOnFirst w.left w.phase) (sym (new_here l e))
      (outcome_uses n first m.counts (worker_of m j).left (worker_of m j).phase (all j)).on_first)
      (λ ne. subst (λ (w : WorkerState). IsOnFirst w.left w.phase) (sym (same_other ne)) (all k))
      (cases_eq k j))
      (λ past. subst (λ (w : WorkerState). IsOnFirst w.left w.phase) (sym (same_past past)) (all k))
      (cases_lt j (length m.workers))

  -- what worker k decides, if the step is its own, and what is then left to it
  step_uses : AreOnFirst m → Answers (worker_of m k).left (worker_of (step n first m j) k).left
      (if j == k then option_to_list (outcome_of n first m j).decided else [])
  step_uses all = ⊎_elim
      (λ l. ⊎_elim
      (λ e. answers_is (ap (λ (z : ℕ). (worker_of m z).left) (sym e))
      (ap (λ (w : WorkerState). w.left) (sym (new_here l e)))
      (sym (cond-true (j == k) (option_to_list (outcome_of n first m j).decided) [] (eq-eqb j k (sym e))))
      (outcome_uses n first m.counts (worker_of m j).left (worker_of m j).phase (all j)).answers)
      (λ ne. answers_is refl (ap (λ (w : WorkerState). w.left) (sym (same_other ne)))
      (sym (cond-false (j == k) (option_to_list (outcome_of n first m j).decided) [] (ne_eqb j k (λ e. ne (sym e)))))
      (no_answer (worker_of m k).left))
      (cases_eq k j))
      (λ past. answers_is refl (ap (λ (w : WorkerState). w.left) (sym (same_past past)))
      (sym (no_entry (j == k))
      ∙ ap (λ (o : Option (ℕ × Reply)). if j == k then option_to_list o else []) (sym (none_past past)))
      (no_answer (worker_of m k).left))
      (cases_lt j (length m.workers))

used_up : (n : ℕ) (first : List (ℕ × ℕ)) (m : MachineState) (k : ℕ) → AreOnFirst m → (schedule : List ℕ)
    → Answers (worker_of m k).left (worker_of (state_after n first m schedule) k).left (decided_by n first m k schedule)
used_up n first m k all [] = no_answer (worker_of m k).left
used_up n first m k all (j ∷ ks) =
    more_answers (worker_of m k).left (worker_of (step n first m j) k).left
    (worker_of (state_after n first (step n first m j) ks) k).left
    (if j == k then option_to_list (outcome_of n first m j).decided else [])
    (decided_by n first (step n first m j) k ks)
    (step_uses n first m j k all) (used_up n first (step n first m j) k (λ i. step_on_first n first m j i all) ks)

fresh_at : (targets : List (List Target)) (k : ℕ)
    → slice_index_or (map fresh targets) k (fresh []) ≡ fresh (slice_index_or targets k [])
fresh_at [] k = refl
fresh_at (t ∷ ts) zero = refl
fresh_at (t ∷ ts) (suc k) = fresh_at ts k

start_on_first : (n : ℕ) (targets : List (List Target)) → AreOnFirst (start n targets)
start_on_first n targets k = subst (λ (w : WorkerState). IsOnFirst w.left w.phase) (sym (fresh_at targets k)) tt

pub parts_are_replies : (n : ℕ) (first : List (ℕ × ℕ)) (targets : List (List Target)) (schedule : List ℕ) (k : ℕ)
    → HasPart n first targets schedule (entries_of n first (start n targets) schedule) k
parts_are_replies n first targets schedule k =
    let all = used_up n first (start n targets) k (start_on_first n targets) schedule in
    let same = replies n first (start n targets) k schedule in
    record {
      replies = same;
      used = all.used;
      used_up = all.parted ∙ ap (λ (w : WorkerState). w.left) (fresh_at targets k);
      answers = subst (AreAnswersTo all.used) (sym same) all.answered;
    }

-- entries that the table decides are a play
pub played : (n d : ℕ) (first : List (ℕ × ℕ)) (targets : List (List Target)) (schedule : List ℕ) (entries : List Entry)
    → IsNet n first → IsPlayable n d first targets schedule
    → entries ≡ entries_of n first (start n targets) schedule → IsPlay n d first targets schedule entries
played n d first targets schedule entries net playable decided = record {
  playable = playable;
  decided = decided;
  run = subst (λ (es : List Entry). IsRunTo n d first es (state_after n first (start n targets) schedule).counts)
      (sym decided) (machine_runs n d first targets schedule net playable.accepted);
  parts =
      λ k. subst (λ (es : List Entry). HasPart n first targets schedule es k) (sym decided)
      (parts_are_replies n first targets schedule k);
}
