-- Jobs for plans, and what their threads give back.
use Rattle.std.proofs.Common.{◌≡◌, ◌∙◌, ◌<◌, ◌⊎◌, ◌++◌, ◌∷◌, [], ℕ, zero, suc, List, Some, None, ap, arith, get_or}
use Rattle.std.proofs.Common.{inl, inr, length, length-append, map, refl, subst, sym, ⊎_elim}
use Rattle.std.proofs.Math.ListN.{get_or-append}
use Rattle.std.proofs.Math.Seq.{get_or-append_seam}
use Rattle.std.proofs.lemmas.Bool.{cases_eq}
use Rattle.std.proofs.lemmas.List.{length-map}
use Rattle.std.proofs.lemmas.Option.{get_or_from_slice_get, slice_get_read, slice_get_within}
use Rattle.std.specs.List.{AllByRecursion as Each, slice_get}
use Rattle.std.specs.Prelude.{Err, IfOk, Ok, Result}
use Rattle.fr_core.specs.History.{part, turn_count}
use Rattle.fr_core.specs.Targets.{lists_of}
use Rattle.fr_core.specs.declared.entry.Entry.{Entry}
use Rattle.fr_core.specs.declared.targets.Target.{Target}
use Rattle.fr_round.specs.declared.view.Setup.{Setup}
use Rattle.fr_round.specs.Closing.{IsPartOf, number_and_turns}
use Rattle.fr_round.specs.Knowledge.{Knowledge, OpenRound, new_worker, new_workers}
use Rattle.fr_logs.specs.declared.closing.Logged.{Logged}
use Rattle.fr_logs.specs.declared.running.Job.{Job}
use Rattle.fr_logs.specs.Jobs.{AreDone, AreJobs, IsDone, IsJob}
use Rattle.fr_logs.specs.Logged.{IsLogged, IsOwnRecorder, workers_of}
use Rattle.fr_logs.specs.Recording.{AnswersPlan, HasFollowed, Recording, log_of}
use Rattle.fr_logs.specs.Runs.{IsRunOfPlans}

-- The workers of a round that was just opened

pub new_workers-length : (r : OpenRound) (b : Setup) (k : ℕ) → length (new_workers r.table b k) ≡ k
new_workers-length r b zero = refl
new_workers-length r b (suc k) = omega (
  arith,
  length-append (new_workers r.table b k)
      (new_worker r.table b k ∷ []),
  new_workers-length r b k,
)

new_workers-get : (r : OpenRound) (b : Setup) (k i : ℕ) (d : Knowledge) → i < k
    → get_or (new_workers r.table b k) i d ≡ new_worker r.table b i
new_workers-get r b zero i d below = absurd (omega (arith, below))
new_workers-get r b (suc k) i d below = ⊎_elim
    (λ last. ap (λ (j : ℕ). get_or (new_workers r.table b k ++ new_worker r.table b k ∷ []) j d)
    (last ∙ sym (new_workers-length r b k))
    ∙ (get_or-append_seam (new_workers r.table b k) (new_worker r.table b k) [] d
    ∙ ap (new_worker r.table b) (sym last)))
    (λ other. let inside : i < k = below_last i k below other in
    get_or-append (new_workers r.table b k) (new_worker r.table b k ∷ []) d i
    (omega (arith, inside, new_workers-length r b k)) ∙ new_workers-get r b k i d inside)
    (cases_eq i k)
  where
    below_last : (i k : ℕ) → i < suc k → ¬ (i ≡ k) → i < k
    below_last i k below other = grind arith

-- the worker that comes after so many
pub new_worker_next : (r : OpenRound) (b : Setup) (k : ℕ) (done : List Knowledge) (w : Knowledge)
    (rest : List Knowledge)
    → done ++ w ∷ rest ≡ new_workers r.table b k → (w ≡ new_worker r.table b (length done)) × (length done < k)
new_worker_next r b k done w rest is =
    let below : length done < k = omega (
      arith,
      ap length is,
      length-append done
          (w ∷ rest),
      new_workers-length r b k,
    ) in (
      sym (get_or-append_seam done w rest w)
          ∙ (ap (λ (l : List Knowledge). get_or l (length done) w) is
          ∙ new_workers-get r b k (length done) w below),
      below,
    )

-- Elements of lists

slice_get-snoc : {X : Type 0} (xs : List X) (x y : X) (k : ℕ) → slice_get (xs ++ x ∷ []) k ≡ Some y
    → (slice_get xs k ≡ Some y) ⊎ ((k ≡ length xs) × (x ≡ y))
slice_get-snoc [] x y zero e = inr (refl, cc)
slice_get-snoc [] x y (suc k) e = absurd cc
slice_get-snoc (z ∷ xs) x y zero e = inl e
slice_get-snoc (z ∷ xs) x y (suc k) e = ⊎_elim (λ h. inl h) (λ h. inr (ap suc h.0, h.1)) (slice_get-snoc xs x y k e)

-- an element of a mapped list is that of an element
map_at : {X Y : Type 0} (f : X → Y) (xs : List X) (k : ℕ) (y : Y) → slice_get (map f xs) k ≡ Some y
    → (x : X) × (slice_get xs k ≡ Some x) × (f x ≡ y)
map_at f [] k y e = absurd cc
map_at f (x ∷ xs) zero y e = (x, refl, cc)
map_at f (x ∷ xs) (suc k) y e = map_at f xs k y e

pub at_map : {X Y : Type 0} (f : X → Y) (xs : List X) (k : ℕ) (x : X) → slice_get xs k ≡ Some x
    → slice_get (map f xs) k ≡ Some (f x)
at_map f [] k x e = absurd cc
at_map f (z ∷ xs) zero x e = let same : z ≡ x = cc in ap (λ (w : _). Some (f w)) same
at_map f (z ∷ xs) (suc k) x e = at_map f xs k x e

pub each_get : {X : Type 0} (P : X → Type 0) (xs : List X) (k : ℕ) (x : X) → Each P xs → slice_get xs k ≡ Some x → P x
each_get P [] k x a e = absurd cc
each_get P (z ∷ xs) zero x a e = let same : z ≡ x = cc in subst P same a.0
each_get P (z ∷ xs) (suc k) x a e = each_get P xs k x a.1 e

pub each_by_get : {X : Type 0} (P : X → Type 0) (xs : List X) → ((k : ℕ) (x : X) → slice_get xs k ≡ Some x → P x)
    → Each P xs
each_by_get P [] h = tt
each_by_get P (x ∷ xs) h = (h zero x refl, each_by_get P xs (λ k y e. h (suc k) y e))

-- Jobs

pub no_job : (round : OpenRound) (plans : List (List Target)) (jobs : List Job) → jobs ≡ [] → (k : ℕ) (j : Job)
    → slice_get jobs k ≡ Some j → IsJob round plans k j
no_job round plans jobs none k j e = absurd (past (sym (ap (λ (l : List Job). slice_get l k) none) ∙ e))
  where
    past : None ≡ Some j → ⊥
    past e = cc

pub next_job : (round : OpenRound) (plans : List (List Target)) (k : ℕ) (job : Job) (w : Knowledge)
    → w ≡ new_worker round.table round.setup k
    → job.recorder ≡ record { worker = w; room = length job.plan.now } → slice_get plans k ≡ Some job.plan.now
    → IsJob round plans k job
next_job round plans k job w next made here = record {
  worker = ap (λ (r : Recording). r.worker) made ∙ next;
  plan = here;
  room = omega (arith, ap (λ (r : Recording). r.room) made);
}

pub one_job_more : (round : OpenRound) (plans : List (List Target)) (jobs : List Job) (job : Job)
    → ((k : ℕ) (j : Job) → slice_get jobs k ≡ Some j → IsJob round plans k j) → IsJob round plans (length jobs) job
    → (k : ℕ) (j : Job) → slice_get (jobs ++ job ∷ []) k ≡ Some j → IsJob round plans k j
one_job_more round plans jobs job each here k j e = ⊎_elim
    (λ h. each k j h)
    (λ h. subst (λ (p : ℕ × Job). IsJob round plans p.0 p.1) (λ i. (sym h.0 i, h.1 i)) here)
    (slice_get-snoc jobs job j k e)

pub job_is_own : (round : OpenRound) (plans : List (List Target)) (k : ℕ) (job : Job) → IsJob round plans k job
    → IsOwnRecorder round job.recorder
job_is_own round plans k job is = record {
  table = ap (λ (w : Knowledge). w.table) is.worker;
  setup = ap (λ (w : Knowledge). w.setup) is.worker;
}

-- a job that was done
done : (round : OpenRound) (plans : List (List Target)) (k : ℕ) (job : Job) (r : Recording) → IsJob round plans k job
    → HasFollowed round.setup job.recorder job.plan.now r → IsDone round plans k r
done round plans k job r is followed =
    let w : Knowledge = new_worker round.table round.setup k in
    let none : log_of job.recorder ≡ [] = ap (λ (w : Knowledge). part w.number w.known) is.worker in
    let gained : log_of r ≡ followed.gained = followed.log ∙ ap (λ (l : List Entry). l ++ followed.gained) none in
    record {
      own = record {
        table = followed.keeps.table ∙ ap (λ (w : Knowledge). w.table) is.worker;
        setup = followed.keeps.setup ∙ ap (λ (w : Knowledge). w.setup) is.worker;
      };
      number = followed.keeps.number ∙ ap (λ (w : Knowledge). w.number) is.worker;
      answers = λ plan at.
          let same : job.plan.now ≡ plan = some_same job.plan.now plan (sym is.plan ∙ at) in
          subst (λ (p : List Target × List Entry). AnswersPlan round.setup p.0 p.1)
          (λ i. (same i, sym gained i)) followed.answers;
    }
  where
    some_same : (a b : List Target) → Some a ≡ Some b → a ≡ b
    some_same a b e = cc

-- a recorder that came of a job
pub record CameOf (round : OpenRound) (jobs : List Job) (k : ℕ) (r : Recording) : Type 0 where
  pub job : Job
  pub read : job ≡ get_or jobs k job
  pub followed : HasFollowed round.setup job.recorder job.plan.now r

pub all_done : (round : OpenRound) (plans : List (List Target)) (jobs : List Job) (rs : List Recording)
    → AreJobs round plans jobs
    → length rs ≡ length jobs → ((k : ℕ) (d : Recording) → k < length jobs → CameOf round jobs k (get_or rs k d))
    → AreDone round plans rs
all_done round plans jobs rs are long each = record {
  as_many = long ∙ are.as_many;
  each = λ k r e.
      let inside : k < length jobs = omega (arith, long, slice_get_within rs k r e) in
      let came = each k r inside in
      let is = are.each k came.job (slice_get_read jobs (length jobs) k came.job refl inside came.read) in
      subst (λ (r : Recording). IsDone round plans k r) (get_or_from_slice_get rs k r r e)
      (done round plans k came.job (get_or rs k r) is came.followed);
}

-- what follows from two clauses on the value in an `Ok`
pub both_ok : {A E : Type 0} (r : Result A E) {P Q R : A → Type 0} → ((x : A) → P x → Q x → R x) → IfOk r P
    → IfOk r Q → IfOk r R
both_ok (Ok x) f p q = f x p q
both_ok (Err e) f p q = tt

-- The run

pub all_own : (round : OpenRound) (plans : List (List Target)) (recorders : List Recording)
    → AreDone round plans recorders → Each (IsOwnRecorder round) recorders
all_own round plans recorders all = each_by_get (IsOwnRecorder round) recorders (λ k r e. (all.each k r e).own)

module _ (round : OpenRound) (plans : List (List Target)) (recorders : List Recording) (logged : Logged)
    (all : AreDone round plans recorders)
    (l : IsLogged round (workers_of recorders) logged) (as_many : round.setup.workers ≡ length plans) where
  -- the recorder of a log
  record IsLogOf (k : ℕ) (log : List Entry) : Type 0 where
    r : Recording
    stands : slice_get recorders k ≡ Some r
    number : r.worker.number ≡ k
    is_part : log ≡ part k l.closes.history
    is_log : log ≡ log_of r

  log_at : (k : ℕ) (log : List Entry) → slice_get (lists_of logged.logs.items) k ≡ Some log → IsLogOf k log
  log_at k log e =
      let w = map_at (λ (k : Knowledge). part k.number l.closes.history) (workers_of recorders) k log
      (subst (λ (ls : List (List Entry)). slice_get ls k ≡ Some log) l.logs e) in
      let r = map_at (λ (r : Recording). r.worker) recorders k w.0 w.1 in
      let number : r.0.worker.number ≡ k = (all.each k r.0 r.1).number in
      let mine = each_get (IsPartOf l.closes.history) (workers_of recorders) k w.0 l.closes.parts w.1 in
      let log_is : log ≡ part r.0.worker.number l.closes.history = sym w.2
      ∙ ap (λ (v : Knowledge). part v.number l.closes.history) (sym r.2) in
      record {
        r = r.0;
        stands = r.1;
        number = number;
        is_part = log_is ∙ ap (λ (j : ℕ). part j l.closes.history) number;
        is_log = sym w.2 ∙ (mine.own ∙ ap (λ (v : Knowledge). part v.number v.known) (sym r.2));
      }

  long : length logged.logs.items ≡ length plans
  long = omega (
    arith,
    length-map logged.logs.items (λ v. v.items),
    ap length l.logs,
    length-map (workers_of recorders) (λ (k : Knowledge). part k.number l.closes.history),
    length-map recorders (λ (r : Recording). r.worker),
    all.as_many,
  )

  pub run_of_plans : IsRunOfPlans round.setup plans logged
  run_of_plans = record {
    logs = long;
    one_run = record {
      history = l.closes.history;
      run = l.closes.run;
      parts = λ k log e. (log_at k log e).is_part;
      whole = subst (λ (n : ℕ). Each (λ (e : Entry). e.worker < n) l.closes.history)
          (as_many ∙ (sym long ∙ sym (length-map logged.logs.items (λ v. v.items)))) l.closes.opened;
    };
    answers = λ k plan log at e.
        let i = log_at k log e in
        subst (λ (es : List Entry). AnswersPlan round.setup plan es) (sym i.is_log)
        ((all.each k i.r i.stands).answers plan at);
    turned = λ k log e.
        let i = log_at k log e in
        subst (λ (ts : List (ℕ × ℕ)). slice_get ts k ≡ Some (k, turn_count log)) (sym l.closes.pairs)
        (at_map number_and_turns (workers_of recorders) k i.r.worker
        (at_map (λ (r : Recording). r.worker) recorders k i.r i.stands)
        ∙ (λ j. Some (i.number j, turn_count (sym i.is_log j))));
  }
