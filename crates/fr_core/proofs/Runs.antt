-- What the turns of a run add up to.
use Rattle.std.proofs.Common.{List, [], ap, arith, cond, eq-eqb, length, ne_eqb, refl, replicate, slice_index}
use Rattle.std.proofs.Common.{slice_set, subst, sum, sym, ℕ, ⊎_elim}
use Rattle.std.proofs.Common.{◌&&◌, ◌*◌, ◌+◌, ◌<◌, ◌==◌, ◌∙◌, ◌∷◌, ◌≡◌, ◌≤◌}
use Rattle.std.proofs.lemmas.Bool.{cases_eq, cond-false, cond-true}
use Rattle.std.proofs.lemmas.List.{get_or-set_other, get_or-set_same, length-replicate, length-set}
use Rattle.std.proofs.lemmas.List.Elements.{All-from_get_or}
use Rattle.std.proofs.lemmas.List.Sums.{sum_by-cons, sum_by-le, sum_by-set}
use Rattle.fr_core.specs.History.{Moment, after, after_all, after_reply, count_at, is_turned, moment_of, turn_count}
use Rattle.fr_core.specs.History.{turn_count_of}
use Rattle.fr_core.specs.Legal.{IsRun}
use Rattle.fr_core.specs.Runs.{IsRunTo}
use Rattle.fr_core.specs.declared.entry.Entry.{Entry}
use Rattle.fr_core.specs.declared.entry.Reply.{Reply}
use Rattle.fr_core.specs.declared.entry.Reply.TheVariants.{Cut, Held, Moved, Sink, Turned}
use Rattle.fr_graph.proofs.Acyclic.{links_at_acyclic}
use Rattle.fr_graph.specs.Counts.{AreLawful}
use Rattle.fr_graph.specs.Links.{IsNet}

length_after_reply : (m : Moment) (x : ℕ) (r : Reply) → length (after_reply m x r).counts ≡ length m.counts
length_after_reply m x (Turned k) = length-set m.counts x (count_at m x + 1)
length_after_reply m x (Held by) = refl
length_after_reply m x (Moved had k) = refl
length_after_reply m x Cut = refl
length_after_reply m x Sink = refl

pub sum_after_reply : (m : Moment) (x : ℕ) (r : Reply) → x < length m.counts
    → sum (after_reply m x r).counts ≡ sum m.counts + cond (is_turned r) 1 0
sum_after_reply m x (Turned k) l = omega (arith, sum_by-set (λ (y : ℕ). y) m.counts x (count_at m x + 1) 0 l)
sum_after_reply m x (Held by) l = omega arith
sum_after_reply m x (Moved had k) l = omega arith
sum_after_reply m x Cut l = omega arith
sum_after_reply m x Sink l = omega arith

pub run_sum : (n d : ℕ) (m : Moment) (es : List Entry) → length m.counts ≡ n → IsRun n d m es
    → sum (after_all m es).counts ≡ sum m.counts + turn_count es
run_sum n d m [] long run = omega arith
run_sum n d m (e ∷ es) long run = omega (
  arith,
  run_sum n d (after m e) es (length_after_reply m e.node e.reply ∙ long) run.1,
  sum_after_reply m e.node e.reply (omega (arith, run.0.0)),
  sum_by-cons (λ (f : Entry). cond (is_turned f.reply) 1 0) e es,
)

count_after_reply : (m : Moment) (x : ℕ) (r : Reply) (y : ℕ) → x < length m.counts
    → slice_index (after_reply m x r).counts y ≡ slice_index m.counts y + cond (is_turned r && (x == y)) 1 0
count_after_reply m x (Turned k) y l = ⊎_elim
    (λ e. omega (
      arith,
      ap (slice_index (slice_set m.counts x (count_at m x + 1))) e,
      get_or-set_same m.counts x (count_at m x + 1) 0 l,
      ap (slice_index m.counts) e,
      cond-true {A = ℕ} (x == y) 1 0 (eq-eqb x y e),
    ))
    (λ ne. omega (
      arith,
      get_or-set_other m.counts x y (count_at m x + 1) 0 (λ e. ne (sym e)),
      cond-false {A = ℕ} (x == y) 1 0 (ne_eqb x y ne),
    ))
    (cases_eq x y)
count_after_reply m x (Held by) y l = omega arith
count_after_reply m x (Moved had k) y l = omega arith
count_after_reply m x Cut y l = omega arith
count_after_reply m x Sink y l = omega arith

pub run_count : (n d : ℕ) (m : Moment) (es : List Entry) → length m.counts ≡ n → IsRun n d m es → (y : ℕ)
    → slice_index (after_all m es).counts y ≡ slice_index m.counts y + turn_count_of y es
run_count n d m [] long run y = omega arith
run_count n d m (e ∷ es) long run y = omega (
  arith,
  run_count n d (after m e) es (length_after_reply m e.node e.reply ∙ long) run.1 y,
  count_after_reply m e.node e.reply y (omega (arith, run.0.0)),
  sum_by-cons (λ (f : Entry). cond (is_turned f.reply && (f.node == y)) 1 0) e es,
)

pub lawful_sum : (n d : ℕ) (first : List (ℕ × ℕ)) (c : List ℕ) → AreLawful n d first c → sum c ≤ n * n
lawful_sum n d first c lawful = subst (λ (k : ℕ). sum c ≤ k * n) lawful.one_each
    (sum_by-le (λ (y : ℕ). y) n c (All-from_get_or (λ (y : ℕ). y ≤ n) c 0 (λ i l. lawful.capped i)))

-- a run from the counts 0 of a network leads to the counts at its end
pub run_to : (n d : ℕ) (first : List (ℕ × ℕ)) → IsNet n first → (entries : List Entry) (counts : List ℕ)
    → IsRun n d (moment_of first (replicate n 0)) entries
    → after_all (moment_of first (replicate n 0)) entries ≡ moment_of first counts → AreLawful n d first counts
    → IsRunTo n d first entries counts
run_to n d first net entries counts run ends lawful = record {
  run = run;
  ends = ends;
  turns =
      λ x. ap (λ (m : Moment). slice_index m.counts x) (sym ends)
      ∙ run_count n d (moment_of first (replicate n 0)) entries (length-replicate n 0) run x;
  lawful = lawful;
  acyclic = links_at_acyclic first counts net.acyclic;
}
