-- How many turns a history has: no worker has more than the counts allow.
use Rattle.std.proofs.Common.{◌≡◌, ℕ, ◌+◌, ◌*◌, ◌^◌, ◌<◌, ◌≤◌, Bool, true, false, cond, eqb, List, [], ◌∷◌, ◌++◌, arith}
use Rattle.std.proofs.Common.{le_refl, mul-le-mul}
use Rattle.std.proofs.lemmas.List.{length-replicate}
use Rattle.std.proofs.lemmas.List.Sums.{sum_by-cons, sum_by_push}
use Rattle.fr_graph.specs.Links.{IsNet}
use Rattle.fr_core.proofs.Runs.{lawful_sum, run_sum}
use Rattle.fr_core.specs.History.{is_turned, part, turn_count}
use Rattle.fr_core.specs.declared.entry.Entry.{Entry}
use Rattle.fr_core.specs.declared.entry.Reply.{Reply}
use Rattle.fr_round.specs.declared.view.Setup.{Setup}
use Rattle.fr_round.specs.Histories.{IsHistory, moment, start}
use Rattle.fr_round.proofs.Entries.{lawful_after}

-- 1 for a turn, and 0 for any other reply
abbrev pub turn_of : Reply → ℕ
turn_of r = cond (is_turned r) 1 0

pub turn_count_push : (h : List Entry) (e : Entry) → turn_count (h ++ e ∷ []) ≡ turn_count h + turn_of e.reply
turn_count_push h e = sum_by_push (λ (f : Entry). cond (is_turned f.reply) 1 0) h e

pub turn_count_cons : (e : Entry) (h : List Entry) → turn_count (e ∷ h) ≡ turn_of e.reply + turn_count h
turn_count_cons e h = sum_by-cons (λ (f : Entry). cond (is_turned f.reply) 1 0) e h

turn_count_part : (k : ℕ) (h : List Entry) → turn_count (part k h) ≤ turn_count h
turn_count_part k [] = le_refl 0
turn_count_part k (e ∷ es) = go (eqb e.worker k) (turn_count_part k es)
  where
    go : (b : Bool) → turn_count (part k es) ≤ turn_count es
        → turn_count (cond b (e ∷ part k es) (part k es)) ≤ turn_count (e ∷ es)
    go true le = omega (arith, le, turn_count_cons e es, turn_count_cons e (part k es))
    go false le = omega (arith, le, turn_count_cons e es)

pub few_turns : (b : Setup) (h : List Entry) (k : ℕ) → IsNet b.nodes b.links → IsHistory b h
    → turn_count (part k h) ≤ b.nodes * b.nodes
few_turns b h k net run = omega (
  arith,
  run_sum b.nodes b.dest (start b) h (length-replicate b.nodes 0) run,
  lawful_sum b.nodes b.dest b.links (moment b h).counts (lawful_after b h net run).lawful,
  turn_count_part k h,
)

pub turns_fit : (n t : ℕ) → n < 2 ^ 32 → t ≤ n * n → t < 2 ^ 64
turns_fit n t small le =
    let k : n ≤ 4294967295 = omega arith in
    let a : n * n ≤ 4294967295 * 4294967295 = mul-le-mul k k in
    omega arith
