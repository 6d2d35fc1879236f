-- What the tests of links say that the policy makes.
use Rattle.std.proofs.Common.{All, Bool, List, MatchOption, Option, ap, arith, false, not, refl, subst, sym, true, ℕ}
use Rattle.std.proofs.Common.{⊎_elim, ◌&&◌, ◌||◌, ◌<◌, ◌≡◌, ◌≤◌, ◌∙◌}
use Rattle.std.specs.Prelude.{nat_le, nat_lt}
use Rattle.std.specs.List.{Contains, list_all, list_any}
use Rattle.std.proofs.lemmas.Bool.{cases_Bool}
use Rattle.std.proofs.lemmas.Bool.Decides.{nat_tests}
use Rattle.std.proofs.lemmas.List.Elements.{All-weaker}
use Rattle.std.proofs.lemmas.List.Folds.{Any-from_list_any, list_any_at}
use Rattle.std.proofs.lemmas.List.Sums.{AllPass-from_list_all, list_all-from_AllPass}
use Rattle.fr_node.specs.declared.link.Link.{Link}
use Rattle.fr_node.specs.declared.node.Node.{Node}
use Rattle.fr_node.specs.declared.own.Own.{Own}
use Rattle.fr_node.specs.declared.policy.Rise.{Rise}
use Rattle.fr_node.specs.declared.policy.Rise.TheVariants.{Full, Top}
use Rattle.fr_node.specs.Links.{has_answered, is_lower, is_way}
use Rattle.fr_node.specs.Policies.{FallsTo, IsSink, RisesTo, falls_to, rises_to}

pub false_true : (b : Bool) → b ≡ false → b ≡ true → ⊥
false_true b f t = cc

module _ (test : Link → Bool) (P : Link → Type 0) (yes : (l : Link) → test l ≡ true → P l)
    (no : (l : Link) → P l → test l ≡ true) (ls : List Link) where
  all_pass : list_all test ls ≡ true → All P ls
  all_pass t = All-weaker (λ l. test l ≡ true) P yes ls (AllPass-from_list_all test ls t)

  pass_all : All P ls → list_all test ls ≡ true
  pass_all all = list_all-from_AllPass test ls (All-weaker P (λ l. test l ≡ true) no ls all)

sink_test : Own → Link → Bool
sink_test own l = not l.up || (nat_lt 0 l.heard && not (is_lower own l))

IsOver : Own → Link → Type 0
IsOver own l = l.up ≡ true → (0 < l.heard) × (is_lower own l ≡ false)

sink_yes : (own : Own) (l : Link) → sink_test own l ≡ true → IsOver own l
unfolding sink_test IsOver
sink_yes own l t up = grind (arith, nat_tests)

sink_no : (own : Own) (l : Link) → IsOver own l → sink_test own l ≡ true
unfolding sink_test IsOver
sink_no own l over = ⊎_elim
    (λ up. let h = over up in grind (arith, nat_tests))
    (λ down. rw down refl)
    (cases_Bool l.up)

pub sink : (own : Own) (ls ks : List Link) (r : Bool) → ks ≡ ls
    → r ≡ list_all (λ l. not l.up || (nat_lt 0 l.heard && not (is_lower own l))) ks
    → (r ≡ true → IsSink own ls) × (IsSink own ls → r ≡ true)
unfolding sink_test IsOver
sink own ls ks r same e = let found = e ∙ ap (list_all (sink_test own)) same in (
  λ t. all_pass (sink_test own) (IsOver own) (sink_yes own) (sink_no own) ls (sym found ∙ t),
  λ all. found ∙ pass_all (sink_test own) (IsOver own) (sink_yes own) (sink_no own) ls all,
)

open_test : Own → Link → Bool
open_test own l = not (l.up && has_answered own l) || nat_le own.announced_since l.acked

StaysOpen : Own → Link → Type 0
StaysOpen own l = l.up ≡ true → has_answered own l ≡ true → own.announced_since ≤ l.acked

open_yes : (own : Own) (l : Link) → open_test own l ≡ true → StaysOpen own l
unfolding open_test StaysOpen
open_yes own l t up answered = grind (arith, nat_tests)

open_no : (own : Own) (l : Link) → StaysOpen own l → open_test own l ≡ true
unfolding open_test StaysOpen
open_no own l stays = ⊎_elim
    (λ up. ⊎_elim
    (λ answered. let h = stays up answered in grind (arith, nat_tests))
    (λ none. grind (arith, nat_tests))
    (cases_Bool (has_answered own l)))
    (λ down. rw down refl)
    (cases_Bool l.up)

pub will_gates_stay_open : (own : Own) (ls ks : List Link) (r : Bool) → ks ≡ ls
    → r ≡ list_all (λ l. not (l.up && has_answered own l) || nat_le own.announced_since l.acked) ks
    → (r ≡ true → All (λ l. l.up ≡ true → has_answered own l ≡ true → own.announced_since ≤ l.acked) ls)
    × (All (λ l. l.up ≡ true → has_answered own l ≡ true → own.announced_since ≤ l.acked) ls → r ≡ true)
unfolding open_test StaysOpen
will_gates_stay_open own ls ks r same e = let found = e ∙ ap (list_all (open_test own)) same in (
  λ t. all_pass (open_test own) (StaysOpen own) (open_yes own) (open_no own) ls (sym found ∙ t),
  λ all. found ∙ pass_all (open_test own) (StaysOpen own) (open_yes own) (open_no own) ls all,
)

-- a way that is nearer than d
pub has_way : (own : Own) (ls ks : List Link) (d : ℕ) (r : Bool) → ks ≡ ls
    → r ≡ list_any (λ l. is_way own l && nat_lt l.distance d) ks
    → (r ≡ true → (x : Link) × Contains ls x × (is_way own x ≡ true) × (x.distance < d))
    × ((x : Link) → Contains ls x → is_way own x ≡ true → x.distance < d → r ≡ true)
has_way own ls ks d r same e = let found = e ∙ ap (list_any (λ l. is_way own l && nat_lt l.distance d)) same in (
  λ t. let a = Any-from_list_any (λ l. is_way own l && nat_lt l.distance d) ls (sym found ∙ t) in
      (a.1, (a.0, a.2, a.3), way a.1 a.4, near a.1 a.4),
  λ x at way near. found ∙ list_any_at (λ l. is_way own l && nat_lt l.distance d) ls at.0 x at.1
      (rw at.2 (rw way (grind (arith, nat_tests)))),
)
  where
    way : (l : Link) → (is_way own l && nat_lt l.distance d) ≡ true → is_way own l ≡ true
    way l t = ⊎_elim (λ y. y) (λ f. absurd (false_true _ (rw f refl) t)) (cases_Bool (is_way own l))

    near : (l : Link) → (is_way own l && nat_lt l.distance d) ≡ true → l.distance < d
    near l t = let s = rw (way l t) at t in grind (arith, nat_tests)

-- all gates are open
gate_test : Own → Link → Bool
gate_test own l = not l.up || has_answered own l

IsLetIn : Own → Link → Type 0
IsLetIn own l = l.up ≡ true → has_answered own l ≡ true

gate_yes : (own : Own) (l : Link) → gate_test own l ≡ true → IsLetIn own l
unfolding gate_test IsLetIn
gate_yes own l t up = grind (arith, nat_tests)

gate_no : (own : Own) (l : Link) → IsLetIn own l → gate_test own l ≡ true
unfolding gate_test IsLetIn
gate_no own l in_gate = ⊎_elim
    (λ up. let h = in_gate up in rw up h)
    (λ down. rw down refl)
    (cases_Bool l.up)

pub are_gates_open : (own : Own) (ls ks : List Link) (r : Bool) → ks ≡ ls
    → r ≡ list_all (λ l. not l.up || has_answered own l) ks
    → (r ≡ true → All (λ l. l.up ≡ true → has_answered own l ≡ true) ls)
    × (All (λ l. l.up ≡ true → has_answered own l ≡ true) ls → r ≡ true)
unfolding gate_test IsLetIn
are_gates_open own ls ks r same e = let found = e ∙ ap (list_all (gate_test own)) same in (
  λ t. all_pass (gate_test own) (IsLetIn own) (gate_yes own) (gate_no own) ls (sym found ∙ t),
  λ all. found ∙ pass_all (gate_test own) (IsLetIn own) (gate_yes own) (gate_no own) ls all,
)

-- a fall leads to a lower height
pub falls_lower : (rise : Rise) (n : Node) (v : ℕ) → falls_to rise n v → v < n.own.used
falls_lower Full n v falls = falls.lower
falls_lower (Top ceiling) n v falls = falls.lower

-- what holds of the fall of the policy
pub falls_by : (rise : Rise) (n : Node) (r : Option ℕ) → n.policy.rise ≡ rise
    → MatchOption r ((v : ℕ) → ¬ falls_to rise n v) (falls_to rise n)
    → MatchOption r ((v : ℕ) → ¬ FallsTo n v) (FallsTo n)
falls_by rise n r e = subst (λ (k : Rise). MatchOption r ((v : ℕ) → ¬ falls_to k n v) (falls_to k n)) (sym e)

-- what holds of the rise of the policy
pub rises_by : (rise : Rise) (n : Node) (r : Option ℕ) → n.policy.rise ≡ rise
    → MatchOption r ((v : ℕ) → ¬ rises_to rise n v) (rises_to rise n)
    → MatchOption r ((v : ℕ) → ¬ RisesTo n v) (RisesTo n)
rises_by rise n r e = subst (λ (k : Rise). MatchOption r ((v : ℕ) → ¬ rises_to k n v) (rises_to k n)) (sym e)
