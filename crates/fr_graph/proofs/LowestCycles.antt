-- There is one lowest cycle.
use Rattle.std.proofs.Common.{List, add-one, ap, arith, drop, get_or, inl, inr, length, suc, sym, zero}
use Rattle.std.proofs.Common.{ℕ, ◌+◌, ◌<◌, ◌∙◌, ◌∷◌, ◌≡◌, ◌≤◌}
use Rattle.std.proofs.lemmas.Bool.{cases_lt}
use Rattle.std.proofs.lemmas.List.{ext_get_or}
use Rattle.fr_graph.proofs.Linking.{path_carries, walk_carries}
use Rattle.fr_graph.specs.Evidence.{IsLowest, IsLowestCycle, IsLowestCycleBy, IsWayBy, LeadsIn, LeadsIntoCycle}
use Rattle.fr_graph.specs.Evidence.{LeadsTowards}
use Rattle.fr_graph.specs.Links.{HaveSameLinks, Points}

-- if each step to a node with P leads from one, each node of a way that ends at such a node has P
pub all_lead : (step : ℕ → ℕ → Type 0) (P : ℕ → Type 0) → ((x y : ℕ) → step x y → P y → P x) → (way : List ℕ)
    → IsWayBy step way → (far k : ℕ) → k + far + 1 ≡ length way → P (get_or way (k + far) 0) → P (get_or way k 0)
all_lead step P before way on zero k whole end = let e : k + 0 ≡ k = omega arith in rw e at end
all_lead step P before way on (suc far) k whole end =
    let e : k + suc far ≡ (k + 1) + far = omega arith in
    before (get_or way k 0) (get_or way (k + 1) 0) (on k (omega arith)) (all_lead step P before way on far (k
    + 1) (omega arith) (rw e at end))

-- there is one lowest number
pub lowest_one : {P : ℕ → Type 0} {x y : ℕ} → IsLowest P x → IsLowest P y → x ≡ y
lowest_one {P} {x} {y} some other = omega (arith, some.least y other.holds, other.least x some.holds)

-- ways by a step that leads from a node to only one agree as far as both go
pub ways_agree : (step : ℕ → ℕ → Type 0) → ((x y z : ℕ) → step x y → step x z → y ≡ z) → (some other : List ℕ)
    → get_or some 0 0 ≡ get_or other 0 0 → IsWayBy step some → IsWayBy step other → (k : ℕ) → k < length some
    → k < length other → get_or some k 0 ≡ get_or other k 0
ways_agree step one some other begin on off zero l m = begin
ways_agree step one some other begin on off (suc k) l m =
    let before : get_or some k 0 ≡ get_or other k 0 =
    ways_agree step one some other begin on off k (omega arith) (omega arith) in
    let here : step (get_or other k 0) (get_or some (k + 1) 0) = rw before at (on k (omega arith)) in
    rw (← add-one k) (one (get_or other k 0) (get_or some (k + 1) 0) (get_or other (k
    + 1) 0) here (off k (omega arith)))

-- two numbers are equal if neither is less than the other
neither_less : (a b : ℕ) → ¬ (a < b) → ¬ (b < a) → a ≡ b
neither_less a b not_less not_more =
    elim (cases_lt a b) [
      | inl less ↦ absurd (not_less less)
      | inr ge ↦ elim (cases_lt b a) [ inl more ↦ absurd (not_more more) | inr le ↦ omega arith ]
    ]

module _ (links : List (ℕ × ℕ)) where
  cycles_agree : {walk round : List ℕ} (some : IsLowestCycle links walk) (other : IsLowestCycle links round) → (k : ℕ)
      → k ≤ some.last → k ≤ other.last → get_or some.way k 0 ≡ get_or other.way k 0
  cycles_agree some other k l m =
      ways_agree (LeadsIn links) (λ x y z here there. lowest_one here there) some.way other.way
      (lowest_one some.begins other.begins)
      some.goes_on other.goes_on k (omega (arith, some.whole)) (omega (arith, other.whole))

  not_shorter : {walk round : List ℕ} (some : IsLowestCycle links walk) (other : IsLowestCycle links round)
      → ¬ (some.last < other.last)
  not_shorter some other less =
      let early = some.earlier in
      other.first some.back some.last early less
      (sym (cycles_agree some other some.back (omega arith) (omega arith)) ∙ sym some.again
      ∙ cycles_agree some other some.last (omega arith) (omega arith))

  -- there is one lowest cycle
  pub cycle_one : {walk round : List ℕ} → IsLowestCycle links walk → IsLowestCycle links round → walk ≡ round
  cycle_one some other =
      let early = some.earlier in
      let soon = other.earlier in
      let long : some.last ≡ other.last =
      neither_less some.last other.last (not_shorter some other) (not_shorter other some) in
      let way : some.way ≡ other.way = ext_get_or 0 some.way other.way (omega (arith, some.whole, other.whole, long))
      (λ k l. cycles_agree some other k (omega (arith, l, some.whole)) (omega (arith, l, some.whole, long))) in
      let meets : get_or other.way some.back 0 ≡ get_or other.way other.back 0 =
      sym (cycles_agree some other some.back (omega arith) (omega (arith, long))) ∙ sym some.again
      ∙ cycles_agree some other some.last (omega arith) (omega (arith, long))
      ∙ ap (λ (k : ℕ). get_or other.way k 0) long ∙ other.again in
      let back : some.back ≡ other.back = neither_less some.back other.back
      (λ less. other.first some.back other.back less soon meets)
      (λ less. other.first other.back some.back less (omega (arith, long)) (sym meets)) in
      some.is ∙ ap (drop some.back) way ∙ ap (λ (k : ℕ). drop k other.way) back ∙ sym other.is

-- there is one lowest cycle by an added link
module _ (links : List (ℕ × ℕ)) (u v : ℕ) where
  ways_agree_by : {walk round : List ℕ} (some : IsLowestCycleBy links u v walk)
      (other : IsLowestCycleBy links u v round)
      → (k : ℕ)
      → k ≤ some.last → k ≤ other.last → get_or some.way k 0 ≡ get_or other.way k 0
  ways_agree_by some other k l m =
      ways_agree (LeadsTowards links u) (λ x y z here there. lowest_one here.lowest there.lowest) some.way other.way
      (some.begins ∙ sym other.begins) some.goes_on other.goes_on k (omega (arith, some.whole)) (omega (
        arith,
        other.whole,
      ))

  not_shorter_by : {walk round : List ℕ} (some : IsLowestCycleBy links u v walk)
      (other : IsLowestCycleBy links u v round)
      → ¬ (some.last < other.last)
  not_shorter_by some other less =
      (other.goes_on some.last (omega (arith, other.whole))).apart
      (sym (ways_agree_by some other some.last (omega arith) (omega arith)) ∙ some.ends)

  pub cycle_by_one : {walk round : List ℕ} → IsLowestCycleBy links u v walk → IsLowestCycleBy links u v round
      → walk ≡ round
  cycle_by_one some other =
      let long : some.last ≡ other.last =
      neither_less some.last other.last (not_shorter_by some other) (not_shorter_by other some) in
      let way : some.way ≡ other.way = ext_get_or 0 some.way other.way (omega (arith, some.whole, other.whole, long))
      (λ k l. ways_agree_by some other k (omega (arith, l, some.whole)) (omega (arith, l, some.whole, long))) in
      some.is ∙ ap (λ (ns : List ℕ). u ∷ ns) way ∙ sym other.is

-- the same of the same links
leads_carry : (a b : List (ℕ × ℕ)) (x : ℕ) → ((u v : ℕ) → Points a u v → Points b u v) → LeadsIntoCycle a x
    → LeadsIntoCycle b x
leads_carry a b x to leads = record {
  node = leads.node;
  path = (leads.path.0, (path_carries a b to x leads.path.0 leads.path.1.0, leads.path.1.1));
  rest = leads.rest;
  closed = walk_carries a b to leads.node leads.rest leads.closed;
}

pub lowest_carry : {P Q : ℕ → Type 0} {x : ℕ} → ((y : ℕ) → P y → Q y) → ((y : ℕ) → Q y → P y) → IsLowest P x
    → IsLowest Q x
lowest_carry {x = x} to from lowest = record { holds = to x lowest.holds; least = λ y q. lowest.least y (from y q) }

pub cycle_carry : {a b : List (ℕ × ℕ)} {walk : List ℕ} → HaveSameLinks a b → IsLowestCycle a walk → IsLowestCycle b walk
cycle_carry {a} {b} same cycle = record {
  way = cycle.way;
  last = cycle.last;
  whole = cycle.whole;
  begins =
      lowest_carry (λ y. leads_carry a b y (λ u v. (same u v).0)) (λ y. leads_carry b a y (λ u v. (same u v).1))
      cycle.begins;
  goes_on = λ k l. lowest_carry
      (λ y both. ((same (get_or cycle.way k 0) y).0 both.0, leads_carry a b y (λ u v. (same u v).0) both.1))
      (λ y both. ((same (get_or cycle.way k 0) y).1 both.0, leads_carry b a y (λ u v. (same u v).1) both.1))
      (cycle.goes_on k l);
  back = cycle.back;
  earlier = cycle.earlier;
  again = cycle.again;
  first = cycle.first;
  is = cycle.is;
}
