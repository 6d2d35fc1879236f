-- A push order has as many nodes as the list that is put in order.
use Rattle.std.proofs.Common.{Contains, List, arith, eqb, get_or, length, subst, sym, ℕ, ⊎_elim, ◌∙◌, ◌≡◌, ◌≤◌, ◌↔◌}
use Rattle.std.specs.Cmp.{nat_eq_equiv}
use Rattle.std.specs.List.{IsDistinct}
use Rattle.std.proofs.lemmas.Bool.{cases_Bool, eqb-true}
use Rattle.std.proofs.lemmas.List.{get_or_default}
use Rattle.std.proofs.lemmas.Map.Keys.{IsDistinct-from_apart}
use Rattle.std.proofs.lemmas.Map.Made.{length-le_from_is_member}
use Rattle.std.proofs.lemmas.Map.Views.{Contains-from_any, list_any-from_Contains}
use Rattle.fr_route.specs.Outcomes.{AreOthers}
use Rattle.fr_tables.specs.Pushes.{AreAlike, IsBefore, IsPushOrder, IsWave}
use Rattle.fr_tables.specs.Tables.{Arrives}
use Rattle.fr_tables.specs.declared.hop.Hop.{Hop}
use Rattle.fr_core.proofs.Pigeons.{distinct_length}
use Rattle.fr_tables.proofs.Answering.{differs_inside}
use Rattle.fr_tables.proofs.Counts.{wave_unique}

before_apart : (old new : List Hop) (x y : ℕ) → IsBefore old new x y → ¬ (x ≡ y)
before_apart old new x y before same =
    let one =
    wave_unique old new y before.wave_x before.wave_y
    (subst (λ (z : ℕ). IsWave old new z before.wave_x) same before.of_x) before.of_y in
    let alike : AreAlike new x y = subst (λ (z : ℕ). Arrives new x ↔ Arrives new z) same (λ r. r, λ r. r) in
    omega (arith, before.lower alike one, same)

order_once : (old new : List Hop) (order : List ℕ) → IsPushOrder old new order → IsDistinct eqb order
order_once old new order is = IsDistinct-from_apart eqb order (λ i j d lt low.
    let at_i : get_or order i d ≡ get_or order i 0 = get_or_default order i d 0 (omega (arith, lt, low)) in
    let at_j : get_or order j d ≡ get_or order j 0 = get_or_default order j d 0 low in
    ⊎_elim
    (λ t. absurd (before_apart old new (get_or order i 0) (get_or order j 0) (is.sorted i j lt low)
    (sym at_i ∙ (eqb-true (get_or order i d) (get_or order j d) t ∙ at_j))))
    (λ f. f)
    (cases_Bool (eqb (get_or order i d) (get_or order j d))))

more_members : (some other : List ℕ) → IsDistinct eqb some → ((x : ℕ) → Contains some x → Contains other x)
    → length some ≤ length other
more_members some other once in_other = length-le_from_is_member {eq = eqb} nat_eq_equiv some other once
    (λ x found. list_any-from_Contains {eq = eqb} nat_eq_equiv x other
    (in_other x (Contains-from_any {eq = eqb} eqb-true x some found)))

pub order_length : (old new : List Hop) (nodes order : List ℕ) → AreOthers old new nodes → IsPushOrder old new order
    → length order ≡ length nodes
order_length old new nodes order others is =
    let less =
    more_members order nodes (order_once old new order is) (λ x found. (others.just x).1 ((is.these x).0 found)) in
    let more = more_members nodes order others.once (λ x found. (is.these x).1 ((others.just x).0 found)) in
    omega (arith, less, more)

-- and no more than there are hops
pub order_short : (old new : List Hop) (order : List ℕ) → length old ≡ length new → IsPushOrder old new order
    → length order ≤ length new
order_short old new order same is =
    distinct_length (length new) order (order_once old new order is)
    (λ x found. differs_inside old new same x ((is.these x).0 found))
