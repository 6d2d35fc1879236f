-- A table of ways has at most as many ways as there are links.
use Rattle.std.proofs.Common.{Contains, List, [], ap, arith, eq-eqb, eqb, eqb-true, false, get_or, length}
use Rattle.std.proofs.Common.{length-append, map, ne_eqb, not}
use Rattle.std.proofs.Common.{refl, subst, suc, ℕ, ◌+◌, ◌<◌, ◌∙◌, ◌∷◌, ◌≡◌, ◌≤◌}
use Rattle.std.specs.Cmp.{nat_eq_equiv}
use Rattle.std.specs.List.{IsDistinct, concat, filter}
use Rattle.std.proofs.lemmas.List.{get_or-map, length-map}
use Rattle.std.proofs.lemmas.List.Filters.{length-filter_both}
use Rattle.std.proofs.lemmas.Map.Made.{length-le_from_is_member}
use Rattle.std.proofs.lemmas.Map.Views.{Contains-from_any, list_any-from_Contains}
use Rattle.fr_graph.proofs.Lists.{into_filter}
use Rattle.fr_nearest.specs.Ways.{AreWays}
use Rattle.fr_nearest.proofs.Walking.{ways_once}

pub into_map : {X Y : Type 0} (f : X → Y) (xs : List X) (x : X) → Contains xs x → Contains (map f xs) (f x)
into_map f xs x (k, inside, is) =
    (k, omega (arith, inside, length-map xs f), get_or-map f xs k x (f x) inside ∙ ap f is)

pub no_more : (some other : List ℕ) → IsDistinct eqb some → ((x : ℕ) → Contains some x → Contains other x)
    → length some ≤ length other
no_more some other once in_other = length-le_from_is_member {eq = eqb} nat_eq_equiv some other once
    (λ x found. list_any-from_Contains {eq = eqb} nat_eq_equiv x other
    (in_other x (Contains-from_any {eq = eqb} eqb-true x some found)))

-- the rows of the nodes from k on
rows_within : (k : ℕ) (links : List (ℕ × ℕ)) (table : List (List ℕ))
    → ((x : ℕ) → x < length table → IsDistinct eqb (get_or table x []))
    → ((x w : ℕ) → x < length table → Contains (get_or table x []) w → Contains links (k + x, w))
    → length (concat table) ≤ length links
rows_within k links [] once ways = omega arith
rows_within k links (row ∷ rows) once ways =
    let here = λ (l : ℕ × ℕ). eqb l.0 k in
    let later = λ (l : ℕ × ℕ). not (eqb l.0 k) in
    let heads = map (λ (l : ℕ × ℕ). l.1) (filter here links) in
    let first : length row ≤ length heads = no_more row heads (once 0 (omega arith)) (λ w h.
    into_map (λ (l : ℕ × ℕ). l.1) (filter here links) (k, w) (into_filter here links (k, w)
    (subst (λ (z : ℕ). Contains links (z, w)) (omega arith) (ways 0 w (omega arith) h)) (eq-eqb k k refl))) in
    let others : length (concat rows) ≤ length (filter later links) = rows_within (suc k) (filter later links) rows
    (λ x low. once (suc x) (omega (arith, low)))
    (λ x w low h.
    let link : Contains links (suc k + x, w) =
    subst (λ (z : ℕ). Contains links (z, w)) (omega arith) (ways (suc x) w (omega (arith, low)) h) in
    let apart : eqb (suc k + x) k ≡ false = ne_eqb (suc k + x) k (λ e. omega (arith, e)) in
    into_filter later links (suc k + x, w) link (ap not apart)) in
    omega (
      arith,
      first,
      others,
      length-append row (concat rows),
      length-map (filter here links) (λ (l : ℕ × ℕ). l.1),
      length-filter_both here later (λ l. refl) links,
    )

pub ways_within : (links : List (ℕ × ℕ)) (d : ℕ) (table : List (List ℕ))
    → ((x : ℕ) → x < length table → AreWays links d x (get_or table x []))
    → length (concat table) ≤ length links
ways_within links d table are = rows_within 0 links table (λ x low. ways_once (are x low)) (λ x w low h.
    subst (λ (z : ℕ). Contains links (z, w)) (omega arith) (((are x low).just w).0 h).link)
