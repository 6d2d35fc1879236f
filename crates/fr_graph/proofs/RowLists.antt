-- The rows of all nodes, one after the other in one list.
use Rattle.std.proofs.Common.{Contains, List, ap, append_assoc, arith, inl, inr, length, length-append, subst, suc, sym}
use Rattle.std.proofs.Common.{zero, ℕ, ◌++◌, ◌+◌, ◌<◌, ◌∙◌, ◌≡◌, ◌≤◌}
use Rattle.std.proofs.lemmas.Bool.{cases_eq, cases_lt}
use Rattle.std.proofs.lemmas.List.{append-nil}
use Rattle.std.proofs.lemmas.List.Elements.{Contains-append_cases, Contains-append_left, Contains-append_right}
use Rattle.fr_graph.proofs.Members.{Contains-none}
use Rattle.fr_graph.proofs.Sorting.{IsSorted, sorted-append}
use Rattle.fr_graph.specs.LinksLeft.{rows_from}
use Rattle.fr_graph.specs.RowLists.{rows_below}

abbrev pub length_below : {X : Type 0} → ℕ → (ℕ → List X) → ℕ
length_below k rows = length (rows_below k rows)

pub length_more : {X : Type 0} (k : ℕ) (rows : ℕ → List X)
    → length_below (suc k) rows ≡ length_below k rows + length (rows k)
length_more k rows = length-append (rows_below k rows) (rows k)

pub length_up : {X : Type 0} (x k : ℕ) (rows : ℕ → List X) → x ≤ k → length_below x rows ≤ length_below k rows
length_up zero zero rows le = omega arith
length_up (suc x) zero rows le = absurd (omega arith)
length_up x (suc k) rows le =
    elim (cases_eq x (suc k)) [
      | inl e ↦ rw e (omega arith)
      | inr ne ↦ omega (arith, length_more k rows, length_up x k rows (omega (arith, ne)))
    ]

-- the rows below x, and then those from x on
pub rows_go_on : {X : Type 0} (k x n : ℕ) (rows : ℕ → List X) → x + k ≡ n
    → rows_below x rows ++ rows_from k x rows ≡ rows_below n rows
rows_go_on zero x n rows e =
    append-nil (rows_below x rows) ∙ ap (λ m. rows_below m rows) (let same : x ≡ n = omega (arith, e) in same)
rows_go_on (suc k) x n rows e =
    sym (append_assoc (rows_below x rows) (rows x) (rows_from k (suc x) rows)) ∙ rows_go_on k (suc x) n rows (omega (
      arith,
      e,
    ))

-- an element of the rows is in one of them
pub from_rows : {X : Type 0} (k : ℕ) (rows : ℕ → List X) (y : X) → Contains (rows_below k rows) y
    → (x : ℕ) × (x < k) × Contains (rows x) y
from_rows zero rows y h = absurd (Contains-none y h)
from_rows (suc k) rows y h =
    elim (Contains-append_cases (rows_below k rows) (rows k) y h) [
      | inl g ↦ let t = from_rows k rows y g in (t.0, omega (arith, t.1), t.2)
      | inr g ↦ (k, omega arith, g)
    ]

pub into_rows : {X : Type 0} (k x : ℕ) (rows : ℕ → List X) (y : X) → x < k → Contains (rows x) y
    → Contains (rows_below k rows) y
into_rows zero x rows y lt h = absurd (omega arith)
into_rows (suc k) x rows y lt h =
    elim (cases_lt x k) [
      | inl less ↦ Contains-append_left (rows_below k rows) (rows k) y (into_rows k x rows y less h)
      | inr ge ↦ let e : x ≡ k =
          omega arith in Contains-append_right (rows_below k rows) (rows k) y
          (subst (λ (z : ℕ). Contains (rows z) y) e h)
    ]

-- rows that are sorted, where each comes before the next, are sorted together
pub sorted_rows : {X : Type 0} (R : X → X → Type 0) (rows : ℕ → List X) → ((x : ℕ) → IsSorted R (rows x))
    → ((x z : ℕ) (a b : X) → x < z → Contains (rows x) a → Contains (rows z) b → R a b) → (k : ℕ)
    → IsSorted R (rows_below k rows)
sorted_rows R rows each across zero = tt
sorted_rows R rows each across (suc k) =
    sorted-append R (rows_below k rows) (rows k) (sorted_rows R rows each across k) (each k)
    (λ a b h g. let t = from_rows k rows a h in across t.0 k a b t.1 t.2 g)
