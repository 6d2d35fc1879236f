-- Pairs of a node and its list, and how they lie in memory.
use Rattle.std.proofs.Common.{List, [], ap, arith, length, map, min, refl, subst, sym, vec_capacity, ℕ}
use Rattle.std.proofs.Common.{cond, ◌++◌, ◌+◌, ◌-◌, ◌<◌, ◌∙◌, ◌∷◌, ◌≡◌}
use Rattle.std.specs.List.{concat}
use Rattle.std.specs.Prelude.{not}
use Rattle.std.proofs.lemmas.List.{length-map, length_push}
use Rattle.fr_ways.specs.Held.{Held, all_ways, paired}
use Rattle.fr_ways.specs.HeldInside.{IsHeld, held_in}
use Rattle.fr_ways.specs.Rows.{AreRows, rows_of}
use Rattle.fr_ways.specs.Phases.{is_empty}
use Rattle.fr_ways.specs.declared.reserved_rows.Rows.TheInside.{Inside}
use Rattle.fr_ways.proofs.Rows.{concat_rows, length_rows, row_pushed, still_rows}

firsts : (xs : List ℕ) (rows : List (List ℕ)) → length xs ≡ length rows
    → map (λ (p : ℕ × List ℕ). p.0) (paired xs rows) ≡ xs
firsts [] rows same = refl
firsts (x ∷ xs) [] same = absurd (omega (arith, same))
firsts (x ∷ xs) (row ∷ rows) same = ap (λ (ys : List ℕ). x ∷ ys) (firsts xs rows (omega (arith, same)))

seconds : (xs : List ℕ) (rows : List (List ℕ)) → length xs ≡ length rows
    → map (λ (p : ℕ × List ℕ). p.1) (paired xs rows) ≡ rows
seconds [] [] same = refl
seconds [] (row ∷ rows) same = absurd (omega (arith, same))
seconds (x ∷ xs) [] same = absurd (omega (arith, same))
seconds (x ∷ xs) (row ∷ rows) same =
    ap (λ (rest : List (List ℕ)). row ∷ rest) (seconds xs rows (omega (arith, same)))

paired_push : (xs : List ℕ) (rows : List (List ℕ)) (x : ℕ) (row : List ℕ) → length xs ≡ length rows
    → paired (xs ++ x ∷ []) (rows ++ row ∷ []) ≡ paired xs rows ++ (x, row) ∷ []
paired_push [] [] x row same = refl
paired_push [] (first ∷ rows) x row same = absurd (omega (arith, same))
paired_push (y ∷ xs) [] x row same = absurd (omega (arith, same))
paired_push (y ∷ xs) (first ∷ rows) x row same =
    ap (λ (rest : List (ℕ × List ℕ)). (y, first) ∷ rest) (paired_push xs rows x row (omega (arith, same)))

-- what the value says of the memory
pub record IsHeldAs (s : Inside) (value : Held) : Type 0 where
  pub nodes : map (λ p. p.0) value.pairs ≡ s.nodes.items
  pub rows : map (λ p. p.1) value.pairs ≡ rows_of s.list.items s.starts.items
  pub count : length value.pairs ≡ length s.nodes.items
  pub more : length s.starts.items ≡ length value.pairs + 1
  pub total : length (all_ways value.pairs) ≡ length s.list.items
  pub places : value.nodes ≡ min (vec_capacity s.nodes) (vec_capacity s.starts - 1)
  pub ways : value.ways ≡ vec_capacity s.list

pub held_as : (s : Inside) (value : Held) → IsHeld s → held_in s ≡ value → IsHeldAs s value
held_as s value is view =
    let nodes = s.nodes.items in
    let rows = rows_of s.list.items s.starts.items in
    let same : length nodes ≡ length rows =
    omega (arith, is.one_each, length_rows s.list.items s.starts.items is.rows) in
    let count : length (paired nodes rows) ≡ length nodes =
    sym (length-map (paired nodes rows) (λ (p : ℕ × List ℕ). p.0)) ∙ ap length (firsts nodes rows same) in
    subst (IsHeldAs s) view (record {
      nodes = firsts nodes rows same;
      rows = seconds nodes rows same;
      count = count;
      more = omega (arith, is.one_each, count);
      total = ap (λ (t : List (List ℕ)). length (concat t)) (seconds nodes rows same)
          ∙ ap length (sym (concat_rows s.list.items s.starts.items is.rows));
      places = refl;
      ways = refl;
    })

-- one more node with its list
pair_pushed : (nodes list starts row : List ℕ) (x : ℕ) → AreRows list starts → length starts ≡ length nodes + 1
    → paired (nodes ++ x ∷ []) (rows_of (list ++ row) (starts ++ length (list ++ row) ∷ []))
    ≡ paired nodes (rows_of list starts) ++ (x, row) ∷ []
pair_pushed nodes list starts row x are one_each =
    ap (paired (nodes ++ x ∷ [])) (row_pushed list starts row are)
    ∙ paired_push nodes (rows_of list starts) x row (omega (arith, one_each, length_rows list starts are))

-- the memory has one more node with its list
pub record HasPushed (before after : Inside) (x end : ℕ) (row : List ℕ) : Type 0 where
  pub nodes : after.nodes.items ≡ before.nodes.items ++ x ∷ []
  pub starts : after.starts.items ≡ before.starts.items ++ end ∷ []
  pub list : after.list.items ≡ before.list.items ++ row
  pub last : end ≡ length after.list.items

pub held_pushed : (before after : Inside) (value : Held) (x end : ℕ) (row : List ℕ) → IsHeld before
    → held_in before ≡ value → HasPushed before after x end row
    → IsHeld after × ((held_in after).pairs ≡ value.pairs ++ (x, row) ∷ [])
held_pushed before after value x end row is view has =
    let nodes = before.nodes.items in
    let starts = before.starts.items in
    let list = before.list.items in
    let ends : after.starts.items ≡ starts ++ length (list ++ row) ∷ [] =
    has.starts ∙ ap (λ (k : ℕ). starts ++ k ∷ []) (has.last ∙ ap length has.list) in (
      record {
        rows = rw (has.list, ends) (still_rows list starts row is.rows);
        one_each = omega (
          arith,
          ap length ends,
          ap length has.nodes,
          length_push starts (length (list ++ row)),
          length_push nodes x,
          is.one_each,
        );
      },
      rw (has.nodes, ends, has.list, ← view) (pair_pushed nodes list starts row x is.rows is.one_each),
    )

-- what a list decides
pub some_pushed : {A : Type 0} (list : List ℕ) (pushes : List A) → 0 < length list
    → cond (not (is_empty list)) pushes [] ≡ pushes
some_pushed [] pushes some = absurd (omega (arith, some))
some_pushed (y ∷ ys) pushes some = refl

pub none_pushed : {A : Type 0} (list : List ℕ) (pushes : List A) → length list ≡ 0
    → cond (not (is_empty list)) pushes [] ≡ []
none_pushed [] pushes none = refl
none_pushed (y ∷ ys) pushes none = absurd (omega (arith, none))

-- a node with its list
abbrev pub with_list : (ℕ → List ℕ) → ℕ → ℕ × List ℕ
with_list list_of x = (x, list_of x)

pub list_firsts : (list_of : ℕ → List ℕ) (xs : List ℕ)
    → map (λ (p : ℕ × List ℕ). p.0) (map (with_list list_of) xs) ≡ xs
list_firsts list_of [] = refl
list_firsts list_of (x ∷ xs) = ap (λ (ys : List ℕ). x ∷ ys) (list_firsts list_of xs)

pub list_seconds : (list_of : ℕ → List ℕ) (xs : List ℕ)
    → map (λ (p : ℕ × List ℕ). p.1) (map (with_list list_of) xs) ≡ map list_of xs
list_seconds list_of [] = refl
list_seconds list_of (x ∷ xs) = ap (λ (rest : List (List ℕ)). list_of x ∷ rest) (list_seconds list_of xs)
