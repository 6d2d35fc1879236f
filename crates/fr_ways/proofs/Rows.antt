-- A table of ways in two lists: where each row lies, and what one more row adds.
use Rattle.std.proofs.Common.{Contains, List, [], ap, arith, drop, get_or, length, length-append, length-drop, refl}
use Rattle.std.proofs.Common.{suc, sym, take, zero, ℕ}
use Rattle.std.proofs.Common.{◌++◌, ◌+◌, ◌-◌, ◌<◌, ◌∙◌, ◌∷◌, ◌≡◌, ◌≤◌}
use Rattle.std.specs.List.{concat}
use Rattle.std.proofs.lemmas.List.{drop-append-le, drop-drop, drop_all, drop_at, length-take-le, take-append-drop}
use Rattle.std.proofs.lemmas.List.{take-append-le, take_all, take_at}
use Rattle.std.proofs.lemmas.List.Elements.{Contains-append_left, Contains-append_right}
use Rattle.fr_tables.proofs.Members.{Contains-none}
use Rattle.fr_ways.specs.Rows.{AreBounds, AreRows, AreStarts, DoNotFall, IsLaidOut, rows_from, rows_of}
use Rattle.fr_ways.specs.Ways.{Sends, ways}

length_from : (list : List ℕ) (start : ℕ) (ends : List ℕ) → length (rows_from list start ends) ≡ length ends
length_from list start [] = refl
length_from list start (end ∷ ends) = omega (arith, length_from list end ends)

pub length_rows : (list starts : List ℕ) → AreRows list starts → length starts ≡ length (rows_of list starts) + 1
length_rows list [] are = absurd are
length_rows list (start ∷ ends) are = omega (arith, length_from list start ends)

-- the table without its rows
pub no_rows : (list starts : List ℕ) → AreRows list starts
    → AreRows [] (take 1 starts) × (rows_of [] (take 1 starts) ≡ [])
no_rows list [] are = absurd are
no_rows list (start ∷ ends) are = ((are.0, are.0), refl)

module _ (last : ℕ) where
  begins_low : (start : ℕ) (ends : List ℕ) → DoNotFall start ends last → start ≤ last
  begins_low start [] rise = omega (arith, rise)
  begins_low start (end ∷ ends) rise = omega (arith, rise.0, begins_low end ends rise.1)

  places_rise : (start : ℕ) (ends : List ℕ) (x : ℕ) → DoNotFall start ends last → x < length ends
      → (get_or (start ∷ ends) x 0 ≤ get_or ends x 0) × (get_or ends x 0 ≤ last)
  places_rise start [] x rise low = absurd (omega (arith, low))
  places_rise start (end ∷ ends) zero rise low = (rise.0, begins_low end ends rise.1)
  places_rise start (end ∷ ends) (suc x) rise low = places_rise end ends x rise.1 (omega (arith, low))

  pub one_more_place : (next start : ℕ) (ends : List ℕ) → last ≤ next → DoNotFall start ends last
      → DoNotFall start (ends ++ next ∷ []) next
  one_more_place next start [] le rise = (omega (arith, le, rise), refl)
  one_more_place next start (end ∷ ends) le rise = (rise.0, one_more_place next end ends le rise.1)

row_from : (list : List ℕ) (start : ℕ) (ends : List ℕ) (x : ℕ) → x < length ends
    → take (get_or ends x 0 - get_or (start ∷ ends) x 0) (drop (get_or (start ∷ ends) x 0) list) ≡ get_or
    (rows_from list start ends) x []
row_from list start [] x low = absurd (omega (arith, low))
row_from list start (end ∷ ends) zero low = refl
row_from list start (end ∷ ends) (suc x) low = row_from list end ends x (omega (arith, low))

-- the row of node x of a table: between its place and the next one
pub record IsRow (list starts : List ℕ) (table : List (List ℕ)) (x : ℕ) : Type 0 where
  pub rise : get_or starts x 0 ≤ get_or starts (x + 1) 0
  pub high : get_or starts (x + 1) 0 ≤ length list
  pub is : take (get_or starts (x + 1) 0 - get_or starts x 0) (drop (get_or starts x 0) list) ≡ ways table x

pub row_at : (list starts : List ℕ) (x : ℕ) → AreRows list starts → x + 1 < length starts
    → IsRow list starts (rows_of list starts) x
row_at list [] x are low = absurd are
row_at list (start ∷ ends) x are low =
    let next : x + 1 ≡ suc x = omega arith in
    let rise = places_rise (length list) start ends x are.1 (omega (arith, low)) in
    record {
      rise = rw next rise.0;
      high = rw next rise.1;
      is = rw next (row_from list start ends x (omega (arith, low)));
    }

-- all rows one after another
concat_from : (list : List ℕ) (start : ℕ) (ends : List ℕ) → DoNotFall start ends (length list)
    → concat (rows_from list start ends) ≡ drop start list
concat_from list start [] rise = sym (drop_all start list (omega (arith, rise)))
concat_from list start (end ∷ ends) rise =
    let there : start + (end - start) ≡ end = omega (arith, rise.0) in
    ap (λ (ys : List ℕ). take (end - start) (drop start list) ++ ys)
    (concat_from list end ends rise.1
    ∙ (ap (λ (k : ℕ). drop k list) (sym there) ∙ sym (drop-drop (end - start) start list)))
    ∙ take-append-drop (end - start) (drop start list)

pub concat_rows : (list starts : List ℕ) → AreRows list starts → list ≡ concat (rows_of list starts)
concat_rows list [] are = absurd are
concat_rows list (start ∷ ends) are = sym (concat_from list start ends are.1 ∙ ap (λ (k : ℕ). drop k list) are.0)

starts_from : (list : List ℕ) (start : ℕ) (ends : List ℕ) (x : ℕ) → DoNotFall start ends (length list)
    → x ≤ length ends
    → get_or (start ∷ ends) x 0 ≡ start + length (concat (take x (rows_from list start ends)))
starts_from list start ends zero rise low = omega arith
starts_from list start [] (suc x) rise low = absurd (omega (arith, low))
starts_from list start (end ∷ ends) (suc x) rise low =
    let row = take (end - start) (drop start list) in
    let more = concat (take x (rows_from list end ends)) in
    let high = begins_low (length list) end ends rise.1 in
    let long : length row ≡ end - start =
    length-take-le (end - start) (drop start list) (omega (arith, length-drop start list, high)) in
    omega (arith, starts_from list end ends x rise.1 (omega (arith, low)), length-append row more, long, rise.0)

pub starts_are : (list starts : List ℕ) → AreRows list starts → AreStarts (rows_of list starts) starts
starts_are list [] are = absurd are
starts_are list (start ∷ ends) are = record {
  one_more = length_rows list (start ∷ ends) are;
  each = λ x low. omega (
    arith,
    starts_from list start ends x are.1
        (omega (arith, low, length_from list start ends)),
    are.0,
  );
}

-- places that do not fall, up to the length of a list, are those of rows
falls_not : (start : ℕ) (ends : List ℕ) (last : ℕ)
    → ((k : ℕ) → k < length ends → get_or (start ∷ ends) k 0 ≤ get_or ends k 0)
    → get_or (start ∷ ends) (length ends) 0 ≡ last → DoNotFall start ends last
falls_not start [] last rise is = is
falls_not start (end ∷ ends) last rise is =
    (rise 0 (omega arith), falls_not end ends last (λ k low. rise (suc k) (omega (arith, low))) is)

pub bounds_rows : (list starts : List ℕ) → AreBounds starts (length list) → AreRows list starts
bounds_rows list [] bounds = absurd (omega (arith, bounds.some))
bounds_rows list (start ∷ ends) bounds = (
  bounds.first,
  falls_not start ends (length list)
      (λ k low.
      let next : k + 1 ≡ suc k = omega arith in
      let at : get_or (start ∷ ends) (k + 1) 0 ≡ get_or ends k 0 = ap (λ (i : ℕ). get_or (start ∷ ends) i 0) next in
      omega (arith, bounds.rise k (omega (arith, low)), at))
      (let end : length (start ∷ ends) - 1 ≡ length ends = omega arith in
      ap (λ (i : ℕ). get_or (start ∷ ends) i 0) (sym end) ∙ bounds.last),
)

pub laid_out : (list starts : List ℕ) → AreRows list starts → IsLaidOut starts list (rows_of list starts)
laid_out list starts are = record { begins = starts_are list starts are; all = sym (concat_rows list starts are) }

concat_grows : (table : List (List ℕ)) (k : ℕ) → length (concat (take k table)) ≤ length (concat (take (suc k) table))
concat_grows [] zero = omega arith
concat_grows [] (suc k) = omega arith
concat_grows (row ∷ rows) zero = omega arith
concat_grows (row ∷ rows) (suc k) = omega (
  arith,
  length-append row (concat (take k rows)),
  length-append row (concat (take (suc k) rows)),
  concat_grows rows k,
)

pub laid_bounds : (starts list : List ℕ) (table : List (List ℕ)) → IsLaidOut starts list table
    → AreBounds starts (length list)
laid_bounds starts list table laid =
    let at = laid.begins.each in
    let more = laid.begins.one_more in
    record {
      some = omega (arith, more);
      first = at 0 (omega arith);
      rise = λ k low.
          let next : k + 1 ≡ suc k = omega arith in
          let grows : length (concat (take k table)) ≤ length (concat (take (k + 1) table)) =
          rw next (concat_grows table k) in
          omega (arith, at k (omega (arith, low, more)), at (k + 1) (omega (arith, low, more)), grows);
      last =
          let end : length starts - 1 ≡ length table = omega (arith, more) in
          rw end (at (length table) (omega arith)
          ∙ ap (λ (rows : List (List ℕ)). length (concat rows)) (take_all (length table) table (omega arith))
          ∙ ap (λ (ys : List ℕ). length ys) laid.all);
    }

pub take_fits : (table : List (List ℕ)) (x : ℕ) → length (concat (take x table)) ≤ length (concat table)
take_fits table zero = omega arith
take_fits [] (suc x) = omega arith
take_fits (row ∷ rows) (suc x) = omega (
  arith,
  take_fits rows x,
  length-append row (concat (take x rows)),
  length-append row (concat rows),
)

-- the row of node x in any two lists in which the table lies
row_part : (table : List (List ℕ)) (x : ℕ) → x < length table
    → take (length (concat (take (suc x) table)) - length (concat (take x table)))
    (drop (length (concat (take x table))) (concat table)) ≡ get_or table x []
row_part [] x low = absurd (omega (arith, low))
row_part (row ∷ rows) zero low =
    let all : length (row ++ []) - 0 ≡ length row = omega (arith, length-append row []) in
    rw all (take_at row (concat rows) (length row) refl)
row_part (row ∷ rows) (suc x) low =
    let before = concat (take x rows) in
    let up_to = concat (take (suc x) rows) in
    let long : length (row ++ up_to) - length (row ++ before) ≡ length up_to - length before =
    omega (arith, length-append row up_to, length-append row before) in
    let there : drop (length (row ++ before)) (row ++ concat rows) ≡ drop (length before) (concat rows) =
    ap (λ (k : ℕ). drop k (row ++ concat rows)) (length-append row before)
    ∙ (sym (drop-drop (length before) (length row) (row ++ concat rows))
    ∙ ap (drop (length before)) (drop_at row (concat rows) (length row) refl)) in
    rw (long, there) (row_part rows x (omega (arith, low)))

pub laid_row : (starts list : List ℕ) (table : List (List ℕ)) (x : ℕ) → IsLaidOut starts list table
    → x < length table → IsRow list starts table x
laid_row starts list table x laid low =
    let next : x + 1 ≡ suc x = omega arith in
    let start : get_or starts x 0 ≡ length (concat (take x table)) = laid.begins.each x (omega (arith, low)) in
    let end : get_or starts (x + 1) 0 ≡ length (concat (take (suc x) table)) =
    laid.begins.each (x + 1) (omega (arith, low)) ∙ ap (λ (k : ℕ). length (concat (take k table))) next in
    let high : length (concat (take (suc x) table)) ≤ length list =
    omega (arith, take_fits table (suc x), ap length laid.all) in
    record {
      rise = omega (arith, start, end, concat_grows table x);
      high = omega (arith, end, high);
      is = rw (start, end, ← laid.all) (row_part table x low);
    }

-- one more row
push_from : (list row : List ℕ) (start : ℕ) (ends : List ℕ) → DoNotFall start ends (length list)
    → rows_from (list ++ row) start (ends ++ length (list ++ row) ∷ []) ≡ rows_from list start ends ++ row ∷ []
push_from list row start [] rise =
    let few : length row ≤ length (list ++ row) - start = omega (arith, length-append list row, rise) in
    ap (λ (ys : List ℕ). ys ∷ [])
    (ap (take (length (list ++ row) - start)) (drop_at list row start (sym rise))
    ∙ take_all (length (list ++ row) - start) row few)
push_from list row start (end ∷ ends) rise =
    let high = begins_low (length list) end ends rise.1 in
    let few : end - start ≤ length (drop start list) = omega (arith, length-drop start list, high) in
    let first : take (end - start) (drop start (list ++ row)) ≡ take (end - start) (drop start list) =
    ap (take (end - start)) (drop-append-le start list row (omega (arith, rise.0, high)))
    ∙ take-append-le (end - start) (drop start list) row few in
    ap (λ (ys : List ℕ). ys ∷ rows_from (list ++ row) end (ends ++ length (list ++ row) ∷ [])) first
    ∙ ap (λ (rest : List (List ℕ)). take (end - start) (drop start list) ∷ rest) (push_from list row end ends rise.1)

pub row_pushed : (list starts row : List ℕ) → AreRows list starts
    → rows_of (list ++ row) (starts ++ length (list ++ row) ∷ []) ≡ rows_of list starts ++ row ∷ []
row_pushed list [] row are = absurd are
row_pushed list (start ∷ ends) row are = push_from list row start ends are.1

pub still_rows : (list starts row : List ℕ) → AreRows list starts
    → AreRows (list ++ row) (starts ++ length (list ++ row) ∷ [])
still_rows list [] row are = absurd are
still_rows list (start ∷ ends) row are = (
  are.0,
  one_more_place (length list) (length (list ++ row)) start ends
      (omega (arith, length-append list row)) are.1,
)

-- each way is in the list of all ways
pub way_listed : (table : List (List ℕ)) (x y : ℕ) → Sends table x y → Contains (concat table) y
way_listed [] x y sends = absurd (Contains-none y sends)
way_listed (row ∷ rows) zero y sends = Contains-append_left row (concat rows) y sends
way_listed (row ∷ rows) (suc x) y sends = Contains-append_right row (concat rows) y (way_listed rows x y sends)
