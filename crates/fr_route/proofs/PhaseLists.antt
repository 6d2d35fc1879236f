-- The pushes of a phase, one after another.
use Rattle.std.proofs.Common.{List, [], ap, arith, drop, get_or, length, map, slice_index, suc, sym, take, ℕ, ◌+◌, ◌*◌}
use Rattle.std.proofs.Common.{◌<◌, ◌≤◌, ◌∙◌, ◌∷◌, ◌≡◌}
use Rattle.std.specs.List.{concat}
use Rattle.std.proofs.lemmas.List.{drop_more, get_or-map, length-map}
use Rattle.std.specs.Prelude.{Err, Ok, Result, String, string_capacity, string_len}
use Rattle.std.specs.declared.alloc.AllocError.{AllocError}
use Rattle.std.specs.declared.alloc.Global.{Global}
use Rattle.fr_ways.specs.PushLists.{AreListed}
use Rattle.fr_ways.specs.Ways.{ways}
use Rattle.fr_ways.specs.declared.push_list.PushList.{PushList}
use Rattle.fr_ways.proofs.Changing.{take_ways}
use Rattle.fr_ways.proofs.Rows.{take_fits}
use Rattle.fr_route.specs.Rooms.{Fits, lists_size}

abbrev rows_of : List (ℕ × List ℕ) → List (List ℕ)
rows_of these = map (λ (p : ℕ × List ℕ). p.1) these

module _ (these : List (ℕ × List ℕ)) (lists : PushList) (are : AreListed these lists) (at : ℕ)
    (low : at < length lists.nodes.now) where
  inside : at < length these
  inside = omega (arith, low, ap length are.nodes, length-map these (λ (p : ℕ × List ℕ). p.0))

  pub next_push : drop at these ≡ (slice_index lists.nodes.now at, ways (rows_of these) at) ∷ drop (at + 1) these
  next_push =
      let node : slice_index lists.nodes.now at ≡ (get_or these at (0, [])).0 =
      ap (λ (xs : List ℕ). slice_index xs at) are.nodes
      ∙ get_or-map (λ (p : ℕ × List ℕ). p.0) these at (0, []) 0 inside in
      let row : ways (rows_of these) at ≡ (get_or these at (0, [])).1 =
      get_or-map (λ (p : ℕ × List ℕ). p.1) these at (0, []) [] inside in
      drop_more these at (0, []) inside ∙ (λ i. (sym node i, sym row i) ∷ drop (at + 1) these)

  -- the ways up to this push, and in all
  pub rows_more : length (concat (take (at + 1) (rows_of these)))
      ≡ length (concat (take at (rows_of these))) + length (ways (rows_of these) at)
  rows_more =
      let next : at + 1 ≡ suc at = omega arith in
      ap (λ (k : ℕ). length (concat (take k (rows_of these)))) next ∙ take_ways (rows_of these) at

  pub push_within : 16 * (at + 1) + 11 * length (concat (take (at + 1) (rows_of these))) ≤ lists_size these
  push_within = omega (arith, inside, take_fits (rows_of these) (at + 1))

-- one text after another fits
pub fits_after : (a b c : String Global) (done : Result (Unit {0}) AllocError) (most all : ℕ) → Fits b c done most
    → string_capacity a ≤ string_capacity b → string_len b + most ≤ string_len a + all → Fits a c done all
fits_after a b c (Ok u) most all fits more within = record {
  length = omega (arith, fits.length, within);
  capacity = omega (arith, fits.capacity, more);
  full = tt;
}
fits_after a b c (Err e) most all fits more within = record {
  length = tt;
  capacity = omega (arith, fits.capacity, more);
  full = omega (arith, fits.full, more, within);
}
