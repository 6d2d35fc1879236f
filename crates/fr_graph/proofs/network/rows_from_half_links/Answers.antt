use Rattle.std.proofs.Common.{Err, IfOk, List, Ok, Result, ap, arith, length, ℕ, ◌<◌, ◌∙◌}
use Rattle.std.proofs.lemmas.List.{length-map}
use Rattle.fr_graph.proofs.Building.{rows_shown}
use Rattle.fr_graph.specs.Halves.{AreHalvesOf, ShowsRow, entry_of}
use Rattle.fr_graph.proofs.network.rows_from_half_links.Goals as goal
use Rattle.fr_graph.proofs.network.rows_from_half_links.Goals.{In_ok-row_entries_of}

-- the links are in the rows between the starts
shows : (c : In_ok-row_entries_of) (n : ℕ) (links : List (ℕ × ℕ))
    → AreHalvesOf n links c.args.halves.now c.args.starts.items
    → (x : ℕ) → x < n → ShowsRow n links c.args.starts.items c.in_ok-row_entries_of.field-0.items x
shows c n links of = rw c.in_ok-row_entries_of.ensures (rows_shown n links c.args.halves.now c.args.starts.items of)

pub packed-requires : goal.packed-requires
packed-requires c =
    let at = (goal.at.packed-requires c).In_ok-row_entries_of in
    let of = c.requires.2 in
    let starts = of.start_each in
    record {
      some = omega (arith, starts.one_each);
      rise = λ x less. (shows at c.requires.0 c.requires.1 of x (omega (arith, less, starts.one_each))).low;
      inside =
          λ x. omega (
            arith,
            starts.inside x,
            ap length c.in_ok-row_entries_of.ensures,
            length-map c.args.halves.now entry_of,
          );
    }

-- two clauses together describe the table
told : {X E : Type 0} {P Q R : X → Type 0} (made : Result X E) → IfOk made P → IfOk made Q
    → ((x : X) → P x → Q x → R x) → IfOk made R
told (Ok x) p q both = both x p q
told (Err e) p q both = tt

pub returns : goal.returns
returns c =
    let at = (goal.at.returns c).In_ok-row_entries_of in
    told c.packed.result c.packed.ensures.one_each c.packed.ensures.rows
    (λ table one_each rows n links of. record {
      one_each = omega (arith, one_each, of.start_each.one_each);
      shown = λ x less. rows x (omega (arith, less, of.start_each.one_each)) ∙ (shows at n links of x less).is_row;
    })
