use Rattle.std.proofs.Common.{ap, arith, length, refl, sym, ◌-◌, ◌∙◌, ◌≡◌}
use Rattle.fr_graph.proofs.RowLists.{rows_go_on}
use Rattle.fr_graph.specs.KeptRows.{links_in}
use Rattle.fr_graph.specs.LinksLeft.{rows_from}
use Rattle.fr_graph.specs.RowLists.{out_links}
use Rattle.fr_graph.specs.Tables.{Table, row_of}
use Rattle.fr_graph.proofs.links.Links.of_rows.Goals as goal

all_links : (table : Table)
    → rows_from (length table.rows - 0) 0 (λ x. out_links x (row_of table x)) ≡ links_in (length table.rows) table
all_links table =
    rows_go_on (length table.rows - 0) 0 (length table.rows) (λ x. out_links x (row_of table x)) (omega arith)

pub invariant_of-result : goal.invariant_of-result
invariant_of-result c = record {
  begun = λ _. refl;
  inside = omega arith;
  few = c.requires.few;
  counted = c.requires.counted ∙ ap length (sym (all_links c.args.rows.now));
}

pub returns : goal.returns
returns c = all_links c.args.rows.now
