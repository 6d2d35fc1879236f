use Rattle.fr_graph.proofs.Neighbours.{in_of_row, neighbours_rise, out_of_row, row_of_in, row_of_out}
use Rattle.fr_graph.proofs.laws.rows_law.Goals as goal

pub returns-clause-outward : goal.returns-clause-outward
returns-clause-outward c = λ n links x w net. (out_of_row n links x w, row_of_out n links x w net)

pub returns-clause-inward : goal.returns-clause-inward
returns-clause-inward c = λ n links x w net. (in_of_row n links x w, row_of_in n links x w net)

pub returns-clause-both : goal.returns-clause-both
returns-clause-both c = λ n links x w net. (
  λ h. row_of_in n links w x net (out_of_row n links x w h),
  λ h. row_of_out n links x w net (in_of_row n links w x h),
)

pub returns-clause-rising : goal.returns-clause-rising
returns-clause-rising c = neighbours_rise
