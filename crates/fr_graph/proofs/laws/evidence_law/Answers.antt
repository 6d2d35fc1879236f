use Rattle.fr_graph.proofs.Evidence.{batches_alike, edits_alike, links_alike}
use Rattle.fr_graph.proofs.laws.evidence_law.Goals as goal

pub returns-clause-links : goal.returns-clause-links
returns-clause-links c = links_alike

pub returns-clause-edit : goal.returns-clause-edit
returns-clause-edit c = edits_alike

pub returns-clause-batch : goal.returns-clause-batch
returns-clause-batch c = batches_alike
