use Rattle.std.proofs.lemmas.Result.{IfOk-weaker}
use Rattle.fr_graph.proofs.network.Net.with_cut.Goals as goal

pub returns-clause-joined : goal.returns-clause-joined
returns-clause-joined c = IfOk-weaker c.with_edit.result _ _ (λ net made. made.0) c.with_edit.ensures.ok

pub returns-clause-ok : goal.returns-clause-ok
returns-clause-ok c = IfOk-weaker c.with_edit.result _ _ (λ net made. made.1) c.with_edit.ensures.ok

pub returns-clause-refused : goal.returns-clause-refused
returns-clause-refused c = c.with_edit.ensures.refused
