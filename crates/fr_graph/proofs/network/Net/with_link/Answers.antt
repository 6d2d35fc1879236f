use Rattle.fr_graph.proofs.network.Net.with_link.Goals as goal

pub returns-clause-ok : goal.returns-clause-ok
returns-clause-ok c = c.with_edit.ensures.ok

pub returns-clause-refused : goal.returns-clause-refused
returns-clause-refused c = c.with_edit.ensures.refused
