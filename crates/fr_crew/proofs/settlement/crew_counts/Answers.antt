use Rattle.fr_crew.proofs.settlement.crew_counts.Goals as goal

pub returns-clause-lawful : goal.returns-clause-lawful
returns-clause-lawful g c = rw c.in_ok-copy.ensures at c.in_ok-closed.ensures.turned.run.lawful
