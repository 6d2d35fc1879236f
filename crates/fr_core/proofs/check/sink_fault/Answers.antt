use Rattle.fr_core.proofs.check.sink_fault.Goals as goal

pub returns-then-is_sink-clause-none : goal.returns-then-is_sink-clause-none
returns-then-is_sink-clause-none c = c.is_sink.ensures.0 c.if-is_sink.true
