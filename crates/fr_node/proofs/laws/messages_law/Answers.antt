use Rattle.fr_node.proofs.ByteForms.{one_message}
use Rattle.fr_node.proofs.Repeats.{repeats_are_ignored}
use Rattle.fr_node.proofs.laws.messages_law.Goals as goal

pub returns-clause-once : goal.returns-clause-once
returns-clause-once c = one_message

pub returns-clause-repeats : goal.returns-clause-repeats
returns-clause-repeats c = repeats_are_ignored
