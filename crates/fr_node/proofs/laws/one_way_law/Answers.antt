use Rattle.fr_node.proofs.OneWay.{deaf_links_are_lost, deaf_links_hold_nothing_back, silence_is_told}
use Rattle.fr_node.proofs.laws.one_way_law.Goals as goal

pub returns-clause-lost : goal.returns-clause-lost
returns-clause-lost c = deaf_links_are_lost

pub returns-clause-free : goal.returns-clause-free
returns-clause-free c = deaf_links_hold_nothing_back

pub returns-clause-told : goal.returns-clause-told
returns-clause-told c = silence_is_told
