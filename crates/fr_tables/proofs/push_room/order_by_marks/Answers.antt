use Rattle.fr_tables.proofs.push_room.order_by_marks.Goals as goal

pub list_keys-requires-clause-none : goal.list_keys-requires-clause-none
list_keys-requires-clause-none c = c.requires.none c.last_routed-last.result

pub list_keys-requires-clause-groups : goal.list_keys-requires-clause-groups
list_keys-requires-clause-groups c = c.requires.groups c.last_routed-last.result c.last_routed-last.ensures
