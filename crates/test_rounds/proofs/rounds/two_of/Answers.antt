use Rattle.test_rounds.proofs.rounds.two_of.Goals as goal

pub last_of-requires-2 : goal.last_of-requires-2
last_of-requires-2 c = c.last_of.ensures.others
