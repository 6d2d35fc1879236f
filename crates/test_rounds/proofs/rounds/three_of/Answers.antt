use Rattle.test_rounds.proofs.rounds.three_of.Goals as goal

pub two_of-requires : goal.two_of-requires
two_of-requires c = c.last_of.ensures.others
