use Rattle.fr_crew.proofs.settlement.run_crew_round.Given as goal

-- the deques are those of this round
abbrev pub ghosts-run_crew : goal.ghosts-run_crew
ghosts-run_crew g a = record { setup = a.round.setup }
