use Rattle.fr_crew.proofs.deques.Deque.share.Goals as goal

-- the length of a deque shows nothing
pub len_as-requires : goal.len_as-requires
len_as-requires g c = λ _ _ _ _. tt
