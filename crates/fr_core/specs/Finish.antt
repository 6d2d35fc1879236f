-- What it means to finish, and from which nodes that is possible. This project's own.
use Rattle.std.specs.Prelude.{◌≡◌, ℕ, ◌+◌, ◌<◌, List, length, sum}
use Rattle.std.specs.List.{All, Contains}
use Rattle.fr_core.specs.History.{moment_of, after_all, turn_count}
use Rattle.fr_core.specs.Legal.{CanTurn, IsRun, NoneCanTurn}
use Rattle.fr_core.specs.declared.entry.Entry.{Entry}

-- there is a run from the counts before
pub record IsFinish (n d : ℕ) (first : List (ℕ × ℕ)) (before after : List ℕ) (made : ℕ) : Type 0 where
  pub entries : List Entry
  pub run : IsRun n d (moment_of first before) entries
  -- each of its entries is a turn
  pub turns_alone : turn_count entries ≡ length entries
  -- it has `made` entries
  pub long : length entries ≡ made
  -- it leads to the counts after
  pub ends : after_all (moment_of first before) entries ≡ moment_of first after
  -- at these counts no node can turn
  pub none_left : NoneCanTurn n d (moment_of first after)
  -- each turn has added one to a count
  pub adds : sum after ≡ sum before + made

-- the list has only nodes, and includes each node that can turn at these counts
pub record HoldsAllThatCanTurn (n d : ℕ) (first : List (ℕ × ℕ)) (counts from : List ℕ) : Type 0 where
  pub nodes : All (λ (x : ℕ). x < n) from
  pub all : (x : ℕ) → CanTurn n d (moment_of first counts) x → Contains from x
