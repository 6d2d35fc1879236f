-- Runs from the counts 0, and where they lead. This project's own.
use Rattle.std.specs.Prelude.{◌≡◌, ℕ, List, replicate, slice_index}
use Rattle.fr_graph.specs.Counts.{AreLawful, links_at}
use Rattle.fr_graph.specs.Links.{IsAcyclic}
use Rattle.fr_core.specs.History.{after_all, count_after, moment_of}
use Rattle.fr_core.specs.Legal.{IsRun}
use Rattle.fr_core.specs.declared.entry.Entry.{Entry}

-- the entries are a run from these first links and the counts 0
pub record IsRunTo (n d : ℕ) (first : List (ℕ × ℕ)) (entries : List Entry) (counts : List ℕ) : Type 0 where
  pub run : IsRun n d (moment_of first (replicate n 0)) entries
  -- it leads to these counts and to the links that they give
  pub ends : after_all (moment_of first (replicate n 0)) entries ≡ moment_of first counts
  -- each node has turned as often as its count says
  pub turns : (x : ℕ) → slice_index counts x ≡ count_after (replicate n 0) entries x
  -- the counts are lawful, so there is one for each node
  pub lawful : AreLawful n d first counts
  -- the links contain no cycle
  pub acyclic : IsAcyclic (links_at first counts)
