-- The push order between two tables of the caller, whatever method made them. Their hops are numbers, as in answers to
-- questions. This project's own.
use Rattle.std.specs.Prelude.{◌≡◌, ◌≢◌, ℕ, ◌<◌, ◌≤◌, ◌⊎◌, ◌++◌, List, [], ◌∷◌, length, map, max, find, Some, None}
use Rattle.fr_graph.specs.Limits.{most_nodes}
use Rattle.fr_shared.specs.HopTables.{padded}
use Rattle.fr_tables.specs.Faults.{IsLowestLoop, IsOrdered}
use Rattle.fr_tables.specs.declared.hop.Hop.{Hop}
use Rattle.revroute_c.specs.Replies.{IsGiven, IsLength, IsWritten, Outcome}
use Rattle.revroute_c.specs.Rounds.{first_step}
use Rattle.revroute_c.specs.Statuses.{REVROUTE_ANSWERED, REVROUTE_TOO_SHORT, REVROUTE_NO_MEMORY, REVROUTE_REFUSED}
use Rattle.revroute_c.specs.Tables.{hop_of, is_outside}
use Rattle.revroute_c.specs.declared.records.Refusal.{Refusal}

-- how many nodes two tables have: as many as the longer one
abbrev pub nodes_of : List ℕ → List ℕ → ℕ
nodes_of old new = max (length old) (length new)

-- the hops of a table of n nodes; a node past its end is cut off
abbrev pub hops_of : ℕ → List ℕ → List Hop
hops_of n table = padded n (map hop_of table)

-- the tables are within the limit, and each of their hops names a node or none
pub record AreInRange (old new : List ℕ) : Type 0 where
  pub few : nodes_of old new ≤ most_nodes
  pub in_range : find (is_outside (nodes_of old new)) (old ++ new) ≡ None

-- the nodes at which the tables differ, in push order
pub record AreOrdered (old new nodes : List ℕ) : Type 0 where
  pub in_range : AreInRange old new
  pub order : IsOrdered (hops_of (nodes_of old new) old) (hops_of (nodes_of old new) new) nodes

-- the loop of the lowest node on a loop of the new table, from this node on, and then this node again
pub record IsLoopOfNew (old new nodes : List ℕ) : Type 0 where
  pub in_range : AreInRange old new
  pub first : ℕ
  pub rest : List ℕ
  pub loop : IsLowestLoop (hops_of (nodes_of old new) new) (first ∷ rest)
  pub nodes_are : nodes ≡ (first ∷ rest) ++ first ∷ []

-- the refusal for this reason, with these two nodes
abbrev pub refusal_with : ℕ → ℕ × ℕ → Refusal
refusal_with number nodes = record { number = number; u = nodes.0; v = nodes.1; at = 0 }

-- the tables are refused, whatever hops the new one has: they have more nodes than a network may have, or x is the
-- first of their numbers that names no hop
abbrev pub AreNoTables : List ℕ → List ℕ → Refusal → Type 0
AreNoTables old new r =
    ((most_nodes < nodes_of old new) × (r ≡ refusal_with 9 (0, 0)))
    ⊎ ((nodes_of old new ≤ most_nodes)
    × ((x : ℕ) × (find (is_outside (nodes_of old new)) (old ++ new) ≡ Some x) × (r ≡ refusal_with 4 (x, x))))

-- a cycle is at the front of the place, and the refusal has its first step
pub record IsCycleTold (cycle : List ℕ) (o : Outcome ℕ) (r : Refusal) : Type 0 where
  pub written : IsWritten cycle o.before o.after
  pub size_is : o.size ≡ length cycle
  pub is : r ≡ refusal_with 7 (first_step cycle)

-- the tables are refused and nothing else is written, or the new one has a loop
abbrev pub AreRefused : List ℕ → List ℕ → Outcome ℕ → Refusal → Type 0
AreRefused old new o r =
    (AreNoTables old new r × (o.after ≡ o.before) × (o.size ≡ 0))
    ⊎ ((cycle : List ℕ) × IsLoopOfNew old new cycle × IsCycleTold cycle o r)

-- a call lists the nodes at which two tables differ, in push order, or refuses the tables
pub record OrdersPushes (old new : List ℕ) (o : Outcome ℕ) (before after : Refusal) : Type 0 where
  pub answered : o.status ≡ REVROUTE_ANSWERED → IsGiven (AreOrdered old new) o
  -- `size` is the length of what does not fit into the place
  pub too_short : o.status ≡ REVROUTE_TOO_SHORT → (length o.before < o.size)
      × IsLength (λ nodes. AreOrdered old new nodes ⊎ IsLoopOfNew old new nodes) o.size
  pub no_memory : o.status ≡ REVROUTE_NO_MEMORY → AreInRange old new × (o.size ≡ 0)
  pub refused : o.status ≡ REVROUTE_REFUSED → AreRefused old new o after
  pub unchanged : o.status ≢ REVROUTE_ANSWERED → o.status ≢ REVROUTE_REFUSED → o.after ≡ o.before
  pub unrefused : o.status ≢ REVROUTE_REFUSED → after ≡ before
  pub status : (o.status ≡ REVROUTE_ANSWERED) ⊎ (o.status ≡ REVROUTE_TOO_SHORT) ⊎ (o.status ≡ REVROUTE_NO_MEMORY)
      ⊎ (o.status ≡ REVROUTE_REFUSED)

-- a call tells this cycle, unless there is too little room or memory is missing
pub record TellsCycle (cycle : List ℕ) (o : Outcome ℕ) (before after : Refusal) : Type 0 where
  pub refused : o.status ≡ REVROUTE_REFUSED → IsCycleTold cycle o after
  pub too_short : o.status ≡ REVROUTE_TOO_SHORT → (length o.before < o.size) × (o.size ≡ length cycle)
  pub no_memory : o.status ≡ REVROUTE_NO_MEMORY → o.size ≡ 0
  pub unchanged : o.status ≢ REVROUTE_REFUSED → (o.after ≡ o.before) × (after ≡ before)
  pub status : (o.status ≡ REVROUTE_TOO_SHORT) ⊎ (o.status ≡ REVROUTE_NO_MEMORY) ⊎ (o.status ≡ REVROUTE_REFUSED)
