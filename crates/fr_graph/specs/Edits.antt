-- The links of a network with one link removed or added, and why an edit is refused. With an added link from u to v,
-- the links are `links ++ (u, v) ∷ []`, and `IsFirstFault` says which fault they have. A join chooses the direction of
-- the added link. This project's own; added and failed links are those of Gafni and Bertsekas (1981).
use Rattle.std.specs.Prelude.{ℕ, ◌⊎◌, ◌++◌, List, [], ◌∷◌, not}
use Rattle.std.specs.List.{filter}
use Rattle.fr_graph.specs.Faults.{IsFirstFault, IsNetworkOf}
use Rattle.fr_graph.specs.Links.{IsAcyclic, Joins, is_between}
use Rattle.fr_graph.specs.Network.{Network}
use Rattle.fr_graph.specs.declared.fault.NetFault.{NetFault}
use Rattle.fr_graph.specs.declared.fault.NetFault.TheVariants.{TooMany, Range, SelfLink, Twice, Cycle, NoLink, Memory}

-- the links except those between u and v, whichever way they point
abbrev pub without : ℕ → ℕ → List (ℕ × ℕ) → List (ℕ × ℕ)
without u v links = filter (λ (l : ℕ × ℕ). not (is_between u v l)) links

-- a cut is refused: no link joins u and v
abbrev pub IsCutFault : List (ℕ × ℕ) → ℕ → ℕ → NetFault → Type 0
IsCutFault links u v TooMany = ⊥
IsCutFault links u v (Range x) = ⊥
IsCutFault links u v (SelfLink x) = ⊥
IsCutFault links u v (Twice x y) = ⊥
IsCutFault links u v (Cycle walk) = ⊥
IsCutFault links u v NoLink = ¬ Joins links u v
IsCutFault links u v Memory = ⊥

-- the network with u and v joined: by the link from u to v, or by the link from v to u if the other closes a cycle
abbrev pub IsJoined : ℕ → List (ℕ × ℕ) → ℕ → ℕ → Network → Type 0
IsJoined n links u v net =
    IsNetworkOf n (links ++ (u, v) ∷ []) net
    ⊎ (¬ IsAcyclic (links ++ (u, v) ∷ []) × IsNetworkOf n (links ++ (v, u) ∷ []) net)

-- a join is refused: with the first fault of the links with the one from u to v added, except a cycle
abbrev pub IsJoinFault : ℕ → List (ℕ × ℕ) → ℕ → ℕ → NetFault → Type 0
IsJoinFault n links u v (Cycle walk) = ⊥
IsJoinFault n links u v fault = IsFirstFault n (links ++ (u, v) ∷ []) fault
