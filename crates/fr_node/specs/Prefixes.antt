-- Forwarding by the longest prefix. The address of a packet may lie in prefixes of several lengths, and routers may know
-- different ones. Each router forwards the packet by the longest prefix that it knows: its table has ways and gates for
-- each. Longest prefixes are those of V. Fuller and T. Li, Classless Inter-domain Routing, RFC 4632 (2006). The law is
-- this project's own.
use Rattle.std.specs.Prelude.{Bool, List, [], ◌∷◌, ◌<◌, ◌≡◌, ◌≤◌, true, ℕ}
use Rattle.fr_node.specs.Routers.{end_of}
use Rattle.fr_node.specs.Tables.{HaveNoLoop}

-- the tables of all routers, for one address: whether router x knows the prefix of length p in which the address lies,
-- and for each such prefix the neighbours to which it sends packets, and those whose packets it lets in
pub record PrefixTables : Type 0 where
  pub known : (x p : ℕ) → Bool
  pub ways : (p x w : ℕ) → Bool
  pub gates : (p w x : ℕ) → Bool

-- p is the length of the longest prefix that router x knows
pub record IsLongest (t : PrefixTables) (x p : ℕ) : Type 0 where
  pub known : t.known x p ≡ true
  pub longest : (q : ℕ) → t.known x q ≡ true → q ≤ p

-- the packet goes from x to w: x sends it there by its longest prefix, and w lets it in by its own longest prefix
pub record IsForwarded (t : PrefixTables) (x w : ℕ) : Type 0 where
  pub out : ℕ
  pub by : IsLongest t x out
  pub way : t.ways out x w ≡ true
  pub into : ℕ
  pub at : IsLongest t w into
  pub gate : t.gates into w x ≡ true

-- a walk of the packet
abbrev pub IsPacketWalk : PrefixTables → ℕ → List ℕ → Type 0
IsPacketWalk t u [] = Unit {0}
IsPacketWalk t u (v ∷ vs) = IsForwarded t u v × IsPacketWalk t v vs

-- a router that lets in anything from x knows each prefix for which x has it as a way
abbrev pub KnowsWhatComes : PrefixTables → Type 0
KnowsWhatComes t = (p q x w : ℕ) → t.ways p x w ≡ true → t.gates q w x ≡ true → t.known w p ≡ true

-- A packet never meets a router again if the tables of no prefix have a loop, and if each router that lets in anything
-- from a neighbour knows each prefix for which that neighbour has it as a way.
abbrev pub PrefixesHaveNoLoop : Type 0
PrefixesHaveNoLoop = (t : PrefixTables) → KnowsWhatComes t → ((p : ℕ) → HaveNoLoop (t.ways p) (t.gates p))
    → (u v : ℕ) (vs : List ℕ) → IsPacketWalk t u (v ∷ vs) → ¬ (end_of v vs ≡ u)

-- In some network whose routers know different prefixes, a packet goes from router 1 to router 0, which knows a longer
-- prefix.
abbrev pub SomePrefixIsLonger : Type 0
SomePrefixIsLonger = (t : PrefixTables) × KnowsWhatComes t × ((p : ℕ) → HaveNoLoop (t.ways p) (t.gates p))
    × ((it : IsForwarded t 1 0) × (it.out < it.into))
