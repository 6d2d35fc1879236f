-- Links that work one way: a neighbour is silent if the router does not hear it, and seems deaf if it does not hear the
-- router. Such links hold no router back. The definitions and laws are this project's own.
use Rattle.std.specs.Prelude.{Bool, List, [], ◌∷◌, map, false, ℕ, ◌+◌, ◌^◌, ◌<◌, ◌≡◌, ◌≢◌, ◌≤◌, ◌⊎◌}
use Rattle.std.specs.List.{Contains}
use Rattle.fr_node.specs.declared.link.Link.{Link}
use Rattle.fr_node.specs.declared.message.Message.{Message}
use Rattle.fr_node.specs.declared.node.Node.{Node}
use Rattle.fr_node.specs.Daemons.{KeepsLinks}
use Rattle.fr_node.specs.Links.{Hears, IsTaken, SetsCost, SetsUp, after_tick, is_lower, link_to}
use Rattle.fr_node.specs.Nodes.{IsMessageTo}
use Rattle.fr_node.specs.Policies.{IsSink}
use Rattle.fr_node.specs.Repeats.{last_node}

-- node n has become k by a call in which no message of w is taken
abbrev pub IsSilentCall : ℕ → Node → Node → Type 0
IsSilentCall w n k = KeepsLinks n k
    ⊎ ((m : Message) × Hears n.own m n.links.items k.links.items × (m.from ≡ w → ¬ IsTaken n.own m n.links.items))
    ⊎ ((v : ℕ) × (up : Bool) × SetsUp v up n.links.items k.links.items)
    ⊎ ((v cost : ℕ) × SetsCost v cost n.links.items k.links.items)

-- the message is for another start of the node, and its sender has not started again
abbrev pub IsForAnotherStart : Node → Message → Type 0
IsForAnotherStart n m = (m.echo ≢ n.own.boot) × (m.boot ≡ (link_to n.links.items m.from).peer)

-- node n has become k by a call in which w seems deaf: what is taken of w is for another start of n, and the caller
-- does not say that the link to w is up
abbrev pub IsDeafCall : ℕ → Node → Node → Type 0
IsDeafCall w n k = KeepsLinks n k
    ⊎ ((m : Message) × Hears n.own m n.links.items k.links.items
    × (m.from ≡ w → IsTaken n.own m n.links.items → IsForAnotherStart n m))
    ⊎ ((v : ℕ) × (up : Bool) × SetsUp v up n.links.items k.links.items × (v ≡ w → up ≡ false))
    ⊎ ((v cost : ℕ) × SetsCost v cost n.links.items k.links.items)

-- the nodes in the list follow one another by such calls and by so many ticks with this patience
abbrev pub HasTicks : (Node → Node → Type 0) → (patience ticks : ℕ) → Node → List Node → Type 0
HasTicks Call patience ticks n [] = ticks ≡ 0
HasTicks Call patience ticks n (k ∷ ks) = (Call n k × HasTicks Call patience ticks k ks)
    ⊎ ((k.links.items ≡ map (after_tick patience) n.links.items)
    × ((others : ℕ) × (ticks ≡ others + 1) × HasTicks Call patience others k ks))

-- these are at least as many ticks as the caller's patience, a number of 32 bits
pub record LastsFor (Call : Node → Node → Type 0) (patience : ℕ) (n : Node) (ks : List Node) : Type 0 where
  pub some : (0 < patience) × (patience < 2 ^ 32)
  pub ticks : ℕ
  pub enough : patience ≤ ticks
  pub calls : HasTicks Call patience ticks n ks

-- A link does not count as up after as many ticks as the patience in which what was taken of the neighbour was for
-- another start of the router. Meanwhile the neighbour has not started again, and the caller has not said that the
-- link is up. Anything else may be called, also `tick` with another patience.
abbrev pub DeafLinksAreLost : Type 0
DeafLinksAreLost = (patience w : ℕ) (n : Node) (ks : List Node) → LastsFor (IsDeafCall w) patience n ks
    → (link_to (last_node n ks).links.items w).up ≡ false

-- the link does not make the node wait: its neighbour was heard and is not lower, or has seemed deaf for so long. It is
-- the one link to this neighbour
pub record HoldsNothingBack (patience : ℕ) (n : Node) (ks : List Node) (l : Link) : Type 0 where
  pub once : link_to (last_node n ks).links.items l.neighbour ≡ l
  pub why : ((0 < l.heard) × (is_lower (last_node n ks).own l ≡ false))
      ⊎ LastsFor (IsDeafCall l.neighbour) patience n ks

-- If each other neighbour was heard and is not lower, the router is then a sink, so its policy may act.
abbrev pub DeafLinksHoldNothingBack : Type 0
DeafLinksHoldNothingBack = (patience : ℕ) (n : Node) (ks : List Node)
    → ((l : Link) → Contains (last_node n ks).links.items l → HoldsNothingBack patience n ks l)
    → IsSink (last_node n ks).own (last_node n ks).links.items

-- After as many ticks in which no message of a neighbour is taken, the router says to it that it knows no start of
-- it. So it seems deaf to that neighbour, which has a number of its start above 0.
abbrev pub SilenceIsTold : Type 0
SilenceIsTold = (patience w : ℕ) (n : Node) (ks : List Node) → LastsFor (IsSilentCall w) patience n ks
    → (m : Message) → IsMessageTo (last_node n ks) w m → m.echo ≡ 0
