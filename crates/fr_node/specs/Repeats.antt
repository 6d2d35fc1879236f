-- Messages that are heard again, or after later ones. The definitions and the law are this project's own.
use Rattle.std.specs.Prelude.{Bool, IsTrue, List, [], ◌∷◌, ℕ, ◌<◌, ◌≡◌, ◌≤◌, ◌⊎◌}
use Rattle.fr_node.specs.declared.message.Message.{Message}
use Rattle.fr_node.specs.declared.node.Node.{Node}
use Rattle.fr_node.specs.Daemons.{KeepsLinks}
use Rattle.fr_node.specs.Links.{Hears, IsKnown, IsTaken, SetsCost, SetsUp}

-- node n has become k by a call: `hear`, `link_up` or `link_down`, `set_cost` for such a neighbour, or one that keeps
-- what was heard of neighbours, also `tick`
pub record IsCall (has_other_cost : ℕ → Bool) (n k : Node) : Type 0 where
  pub me : k.own.me ≡ n.own.me
  pub links : KeepsLinks n k
      ⊎ ((m : Message) × Hears n.own m n.links.items k.links.items)
      ⊎ ((w : ℕ) × (up : Bool) × SetsUp w up n.links.items k.links.items)
      ⊎ ((w cost : ℕ) × IsTrue (has_other_cost w) × SetsCost w cost n.links.items k.links.items)

-- the nodes in the list follow one another, by calls
abbrev pub AreCalls : (ℕ → Bool) → Node → List Node → Type 0
AreCalls has_other_cost n [] = Unit {0}
AreCalls has_other_cost n (k ∷ ks) = IsCall has_other_cost n k × AreCalls has_other_cost k ks

abbrev pub last_node : Node → List Node → Node
last_node n [] = n
last_node n (k ∷ ks) = last_node k ks

-- Once a node has heard a message that is for it and from a known neighbour, it never takes this message again, nor
-- an older one of this neighbour, whatever is called between.
abbrev pub RepeatsAreIgnored : Type 0
RepeatsAreIgnored = (has_other_cost : ℕ → Bool) (m again : Message) (old new : Node) (between : List Node)
    → m.to ≡ old.own.me → IsKnown old.links.items m.from → Hears old.own m old.links.items new.links.items
    → AreCalls has_other_cost new between
    → again.from ≡ m.from → (again.boot < m.boot) ⊎ ((again.boot ≡ m.boot) × (again.stamp ≤ m.stamp))
    → ¬ IsTaken (last_node new between).own again (last_node new between).links.items
