-- Networks of nodes in which all messages have arrived and nothing more happens, and where packets end in them. The
-- definitions are this project's own.
use Rattle.std.specs.Prelude.{IsTrue, ℕ, zero, suc, true, ◌+◌, ◌^◌, ◌<◌, ◌≡◌, ◌⊎◌}
use Rattle.std.specs.List.{Contains}
use Rattle.fr_node.specs.declared.link.Link.{Link}
use Rattle.fr_node.specs.declared.node.Node.{Node}
use Rattle.fr_node.specs.declared.policy.Rise.TheVariants.{Full}
use Rattle.fr_node.specs.Histories.{IsHistory}
use Rattle.fr_node.specs.Links.{is_way, link_to}
use Rattle.fr_node.specs.Nodes.{lets_in}
use Rattle.fr_node.specs.Policies.{Keeps, MayAnnounce}

-- the node has a link to w, and it is up
abbrev pub IsLinkedTo : Node → ℕ → Type 0
IsLinkedTo n w = (l : Link) × Contains n.links.items l × (l.up ≡ true) × (l.neighbour ≡ w)

-- the node sends packets to w: one of its ways leads there
abbrev pub SendsTo : Node → ℕ → Type 0
SendsTo n w = (l : Link) × Contains n.links.items l × (is_way n.own l ≡ true) × (l.neighbour ≡ w)

-- what node x has heard on a link that is up is what the neighbour has in use now, and the neighbour has acknowledged
-- the last announcement of x. The link is up at both ends
pub record IsTold (routers : ℕ) (node : ℕ → Node) (x : ℕ) (l : Link) : Type 0 where
  pub within : l.neighbour < routers
  pub linked : (link_to (node l.neighbour).links.items x).up ≡ true
  pub heard : 0 < l.heard
  pub seen : l.seen ≡ (node l.neighbour).own.used
  pub acked : l.acked ≡ (node x).own.number

-- node x raises its height above all neighbours if it has no way, and it could announce a height, but its policy
-- announces nothing
pub record IsStill (n : Node) : Type 0 where
  pub full : n.policy.rise ≡ Full
  pub may : MayAnnounce n
  pub keeps : Keeps n n.own

-- a network of so many routers, node x being router x. Each has announced heights, and a greater one than its own has
-- 64 bits. All messages have arrived, and each router is a gateway or still
pub record IsQuiet (routers : ℕ) (node : ℕ → Node) : Type 0 where
  pub me : (x : ℕ) → x < routers → (node x).own.me ≡ x
  pub announced : (x : ℕ) → x < routers → (h : ℕ → ℕ) × IsHistory (node x).own h
  pub room : (x : ℕ) → x < routers → (node x).own.used + 1 < 2 ^ 64
  pub told : (x : ℕ) (l : Link) → x < routers → Contains (node x).links.items l → l.up ≡ true → IsTold routers node x l
  pub still : (x : ℕ) → x < routers → IsTrue (node x).gateway ⊎ IsStill (node x)

-- packets at router x come to a gateway after k links or fewer, whichever ways they take: x is a gateway, or it has a
-- way, and at each of its ways the neighbour lets in packets from x, which come to a gateway from there
abbrev pub Arrive : (ℕ → Node) → ℕ → ℕ → Type 0
Arrive node zero x = IsTrue (node x).gateway
Arrive node (suc k) x = IsTrue (node x).gateway
    ⊎ (((w : ℕ) × SendsTo (node x) w)
    × ((w : ℕ) → SendsTo (node x) w → IsTrue (lets_in (node w) x) × Arrive node k w))
