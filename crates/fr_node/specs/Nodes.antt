-- Which router of the laws a node is, and what a step of a node is in these laws. The definitions are this project's
-- own.
use Rattle.std.specs.Prelude.{Bool, ℕ, List, not, ◌&&◌, ◌||◌, ◌≡◌}
use Rattle.fr_node.specs.declared.message.Message.{Message}
use Rattle.fr_node.specs.declared.node.Node.{Node}
use Rattle.fr_node.specs.Distances.{IsDistance}
use Rattle.fr_node.specs.Histories.{IsHistory}
use Rattle.fr_node.specs.Links.{echo_of, has_answered, is_way, link_to}
use Rattle.fr_node.specs.Routers.{GoesOn, Router}

-- the router that the node is, if it has announced these heights
abbrev pub router : Node → (ℕ → ℕ) → Router
router node h = record {
  boot = node.own.boot;
  gateway = node.gateway;
  height = node.own.used;
  number = node.own.number;
  announced = h;
  peer = λ w. (link_to node.links.items w).peer;
  heard = λ w. (link_to node.links.items w).heard;
  seen = λ w. (link_to node.links.items w).seen;
  acked = λ w. (link_to node.links.items w).acked;
}

-- whatever the node had announced, it is the same router as before and has gone on by messages of the pool
pub record Steps (pool : List Message) (old new : Node) : Type 0 where
  pub me : new.own.me ≡ old.own.me
  pub goes_on : (h : ℕ → ℕ) → IsHistory old.own h
      → (k : ℕ → ℕ) × IsHistory new.own k × GoesOn pool old.own.me (router old h) (router new k)

-- packets from w are let in: the link to it is up, and the node is a gateway, or w has acknowledged enough
abbrev pub lets_in : Node → ℕ → Bool
lets_in n w = (link_to n.links.items w).up && (n.gateway || has_answered n.own (link_to n.links.items w))

-- packets may be sent to w
abbrev pub sends_to : Node → ℕ → Bool
sends_to n w = not n.gateway && is_way n.own (link_to n.links.items w)

-- what the node says to w, apart from the stamp
pub record IsMessageTo (n : Node) (w : ℕ) (m : Message) : Type 0 where
  pub from : m.from ≡ n.own.me
  pub to : m.to ≡ w
  pub boot : m.boot ≡ n.own.boot
  pub echo : m.echo ≡ echo_of (link_to n.links.items w)
  pub number : m.number ≡ n.own.number
  pub height : m.height ≡ n.own.announced
  pub heard : m.heard ≡ (link_to n.links.items w).heard
  pub distance : IsDistance n m.distance
