-- A walk by looks, hop by hop, while workers turn nodes. This project's own.
use Rattle.std.specs.Prelude.{◌≡◌, ◌≢◌, ℕ, ◌<◌, ◌≤◌, List, [], ◌∷◌, ◌++◌, ◌+◌, length, vec_capacity, vec_len}
use Rattle.std.specs.declared.vec.Vec.{Vec}
use Rattle.std.specs.declared.alloc.Global.{Global}
use Rattle.std.specs.List.{AllByRecursion as Each, flat_map}
use Rattle.fr_graph.specs.Links.{IsAlone}
use Rattle.fr_core.specs.History.{part}
use Rattle.fr_core.specs.Replies.{IsReplyToLook}
use Rattle.fr_core.specs.Targets.{IsLookable}
use Rattle.fr_core.specs.declared.entry.Entry.{Entry}
use Rattle.fr_core.specs.declared.entry.Reply.{Reply}
use Rattle.fr_core.specs.declared.entry.Reply.TheVariants.{Turned, Held, Moved, Cut, Sink}
use Rattle.fr_round.specs.declared.view.Setup.{Setup}
use Rattle.fr_round.specs.Histories.{StartsWith}
use Rattle.fr_round.specs.Knowledge.{IsKnowledge, Knowledge}
use Rattle.fr_crew.specs.declared.live_walks.LiveEnd.{LiveEnd}
use Rattle.fr_crew.specs.declared.live_walks.LiveEnd.TheVariants.{Here, AtSink, Limit}
use Rattle.fr_crew.specs.declared.live_walks.LiveFault.{LiveFault}
use Rattle.fr_crew.specs.declared.live_walks.LiveFault.TheVariants.{NoNode, Alone, Memory}
use Rattle.fr_crew.specs.declared.live_walks.LiveWalk.{LiveWalk}

-- where a walk is after a look at x: at the neighbour that holds x, otherwise at x
abbrev pub node_after : ℕ → Reply → ℕ
node_after x (Held w) = w
node_after x (Turned k) = x
node_after x (Moved had k) = x
node_after x Cut = x
node_after x Sink = x

-- the node to which the walk hops, if it hops
abbrev pub hop_of : Reply → List ℕ
hop_of (Held w) = w ∷ []
hop_of (Turned k) = []
hop_of (Moved had k) = []
hop_of Cut = []
hop_of Sink = []

-- These are the looks of a walk from x. Each one is at the current node of the walk, which is not the destination. No
-- look comes after one that finds a sink.
abbrev pub AreLooksFrom : ℕ → ℕ → List Entry → Type 0
AreLooksFrom d x [] = Unit {0}
AreLooksFrom d x (e ∷ es) = (e.node ≡ x) × (x ≢ d) × IsReplyToLook e.reply × (e.reply ≡ Sink → es ≡ [])
    × AreLooksFrom d (node_after x e.reply) es

-- the nodes of such a walk: the first one, and each one to which it hops
abbrev pub trail : ℕ → List Entry → List ℕ
trail x looks = x ∷ flat_map (λ (e : Entry). hop_of e.reply) looks

abbrev pub FindsNoSink : Entry → Type 0
FindsNoSink e = e.reply ≢ Sink

-- how the walk ends at this last node
abbrev pub EndsBy : ℕ → ℕ → ℕ → List Entry → LiveEnd → Type 0
EndsBy d limit last looks Here = last ≡ d
EndsBy d limit last looks AtSink = (before : List Entry) × (e : Entry) × (looks ≡ before ++ e ∷ []) × (e.node ≡ last)
    × (e.reply ≡ Sink)
EndsBy d limit last looks Limit = (last ≢ d) × (length looks ≡ limit) × Each FindsNoSink looks

-- the only node is x, and there is room for one more node for each look
pub record HasRoomToWalk (nodes : Vec ℕ Global) (x limit : ℕ) : Type 0 where
  pub first : nodes.items ≡ x ∷ []
  pub one : vec_len nodes ≡ 1
  pub room : limit + 1 ≤ vec_capacity nodes

-- a worker has walked from x along these nodes
pub record HasWalked (old new : Knowledge) (d x limit : ℕ) (nodes : List ℕ) (end : LiveEnd) : Type 0 where
  -- its history is extended, and its own part of it by exactly these looks
  pub looks : List Entry
  pub begins : StartsWith new.known old.known
  pub own : part old.number new.known ≡ part old.number old.known ++ looks
  -- these are the looks of the walk, at most `limit`
  pub along : AreLooksFrom d x looks
  pub few : length looks ≤ limit
  -- the walk ends at the last of its nodes
  pub nodes_are : nodes ≡ trail x looks
  pub front : List ℕ
  pub last : ℕ
  pub parted : nodes ≡ front ++ last ∷ []
  pub ends : EndsBy d limit last looks end
  -- what the worker knows is true
  pub known : IsKnowledge new

abbrev pub IsLiveWalk : Knowledge → Knowledge → ℕ → ℕ → ℕ → LiveWalk → Type 0
IsLiveWalk old new d x limit walk = HasWalked old new d x limit walk.nodes.items walk.end

-- why a walk from x is not begun
abbrev pub IsLiveFault : Setup → ℕ → LiveFault → Type 0
IsLiveFault b x NoNode = b.nodes ≤ x
IsLiveFault b x Alone = (x < b.nodes) × IsAlone b.links x
IsLiveFault b x Memory = IsLookable b.nodes b.links x
