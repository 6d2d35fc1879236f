-- The value of a null reader, and the answers of readers. This project's own.
use Rattle.std.specs.Prelude.{◌≡◌, ℕ, suc, ◌<◌, ◌≤◌, ◌⊎◌, List, [], ◌∷◌, length}
use Rattle.fr_tables.specs.Tables.{end_of}
use Rattle.fr_tables.specs.declared.hop.Hop.{Hop}
use Rattle.fr_shared.specs.Histories.{StartsWith}
use Rattle.fr_shared.specs.HopTables.{HopKnowledge, hop_codec, last_hops}
use Rattle.fr_shared.specs.Reading.{GoesBy, HasRead}
use Rattle.fr_shared.specs.HopWalks.{IsEnd}
use Rattle.fr_shared.specs.declared.hops.walks.WalkEnd.{WalkEnd}
use Rattle.fr_shared.specs.declared.hops.walks.WalkEnd.TheVariants.{Arrived, CutOff, Longer}
use Rattle.revroute_c.specs.Questions.{no_node, number_of}
use Rattle.revroute_c.specs.Replies.{Outcome, IsWritten}
use Rattle.revroute_c.specs.Statuses.{REVROUTE_ANSWERED, REVROUTE_TOO_SHORT, REVROUTE_NO_NETWORK, REVROUTE_NO_ROUTE}

-- the value of a null handle
abbrev pub no_reader : HopKnowledge
no_reader = record {
  table = record { words = 0; slots = 0; views_name = 0; atom = 0; block = 0; offset = 0; slot_names = [] };
  nodes = 0;
  known = [];
}

-- the reader reads the same table, and what it knows extends what it knew
pub record ReadsOn (old new : HopKnowledge) : Type 0 where
  pub same : new ≡ record old { known = new.known }
  pub grows : StartsWith new.known old.known

-- the result of a call by which a reader of hops or of ways learns what another one knows
pub record TellsLearned {K : Type 0} (Learns : Type 0) (old new : K) (status : ℕ) : Type 0 where
  pub learned : status ≡ REVROUTE_ANSWERED → Learns
  pub unchanged : status ≡ REVROUTE_NO_NETWORK → new ≡ old

-- the hop of a node as a number, as this reader has read it
abbrev pub IsHopRead : HopKnowledge → HopKnowledge → ℕ → ℕ → Type 0
IsHopRead old new node number = (hop : Hop) × HasRead hop_codec old new node hop × (number ≡ number_of hop)

-- the answer for any node
abbrev pub TellsHopRead : HopKnowledge → HopKnowledge → ℕ → ℕ → Type 0
TellsHopRead old new node number =
    ((old.nodes ≤ node) × (number ≡ no_node) × (new ≡ old))
    ⊎ ((node < old.nodes) × IsHopRead old new node number)

-- a reader that knew `old` has walked from a node along these nodes, and now knows `new`; the last load was of the last
-- node, and ended the walk
pub record HasWalkedBy (old new : HopKnowledge) (node : ℕ) (nodes : List ℕ) (end : WalkEnd) : Type 0 where
  pub goes : GoesBy hop_codec old.nodes old.known node nodes new.known
  pub ends : IsEnd end (last_hops new) (end_of node nodes)

-- the same, and the node and those after it are at the front of the place
pub record WalksInto (old new : HopKnowledge) (node : ℕ) (nodes : List ℕ) (end : WalkEnd) (o : Outcome ℕ) : Type 0 where
  pub walked : HasWalkedBy old new node nodes end
  pub written : IsWritten (node ∷ nodes) o.before o.after

-- the walk ends at the destination, and `size` is the number of its nodes
abbrev pub Arrives : HopKnowledge → HopKnowledge → ℕ → Outcome ℕ → Type 0
Arrives old new node o =
    (nodes : List ℕ) × WalksInto old new node nodes Arrived o × (o.size ≡ length (node ∷ nodes))

-- the walk fills the place before its end, or there is no room for its first node
abbrev pub Fills : HopKnowledge → HopKnowledge → ℕ → Outcome ℕ → Type 0
Fills old new node o =
    ((o.before ≡ []) × (o.after ≡ []) × (new ≡ old))
    ⊎ ((nodes : List ℕ) × WalksInto old new node nodes Longer o × (length (node ∷ nodes) ≡ length o.before))

-- the walk ends at a node that is cut off, or its first number is not a node
abbrev pub IsLost : HopKnowledge → HopKnowledge → ℕ → Outcome ℕ → Type 0
IsLost old new node o =
    ((old.nodes ≤ node) × (o.after ≡ o.before) × (new ≡ old))
    ⊎ ((node < old.nodes) × (nodes : List ℕ) × WalksInto old new node nodes CutOff o)

-- the result of a call that walks from a node
pub record TellsWalk (old new : HopKnowledge) (node : ℕ) (o : Outcome ℕ) : Type 0 where
  pub answered : o.status ≡ REVROUTE_ANSWERED → (node < old.nodes) × Arrives old new node o
  pub too_short : o.status ≡ REVROUTE_TOO_SHORT → (node < old.nodes) × Fills old new node o
  -- `size` is one more than there is room for
  pub more : o.status ≡ REVROUTE_TOO_SHORT → o.size ≡ suc (length o.before)
  pub no_route : o.status ≡ REVROUTE_NO_ROUTE → IsLost old new node o
  pub no_network : o.status ≡ REVROUTE_NO_NETWORK → (o.after ≡ o.before) × (new ≡ old)
  pub none : REVROUTE_TOO_SHORT < o.status → o.size ≡ 0
