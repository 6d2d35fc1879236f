-- The value of a null reader of ways, and the answers of such readers. This project's own.
use Rattle.std.specs.Prelude.{◌≡◌, ℕ, ◌<◌, ◌≤◌, ◌⊎◌, List, [], Option, Some, None}
use Rattle.fr_shared.specs.WayTables.{IsChosen, WayKnowledge, way_codec}
use Rattle.fr_shared.specs.Reading.{HasRead}
use Rattle.revroute_c.specs.Questions.{cut_off, no_node}
use Rattle.revroute_c.specs.Replies.{Outcome, GivesList}
use Rattle.revroute_c.specs.Statuses.{REVROUTE_NO_NETWORK, REVROUTE_NO_ROUTE}

-- the value of a null handle
abbrev pub no_way_reader : WayKnowledge
no_way_reader = record {
  table = record { words = 0; slots = 0; views_name = 0; atom = 0; block = 0; offset = 0; slot_names = [] };
  nodes = 0;
  known = [];
}

-- these are the first ways of a node, as this reader has read them
abbrev pub AreWaysRead : WayKnowledge → WayKnowledge → ℕ → List ℕ → Type 0
AreWaysRead old new node list = (node < old.nodes) × HasRead way_codec old new node list

-- the result of a call that reads the first ways of a node
pub record TellsWaysRead (old new : WayKnowledge) (node : ℕ) (o : Outcome ℕ) : Type 0 where
  pub gives : GivesList (AreWaysRead old new node) o
  -- room for five ways is enough
  pub few : o.size ≤ 5
  pub no_route : o.status ≡ REVROUTE_NO_ROUTE → (old.nodes ≤ node) × (new ≡ old)
  pub no_network : o.status ≡ REVROUTE_NO_NETWORK → new ≡ old

-- the chosen way as a number
abbrev pub way_number : Option ℕ → ℕ
way_number None = cut_off
way_number (Some y) = y

-- this number is the way that a choice chooses among the first ways of a node, as this reader has read them
pub record IsWayRead (old new : WayKnowledge) (node choice number : ℕ) : Type 0 where
  pub list : List ℕ
  pub read : HasRead way_codec old new node list
  pub chosen : Option ℕ
  pub is_chosen : IsChosen list choice chosen
  pub number_is : number ≡ way_number chosen

-- the answer for any node
abbrev pub TellsWayRead : WayKnowledge → WayKnowledge → ℕ → ℕ → ℕ → Type 0
TellsWayRead old new node choice number =
    ((old.nodes ≤ node) × (number ≡ no_node) × (new ≡ old))
    ⊎ ((node < old.nodes) × IsWayRead old new node choice number)
