-- Where the caller's table differs from the settled hops. Its hops are numbers, as in answers to questions. This
-- project's own.
use Rattle.std.specs.Prelude.{◌≡◌, ◌≢◌, ℕ, ◌⊎◌, ◌==◌, ◌&&◌, not, nat_le, if◌then◌else◌, Bool}
use Rattle.std.specs.Prelude.{List, length, find, map, Option, Some, None}
use Rattle.fr_route.specs.Reroutes.{ArePushes}
use Rattle.fr_route.specs.States.{State}
use Rattle.fr_tables.specs.declared.hop.Hop.{Hop}
use Rattle.fr_tables.specs.declared.hop.Hop.TheVariants.{Here, To, CutOff}
use Rattle.revroute_c.specs.Questions.{cut_off, here}

-- the hop that a number names
abbrev pub hop_of : ℕ → Hop
hop_of number = if number == here then Here else (if number == cut_off then CutOff else To number)

-- the number names no hop in a table of n nodes: it is no node, and none of the two values in place of a node
abbrev pub is_outside : ℕ → ℕ → Bool
is_outside n number = nat_le n number && (not (number == here) && not (number == cut_off))

-- the nodes whose hop differs from that in the table, in push order
abbrev pub ArePushesOf : Option State → List ℕ → List ℕ → Type 0
ArePushesOf None table nodes = ⊥
ArePushesOf (Some s) table nodes = ArePushes s (map hop_of table) nodes

-- the table has too few or too many hops, or one of them does not name a node
abbrev pub IsNoTable : Option State → List ℕ → Type 0
IsNoTable None table = ⊥
IsNoTable (Some s) table = (length table ≢ s.nodes) ⊎ ((x : ℕ) × (find (is_outside s.nodes) table ≡ Some x))
