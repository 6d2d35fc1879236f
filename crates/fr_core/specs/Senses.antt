-- The current direction of a link, seen from the node x at one of its ends. This project's own, after Welch and Walter
-- (2011).
use Rattle.std.specs.Prelude.{ℕ, ◌+◌, ◌==◌, if◌then◌else◌, Option, Some, None}
use Rattle.fr_graph.specs.declared.first.First.{First}
use Rattle.fr_graph.specs.declared.first.First.TheVariants as first
use Rattle.fr_core.specs.declared.directions.Sense.{Sense}
use Rattle.fr_core.specs.declared.directions.Sense.TheVariants as sense

-- the link between x and w that first points in this direction
abbrev pub first_link : ℕ → ℕ → First → ℕ × ℕ
first_link x w first.Outward = (x, w)
first_link x w first.Inward = (w, x)

-- the link between x and w that points in this direction now
abbrev pub link_by : ℕ → ℕ → Sense → ℕ × ℕ
link_by x w sense.Outward = (x, w)
link_by x w sense.Inward = (w, x)

-- the direction of the link between x and w at their counts cx and cw: unchanged if its ends have turned equally often,
-- reversed if its head has turned once more. Other counts give it no direction
abbrev pub sense_of : First → ℕ → ℕ → Option Sense
sense_of first.Outward cx cw =
    if cw == cx then Some sense.Outward
    else if cw == cx + 1 then Some sense.Inward
    else None
sense_of first.Inward cx cw =
    if cx == cw then Some sense.Inward
    else if cx == cw + 1 then Some sense.Outward
    else None
