-- A sink, and its turn: the full reversal of Gafni and Bertsekas (1981); see also J. Welch and J. Walter, "Link
-- Reversal Algorithms" (2011).
use Rattle.std.specs.Prelude.{ℕ, ◌==◌, if◌then◌else◌, List, map}
use Rattle.fr_graph.specs.Links.{Points}

-- some link points to x, and no link points away from x
abbrev pub IsSink : List (ℕ × ℕ) → ℕ → Type 0
IsSink links x = ((w : ℕ) × Points links w x) × ((w : ℕ) → ¬ Points links x w)

-- a link to x is reversed, and every other link is unchanged
abbrev pub turned_link : ℕ → ℕ × ℕ → ℕ × ℕ
turned_link x link = if link.1 == x then (x, link.0) else link

-- the links after a turn of x, which reverses all links of x in one step
abbrev pub turn : ℕ → List (ℕ × ℕ) → List (ℕ × ℕ)
turn x links = map (turned_link x) links
