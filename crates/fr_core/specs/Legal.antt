-- Which replies full reversal on one thread gives (Gafni and Bertsekas, 1981), with a cap: a node turns only while its
-- count is below the number of nodes. The cap is this project's own.
use Rattle.std.specs.Prelude.{◌≡◌, ℕ, ◌+◌, ◌<◌, List, [], ◌∷◌}
use Rattle.fr_graph.specs.Links.{Points}
use Rattle.fr_graph.specs.Turn.{IsSink}
use Rattle.fr_core.specs.History.{Moment, count_at, after}
use Rattle.fr_core.specs.declared.entry.Entry.{Entry}
use Rattle.fr_core.specs.declared.entry.Reply.{Reply}
use Rattle.fr_core.specs.declared.entry.Reply.TheVariants.{Turned, Held, Moved, Cut, Sink}

-- a node that can turn: a sink that is not the destination, with a count below the cap
pub record CanTurn (n d : ℕ) (m : Moment) (x : ℕ) : Type 0 where
  pub not_destination : ¬ (x ≡ d)
  pub below_cap : count_at m x < n
  pub sink : IsSink m.links x

abbrev pub NoneCanTurn : ℕ → ℕ → Moment → Type 0
NoneCanTurn n d m = (x : ℕ) → ¬ CanTurn n d m x

-- Turned: the node can turn, and k is its count with this turn. Held: a link points from it to the other node. Moved: k
-- is its count, and is greater than the count before. Cut: its count is the cap. Sink: it is a sink.
abbrev pub IsLegalReply : ℕ → ℕ → Moment → ℕ → Reply → Type 0
IsLegalReply n d m x (Turned k) = CanTurn n d m x × (k ≡ count_at m x + 1)
IsLegalReply n d m x (Held by) = Points m.links x by
IsLegalReply n d m x (Moved had k) = (k ≡ count_at m x) × (had < k)
IsLegalReply n d m x Cut = count_at m x ≡ n
IsLegalReply n d m x Sink = IsSink m.links x

-- full reversal on one thread gives this reply at this point
abbrev pub IsLegal : ℕ → ℕ → Moment → Entry → Type 0
IsLegal n d m e = (e.node < n) × IsLegalReply n d m e.node e.reply

-- a run: each entry is legal after those before it
abbrev pub IsRun : ℕ → ℕ → Moment → List Entry → Type 0
IsRun n d m [] = Unit {0}
IsRun n d m (e ∷ es) = IsLegal n d m e × IsRun n d (after m e) es
