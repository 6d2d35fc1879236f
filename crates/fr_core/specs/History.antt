-- Histories of replies, and what they make of the links and of the counts. Histories are those of Herlihy and Wing
-- (1990); the links and counts are those of J. Welch and J. Walter, "Link Reversal Algorithms" (2011).
use Rattle.std.specs.Prelude.{ℕ, ◌+◌, ◌==◌, ◌&&◌, if◌then◌else◌, Bool, true}
use Rattle.std.specs.Prelude.{false, List, [], ◌∷◌, slice_index, slice_set}
use Rattle.std.specs.List.{count_by, filter}
use Rattle.fr_graph.specs.Counts.{links_at}
use Rattle.fr_graph.specs.Turn.{turn}
use Rattle.fr_core.specs.declared.entry.Entry.{Entry}
use Rattle.fr_core.specs.declared.entry.Reply.{Reply}
use Rattle.fr_core.specs.declared.entry.Reply.TheVariants.{Turned, Held, Moved, Cut, Sink}

abbrev pub is_turned : Reply → Bool
is_turned (Turned k) = true
is_turned (Held by) = false
is_turned (Moved had k) = false
is_turned Cut = false
is_turned Sink = false

-- the links after a history: each Turned entry turns its node, in order
abbrev pub links_after : List (ℕ × ℕ) → List Entry → List (ℕ × ℕ)
links_after links [] = links
links_after links (e ∷ h) = links_after (if is_turned e.reply then turn e.node links else links) h

-- how many turns a history has, and how many of them are of one node
abbrev pub turn_count : List Entry → ℕ
turn_count h = count_by (λ (e : Entry). is_turned e.reply) h

abbrev pub turn_count_of : ℕ → List Entry → ℕ
turn_count_of x h = count_by (λ (e : Entry). is_turned e.reply && (e.node == x)) h

-- the count of x after a history: its count before, and one for each turn of x
abbrev pub count_after : List ℕ → List Entry → ℕ → ℕ
count_after counts h x = slice_index counts x + turn_count_of x h

-- the links and the counts at one point of a history, in the literature a configuration
pub record Moment : Type 0 where
  pub links : List (ℕ × ℕ)
  pub counts : List ℕ

abbrev pub count_at : Moment → ℕ → ℕ
count_at m x = slice_index m.counts x

-- the moment after a reply: a turn reverses the node's links and adds one to its count, and any other reply changes
-- nothing
abbrev pub after_reply : Moment → ℕ → Reply → Moment
after_reply m x (Turned k) = record { links = turn x m.links; counts = slice_set m.counts x (count_at m x + 1) }
after_reply m x (Held by) = m
after_reply m x (Moved had k) = m
after_reply m x Cut = m
after_reply m x Sink = m

abbrev pub after : Moment → Entry → Moment
after m e = after_reply m e.node e.reply

abbrev pub after_all : Moment → List Entry → Moment
after_all m [] = m
after_all m (e ∷ es) = after_all (after m e) es

-- the moment with these counts, for these first links
abbrev pub moment_of : List (ℕ × ℕ) → List ℕ → Moment
moment_of first counts = record { links = links_at first counts; counts = counts }

-- the entries of worker k, in order
abbrev pub part : ℕ → List Entry → List Entry
part k h = filter (λ (e : Entry). e.worker == k) h
