-- What a round changed, as lines of a story. This project's own.
use Rattle.std.specs.Prelude.{ℕ, ◌+◌, ◌==◌, ◌||◌, ◌⊎◌, ◌↔◌, Bool, false, if◌then◌else◌, not, List, [], ◌∷◌, ◌++◌, bytes_eq}
use Rattle.std.specs.Prelude.{slice_index_or, codes, decimal}
use Rattle.std.specs.List.{filter, flat_map, range_with_len}
use Rattle.fr_graph.specs.Links.{Joins, Points}
use Rattle.fr_graph.specs.Rows.{has_link}
use Rattle.fr_graph.specs.declared.first.First.{First}
use Rattle.fr_graph.specs.declared.first.First.TheVariants.{Inward, Outward}
use Rattle.fr_route.specs.Texts.{hop_word, spaced_links}
use Rattle.fr_tables.specs.declared.hop.Hop.{Hop}
use Rattle.fr_tables.specs.declared.hop.Hop.TheVariants.{CutOff}
use Rattle.fr_ways.specs.Ways.{ways}

-- whether the entry of a row is that of a link to this node
abbrev pub leads_to : ℕ → ℕ × First → Bool
leads_to v (w, Outward) = w == v
leads_to v (w, Inward) = false

-- the links before a round between nodes that no link joins after it
abbrev pub gone_links : List (ℕ × ℕ) → List (ℕ × ℕ) → List (ℕ × ℕ)
gone_links before after = filter (λ (l : ℕ × ℕ). not (has_link after l.0 l.1 || has_link after l.1 l.0)) before

-- the links after a round that were not there before it, or pointed the other way
abbrev pub new_links : List (ℕ × ℕ) → List (ℕ × ℕ) → List (ℕ × ℕ)
new_links before after = filter (λ (l : ℕ × ℕ). not (has_link before l.0 l.1)) after

-- The links after a round follow from those before it and from what changed: they are the new links, and the links
-- before it between nodes that neither a link that is gone nor a new one joins.
abbrev pub LinksFollow : List (ℕ × ℕ) → List (ℕ × ℕ) → Type 0
LinksFollow before after = (u v : ℕ) → Points after u v
    ↔ (Points (new_links before after) u v
    ⊎ (Points before u v × ¬ Joins (gone_links before after) u v × ¬ Joins (new_links before after) u v))

-- a word and links, as a line
abbrev pub links_line : List ℕ → List (ℕ × ℕ) → List ℕ
links_line word links = word ++ (spaced_links links ++ codes "\n")

-- a space, a node, a colon and a word
abbrev pub of_node : ℕ → List ℕ → List ℕ
of_node x word = codes " " ++ (decimal x ++ (codes ":" ++ word))

-- each node that turned, with its count; the counts are those of the nodes from x on
abbrev pub spaced_counts : ℕ → List ℕ → List ℕ
spaced_counts x [] = []
spaced_counts x (c ∷ cs) = (if c == 0 then [] else of_node x (decimal c)) ++ spaced_counts (x + 1) cs

abbrev pub counted_line : List ℕ → List ℕ
counted_line counts = codes "counted" ++ (spaced_counts 0 counts ++ codes "\n")

-- each of these nodes, with its hop; a node without an entry has none
abbrev pub spaced_pushes : List Hop → List ℕ → List ℕ
spaced_pushes hops [] = []
spaced_pushes hops (x ∷ xs) = of_node x (hop_word (slice_index_or hops x CutOff)) ++ spaced_pushes hops xs

abbrev pub pushes_line : List Hop → List ℕ → List ℕ
pushes_line hops nodes = codes "pushes" ++ (spaced_pushes hops nodes ++ codes "\n")

-- what a round changed: the links that are gone, the new ones, and the nodes that turned
abbrev pub changes_text : List (ℕ × ℕ) → List (ℕ × ℕ) → List ℕ → List ℕ
changes_text before after counts =
    links_line (codes "gone") (gone_links before after)
    ++ (links_line (codes "new") (new_links before after) ++ counted_line counts)

-- a colon and a number
abbrev pub colon_number : ℕ → List ℕ
colon_number w = codes ":" ++ decimal w

-- a node with its new ways, if they differ from its old ones: a space, the node, and each way after a colon
abbrev pub new_ways : List (List ℕ) → List (List ℕ) → ℕ → List ℕ
new_ways old new x =
    if bytes_eq (ways old x) (ways new x) then [] else codes " " ++ (decimal x ++ flat_map colon_number (ways new x))

-- the nodes whose ways changed, each with its new ways, as a line; there are this many nodes
abbrev pub listed_line : ℕ → List (List ℕ) → List (List ℕ) → List ℕ
listed_line n old new = codes "listed" ++ (flat_map (new_ways old new) (range_with_len 0 n) ++ codes "\n")
