-- The texts of answers: the definition of docs/LINES.md. This project's own.
use Rattle.std.specs.Prelude.{Bool, true, false, ℕ, ◌+◌, ◌==◌, List, [], ◌∷◌, ◌++◌, codes, decimal}
use Rattle.fr_route.specs.Separated.{listed}
use Rattle.fr_tables.specs.declared.hop.Hop.{Hop}
use Rattle.fr_tables.specs.declared.hop.Hop.TheVariants.{Here, To, CutOff}

-- each number after a space
abbrev pub spaced : List ℕ → List ℕ
spaced [] = []
spaced (n ∷ ns) = codes " " ++ (decimal n ++ spaced ns)

abbrev pub counts_text : List ℕ → List ℕ
counts_text counts = codes "counts" ++ spaced counts

-- for each link a space, its tail, `>` and its head
abbrev pub spaced_links : List (ℕ × ℕ) → List ℕ
spaced_links [] = []
spaced_links (l ∷ ls) = codes " " ++ (decimal l.0 ++ (codes ">" ++ (decimal l.1 ++ spaced_links ls)))

abbrev pub links_text : List (ℕ × ℕ) → List ℕ
links_text links = codes "links" ++ spaced_links links

-- the word for a hop
abbrev pub hop_word : Hop → List ℕ
hop_word Here = codes "here"
hop_word (To node) = decimal node
hop_word CutOff = codes "cut"

-- for each hop a space and its word
abbrev pub spaced_hops : List Hop → List ℕ
spaced_hops [] = []
spaced_hops (hop ∷ hops) = codes " " ++ (hop_word hop ++ spaced_hops hops)

abbrev pub hops_text : List Hop → List ℕ
hops_text hops = codes "hops" ++ spaced_hops hops

abbrev pub walk_text : List ℕ → List ℕ
walk_text nodes = codes "walk" ++ spaced nodes

abbrev pub no_walk_text : ℕ → List ℕ
no_walk_text node = codes "walk " ++ (decimal node ++ codes " cut")

-- the word for the ways of a node. `home` says whether it is the destination. Any other node without ways is cut off
abbrev pub ways_word : Bool → List ℕ → List ℕ
ways_word true list = codes "here"
ways_word false [] = codes "cut"
ways_word false (w ∷ ws) = listed decimal (w ∷ ws)

-- for each node from x on a space and the word for its ways; d is the destination
abbrev pub spaced_ways : ℕ → ℕ → List (List ℕ) → List ℕ
spaced_ways d x [] = []
spaced_ways d x (row ∷ rows) = codes " " ++ (ways_word (x == d) row ++ spaced_ways d (x + 1) rows)

abbrev pub ways_text : ℕ → List (List ℕ) → List ℕ
ways_text d table = codes "ways" ++ spaced_ways d 0 table

abbrev pub node_ways_text : Bool → List ℕ → List ℕ
node_ways_text home list = codes "ways " ++ ways_word home list

abbrev pub nearest_text : List ℕ → List ℕ
nearest_text nodes = codes "nearest" ++ spaced nodes

abbrev pub no_nearest_text : ℕ → List ℕ
no_nearest_text node = codes "nearest " ++ (decimal node ++ codes " cut")

-- for each push a space, its node, `>` and the word for the new hop
abbrev pub spaced_pushes : List (ℕ × Hop) → List ℕ
spaced_pushes [] = []
spaced_pushes (p ∷ ps) = codes " " ++ (decimal p.0 ++ (codes ">" ++ (hop_word p.1 ++ spaced_pushes ps)))

abbrev pub pushes_text : List (ℕ × Hop) → List ℕ
pushes_text pushes = codes "pushes" ++ spaced_pushes pushes

-- the word for a list that is pushed
abbrev pub list_word : List ℕ → List ℕ
list_word [] = codes "none"
list_word (w ∷ ws) = listed decimal (w ∷ ws)

-- for each push a space, its node, `>` and the word for its list
abbrev pub spaced_lists : List (ℕ × List ℕ) → List ℕ
spaced_lists [] = []
spaced_lists (p ∷ ps) = codes " " ++ (decimal p.0 ++ (codes ">" ++ (list_word p.1 ++ spaced_lists ps)))

-- the pushes of two phases
abbrev pub phases_text : List (ℕ × List ℕ) → List (ℕ × List ℕ) → List ℕ
phases_text shrink grow = codes "phases shrink" ++ (spaced_lists shrink ++ (codes " grow" ++ spaced_lists grow))

abbrev pub report_text : ℕ → ℕ → List ℕ
report_text turned cut = codes "turned " ++ (decimal turned ++ (codes " cut " ++ decimal cut))

-- the greatest length of a report in bytes: its words, and two numbers below 2 ^ 64
abbrev pub longest_report : ℕ
longest_report = 52

abbrev pub refusal_text : ℕ → List ℕ
refusal_text number = codes "refused " ++ decimal number
