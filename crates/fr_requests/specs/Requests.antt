-- Which line is which request: the definition of docs/LINES.md. A line is one JSON value (RFC 8259) as `serde_json`
-- reads it. A request is an array of exactly these items, where n, d, u, v and x are numbers. Every other value is not
-- a request.
--     ["net", n, d, [[u, v], ..]]    use the network of n nodes, with destination d and the links from u to v
--     ["cut", u, v]                  remove the link between u and v
--     ["add", u, v]                  add the link from u to v
--     ["join", u, v]                 add a link between u and v, in a direction that closes no cycle
--     ["batch", [EDIT, ..]]          make these edits in order, each an array as for "cut", "add" or "join"
--     ["dest", d]                    use the destination d
--     ["walk", x]                    ask for the route from x to the destination
--     ["links"]                      ask for the links
--     ["counts"]                     ask how often each node has turned
--     ["hops"]                       ask for the next hop of each node
--     ["ways"]                       ask for the ways of each node: all nodes to which it may send on
--     ["ways", x]                    ask for the ways of x
--     ["nearest", x]                 ask for a route of the fewest links from x to the destination along the ways
--     ["pushes", TABLE]              ask for the pushes from this table to the next hops
--     ["pushes", TABLE, TABLE]       ask for the pushes from the first table to the second
--     ["phases", WAYS]               ask for the pushes from these ways to the ways of each node, in two phases
-- TABLE is an array of hops: a number, "here" or "cut". WAYS is an array that has for each node an array of numbers, or
-- "here" or "cut" for a node without ways.
use Rattle.std.specs.Prelude.{ℕ, ◌^◌, List, [], ◌∷◌, Option, Some, None, ok_or, option_map}
use Rattle.std.specs.Prelude.{option_and_then, Result, Err, nat_lt, if◌then◌else◌, codes}
use Rattle.std.specs.Str.{bytes_eq, is_utf8}
use Rattle.serde_json.specs.Data.{Data, Items, no_items, item}
use Rattle.serde_json.specs.Find.{as_number, as_str, as_array, as_u64}
use Rattle.serde_json.specs.Read.{read}
use Rattle.fr_requests.specs.declared.requests.LineFault.{LineFault}
use Rattle.fr_requests.specs.declared.requests.LineFault.TheVariants.{NotJson, NotRequest}
use Rattle.fr_requests.specs.declared.requests.Question.{Question}
use Rattle.fr_requests.specs.declared.requests.Question.TheVariants.{Links, Counts, Hops, Ways}
use Rattle.fr_requests.specs.declared.requests.NodeQuestion.{NodeQuestion}
use Rattle.fr_requests.specs.declared.requests.NodeQuestion.TheVariants as node
use Rattle.fr_graph.specs.declared.edit.Edit.{Edit}
use Rattle.fr_graph.specs.declared.edit.Edit.TheVariants as edit
use Rattle.fr_requests.specs.declared.requests.Request.{Request}
use Rattle.fr_requests.specs.declared.requests.Request.TheVariants.{Network, Cut, Add, Join, Batch, Destination}
use Rattle.fr_requests.specs.declared.requests.Request.TheVariants.{Walk, Ask, AskNode, Pushes, Phases}
use Rattle.fr_tables.specs.declared.hop.Hop.{Hop}
use Rattle.fr_tables.specs.declared.hop.Hop.TheVariants.{Here, To, CutOff}
use Rattle.std.specs.declared.alloc.Global.{Global}
use Rattle.std.specs.declared.vec.Vec.{Vec}

-- a request, with its links or edits as a list
pub data PlainRequest : Type 0 where
  new_network : ℕ → ℕ → List (ℕ × ℕ) → PlainRequest
  cut_link : ℕ → ℕ → PlainRequest
  add_link : ℕ → ℕ → PlainRequest
  join_nodes : ℕ → ℕ → PlainRequest
  make_edits : List Edit → PlainRequest
  move_dest : ℕ → PlainRequest
  walk_from : ℕ → PlainRequest
  ask : Question → PlainRequest
  ask_node : NodeQuestion → ℕ → PlainRequest
  order_pushes : List Hop → Option (List Hop) → PlainRequest
  push_ways : List (List ℕ) → PlainRequest

-- a request of the code, without the capacity of its `Vec`
abbrev pub plain : Request → PlainRequest
plain (Network nodes dest links) = new_network nodes dest links.items
plain (Cut u v) = cut_link u v
plain (Add u v) = add_link u v
plain (Join u v) = join_nodes u v
plain (Batch edits) = make_edits edits.items
plain (Destination d) = move_dest d
plain (Walk x) = walk_from x
plain (Ask question) = ask question
plain (AskNode question x) = ask_node question x
plain (Pushes table wanted) = order_pushes table.items (option_map (λ (t : Vec Hop Global). t.items) wanted)
plain (Phases table) = push_ways table

-- the items as a list
abbrev pub item_list : Items → List Data
item_list no_items = []
item_list (item d ds) = d ∷ item_list ds

-- the items of an array
abbrev pub items_in : Data → Option (List Data)
items_in d = option_map item_list (as_array d)

-- n, if it is at most 4,294,967,295
abbrev pub small_number : ℕ → Option ℕ
small_number n = if nat_lt n (2 ^ 32) then Some n else None

-- a number: the value of `as_u64`, if it is at most 4,294,967,295. So -1 and 1.0 are not numbers here
abbrev pub number_in : Data → Option ℕ
number_in d = option_and_then small_number (option_and_then as_u64 (as_number d))

-- the number, if there is exactly one item and it is a number
abbrev pub single_number : List Data → Option ℕ
single_number [] = None
single_number (d ∷ []) = number_in d
single_number (d ∷ e ∷ rest) = None

-- the two numbers, if there are exactly two items and both are numbers
abbrev pub number_pair : List Data → Option (ℕ × ℕ)
number_pair [] = None
number_pair (d ∷ []) = None
number_pair (d ∷ e ∷ []) = option_and_then (λ u. option_map (λ v. (u, v)) (number_in e)) (number_in d)
number_pair (d ∷ e ∷ f ∷ rest) = None

-- a link: an array of exactly its tail and its head
abbrev pub link_in : Data → Option (ℕ × ℕ)
link_in d = option_and_then number_pair (items_in d)

-- what each item is read as, if each can be read
abbrev pub read_all : {X : Type 0} → (Data → Option X) → List Data → Option (List X)
read_all read_one [] = Some []
read_all read_one (d ∷ ds) = option_and_then (λ x. option_map (λ xs. x ∷ xs) (read_all read_one ds)) (read_one d)

-- links: an array of links
abbrev pub links_in : Data → Option (List (ℕ × ℕ))
links_in d = option_and_then (read_all link_in) (items_in d)

-- what items are read as, by the first one, which is a word, and the items after it
abbrev pub read_by_word : {X : Type 0} → (List ℕ → List Data → Option X) → List Data → Option X
read_by_word read_rest [] = None
read_by_word read_rest (d ∷ rest) = option_and_then (λ word. read_rest word rest) (as_str d)

-- the edit of a word and the items after it
unfoldable pub edit_of_word : List ℕ → List Data → Option Edit
edit_of_word word rest =
    if bytes_eq word (codes "cut") then option_map (λ pair. edit.Cut pair.0 pair.1) (number_pair rest)
    else (if bytes_eq word (codes "add") then option_map (λ pair. edit.Add pair.0 pair.1) (number_pair rest)
    else (if bytes_eq word (codes "join") then option_map (λ pair. edit.Join pair.0 pair.1) (number_pair rest)
    else None))

-- an edit: an array of exactly its word and two nodes
abbrev pub edit_in : Data → Option Edit
edit_in d = option_and_then (read_by_word edit_of_word) (items_in d)

-- edits: an array of edits
abbrev pub edits_in : Data → Option (List Edit)
edits_in d = option_and_then (read_all edit_in) (items_in d)

-- the network of exactly three items: the number of nodes, the destination, the links
abbrev pub network_request : List Data → Option PlainRequest
network_request [] = None
network_request (n ∷ []) = None
network_request (n ∷ d ∷ []) = None
network_request (n ∷ d ∷ ls ∷ []) =
    option_and_then (λ nodes. option_and_then (λ dest. option_map (new_network nodes dest)
    (links_in ls)) (number_in d)) (number_in n)
network_request (n ∷ d ∷ ls ∷ x ∷ rest) = None

-- the request of two numbers, if exactly these are left
abbrev pub pair_request : (ℕ → ℕ → PlainRequest) → List Data → Option PlainRequest
pair_request request rest = option_map (λ pair. request pair.0 pair.1) (number_pair rest)

-- the batch of edits, if exactly an array of edits is left
abbrev pub batch_request : List Data → Option PlainRequest
batch_request [] = None
batch_request (d ∷ []) = option_map make_edits (edits_in d)
batch_request (d ∷ e ∷ rest) = None

-- the request of one number, if exactly this is left
abbrev pub node_request : (ℕ → PlainRequest) → List Data → Option PlainRequest
node_request request rest = option_map request (single_number rest)

-- the question, if no item is left
abbrev pub ask_request : Question → List Data → Option PlainRequest
ask_request question [] = Some (ask question)
ask_request question (d ∷ rest) = None

-- the ways of all nodes, if no item is left, or those of one node, if exactly this is left
abbrev pub ways_request : List Data → Option PlainRequest
ways_request [] = Some (ask Ways)
ways_request (d ∷ rest) = node_request (ask_node node.Ways) (d ∷ rest)

-- the hop of a word
abbrev pub hop_of_word : List ℕ → Option Hop
hop_of_word word =
    if bytes_eq word (codes "here") then Some Here
    else (if bytes_eq word (codes "cut") then Some CutOff else None)

-- a hop: the number of the next node, or one of the two words
abbrev pub hop_by : Option ℕ → Option (List ℕ) → Option Hop
hop_by (Some n) word = Some (To n)
hop_by None word = option_and_then hop_of_word word

abbrev pub hop_in : Data → Option Hop
hop_in d = hop_by (number_in d) (as_str d)

-- a table: an array of hops
abbrev pub table_in : Data → Option (List Hop)
table_in d = option_and_then (read_all hop_in) (items_in d)

-- numbers: an array of numbers
abbrev pub numbers_in : Data → Option (List ℕ)
numbers_in d = option_and_then (read_all number_in) (items_in d)

-- no ways, for each of the two words
abbrev pub ways_of_word : List ℕ → Option (List ℕ)
ways_of_word word = option_map (λ (hop : Hop). []) (hop_of_word word)

-- the ways of a node: an array of nodes, or one of the two words
abbrev pub ways_by : Option (List ℕ) → Option (List ℕ) → Option (List ℕ)
ways_by (Some word) list = ways_of_word word
ways_by None list = list

abbrev pub ways_in : Data → Option (List ℕ)
ways_in d = ways_by (as_str d) (numbers_in d)

-- a table of ways: an array of the ways of each node
abbrev pub way_table_in : Data → Option (List (List ℕ))
way_table_in d = option_and_then (read_all ways_in) (items_in d)

-- the pushes from a table, if exactly one table or two tables of hops are left
abbrev pub pushes_request : List Data → Option PlainRequest
pushes_request [] = None
pushes_request (d ∷ []) = option_map (λ table. order_pushes table None) (table_in d)
pushes_request (d ∷ e ∷ []) =
    option_and_then (λ table. option_map (λ wanted. order_pushes table (Some wanted)) (table_in e)) (table_in d)
pushes_request (d ∷ e ∷ f ∷ rest) = None

-- the pushes from a table of ways, if exactly this is left
abbrev pub phases_request : List Data → Option PlainRequest
phases_request [] = None
phases_request (d ∷ []) = option_map push_ways (way_table_in d)
phases_request (d ∷ e ∷ rest) = None

-- the request of a word and the items after it
unfoldable pub request_of_word : List ℕ → List Data → Option PlainRequest
request_of_word word rest =
    if bytes_eq word (codes "net") then network_request rest
    else (if bytes_eq word (codes "cut") then pair_request cut_link rest
    else (if bytes_eq word (codes "add") then pair_request add_link rest
    else (if bytes_eq word (codes "join") then pair_request join_nodes rest
    else (if bytes_eq word (codes "batch") then batch_request rest
    else (if bytes_eq word (codes "dest") then node_request move_dest rest
    else (if bytes_eq word (codes "walk") then node_request walk_from rest
    else (if bytes_eq word (codes "links") then ask_request Links rest
    else (if bytes_eq word (codes "counts") then ask_request Counts rest
    else (if bytes_eq word (codes "hops") then ask_request Hops rest
    else (if bytes_eq word (codes "ways") then ways_request rest
    else (if bytes_eq word (codes "nearest") then node_request (ask_node node.Nearest) rest
    else (if bytes_eq word (codes "pushes") then pushes_request rest
    else (if bytes_eq word (codes "phases") then phases_request rest
    else None)))))))))))))

-- the request of a value
abbrev pub request_of : Data → Option PlainRequest
request_of d = option_and_then (read_by_word request_of_word) (items_in d)

-- the value of a line: UTF-8, JSON, and nesting at most 127 deep
abbrev pub value_of_line : List ℕ → Option Data
value_of_line line = if is_utf8 line then read line else None

-- the request of a line's value, or why it is not one
abbrev pub reading_of_value : Option Data → Result PlainRequest LineFault
reading_of_value None = Err NotJson
reading_of_value (Some d) = ok_or (request_of d) NotRequest

-- the request of a line, or why it is not one
abbrev pub reading : List ℕ → Result PlainRequest LineFault
reading line = reading_of_value (value_of_line line)
