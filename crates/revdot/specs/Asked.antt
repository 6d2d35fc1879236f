-- The line of a story that says what a request asks. This project's own.
use Rattle.std.specs.Prelude.{ℕ, List, [], ◌∷◌, ◌++◌, Result, Ok, Err, codes, decimal}
use Rattle.fr_requests.specs.Requests.{PlainRequest, new_network, cut_link, add_link}
use Rattle.fr_requests.specs.Requests.{join_nodes, make_edits, move_dest, walk_from, ask, ask_node, order_pushes, push_ways}
use Rattle.fr_graph.specs.declared.edit.Edit.{Edit}
use Rattle.fr_graph.specs.declared.edit.Edit.TheVariants.{Cut, Add, Join}
use Rattle.fr_requests.specs.declared.requests.LineFault.{LineFault}
use Rattle.fr_requests.specs.declared.requests.Question.{Question}
use Rattle.fr_requests.specs.declared.requests.Question.TheVariants.{Links, Counts, Hops, Ways}
use Rattle.fr_requests.specs.declared.requests.NodeQuestion.{NodeQuestion}
use Rattle.fr_requests.specs.declared.requests.NodeQuestion.TheVariants as node
use Rattle.fr_route.specs.Texts.{spaced_links}

-- a word and two numbers
abbrev pub pair_text : List ℕ → ℕ → ℕ → List ℕ
pair_text word u v = word ++ ((codes " " ++ decimal u) ++ (codes " " ++ decimal v))

abbrev pub edit_text : Edit → List ℕ
edit_text (Cut u v) = pair_text (codes "cut") u v
edit_text (Add u v) = pair_text (codes "add") u v
edit_text (Join u v) = pair_text (codes "join") u v

-- for each edit a space and the edit
abbrev pub spaced_edits : List Edit → List ℕ
spaced_edits [] = []
spaced_edits (edit ∷ edits) = codes " " ++ (edit_text edit ++ spaced_edits edits)

abbrev pub question_text : Question → List ℕ
question_text Links = codes "links"
question_text Counts = codes "counts"
question_text Hops = codes "hops"
question_text Ways = codes "ways"

abbrev pub node_question_text : NodeQuestion → List ℕ
node_question_text node.Ways = codes "ways"
node_question_text node.Nearest = codes "nearest"

-- the words for a request. A request for pushes is named without its tables
abbrev pub request_text : PlainRequest → List ℕ
request_text (new_network n d links) = pair_text (codes "net") n d ++ spaced_links links
request_text (cut_link u v) = pair_text (codes "cut") u v
request_text (add_link u v) = pair_text (codes "add") u v
request_text (join_nodes u v) = pair_text (codes "join") u v
request_text (make_edits edits) = codes "batch" ++ spaced_edits edits
request_text (move_dest d) = codes "dest" ++ (codes " " ++ decimal d)
request_text (walk_from x) = codes "walk" ++ (codes " " ++ decimal x)
request_text (ask question) = question_text question
request_text (ask_node question x) = node_question_text question ++ (codes " " ++ decimal x)
request_text (order_pushes table wanted) = codes "pushes"
request_text (push_ways table) = codes "phases"

-- the line for a request, and nothing for a line that is not a request
abbrev pub asked_text : Result PlainRequest LineFault → List ℕ
asked_text (Ok request) = codes "asks " ++ (request_text request ++ codes "\n")
asked_text (Err fault) = []
