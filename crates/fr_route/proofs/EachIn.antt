-- Each line has an answer in each form, in each state after a round, and in the state before any.
use Rattle.std.proofs.Common.{◌≡◌, ◌==◌, ◌∙◌, ℕ, ◌≤◌, List, [], ◌∷◌, length, max, replicate, arith, inl, inr, refl, slice_get, subst, sym, Option, Some, None, Result, Ok, Err, sum}
use Rattle.std.specs.List.{count_by}
use Rattle.std.proofs.lemmas.List.{length-replicate}
use Rattle.fr_graph.specs.declared.edit.Edit.TheVariants as edit
use Rattle.fr_requests.specs.Requests.{PlainRequest, new_network, cut_link, add_link, join_nodes, make_edits, move_dest, walk_from, ask, ask_node, order_pushes, push_ways, reading}
use Rattle.fr_requests.specs.declared.requests.LineFault.{LineFault}
use Rattle.fr_requests.specs.declared.requests.LineFault.TheVariants.{NotJson, NotRequest, Memory as LineMemory}
use Rattle.fr_requests.specs.declared.requests.Question.TheVariants.{Links, Counts, Hops, Ways}
use Rattle.fr_requests.specs.declared.requests.NodeQuestion.TheVariants as node
use Rattle.fr_tables.specs.declared.hop.Hop.{Hop}
use Rattle.fr_tables.specs.declared.hop.Hop.TheVariants.{CutOff}
use Rattle.fr_tables.proofs.Existing.{order_exists}
use Rattle.fr_graph.proofs.Refusing.{no_first_fault}
use Rattle.fr_route.specs.Answers.{IsAccepted, IsAnswer, IsLineAnswer, IsRefused, IsText}
use Rattle.fr_route.specs.Forms.{IsAnswerIn}
use Rattle.fr_route.specs.Json.{EndsHere, EndsWithWays, IsJsonAnswer, IsJsonLineAnswer, IsJsonReport, IsJsonText, IsRefusal, PlainRefusal, bare_refusal, ends, ends_in, no_node, refusal_for, phases_json}
use Rattle.fr_route.specs.Json.{nearest_json, no_nearest_json, node_ways_json, ways_json}
use Rattle.fr_route.specs.Json.{counts_json, hops_json, links_json, more_json, no_more_json, no_walk_json, pushes_json, refusal_json, report_json, walk_json}
use Rattle.fr_route.specs.NodeWays.{AreWaysBelow}
use Rattle.fr_route.specs.Outcomes.{IsSettledTable}
use Rattle.fr_route.specs.Pushing.{changes_of}
use Rattle.fr_route.specs.Reroutes.{AreHopsIn, AreReplaced, AreRerouted, AreWaysIn, nodes_in}
use Rattle.fr_route.specs.Routes.{is_cut_off}
use Rattle.fr_route.specs.States.{State, IsAfterRound, IsReport, net_at}
use Rattle.fr_route.specs.declared.form.Form.{Form}
use Rattle.fr_route.specs.declared.form.Form.TheVariants.{Text, Json, JsonWithWays}
use Rattle.fr_route.proofs.Changed.{changes_are}
use Rattle.fr_route.proofs.Changing.{joined_nodes, made_nodes}
use Rattle.fr_route.proofs.CutNodes.{hops_cut_count}
use Rattle.fr_route.proofs.EachAnswer.{IsReached, IsSettledState, decide, each_line, hops, hops_from}
use Rattle.fr_route.proofs.NamedFaults.{batch_named, edit_named, faultless_or_named}
use Rattle.fr_route.proofs.NodeWays.{ways_below_exist}
use Rattle.fr_route.proofs.RoundEnds.{round_within}
use Rattle.fr_route.proofs.SettledHops.{resized_table, settled_in_range, settled_loop_free}
use Rattle.fr_ways.specs.Phases.{growths, shrinks}

after_round : (s : State) → IsSettledState s → IsAfterRound s
after_round s good = record { first = good.first; is_net = good.net; dest = good.dest; round = good.round }

-- each request that is refused has a refusal
refusal_exists : (s : Option State) → IsReached s → (r : PlainRequest) (number : ℕ) → IsRefused s r number → (refusal : PlainRefusal) × IsRefusal s r refusal
refusal_exists s good (new_network n d links) number (inl h) = elim (faultless_or_named n links) [
  | inl clear ↦ absurd (no_first_fault n links h.0 clear h.1)
  | inr f ↦ (refusal_for f.0 [] None, inl (f.0, f.1, f.2, refl))
]
refusal_exists s good (new_network n d links) number (inr h) = (no_node d, inr (h.0, h.1, refl))
refusal_exists s good (order_pushes table wanted) number h = (record { number = number; nodes = h.0; edit = None }, (number, h.0, h.1, refl))
refusal_exists None good (cut_link u v) number h = (bare_refusal 3, refl)
refusal_exists None good (add_link u v) number h = (bare_refusal 3, refl)
refusal_exists None good (join_nodes u v) number h = (bare_refusal 3, refl)
refusal_exists None good (make_edits edits) number h = (bare_refusal 3, refl)
refusal_exists None good (move_dest d) number h = (bare_refusal 3, refl)
refusal_exists None good (walk_from x) number h = (bare_refusal 3, refl)
refusal_exists None good (ask question) number h = (bare_refusal 3, refl)
refusal_exists None good (ask_node question x) number h = (bare_refusal 3, refl)
refusal_exists None good (push_ways table) number h = (bare_refusal 3, refl)
refusal_exists (Some s) good (cut_link u v) number h =
    let f = edit_named (net_at s) (edit.Cut u v) h.0 good.faultless h.1 in
    (refusal_for f.0 (ends (edit.Cut u v)) None, (f.0, f.1, f.2, refl))
refusal_exists (Some s) good (add_link u v) number h =
    let f = edit_named (net_at s) (edit.Add u v) h.0 good.faultless h.1 in
    (refusal_for f.0 (ends (edit.Add u v)) None, (f.0, f.1, f.2, refl))
refusal_exists (Some s) good (join_nodes u v) number h =
    let f = edit_named (net_at s) (edit.Join u v) h.0 good.faultless h.1 in
    (refusal_for f.0 (ends (edit.Join u v)) None, (f.0, f.1, f.2, refl))
refusal_exists (Some s) good (make_edits edits) number h =
    let f = batch_named (net_at s) edits h.0 good.faultless h.1 in
    (refusal_for f.0.fault (ends_in (slice_get edits f.0.at)) (Some f.0.at), (f.0, f.1, f.2, refl))
refusal_exists (Some s) good (move_dest d) number h = (no_node d, (h.0, refl))
refusal_exists (Some s) good (walk_from x) number h = (no_node x, (h.0, refl))
refusal_exists (Some s) good (ask question) number h = absurd h
refusal_exists (Some s) good (ask_node question x) number h = (no_node x, (h.0, refl))
refusal_exists (Some s) good (push_ways table) number h =
    (record { number = number; nodes = h.0; edit = None }, (number, h.0, h.1, refl))

-- the hops of the numbers below n, in order
table_of : (s : State) → IsSettledState s → (n : ℕ) → s.nodes ≤ n → (table : List Hop) × IsSettledTable s n table
table_of s good n enough = (_, resized_table s (after_round s good) (hops_from s good s.nodes 0) n (hops s good) enough)

-- a change reroutes nodes, in push order
rerouted_exist : (s new : State) → IsSettledState s → IsSettledState new → new.nodes ≡ s.nodes → (numbers : List ℕ) × AreRerouted s new numbers
rerouted_exist s new good good_new same =
    let before = hops_from s good s.nodes 0 in
    let after = hops_from new good_new new.nodes 0 in
    let are = hops new good_new in
    let were = hops s good in
    let one_length : length before ≡ length after = omega (arith, are.one_each, were.one_each, same) in
    let order = order_exists before after one_length (settled_in_range new after (after_round new good_new) are)
    (settled_loop_free new after (after_round new good_new) are) in
    (order.0, record { before = before; after = after; were = were; are = are; order = order.1 })

-- so does a new network
old_table : (s : Option State) → IsReached s → (n : ℕ) → nodes_in s ≤ n → (table : List Hop) × (length table ≡ n) × AreHopsIn s n table
old_table None good n enough = (replicate n CutOff, length-replicate n CutOff, refl)
old_table (Some s) good n enough = let table = table_of s good n enough in (table.0, table.1.are.one_each, table.1.are)

replaced_exist : (s : Option State) → IsReached s → (new : State) → IsSettledState new → (numbers : List ℕ) × AreReplaced s new numbers
replaced_exist s good new good_new =
    let n : ℕ = max new.nodes (nodes_in s) in
    let old = old_table s good n (omega arith) in
    let table = table_of new good_new n (omega arith) in
    let one_length : length old.0 ≡ length table.0 = old.1 ∙ sym table.1.are.one_each in
    let order = order_exists old.0 table.0 one_length table.1.in_range table.1.loop_free in
    (order.0, record { count = n; before = old.0; after = table.0; all = refl; were = old.2; are = table.1.are; order = order.1 })

-- reports end in one way or the other
ends_here_exist : (s : Option State) → IsReached s → (new : State) → IsSettledState new → (end : List ℕ) × EndsHere s new end
ends_here_exist s reached new good = (no_more_json, refl)

-- the ways of the numbers below n
ways_of : (s : State) → IsSettledState s → (n : ℕ) → (table : List (List ℕ)) × AreWaysBelow s n table
ways_of s good n = ways_below_exist s good.faultless.is_net.in_range (decide s good) n

ways_in_exist : (s : Option State) → IsReached s → (table : List (List ℕ)) × AreWaysIn s table
ways_in_exist None reached = ([], refl)
ways_in_exist (Some s) good = ways_of s good s.nodes

ends_with_ways_exist : (s : Option State) → IsReached s → (new : State) → IsSettledState new
    → (end : List ℕ) × EndsWithWays s new end
ends_with_ways_exist s reached new good =
    let before = ways_in_exist s reached in
    let after = ways_of new good (max new.nodes (nodes_in s)) in
    let shrink = shrinks before.0 after.0 in
    let grow = growths before.0 after.0 in (
      more_json shrink grow,
      (
        shrink,
        grow,
        record {
          before = before.0;
          after = after.0;
          were = before.1;
          are = after.1;
          shrinks = refl;
          grows = refl;
        },
        refl,
      ),
    )

module _ (Ends : Option State → State → List ℕ → Type 0)
    (ends : (s : Option State) → IsReached s → (new : State) → IsSettledState new → (end : List ℕ) × Ends s new end) where
  report_exists : (Lists : List ℕ → Type 0) (s : Option State) → IsReached s → (new : State) → IsSettledState new
      → (numbers : List ℕ) → Lists numbers → (text : List ℕ) × IsJsonReport Lists (Ends s new) new text
  report_exists Lists s reached new good numbers lists =
      let table = hops_from new good new.nodes 0 in
      let are = hops new good in
      let cut = count_by is_cut_off table in
      let report : IsReport new (sum new.counts) cut = record {
        turns = refl;
        cut_off = hops_cut_count new new.nodes table are;
        most = round_within new (sum new.counts) refl;
      } in
      let end = ends s reached new good in (
        report_json (sum new.counts) cut (changes_of table numbers) end.0,
        (
          sum new.counts,
          cut,
          numbers,
          changes_of table numbers,
          end.0,
          report,
          lists,
          changes_are new (after_round new good) table are numbers,
          end.1,
          refl,
        ),
      )

  change_text : (s new : State) → IsSettledState s → IsSettledState new → new.nodes ≡ s.nodes
      → (text : List ℕ) × IsJsonReport (AreRerouted s new) (Ends (Some s) new) new text
  change_text s new good good_new same =
      let numbers = rerouted_exist s new good good_new same in
      report_exists (AreRerouted s new) (Some s) good new good_new numbers.0 numbers.1

  -- each request that is accepted has an answer
  text_exists : (s : Option State) → IsReached s → (r : PlainRequest) (new : State) → IsSettledState new → IsAccepted s r new
      → (text : List ℕ) → IsText new r text → (json : List ℕ) × IsJsonText Ends s r new json
  text_exists s good (new_network n d links) new good_new h text is =
      let numbers = replaced_exist s good new good_new in report_exists (AreReplaced s new) s good new good_new numbers.0 numbers.1
  text_exists s good (order_pushes table wanted) new good_new h text is = absurd h
  text_exists None good (cut_link u v) new good_new h text is = absurd h
  text_exists None good (add_link u v) new good_new h text is = absurd h
  text_exists None good (join_nodes u v) new good_new h text is = absurd h
  text_exists None good (make_edits edits) new good_new h text is = absurd h
  text_exists None good (move_dest d) new good_new h text is = absurd h
  text_exists None good (walk_from x) new good_new h text is = absurd h
  text_exists None good (ask question) new good_new h text is = absurd h
  text_exists None good (ask_node question x) new good_new h text is = absurd h
  text_exists None good (push_ways table) new good_new h text is = absurd h
  text_exists (Some s) good (cut_link u v) new good_new h text is = change_text s new good good_new h.1.nodes
  text_exists (Some s) good (add_link u v) new good_new h text is = change_text s new good good_new h.1.nodes
  text_exists (Some s) good (join_nodes u v) new good_new h text is =
      change_text s new good good_new (h.1.1.nodes ∙ joined_nodes s.nodes s.links u v h.0 h.1.0)
  text_exists (Some s) good (make_edits edits) new good_new h text is =
      change_text s new good good_new (h.1.1.1.nodes ∙ made_nodes (net_at s) edits h.1.0 h.1.1.0)
  text_exists (Some s) good (move_dest d) new good_new h text is = change_text s new good good_new h.1.nodes
  text_exists (Some s) good (walk_from x) new good_new h text (inl is) = (walk_json (x ∷ is.0), inl (is.0, is.1, refl))
  text_exists (Some s) good (walk_from x) new good_new h text (inr is) = (no_walk_json, inr (is.0, refl))
  text_exists (Some s) good (ask Links) new good_new h text is = (links_json new.links, refl)
  text_exists (Some s) good (ask Counts) new good_new h text is = (counts_json new.counts, refl)
  text_exists (Some s) good (ask Hops) new good_new h text is = (hops_json is.0, (is.0, is.1, refl))
  text_exists (Some s) good (ask Ways) new good_new h text is = (ways_json new.dest is.0, (is.0, is.1, refl))
  text_exists (Some s) good (push_ways table) new good_new h text is =
      (phases_json (shrinks table is.0) (growths table is.0), (is.0, is.1, refl))
  text_exists (Some s) good (ask_node node.Ways x) new good_new h text is =
      (node_ways_json (x == new.dest) is.0, (is.0, is.1, refl))
  text_exists (Some s) good (ask_node node.Nearest x) new good_new h text (inl is) =
      (nearest_json (x ∷ is.0), inl (is.0, is.1, refl))
  text_exists (Some s) good (ask_node node.Nearest x) new good_new h text (inr is) = (no_nearest_json, inr (is.0, refl))

  json_by : (line : ℕ) (s : Option State) → IsReached s → (r : PlainRequest) (text : List ℕ) (next : Option State) → IsAnswer s r text next → IsReached next
      → (json : List ℕ) × IsJsonAnswer Ends line s r json next
  json_by line s good r text next (inl (number, h, e, n)) good_next =
      let refusal = refusal_exists s good r number h in (refusal_json refusal.0 line, inl (refusal.0, refusal.1, refl, n))
  json_by line s good r text next (inr (inl (new, h, is, n))) good_next =
      let json = text_exists s good r new (subst IsReached n good_next) h text is in (json.0, inr (inl (new, h, json.1, n)))
  json_by line s good r text next (inr (inr (pushes, h, is, n))) good_next = (pushes_json pushes, inr (inr (pushes, h, refl, n)))

  json_line_by : (line : ℕ) (s : Option State) → IsReached s → (r : Result PlainRequest LineFault) (text : List ℕ) (next : Option State)
      → IsLineAnswer s r text next → IsReached next → (json : List ℕ) × IsJsonLineAnswer Ends line s r json next
  json_line_by line s good (Ok r) text next is good_next = json_by line s good r text next is good_next
  json_line_by line s good (Err NotJson) text next is good_next = (refusal_json (bare_refusal 1) line, (refl, is.1))
  json_line_by line s good (Err NotRequest) text next is good_next = (refusal_json (bare_refusal 2) line, (refl, is.1))
  json_line_by line s good (Err LineMemory) text next is good_next = absurd is

  line_exists : (line : ℕ) (s : Option State) → IsReached s → (bytes : List ℕ)
      → (text : List ℕ) × (next : Option State) × IsJsonLineAnswer Ends line s (reading bytes) text next × IsReached next
  line_exists line s good bytes =
      let one = each_line s good bytes in
      let json = json_line_by line s good (reading bytes) one.0 one.1 one.2 one.3 in
      (json.0, one.1, json.1, one.3)

pub each_line_in : (form : Form) (line : ℕ) (s : Option State) → IsReached s → (bytes : List ℕ)
    → (text : List ℕ) × (next : Option State) × IsAnswerIn form line s (reading bytes) text next × IsReached next
each_line_in Text line s good bytes = each_line s good bytes
each_line_in Json line s good bytes = line_exists EndsHere ends_here_exist line s good bytes
each_line_in JsonWithWays line s good bytes = line_exists EndsWithWays ends_with_ways_exist line s good bytes
