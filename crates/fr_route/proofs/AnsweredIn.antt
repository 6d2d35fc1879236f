-- The state and a line determine the answer in each form.
use Rattle.std.proofs.Common.{◌≡◌, ◌∙◌, ℕ, ◌+◌, ◌==◌, if◌then◌else◌, List, [], ◌∷◌, Option, Some, None, Result, Ok, Err}
use Rattle.std.proofs.Common.{ap, inl, inr, refl, slice_get, sym, subst}
use Rattle.fr_graph.specs.Network.{Network}
use Rattle.fr_graph.specs.declared.edit.Edit.{Edit}
use Rattle.fr_graph.specs.declared.edit.Edit.TheVariants as edit
use Rattle.fr_graph.specs.declared.fault.NetFault.{NetFault}
use Rattle.fr_graph.specs.declared.fault.NetFault.TheVariants.{TooMany, Range, SelfLink, Twice, Cycle, NoLink, Memory}
use Rattle.fr_requests.specs.Requests.{PlainRequest, new_network, cut_link, add_link, join_nodes, make_edits, move_dest}
use Rattle.fr_requests.specs.Requests.{walk_from, ask, ask_node, order_pushes, push_ways}
use Rattle.fr_requests.specs.declared.requests.LineFault.{LineFault}
use Rattle.fr_requests.specs.declared.requests.LineFault.TheVariants.{NotJson, NotRequest, Memory as LineMemory}
use Rattle.fr_requests.specs.declared.requests.Question.TheVariants.{Links, Counts, Hops, Ways}
use Rattle.fr_requests.specs.declared.requests.NodeQuestion.TheVariants as node
use Rattle.fr_graph.specs.Evidence.{evidence}
use Rattle.fr_route.specs.Forms.{IsAnswerIn}
use Rattle.fr_route.specs.Json.{AreChanged, AreChanges, EndsHere, EndsWithWays, IsBatchRefusal, IsEditRefusal}
use Rattle.fr_route.specs.Json.{IsJsonAnswer, IsJsonLineAnswer, IsJsonReport, IsJsonText, IsJsonWalk, IsNewRefusal}
use Rattle.fr_route.specs.Json.{IsRefusal, PlainRefusal, phases_json}
use Rattle.fr_route.specs.Json.{IsJsonNearest, IsJsonNodeWays, IsJsonWays, nearest_json, node_ways_json, ways_json}
use Rattle.fr_nearest.proofs.Walking.{one_list}
use Rattle.fr_route.proofs.WaysExist.{nearest_unique}
use Rattle.fr_route.proofs.NodeWays.{ways_below_unique, nearest_connected}
use Rattle.fr_route.specs.Json.{ends, ends_in, hops_json, more_json, pushes_json, refusal_for, refusal_json}
use Rattle.fr_route.specs.Json.{report_json, walk_json}
use Rattle.fr_route.specs.Reroutes.{AreReplaced}
use Rattle.fr_route.specs.States.{State, net_at}
use Rattle.fr_route.specs.declared.form.Form.{Form}
use Rattle.fr_route.specs.declared.form.Form.TheVariants.{Text, Json, JsonWithWays}
use Rattle.fr_route.proofs.Changed.{changes_unique}
use Rattle.fr_route.proofs.Determined.{accepted_unique, asked_not_accepted, asked_not_refused, hops_unique, line_unique}
use Rattle.fr_route.proofs.Determined.{not_both, report_unique}
use Rattle.fr_route.proofs.OneTelling.{replaced_unique, replaced_ways_unique, rerouted_unique}
use Rattle.fr_route.proofs.TablePushes.{asked_unique, pushes_refusal_unique}
use Rattle.fr_route.proofs.Replying.{refused_by}
use Rattle.fr_route.proofs.Routing.{route_joined, route_unique}
use Rattle.fr_graph.proofs.Refusing.{fault_place, no_first_fault}
use Rattle.fr_graph.specs.Laws.{AreAlike}
use Rattle.fr_graph.proofs.Evidence.{batches_alike, edits_alike, links_alike}
use Rattle.fr_route.proofs.WayPushes.{phases_text_unique, way_refusal_unique}

-- the kind of a fault, its evidence and the nodes of the request determine the refusal
refusal_by : ℕ → List ℕ → List ℕ → Option ℕ → PlainRefusal
refusal_by kind shown named place = record {
  number = if kind == 0 then 9 else (if kind == 6 then 0 else kind + 3);
  nodes = if kind == 5 then named else shown;
  edit = place;
}

refusal_by_kind : (f : NetFault) (named : List ℕ) (place : Option ℕ)
    → refusal_for f named place ≡ refusal_by (fault_place f) (evidence f) named place
unfolding refusal_by
refusal_by_kind TooMany named place = refl
refusal_by_kind (Range x) named place = refl
refusal_by_kind (SelfLink x) named place = refl
refusal_by_kind (Twice x y) named place = refl
refusal_by_kind (Cycle walk) named place = refl
refusal_by_kind NoLink named place = refl
refusal_by_kind Memory named place = refl

alike_refusal : (f g : NetFault) (named : List ℕ) (place : Option ℕ) → AreAlike f g
    → refusal_for f named place ≡ refusal_for g named place
alike_refusal f g named place alike =
    refusal_by_kind f named place
    ∙ ((λ i. refusal_by (alike.kind i) (alike.shown i) named place) ∙ sym (refusal_by_kind g named place))

new_refusal_unique : (n d : ℕ) (links : List (ℕ × ℕ)) (a b : PlainRefusal) → IsNewRefusal n d links a
    → IsNewRefusal n d links b → a ≡ b
new_refusal_unique n d links a b (inl h) (inl k) =
    h.3 ∙ (alike_refusal h.0 k.0 [] None (links_alike n links h.0 k.0 h.1 h.2 k.1 k.2) ∙ sym k.3)
new_refusal_unique n d links a b (inl h) (inr k) = absurd (no_first_fault n links h.0 k.0 h.1)
new_refusal_unique n d links a b (inr h) (inl k) = absurd (no_first_fault n links k.0 h.0 k.1)
new_refusal_unique n d links a b (inr h) (inr k) = h.2 ∙ sym k.2

edit_refusal_unique : (net : Network) (e : Edit) (a b : PlainRefusal) → IsEditRefusal net e a → IsEditRefusal net e b
    → a ≡ b
edit_refusal_unique net e a b h k =
    h.3 ∙ (alike_refusal h.0 k.0 (ends e) None (edits_alike net e h.0 k.0 h.1 h.2 k.1 k.2) ∙ sym k.3)

batch_refusal_unique : (net : Network) (edits : List Edit) (a b : PlainRefusal) → IsBatchRefusal net edits a
    → IsBatchRefusal net edits b → a ≡ b
batch_refusal_unique net edits a b h k =
    let one = batches_alike net edits h.0 k.0 h.1 h.2 k.1 k.2 in
    h.3 ∙ ((λ i. refusal_for h.0.fault (ends_in (slice_get edits (one.0 i))) (Some (one.0 i)))
    ∙ (alike_refusal h.0.fault k.0.fault (ends_in (slice_get edits k.0.at)) (Some k.0.at) one.1 ∙ sym k.3))

pub refusal_unique : (s : Option State) (r : PlainRequest) (a b : PlainRefusal) → IsRefusal s r a → IsRefusal s r b
    → a ≡ b
refusal_unique s (new_network n d links) a b h k = new_refusal_unique n d links a b h k
refusal_unique s (order_pushes table wanted) a b h k =
    let same = pushes_refusal_unique hops_unique s table wanted h.0 k.0 h.1 k.1 h.2 k.2 in
    h.3 ∙ ((λ i. record { number = same.0 i; nodes = same.1 i; edit = None }) ∙ sym k.3)
refusal_unique None (cut_link u v) a b h k = h ∙ sym k
refusal_unique None (add_link u v) a b h k = h ∙ sym k
refusal_unique None (join_nodes u v) a b h k = h ∙ sym k
refusal_unique None (make_edits edits) a b h k = h ∙ sym k
refusal_unique None (move_dest d) a b h k = h ∙ sym k
refusal_unique None (walk_from x) a b h k = h ∙ sym k
refusal_unique None (ask question) a b h k = h ∙ sym k
refusal_unique None (ask_node question x) a b h k = h ∙ sym k
refusal_unique None (push_ways table) a b h k = h ∙ sym k
refusal_unique (Some s) (cut_link u v) a b h k = edit_refusal_unique (net_at s) (edit.Cut u v) a b h k
refusal_unique (Some s) (add_link u v) a b h k = edit_refusal_unique (net_at s) (edit.Add u v) a b h k
refusal_unique (Some s) (join_nodes u v) a b h k = edit_refusal_unique (net_at s) (edit.Join u v) a b h k
refusal_unique (Some s) (make_edits edits) a b h k = batch_refusal_unique (net_at s) edits a b h k
refusal_unique (Some s) (move_dest d) a b h k = h.1 ∙ sym k.1
refusal_unique (Some s) (walk_from x) a b h k = h.1 ∙ sym k.1
refusal_unique (Some s) (ask question) a b h k = absurd h
refusal_unique (Some s) (ask_node question x) a b h k = h.1 ∙ sym k.1
refusal_unique (Some s) (push_ways table) a b h k =
    let same = way_refusal_unique s table h.0 k.0 h.1 k.1 h.2 k.2 in
    h.3 ∙ ((λ i. record { number = same.0 i; nodes = same.1 i; edit = None }) ∙ sym k.3)

json_report_unique : (Lists Ends : List ℕ → Type 0) → ((a b : List ℕ) → Lists a → Lists b → a ≡ b)
    → ((a b : List ℕ) → Ends a → Ends b → a ≡ b) → (new : State) (t u : List ℕ)
    → IsJsonReport Lists Ends new t → IsJsonReport Lists Ends new u → t ≡ u
json_report_unique Lists Ends one ends new t u (a, k, xs, cs, v, r, l, are, h, e) (b, j, ys, ds, w, q, m, too, g, f) =
    let same = report_unique new a b k j r q in
    let numbers : xs ≡ ys = one xs ys l m in
    let changes : cs ≡ ds =
    changes_unique new ys cs ds (subst (λ (ns : List ℕ). AreChanges new ns cs) numbers are) too in
    let end : v ≡ w = ends v w h g in
    e ∙ ((λ i. report_json (same.0 i) (same.1 i) (changes i) (end i)) ∙ sym f)

-- a report ends in one way
ends_here_unique : (s : Option State) (new : State) (a b : List ℕ) → EndsHere s new a → EndsHere s new b → a ≡ b
ends_here_unique s new a b h k = h ∙ sym k

ends_with_ways_unique : (s : Option State) (new : State) (a b : List ℕ) → EndsWithWays s new a → EndsWithWays s new b
    → a ≡ b
ends_with_ways_unique s new a b (xs, ys, h, e) (zs, ws, k, f) =
    let same = replaced_ways_unique s new xs ys zs ws h k in
    e ∙ ((λ i. more_json (same.0 i) (same.1 i)) ∙ sym f)

changed_unique : (s : Option State) (new : State) (a b : List ℕ) → AreChanged s new a → AreChanged s new b → a ≡ b
changed_unique None new a b h k = absurd h
changed_unique (Some s) new a b h k = rerouted_unique s new a b h k

json_walk_unique : (s : State) (x : ℕ) (t u : List ℕ) → IsJsonWalk s x t → IsJsonWalk s x u → t ≡ u
json_walk_unique s x t u (inl a) (inl b) =
    a.2 ∙ (ap (λ (rest : List ℕ). walk_json (x ∷ rest)) (route_unique s.links s.dest x a.0 b.0 a.1 b.1) ∙ sym b.2)
json_walk_unique s x t u (inl a) (inr b) = absurd (b.0.1 (route_joined s.links s.dest x a.0 a.1))
json_walk_unique s x t u (inr a) (inl b) = absurd (a.0.1 (route_joined s.links s.dest x b.0 b.1))
json_walk_unique s x t u (inr a) (inr b) = a.1 ∙ sym b.1

json_ways_unique : (s : State) (t u : List ℕ) → IsJsonWays s t → IsJsonWays s u → t ≡ u
json_ways_unique s t u a b = a.2 ∙ (ap (ways_json s.dest) (ways_below_unique s s.nodes a.0 b.0 a.1 b.1) ∙ sym b.2)

json_node_ways_unique : (s : State) (x : ℕ) (t u : List ℕ) → IsJsonNodeWays s x t → IsJsonNodeWays s x u → t ≡ u
json_node_ways_unique s x t u a b =
    a.2 ∙ (ap (node_ways_json (x == s.dest)) (one_list s.links s.dest x a.0 b.0 a.1 b.1) ∙ sym b.2)

json_nearest_unique : (s : State) (x : ℕ) (t u : List ℕ) → IsJsonNearest s x t → IsJsonNearest s x u → t ≡ u
json_nearest_unique s x t u (inl a) (inl b) =
    a.2 ∙ (ap (λ (rest : List ℕ). nearest_json (x ∷ rest)) (nearest_unique s.links s.dest x a.0 b.0 a.1 b.1) ∙ sym b.2)
json_nearest_unique s x t u (inl a) (inr b) = absurd (b.0.1 (nearest_connected s x a.0 a.1))
json_nearest_unique s x t u (inr a) (inl b) = absurd (a.0.1 (nearest_connected s x b.0 b.1))
json_nearest_unique s x t u (inr a) (inr b) = a.1 ∙ sym b.1

-- however reports end, if they end in one way
module _ (Ends : Option State → State → List ℕ → Type 0)
    (one : (s : Option State) (new : State) (a b : List ℕ) → Ends s new a → Ends s new b → a ≡ b) where
  json_text_unique : (s : Option State) (r : PlainRequest) (new : State) (t u : List ℕ) → IsJsonText Ends s r new t
      → IsJsonText Ends s r new u → t ≡ u
  json_text_unique s (new_network n d links) new t u h k =
      json_report_unique (AreReplaced s new) (Ends s new) (replaced_unique s new) (one s new) new t u h k
  json_text_unique s (cut_link v w) new t u h k =
      json_report_unique (AreChanged s new) (Ends s new) (changed_unique s new) (one s new) new t u h k
  json_text_unique s (add_link v w) new t u h k =
      json_report_unique (AreChanged s new) (Ends s new) (changed_unique s new) (one s new) new t u h k
  json_text_unique s (join_nodes v w) new t u h k =
      json_report_unique (AreChanged s new) (Ends s new) (changed_unique s new) (one s new) new t u h k
  json_text_unique s (make_edits edits) new t u h k =
      json_report_unique (AreChanged s new) (Ends s new) (changed_unique s new) (one s new) new t u h k
  json_text_unique s (move_dest d) new t u h k =
      json_report_unique (AreChanged s new) (Ends s new) (changed_unique s new) (one s new) new t u h k
  json_text_unique s (walk_from x) new t u h k = json_walk_unique new x t u h k
  json_text_unique s (ask Links) new t u h k = h ∙ sym k
  json_text_unique s (ask Counts) new t u h k = h ∙ sym k
  json_text_unique s (order_pushes table wanted) new t u h k = absurd h
  json_text_unique s (push_ways table) new t u h k = phases_text_unique phases_json new table t u h k
  json_text_unique s (ask Ways) new t u h k = json_ways_unique new t u h k
  json_text_unique s (ask_node node.Ways x) new t u h k = json_node_ways_unique new x t u h k
  json_text_unique s (ask_node node.Nearest x) new t u h k = json_nearest_unique new x t u h k
  json_text_unique s (ask Hops) new t u h k = h.2 ∙ (ap hops_json (hops_unique new new.nodes h.0 k.0 h.1 k.1) ∙ sym k.2)

  json_unique : (line : ℕ) (s : Option State) (r : PlainRequest) (t u : List ℕ) (p q : Option State)
      → IsJsonAnswer Ends line s r t p → IsJsonAnswer Ends line s r u q → (t ≡ u) × (p ≡ q)
  json_unique line s r t u p q (inl (a, h, e, n)) (inl (b, k, f, m)) =
      (e ∙ (ap (λ (refusal : PlainRefusal). refusal_json refusal line) (refusal_unique s r a b h k) ∙ sym f), n ∙ sym m)
  json_unique line s r t u p q (inl (a, h, e, n)) (inr (inl (new, k, f, m))) =
      absurd (not_both s r a.number new (refused_by s r a h) k)
  json_unique line s r t u p q (inl (a, h, e, n)) (inr (inr (b, k, f, m))) =
      absurd (asked_not_refused s r b a.number k (refused_by s r a h))
  json_unique line s r t u p q (inr (inl (new, h, e, n))) (inl (b, k, f, m)) =
      absurd (not_both s r b.number new (refused_by s r b k) h)
  json_unique line s r t u p q (inr (inl (a, h, e, n))) (inr (inr (b, k, f, m))) =
      absurd (asked_not_accepted s r b a k h)
  json_unique line s r t u p q (inr (inr (a, h, e, n))) (inl (b, k, f, m)) =
      absurd (asked_not_refused s r a b.number h (refused_by s r b k))
  json_unique line s r t u p q (inr (inr (a, h, e, n))) (inr (inl (b, k, f, m))) =
      absurd (asked_not_accepted s r a b h k)
  json_unique line s r t u p q (inr (inr (a, h, e, n))) (inr (inr (b, k, f, m))) =
      (e ∙ (ap pushes_json (asked_unique hops_unique s r a b h k) ∙ sym f), n ∙ sym m)
  json_unique line s r t u p q (inr (inl (a, h, e, n))) (inr (inl (b, k, f, m))) =
      let same : a ≡ b = accepted_unique s r a b h k in (
        json_text_unique s r b t u (subst (λ (z : State). IsJsonText Ends s r z t) same e) f,
        n ∙ (ap (λ (z : State). Some z) same ∙ sym m),
      )

  json_line_unique : (line : ℕ) (s : Option State) (r : Result PlainRequest LineFault) (t u : List ℕ)
      (p q : Option State)
      → IsJsonLineAnswer Ends line s r t p → IsJsonLineAnswer Ends line s r u q → (t ≡ u) × (p ≡ q)
  json_line_unique line s (Ok r) t u p q h k = json_unique line s r t u p q h k
  json_line_unique line s (Err NotJson) t u p q h k = (h.0 ∙ sym k.0, h.1 ∙ sym k.1)
  json_line_unique line s (Err NotRequest) t u p q h k = (h.0 ∙ sym k.0, h.1 ∙ sym k.1)
  json_line_unique line s (Err LineMemory) t u p q h k = absurd h

pub answer_in_unique : (form : Form) (line : ℕ) (s : Option State) (r : Result PlainRequest LineFault) (t u : List ℕ)
    (p q : Option State)
    → IsAnswerIn form line s r t p → IsAnswerIn form line s r u q → (t ≡ u) × (p ≡ q)
answer_in_unique Text line s r t u p q h k = line_unique s r t u p q h k
answer_in_unique Json line s r t u p q h k = json_line_unique EndsHere ends_here_unique line s r t u p q h k
answer_in_unique JsonWithWays line s r t u p q h k =
    json_line_unique EndsWithWays ends_with_ways_unique line s r t u p q h k
