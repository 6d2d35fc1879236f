-- The state and the request determine the answer, the hops and the report; and so do the state and lines.
use Rattle.std.proofs.Common.{◌≡◌, ◌==◌, ◌∙◌, ℕ, zero, suc, ◌+◌, ◌<◌, ◌++◌, Bool, true, false, MatchBool, List, [], ◌∷◌}
use Rattle.std.proofs.Common.{get_or, length, refl, sym, ap}
use Rattle.std.proofs.Common.{subst, inl, inr, arith, Option, Some, None, Result, Ok, Err}
use Rattle.std.proofs.lemmas.List.{ext_get_or}
use Rattle.std.proofs.lemmas.Option.{slice_get-get_or}
use Rattle.fr_graph.specs.Batches.{IsBatchFault, IsEditFault}
use Rattle.fr_graph.specs.Edits.{without}
use Rattle.fr_graph.specs.Faults.{IsFirstFault}
use Rattle.fr_graph.specs.Network.{Network}
use Rattle.fr_requests.specs.Requests.{PlainRequest, new_network, cut_link, add_link, join_nodes, make_edits, move_dest}
use Rattle.fr_requests.specs.Requests.{walk_from, ask, ask_node, order_pushes, push_ways, reading}
use Rattle.fr_graph.specs.declared.edit.Edit.{Edit}
use Rattle.fr_graph.specs.declared.edit.Edit.TheVariants as edit
use Rattle.fr_graph.specs.declared.fault.EditFault.{EditFault}
use Rattle.fr_requests.specs.declared.requests.Question.TheVariants.{Links, Counts, Hops, Ways}
use Rattle.fr_requests.specs.declared.requests.NodeQuestion.TheVariants as node
use Rattle.fr_requests.specs.declared.requests.LineFault.{LineFault}
use Rattle.fr_requests.specs.declared.requests.LineFault.TheVariants.{NotJson, NotRequest, Memory as LineMemory}
use Rattle.fr_graph.specs.declared.fault.NetFault.{NetFault}
use Rattle.fr_graph.specs.declared.fault.NetFault.TheVariants.{TooMany, Range, SelfLink, Twice, Cycle, NoLink, Memory}
use Rattle.fr_graph.proofs.Batches.{all_made_one, batch_fault_place, batch_not_made, cut_fault_is}
use Rattle.fr_graph.proofs.Joining.{as_first, join_not_refused, joined_one}
use Rattle.fr_graph.proofs.Refusing.{fault_place, first_fault_place, no_first_fault}
use Rattle.fr_route.specs.Blank.{is_blank}
use Rattle.fr_route.specs.States.{State, IsReport, IsRound, net_at}
use Rattle.fr_route.specs.Routes.{IsHop, AreHops}
use Rattle.fr_route.specs.Pushing.{AreAsked}
use Rattle.fr_route.specs.Texts.{nearest_text, node_ways_text, phases_text, ways_text}
use Rattle.fr_route.specs.Texts.{report_text, hops_text, pushes_text, walk_text, refusal_text}
use Rattle.fr_route.specs.Answers.{IsNearestLine, IsNodeWaysLine, IsWaysLine}
use Rattle.fr_nearest.proofs.Walking.{one_list}
use Rattle.fr_route.proofs.WaysExist.{nearest_unique}
use Rattle.fr_route.proofs.NodeWays.{ways_below_unique, nearest_connected}
use Rattle.fr_route.proofs.WayPushes.{phases_text_unique, way_refusal_unique}
use Rattle.fr_route.specs.Answers.{fault_number, IsRefused, IsAccepted, IsReportLine, IsWalkLine, IsText, IsAnswer}
use Rattle.fr_route.specs.Answers.{IsLineAnswer, AreAnswers}
use Rattle.fr_tables.specs.declared.hop.Hop.{Hop}
use Rattle.fr_tables.specs.declared.hop.Hop.TheVariants as hop
use Rattle.fr_route.proofs.CutNodes.{cut_unique}
use Rattle.fr_route.proofs.TablePushes.{asked_unique, pushes_not_refused, pushes_refusal_unique}
use Rattle.fr_route.proofs.RoundEnds.{round_unique}
use Rattle.fr_route.proofs.Routing.{hop_unique, route_joined, route_unique}

-- no node has two hops
pub one_hop : (s : State) (x : ℕ) (a b : Hop) → IsHop s x a → IsHop s x b → a ≡ b
one_hop s x hop.Here hop.Here h g = refl
one_hop s x hop.Here (hop.To z) h g = absurd (g.1.0 h)
one_hop s x hop.Here hop.CutOff h g = absurd (g.0 h)
one_hop s x (hop.To y) hop.Here h g = absurd (h.1.0 g)
one_hop s x (hop.To y) (hop.To z) h g = ap (λ (w : ℕ). hop.To w) (hop_unique s.links x y z h.1.1 g.1.1)
one_hop s x (hop.To y) hop.CutOff h g = absurd (g.1 (route_joined s.links s.dest x (y ∷ h.0) h.1))
one_hop s x hop.CutOff hop.Here h g = absurd (h.0 g)
one_hop s x hop.CutOff (hop.To z) h g = absurd (h.1 (route_joined s.links s.dest x (z ∷ g.0) g.1))
one_hop s x hop.CutOff hop.CutOff h g = refl

pub hops_unique : (s : State) (n : ℕ) (a b : List Hop) → AreHops s n a → AreHops s n b → a ≡ b
hops_unique s n a b h g = ext_get_or hop.Here a b (h.one_each ∙ sym g.one_each) (λ i low.
    let inside : i < length b = omega (arith, h.one_each, g.one_each) in
    one_hop s i (get_or a i hop.Here) (get_or b i hop.Here)
    (h.each i (get_or a i hop.Here) (slice_get-get_or a i hop.Here low))
    (g.each i (get_or b i hop.Here) (slice_get-get_or b i hop.Here inside)))

-- faults of one kind have the same number
number_at : ℕ → ℕ
number_at zero = 9
number_at (suc k) = k + 4

number_by_place : (n : ℕ) (links : List (ℕ × ℕ)) (f : NetFault) → IsFirstFault n links f
    → fault_number f ≡ number_at (fault_place f)
unfolding number_at
number_by_place n links TooMany h = refl
number_by_place n links (Range x) h = refl
number_by_place n links (SelfLink u) h = refl
number_by_place n links (Twice u v) h = refl
number_by_place n links (Cycle walk) h = refl
number_by_place n links NoLink h = absurd h
number_by_place n links Memory h = absurd h

one_number : (n : ℕ) (links : List (ℕ × ℕ)) (f g : NetFault) → IsFirstFault n links f → IsFirstFault n links g
    → fault_number f ≡ fault_number g
one_number n links f g hf hg =
    number_by_place n links f hf
    ∙ (ap number_at (first_fault_place n links f g hf hg) ∙ sym (number_by_place n links g hg))

-- faults of edits have the numbers of their kinds, too
edit_number : (net : Network) (e : Edit) (f : NetFault) → IsEditFault net e f
    → fault_number f ≡ number_at (fault_place f)
unfolding number_at
edit_number net (edit.Cut u v) f h = let is = (cut_fault_is net.links u v f h).0 in
    subst (λ (x : NetFault). fault_number x ≡ number_at (fault_place x)) (sym is) refl
edit_number net (edit.Add u v) f h = number_by_place net.nodes (net.links ++ (u, v) ∷ []) f h
edit_number net (edit.Join u v) f h =
    number_by_place net.nodes (net.links ++ (u, v) ∷ []) f (as_first net.nodes net.links u v f h)

batch_number : (net : Network) (edits : List Edit) (f : EditFault) → IsBatchFault net edits f
    → fault_number f.fault ≡ number_at (fault_place f.fault)
unfolding number_at
batch_number net edits f (inl h) = subst (λ (x : NetFault). fault_number x ≡ number_at (fault_place x)) (sym h.2) refl
batch_number net edits f (inr h) =
    edit_number h.1.before (get_or edits f.at (edit.Cut 0 0)) f.fault (h.1.refused (edit.Cut 0 0))

one_batch_number : (net : Network) (edits : List Edit) (f g : EditFault) → IsBatchFault net edits f
    → IsBatchFault net edits g → fault_number f.fault ≡ fault_number g.fault
one_batch_number net edits f g hf hg =
    batch_number net edits f hf
    ∙ (ap number_at (batch_fault_place net edits f g hf hg) ∙ sym (batch_number net edits g hg))

refused_unique : (s : Option State) (r : PlainRequest) (j k : ℕ) → IsRefused s r j → IsRefused s r k → j ≡ k
refused_unique s (new_network n d links) j k (inl a) (inl b) = a.2 ∙ (one_number n links a.0 b.0 a.1 b.1 ∙ sym b.2)
refused_unique s (new_network n d links) j k (inl a) (inr b) = absurd (no_first_fault n links a.0 b.0 a.1)
refused_unique s (new_network n d links) j k (inr a) (inl b) = absurd (no_first_fault n links b.0 a.0 b.1)
refused_unique s (new_network n d links) j k (inr a) (inr b) = a.2 ∙ sym b.2
refused_unique s (order_pushes table wanted) j k a b =
    (pushes_refusal_unique hops_unique s table wanted j k a.0 b.0 a.1 b.1).0
refused_unique None (cut_link u v) j k a b = a ∙ sym b
refused_unique None (add_link u v) j k a b = a ∙ sym b
refused_unique None (join_nodes u v) j k a b = a ∙ sym b
refused_unique None (make_edits edits) j k a b = a ∙ sym b
refused_unique None (move_dest d) j k a b = a ∙ sym b
refused_unique None (walk_from x) j k a b = a ∙ sym b
refused_unique None (ask q) j k a b = a ∙ sym b
refused_unique None (ask_node q x) j k a b = a ∙ sym b
refused_unique None (push_ways table) j k a b = a ∙ sym b
refused_unique (Some s) (cut_link u v) j k a b =
    (a.2 ∙ ap fault_number (cut_fault_is s.links u v a.0 a.1).0)
    ∙ sym (b.2 ∙ ap fault_number (cut_fault_is s.links u v b.0 b.1).0)
refused_unique (Some s) (add_link u v) j k a b =
    a.2 ∙ (one_number s.nodes (s.links ++ (u, v) ∷ []) a.0 b.0 a.1 b.1 ∙ sym b.2)
refused_unique (Some s) (join_nodes u v) j k a b =
    a.2 ∙ (one_number s.nodes (s.links ++ (u, v)
    ∷ []) a.0 b.0 (as_first s.nodes s.links u v a.0 a.1) (as_first s.nodes s.links u v b.0 b.1) ∙ sym b.2)
refused_unique (Some s) (make_edits edits) j k a b = a.2 ∙ (one_batch_number (net_at s) edits a.0 b.0 a.1 b.1 ∙ sym b.2)
refused_unique (Some s) (move_dest d) j k a b = a.1 ∙ sym b.1
refused_unique (Some s) (walk_from x) j k a b = a.1 ∙ sym b.1
refused_unique (Some s) (ask q) j k a b = absurd a
refused_unique (Some s) (ask_node q x) j k a b = a.1 ∙ sym b.1
refused_unique (Some s) (push_ways table) j k a b = (way_refusal_unique s table j k a.0 b.0 a.1 b.1).0

pub accepted_unique : (s : Option State) (r : PlainRequest) (a b : State) → IsAccepted s r a → IsAccepted s r b → a ≡ b
accepted_unique s (new_network n d links) a b p q = round_unique n d links a b p.2 q.2
accepted_unique s (order_pushes table wanted) a b h g = absurd h
accepted_unique None (cut_link u v) a b h g = absurd h
accepted_unique None (add_link u v) a b h g = absurd h
accepted_unique None (join_nodes u v) a b h g = absurd h
accepted_unique None (make_edits edits) a b h g = absurd h
accepted_unique None (move_dest d) a b h g = absurd h
accepted_unique None (walk_from x) a b h g = absurd h
accepted_unique None (ask q) a b h g = absurd h
accepted_unique None (ask_node q x) a b h g = absurd h
accepted_unique None (push_ways table) a b h g = absurd h
accepted_unique (Some s) (cut_link u v) a b h g = round_unique s.nodes s.dest (without u v s.links) a b h.1 g.1
accepted_unique (Some s) (add_link u v) a b h g = round_unique s.nodes s.dest (s.links ++ (u, v) ∷ []) a b h.1 g.1
accepted_unique (Some s) (join_nodes u v) a b h g =
    let same = joined_one s.nodes s.links u v h.0 g.0 h.1.0 g.1.0 in
    round_unique g.0.nodes s.dest g.0.links a b (subst (λ (m : Network). IsRound m.nodes s.dest m.links a) same h.1.1)
    g.1.1
accepted_unique (Some s) (make_edits edits) a b h g =
    let same = all_made_one (net_at s) edits h.1.0 g.1.0 h.1.1.0 g.1.1.0 in
    round_unique g.1.0.nodes s.dest g.1.0.links a b
    (subst (λ (m : Network). IsRound m.nodes s.dest m.links a) same h.1.1.1) g.1.1.1
accepted_unique (Some s) (move_dest d) a b h g = round_unique s.nodes d s.links a b h.1 g.1
accepted_unique (Some s) (walk_from x) a b h g = h.1 ∙ sym g.1
accepted_unique (Some s) (ask q) a b h g = h ∙ sym g
accepted_unique (Some s) (ask_node q x) a b h g = h.1 ∙ sym g.1
accepted_unique (Some s) (push_ways table) a b h g = h.2 ∙ sym g.2

pub not_both : (s : Option State) (r : PlainRequest) (k : ℕ) (new : State) → IsRefused s r k → ¬ IsAccepted s r new
not_both s (new_network n d links) k new (inl a) h = no_first_fault n links a.0 h.0 a.1
not_both s (new_network n d links) k new (inr a) h = let l = h.1 in omega (arith, a.1, l)
not_both s (order_pushes table wanted) k new a h = h
not_both None (cut_link u v) k new a h = h
not_both None (add_link u v) k new a h = h
not_both None (join_nodes u v) k new a h = h
not_both None (make_edits edits) k new a h = h
not_both None (move_dest d) k new a h = h
not_both None (walk_from x) k new a h = h
not_both None (ask q) k new a h = h
not_both None (ask_node q x) k new a h = h
not_both None (push_ways table) k new a h = h
not_both (Some s) (cut_link u v) k new a h = (cut_fault_is s.links u v a.0 a.1).1 h.0
not_both (Some s) (add_link u v) k new a h = no_first_fault s.nodes (s.links ++ (u, v) ∷ []) a.0 h.0 a.1
not_both (Some s) (join_nodes u v) k new a h = join_not_refused s.nodes s.links u v a.0 h.0 a.1 h.1.0
not_both (Some s) (make_edits edits) k new a h = batch_not_made (net_at s) edits a.0 h.1.0 a.1 h.0 h.1.1.0
not_both (Some s) (move_dest d) k new a h = omega (arith, a.0, h.0)
not_both (Some s) (walk_from x) k new a h = omega (arith, a.0, h.0)
not_both (Some s) (ask q) k new a h = a
not_both (Some s) (ask_node q x) k new a h = omega (arith, a.0, h.0)
not_both (Some s) (push_ways table) k new (nodes, inl a) h = omega (arith, a.0, h.0)
not_both (Some s) (push_ways table) k new (nodes, inr a) h = omega (arith, a.1, h.1)

-- a request for pushes that has an answer is neither refused nor accepted
pub asked_not_refused : (s : Option State) (r : PlainRequest) (pushes : List (ℕ × Hop)) (k : ℕ) → AreAsked s r pushes
    → ¬ IsRefused s r k
asked_not_refused s (new_network n d links) pushes k h a = h
asked_not_refused s (cut_link u v) pushes k h a = h
asked_not_refused s (add_link u v) pushes k h a = h
asked_not_refused s (join_nodes u v) pushes k h a = h
asked_not_refused s (make_edits edits) pushes k h a = h
asked_not_refused s (move_dest d) pushes k h a = h
asked_not_refused s (walk_from x) pushes k h a = h
asked_not_refused s (ask q) pushes k h a = h
asked_not_refused s (ask_node q x) pushes k h a = h
asked_not_refused s (push_ways table) pushes k h a = h
asked_not_refused s (order_pushes table wanted) pushes k h a =
    pushes_not_refused hops_unique s table wanted pushes k a.0 h a.1

pub asked_not_accepted : (s : Option State) (r : PlainRequest) (pushes : List (ℕ × Hop)) (new : State)
    → AreAsked s r pushes → ¬ IsAccepted s r new
asked_not_accepted s (new_network n d links) pushes new h a = h
asked_not_accepted s (cut_link u v) pushes new h a = h
asked_not_accepted s (add_link u v) pushes new h a = h
asked_not_accepted s (join_nodes u v) pushes new h a = h
asked_not_accepted s (make_edits edits) pushes new h a = h
asked_not_accepted s (move_dest d) pushes new h a = h
asked_not_accepted s (walk_from x) pushes new h a = h
asked_not_accepted s (ask q) pushes new h a = h
asked_not_accepted s (ask_node q x) pushes new h a = h
asked_not_accepted s (push_ways table) pushes new h a = h
asked_not_accepted s (order_pushes table wanted) pushes new h a = a

pub report_unique : (s : State) (t u k l : ℕ) → IsReport s t k → IsReport s u l → (t ≡ u) × (k ≡ l)
report_unique s t u k l r q = (r.turns ∙ sym q.turns, cut_unique s.nodes s.dest s.links k l r.cut_off q.cut_off)

report_line_unique : (s : State) (t u : List ℕ) → IsReportLine s t → IsReportLine s u → t ≡ u
report_line_unique s t u (a, k, r, e) (b, l, q, f) =
    let same = report_unique s a b k l r q in e ∙ ((λ i. report_text (same.0 i) (same.1 i)) ∙ sym f)

walk_line_unique : (s : State) (x : ℕ) (t u : List ℕ) → IsWalkLine s x t → IsWalkLine s x u → t ≡ u
walk_line_unique s x t u (inl a) (inl b) =
    a.2 ∙ (ap (λ (rest : List ℕ). walk_text (x ∷ rest)) (route_unique s.links s.dest x a.0 b.0 a.1 b.1) ∙ sym b.2)
walk_line_unique s x t u (inl a) (inr b) = absurd (b.0.1 (route_joined s.links s.dest x a.0 a.1))
walk_line_unique s x t u (inr a) (inl b) = absurd (a.0.1 (route_joined s.links s.dest x b.0 b.1))
walk_line_unique s x t u (inr a) (inr b) = a.1 ∙ sym b.1

ways_line_unique : (s : State) (t u : List ℕ) → IsWaysLine s t → IsWaysLine s u → t ≡ u
ways_line_unique s t u a b = a.2 ∙ (ap (ways_text s.dest) (ways_below_unique s s.nodes a.0 b.0 a.1 b.1) ∙ sym b.2)

node_ways_line_unique : (s : State) (x : ℕ) (t u : List ℕ) → IsNodeWaysLine s x t → IsNodeWaysLine s x u → t ≡ u
node_ways_line_unique s x t u a b =
    a.2 ∙ (ap (node_ways_text (x == s.dest)) (one_list s.links s.dest x a.0 b.0 a.1 b.1) ∙ sym b.2)

nearest_line_unique : (s : State) (x : ℕ) (t u : List ℕ) → IsNearestLine s x t → IsNearestLine s x u → t ≡ u
nearest_line_unique s x t u (inl a) (inl b) =
    a.2 ∙ (ap (λ (rest : List ℕ). nearest_text (x ∷ rest)) (nearest_unique s.links s.dest x a.0 b.0 a.1 b.1) ∙ sym b.2)
nearest_line_unique s x t u (inl a) (inr b) = absurd (b.0.1 (nearest_connected s x a.0 a.1))
nearest_line_unique s x t u (inr a) (inl b) = absurd (a.0.1 (nearest_connected s x b.0 b.1))
nearest_line_unique s x t u (inr a) (inr b) = a.1 ∙ sym b.1

text_unique : (s : State) (r : PlainRequest) (t u : List ℕ) → IsText s r t → IsText s r u → t ≡ u
text_unique s (new_network n d links) t u a b = report_line_unique s t u a b
text_unique s (cut_link v w) t u a b = report_line_unique s t u a b
text_unique s (add_link v w) t u a b = report_line_unique s t u a b
text_unique s (join_nodes v w) t u a b = report_line_unique s t u a b
text_unique s (make_edits edits) t u a b = report_line_unique s t u a b
text_unique s (move_dest d) t u a b = report_line_unique s t u a b
text_unique s (walk_from x) t u a b = walk_line_unique s x t u a b
text_unique s (ask Links) t u a b = a ∙ sym b
text_unique s (ask Counts) t u a b = a ∙ sym b
text_unique s (order_pushes table wanted) t u a b = absurd a
text_unique s (push_ways table) t u a b = phases_text_unique phases_text s table t u a b
text_unique s (ask Ways) t u a b = ways_line_unique s t u a b
text_unique s (ask_node node.Ways x) t u a b = node_ways_line_unique s x t u a b
text_unique s (ask_node node.Nearest x) t u a b = nearest_line_unique s x t u a b
text_unique s (ask Hops) t u a b = a.2 ∙ (ap hops_text (hops_unique s s.nodes a.0 b.0 a.1 b.1) ∙ sym b.2)

pub answer_unique : (s : Option State) (r : PlainRequest) (t u : List ℕ) (p q : Option State) → IsAnswer s r t p
    → IsAnswer s r u q → (t ≡ u) × (p ≡ q)
answer_unique s r t u p q (inl (j, a, e, l)) (inl (k, b, f, m)) =
    (e ∙ (ap refusal_text (refused_unique s r j k a b) ∙ sym f), l ∙ sym m)
answer_unique s r t u p q (inl (j, a, e, l)) (inr (inl (n, b, f, m))) = absurd (not_both s r j n a b)
answer_unique s r t u p q (inl (j, a, e, l)) (inr (inr (n, b, f, m))) = absurd (asked_not_refused s r n j b a)
answer_unique s r t u p q (inr (inl (m, a, e, l))) (inl (k, b, f, g)) = absurd (not_both s r k m b a)
answer_unique s r t u p q (inr (inl (m, a, e, l))) (inr (inr (n, b, f, g))) = absurd (asked_not_accepted s r n m b a)
answer_unique s r t u p q (inr (inr (m, a, e, l))) (inl (k, b, f, g)) = absurd (asked_not_refused s r m k a b)
answer_unique s r t u p q (inr (inr (m, a, e, l))) (inr (inl (n, b, f, g))) = absurd (asked_not_accepted s r m n a b)
answer_unique s r t u p q (inr (inr (m, a, e, l))) (inr (inr (n, b, f, g))) =
    (e ∙ (ap pushes_text (asked_unique hops_unique s r m n a b) ∙ sym f), l ∙ sym g)
answer_unique s r t u p q (inr (inl (m, a, e, l))) (inr (inl (n, b, f, k))) =
    let same : m ≡ n = accepted_unique s r m n a b in
    (text_unique n r t u (subst (λ (z : State). IsText z r t) same e) f, l ∙ (ap (λ (z : State). Some z) same ∙ sym k))

pub line_unique : (s : Option State) (r : Result PlainRequest LineFault) (t u : List ℕ) (p q : Option State)
    → IsLineAnswer s r t p → IsLineAnswer s r u q → (t ≡ u) × (p ≡ q)
line_unique s (Ok r) t u p q a b = answer_unique s r t u p q a b
line_unique s (Err NotJson) t u p q a b = (a.0 ∙ sym b.0, a.1 ∙ sym b.1)
line_unique s (Err NotRequest) t u p q a b = (a.0 ∙ sym b.0, a.1 ∙ sym b.1)
line_unique s (Err LineMemory) t u p q a b = absurd a

-- the answers to a line that is not blank and to those after it
abbrev pub Answered : Option State → List ℕ → List (List ℕ) → List ℕ → Option State → Type 0
Answered s line rest out last =
    (text : List ℕ) × (between : Option State) × (more : List ℕ) × IsLineAnswer s (reading line) text between
    × AreAnswers between rest more last × (out ≡ (text ++ 10 ∷ []) ++ more)

pub by_blank : (b : Bool) (P Q R S T : Type 0) → (P → R → T) → (Q → S → T) → MatchBool b P Q → MatchBool b R S → T
by_blank true P Q R S T f g h k = f h k
by_blank false P Q R S T f g h k = g h k

pub answers_unique : (s : Option State) (lines : List (List ℕ)) (a b : List ℕ) (p q : Option State)
    → AreAnswers s lines a p
    → AreAnswers s lines b q → (a ≡ b) × (p ≡ q)
answers_unique s [] a b p q h k = (h.0 ∙ sym k.0, h.1 ∙ sym k.1)
answers_unique s (line ∷ rest) a b p q h k =
    by_blank (is_blank line) (AreAnswers s rest a p) (Answered s line rest a p) (AreAnswers s rest b q)
    (Answered s line rest b q) ((a ≡ b) × (p ≡ q))
    (answers_unique s rest a b p q)
    (λ h k.
    let one = line_unique s (reading line) h.0 k.0 h.1 k.1 h.3 k.3 in
    let rest_too =
    answers_unique k.1 rest h.2 k.2 p q (subst (λ (t : Option State). AreAnswers t rest h.2 p) one.1 h.4) k.4 in
    let texts : (h.0 ++ 10 ∷ []) ++ h.2 ≡ (k.0 ++ 10 ∷ []) ++ k.2 = (λ i. (one.0 i ++ 10 ∷ []) ++ rest_too.0 i) in
    (h.5 ∙ (texts ∙ sym k.5), rest_too.1))
    h k
