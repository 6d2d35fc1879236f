-- Each line has an answer in each state after a round, and in the state before any.
use Rattle.std.proofs.Common.{◌≡◌, ◌==◌, ℕ, zero, suc, ◌+◌, ◌<◌, ◌++◌, ◌⊎◌, List, [], ◌∷◌, length, max, ap, arith, inl}
use Rattle.std.proofs.Common.{inr, refl, subst, ⊎_elim, Option, Some}
use Rattle.std.proofs.Common.{None, Result}
use Rattle.std.specs.Prelude.{slice_get, slice_index, ok_or, sum}
use Rattle.std.proofs.lemmas.Bool.{cases_eq, cases_lt}
use Rattle.fr_graph.proofs.Building.{faultless_sorted, permuted_net}
use Rattle.fr_graph.proofs.Editing.{faultless_cut}
use Rattle.fr_graph.proofs.Joining.{faultless_turned}
use Rattle.fr_graph.proofs.Refusing.{no_cycle_stands}
use Rattle.fr_graph.proofs.Linking.{link_below}
use Rattle.fr_graph.proofs.Ordering.{in_order_permutes}
use Rattle.fr_graph.proofs.TurnedLinks.{turned_faultless}
use Rattle.fr_graph.specs.Counts.{links_at}
use Rattle.fr_graph.specs.Edits.{IsJoined, IsJoinFault, without}
use Rattle.fr_graph.specs.Batches.{AreMade, IsEditFault, IsMade, IsRefusedAt}
use Rattle.fr_graph.specs.Faults.{IsFaultless, IsFirstFault, IsNetworkOf}
use Rattle.fr_graph.specs.Limits.{most_edits, most_nodes}
use Rattle.fr_graph.specs.Links.{HasPath, IsAcyclic, IsNet, Points}
use Rattle.fr_graph.specs.Network.{Network, net_of}
use Rattle.fr_graph.specs.Order.{in_order}
use Rattle.fr_requests.specs.Requests.{PlainRequest, new_network, cut_link, add_link, join_nodes, make_edits, move_dest}
use Rattle.fr_requests.specs.Requests.{walk_from, ask, ask_node, order_pushes, push_ways, reading}
use Rattle.fr_requests.specs.Requests.{reading_of_value, request_of, value_of_line}
use Rattle.fr_graph.specs.declared.fault.EditFault.{EditFault}
use Rattle.fr_graph.specs.declared.fault.NetFault.{NetFault}
use Rattle.fr_graph.specs.declared.fault.NetFault.TheVariants.{Cycle, Memory, NoLink, Range, SelfLink, TooMany, Twice}
use Rattle.fr_graph.specs.declared.edit.Edit.{Edit}
use Rattle.fr_graph.specs.declared.edit.Edit.TheVariants.{Cut, Add, Join}
use Rattle.fr_requests.specs.declared.requests.LineFault.{LineFault}
use Rattle.fr_requests.specs.declared.requests.LineFault.TheVariants.{NotRequest}
use Rattle.fr_requests.specs.declared.requests.Question.{Question}
use Rattle.fr_requests.specs.declared.requests.Question.TheVariants.{Links, Counts, Hops, Ways}
use Rattle.fr_requests.specs.declared.requests.NodeQuestion.{NodeQuestion}
use Rattle.fr_requests.specs.declared.requests.NodeQuestion.TheVariants as node
use Rattle.fr_core.proofs.Finishing.{settled_exists}
use Rattle.fr_core.proofs.Paths.{walk_from_path}
use Rattle.fr_core.proofs.Searching.{cases_below}
use Rattle.fr_core.proofs.Unique.{settled_lawful}
use Rattle.fr_route.specs.States.{State, IsAfterRound, IsReport, IsRound, net_at}
use Rattle.fr_route.specs.Routes.{IsHop, AreHops, is_cut_off}
use Rattle.fr_route.specs.Answers.{fault_number, IsReportLine, IsHopsLine, IsWalkLine, IsAnswer, IsLineAnswer, IsText}
use Rattle.fr_route.specs.Texts.{counts_text, links_text, hops_text, walk_text, no_walk_text, pushes_text, report_text}
use Rattle.fr_route.specs.Texts.{refusal_text}
use Rattle.fr_route.specs.Texts.{nearest_text, no_nearest_text, node_ways_text, phases_text, ways_text}
use Rattle.fr_ways.specs.Phases.{growths, shrinks}
use Rattle.fr_tables.specs.declared.hop.Hop.{Hop}
use Rattle.fr_tables.specs.declared.hop.Hop.TheVariants.{Here, To, CutOff}
use Rattle.std.specs.List.{count_by}
use Rattle.fr_route.proofs.Changing.{joined_nodes, made_nodes}
use Rattle.fr_route.proofs.CutNodes.{hops_cut_count}
use Rattle.fr_route.proofs.FirstFaults.{faultless_or_fault}
use Rattle.fr_route.proofs.NodeWays.{cut_without, nearest_route_exists, node_ways_exist, ways_below_exist}
use Rattle.fr_route.proofs.Routing.{route_end, route_path}
use Rattle.fr_route.proofs.TablePushes.{from_or_fault}
use Rattle.fr_route.specs.Pushing.{padded}
use Rattle.fr_route.proofs.RoundEnds.{capped_cut_off, hop_leads_on, round_within, still_cut_off}
use Rattle.fr_graph.proofs.Neighbours.{cases_joins, cases_points}

-- the state after a round on a network whose links can be changed
pub record IsSettledState (s : State) : Type 0 where
  pub first : List (ℕ × ℕ)
  pub net : IsNet s.nodes first
  pub dest : s.dest < s.nodes
  pub round : IsRound s.nodes s.dest first s
  pub faultless : IsFaultless s.nodes s.links

-- no state, or the state after a round
abbrev pub IsReached : Option State → Type 0
IsReached None = Unit {0}
IsReached (Some s) = IsSettledState s

-- faultless links make a network, and in order they are faultless, too
made_network : (n : ℕ) (listed : List (ℕ × ℕ)) → IsFaultless n listed
    → IsNetworkOf n listed (net_of n listed) × IsFaultless n (in_order listed)
made_network n listed clear =
    let same = in_order_permutes listed in
    let sorted = permuted_net n listed (in_order listed) same clear.is_net in (
      record { is = refl; same_links = same; faultless = clear },
      faultless_sorted n listed (in_order listed) same sorted.acyclic clear,
    )

-- each round ends
settled_state : (n d : ℕ) (first : List (ℕ × ℕ)) → IsFaultless n first → d < n
    → (s : State) × IsRound n d first s × IsSettledState s
settled_state n d first clear below =
    let made = settled_exists n d first clear.is_net below in
    let listed : List (ℕ × ℕ) = links_at first made.0 in
    let turned : IsFaultless n listed =
    turned_faultless n first made.0 (settled_lawful n d first clear.is_net below made.0 made.1).kept clear in
    let s : State = record { nodes = n; dest = d; links = in_order listed; counts = made.0 } in
    let round : IsRound n d first s = record { nodes = refl; dest = refl; counts = made.1; links = refl } in (
      s,
      round,
      record {
        first = first;
        net = clear.is_net;
        dest = below;
        round = round;
        faultless = (made_network n listed turned).1;
      },
    )

module _ (s : State) (good : IsSettledState s) where
  -- each node has a hop
  hop_of : (x : ℕ) → (hop : Hop) × IsHop s x hop
  hop_of x = ⊎_elim
      (λ e. (Here, e))
      (λ apart. ⊎_elim
      (λ capped. (CutOff, capped_cut_off s.nodes s.dest good.first s good.net good.dest good.round x apart capped))
      (λ free. ⊎_elim
      (λ f. (
        To f.0,
        hop_leads_on s.nodes s.dest good.first s good.net good.dest good.round x f.0 apart free (record {
          link = f.2;
          least = f.3;
        }),
      ))
      (λ none. (
        CutOff,
        still_cut_off s.nodes s.dest good.first s good.net good.dest good.round x apart
            (λ w p. none w (link_below s.nodes s.links x w good.faultless.is_net p).1 p),
      ))
      (cases_below (Points s.links x) (cases_points s.links x) s.nodes))
      (cases_eq (slice_index s.counts x) s.nodes))
      (cases_eq x s.dest)

  pub hops_from : ℕ → ℕ → List Hop
  hops_from zero a = []
  hops_from (suc k) a = (hop_of a).0 ∷ hops_from k (suc a)

  long_from : (k a : ℕ) → length (hops_from k a) ≡ k
  unfolding hops_from
  long_from zero a = refl
  long_from (suc k) a = ap suc (long_from k (suc a))

  each_from : (k a x : ℕ) (hop : Hop) → slice_get (hops_from k a) x ≡ Some hop → IsHop s (a + x) hop
  unfolding hops_from
  each_from zero a x hop e = let no : ⊥ = cc in absurd no
  each_from (suc k) a zero hop e =
      let same : (hop_of a).0 ≡ hop = cc in
      let at : a ≡ a + 0 = omega arith in
      subst (λ (h : Hop). IsHop s (a + 0) h) same (subst (λ (y : ℕ). IsHop s y (hop_of a).0) at (hop_of a).1)
  each_from (suc k) a (suc x) hop e =
      let at : suc a + x ≡ a + suc x = omega arith in
      subst (λ (y : ℕ). IsHop s y hop) at (each_from k (suc a) x hop e)

  pub hops : AreHops s s.nodes (hops_from s.nodes 0)
  hops = record {
    one_each = long_from s.nodes 0;
    each = λ x hop e. let at : 0 + x ≡ x = omega arith in
        subst (λ (y : ℕ). IsHop s y hop) at (each_from s.nodes 0 x hop e);
  }

  report_line : (text : List ℕ) × IsReportLine s text
  report_line =
      let cut = count_by is_cut_off (hops_from s.nodes 0) in
      let report : IsReport s (sum s.counts) cut = record {
        turns = refl;
        cut_off = hops_cut_count s s.nodes (hops_from s.nodes 0) hops;
        most = round_within s (sum s.counts) refl;
      } in
      (report_text (sum s.counts) cut, (sum s.counts, cut, report, refl))

  hops_line : (text : List ℕ) × IsHopsLine s text
  hops_line = (hops_text (hops_from s.nodes 0), (hops_from s.nodes 0, hops, refl))

  walk_by : (x : ℕ) (hop : Hop) → IsHop s x hop → (text : List ℕ) × IsWalkLine s x text
  walk_by x Here h = (walk_text (x ∷ []), inl ([], h, refl))
  walk_by x (To y) h = (walk_text (x ∷ y ∷ h.0), inl (y ∷ h.0, h.1, refl))
  walk_by x CutOff h = (no_walk_text x, inr (h, refl))

  walk_line : (x : ℕ) → (text : List ℕ) × IsWalkLine s x text
  walk_line x = let hop = hop_of x in walk_by x hop.0 hop.1

abbrev HasAnswer : Option State → PlainRequest → Type 0
HasAnswer s r = (text : List ℕ) × (next : Option State) × IsAnswer s r text next × IsReached next

network_answer : (s : Option State) → IsReached s → (n d : ℕ) (links : List (ℕ × ℕ))
    → HasAnswer s (new_network n d links)
network_answer s reached n d links = ⊎_elim
    (λ clear. ⊎_elim
    (λ below.
    let new = settled_state n d links clear below in
    let line = report_line new.0 new.2 in
    (line.0, Some new.0, inr (inl (new.0, (clear, below, new.1), line.1, refl)), new.2))
    (λ past. (refusal_text 4, s, inl (4, inr (clear, past, refl), refl, refl), reached))
    (cases_lt d n))
    (λ f. (refusal_text (fault_number f.0), s, inl (fault_number f.0, inl (f.0, f.1, refl), refl, refl), reached))
    (faultless_or_fault n links)

cut_answer : (s : State) → IsSettledState s → (u v : ℕ) → HasAnswer (Some s) (cut_link u v)
cut_answer s good u v = ⊎_elim
    (λ joined.
    let new =
    settled_state s.nodes s.dest (without u v s.links) (faultless_cut s.nodes s.links u v good.faultless) good.dest in
    let line = report_line new.0 new.2 in
    (line.0, Some new.0, inr (inl (new.0, (joined, new.1), line.1, refl)), new.2))
    (λ none. (
      refusal_text (fault_number NoLink),
      Some s,
      inl (fault_number NoLink, (NoLink, none, refl), refl, refl),
      good,
    ))
    (cases_joins s.links u v)

add_answer : (s : State) → IsSettledState s → (u v : ℕ) → HasAnswer (Some s) (add_link u v)
add_answer s good u v = ⊎_elim
    (λ clear.
    let new = settled_state s.nodes s.dest (s.links ++ (u, v) ∷ []) clear good.dest in
    let line = report_line new.0 new.2 in
    (line.0, Some new.0, inr (inl (new.0, (clear, new.1), line.1, refl)), new.2))
    (λ f. (refusal_text (fault_number f.0), Some s, inl (fault_number f.0, (f.0, f.1, refl), refl, refl), good))
    (faultless_or_fault s.nodes (s.links ++ (u, v) ∷ []))

-- two nodes can be joined in one of the two directions, or there is a fault
abbrev IsJoinable : ℕ → List (ℕ × ℕ) → ℕ → ℕ → Type 0
IsJoinable n links u v =
    ((net : Network) × IsJoined n links u v net × IsFaultless net.nodes net.links)
    ⊎ ((fault : NetFault) × IsJoinFault n links u v fault)

joined_back : (n : ℕ) (links : List (ℕ × ℕ)) (u v : ℕ) → IsFaultless n links → (fault : NetFault)
    → IsFirstFault n (links ++ (u, v) ∷ []) fault → IsJoinable n links u v
joined_back n links u v clear TooMany h = inr (TooMany, h)
joined_back n links u v clear (Range x) h = inr (Range x, h)
joined_back n links u v clear (SelfLink x) h = inr (SelfLink x, h)
joined_back n links u v clear (Twice x y) h = inr (Twice x y, h)
joined_back n links u v clear (Cycle walk) h =
    let cyclic : ¬ IsAcyclic (links ++ (u, v) ∷ []) =
    λ acyclic. no_cycle_stands (links ++ (u, v) ∷ []) walk.items acyclic h.4 in
    let made =
    made_network n (links ++ (v, u) ∷ []) (faultless_turned n links u v clear.is_net.acyclic h.0 h.1 h.2 h.3 cyclic) in
    inl (net_of n (links ++ (v, u) ∷ []), inr (cyclic, made.0), made.1)
joined_back n links u v clear NoLink h = inr (NoLink, h)
joined_back n links u v clear Memory h = inr (Memory, h)

joined_or_fault : (n : ℕ) (links : List (ℕ × ℕ)) (u v : ℕ) → IsFaultless n links → IsJoinable n links u v
joined_or_fault n links u v clear = ⊎_elim
    (λ added.
    let made = made_network n (links ++ (u, v) ∷ []) added in
    inl (net_of n (links ++ (u, v) ∷ []), inl made.0, made.1))
    (λ f. joined_back n links u v clear f.0 f.1)
    (faultless_or_fault n (links ++ (u, v) ∷ []))

join_answer : (s : State) → IsSettledState s → (u v : ℕ) → HasAnswer (Some s) (join_nodes u v)
join_answer s good u v = ⊎_elim
    (λ joined.
    let nodes : joined.0.nodes ≡ s.nodes = joined_nodes s.nodes s.links u v joined.0 joined.1 in
    let new = settled_state joined.0.nodes s.dest joined.0.links joined.2 (omega (arith, nodes, good.dest)) in
    let line = report_line new.0 new.2 in
    (line.0, Some new.0, inr (inl (new.0, (joined.0, (joined.1, new.1)), line.1, refl)), new.2))
    (λ f. (refusal_text (fault_number f.0), Some s, inl (fault_number f.0, (f.0, f.1, refl), refl, refl), good))
    (joined_or_fault s.nodes s.links u v good.faultless)

-- each edit is made, or refused for a fault
edit_made : (net : Network) → IsFaultless net.nodes net.links → (edit : Edit)
    → ((after : Network) × IsMade net edit after × IsFaultless after.nodes after.links)
    ⊎ ((fault : NetFault) × IsEditFault net edit fault)
edit_made net clear (Cut u v) = ⊎_elim
    (λ joined.
    let made = made_network net.nodes (without u v net.links) (faultless_cut net.nodes net.links u v clear) in
    inl (net_of net.nodes (without u v net.links), (joined, made.0), made.1))
    (λ none. inr (NoLink, none))
    (cases_joins net.links u v)
edit_made net clear (Add u v) = ⊎_elim
    (λ added.
    let made = made_network net.nodes (net.links ++ (u, v) ∷ []) added in
    inl (net_of net.nodes (net.links ++ (u, v) ∷ []), made.0, made.1))
    (λ f. inr f)
    (faultless_or_fault net.nodes (net.links ++ (u, v) ∷ []))
edit_made net clear (Join u v) = joined_or_fault net.nodes net.links u v clear

-- several edits are all made in order, or one is refused first
edits_made : (net : Network) → IsFaultless net.nodes net.links → (edits : List Edit)
    → ((after : Network) × AreMade net edits after × IsFaultless after.nodes after.links)
    ⊎ ((at : ℕ) × (fault : NetFault) × IsRefusedAt net edits at fault)
edits_made net clear [] = inl (net, refl, clear)
edits_made net clear (edit ∷ rest) = ⊎_elim
    (λ one. ⊎_elim
    (λ all. inl (all.0, (one.0, (one.1, all.1)), all.2))
    (λ r. inr (
      suc r.0,
      r.1,
      record {
        inside = omega (arith, r.2.inside);
        before = r.2.before;
        made =
            (one.0, (one.1, r.2.made));
        refused = λ d. r.2.refused d;
      },
    ))
    (edits_made one.0 one.2 rest))
    (λ f. inr (0, f.0, record { inside = omega arith; before = net; made = refl; refused = λ d. f.1 }))
    (edit_made net clear edit)

batch_answer : (s : State) → IsSettledState s → (edits : List Edit) → HasAnswer (Some s) (make_edits edits)
batch_answer s good edits = ⊎_elim
    (λ many.
    let refused : EditFault = record { at = most_edits; fault = TooMany } in (
      refusal_text (fault_number TooMany),
      Some s,
      inl (fault_number TooMany, (refused, inl (many, refl, refl), refl), refl, refl),
      good,
    ))
    (λ few. ⊎_elim
    (λ all.
    let nodes : all.0.nodes ≡ s.nodes = made_nodes (net_at s) edits all.0 all.1 in
    let new = settled_state all.0.nodes s.dest all.0.links all.2 (omega (arith, nodes, good.dest)) in
    let line = report_line new.0 new.2 in
    (line.0, Some new.0, inr (inl (new.0, (few, (all.0, (all.1, new.1))), line.1, refl)), new.2))
    (λ r.
    let refused : EditFault = record { at = r.0; fault = r.1 } in (
      refusal_text (fault_number r.1),
      Some s,
      inl (fault_number r.1, (refused, inr (few, r.2), refl), refl, refl),
      good,
    ))
    (edits_made (net_at s) good.faultless edits))
    (cases_lt most_edits (length edits))

dest_answer : (s : State) → IsSettledState s → (d : ℕ) → HasAnswer (Some s) (move_dest d)
dest_answer s good d = ⊎_elim
    (λ below.
    let new = settled_state s.nodes d s.links good.faultless below in
    let line = report_line new.0 new.2 in
    (line.0, Some new.0, inr (inl (new.0, (below, new.1), line.1, refl)), new.2))
    (λ past. (refusal_text 4, Some s, inl (4, (past, refl), refl, refl), good))
    (cases_lt d s.nodes)

walk_answer : (s : State) → IsSettledState s → (x : ℕ) → HasAnswer (Some s) (walk_from x)
walk_answer s good x = ⊎_elim
    (λ below. let line = walk_line s good x in (line.0, Some s, inr (inl (s, (below, refl), line.1, refl)), good))
    (λ past. (refusal_text 4, Some s, inl (4, (past, refl), refl, refl), good))
    (cases_lt x s.nodes)

-- which nodes have a path to the destination
pub decide : (s : State) → IsSettledState s → (w : ℕ) → HasPath s.links w s.dest ⊎ ¬ HasPath s.links w s.dest
decide s good w = elim ((walk_line s good w).1) [
  | inl route ↦ inl (route.0, (route_path s.links s.dest w route.0 route.1, route_end s.links s.dest w route.0 route.1))
  | inr cut ↦ inr (λ path. cut.0.1 (0, walk_from_path s.links s.dest w path.0 path.1.0 path.1.1))
]

ask_answer : (s : State) → IsSettledState s → (question : Question) → HasAnswer (Some s) (ask question)
ask_answer s good Links = (links_text s.links, Some s, inr (inl (s, refl, refl, refl)), good)
ask_answer s good Counts = (counts_text s.counts, Some s, inr (inl (s, refl, refl, refl)), good)
ask_answer s good Ways =
    let (table, are) = ways_below_exist s good.faultless.is_net.in_range (decide s good) s.nodes in
    (ways_text s.dest table, Some s, inr (inl (s, refl, (table, are, refl), refl)), good)
ask_answer s good Hops = let line = hops_line s good in (line.0, Some s, inr (inl (s, refl, line.1, refl)), good)

-- a node has one list of ways, and one nearest route if it has a path
node_text : (s : State) → IsSettledState s → (question : NodeQuestion) (x : ℕ)
    → (text : List ℕ) × IsText s (ask_node question x) text
node_text s good node.Ways x =
    let (list, are) = node_ways_exist s good.faultless.is_net.in_range (decide s good) x in
    (node_ways_text (x == s.dest) list, (list, are, refl))
node_text s good node.Nearest x = elim (decide s good x) [
  | inl path ↦
      let (rest, walk) = nearest_route_exists s good.faultless.is_net.in_range (decide s good) x path in
      (nearest_text (x ∷ rest), inl (rest, walk, refl))
  | inr none ↦ (no_nearest_text x, inr (cut_without s after x none, refl))
]
  where
    after : IsAfterRound s
    after = record { first = good.first; is_net = good.net; dest = good.dest; round = good.round }

node_answer : (s : State) → IsSettledState s → (question : NodeQuestion) (x : ℕ)
    → HasAnswer (Some s) (ask_node question x)
node_answer s good question x = ⊎_elim
    (λ below. let line = node_text s good question x in (
      line.0,
      Some s,
      inr (inl (s, (below, refl), line.1, refl)),
      good,
    ))
    (λ past. (refusal_text 4, Some s, inl (4, (past, refl), refl, refl), good))
    (cases_lt x s.nodes)

way_pushes_answer : (s : State) → IsSettledState s → (table : List (List ℕ)) → HasAnswer (Some s) (push_ways table)
way_pushes_answer s good table = elim (cases_lt most_nodes (length table)) [
  | inl long ↦ (refusal_text 9, Some s, inl (9, ([], inl (long, refl, refl)), refl, refl), good)
  | inr few ↦ elim (cases_lt s.nodes (length table)) [
    | inl past ↦
        (refusal_text 4, Some s, inl (4, (s.nodes ∷ [], inr (few, past, refl, refl)), refl, refl), good)
    | inr fits ↦
        let (wanted, are) = ways_below_exist s good.faultless.is_net.in_range (decide s good) s.nodes in (
          phases_text (shrinks table wanted) (growths table wanted),
          Some s,
          inr (inl (s, (few, fits, refl), (wanted, are, refl), refl)),
          good,
        )
  ]
]

tables_answer : (s : Option State) → IsReached s → (table : List Hop) (wanted : Option (List Hop))
    → HasAnswer s (order_pushes table wanted)
tables_answer s reached table (Some new) = elim (from_or_fault table (padded (max (length table) (length new)) new)) [
  | inl pushes ↦ (pushes_text pushes.0, s, inr (inr (pushes.0, pushes.1, refl, refl)), reached)
  | inr fault ↦ (refusal_text fault.0, s, inl (fault.0, (fault.1, fault.2), refl, refl), reached)
]
tables_answer None reached table None = (refusal_text 3, None, inl (3, ([], (refl, refl)), refl, refl), tt)
tables_answer (Some s) good table None = elim (from_or_fault table (hops_from s good s.nodes 0)) [
  | inl pushes ↦ (pushes_text pushes.0, Some s, inr (inr (pushes.0, (_, hops s good, pushes.1), refl, refl)), good)
  | inr fault ↦ (refusal_text fault.0, Some s, inl (fault.0, (fault.1, (_, hops s good, fault.2)), refl, refl), good)
]

each_answer : (s : Option State) → IsReached s → (r : PlainRequest) → HasAnswer s r
each_answer s reached (new_network n d links) = network_answer s reached n d links
each_answer s reached (order_pushes table wanted) = tables_answer s reached table wanted
each_answer None reached (cut_link u v) = (refusal_text 3, None, inl (3, refl, refl, refl), tt)
each_answer None reached (add_link u v) = (refusal_text 3, None, inl (3, refl, refl, refl), tt)
each_answer None reached (join_nodes u v) = (refusal_text 3, None, inl (3, refl, refl, refl), tt)
each_answer None reached (make_edits edits) = (refusal_text 3, None, inl (3, refl, refl, refl), tt)
each_answer None reached (move_dest d) = (refusal_text 3, None, inl (3, refl, refl, refl), tt)
each_answer None reached (walk_from x) = (refusal_text 3, None, inl (3, refl, refl, refl), tt)
each_answer None reached (ask question) = (refusal_text 3, None, inl (3, refl, refl, refl), tt)
each_answer None reached (ask_node question x) = (refusal_text 3, None, inl (3, refl, refl, refl), tt)
each_answer None reached (push_ways table) = (refusal_text 3, None, inl (3, refl, refl, refl), tt)
each_answer (Some s) good (cut_link u v) = cut_answer s good u v
each_answer (Some s) good (add_link u v) = add_answer s good u v
each_answer (Some s) good (join_nodes u v) = join_answer s good u v
each_answer (Some s) good (make_edits edits) = batch_answer s good edits
each_answer (Some s) good (move_dest d) = dest_answer s good d
each_answer (Some s) good (walk_from x) = walk_answer s good x
each_answer (Some s) good (ask question) = ask_answer s good question
each_answer (Some s) good (ask_node question x) = node_answer s good question x
each_answer (Some s) good (push_ways table) = way_pushes_answer s good table

abbrev pub HasLineAnswer : Option State → Result PlainRequest LineFault → Type 0
HasLineAnswer s line = (text : List ℕ) × (next : Option State) × IsLineAnswer s line text next × IsReached next

by_request : (s : Option State) → IsReached s → (r : Option PlainRequest) → HasLineAnswer s (ok_or r NotRequest)
by_request s reached None = (refusal_text 2, s, (refl, refl), reached)
by_request s reached (Some r) = each_answer s reached r

-- each line has an answer
pub each_line : (s : Option State) → IsReached s → (line : List ℕ) → HasLineAnswer s (reading line)
each_line s reached line = elim (value_of_line line) as (λ v. HasLineAnswer s (reading_of_value v)) [
  | None ↦ (refusal_text 1, s, (refl, refl), reached)
  | Some d ↦ by_request s reached (request_of d)
]
