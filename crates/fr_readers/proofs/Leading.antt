-- The push order from the hops of a session to those after a call.
use Rattle.std.proofs.Common.{List, Option, Some, None, ap, arith, get_or, inl, inr, le_refl, length, replicate}
use Rattle.std.proofs.Common.{subst, sym, ℕ, ⊎_elim, ◌+◌, ◌++◌, ◌-◌, ◌<◌, ◌≤◌, ◌∙◌, ◌≡◌, ◌⊎◌}
use Rattle.std.proofs.lemmas.Bool.{cases_lt}
use Rattle.std.proofs.lemmas.List.{ext_get_or, get_or_past, length-replicate, replicate-append-replicate}
use Rattle.std.proofs.lemmas.Option.{get_or_from_slice_get, slice_get-get_or, slice_get_within}
use Rattle.fr_graph.specs.Limits.{most_nodes}
use Rattle.fr_route.specs.Changes.{IsChanged}
use Rattle.fr_route.specs.Reroutes.{AreHopsIn, AreReplaced, AreRerouted, nodes_in}
use Rattle.fr_route.specs.Routes.{AreHops, IsHop}
use Rattle.fr_route.specs.States.{State, IsAfterRound, net_at}
use Rattle.fr_route.specs.declared.change.Change.{Change}
use Rattle.fr_route.specs.declared.change.Change.TheVariants.{Cut, Add, Join, Batch, Destination}
use Rattle.fr_route.proofs.Changing.{joined_nodes, made_nodes}
use Rattle.fr_route.proofs.Determined.{one_hop}
use Rattle.fr_route.proofs.PushLengths.{order_short}
use Rattle.fr_route.proofs.SettledHops.{outside_cut, settled_table}
use Rattle.fr_tables.specs.Pushes.{IsPushOrder}
use Rattle.fr_tables.specs.declared.hop.Hop.{Hop}
use Rattle.fr_tables.specs.declared.hop.Hop.TheVariants.{CutOff, Here}
use Rattle.fr_shared.specs.HopTables.{HopKnowledge, IsTable, last_hops, padded}
use Rattle.fr_shared.proofs.HopTables.{blank_is_table}
use Rattle.fr_shared.proofs.HopPadding.{padded_hop, padded_length, padded_order, padded_table}
use Rattle.fr_readers.specs.Published.{HasHopsOf}
use Rattle.fr_readers.specs.Publishing.{AreHopsOf, CanPublish, IsSettled, IsSettledSession, LeadsTo}

-- Hops of one session

pub length_in : (s : Option State) (n : ℕ) (hops : List Hop) → AreHopsIn s n hops → length hops ≡ n
length_in None n hops are = ap (λ (t : List Hop). length t) are ∙ length-replicate n CutOff
length_in (Some s) n hops are = are.one_each

pub same_hops : (s : Option State) (n : ℕ) (some other : List Hop) → AreHopsIn s n some → AreHopsIn s n other
    → some ≡ other
same_hops None n some other p q = p ∙ sym q
same_hops (Some s) n some other p q = ext_get_or Here some other (p.one_each ∙ sym q.one_each) (λ i low.
    let in_other : i < length other = omega (arith, low, p.one_each, q.one_each) in
    one_hop s i (get_or some i Here) (get_or other i Here)
    (p.each i (get_or some i Here) (slice_get-get_or some i Here low))
    (q.each i (get_or other i Here) (slice_get-get_or other i Here in_other)))

-- the numbers past the nodes are cut off
longer_are : (s : State) → IsAfterRound s → (c n : ℕ) (hops : List Hop) → s.nodes ≤ c → c ≤ n → AreHops s c hops
    → AreHops s n (padded n hops)
longer_are s after c n hops enough low are = record {
  one_each = padded_length n hops (omega (arith, are.one_each, low));
  each = λ x hop is.
      let inside : x < length (padded n hops) = slice_get_within (padded n hops) x hop is in
      let found : get_or hops x CutOff ≡ hop =
      sym (padded_hop n hops x inside) ∙ get_or_from_slice_get (padded n hops) x hop Here is in
      ⊎_elim
      (λ below. are.each x hop (slice_get-get_or hops x CutOff below ∙ ap Some found))
      (λ past. subst (IsHop s x) (sym (get_or_past hops x CutOff past) ∙ found)
      (outside_cut s after x (omega (arith, past, are.one_each, enough))))
      (cases_lt x (length hops));
}

pub longer_in : (s : Option State) → IsSettledSession s → (c : ℕ) (hops : List Hop) → nodes_in s ≤ c → c ≤ most_nodes
    → AreHopsIn s c hops
    → AreHopsIn s most_nodes (padded most_nodes hops)
longer_in None settled c hops enough low are =
    let long : length hops ≡ c = length_in None c hops are in
    let all : c + (most_nodes - length hops) ≡ most_nodes = omega (arith, long, low) in
    ap (λ (t : List Hop). t ++ replicate (most_nodes - length hops) CutOff) are
    ∙ (replicate-append-replicate c (most_nodes - length hops) CutOff ∙ ap (λ (k : ℕ). replicate k CutOff) all)
longer_in (Some s) settled c hops enough low are = longer_are s settled.after c most_nodes hops enough low are

-- the hops of the network, and numbers after them that are cut off
pub all_in : (s : Option State) → IsSettledSession s → (hops : List Hop) → AreHopsOf s hops
    → AreHopsIn s most_nodes (padded most_nodes hops)
all_in None settled hops are = longer_in None settled 0 hops (omega arith) (omega arith) are
all_in (Some s) settled hops are = longer_in (Some s) settled s.nodes hops (le_refl s.nodes) settled.few are

pub all_table : (s : Option State) → IsSettledSession s → (hops : List Hop) → AreHopsOf s hops
    → IsTable most_nodes (padded most_nodes hops)
all_table None settled hops are =
    subst (λ (t : List Hop). IsTable most_nodes (padded most_nodes t)) (sym are) (blank_is_table most_nodes)
all_table (Some s) settled hops are =
    let table = settled_table s s.nodes hops are settled.after (le_refl s.nodes) in
    padded_table s.nodes most_nodes hops (record {
      one_each = are.one_each;
      in_range = table.in_range;
      loop_free = table.loop_free;
    }) settled.few

-- From one session to another

-- the push order of their hops for the numbers below some number
pub record Leads (s t : Option State) (nodes : List ℕ) : Type 0 where
  pub count : ℕ
  pub before : List Hop
  pub after : List Hop
  pub enough : (nodes_in s ≤ count) × (nodes_in t ≤ count)
  pub few : count ≤ most_nodes
  pub were : AreHopsIn s count before
  pub are : AreHopsIn t count after
  pub order : IsPushOrder before after nodes

few_in : (s : Option State) → IsSettledSession s → nodes_in s ≤ most_nodes
few_in None settled = omega arith
few_in (Some s) settled = settled.few

pub replaced_leads : (s : Option State) (new : State) (nodes : List ℕ) → IsSettledSession s → IsSettled new
    → AreReplaced s new nodes
    → Leads s (Some new) nodes
replaced_leads s new nodes settled is r = record {
  count = r.count;
  before = r.before;
  after = r.after;
  enough = (omega (arith, r.all), omega (arith, r.all));
  few = omega (arith, r.all, few_in s settled, is.few);
  were = r.were;
  are = r.are;
  order = r.order;
}

pub rerouted_leads : (s new : State) (nodes : List ℕ) → IsSettled s → new.nodes ≡ s.nodes → AreRerouted s new nodes
    → Leads (Some s) (Some new) nodes
rerouted_leads s new nodes settled same r = record {
  count = s.nodes;
  before = r.before;
  after = r.after;
  enough = (le_refl s.nodes, omega (arith, same));
  few = settled.few;
  were = r.were;
  are = subst (λ (n : ℕ). AreHops new n r.after) same r.are;
  order = r.order;
}

-- a change does not change the number of nodes
pub changed_nodes : (s : State) (change : Change) (new : State) → IsChanged s change new → new.nodes ≡ s.nodes
changed_nodes s (Cut u v) new is = is.1.nodes
changed_nodes s (Add u v) new is = is.1.nodes
changed_nodes s (Join u v) new is = is.1.1.nodes ∙ joined_nodes s.nodes s.links u v is.0 is.1.0
changed_nodes s (Batch edits) new is = is.1.1.1.nodes ∙ made_nodes (net_at s) edits.items is.1.0 is.1.1.0
changed_nodes s (Destination d) new is = is.1.nodes

pub leads_to : (s t : Option State) → IsSettledSession s → IsSettledSession t → (k : HopKnowledge) → HasHopsOf s k
    → (nodes : List ℕ) → Leads s t nodes
    → LeadsTo k t nodes
leads_to s t settled settled' k has nodes l =
    let long : length l.before ≡ length l.after =
    length_in s l.count l.before l.were ∙ sym (length_in t l.count l.after l.are) in
    let old : padded most_nodes l.before ≡ last_hops k =
    same_hops s most_nodes (padded most_nodes l.before) (last_hops k)
    (longer_in s settled l.count l.before l.enough.0 l.few l.were) has.are in
    record {
      hops = padded most_nodes l.after;
      are = longer_in t settled' l.count l.after l.enough.1 l.few l.are;
      order = subst (λ (t : List Hop). IsPushOrder t (padded most_nodes l.after) nodes) old
          (padded_order most_nodes l.before l.after nodes long l.order);
    }

-- a call leaves the session unchanged, or the nodes lead to its new hops
pub can_publish : (s t : Option State) → IsSettledSession s → IsSettledSession t → (nodes : List ℕ)
    → (t ≡ s) ⊎ Leads s t nodes
    → (k : HopKnowledge) → HasHopsOf s k → CanPublish k t nodes
can_publish s t settled settled' nodes by k has = record {
  largest = has.largest;
  can = ⊎_elim
      (λ same. inl (subst (λ (u : Option State). AreHopsIn u most_nodes (last_hops k)) (sym same) has.are))
      (λ l. inr (leads_to s t settled settled' k has nodes l)) by;
}

-- no more nodes are rerouted than there are
pub rerouted_short : (s : State) (change : Change) (next : State) (nodes : List ℕ) → IsChanged s change next
    → AreRerouted s next nodes
    → length nodes ≤ s.nodes
rerouted_short s change next nodes changed is =
    let same = changed_nodes s change next changed in
    omega (
      arith,
      order_short is.before is.after nodes (is.were.one_each ∙ sym (is.are.one_each ∙ same)) is.order,
      is.are.one_each,
      same,
    )
