-- A walk under way, and what one look makes of it.
use Rattle.std.proofs.Common.{◌≡◌, ◌≢◌, ◌∙◌, ◌++◌, ◌+◌, ◌<◌, ◌∷◌, [], ℕ, List, ap, arith, inl, inr, length}
use Rattle.std.proofs.Common.{length-append, refl, subst, sym, ⊎_elim}
use Rattle.std.specs.List.{AllByRecursion as Each, flat_map}
use Rattle.std.specs.Prelude.{Err, IfErr, Ok, Result}
use Rattle.std.specs.Result.{IsErrAnd}
use Rattle.std.proofs.lemmas.List.{append-nil, append_assoc}
use Rattle.std.proofs.lemmas.Grind.{flat_map-append}
use Rattle.fr_graph.specs.Links.{IsNet, Points}
use Rattle.fr_graph.specs.Rows.{row}
use Rattle.fr_graph.proofs.Giving.{Points-links_at_from}
use Rattle.fr_graph.proofs.Linking.{link_below}
use Rattle.fr_graph.proofs.Neighbours.{row_linked}
use Rattle.fr_core.specs.History.{part}
use Rattle.fr_core.specs.Replies.{IsReplyToLook}
use Rattle.fr_core.specs.Targets.{IsLookable}
use Rattle.fr_core.specs.declared.entry.Entry.{Entry}
use Rattle.fr_core.specs.declared.entry.Reply.{Reply}
use Rattle.fr_core.specs.declared.entry.Reply.TheVariants.{Held, Moved, Sink}
use Rattle.fr_core.proofs.Rounds.{run_parts}
use Rattle.fr_round.specs.declared.faults.Refusal.{Refusal}
use Rattle.fr_round.specs.declared.faults.Refusal.TheVariants.{Alone, Destination, NoNode}
use Rattle.fr_round.specs.declared.view.Setup.{Setup}
use Rattle.fr_round.specs.Histories.{IsHistory, StartsWith, entry, moment, start}
use Rattle.fr_round.specs.Knowledge.{IsKnowledge, KeepsWorker, Knowledge, LearnsReply, RefusesLook}
use Rattle.fr_round.specs.Steps.{Extends}
use Rattle.fr_round.proofs.Entries.{lawful_after}
use Rattle.fr_round.proofs.StepsKeepTheRule.{each_snoc}
use Rattle.fr_crew.specs.LiveWalks.{AreLooksFrom, FindsNoSink, HasWalked, hop_of, node_after, trail}
use Rattle.fr_crew.specs.declared.live_walks.LiveEnd.TheVariants.{AtSink}
use Rattle.fr_crew.specs.declared.live_walks.LiveFault.{LiveFault}
use Rattle.fr_crew.specs.declared.live_walks.LiveFault.TheVariants.{Memory}

-- where a walk from x stands after these looks
abbrev stands_after : ℕ → List Entry → ℕ
stands_after x [] = x
stands_after x (e ∷ es) = stands_after (node_after x e.reply) es

stands_after-push : (x : ℕ) (es : List Entry) (e : Entry)
    → stands_after x (es ++ e ∷ []) ≡ node_after (stands_after x es) e.reply
stands_after-push x [] e = refl
stands_after-push x (f ∷ es) e = stands_after-push (node_after x f.reply) es e

-- one look more, where none so far found a sink
looks_more : (d x : ℕ) (es : List Entry) (e : Entry) → AreLooksFrom d x es → Each FindsNoSink es
    → e.node ≡ stands_after x es → stands_after x es ≢ d → IsReplyToLook e.reply → AreLooksFrom d x (es ++ e ∷ [])
looks_more d x [] e along none at other kind = (at, other, kind, (λ _. refl), tt)
looks_more d x (f ∷ es) e along none at other kind = (
  along.0,
  along.1,
  along.2,
  (λ sink. absurd (none.0 sink)),
  looks_more d (node_after x f.reply) es e along.4 none.1 at other kind,
)

trail-push : (x : ℕ) (es : List Entry) (e : Entry) → trail x (es ++ e ∷ []) ≡ trail x es ++ hop_of e.reply
trail-push x es e = ap (λ (l : List ℕ). x ∷ l) (flat_map-append (λ (f : Entry). hop_of f.reply) es (e ∷ [])
    ∙ ap (λ (l : List ℕ). flat_map (λ (f : Entry). hop_of f.reply) es ++ l) (append-nil (hop_of e.reply)))

-- a walk from x after so many looks: it stands at the last of its nodes
pub record IsWalking (old now : Knowledge) (d x made : ℕ) (nodes : List ℕ) (here : ℕ) : Type 0 where
  pub keeps : KeepsWorker old now
  pub looks : List Entry
  pub begins : StartsWith now.known old.known
  pub own : part old.number now.known ≡ part old.number old.known ++ looks
  pub along : AreLooksFrom d x looks
  pub no_sink : Each FindsNoSink looks
  pub stands : stands_after x looks ≡ here
  pub count : length looks ≡ made
  pub nodes_are : nodes ≡ trail x looks
  pub front : List ℕ
  pub parted : nodes ≡ front ++ here ∷ []
  pub known : IsKnowledge now

pub walk_begins : (old : Knowledge) (d x : ℕ) (nodes : List ℕ) → nodes ≡ x ∷ [] → IsKnowledge old
    → IsWalking old old d x 0 nodes x
walk_begins old d x nodes is known = record {
  keeps = record { table = refl; setup = refl; number = refl; seen = λ z. omega arith };
  looks = [];
  begins = ([], sym (append-nil old.known));
  own = sym (append-nil (part old.number old.known));
  along = tt;
  no_sink = tt;
  stands = refl;
  count = refl;
  nodes_are = is;
  front = [];
  parted = is;
  known = known;
}

-- what one look leaves of what the worker knew
pub record HasLooked (now next : Knowledge) (here : ℕ) (reply : Reply) : Type 0 where
  pub keeps : KeepsWorker now next
  pub learns : LearnsReply now here reply next
  pub kind : IsReplyToLook reply

module _ (old now next : Knowledge) (d x made : ℕ) (nodes : List ℕ) (here : ℕ)
    (w : IsWalking old now d x made nodes here)
    (reply : Reply) (looked : HasLooked now next here reply) where
  begins_on : StartsWith next.known old.known
  begins_on =
      let e = entry now.number here reply in
      let h = looked.learns.history in (
        w.begins.0 ++ (h.between ++ e ∷ []),
        h.begins
            ∙ (append_assoc now.known h.between (e ∷ [])
            ∙ (ap (λ (l : List Entry). l ++ (h.between ++ e ∷ [])) w.begins.1
            ∙ append_assoc old.known w.begins.0 (h.between ++ e ∷ []))),
      )

  own_more : part old.number next.known ≡ part old.number old.known ++ (w.looks ++ entry now.number here reply ∷ [])
  own_more =
      let e = entry now.number here reply in
      subst (λ (k : ℕ). part k next.known ≡ part k now.known ++ e ∷ []) w.keeps.number looked.learns.history.own
      ∙ (ap (λ (l : List Entry). l ++ e ∷ []) w.own ∙ append_assoc (part old.number old.known) w.looks (e ∷ []))

  pub keeps_after : KeepsWorker old next
  keeps_after = record {
    table = looked.keeps.table ∙ w.keeps.table;
    setup = looked.keeps.setup ∙ w.keeps.setup;
    number = looked.keeps.number ∙ w.keeps.number;
    seen = λ z. omega (arith, w.keeps.seen z, looked.keeps.seen z);
  }

  length_more : length (w.looks ++ entry now.number here reply ∷ []) ≡ made + 1
  length_more = omega (arith, length-append w.looks (entry now.number here reply ∷ []), w.count)

  along_more : here ≢ d → AreLooksFrom d x (w.looks ++ entry now.number here reply ∷ [])
  along_more other =
      looks_more d x w.looks (entry now.number here reply) w.along w.no_sink (sym w.stands) (λ e. other (sym w.stands
      ∙ e)) looked.kind

  -- the walk goes on, after a look that found no sink
  pub walks_on : (more : List ℕ) (front : List ℕ) → here ≢ d → reply ≢ Sink → more ≡ nodes ++ hop_of reply
      → more ≡ front ++ node_after here reply ∷ [] → IsWalking old next d x (made + 1) more (node_after here reply)
  walks_on more front other none is parted = record {
    keeps = keeps_after;
    looks = w.looks ++ entry now.number here reply ∷ [];
    begins = begins_on;
    own = own_more;
    along = along_more other;
    no_sink = each_snoc FindsNoSink w.looks (entry now.number here reply) w.no_sink none;
    stands = stands_after-push x w.looks (entry now.number here reply) ∙ ap (λ (y : ℕ). node_after y reply) w.stands;
    count = length_more;
    nodes_are =
        is ∙ (ap (λ (l : List ℕ). l ++ hop_of reply) w.nodes_are
        ∙ sym (trail-push x w.looks (entry now.number here reply)));
    front = front;
    parted = parted;
    known = looked.learns.known;
  }

-- it hops, or it stays
pub walks_held : (old now next : Knowledge) (d x made : ℕ) (nodes : List ℕ) (here : ℕ)
    → IsWalking old now d x made nodes here → (by : ℕ) → HasLooked now next here (Held by) → here ≢ d
    → (more : List ℕ) → more ≡ nodes ++ by ∷ [] → IsWalking old next d x (made + 1) more by
walks_held old now next d x made nodes here w by looked other more is = walks_on old now next d x made nodes here w
    (Held by) looked more nodes other (held_is_no_sink by) is is
  where
    held_is_no_sink : (k : ℕ) → ◌≢◌ {A = Reply} (Held k) Sink
    held_is_no_sink k e = cc

pub walks_moved : (old now next : Knowledge) (d x made : ℕ) (nodes : List ℕ) (here : ℕ)
    → IsWalking old now d x made nodes here → (had k : ℕ) → HasLooked now next here (Moved had k) → here ≢ d
    → IsWalking old next d x (made + 1) nodes here
walks_moved old now next d x made nodes here w had k looked other = walks_on old now next d x made nodes here w
    (Moved had k) looked nodes w.front other (moved_is_no_sink had k) (sym (append-nil nodes)) w.parted
  where
    moved_is_no_sink : (h j : ℕ) → ◌≢◌ {A = Reply} (Moved h j) Sink
    moved_is_no_sink h j e = cc

-- a walk that ends at a sink
pub ends_at_sink : (old now next : Knowledge) (d x made limit : ℕ) (nodes : List ℕ) (here : ℕ)
    → IsWalking old now d x made nodes here → HasLooked now next here Sink → here ≢ d → made < limit
    → HasWalked old next d x limit nodes AtSink
ends_at_sink old now next d x made limit nodes here w looked other few = record {
  looks = w.looks ++ entry now.number here Sink ∷ [];
  begins = begins_on old now next d x made nodes here w Sink looked;
  own = own_more old now next d x made nodes here w Sink looked;
  along = along_more old now next d x made nodes here w Sink looked other;
  few = omega (arith, length_more old now next d x made nodes here w Sink looked, few);
  nodes_are =
      w.nodes_are ∙ (sym (append-nil (trail x w.looks)) ∙ sym (trail-push x w.looks (entry now.number here Sink)));
  front = w.front;
  last = here;
  parted = w.parted;
  ends = (w.looks, entry now.number here Sink, refl, refl, refl);
  known = looked.learns.known;
}

-- the neighbour that holds a node has a link, and can be looked at
pub held_lookable : (b : Setup) (k x w : ℕ) (known known' : List Entry) → IsNet b.nodes b.links
    → Extends b k known (entry k x (Held w)) known' → IsLookable b.nodes b.links w
held_lookable b k x w known known' net h =
    let before : List Entry = known ++ h.between in
    let parts =
    run_parts b.nodes b.dest (start b) before (entry k x (Held w) ∷ []) (subst (IsHistory b) h.begins h.run) in
    let at = lawful_after b before net parts.0 in
    let points = subst (λ (ls : List (ℕ × ℕ)). Points ls x w) at.links parts.1.0.1 in
    ⊎_elim
    (λ f. record { inside = (link_below b.nodes b.links x w net f.0).1; linked = (x, inr f.0) })
    (λ f. record { inside = (link_below b.nodes b.links w x net f.0).0; linked = (x, inl f.0) })
    (Points-links_at_from b.links (moment b before).counts x w points)

-- no look at such a node is refused
pub look_not_refused : (b : Setup) (x : ℕ) (r : Refusal) → IsLookable b.nodes b.links x → RefusesLook b x r → ⊥
look_not_refused b x NoNode is refused = absurd (omega (arith, is.inside, refused))
look_not_refused b x Destination is refused = refused
look_not_refused b x Alone is refused = refused.1 is.linked.0 is.linked.1

-- a node of the round's network that has a degree can be looked at
pub lookable_in : (b : Setup) (n : ℕ) (links : List (ℕ × ℕ)) (x degree : ℕ) → n ≡ b.nodes → links ≡ b.links → x < n
    → degree ≡ length (row n links x) → ¬ (degree ≡ 0) → IsLookable b.nodes b.links x
lookable_in b n links x degree nodes same inside is some =
    subst (λ (p : ℕ × List (ℕ × ℕ)). IsLookable p.0 p.1 x) (λ k. (nodes k, same k))
    (record { inside = inside; linked = row_linked n links x (omega (arith, some, is)) })

-- where the fault of a `?` is want of memory
pub if_memory : {A : Type 0} (P : LiveFault → Type 0) (r : Result A LiveFault) → IsErrAnd r (λ fault. fault ≡ Memory)
    → P Memory → IfErr r P
if_memory P (Ok a) h p = tt
if_memory P (Err fault) h p = subst P (sym h) p
