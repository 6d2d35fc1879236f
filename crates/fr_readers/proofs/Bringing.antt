-- A table that has the hops of a session, and what pushes make of it.
use Rattle.std.proofs.Common.{List, Option, Some, None, IfSome, [], ap, append-nil, arith, inl, inr, length, refl}
use Rattle.std.proofs.Common.{replicate}
use Rattle.std.proofs.Common.{slice_get, subst, sym, ℕ, ⊎_elim, ◌++◌, ◌∙◌, ◌∷◌, ◌≡◌, Contains}
use Rattle.std.proofs.lemmas.Option.{none-some}
use Rattle.fr_graph.specs.Limits.{most_nodes}
use Rattle.fr_route.specs.Reroutes.{AreHopsIn}
use Rattle.fr_route.specs.States.{State}
use Rattle.fr_tables.specs.Pushes.{IsPushOrder}
use Rattle.fr_tables.specs.declared.hop.Hop.{Hop}
use Rattle.fr_tables.specs.declared.hop.Hop.TheVariants.{CutOff}
use Rattle.fr_tables.proofs.Orders.{ends_as_new, starts_as_old}
use Rattle.fr_shared.specs.declared.view.Push.{Push}
use Rattle.fr_shared.specs.Histories.{IsHistory, table_of}
use Rattle.fr_shared.specs.HopTables.{HopKnowledge, hop_codec, last_hops, padded, pushes_of}
use Rattle.fr_shared.proofs.Histories.{last_is_table}
use Rattle.fr_readers.specs.Published.{HasHopsOf}
use Rattle.fr_readers.specs.Publishing.{AreHopsOf, ArePublished, CanPublish, HasHopAt, IsSettledSession, Publishes}
use Rattle.fr_readers.specs.Publishing.{PublishesIn}
use Rattle.fr_readers.proofs.Leading.{all_in, length_in, same_hops}

pub nothing_first : (nodes : List ℕ) → None ≡ slice_get nodes 0 → nodes ≡ []
nothing_first [] is = refl
nothing_first (x ∷ nodes) is = absurd (none-some x is)

-- the push order of equal tables has no node
none_differ : (table other : List Hop) (nodes : List ℕ) → table ≡ other → IsPushOrder table other nodes → nodes ≡ []
none_differ table other [] same is = refl
none_differ table other (x ∷ nodes) same is =
    absurd ((is.these x).0 (0, omega arith, refl) (ap (λ (t : List Hop). slice_get t x) same))

module _ (k : HopKnowledge) (s : Option State) (nodes : List ℕ) where
  pub has_already : k.nodes ≡ most_nodes → AreHopsIn s most_nodes (last_hops k) → Publishes k s nodes k
  has_already largest are = record { has = record { largest = largest; are = are }; by = inl refl }

  -- if there is no node to push, the table has the hops
  pub none_to_push : IsHistory hop_codec k.nodes k.known → CanPublish k s nodes → nodes ≡ []
      → AreHopsIn s most_nodes (last_hops k)
  none_to_push history can none = ⊎_elim (λ are. are) (λ l.
      let long : length (last_hops k) ≡ length l.hops =
      (last_is_table hop_codec k.nodes k.known history).one_each ∙ (can.largest
      ∙ sym (length_in s most_nodes l.hops l.are)) in
      let same : last_hops k ≡ l.hops = ends_as_new (last_hops k) l.hops [] (last_hops k) long
      (subst (IsPushOrder (last_hops k) l.hops) none l.order) (starts_as_old (last_hops k) l.hops) in
      subst (AreHopsIn s most_nodes) (sym same) l.are)
      can.can

  module _ (settled : IsSettledSession s) (hops : List Hop) (are : AreHopsOf s hops) where
    -- the table also has them if it has the hop of one of the nodes
    pub one_is_there : CanPublish k s nodes → (x : ℕ) → Contains nodes x
        → HasHopAt (last_hops k) (padded k.nodes hops) x
        → AreHopsIn s most_nodes (last_hops k)
    one_is_there can x found is = ⊎_elim (λ are_there. are_there) (λ l.
        let has = subst (λ (n : ℕ). HasHopAt (last_hops k) (padded n hops) x) can.largest is in
        let same : padded most_nodes hops ≡ l.hops =
        same_hops s most_nodes (padded most_nodes hops) l.hops (all_in s settled hops are) l.are in
        absurd ((l.order.these x).0 found (has ∙ ap (λ (t : List Hop). slice_get t x) same)))
        can.can

    -- otherwise the nodes lead to them
    pub leads_here : CanPublish k s nodes → (x : ℕ) → ¬ HasHopAt (last_hops k) (padded k.nodes hops) x
        → IsPushOrder (last_hops k) (padded most_nodes hops) nodes
    leads_here can x other = ⊎_elim
        (λ are_there. absurd (other (subst (λ (n : ℕ). HasHopAt (last_hops k) (padded n hops) x) (sym can.largest)
        (ap (λ (t : List Hop). slice_get t x)
        (same_hops s most_nodes (last_hops k) (padded most_nodes hops) are_there (all_in s settled hops are))))))
        (λ l. subst (λ (t : List Hop). IsPushOrder (last_hops k) t nodes)
        (same_hops s most_nodes l.hops (padded most_nodes hops) l.are (all_in s settled hops are)) l.order)
        can.can

    pub pushed : k.nodes ≡ most_nodes → IsPushOrder (last_hops k) (padded most_nodes hops) nodes → (k' : HopKnowledge)
        → k' ≡ record k { known = k.known ++ pushes_of (padded most_nodes hops) nodes }
        → last_hops k' ≡ padded most_nodes hops
        → Publishes k s nodes k'
    pushed largest order k' history table = record {
      has = record {
        largest = ap (λ (q : HopKnowledge). q.nodes) history ∙ largest;
        are = subst (AreHopsIn s most_nodes) (sym table) (all_in s settled hops are);
      };
      by = inr (record {
        leads = record { hops = padded most_nodes hops; are = all_in s settled hops are; order = order };
        pushed = history;
      });
    }

  -- a table that has the hops is unchanged
  left : HasHopsOf s k → (k' : HopKnowledge) → Publishes k s nodes k' → k' ≡ k
  left has k' p = ⊎_elim (λ same. same) (λ (a : ArePublished k s nodes k').
      let same : last_hops k ≡ a.leads.hops = same_hops s most_nodes (last_hops k) a.leads.hops has.are a.leads.are in
      let none : nodes ≡ [] = none_differ (last_hops k) a.leads.hops nodes same a.leads.order in
      a.pushed ∙ (ap (λ (list : List ℕ). record k { known = k.known ++ pushes_of a.leads.hops list }) none
      ∙ ap (λ (h : List (Push Hop)). record k { known = h }) (append-nil k.known)))
      p.by

pub left_in : (t : Option HopKnowledge) (s : Option State) (nodes : List ℕ) (t' : Option HopKnowledge)
    → IfSome t (HasHopsOf s)
    → PublishesIn t s nodes t' → t' ≡ t
left_in None s nodes t' has p = p
left_in (Some k) s nodes t' has p = p.1 ∙ ap Some (left k s nodes has p.0 p.2)

-- a table that was opened has the hops of a session without a network
pub opened_blank : (k : HopKnowledge) → k.nodes ≡ most_nodes → k.known ≡ [] → HasHopsOf None k
opened_blank k largest none = record {
  largest = largest;
  are = ap (λ (h : List (Push Hop)). table_of hop_codec k.nodes h) none ∙ ap (λ (n : ℕ). replicate n CutOff) largest;
}
