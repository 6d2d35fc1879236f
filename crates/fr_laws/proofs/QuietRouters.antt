-- Where nothing more happens, no router can turn, so the announcements are the settled counts.
use Rattle.std.proofs.Common.{List, ap, arith, inl, inr, refl, replicate, slice_index, subst, sym, true, ℕ, ⊎_elim}
use Rattle.std.proofs.Common.{◌<◌, ◌≡◌, ◌⊎◌, ◌∙◌}
use Rattle.fr_core.proofs.Settling.{settled_from_none}
use Rattle.fr_core.proofs.Unique.{settled_unique}
use Rattle.fr_core.specs.History.{moment_of}
use Rattle.fr_core.specs.Legal.{NoneCanTurn}
use Rattle.fr_graph.proofs.Linking.{link_below}
use Rattle.fr_graph.proofs.TurnedLinks.{net_turned}
use Rattle.fr_graph.specs.Counts.{links_at}
use Rattle.fr_graph.specs.Links.{IsNet, Joins}
use Rattle.fr_graph.specs.Turn.{IsSink}
use Rattle.fr_node.proofs.Arrivals.{has_way, lower}
use Rattle.fr_node.specs.Arrivals.{IsQuiet, IsTold, SendsTo}
use Rattle.fr_laws.proofs.AnnouncementRuns.{LeadTo, count_is, whole}
use Rattle.fr_laws.proofs.NetworkSteps.{not_both}
use Rattle.fr_laws.specs.Announcements.{Configuration, IsLower, IsNetwork, QuietRoutersAreSettled, announcements}
use Rattle.fr_laws.specs.Announcements.{height, last}

module _ (n d : ℕ) (links : List (ℕ × ℕ)) (s : Configuration) (is : IsNetwork n d links s)
    (quiet : IsQuiet n s.node) where
  used : (x : ℕ) → x < n → (s.node x).own.used ≡ height s.node x
  used x inside = ⊎_elim
      (λ gateway. (is.router x inside).used ((is.router x inside).gateway.0 gateway))
      (λ still. still.may.settled)
      (quiet.still x inside)

  -- a way leads to a lower router
  leads_down : (x w : ℕ) → x < n → SendsTo (s.node x) w → Joins links x w × IsLower s.node w x
  leads_down x w inside (l, listed, way, leads) = subst (λ (v : ℕ). Joins links x v × IsLower s.node v x) leads
      ((is.linked.up x l.neighbour inside).0 (l, listed, below.0, refl), ⊎_elim less even below.1)
    where
      below : (l.up ≡ true) × ((l.seen < (s.node x).own.used) ⊎ ((l.seen ≡ (s.node x).own.used)
          × (l.neighbour < (s.node x).own.me)))
      below = lower (s.node x).own l way

      told : IsTold n s.node x l
      told = quiet.told x l inside listed below.0

      now : l.seen ≡ height s.node l.neighbour
      now = told.seen ∙ used l.neighbour told.within

      less : l.seen < (s.node x).own.used → IsLower s.node l.neighbour x
      less h = inl (omega (arith, h, now, used x inside))

      even : (l.seen ≡ (s.node x).own.used) × (l.neighbour < (s.node x).own.me) → IsLower s.node l.neighbour x
      even h = inr (sym now ∙ h.0 ∙ used x inside, omega (arith, h.1, quiet.me x inside))

  no_sink : (x : ℕ) → x < n → ¬ (x ≡ d) → ¬ IsSink links x
  no_sink x inside apart sink = ⊎_elim
      (λ gateway. apart ((is.router x inside).gateway.0 gateway))
      (λ still. let way = has_way n s.node quiet x inside still sink.0.0
      ((is.linked.up x sink.0.0 inside).1 (inr sink.0.1)) in
      out way.0 (leads_down x way.0 inside way.1))
      (quiet.still x inside)
    where
      out : (w : ℕ) → Joins links x w × IsLower s.node w x → ⊥
      out w (inl along, below) = sink.1 w along
      out w (inr against, below) = not_both s.node x w (is.linked.down w x against) below

pub quiet_routers_are_settled : QuietRoutersAreSettled
quiet_routers_are_settled n d first settled s ps x net ends is steps quiet inside =
    count_is n d first net s is ps steps x inside ∙ ap (λ (counts : List ℕ). slice_index counts x) same
  where
    all : LeadTo n d first s (replicate n 0) (announcements s s ps) (last s ps)
    all = whole n d first net s is ps steps

    links_net : IsNet n (links_at first all.counts)
    links_net = net_turned n first all.counts all.lawful.kept net.is_net

    none : NoneCanTurn n d (moment_of first all.counts)
    none y can = no_sink n d (links_at first all.counts) (last s ps) all.network quiet y
        (link_below n (links_at first all.counts) can.sink.0.0 y links_net can.sink.0.1).1 can.not_destination can.sink

    same : all.counts ≡ settled
    same = settled_unique n d first all.counts settled
        (settled_from_none n d first net.is_net net.dest all.counts all.lawful none) ends
