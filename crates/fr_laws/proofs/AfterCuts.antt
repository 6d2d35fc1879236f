-- The round after a link is cut: which nodes it leaves alone, and which paths are left.
use Rattle.std.proofs.Common.{[], List, ap, inl, inr, refl, subst, sym, ℕ, ⊎_elim}
use Rattle.std.proofs.Common.{◌∙◌, ◌∷◌, ◌≡◌, ◌≢◌, ◌⊎◌, ◌↔◌}
use Rattle.std.specs.Prelude.{IsTrue, not}
use Rattle.std.proofs.lemmas.Bool.{cases_Bool}
use Rattle.fr_graph.specs.Edits.{without}
use Rattle.fr_graph.specs.Links.{HasPath, IsAcyclic, IsNet, IsPath, Joins, Points, end_of, is_between}
use Rattle.fr_graph.proofs.AddedLinks.{path_joins}
use Rattle.fr_graph.proofs.Editing.{from_filter}
use Rattle.fr_graph.proofs.Linking.{joined_from, path_carries}
use Rattle.fr_graph.proofs.Lists.{filter_passes, into_filter}
use Rattle.fr_core.specs.Walks.{IsConnected}
use Rattle.fr_core.proofs.Joining.{joined_carries}
use Rattle.fr_route.specs.States.{State, IsAfterRound, IsCutOff, IsRound}
use Rattle.fr_route.specs.Routes.{IsHop, IsNextHop}
use Rattle.fr_route.specs.declared.change.Change.TheVariants.{Cut}
use Rattle.fr_tables.specs.declared.hop.Hop.TheVariants.{CutOff, To}
use Rattle.fr_route.proofs.RoundEnds.{round_joined}
use Rattle.fr_laws.specs.Locality.{EachGoesOver, GoesOver, HasTurned, IsAfterCut, IsSettledAnew, IsTail, KeepsHop}
use Rattle.fr_laws.proofs.ChangeRounds.{cut_net, here, moved_round}
use Rattle.fr_laws.proofs.TurnsAfter.{home, joined_on, joined_out, keeps_hop, path_still}
use Rattle.fr_laws.proofs.TurnsAfter.{leads_to, links_between, out_still, who_turns}

module _ (links : List (ℕ × ℕ)) (u v : ℕ) where
  left_was : (a b : ℕ) → Points (without u v links) a b → Points links a b
  left_was a b h = from_filter (λ l. not (is_between u v l)) links (a, b) h

  -- a link is the one that is cut, or is left
  cut_or_left : (a b : ℕ) → Points links a b → IsTrue (is_between u v (a, b)) ⊎ Points (without u v links) a b
  cut_or_left a b h = ⊎_elim inl
      (λ e. inr (into_filter (λ l. not (is_between u v l)) links (a, b) h (ap not e)))
      (cases_Bool (is_between u v (a, b)))

  left_not_cut : (a b : ℕ) → Points (without u v links) a b → ¬ IsTrue (is_between u v (a, b))
  left_not_cut a b h is =
      let passes = filter_passes (λ l. not (is_between u v l)) links (a, b) h in
      cc (passes, ap not is)

  left_or_over : (x : ℕ) (vs : List ℕ) → IsPath links x vs → IsPath (without u v links) x vs ⊎ GoesOver u v x vs
  left_or_over x [] path = inl tt
  left_or_over x (w ∷ ws) path = ⊎_elim (λ is. inr (inl is))
      (λ step. ⊎_elim (λ rest. inl (step, rest)) (λ over. inr (inr over)) (left_or_over w ws path.1))
      (cut_or_left x w path.0)

  left_not_over : (x : ℕ) (vs : List ℕ) → IsPath (without u v links) x vs → ¬ GoesOver u v x vs
  left_not_over x [] path over = over
  left_not_over x (w ∷ ws) path (inl is) = left_not_cut x w path.0 is
  left_not_over x (w ∷ ws) path (inr over) = left_not_over w ws path.1 over

  -- no path is left exactly if each went over the link that is cut
  none_left : (x d : ℕ) → ¬ HasPath (without u v links) x d ↔ EachGoesOver links u v x d
  none_left x d = (
    (λ none vs path ends. ⊎_elim (λ left. absurd (none (vs, (left, ends)))) (λ over. over) (left_or_over x vs path)),
    (λ each h.
        let was : IsPath links x h.0 = path_carries (without u v links) links left_was x h.0 h.1.0 in
        left_not_over x h.0 h.1.0 (each h.0 was h.1.1)),
  )

  module _ (acyclic : IsAcyclic links) (tail : ℕ) (at : IsTail links u v tail) where
    -- the link that is cut points from its tail alone
    is_tail : (a b : ℕ) → Points links a b → IsTrue (is_between u v (a, b)) → a ≡ tail
    is_tail a b h is = go at (joined_from u v (a, b) is)
      where
        both_ways : (x y : ℕ) → Points links x y → (a ≡ y) × (b ≡ x) → ⊥
        both_ways x y there back =
            let from : Points links y b = subst (λ (z : ℕ). Points links z b) back.0 h in
            acyclic x (y ∷ (x ∷ [])) ((there, (subst (λ (z : ℕ). Points links y z) back.1 from, tt)), refl)

        go : IsTail links u v tail → ((a ≡ u) × (b ≡ v)) ⊎ ((a ≡ v) × (b ≡ u)) → a ≡ tail
        go (inl t) (inl e) = e.0 ∙ sym t.0
        go (inl t) (inr e) = absurd (both_ways u v t.1 e)
        go (inr t) (inl e) = absurd (both_ways v u t.1 e)
        go (inr t) (inr e) = e.0 ∙ sym t.0

    -- a path is left, or one to the tail
    left_or_to_tail : (d x : ℕ) (vs : List ℕ) → IsPath links x vs → end_of x vs ≡ d
        → HasPath (without u v links) x d ⊎ HasPath (without u v links) x tail
    left_or_to_tail d x [] path ends = inl ([], (tt, ends))
    left_or_to_tail d x (w ∷ ws) path ends = ⊎_elim
        (λ is. inr ([], (tt, is_tail x w path.0 is)))
        (λ step. ⊎_elim (λ p. inl (w ∷ p.0, ((step, p.1.0), p.1.1))) (λ p. inr (w ∷ p.0, ((step, p.1.0), p.1.1)))
        (left_or_to_tail d w ws path.1 ends))
        (cut_or_left x w path.0)

-- the round after a cut
module _ (s : State) (after : IsAfterRound s) (u v : ℕ) (new : State)
    (round : IsRound s.nodes s.dest (without u v s.links) new) where
  abbrev left : List (ℕ × ℕ)
  left = without u v s.links

  left_net : IsNet s.nodes left
  left_net = cut_net s.nodes s.links u v (here s after)

  left_still : (x : ℕ) → HasPath left x s.dest → ¬ HasTurned new x
  left_still = path_still s.nodes s.dest left new left_net after.dest round

  path_was : (x y : ℕ) → HasPath left x y → HasPath s.links x y
  path_was x y p = (p.0, (path_carries left s.links (left_was s.links u v) x p.0 p.1.0, p.1.1))

  splits : (tail : ℕ) → IsTail s.links u v tail → (x : ℕ) → IsConnected s.links s.dest x
      → HasPath left x s.dest ⊎ HasPath left x tail
  splits tail at x joined =
      let path = home s after x joined in
      left_or_to_tail s.links u v (here s after).acyclic tail at s.dest x path.0 path.1.0 path.1.1

  -- a link that points from the tail leads to a path, since a path back to the tail would close a walk
  tail_path : (tail w : ℕ) → IsTail s.links u v tail → Points left tail w → IsConnected s.links s.dest tail
      → HasPath left tail s.dest
  tail_path tail w at h joined = ⊎_elim
      (λ p. (w ∷ p.0, ((h, p.1.0), p.1.1)))
      (λ p. absurd (left_net.acyclic tail (w ∷ p.0) ((h, p.1.0), p.1.1)))
      (splits tail at w (joined_out s.links s.dest tail w joined (left_was s.links u v tail w h)))

  detour : (x : ℕ) → IsConnected s.links s.dest x → (tail w : ℕ) → IsTail s.links u v tail → Points left tail w
      → ¬ HasTurned new x
  detour x joined tail w at h = ⊎_elim (left_still x)
      (λ p.
      let was = path_was x tail p in
      let on = joined_on s.links s.dest x was.0 tail joined was.1.0 was.1.1 in
      left_still x (path_joins left x p.0 tail s.dest p.1.0 p.1.1 (tail_path tail w at h on)))
      (splits tail at x joined)

  -- a connected node keeps its hop if it is not the tail, and neither it nor the nodes to which its links point turn
  other_hop : (x tail : ℕ) → IsConnected s.links s.dest x → IsTail s.links u v tail → x ≢ tail → ¬ HasTurned new x
      → ((w : ℕ) → Points s.links x w → ¬ HasTurned new w) → KeepsHop s new x
  other_hop x tail joined at apart still out = keeps_hop s after left new left_net round x joined still
      (λ w h. (
        ⊎_elim (λ is. absurd (apart (is_tail s.links u v (here s after).acyclic tail at x w h is))) (λ step. step)
            (cut_or_left s.links u v x w h),
        out w h,
      ))
      (λ w h. left_was s.links u v x w h)

  apart_still : (x : ℕ) → IsConnected s.links s.dest x → (tail : ℕ) → IsTail s.links u v tail → ¬ HasPath s.links x tail
      → ¬ HasTurned new x
  apart_still x joined tail at none =
      ⊎_elim (left_still x) (λ p. absurd (none (path_was x tail p))) (splits tail at x joined)

  -- the tail is not the destination, since a path leads back to that from each connected node
  tail_hop : (x w : ℕ) → IsConnected s.links s.dest x → ¬ HasTurned new x → ¬ HasTurned new w → IsNextHop left x w
      → IsHop new x (To w)
  tail_hop x w joined still rests next =
      let was : Points s.links x w = left_was s.links u v x w next.link in
      let back = home s after w (joined_out s.links s.dest x w joined was) in
      let between = links_between s.nodes s.dest left new left_net after.dest round x w in
      leads_to s after left new left_net round x w still
      (λ e. (here s after).acyclic x (w ∷ back.0) ((was, back.1.0), back.1.1 ∙ sym e))
      (record {
        link = (between.still still rests).0 next.link;
        least = λ z h. next.least z (out_still s.nodes s.dest left new left_net after.dest round x z still h).0;
      })

  after_cut : (x : ℕ) → IsConnected s.links s.dest x → IsAfterCut s u v left new x
  after_cut x joined =
      let who = who_turns s.nodes s.dest left new left_net after.dest round x in
      let paths = none_left s.links u v x s.dest in
      record {
        had = home s after x joined;
        turns = ((λ turned. let h = who.0 turned in (h.0, paths.0 h.1)), (λ h. who.1 (h.0, paths.1 h.1)));
        detour = λ tail w at next.
            let still : (z : ℕ) → IsConnected s.links s.dest z → ¬ HasTurned new z =
            λ z on. detour z on tail w at next.link in (
              still x joined,
              (λ e.
                  let hop : IsNextHop left x w = subst (λ (z : ℕ). IsNextHop left z w) (sym e) next in
                  let on = joined_out s.links s.dest x w joined (left_was s.links u v x w hop.link) in
                  tail_hop x w joined (still x joined) (still w on) hop),
              (λ apart. other_hop x tail joined at apart (still x joined)
                  (λ z g. still z (joined_out s.links s.dest x z joined g))),
            );
        apart = λ tail at none. (
          apart_still x joined tail at none,
          other_hop x tail joined at (λ e. none ([], (tt, e))) (apart_still x joined tail at none)
              (λ w h. apart_still w (joined_out s.links s.dest x w joined h) tail at
              (λ p. none (w ∷ p.0, ((h, p.1.0), p.1.1)))),
        );
      }

  -- no node is joined that was not
  stays_cut_off : (x : ℕ) → ¬ IsConnected s.links s.dest x → IsCutOff new.dest new.links x
  stays_cut_off x none =
      let off : IsCutOff s.dest new.links x = (
        (λ e. none (0, ([], (e, refl)))),
        (λ joined.
            let was = (round_joined s.nodes s.dest left new left_net after.dest round x).1 joined in
            none (joined_carries left s.links left_joins s.dest was.1.0 was.0 x was.1.1)),
      ) in
      subst (λ (d : ℕ). IsCutOff d new.links x) (sym round.dest) off
    where
      left_joins : (a b : ℕ) → Joins left a b → Joins s.links a b
      left_joins a b (inl h) = inl (left_was s.links u v a b h)
      left_joins a b (inr h) = inr (left_was s.links u v b a h)

pub cut_spares : (s : State) (u v : ℕ) (first : List (ℕ × ℕ)) (d : ℕ) (new : State) (x : ℕ)
    → IsSettledAnew s (Cut u v) first d new
    → (IsConnected s.links s.dest x → IsAfterCut s u v first new x)
    × (¬ IsConnected s.links s.dest x → IsHop new x CutOff)
cut_spares s u v first d new x h =
    let round = moved_round s.nodes d s.dest first (without u v s.links) new h.begins.1 h.begins.2 h.round in (
      λ joined. subst (λ (l : List (ℕ × ℕ)). IsAfterCut s u v l new x) (sym h.begins.1)
          (after_cut s h.settled u v new round x joined),
      stays_cut_off s h.settled u v new round x,
    )
