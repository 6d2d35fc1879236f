-- A node takes no message that is not newer than one that it has heard of the same neighbour.
use Rattle.std.proofs.Common.{Bool, [], List, ap, arith, inl, inr, subst, sym, ℕ, ⊎_elim, ◌∷◌, ◌<◌, ◌≡◌, ◌≤◌, ◌⊎◌}
use Rattle.std.proofs.lemmas.Bool.{cases_lt}
use Rattle.fr_node.specs.declared.link.Link.{Link}
use Rattle.fr_node.specs.declared.message.Message.{Message}
use Rattle.fr_node.specs.declared.node.Node.{Node}
use Rattle.fr_node.specs.declared.own.Own.{Own}
use Rattle.fr_node.specs.Daemons.{KeepsLinks}
use Rattle.fr_node.specs.Links.{Changes, Hears, IsKnown, IsNewer, link_to, with_carrier, with_cost}
use Rattle.fr_node.specs.Repeats.{AreCalls, IsCall, RepeatsAreIgnored, last_node}
use Rattle.fr_node.proofs.Daemons.{known_same}
use Rattle.fr_node.proofs.Stepping.{KnowsSame, carrier_same, changed_same, cost_same, said_same, same, same_or_not}
use Rattle.fr_node.proofs.Stepping.{taken_or_not}
use Rattle.fr_node.proofs.Ticking.{ticked_same}

-- the node has taken a message of this start with this stamp, or one that is newer
HasReached : (boot stamp : ℕ) → Link → Type 0
HasReached boot stamp l = (boot < l.peer) ⊎ ((boot ≡ l.peer) × (stamp ≤ l.stamp))

reached_same : (boot stamp : ℕ) (l k : Link) → KnowsSame l k → HasReached boot stamp l → HasReached boot stamp k
unfolding HasReached
reached_same boot stamp l k s (inl less) = inl (omega (arith, less, s.peer))
reached_same boot stamp l k s (inr even) = inr (omega (arith, even.0, s.peer), omega (arith, even.1, s.stamp))

reached_newer : (boot stamp : ℕ) (m : Message) (l k : Link) → IsNewer l.peer l.stamp m → k.peer ≡ m.boot
    → k.stamp ≡ m.stamp → HasReached boot stamp l → HasReached boot stamp k
unfolding HasReached
reached_newer boot stamp m l k (inl later) start e (inl less) = inl (omega (arith, later, start, less))
reached_newer boot stamp m l k (inl later) start e (inr even) = inl (omega (arith, later, start, even.0))
reached_newer boot stamp m l k (inr later) start e (inl less) = inl (omega (arith, later.0, start, less))
reached_newer boot stamp m l k (inr later) start e (inr even) =
    inr (omega (arith, later.0, start, even.0), omega (arith, later.1, e, even.1))

module _ (has_other_cost : ℕ → Bool) (boot stamp w : ℕ) where
  heard : (own : Own) (m : Message) (ls ks : List Link) → Hears own m ls ks → HasReached boot stamp (link_to ls w)
      → HasReached boot stamp (link_to ks w)
  heard own m ls ks h was = ⊎_elim
      (λ here. subst (λ v. HasReached boot stamp (link_to ls v)
      → HasReached boot stamp (link_to ks v)) (sym here) at was)
      (λ other. subst (HasReached boot stamp) (sym (h.others w other)) was)
      (same_or_not w m.from)
    where
      at : HasReached boot stamp (link_to ls m.from) → HasReached boot stamp (link_to ks m.from)
      at before = ⊎_elim
          (λ t. reached_newer boot stamp m (link_to ls m.from) (link_to ks m.from) t.newer (h.taken t).start
          (h.taken t).stamp before)
          (λ none. subst (λ js. HasReached boot stamp (link_to js m.from)) (sym (h.ignored none)) before)
          (taken_or_not own m ls)

  kept : (n k : Node) → KeepsLinks n k → KnowsSame (link_to n.links.items w) (link_to k.links.items w)
  kept n k (inl all) = same (link_to n.links.items w) (link_to k.links.items w) (ap (λ ls. link_to ls w) all)
  kept n k (inr (inl (v, m, says))) = said_same v m n.links.items k.links.items says w
  kept n k (inr (inr (inl (v, c, more)))) = subst (λ ls. KnowsSame (link_to n.links.items w) (link_to ls w)) (sym more)
      (known_same n.links.items v c w)
  kept n k (inr (inr (inr (patience, ticked)))) = ticked_same patience n.links.items k.links.items ticked w

  changed : (to : Link → Link) → ((l : Link) → KnowsSame l (to l)) → (v : ℕ) (n k : Node)
      → Changes to v n.links.items k.links.items → HasReached boot stamp (link_to n.links.items w)
      → HasReached boot stamp (link_to k.links.items w)
  changed to keeps v n k changes was = reached_same boot stamp (link_to n.links.items w) (link_to k.links.items w)
      (changed_same to keeps v n.links.items k.links.items changes w) was

  called : (n k : Node) → IsCall has_other_cost n k → HasReached boot stamp (link_to n.links.items w)
      → HasReached boot stamp (link_to k.links.items w)
  called n k call was = ⊎_elim
      (λ keeps. reached_same boot stamp (link_to n.links.items w) (link_to k.links.items w) (kept n k keeps) was)
      (⊎_elim
      (λ h. heard n.own h.0 n.links.items k.links.items h.1 was)
      (⊎_elim
      (λ s. changed (with_carrier s.1) (carrier_same s.1) s.0 n k s.2 was)
      (λ s. changed (with_cost s.1) (cost_same s.1) s.0 n k s.3 was)))
      call.links

  calls : (n : Node) (ks : List Node) → AreCalls has_other_cost n ks → HasReached boot stamp (link_to n.links.items w)
      → HasReached boot stamp (link_to (last_node n ks).links.items w)
  calls n [] are was = was
  calls n (k ∷ ks) are was = calls k ks are.1 (called n k are.0 was)

-- once it has heard the message
reached : (m : Message) (old new : Node) → m.to ≡ old.own.me → IsKnown old.links.items m.from
    → Hears old.own m old.links.items new.links.items → HasReached m.boot m.stamp (link_to new.links.items m.from)
unfolding HasReached
reached m old new to known h = ⊎_elim
    (λ t. inr (omega (arith, (h.taken t).start), omega (arith, (h.taken t).stamp)))
    (λ none. subst (λ ls. HasReached m.boot m.stamp (link_to ls m.from)) (sym (h.ignored none))
    (not_newer (λ newer. none (record { to = to; from = known; newer = newer }))))
    (taken_or_not old.own m old.links.items)
  where
    l : Link
    l = link_to old.links.items m.from

    not_newer : ¬ IsNewer l.peer l.stamp m → HasReached m.boot m.stamp l
    not_newer none = ⊎_elim
        (λ less. absurd (none (inl less)))
        (λ most. ⊎_elim
        (λ even. ⊎_elim
        (λ later. absurd (none (inr (even, later))))
        (λ few. inr (omega (arith, even), few))
        (cases_lt l.stamp m.stamp))
        (λ other. inl (omega (arith, other, most)))
        (same_or_not l.peer m.boot))
        (cases_lt l.peer m.boot)

never_taken : (boot stamp : ℕ) (m : Message) (l : Link) → HasReached boot stamp l
    → (m.boot < boot) ⊎ ((m.boot ≡ boot) × (m.stamp ≤ stamp)) → ¬ IsNewer l.peer l.stamp m
unfolding HasReached
never_taken boot stamp m l (inl less) (inl past) (inl later) = omega (arith, less, past, later)
never_taken boot stamp m l (inl less) (inl past) (inr later) = omega (arith, less, past, later.0)
never_taken boot stamp m l (inl less) (inr old) (inl later) = omega (arith, less, old.0, later)
never_taken boot stamp m l (inl less) (inr old) (inr later) = omega (arith, less, old.0, later.0)
never_taken boot stamp m l (inr even) (inl past) (inl later) = omega (arith, even.0, past, later)
never_taken boot stamp m l (inr even) (inl past) (inr later) = omega (arith, even.0, past, later.0)
never_taken boot stamp m l (inr even) (inr old) (inl later) = omega (arith, even.0, old.0, later)
never_taken boot stamp m l (inr even) (inr old) (inr later) = omega (arith, even.1, old.1, later.1)

pub repeats_are_ignored : RepeatsAreIgnored
repeats_are_ignored has_other_cost m again old new between to known hears are from past taken =
    let there = calls has_other_cost m.boot m.stamp m.from new between are (reached m old new to known hears) in
    never_taken m.boot m.stamp again (link_to (last_node new between).links.items again.from)
    (subst (λ w. HasReached m.boot m.stamp (link_to (last_node new between).links.items w)) (sym from) there)
    past taken.newer
