-- No call but `set_cost` changes the cost of a link to a known neighbour.
use Rattle.std.proofs.Common.{Bool, IsTrue, List, [], ap, arith, inl, inr, length, map, refl, subst, sym, ℕ, ⊎_elim}
use Rattle.std.proofs.Common.{◌++◌, ◌∷◌, ◌≡◌, ◌∙◌}
use Rattle.std.proofs.lemmas.List.{length-map, length_push}
use Rattle.fr_node.specs.declared.link.Link.{Link}
use Rattle.fr_node.specs.declared.message.Message.{Message}
use Rattle.fr_node.specs.declared.node.Node.{Node}
use Rattle.fr_node.specs.declared.own.Own.{Own}
use Rattle.fr_node.specs.Daemons.{KeepsLinks}
use Rattle.fr_node.specs.Heights.{CostsStay}
use Rattle.fr_node.specs.Links.{Changes, Hears, IsKnown, Says, after_tick, link_to, place_of, unknown}
use Rattle.fr_node.specs.Links.{with_carrier, with_cost}
use Rattle.fr_node.specs.Repeats.{AreCalls, IsCall, last_node}
use Rattle.fr_node.proofs.Daemons.{known_stays, place_pushed}
use Rattle.fr_node.proofs.Stepping.{same_or_not, taken_or_not}
use Rattle.fr_node.proofs.Ticking.{link_to-ticked, place_ticked}

-- lists of links to the same neighbours
abbrev Alike : List Link → List Link → Type 0
Alike ls ks = map (λ (l : Link). l.neighbour) ks ≡ map (λ (l : Link). l.neighbour) ls

place_alike : (w : ℕ) (ls ks : List Link) → Alike ls ks → place_of ks w ≡ place_of ls w
place_alike w [] [] e = refl
place_alike w [] (k ∷ ks) e = absurd (none e)
  where
    none : Alike [] (k ∷ ks) → ⊥
    none e = cc
place_alike w (l ∷ ls) [] e = absurd (none e)
  where
    none : Alike (l ∷ ls) [] → ⊥
    none e = cc
place_alike w (l ∷ ls) (k ∷ ks) e = rw (head e) (rw (place_alike w ls ks (tail e)) refl)
  where
    head : Alike (l ∷ ls) (k ∷ ks) → k.neighbour ≡ l.neighbour
    head e = cc

    tail : Alike (l ∷ ls) (k ∷ ks) → Alike ls ks
    tail e = cc

known_alike : (w : ℕ) (ls ks : List Link) → Alike ls ks → IsKnown ls w → IsKnown ks w
known_alike w ls ks e known = omega (
  arith,
  known,
  place_alike w ls ks e,
  length-map ks (λ (l : Link). l.neighbour),
  length-map ls (λ (l : Link). l.neighbour),
  ap length e,
)

record Stays (w : ℕ) (keeps_cost : Type 0) (ls ks : List Link) : Type 0 where
  known : IsKnown ks w
  cost : keeps_cost → (link_to ks w).cost ≡ (link_to ls w).cost

cost_of : (l k : Link) → k ≡ l → k.cost ≡ l.cost
cost_of l k e = ap (λ (j : Link). j.cost) e

module _ (w : ℕ) (keeps_cost : Type 0) where
  said : (v : ℕ) (m : Message) (ls ks : List Link) → Says v m ls ks → IsKnown ls w → Stays w keeps_cost ls ks
  said v m ls ks says known = record {
    known = known_alike w ls ks says.neighbours known;
    cost = λ _. ⊎_elim
        (λ here. subst (λ u. (link_to ks u).cost ≡ (link_to ls u).cost) (sym here)
        (ap (λ (j : Link). j.cost) says.itself))
        (λ other. cost_of (link_to ls w) (link_to ks w) (says.others w other))
        (same_or_not w v);
  }

  changed : (to : Link → Link) (v : ℕ) (ls ks : List Link)
      → (v ≡ w → keeps_cost → (l : Link) → (to l).cost ≡ l.cost) → Changes to v ls ks → IsKnown ls w
      → Stays w keeps_cost ls ks
  changed to v ls ks same changes known = record {
    known = known_alike w ls ks changes.neighbours known;
    cost = λ keeps. ⊎_elim
        (λ here. subst (λ u. IsKnown ls u → (link_to ks u).cost ≡ (link_to ls u).cost) (sym here)
        (λ there. ap (λ (j : Link). j.cost) (changes.itself there) ∙ same (sym here) keeps (link_to ls v)) known)
        (λ other. cost_of (link_to ls w) (link_to ks w) (changes.others w other))
        (same_or_not w v);
  }

  heard : (own : Own) (m : Message) (ls ks : List Link) → Hears own m ls ks → IsKnown ls w → Stays w keeps_cost ls ks
  heard own m ls ks hears known = record {
    known = known_alike w ls ks hears.neighbours known;
    cost = λ _. ⊎_elim
        (λ here. subst (λ u. (link_to ks u).cost ≡ (link_to ls u).cost) (sym here) (⊎_elim
        (λ taken. (hears.taken taken).cost)
        (λ none. ap (λ js. (link_to js m.from).cost) (hears.ignored none))
        (taken_or_not own m ls)))
        (λ other. cost_of (link_to ls w) (link_to ks w) (hears.others w other))
        (same_or_not w m.from);
  }

  same : (ls ks : List Link) → ks ≡ ls → IsKnown ls w → Stays w keeps_cost ls ks
  same ls ks e known = subst (Stays w keeps_cost ls) (sym e) (record { known = known; cost = λ _. refl })

  one_more : (v c : ℕ) (ls : List Link) → IsKnown ls w
      → Stays w keeps_cost ls (ls ++ record unknown { neighbour = v; cost = c } ∷ [])
  one_more v c ls known = record {
    known = omega
        (arith, known, place_pushed ls v c w known, length_push ls (record unknown { neighbour = v; cost = c }));
    cost = λ _. cost_of (link_to ls w) (link_to (ls ++ record unknown { neighbour = v; cost = c } ∷ []) w)
        (known_stays ls v c w known);
  }

  ticked : (patience : ℕ) (ls : List Link) → IsKnown ls w → Stays w keeps_cost ls (map (after_tick patience) ls)
  ticked patience ls known = record {
    known = omega (arith, known, place_ticked patience ls w, length-map ls (after_tick patience));
    cost = λ _. cost_of (after_tick patience (link_to ls w)) (link_to (map (after_tick patience) ls) w)
        (link_to-ticked patience ls w);
  }

  kept : (n k : Node) → KeepsLinks n k → IsKnown n.links.items w → Stays w keeps_cost n.links.items k.links.items
  kept n k (inl all) known = same n.links.items k.links.items all known
  kept n k (inr (inl (v, m, says))) known = said v m n.links.items k.links.items says known
  kept n k (inr (inr (inl (v, c, more)))) known = subst (Stays w keeps_cost n.links.items) (sym more)
      (one_more v c n.links.items known)
  kept n k (inr (inr (inr (patience, ticks)))) known = subst (Stays w keeps_cost n.links.items) (sym ticks)
      (ticked patience n.links.items known)

module _ (has_other_cost : ℕ → Bool) (w : ℕ) where
  called : (n k : Node) → IsCall has_other_cost n k → IsKnown n.links.items w
      → Stays w (¬ IsTrue (has_other_cost w)) n.links.items k.links.items
  called n k call known = ⊎_elim
      (λ keeps. kept w (¬ IsTrue (has_other_cost w)) n k keeps known)
      (⊎_elim
      (λ h. heard w (¬ IsTrue (has_other_cost w)) n.own h.0 n.links.items k.links.items h.1 known)
      (⊎_elim
      (λ s. changed w (¬ IsTrue (has_other_cost w)) (with_carrier s.1) s.0 n.links.items k.links.items (λ _ _ l. refl) s.2 known)
      (λ s. changed w (¬ IsTrue (has_other_cost w)) (with_cost s.1) s.0 n.links.items k.links.items
      (λ here none l. absurd (none (subst (λ v. IsTrue (has_other_cost v)) here s.2))) s.3 known)))
      call.links

  calls : (n : Node) (ks : List Node) → AreCalls has_other_cost n ks → IsKnown n.links.items w
      → Stays w (¬ IsTrue (has_other_cost w)) n.links.items (last_node n ks).links.items
  calls n [] are known = record { known = known; cost = λ _. refl }
  calls n (k ∷ ks) are known = on (called n k are.0 known) (calls k ks are.1)
    where
      on : Stays w (¬ IsTrue (has_other_cost w)) n.links.items k.links.items
          → (IsKnown k.links.items w → Stays w (¬ IsTrue (has_other_cost w)) k.links.items (last_node k ks).links.items)
          → Stays w (¬ IsTrue (has_other_cost w)) n.links.items (last_node k ks).links.items
      on first then = let rest = then first.known in record {
        known = rest.known;
        cost = λ none. rest.cost none ∙ first.cost none;
      }

pub costs_stay : CostsStay
costs_stay has_other_cost n ks w are known = let stays = calls has_other_cost w n ks are known in (stays.known, stays.cost)
