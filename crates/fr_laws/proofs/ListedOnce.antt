-- Links of which no two lead to the same neighbour.
use Rattle.std.proofs.Common.{List, ap, arith, eq-eqb, false, get_or, length, map, refl, subst, sym, true, ℕ, ⊎_elim}
use Rattle.std.proofs.Common.{◌<◌, ◌==◌, ◌≡◌, ◌∙◌}
use Rattle.std.specs.List.{Contains}
use Rattle.std.proofs.Math.ListN.{get_or-map}
use Rattle.std.proofs.lemmas.Bool.{cases_lt}
use Rattle.std.proofs.lemmas.List.{get_or_default, get_or_past, length-map}
use Rattle.std.proofs.lemmas.List.Elements.{Contains-get_or}
use Rattle.std.proofs.lemmas.List.Sums.{fails_before_first, position_or_len_is}
use Rattle.fr_node.specs.Arrivals.{IsLinkedTo}
use Rattle.fr_node.specs.Links.{leads_to, link_to, place_of, unknown}
use Rattle.fr_node.specs.declared.link.Link.{Link}
use Rattle.fr_node.specs.declared.node.Node.{Node}
use Rattle.fr_laws.specs.Announcements.{AreListedOnce}

abbrev neighbour_of : Link → ℕ
neighbour_of l = l.neighbour

-- other links with the same neighbours are listed once too
pub once_kept : (ls ks : List Link) → map (λ (l : Link). l.neighbour) ks ≡ map (λ (l : Link). l.neighbour) ls
    → AreListedOnce ls → AreListedOnce ks
once_kept ls ks e once i within = position_or_len_is (leads_to (get_or ks i unknown).neighbour) ks i unknown
    (omega arith) before
    (λ _. eq-eqb (get_or ks i unknown).neighbour (get_or ks i unknown).neighbour refl)
  where
    alike : (k : ℕ) → (get_or ks k unknown).neighbour ≡ (get_or ls k unknown).neighbour
    alike k = sym (get_or-map neighbour_of ks k unknown) ∙ ap (λ (ns : List ℕ). get_or ns k 0) e
        ∙ get_or-map neighbour_of ls k unknown

    long : length ks ≡ length ls
    long = sym (length-map ks neighbour_of) ∙ ap length e ∙ length-map ls neighbour_of

    first_there : place_of ls (get_or ls i unknown).neighbour ≡ i
    first_there = once i (omega (arith, within, long))

    before : (k : ℕ) → k < i → leads_to (get_or ks i unknown).neighbour (get_or ks k unknown) ≡ false
    before k less = subst (λ (w : ℕ). (w == (get_or ks i unknown).neighbour) ≡ false) (sym (alike k))
        (subst (λ (v : ℕ). ((get_or ls k unknown).neighbour == v) ≡ false) (sym (alike i))
        (fails_before_first (leads_to (get_or ls i unknown).neighbour) ls k unknown (omega (arith, less, first_there))))

-- a listed link is what is known of its neighbour
pub the_link : (ls : List Link) (l : Link) → AreListedOnce ls → Contains ls l → link_to ls l.neighbour ≡ l
the_link ls l once (k, within, is) = ap (λ (i : ℕ). get_or ls i unknown) place ∙ here
  where
    here : get_or ls k unknown ≡ l
    here = get_or_default ls k unknown l within ∙ is

    place : place_of ls l.neighbour ≡ k
    place = subst (λ (j : Link). place_of ls j.neighbour ≡ k) here (once k within)

pub linked_up : (n : Node) (w : ℕ) → AreListedOnce n.links.items → IsLinkedTo n w
    → (link_to n.links.items w).up ≡ true
linked_up n w once (l, listed, up, leads) = subst (λ (v : ℕ). (link_to n.links.items v).up ≡ true) leads
    (ap (λ (k : Link). k.up) (the_link n.links.items l once listed) ∙ up)
