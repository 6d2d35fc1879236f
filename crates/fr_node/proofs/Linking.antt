-- One link of a list has changed.
use Rattle.std.proofs.Common.{Bool, List, Some, ap, arith, false, get_or, length, map, refl, set, subst, sym, true, ℕ}
use Rattle.std.proofs.Common.{⊎_elim, ◌<◌, ◌↔◌, ◌==◌, ◌≡◌, ◌≢◌, ◌∙◌}
use Rattle.std.specs.List.{Contains, position}
use Rattle.std.proofs.Math.Seq.{map-set_same}
use Rattle.std.proofs.lemmas.Bool.{cases_lt, lt-ltb}
use Rattle.std.proofs.lemmas.Bool.Decides.{nat_tests}
use Rattle.std.proofs.lemmas.List.{get_or-set_other, get_or-set_same, get_or_past}
use Rattle.std.proofs.lemmas.List.Elements.{Contains-get_or}
use Rattle.std.proofs.lemmas.List.Folds.{position_or_len-set}
use Rattle.std.proofs.lemmas.List.Quantifiers.{position-Some}
use Rattle.std.proofs.lemmas.Option.{cond_some, get_or_from_slice_get, slice_get_read}
use Rattle.fr_node.specs.declared.link.Link.{Link}
use Rattle.fr_node.specs.declared.message.Message.{Message}
use Rattle.fr_node.specs.declared.own.Own.{Own}
use Rattle.fr_node.specs.Links.{Changes, Hears, IsHeard, IsKnown, IsNewer, IsTaken, Says, leads_to, link_to}
use Rattle.fr_node.specs.Links.{place_of, unknown}

-- the link x to w is listed at index i
pub record IsAt (ls : List Link) (w i : ℕ) (x : Link) : Type 0 where
  pub place : place_of ls w ≡ i
  pub within : i < length ls
  pub here : get_or ls i unknown ≡ x
  pub neighbour : x.neighbour ≡ w

first_of : (ls : List Link) (w i : ℕ) → position (leads_to w) ls ≡ Some i → place_of ls w ≡ i
first_of ls w i e = (cond_some _ _ _ e).1

is_there : (ls : List Link) (w i : ℕ) → position (leads_to w) ls ≡ Some i → IsAt ls w i (get_or ls i unknown)
is_there ls w i e = record {
  place = first_of ls w i e;
  within = found.0;
  here = refl;
  neighbour = grind (arith, nat_tests, found.1);
}
  where
    found : (i < length ls) × (leads_to w (get_or ls i unknown) ≡ true)
        × ((k : ℕ) → k < i → leads_to w (get_or ls k unknown) ≡ false)
    found = position-Some (leads_to w) ls i unknown e

pub is_at : (ls : List Link) (w i : ℕ) (x : Link) → Some i ≡ position (leads_to w) ls → x ≡ get_or ls i x
    → IsAt ls w i x
is_at ls w i x e r = subst (IsAt ls w i) here there
  where
    there : IsAt ls w i (get_or ls i unknown)
    there = is_there ls w i (sym e)

    here : get_or ls i unknown ≡ x
    here = get_or_from_slice_get ls i x unknown (slice_get_read ls (length ls) i x refl there.within r)

-- the link at a place within the list leads there
pub leads_there : (ls : List Link) (v : ℕ) → IsKnown ls v → (link_to ls v).neighbour ≡ v
leads_there ls v known = (is_there ls v (place_of ls v) (rw (lt-ltb (place_of ls v) (length ls) known) refl)).neighbour

up_known : (ls : List Link) (w : ℕ) → (link_to ls w).up ≡ true → IsKnown ls w
up_known ls w up = ⊎_elim (λ l. l)
    (λ past. absurd (down (ap (λ (l : Link). l.up) (get_or_past ls (place_of ls w) unknown past)) up))
    (cases_lt (place_of ls w) (length ls))
  where
    down : (link_to ls w).up ≡ false → (link_to ls w).up ≡ true → ⊥
    down f t = cc

-- if what is known of w is a link that is up, it is listed and leads to w
pub up_listed : (ls : List Link) (w : ℕ) → (link_to ls w).up ≡ true → Contains ls (link_to ls w)
up_listed ls w up = Contains-get_or ls (place_of ls w) unknown (up_known ls w up)

pub up_leads : (ls : List Link) (w : ℕ) → (link_to ls w).up ≡ true → (link_to ls w).neighbour ≡ w
up_leads ls w up = leads_there ls w (up_known ls w up)

place_of-set : (ls : List Link) (w i : ℕ) (x k : Link) → IsAt ls w i x → k.neighbour ≡ x.neighbour
    → (v : ℕ) → place_of (set ls i k) v ≡ place_of ls v
place_of-set ls w i x k at same v = position_or_len-set (leads_to v) ls i k unknown
    (ap (λ (n : ℕ). n == v) (same ∙ sym (ap (λ (l : Link). l.neighbour) at.here)))

pub link_to-set : (ls : List Link) (w i : ℕ) (x k : Link) → IsAt ls w i x → k.neighbour ≡ x.neighbour
    → link_to (set ls i k) w ≡ k
link_to-set ls w i x k at same = ap (λ (n : ℕ). get_or (set ls i k) n unknown)
    (place_of-set ls w i x k at same w ∙ at.place)
    ∙ get_or-set_same ls i k unknown at.within

pub link_to-set_other : (ls : List Link) (w i : ℕ) (x k : Link) → IsAt ls w i x → k.neighbour ≡ x.neighbour
    → (v : ℕ) → v ≢ w → link_to (set ls i k) v ≡ link_to ls v
link_to-set_other ls w i x k at same v other = ap (λ (n : ℕ). get_or (set ls i k) n unknown)
    (place_of-set ls w i x k at same v)
    ∙ get_or-set_other ls i (place_of ls v) k unknown elsewhere
  where
    elsewhere : place_of ls v ≢ i
    elsewhere e = other (sym (leads_there ls v (omega (arith, e, at.within))) ∙ ap (λ (l : Link). l.neighbour)
        (ap (λ (n : ℕ). get_or ls n unknown) e ∙ at.here) ∙ at.neighbour)

neighbours-set : (ls : List Link) (w i : ℕ) (x k : Link) → IsAt ls w i x → k.neighbour ≡ x.neighbour
    → map (λ (l : Link). l.neighbour) (set ls i k) ≡ map (λ (l : Link). l.neighbour) ls
neighbours-set ls w i x k at same = map-set_same (λ (l : Link). l.neighbour) ls i k unknown
    (same ∙ sym (ap (λ (l : Link). l.neighbour) at.here))

pub found_at : (ls : List Link) (w i : ℕ) (x : Link) → IsAt ls w i x → link_to ls w ≡ x
found_at ls w i x at = ap (λ (n : ℕ). get_or ls n unknown) at.place ∙ at.here

-- a message from the neighbour at this place is taken if it is newer
pub taken_at : (own : Own) (m : Message) (ls : List Link) (i : ℕ) (x : Link) → IsAt ls m.from i x → m.to ≡ own.me
    → IsNewer x.peer x.stamp m ↔ IsTaken own m ls
taken_at own m ls i x at to = (
  λ newer. record {
    to = to;
    from = omega (arith, at.place, at.within);
    newer = subst (λ (l : Link). IsNewer l.peer l.stamp m) (sym (found_at ls m.from i x at)) newer;
  },
  λ taken. subst (λ (l : Link). IsNewer l.peer l.stamp m) (found_at ls m.from i x at) taken.newer,
)

pub hears_at : (own : Own) (m : Message) (ls : List Link) (i : ℕ) (x k : Link) → IsAt ls m.from i x → IsHeard own m x k
    → m.to ≡ own.me → IsNewer x.peer x.stamp m → Hears own m ls (set ls i k)
hears_at own m ls i x k at h to newer = record {
  neighbours = neighbours-set ls m.from i x k at h.neighbour;
  others = link_to-set_other ls m.from i x k at h.neighbour;
  taken = λ _. subst (λ (l : Link). IsHeard own m l (link_to (set ls i k) m.from)) (sym (found_at ls m.from i x at))
      (subst (IsHeard own m x) (sym (link_to-set ls m.from i x k at h.neighbour)) h);
  ignored = λ no. absurd (no ((taken_at own m ls i x at to).0 newer));
}

pub changes_at : (to : Link → Link) → ((l : Link) → (to l).neighbour ≡ l.neighbour) → (w : ℕ) (ls : List Link) (i : ℕ)
    (x : Link) → IsAt ls w i x → Changes to w ls (set ls i (to x))
changes_at to leads w ls i x at = record {
  neighbours = neighbours-set ls w i x (to x) at (leads x);
  others = link_to-set_other ls w i x (to x) at (leads x);
  itself = λ _. link_to-set ls w i x (to x) at (leads x) ∙ ap to (sym (found_at ls w i x at));
  stranger = λ s. absurd (s (omega (arith, at.place, at.within)));
}

pub says_at : (w : ℕ) (m : Message) (ls : List Link) (i : ℕ) (x : Link) → IsAt ls w i x
    → Says w m ls (set ls i (record x { said = Some m }))
says_at w m ls i x at = record {
  neighbours = neighbours-set ls w i x (record x { said = Some m }) at refl;
  others = link_to-set_other ls w i x (record x { said = Some m }) at refl;
  itself = link_to-set ls w i x (record x { said = Some m }) at refl
      ∙ ap (λ (l : Link). record l { said = Some m }) (sym (found_at ls w i x at));
}
