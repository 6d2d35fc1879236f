-- Which hops change when some are updated, and the list that notes their nodes.
use Rattle.std.proofs.Common.{Contains, false, true, List, [], Some, ap, arith, eqb, get_or, inl, inr, length}
use Rattle.std.proofs.Common.{length-set, refl, set, slice_get}
use Rattle.std.proofs.Common.{subst, sym, ℕ, ⊎_elim, ◌++◌, ◌<◌, ◌∙◌, ◌∷◌, ◌≡◌, ◌⊎◌}
use Rattle.std.specs.List.{IsDistinct, list_any}
use Rattle.std.specs.Cmp.{nat_eq_equiv}
use Rattle.std.proofs.lemmas.Bool.{cases_Bool, cases_eq, cases_lt, eqb-true}
use Rattle.std.proofs.lemmas.List.{get_or-set_other, get_or-set_same, length_push}
use Rattle.std.proofs.lemmas.List.Elements.{All-contains_itself, All-weaker, Contains-append_left, Contains-push}
use Rattle.std.proofs.lemmas.List.Elements.{Contains-push_cases}
use Rattle.std.proofs.lemmas.Map.Keys.{IsDistinct-push}
use Rattle.std.proofs.lemmas.Map.Steps.{length-le_from_distinct_below}
use Rattle.std.proofs.lemmas.Map.Views.{Contains-from_any}
use Rattle.std.proofs.lemmas.Option.{get_or_from_slice_get, slice_get-get_or, slice_get_past, slice_get_within}
use Rattle.fr_graph.proofs.Members.{Contains-none, cases_some}
use Rattle.fr_route.specs.Listing.{HasPlaces, IsListing, KeepsPlaces, nodes_told}
use Rattle.fr_route.specs.Outcomes.{AreNoted, AreOthers, NotesMore}
use Rattle.fr_route.specs.Routes.{IsHop}
use Rattle.fr_route.specs.States.{State}
use Rattle.fr_route.specs.declared.changed_nodes.ChangedNodes.{ChangedNodes}
use Rattle.fr_route.specs.declared.changed_nodes.ChangedNodes.TheVariants.{InList, Unlisted}
use Rattle.fr_tables.specs.declared.hop.Hop.{Hop}
use Rattle.fr_route.proofs.Determined.{one_hop}

-- no hop is updated
pub notes_none : (s : State) (hops : List Hop) (told : ChangedNodes) → NotesMore s hops told hops told
notes_none s hops told =
    record {
      keeps = record { places = λ n has. has; listing = λ is. is; notes = refl };
      noted = λ room before noted. noted;
    }

-- one after the other
pub notes_then : (s : State) (a b c : List Hop) (l m n : ChangedNodes) → length b ≡ length a → NotesMore s a l b m
    → NotesMore s b m c n → NotesMore s a l c n
notes_then s a b c l m n same h g = record {
  keeps =
      record {
        places = λ k has. g.keeps.places k (h.keeps.places k has);
        listing = λ is. h.keeps.listing (g.keeps.listing is);
        notes = g.keeps.notes ∙ h.keeps.notes;
      };
  noted =
      λ room before noted. g.noted (subst (λ (k : ℕ). HasPlaces k m) (sym same) (h.keeps.places (length a) room))
      before (h.noted room before noted);
}

-- no hop has changed yet
pub noted_first : (s : State) (hops : List Hop) → AreNoted s hops hops []
unfolding IsDistinct
noted_first s hops = record { once = tt; these = λ x h. absurd (Contains-none x h); others = λ x out. refl }

in_or_out : (x : ℕ) (nodes : List ℕ) → Contains nodes x ⊎ ¬ Contains nodes x
in_or_out x nodes = ⊎_elim
    (λ (y, found, is). inl (subst (Contains nodes) is found))
    (λ none. inr (λ found. none x found refl))
    (cases_some (λ (y : ℕ). y ≡ x) (λ y. cases_eq y x) nodes)

not_any : (x : ℕ) (nodes : List ℕ) → ¬ Contains nodes x → list_any (eqb x) nodes ≡ false
not_any x nodes out = ⊎_elim
    (λ t. absurd (out (Contains-from_any {eq = eqb} eqb-true x nodes t)))
    (λ f. f)
    (cases_Bool (list_any (eqb x) nodes))

-- another hop is right for x than the table has
module _ (s : State) (x : ℕ) (hop : Hop) (right : IsHop s x hop) (old : List Hop) (low : x < length old)
    (another : ¬ (slice_get old x
    ≡ Some hop)) (before : List Hop) (nodes : List ℕ) (noted : AreNoted s before old nodes) where
  here : slice_get (set old x hop) x ≡ Some hop
  here =
      slice_get-get_or (set old x hop) x hop (omega (arith, low, length-set old x hop))
      ∙ ap Some (get_or-set_same old x hop hop low)

  there : (y : ℕ) → ¬ (y ≡ x) → slice_get (set old x hop) y ≡ slice_get old y
  there y apart = ⊎_elim
      (λ inside. slice_get-get_or (set old x hop) y hop (omega (arith, inside, length-set old x hop))
      ∙ (ap Some (get_or-set_other old x y hop hop apart) ∙ sym (slice_get-get_or old y hop inside)))
      (λ past. slice_get_past (set old x hop) y (omega (arith, past, length-set old x hop))
      ∙ sym (slice_get_past old y past))
      (cases_lt y (length old))

  -- it is not noted yet, because it would be right then
  fresh : ¬ Contains nodes x
  fresh found = let at = noted.these x found in another (at.1.0 ∙ ap Some (one_hop s x at.0 hop at.1.1 right))

  once_more : IsDistinct eqb (nodes ++ x ∷ [])
  once_more = IsDistinct-push {eq = eqb} nat_eq_equiv nodes x noted.once (not_any x nodes fresh)

  -- there is room for it
  place_left : length nodes < length old
  place_left =
      let below : (y : ℕ) → list_any (eqb y) (nodes ++ x ∷ []) ≡ true → y < length old =
      λ y found. ⊎_elim
      (λ earlier. let at = noted.these y earlier in slice_get_within old y at.0 at.1.0)
      (λ it. omega (arith, it, low))
      (Contains-push_cases nodes x y (Contains-from_any {eq = eqb} eqb-true y (nodes ++ x ∷ []) found)) in
      omega (arith, length-le_from_distinct_below (nodes ++ x ∷ []) (length old) once_more below, length_push nodes x)

  noted_also : AreNoted s before (set old x hop) (nodes ++ x ∷ [])
  noted_also = record {
    once = once_more;
    these = λ y found. ⊎_elim
        (λ earlier.
        let at = noted.these y earlier in
        (at.0, (there y (λ it. fresh (subst (Contains nodes) it earlier)) ∙ at.1.0, at.1.1, at.1.2)))
        (λ it. subst (λ (z : ℕ). (h : Hop)
        × ((slice_get (set old x hop) z ≡ Some h) × IsHop s z h × ¬ (slice_get before z ≡ Some h))) it
        (hop, (here, right, (λ was. another (noted.others x fresh ∙ was)))))
        (Contains-push_cases nodes x y found);
    others = λ y out. there y (λ it. out (subst (Contains (nodes ++ x ∷ [])) (sym it) (Contains-push nodes x)))
        ∙ noted.others y (λ h. out (Contains-append_left nodes (x ∷ []) y h));
  }

-- the hop of x is updated and noted
pub notes_one : (s : State) (x : ℕ) (hop d : Hop) (old : List Hop) (told more : ChangedNodes) → IsHop s x hop
    → x < length old → ¬ (get_or old x d ≡ hop)
    → KeepsPlaces told more
    → ((n : ℕ) → HasPlaces n told → length (nodes_told told) < n → nodes_told more ≡ nodes_told told ++ x ∷ [])
    → NotesMore s old told (set old x hop) more
notes_one s x hop d old told more right low apart keeps put = record {
  keeps = keeps;
  noted = λ room before noted.
      let another : ¬ (slice_get old x ≡ Some hop) = λ is. apart (get_or_from_slice_get old x hop d is) in
      let left = place_left s x hop right old low another before (nodes_told told) noted in
      subst (AreNoted s before (set old x hop)) (sym (put (length old) room left))
      (noted_also s x hop right old low another before (nodes_told told) noted);
}

-- the noted nodes are those whose hop has changed
pub others_noted : (s : State) (before hops : List Hop) (nodes : List ℕ) → AreNoted s before hops nodes
    → AreOthers before hops nodes
others_noted s before hops nodes noted = record {
  once = noted.once;
  below = All-weaker (Contains nodes) (λ (x : ℕ). x < length hops)
      (λ x found. let at = noted.these x found in slice_get_within hops x at.0 at.1.0) nodes
      (All-contains_itself nodes);
  just = λ x. (
    λ found. let at = noted.these x found in λ same. at.1.2 (same ∙ at.1.0),
    λ differ. ⊎_elim (λ found. found) (λ out. absurd (differ (sym (noted.others x out)))) (in_or_out x nodes),
  );
}

-- if there is room, there is a list
pub listing_has : (n : ℕ) (told : ChangedNodes) → HasPlaces n told → IsListing told
listing_has n Unlisted has = has
listing_has n (InList list notes) has = tt
