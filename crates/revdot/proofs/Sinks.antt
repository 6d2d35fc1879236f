-- Sinks, from the ends of links.
use Rattle.std.proofs.Common.{◌≡◌, ◌≢◌, ◌∙◌, ℕ, ◌+◌, ◌<◌, ◌==◌, ◌||◌, ⊎_elim, Bool, true, false, List, ap, length}
use Rattle.std.proofs.Common.{length-set, get_or, set}
use Rattle.std.proofs.Common.{slice_index_or, take, refl, subst, sym, arith, eq-eqb, eqb-true, ne_eqb}
use Rattle.std.proofs.Math.Bool.{or-false, or-true}
use Rattle.std.proofs.lemmas.Bool.{cases_eq}
use Rattle.std.proofs.lemmas.List.{get_or-set_other, get_or-set_same, get_or_default}
use Rattle.std.proofs.lemmas.List.Folds.{Any-from_list_any, list_any-from_Any, list_any_more}
use Rattle.std.specs.List.{list_any}
use Rattle.fr_graph.specs.Links.{Points}
use Rattle.fr_graph.specs.Turn.{IsSink}
use Rattle.revdot.specs.Ends.{HaveEnds}

-- the marks with one end of one more link
marked_more : (end_of : ℕ × ℕ → ℕ) (n k t : ℕ) (marks : List Bool) (links : List (ℕ × ℕ)) (d : ℕ × ℕ) → length marks ≡ n
    → k < length links → end_of (get_or links k d) ≡ t
    → ((x : ℕ) → x < n → slice_index_or marks x false ≡ list_any (λ (l : ℕ × ℕ). end_of l == x) (take k links))
    → (x : ℕ) → x < n
    → slice_index_or (set marks t true) x false ≡ list_any (λ (l : ℕ × ℕ). end_of l == x) (take (k + 1) links)
marked_more end_of n k t marks links d long inside is before x low =
    let ends : ℕ × ℕ → Bool = λ l. end_of l == x in
    let more : list_any ends (take (k + 1) links) ≡ (list_any ends (take k links) || (end_of (get_or links k d) == x)) =
    list_any_more ends links k d inside in
    ⊎_elim
    (λ (e : x ≡ t).
    let here : (end_of (get_or links k d) == x) ≡ true = eq-eqb (end_of (get_or links k d)) x (is ∙ sym e) in
    subst (λ (y : ℕ). slice_index_or (set marks t true) y false
    ≡ true) (sym e) (get_or-set_same marks t true false (omega (arith, low, long, e)))
    ∙ sym (more ∙ (ap (λ (b : Bool). list_any ends (take k links) || b) here ∙ or-true (list_any ends (take k links)))))
    (λ (apart : x ≢ t).
    let other : (end_of (get_or links k d) == x) ≡ false =
    ne_eqb (end_of (get_or links k d)) x (λ e. apart (sym e ∙ is)) in
    get_or-set_other marks t x true false apart
    ∙ (before x low
    ∙ sym (more
    ∙ (ap (λ (b : Bool). list_any ends (take k links) || b) other ∙ or-false (list_any ends (take k links))))))
    (cases_eq x t)

-- with both its ends
pub ends_more : (n k t h : ℕ) (tails heads : List Bool) (links : List (ℕ × ℕ)) (d : ℕ × ℕ) → k < length links
    → get_or links k d ≡ (t, h) → HaveEnds n tails heads (take k links)
    → HaveEnds n (set tails t true) (set heads h true) (take (k + 1) links)
ends_more n k t h tails heads links d inside is ends = record {
  tails_long = length-set tails t true ∙ ends.tails_long;
  heads_long = length-set heads h true ∙ ends.heads_long;
  tails_are =
      marked_more (λ (l : ℕ
      × ℕ). l.0) n k t tails links d ends.tails_long inside (ap (λ (l : ℕ × ℕ). l.0) is) ends.tails_are;
  heads_are =
      marked_more (λ (l : ℕ
      × ℕ). l.1) n k h heads links d ends.heads_long inside (ap (λ (l : ℕ × ℕ). l.1) is) ends.heads_are;
}

-- a mark that is read
pub mark_at : (marks : List Bool) (x n : ℕ) (read mark : Bool) → length marks ≡ n → x < n → read ≡ get_or marks x read
    → read ≡ mark → slice_index_or marks x false ≡ mark
mark_at marks x n read mark long low is e =
    let inside : x < length marks = omega (arith, long, low) in
    get_or_default marks x false read inside ∙ (sym is ∙ e)

module _ (n x : ℕ) (tails heads : List Bool) (links : List (ℕ × ℕ)) (ends : HaveEnds n tails heads links) (node : x
    < n) where
  -- a head that is not a tail
  pub sink : slice_index_or heads x false ≡ true → slice_index_or tails x false ≡ false → IsSink links x
  sink head no_tail =
      let h = Any-from_list_any (λ (l : ℕ × ℕ). l.1 == x) links (sym (ends.heads_are x node) ∙ head) in (
        (h.1.0, subst (λ (y : ℕ). Points links h.1.0 y) (eqb-true h.1.1 x h.4) (h.0, h.2, h.3)),
        λ w out.
            let is = list_any-from_Any (λ (l : ℕ × ℕ). l.0 == x) links (out.0, (x, w), out.1, out.2, eq-eqb x x refl) in
            let tail = ends.tails_are x node in
            cc,
      )

  pub tail_is_none : slice_index_or tails x false ≡ true → ¬ IsSink links x
  tail_is_none tail s =
      let h = Any-from_list_any (λ (l : ℕ × ℕ). l.0 == x) links (sym (ends.tails_are x node) ∙ tail) in
      s.1 h.1.1 (subst (λ (y : ℕ). Points links y h.1.1) (eqb-true h.1.0 x h.4) (h.0, h.2, h.3))

  pub no_head_is_none : slice_index_or heads x false ≡ false → ¬ IsSink links x
  no_head_is_none head s =
      let into = s.0.1 in
      let is =
      list_any-from_Any (λ (l : ℕ × ℕ). l.1 == x) links (into.0, (s.0.0, x), into.1, into.2, eq-eqb x x refl) in
      let heads_are = ends.heads_are x node in
      cc
