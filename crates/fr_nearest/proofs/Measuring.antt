-- Numbers that agree with the links are the distances, and the distances agree with the links.
use Rattle.std.proofs.Common.{List, [], ap, arith, inl, inr, length, refl, slice_index, suc, sym, zero, ℕ, ⊎_elim, ◌+◌}
use Rattle.std.proofs.Common.{◌<◌, ◌∙◌, ◌∷◌, ◌≡◌, ◌≢◌, ◌≤◌}
use Rattle.std.proofs.lemmas.Bool.{cases_eq}
use Rattle.fr_graph.proofs.Linking.{link_below}
use Rattle.fr_graph.specs.Limits.{most_nodes}
use Rattle.fr_graph.specs.Links.{HasPath, IsNet, IsPath, Points, end_of}
use Rattle.fr_nearest.specs.Distances.{AreDistances, no_distance}
use Rattle.fr_nearest.specs.Local.{Agrees, IsSmall, one_farther}

-- the numbers of all n nodes agree
pub record AllAgree (n : ℕ) (links : List (ℕ × ℕ)) (d : ℕ) (table : List ℕ) : Type 0 where
  pub one_each : length table ≡ n
  pub few : n ≤ most_nodes
  pub is_net : IsNet n links
  pub small : IsSmall n table
  pub each : (x : ℕ) → x < n → Agrees links d table x

module _ (n : ℕ) (links : List (ℕ × ℕ)) (d : ℕ) (table : List ℕ) (all : AllAgree n links d table) where
  -- a node is no farther than any path is long
  no_farther : (x : ℕ) (vs : List ℕ) → x < n → IsPath links x vs → end_of x vs ≡ d
      → (slice_index table x ≤ length vs) × (slice_index table x ≢ no_distance)
  no_farther x [] low path leads =
      let home = (all.each x low).home leads in (omega (arith, home), λ e. omega (arith, e, home))
  no_farther x (w ∷ ws) low path leads = elim (cases_eq x d) [
    | inl e ↦ let home = (all.each x low).home e in (omega (arith, home), λ q. omega (arith, q, home))
    | inr apart ↦
        let rest = no_farther w ws (link_below n links x w all.is_net path.0).1 path.1 leads in
        let near = (all.each x low).near apart w path.0 in
        let small : slice_index table w ≤ n = ⊎_elim (λ e. absurd (rest.1 e)) (λ l. l) (all.small w) in
        (omega (arith, near, rest.0), λ e. omega (arith, e, near, small, all.few))
  ]

  -- a number is the length of a path
  path_of : (k x : ℕ) → x < n → slice_index table x ≡ k → k ≢ no_distance
      → (vs : List ℕ) × IsPath links x vs × (end_of x vs ≡ d) × (length vs ≡ k)
  path_of zero x low is some = elim (cases_eq x d) [
    | inl e ↦ ([], tt, e, refl)
    | inr apart ↦ let next = (all.each x low).from apart (λ e. some (sym is ∙ e)) in absurd (omega (arith, next.2, is))
  ]
  path_of (suc j) x low is some = elim (cases_eq x d) [
    | inl e ↦ absurd (omega (arith, (all.each x low).home e, is))
    | inr apart ↦
        let next = (all.each x low).from apart (λ e. some (sym is ∙ e)) in
        let few : j ≢ no_distance =
        ⊎_elim (λ e. absurd (some (sym is ∙ e))) (λ l. λ e. omega (arith, l, is, e, all.few)) (all.small x) in
        let rest = path_of j next.0 (link_below n links x next.0 all.is_net next.1).1 (omega (arith, next.2, is)) few in
        (next.0 ∷ rest.0, (next.1, rest.1), rest.2, ap suc rest.3)
  ]

  pub distances_of : AreDistances n links d table
  distances_of = record {
    one_each = all.one_each;
    each = λ x low. record {
      some = λ some.
          let path = path_of (slice_index table x) x low refl some in
          record {
            nodes = path.0;
            path = path.1;
            leads = path.2;
            long = path.3;
            least = λ others other leads. (no_farther x others low other leads).0;
          };
      none = λ none path. (no_farther x path.0 low path.1.0 path.1.1).1 none;
    };
  }

-- the distances agree with the links
module _ (n : ℕ) (links : List (ℕ
    × ℕ)) (d : ℕ) (table : List ℕ) (are : AreDistances n links d table) (small : IsSmall n table)
    (few : n ≤ most_nodes) (x : ℕ) (low : x < n) (below : (w : ℕ) → Points links x w → w < n) where
  farther : (w : ℕ) → Points links x w → slice_index table x ≤ one_farther (slice_index table w)
  farther w link = elim (cases_eq (slice_index table w) no_distance) [
    | inl none ↦ ⊎_elim (λ e. omega (arith, none, e)) (λ l. omega (arith, none, l, few)) (small x)
    | inr some ↦
        let rest = (are.each w (below w link)).some some in
        let there : HasPath links x d = (w ∷ rest.nodes, ((link, rest.path), rest.leads)) in
        let own = (are.each x low).some (λ none. (are.each x low).none none there) in
        let least = own.least (w ∷ rest.nodes) (link, rest.path) rest.leads in
        ⊎_elim (λ e. absurd (some e)) (λ l. omega (arith, least, rest.long, l, few)) (small w)
  ]

  next : ¬ (x ≡ d) → (vs : List ℕ) → IsPath links x vs → end_of x vs ≡ d → length vs ≡ slice_index table x
      → (w : ℕ) × Points links x w × (slice_index table x ≡ slice_index table w + 1)
  next apart [] path leads long = absurd (apart leads)
  next apart (w ∷ ws) path leads long =
      let there : HasPath links w d = (ws, (path.1, leads)) in
      let rest = (are.each w (below w path.0)).some (λ none. (are.each w (below w path.0)).none none there) in
      (w, path.0, omega (arith, long, rest.least ws path.1 leads, farther w path.0))

  pub agrees_of : Agrees links d table x
  agrees_of = record {
    home = λ e.
        let here : HasPath links x d = ([], (tt, e)) in
        let own = (are.each x low).some (λ none. (are.each x low).none none here) in
        omega (arith, own.least [] tt e);
    near = λ apart. farther;
    from = λ apart some. let own = (are.each x low).some some in next apart own.nodes own.path own.leads own.long;
  }
