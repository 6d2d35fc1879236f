-- Each node has a list of its ways, nearest first, and each node with a path exactly one walk by first ways.
use Rattle.std.proofs.Common.{[], Bool, List, arith, false, get_or, true, inl, inr, length, refl, slice_index, subst}
use Rattle.std.proofs.Common.{suc, sym, zero, ℕ, ⊎_elim, ap}
use Rattle.std.proofs.Common.{Contains, ◌<◌, ◌∙◌, ◌∷◌, ◌≡◌, ◌≤◌, ◌⊎◌}
use Rattle.std.proofs.lemmas.Bool.{cases_eq, cases_lt, false≢true}
use Rattle.std.proofs.lemmas.List.{get_or_default}
use Rattle.std.proofs.lemmas.List.Elements.{Contains-get_or}
use Rattle.fr_tables.proofs.Members.{Contains-cases, Contains-head, Contains-none, Contains-tail}
use Rattle.fr_graph.specs.Links.{AreBelow, HasPath, IsPath, Points, end_of}
use Rattle.fr_graph.specs.Rows.{has_link}
use Rattle.fr_graph.proofs.Neighbours.{Points-has_link, has_link_true}
use Rattle.fr_nearest.specs.Distances.{IsDistance}
use Rattle.fr_nearest.specs.Ways.{AreWays, IsFirstWay, IsNearer, IsNearestWalk, IsWay}
use Rattle.fr_nearest.proofs.Walking.{first_nearer, one_distance}
use Rattle.fr_route.proofs.ShortestPaths.{distance_exists}

-- each element comes before all later ones
abbrev IsSorted : (ℕ → ℕ → Type 0) → List ℕ → Type 0
IsSorted R [] = Unit {0}
IsSorted R (x ∷ xs) = ((y : ℕ) → Contains xs y → R x y) × IsSorted R xs

-- from one index of a sorted list to a later one
sorted_at : (R : ℕ → ℕ → Type 0) (xs : List ℕ) → IsSorted R xs → (i j : ℕ) → i < j → j < length xs
    → R (slice_index xs i) (slice_index xs j)
sorted_at R [] sorted i j lt low = absurd (omega (arith, low))
sorted_at R (x ∷ xs) sorted zero zero lt low = absurd (omega (arith, lt))
sorted_at R (x ∷ xs) sorted zero (suc j) lt low = sorted.0 (get_or xs j 0) (Contains-get_or xs j 0 (omega (arith, low)))
sorted_at R (x ∷ xs) sorted (suc i) zero lt low = absurd (omega (arith, lt))
sorted_at R (x ∷ xs) sorted (suc i) (suc j) lt low =
    sorted_at R xs sorted.1 i j (omega (arith, lt)) (omega (arith, low))

module _ (links : List (ℕ × ℕ)) (d : ℕ) where
  -- w comes before u
  abbrev Near : ℕ → ℕ → Type 0
  Near = IsNearer links d

  -- one of them comes before the other
  nearer_cases : (w u : ℕ) → HasPath links w d → HasPath links u d → ¬ (w ≡ u) → Near w u ⊎ Near u w
  nearer_cases w u from_w from_u apart =
      let (near, this) = distance_exists links d w from_w in
      let (far, other) = distance_exists links d u from_u in
      elim (cases_lt near far) [
        | inl lt ↦ inl (record { near = near; far = far; this = this; other = other; before = inl lt })
        | inr le ↦ elim (cases_eq near far) [
          | inl e ↦ elim (cases_lt w u) [
            | inl lt ↦ inl (record { near = near; far = far; this = this; other = other; before = inr (e, lt) })
            | inr high ↦
                let before = inr (sym e, omega (arith, high, apart)) in
                inr (record { near = far; far = near; this = other; other = this; before = before })
          ]
          | inr differ ↦
              let before = inl (omega (arith, le, differ)) in
              inr (record { near = far; far = near; this = other; other = this; before = before })
        ]
      ]

  asymmetric : (w u : ℕ) → Near w u → ¬ Near u w
  asymmetric w u a b =
      let same_w = one_distance links d w a.near b.far a.this b.other in
      let same_u = one_distance links d u a.far b.near a.other b.this in
      grind (arith, same_w, same_u, a.before, b.before)

  transitive : (w u v : ℕ) → Near w u → Near u v → Near w v
  transitive w u v a b =
      let same = one_distance links d u a.far b.near a.other b.this in
      record { near = a.near; far = b.far; this = a.this; other = b.other; before = go same a.before b.before }
    where
      go : a.far ≡ b.near → (a.near < a.far) ⊎ ((a.near ≡ a.far) × (w < u))
          → (b.near < b.far) ⊎ ((b.near ≡ b.far) × (u < v)) → (a.near < b.far) ⊎ ((a.near ≡ b.far) × (w < v))
      go same (inl p) (inl q) = inl (omega (arith, same, p, q))
      go same (inl p) (inr q) = inl (omega (arith, same, p, q.0))
      go same (inr p) (inl q) = inl (omega (arith, same, p.0, q))
      go same (inr p) (inr q) = inr (omega (arith, same, p.0, q.0), omega (arith, p.1, q.1))

  -- the list with one more node
  abbrev IsMore : ℕ → List ℕ → List ℕ → Type 0
  IsMore w list more = IsSorted Near more × ((u : ℕ) → (Contains more u → (u ≡ w) ⊎ Contains list u)
      × ((u ≡ w) ⊎ Contains list u → Contains more u))

  insert : (w : ℕ) → HasPath links w d → (list : List ℕ) → IsSorted Near list
      → ((u : ℕ) → Contains list u → HasPath links u d × ¬ (w ≡ u)) → (more : List ℕ) × IsMore w list more
  insert w path [] sorted others = (
    w ∷ [],
    (
      ((λ u has. absurd (Contains-none u has)), tt),
      λ u. (
        (λ has. ⊎_elim (λ e. inl (sym e)) inr (Contains-cases u w [] has)),
        (λ h. ⊎_elim (λ e. subst (Contains (w
            ∷ [])) (sym e) (Contains-head w [])) (λ has. absurd (Contains-none u has)) h),
      ),
    ),
  )
  insert w path (v ∷ vs) sorted others =
      let at_v = others v (Contains-head v vs) in
      elim (nearer_cases w v path at_v.0 at_v.1) [
        | inl near ↦ (
          w ∷ (v ∷ vs),
          (
            (
              (λ u has. ⊎_elim (λ e. subst (Near w) e near)
                  (λ in_vs. transitive w v u near (sorted.0 u in_vs)) (Contains-cases u v vs has)),
              sorted,
            ),
            λ u. (
              (λ has. ⊎_elim (λ e. inl (sym e)) inr (Contains-cases u w (v ∷ vs) has)),
              (λ h. ⊎_elim (λ e. subst (Contains (w ∷ (v ∷ vs))) (sym e) (Contains-head w (v ∷ vs)))
                  (λ has. Contains-tail u w (v ∷ vs) has) h),
            ),
          ),
        )
        | inr far ↦
            let (more, (rest, just)) = insert w path vs sorted.1 (λ u has. others u (Contains-tail u v vs has)) in (
              v ∷ more,
              (
                (
                  (λ u has. ⊎_elim (λ e. subst (Near v) (sym e) far) (λ in_vs. sorted.0 u in_vs)
                      ((just u).0 has)),
                  rest,
                ),
                λ u. (
                  (λ has. ⊎_elim (λ e. inr (subst (Contains (v ∷ vs)) e (Contains-head v vs)))
                      (λ in_more. ⊎_elim inl (λ in_vs. inr (Contains-tail u v vs in_vs)) ((just u).0 in_more))
                      (Contains-cases u v more has)),
                  (λ h. ⊎_elim (λ e. Contains-tail u v more ((just u).1 (inl e)))
                      (λ has. ⊎_elim (λ e. subst (Contains (v ∷ more)) e (Contains-head v more))
                      (λ in_vs. Contains-tail u v more ((just u).1 (inr in_vs))) (Contains-cases u v vs has)) h),
                ),
              ),
            )
      ]

  module _ (decide : (w : ℕ) → HasPath links w d ⊎ ¬ HasPath links w d) (x : ℕ) where
    cases_way : (w : ℕ) → IsWay links d x w ⊎ ¬ IsWay links d x w
    cases_way w = elim (decide w) [
      | inr out ↦ inr (λ way. out way.leads)
      | inl path ↦ elim (cases_link w) [
        | inl link ↦ inl (record { link = link; leads = path })
        | inr none ↦ inr (λ way. none way.link)
      ]
    ]
      where
        cases_link : (w : ℕ) → Points links x w ⊎ ¬ Points links x w
        cases_link w = go (has_link links x w) refl
          where
            go : (b : Bool) → has_link links x w ≡ b → Points links x w ⊎ ¬ Points links x w
            go true is = inl (Points-has_link links x w is)
            go false is = inr (λ link. false≢true (sym is ∙ has_link_true links x w link))

    -- the ways below m
    some_ways : (m : ℕ) → (list : List ℕ) × IsSorted Near list
        × ((w : ℕ) → (Contains list w → IsWay links d x w × (w < m)) × (IsWay links d x w × (w < m) → Contains list w))
    some_ways zero = ([], tt, λ w. ((λ has. absurd (Contains-none w has)), (λ h. absurd (omega (arith, h.1)))))
    some_ways (suc m) =
        let (list, sorted, just) = some_ways m in
        elim (cases_way m) [
          | inl way ↦
              let others : (u : ℕ) → Contains list u → HasPath links u d × ¬ (m ≡ u) =
              λ u has. let h = (just u).0 has in (h.0.leads, λ e. omega (arith, e, h.1)) in
              let (more, (is, each)) = insert m way.leads list sorted others in (
                more,
                is,
                λ w. (
                  (λ has. ⊎_elim (λ e. (subst (IsWay links d x) (sym e) way, omega (arith, e)))
                      (λ old. let h = (just w).0 old in (h.0, omega (arith, h.1))) ((each w).0 has)),
                  (λ h. elim (cases_eq w m) [
                    | inl e ↦ (each w).1 (inl e)
                    | inr apart ↦ (each w).1 (inr ((just w).1 (h.0, omega (arith, h.1, apart))))
                  ]),
                ),
              )
          | inr none ↦ (
            list,
            sorted,
            λ w. (
              (λ has. let h = (just w).0 has in (h.0, omega (arith, h.1))),
              (λ h. elim (cases_eq w m) [
                | inl e ↦ absurd (none (subst (IsWay links d x) e h.0))
                | inr apart ↦ (just w).1 (h.0, omega (arith, h.1, apart))
              ]),
            ),
          )
        ]

    pub ways_exist : (n : ℕ) → AreBelow n links → (list : List ℕ) × AreWays links d x list
    ways_exist n below =
        let (list, sorted, just) = some_ways n in (
          list,
          record {
            just = λ w. ((λ has. ((just w).0 has).0), (λ way. (just w).1 (way, head_below w way.link)));
            order = sorted_at Near list sorted;
          },
        )
      where
        head_below : (w : ℕ) → Points links x w → w < n
        head_below w (k, low, is) = subst (λ (l : ℕ × ℕ). l.1 < n) is (below k (x, w) low).1

  -- the first of a list of ways is the first way
  first_is : (x w : ℕ) (ws : List ℕ) → AreWays links d x (w ∷ ws) → IsFirstWay links d x w
  first_is x w ws are =
      record {
        way = (are.just w).0 (Contains-head w ws);
        first = λ u way apart. ⊎_elim (λ e. absurd (apart (sym e))) (later u)
            (Contains-cases u w ws ((are.just u).1 way));
      }
    where
      later : (u : ℕ) → Contains ws u → Near w u
      later u (k, low, is) =
          subst (Near w) (get_or_default ws k 0 u low ∙ is) (are.order 0 (suc k) (omega arith) (omega (arith, low)))

  pub first_unique : (x w u : ℕ) → IsFirstWay links d x w → IsFirstWay links d x u → w ≡ u
  first_unique x w u a b = elim (cases_eq w u) [
    | inl e ↦ e
    | inr apart ↦ absurd (asymmetric w u (a.first u b.way (λ e. apart (sym e))) (b.first w a.way apart))
  ]

  pub nearest_unique : (x : ℕ) (a b : List ℕ) → IsNearestWalk links d x a → IsNearestWalk links d x b → a ≡ b
  nearest_unique x [] [] p q = refl
  nearest_unique x [] (y ∷ ys) p q = absurd (q.0 p)
  nearest_unique x (y ∷ ys) [] p q = absurd (p.0 q)
  nearest_unique x (y ∷ ys) (z ∷ zs) p q =
      let same = first_unique x y z p.1 q.1 in
      ap (λ (w : ℕ). w ∷ ys) same
      ∙ ap (λ (ws : List ℕ). z
      ∷ ws) (nearest_unique z ys zs (subst (λ (w : ℕ). IsNearestWalk links d w ys) same p.2) q.2)

  -- a node with a distance above 0 has a way that is one link nearer
  way_nearer : (x k : ℕ) → IsDistance links d x (suc k) → (w : ℕ) × IsWay links d x w × IsDistance links d w k
  way_nearer x k is = go is.nodes is.path is.leads is.long is.least
    where
      go : (vs : List ℕ) → IsPath links x vs → end_of x vs ≡ d → length vs ≡ suc k
          → ((others : List ℕ) → IsPath links x others → end_of x others ≡ d → suc k ≤ length others)
          → (w : ℕ) × IsWay links d x w × IsDistance links d w k
      go [] path ends long least = absurd (omega (arith, long))
      go (w ∷ ws) path ends long least = (
        w,
        record { link = path.0; leads = (ws, (path.1, ends)) },
        record {
          nodes = ws;
          path = path.1;
          leads = ends;
          long = omega (arith, long);
          least = λ others goes leads. omega (arith, least (w ∷ others) (path.0, goes) leads);
        },
      )

  module _ (n : ℕ) (below : AreBelow n links) (decide : (w : ℕ) → HasPath links w d ⊎ ¬ HasPath links w d) where
    walk_of : (k x : ℕ) → IsDistance links d x k → (rest : List ℕ) × IsNearestWalk links d x rest
    walk_of zero x is = ([], at is.nodes is.leads is.long)
      where
        at : (vs : List ℕ) → end_of x vs ≡ d → length vs ≡ zero → x ≡ d
        at [] ends long = ends
        at (v ∷ vs) ends long = absurd (omega (arith, long))
    walk_of (suc k) x is = go (ways_exist decide x n below) (walk_of k)
      where
        apart : ¬ (x ≡ d)
        apart e = omega (arith, is.least [] tt e)

        go : (list : List ℕ) × AreWays links d x list
            → ((w : ℕ) → IsDistance links d w k → (rest : List ℕ) × IsNearestWalk links d w rest)
            → (rest : List ℕ) × IsNearestWalk links d x rest
        go ([], are) on =
            let (w, way, near) = way_nearer x k is in
            absurd (Contains-none w ((are.just w).1 way))
        go (w ∷ ws, are) on =
            let first = first_is x w ws are in
            let (j, near, more) = first_nearer links d x w (suc k) apart first is in
            let same : j ≡ k = omega (arith, more) in
            let (rest, walk) = on w (subst (IsDistance links d w) same near) in
            (w ∷ rest, (apart, first, walk))

    pub nearest_exists : (x : ℕ) → HasPath links x d → (rest : List ℕ) × IsNearestWalk links d x rest
    nearest_exists x path = let (k, is) = distance_exists links d x path in walk_of k x is
