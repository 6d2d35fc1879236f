-- What the definitions of distances and ways imply.
use Rattle.std.proofs.Common.{Contains, List, [], arith, eqb, ne_eqb, inl, inr, length}
use Rattle.std.proofs.Common.{refl, slice_index, subst, suc, sym, ℕ, ⊎_elim, ◌+◌, ◌<◌, ◌∙◌, ◌∷◌, ◌≡◌, ◌≢◌, ◌≤◌, ◌++◌}
use Rattle.std.specs.List.{IsDistinct}
use Rattle.std.proofs.lemmas.Bool.{cases_eq}
use Rattle.std.proofs.lemmas.List.{append-nil, append_assoc, ext_get_or, get_or_default}
use Rattle.std.proofs.lemmas.Map.Keys.{IsDistinct-from_apart}
use Rattle.fr_core.proofs.Following.{path_distinct}
use Rattle.fr_graph.proofs.Members.{Contains-cases, Contains-head, Contains-tail}
use Rattle.fr_graph.proofs.Linking.{link_below}
use Rattle.fr_graph.specs.Network.{Network}
use Rattle.fr_graph.specs.Links.{HasPath, IsAcyclic, IsNet, IsPath, Points, end_of}
use Rattle.fr_nearest.specs.Distances.{AreDistances, IsDistance, IsMeasured, IsMeasureOf, Measured}
use Rattle.fr_nearest.specs.Distances.{no_distance}
use Rattle.fr_nearest.specs.Laws.{IsWalkByWays}
use Rattle.fr_nearest.specs.Ways.{AreWays, IsFirstWay, IsNearer, IsNearestWalk, IsWay}

pub one_distance : (links : List (ℕ × ℕ)) (d x k l : ℕ) → IsDistance links d x k → IsDistance links d x l → k ≡ l
one_distance links d x k l h g =
    omega (arith, h.least g.nodes g.path g.leads, g.long, g.least h.nodes h.path h.leads, h.long)

pub has_path : {links : List (ℕ × ℕ)} {d x k : ℕ} → IsDistance links d x k → HasPath links x d
has_path h = (h.nodes, (h.path, h.leads))

same_number : (links : List (ℕ × ℕ)) (d x v w : ℕ) → IsMeasured links d x v → IsMeasured links d x w → v ≡ w
same_number links d x v w h g = elim (cases_eq v no_distance) [
  | inl e ↦ elim (cases_eq w no_distance) [
    | inl f ↦ e ∙ sym f
    | inr some ↦ absurd (h.none e (has_path (g.some some)))
  ]
  | inr some ↦ elim (cases_eq w no_distance) [
    | inl f ↦ absurd (g.none f (has_path (h.some some)))
    | inr other ↦ one_distance links d x v w (h.some some) (g.some other)
  ]
]

pub one_table : (n : ℕ) (links : List (ℕ × ℕ)) (d : ℕ) (some other : List ℕ) → AreDistances n links d some
    → AreDistances n links d other → some ≡ other
one_table n links d some other h g = ext_get_or 0 some other (h.one_each ∙ sym g.one_each) (λ x l.
    let low : x < n = omega (arith, l, h.one_each) in
    same_number links d x (slice_index some x) (slice_index other x) (h.each x low) (g.each x low))

-- of two nodes only one is nearer
one_nearer : {links : List (ℕ × ℕ)} {d w u : ℕ} → IsNearer links d w u → ¬ IsNearer links d u w
one_nearer {links} {d} {w} {u} h g =
    let e = one_distance links d w h.near g.far h.this g.other in
    let f = one_distance links d u h.far g.near h.other g.this in
    ⊎_elim
    (λ a. ⊎_elim (λ b. omega (arith, a, b, e, f)) (λ b. omega (arith, a, b.0, e, f)) g.before)
    (λ a. ⊎_elim (λ b. omega (arith, a.0, b, e, f)) (λ b. omega (arith, a.1, b.1)) g.before)
    h.before

-- two lists that are sorted so and have the same elements are equal
abbrev Rises : List (ℕ × ℕ) → ℕ → List ℕ → Type 0
Rises links d xs = (i j : ℕ) → i < j → j < length xs → IsNearer links d (slice_index xs i) (slice_index xs j)

rises_tail : (links : List (ℕ × ℕ)) (d x : ℕ) (xs : List ℕ) → Rises links d (x ∷ xs) → Rises links d xs
rises_tail links d x xs r i j lt l = r (suc i) (suc j) (omega arith) (omega arith)

rises_head : (links : List (ℕ × ℕ)) (d x : ℕ) (xs : List ℕ) (e : ℕ) → Rises links d (x ∷ xs) → Contains xs e
    → IsNearer links d x e
rises_head links d x xs e r (k, l, is) =
    subst (λ (q : ℕ). IsNearer links d x q) (get_or_default xs k 0 e l ∙ is) (r 0 (suc k) (omega arith) (omega (
      arith,
      l,
    )))

rising_same : (links : List (ℕ × ℕ)) (d : ℕ) (xs ys : List ℕ) → Rises links d xs → Rises links d ys
    → ((e : ℕ) → Contains xs e → Contains ys e)
    → ((e : ℕ) → Contains ys e → Contains xs e) → xs ≡ ys
rising_same links d [] [] r s to from = refl
rising_same links d [] (y ∷ ys) r s to from = let h = from y (Contains-head y ys) in absurd (omega (arith, h.1))
rising_same links d (x ∷ xs) [] r s to from = let h = to x (Contains-head x xs) in absurd (omega (arith, h.1))
rising_same links d (x ∷ xs) (y ∷ ys) r s to from =
    let heads : x ≡ y = elim (Contains-cases x y ys (to x (Contains-head x xs))) [
      | inl e ↦ sym e
      | inr h ↦ elim (Contains-cases y x xs (from y (Contains-head y ys))) [
        | inl e ↦ e
        | inr g ↦ absurd (one_nearer (rises_head links d y ys x s h) (rises_head links d x xs y r g))
      ]
    ] in
    let apart : (e : ℕ) → Contains xs e → ¬ (y ≡ e) = λ e h q.
    let near : IsNearer links d x x =
    subst (λ (z : ℕ). IsNearer links d x z) (sym q
    ∙ sym heads) (rises_head links d x xs e r h) in one_nearer near near in
    let other : (e : ℕ) → Contains ys e → ¬ (x ≡ e) = λ e h q.
    let near : IsNearer links d y y =
    subst (λ (z : ℕ). IsNearer links d y z) (sym q ∙ heads) (rises_head links d y ys e s h) in one_nearer near near in
    let tails : xs ≡ ys = rising_same links d xs ys (rises_tail links d x xs r) (rises_tail links d y ys s)
    (λ e h. ⊎_elim (λ q. absurd (apart e h q)) (λ g. g) (Contains-cases e y ys (to e (Contains-tail e x xs h))))
    (λ e h. ⊎_elim (λ q. absurd (other e h q)) (λ g. g) (Contains-cases e x xs (from e (Contains-tail e y ys h)))) in
    cc

-- no two elements of the list are equal
pub distinct_of : (list : List ℕ) → ((i j : ℕ) → i < j → j < length list → slice_index list i ≢ slice_index list j)
    → IsDistinct eqb list
distinct_of list apart = IsDistinct-from_apart eqb list (λ i j d lt inside. ne_eqb _ _ (λ same. apart i j lt inside
    (sym (get_or_default list i d 0 (omega (arith, lt, inside))) ∙ same ∙ get_or_default list j d 0 inside)))

pub ways_once : {links : List (ℕ × ℕ)} {d x : ℕ} {list : List ℕ} → AreWays links d x list → IsDistinct eqb list
ways_once {links} {d} {x} {list} h = distinct_of list (λ i j lt inside same.
    let near : IsNearer links d (slice_index list j) (slice_index list j) =
    subst (λ (z : ℕ). IsNearer links d z (slice_index list j)) same (h.order i j lt inside) in
    one_nearer near near)

pub one_list : (links : List (ℕ × ℕ)) (d x : ℕ) (some other : List ℕ) → AreWays links d x some
    → AreWays links d x other → some ≡ other
one_list links d x some other h g =
    rising_same links d some other h.order g.order (λ w c. (g.just w).1 ((h.just w).0 c))
    (λ w c. (h.just w).1 ((g.just w).0 c))

-- the first link of a shortest path leads one link nearer
pub second : {links : List (ℕ × ℕ)} {d x k : ℕ} → ¬ (x ≡ d) → IsDistance links d x k
    → (w : ℕ) × Points links x w × ((j : ℕ) × IsDistance links d w j × (k ≡ j + 1))
second {links} {d} {x} {k} apart h = go h.nodes h.path h.leads h.long
  where
    go : (vs : List ℕ) → IsPath links x vs → end_of x vs ≡ d → length vs ≡ k
        → (w : ℕ) × Points links x w × ((j : ℕ) × IsDistance links d w j × (k ≡ j + 1))
    go [] path leads long = absurd (apart leads)
    go (w ∷ ws) path leads long = (
      w,
      path.0,
      (
        length ws,
        record {
          nodes = ws;
          path = path.1;
          leads = leads;
          long = refl;
          least =
              λ others other there. let whole =
              h.least (w ∷ others) (path.0, other) there in omega (arith, whole, long);
        },
        omega (arith, long),
      ),
    )

pub first_nearer : (links : List (ℕ × ℕ)) (d x y k : ℕ) → ¬ (x ≡ d) → IsFirstWay links d x y → IsDistance links d x k
    → (j : ℕ) × IsDistance links d y j × (k ≡ j + 1)
first_nearer links d x y k apart first h =
    let (w, link, (j, at, is)) = second apart h in
    elim (cases_eq w y) [
      | inl e ↦ (j, subst (λ (z : ℕ). IsDistance links d z j) e at, is)
      | inr other ↦
          let near = first.first w record { link = link; leads = has_path at } other in
          let far = one_distance links d w near.far j near.other at in
          let most : near.near ≤ near.far = ⊎_elim (λ l. omega (arith, l)) (λ l. omega (arith, l.0)) near.before in
          let least = h.least (y ∷ near.this.nodes) (first.way.link, near.this.path) near.this.leads in
          (near.near, near.this, omega (arith, is, far, most, least, near.this.long))
    ]

-- if the walk goes on by the first way
longer : (links : List (ℕ × ℕ)) (d x y k : ℕ) → ¬ (x ≡ d) → IsFirstWay links d x y → IsDistance links d y k
    → IsDistance links d x (k + 1)
longer links d x y k apart first h = record {
  nodes = y ∷ h.nodes;
  path = (first.way.link, h.path);
  leads = h.leads;
  long = omega (arith, h.long);
  least = go;
}
  where
    go : (others : List ℕ) → IsPath links x others → end_of x others ≡ d → k + 1 ≤ length others
    go [] path leads = absurd (apart leads)
    go (w ∷ ws) path leads = elim (cases_eq w y) [
      | inl e ↦
          let least =
          h.least ws (subst (λ (z : ℕ). IsPath links z ws) e path.1) (subst (λ (z : ℕ). end_of z ws ≡ d) e leads) in
          omega (arith, least)
      | inr other ↦
          let near = first.first w record { link = path.0; leads = (ws, (path.1, leads)) } other in
          let is = one_distance links d y near.near k near.this h in
          let least = near.other.least ws path.1 leads in
          let most : near.near ≤ near.far = ⊎_elim (λ l. omega (arith, l)) (λ l. omega (arith, l.0)) near.before in
          omega (arith, is, least, most)
    ]

pub walk_shortest : (links : List (ℕ × ℕ)) (d x : ℕ) (rest : List ℕ) → IsNearestWalk links d x rest
    → IsPath links x rest × (end_of x rest ≡ d) × IsDistance links d x (length rest)
walk_shortest links d x [] e =
    (tt, e, record { nodes = []; path = tt; leads = e; long = refl; least = λ others _ _. omega arith })
walk_shortest links d x (y ∷ ys) (apart, first, walk) =
    let (path, leads, is) = walk_shortest links d y ys walk in (
      (first.way.link, path),
      leads,
      subst (λ (k : ℕ). IsDistance links d x k) (omega arith) (longer links d x y (length ys) apart first is),
    )

path_by_ways : (links : List (ℕ × ℕ)) (d x : ℕ) (rest : List ℕ) → IsWalkByWays links d x rest → IsPath links x rest
path_by_ways links d x [] h = tt
path_by_ways links d x (y ∷ ys) (way, walk) = (way.link, path_by_ways links d y ys walk)

pub ways_distinct : (links : List (ℕ × ℕ)) (d x : ℕ) (rest : List ℕ) → IsAcyclic links → IsWalkByWays links d x rest
    → IsDistinct eqb (x ∷ rest)
ways_distinct links d x rest acyclic walk = path_distinct links acyclic x rest (path_by_ways links d x rest walk)

-- without a cycle, no way leads from the destination
pub no_way_home : {links : List (ℕ × ℕ)} {d w : ℕ} → IsAcyclic links → ¬ IsWay links d d w
no_way_home {links} {d} {w} acyclic way = acyclic d (w ∷ way.leads.0) ((way.link, way.leads.1.0), way.leads.1.1)

-- The walk by first ways, step by step

module _ (net : Network) (m : Measured) (at : ℕ) (is_net : IsNet net.nodes net.links) (are : IsMeasureOf net m)
    (low : at < net.nodes)
    (some : slice_index m.table at ≢ no_distance) where
  own : IsDistance net.links m.dest at (slice_index m.table at)
  own = (are.each at low).some some

  pub not_home : (next : ℕ) → IsFirstWay net.links m.dest at next → ¬ (at ≡ m.dest)
  not_home next first e = no_way_home is_net.acyclic (subst (λ (z : ℕ). IsWay net.links m.dest z next) e first.way)

  pub next_low : (next : ℕ) → IsFirstWay net.links m.dest at next → next < net.nodes
  next_low next first = (link_below net.nodes net.links at next is_net first.way.link).1

  pub next_some : (next : ℕ) → IsFirstWay net.links m.dest at next → slice_index m.table next ≢ no_distance
  next_some next first none = (are.each next (next_low next first)).none none first.way.leads

  pub next_nearer : (next : ℕ) → IsFirstWay net.links m.dest at next
      → slice_index m.table at ≡ slice_index m.table next + 1
  next_nearer next first =
      let (j, there, is) =
      first_nearer net.links m.dest at next (slice_index m.table at) (not_home next first) first own in
      let same =
      one_distance net.links m.dest next j (slice_index m.table next) there
      ((are.each next (next_low next first)).some (next_some next first)) in
      omega (arith, is, same)

  pub home : ((w : ℕ) → ¬ IsWay net.links m.dest at w) → at ≡ m.dest
  home none = elim (cases_eq at m.dest) [
    | inl e ↦ e
    | inr apart ↦
        let (w, link, (j, there, is)) = second apart own in
        absurd (none w record { link = link; leads = has_path there })
  ]

-- the walk so far goes on to a whole walk
pub record GoesOn (links : List (ℕ × ℕ)) (d x at : ℕ) (walk : List ℕ) : Type 0 where
  pub whole : (rest : List ℕ) → IsNearestWalk links d at rest
      → (all : List ℕ) × IsNearestWalk links d x all × (walk ++ rest ≡ x ∷ all)

pub goes_next : {links : List (ℕ × ℕ)} {d x at : ℕ} {walk : List ℕ} (next : ℕ) → ¬ (at ≡ d)
    → IsFirstWay links d at next → GoesOn links d x at walk
    → GoesOn links d x next (walk ++ next ∷ [])
goes_next {links} {d} {x} {at} {walk} next apart first g = record {
  whole = λ rest there.
      let (all, is, same) = g.whole (next ∷ rest) (apart, first, there) in
      (all, is, append_assoc walk (next ∷ []) rest ∙ same);
}

pub goes_home : {links : List (ℕ × ℕ)} {d x at : ℕ} {walk : List ℕ} → at ≡ d → GoesOn links d x at walk
    → (rest : List ℕ) × IsNearestWalk links d x rest × (walk ≡ x ∷ rest)
goes_home {links} {d} {x} {at} {walk} e g =
    let (all, is, same) = g.whole [] e in
    (all, is, sym (append-nil walk) ∙ same)
