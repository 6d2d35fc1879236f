-- How many nodes are cut off, from their hops, and from the counts of the round and the rows before it.
use Rattle.std.proofs.Common.{Bool, Contains, List, [], ◌∷◌, add-one, ap, append_assoc, arith, cond, eq-eqb, eqb-true}
use Rattle.std.proofs.Common.{false, get_or, inl, inr}
use Rattle.std.proofs.Common.{length, map, ne_eqb, refl, slice_index, sym, suc, true, zero, zero-add, ℕ, ⊎_elim, ◌+◌}
use Rattle.std.proofs.Common.{◌++◌, ◌<◌, ◌≤◌, ◌↔◌, ◌∙◌, ◌≡◌}
use Rattle.std.proofs.Common.{◌⊎◌, ◌==◌, IsTrue}
use Rattle.std.specs.List.{All, count_by, filter, range_with_len}
use Rattle.std.specs.Prelude.{not, ◌&&◌, ◌||◌}
use Rattle.std.proofs.lemmas.Bool.{and_parts, cases_eq, cases_lt, false≢true}
use Rattle.std.proofs.lemmas.Bool.Decides.{Decides-and, Decides-eqb, Decides-not, Decides-or}
use Rattle.std.proofs.lemmas.List.{get_or_past, map-id}
use Rattle.std.proofs.lemmas.List.Elements.{All-filter}
use Rattle.std.proofs.lemmas.List.FromFn.{fill_by_all, filter_of_map_range_with_len_more, get_or-range_with_len}
use Rattle.std.proofs.lemmas.List.FromFn.{length-range_with_len}
use Rattle.std.proofs.lemmas.List.Sums.{length-filter}
use Rattle.std.proofs.lemmas.Option.{slice_get-get_or}
use Rattle.fr_graph.specs.Links.{IsAlone, IsNet}
use Rattle.fr_graph.specs.Network.{Network, net_of}
use Rattle.fr_graph.specs.Counts.{links_at}
use Rattle.fr_graph.specs.Rows.{alone_count, has_no_neighbour, row}
use Rattle.fr_graph.proofs.Counting.{count-range_agree, count-range_more, count_by-map}
use Rattle.fr_graph.proofs.Neighbours.{row_alone, row_linked}
use Rattle.fr_core.specs.Settled.{IsSettledCount}
use Rattle.fr_crew.specs.Settlements.{IsCounted}
use Rattle.fr_route.proofs.RoundEnds.{alone_cut_off, capped_cut_off, lawful, round_end, round_joined, round_joins}
use Rattle.fr_route.proofs.RoundEnds.{round_net}
use Rattle.fr_route.proofs.Routing.{route_joined}
use Rattle.fr_graph.proofs.Lists.{into_filter}
use Rattle.fr_route.specs.Outcomes.{cut_off_nodes, lone_count, settled_state}
use Rattle.fr_route.specs.Routes.{IsHop, AreHops, is_cut_off}
use Rattle.fr_route.specs.States.{State, IsCutOff, IsAfterRound, IsCutCount, IsReport, IsRound}
use Rattle.fr_tables.specs.declared.hop.Hop.{Hop}
use Rattle.fr_tables.specs.declared.hop.Hop.TheVariants.{Here, To, CutOff}

same_bool : (a b : Bool) → (IsTrue a ↔ IsTrue b) → a ≡ b
same_bool true true e = refl
same_bool true false e = sym (e.0 refl)
same_bool false true e = e.1 refl
same_bool false false e = refl

pub cut_unique : (n d : ℕ) (links : List (ℕ × ℕ)) (k l : ℕ) → IsCutCount n d links k → IsCutCount n d links l → k ≡ l
cut_unique n d links k l a b =
    a.number
    ∙ (count-range_agree a.is_cut_off b.is_cut_off 0 n (λ x low.
    let below : x < n = omega arith in
    same_bool (a.is_cut_off x) (b.is_cut_off x) (
      (λ e. (b.just x below).1 ((a.just x below).0 e)),
      (λ e. (a.just x below).1 ((b.just x below).0 e)),
    ))
    ∙ sym b.number)

-- the hop of a node says whether it is cut off
pub hop_cut_off : (s : State) (x : ℕ) (hop : Hop) → IsHop s x hop → IsTrue (is_cut_off hop) ↔ IsCutOff s.dest s.links x
hop_cut_off s x Here h = ((λ e. absurd (false≢true e)), (λ cut. absurd (cut.0 h)))
hop_cut_off s x (To y) h =
    ((λ e. absurd (false≢true e)), (λ cut. absurd (cut.1 (route_joined s.links s.dest x (y ∷ h.0) h.1))))
hop_cut_off s x CutOff h = ((λ e. h), (λ cut. refl))

pub hops_cut_count : (s : State) (n : ℕ) (hops : List Hop) → AreHops s n hops
    → IsCutCount n s.dest s.links (count_by is_cut_off hops)
hops_cut_count s n hops are =
    let at : ℕ → Hop = λ x. get_or hops x Here in
    let listed : hops ≡ map at (range_with_len 0 n) = fill_by_all at hops n Here are.one_each (λ k l. refl) in
    record {
      is_cut_off = λ x. is_cut_off (get_or hops x Here);
      just =
          λ x l. hop_cut_off s x (get_or hops x Here)
          (are.each x (get_or hops x Here) (slice_get-get_or hops x Here (omega (arith, are.one_each))));
      number = ap (count_by is_cut_off) listed ∙ count_by-map is_cut_off at (range_with_len 0 n);
    }

-- a test that d does not pass
abbrev pub but : ℕ → (ℕ → Bool) → ℕ → Bool
but d p x = not (x == d) && p x

but_below : (p : ℕ → Bool) (d n : ℕ) → n ≤ d → count_by (but d p) (range_with_len 0 n) ≡ count_by p (range_with_len 0 n)
but_below p d n high = count-range_agree (but d p) p 0 n (λ x low. rw (ne_eqb x d (omega arith)) refl)

-- of the numbers below n that pass, one is d or none is
pub count_but : (p : ℕ → Bool) (d n : ℕ) → d < n
    → count_by p (range_with_len 0 n) ≡ count_by (but d p) (range_with_len 0 n) + cond (p d) 1 0
count_but p d zero low = absurd (omega arith)
count_but p d (suc n) low =
    let weight : Bool → ℕ = λ b. cond b 1 0 in
    let whole : count_by p (range_with_len 0 (suc n)) ≡ count_by p (range_with_len 0 n) + weight (p n) =
    rw add-one at (count-range_more p n) in
    let parted : count_by (but d p) (range_with_len 0 (suc n)) ≡ count_by (but d p) (range_with_len 0 n) + weight
    (but d p n) = rw add-one at (count-range_more (but d p) n) in
    ⊎_elim
    (λ e.
    let here : weight (but d p n) ≡ 0 = rw (eq-eqb n d e) refl in
    let last : weight (p n) ≡ weight (p d) = ap (λ (x : ℕ). weight (p x)) e in
    omega (arith, whole, parted, here, last, but_below p d n (omega arith)))
    (λ apart.
    let here : weight (but d p n) ≡ weight (p n) = rw (ne_eqb n d apart) refl in
    omega (arith, whole, parted, here, count_but p d n (omega arith)))
    (cases_eq n d)

weigh_either : (a b : Bool) → (a ≡ true → b ≡ true → ⊥) → cond (a || b) 1 0 ≡ cond a 1 0 + cond b 1 0
weigh_either true true bar = absurd (bar refl refl)
weigh_either true false bar = refl
weigh_either false true bar = refl
weigh_either false false bar = refl

-- of two tests that nothing passes both, how many pass either
count_either : (p q : ℕ → Bool) (n : ℕ) → ((x : ℕ) → x < n → p x ≡ true → q x ≡ true → ⊥)
    → count_by (λ x. p x || q x) (range_with_len 0 n) ≡ count_by p (range_with_len 0 n)
    + count_by q (range_with_len 0 n)
count_either p q zero bar = refl
count_either p q (suc n) bar =
    let weight : Bool → ℕ = λ b. cond b 1 0 in
    let either : ℕ → Bool = λ x. p x || q x in
    let whole : count_by either (range_with_len 0 (suc n)) ≡ count_by either (range_with_len 0 n) + weight (either n) =
    rw add-one at (count-range_more either n) in
    let left : count_by p (range_with_len 0 (suc n)) ≡ count_by p (range_with_len 0 n) + weight (p n) =
    rw add-one at (count-range_more p n) in
    let right : count_by q (range_with_len 0 (suc n)) ≡ count_by q (range_with_len 0 n) + weight (q n) =
    rw add-one at (count-range_more q n) in
    let here : weight (either n) ≡ weight (p n) + weight (q n) = weigh_either (p n) (q n) (bar n (omega arith)) in
    omega (arith, whole, left, right, here, count_either p q n (λ x low. bar x (omega arith)))

-- which of the numbers from 0 on pass a test, with one more number
filter-range_more : (p : ℕ → Bool) (n : ℕ)
    → filter p (range_with_len 0 (n + 1)) ≡ filter p (range_with_len 0 n) ++ cond (p n) (n ∷ []) []
filter-range_more p n =
    ap (filter p) (sym (map-id (range_with_len 0 (n + 1))))
    ∙ (filter_of_map_range_with_len_more p (λ x. x) 0 n n (zero-add n)
    ∙ ap (λ (xs : List ℕ). filter p xs ++ cond (p n) (n ∷ []) []) (map-id (range_with_len 0 n)))

-- the same after others in a list
pub filtered_more : (p : ℕ → Bool) (n : ℕ) (b : Bool) (before now : List ℕ) → p n ≡ b
    → now ≡ before ++ filter p (range_with_len 0 n)
    → now ++ cond b (n ∷ []) [] ≡ before ++ filter p (range_with_len 0 (n + 1))
filtered_more p n b before now is so_far =
    let last : Bool → List ℕ = λ t. cond t (n ∷ []) [] in
    let so_many : List ℕ = filter p (range_with_len 0 n) in
    ap (λ (xs : List ℕ). xs ++ last b) so_far
    ∙ (append_assoc before so_many (last b)
    ∙ ap (λ (xs : List ℕ). before ++ xs) (ap (λ (t : Bool). so_many ++ last t) (sym is) ∙ sym (filter-range_more p n)))

count_listed : (p : ℕ → Bool) (xs : List ℕ) (n : ℕ) → length xs ≡ n
    → count_by p xs ≡ count_by (λ x. p (slice_index xs x)) (range_with_len 0 n)
count_listed p xs n long =
    let at : ℕ → ℕ = λ x. slice_index xs x in
    ap (count_by p) (fill_by_all at xs n 0 long (λ k l. refl)) ∙ count_by-map p at (range_with_len 0 n)

-- how many nodes have no link, if d is one of them and if not
pub alone_there : (n : ℕ) (links : List (ℕ × ℕ)) (d : ℕ) → d < n → length (row n links d) ≡ 0
    → alone_count n links ≡ lone_count n links d + 1
alone_there n links d below none =
    let weight : Bool → ℕ = λ b. cond b 1 0 in
    let one : weight (has_no_neighbour n links d) ≡ 1 = rw (eq-eqb (length (row n links d)) 0 none) refl in
    omega (arith, count_but (has_no_neighbour n links) d n below, one)

pub alone_elsewhere : (n : ℕ) (links : List (ℕ × ℕ)) (d : ℕ) → d < n → ¬ (length (row n links d) ≡ 0)
    → alone_count n links ≡ lone_count n links d
alone_elsewhere n links d below some =
    let weight : Bool → ℕ = λ b. cond b 1 0 in
    let nothing : weight (has_no_neighbour n links d) ≡ 0 = rw (ne_eqb (length (row n links d)) 0 some) refl in
    omega (arith, count_but (has_no_neighbour n links) d n below, nothing)

-- a row is empty exactly if no link joins its node
pub alone_just : (n : ℕ) (links : List (ℕ × ℕ)) → IsNet n links → (x : ℕ)
    → IsTrue (has_no_neighbour n links x) ↔ IsAlone links x
alone_just n links net x = (
  (λ e. row_alone n links x net (eqb-true (length (row n links x)) 0 e)),
  (λ alone. ⊎_elim
      (λ e. eq-eqb (length (row n links x)) 0 e)
      (λ some. let link = row_linked n links x (omega (arith, some)) in absurd (alone link.0 link.1))
      (cases_eq (length (row n links x)) 0)),
)

-- after a round, the nodes that are cut off are those that have turned as often as there are nodes, and those without a
-- link except the destination
module _ (n d : ℕ) (first : List (ℕ × ℕ)) (s : State) (net : IsNet n first) (below : d
    < n) (round : IsRound n d first s)
    (alone : ℕ → Bool) (just : (x : ℕ) → x < n → IsTrue (alone x) ↔ IsAlone first x) where
  abbrev capped : ℕ → Bool
  capped x = slice_index s.counts x == n

  never_capped : (x : ℕ) → slice_index s.counts x ≡ 0 → ¬ (slice_index s.counts x ≡ n)
  never_capped x none e = omega (arith, none, e, below)

  cut_off_from : (x : ℕ) → x < n → (¬ (x ≡ d) × IsTrue (alone x)) ⊎ (slice_index s.counts x ≡ n) → IsCutOff d s.links x
  cut_off_from x low (inl lone) = alone_cut_off n d first s net below round x lone.0 ((just x low).0 lone.1)
  cut_off_from x low (inr cap) =
      capped_cut_off n d first s net below round x
      (λ e. never_capped x (ap (slice_index s.counts) e ∙ (lawful n d first s net below round).destination) cap) cap

  cut_off_to : (x : ℕ) → x < n → IsCutOff d s.links x → (¬ (x ≡ d) × IsTrue (alone x)) ⊎ (slice_index s.counts x ≡ n)
  cut_off_to x low cut = go (round.counts.settled x low)
    where
      go : IsSettledCount n d first x (slice_index s.counts x)
          → (¬ (x ≡ d) × IsTrue (alone x)) ⊎ (slice_index s.counts x ≡ n)
      go (inl lone) = inl (cut.0, (just x low).1 lone.0)
      go (inr (inl least)) =
          absurd (cut.1 ((round_joined n d first s net below round x).0 (slice_index s.counts x, least.1.reached)))
      go (inr (inr cap)) = inr cap.2

  cut_just : (x : ℕ) → x < n → IsTrue (but d alone x || capped x) ↔ IsCutOff d s.links x
  cut_just x low =
      let decides = Decides-or (but d alone x) (capped x)
      (Decides-and (not (x == d)) (alone x) (Decides-not (x == d) (Decides-eqb x d)) ((λ e. e), (λ e. e)))
      (Decides-eqb (slice_index s.counts x) n) in
      ((λ e. cut_off_from x low (decides.0 e)), (λ cut. decides.1 (cut_off_to x low cut)))

  never_both : (x : ℕ) → x < n → but d alone x ≡ true → capped x ≡ true → ⊥
  never_both x low lone cap =
      never_capped x ((lawful n d first s net below round).alone x
      ((just x low).0 (and_parts (not (x == d)) (alone x) lone).1)) (eqb-true (slice_index s.counts x) n cap)

  pub cut_count : IsCutCount n d s.links (count_by (but d alone) (range_with_len 0 n)
      + count_by (λ count. count == n) s.counts)
  cut_count = record {
    is_cut_off = λ x. but d alone x || capped x;
    just = cut_just;
    number =
        ap (λ (k : ℕ). count_by (but d alone) (range_with_len 0 n)
        + k) (count_listed (λ count. count == n) s.counts n round.counts.one_each)
        ∙ sym (count_either (but d alone) capped n never_both);
  }

module _ (net : Network) (d : ℕ) (counts : List ℕ) (is : IsNet net.nodes net.links)
    (counted : IsCounted net.nodes d net.links counts) where
  pub ended : IsRound net.nodes d net.links (settled_state net d counts)
  ended = round_end net.nodes d net.links counts (net_of net.nodes (links_at net.links counts)) counted.settled refl

  pub after_outcome : IsAfterRound (settled_state net d counts)
  after_outcome = record { first = net.links; is_net = is; dest = counted.destination; round = ended }

  -- from the rows before the round
  pub cut_by_rows : IsCutCount net.nodes d (settled_state net d counts).links (lone_count net.nodes net.links d
      + count_by (λ count. count == net.nodes) counts)
  cut_by_rows = cut_count net.nodes d net.links (settled_state net d counts) is counted.destination ended
      (has_no_neighbour net.nodes net.links) (λ x low. alone_just net.nodes net.links is x)

module _ (s : State) (after : IsAfterRound s) where
  -- the nodes with links that the round cut off are those that have turned as often as there are nodes
  pub capped_cut : (x : ℕ) → slice_index s.counts x ≡ s.nodes → Contains (cut_off_nodes s) x
  capped_cut x is =
      let long : length s.counts ≡ s.nodes = after.round.counts.one_each in
      let low : x < s.nodes = ⊎_elim
      (λ l. l)
      (λ past. absurd (omega (arith, is, after.dest, get_or_past s.counts x 0 (omega (arith, past, long)))))
      (cases_lt x s.nodes) in
      into_filter (λ (y : ℕ). slice_index s.counts y == s.nodes) (range_with_len 0 s.nodes) x
      (x, omega (arith, low, length-range_with_len 0 s.nodes), omega (arith, get_or-range_with_len 0 s.nodes x x low))
      (eq-eqb (slice_index s.counts x) s.nodes is)

  pub cut_below : All (λ (x : ℕ). x < s.nodes) (cut_off_nodes s)
  cut_below =
      All-filter (λ (x : ℕ). slice_index s.counts x == s.nodes) (λ (x : ℕ). x < s.nodes) (range_with_len 0 s.nodes)
      (λ k d low. let inside : k < s.nodes = omega (arith, low, length-range_with_len 0 s.nodes) in
      omega (arith, inside, get_or-range_with_len 0 s.nodes k d inside))

  alone_first : (x : ℕ) → x < s.nodes → IsTrue (has_no_neighbour s.nodes s.links x) ↔ IsAlone after.first x
  alone_first x low =
      let is =
      alone_just s.nodes s.links (round_net s.nodes s.dest after.first s after.is_net after.dest after.round) x in
      let joins = round_joins s.nodes s.dest after.first s after.is_net after.dest after.round x in
      ((λ e w h. (is.0 e) w ((joins w).0 h)), (λ alone. is.1 (λ w h. alone w ((joins w).1 h))))

  -- the round reports them and the nodes without a link
  pub reported_cut : (turned cut : ℕ) → IsReport s turned cut
      → cut ≡ lone_count s.nodes s.links s.dest + length (cut_off_nodes s)
  reported_cut turned cut report =
      let lone : ℕ = lone_count s.nodes s.links s.dest in
      let capped : ℕ → Bool = λ count. count == s.nodes in
      let listed : count_by capped s.counts ≡ length (cut_off_nodes s) =
      count_listed capped s.counts s.nodes after.round.counts.one_each
      ∙ sym (length-filter (λ (x : ℕ). slice_index s.counts x == s.nodes) (range_with_len 0 s.nodes)) in
      cut_unique s.nodes s.dest s.links cut (lone + count_by capped s.counts) report.cut_off
      (cut_count s.nodes s.dest after.first s after.is_net after.dest after.round (has_no_neighbour s.nodes s.links)
      alone_first)
      ∙ ap (λ (k : ℕ). lone + k) listed
