-- The list of the nodes that have turned: how it is made, and how turns are added.
use Rattle.std.proofs.Common.{All, Contains, List, [], ap, arith, eq-eqb, eqb, get_or, get_or-set_other, get_or-set_same, inl, inr, length}
use Rattle.std.proofs.Common.{length-set, map, ne_eqb, refl, replicate, set, subst, suc, sum, sum_by, sym, ℕ, ◌++◌, ◌*◌, ◌+◌, ◌<◌, ◌∙◌, ◌∷◌, ◌≡◌, ◌≤◌}
use Rattle.std.proofs.Common.{◌↔◌}
use Rattle.std.proofs.lemmas.Bool.{cases_Bool, cases_eq, cases_lt, cond-false, cond-true, false≢true}
use Rattle.std.proofs.lemmas.List.{ext_get_or, get_or-map, get_or-replicate, get_or_default, get_or_past, length-map, length-replicate, length_push}
use Rattle.std.proofs.lemmas.List.Elements.{Contains-append_left, Contains-get_or, Contains-push, Contains-push_cases}
use Rattle.std.proofs.lemmas.List.Sums.{sum_by-cons, sum_by-set}
use Rattle.std.proofs.lemmas.List.Folds.{sum_by-replicate}
use Rattle.std.proofs.lemmas.Map.Keys.{IsDistinct-from_apart}
use Rattle.std.proofs.lemmas.Map.Steps.{length-le_from_distinct_below}
use Rattle.std.proofs.lemmas.Map.Views.{Contains-from_any}
use Rattle.fr_graph.proofs.Members.{Contains-cases, Contains-head, Contains-none, Contains-tail}
use Rattle.fr_graph.specs.Turns.{AreSet, AreTurned, set_to}
use Rattle.fr_graph.proofs.Lists.{once_more}

-- there is a count for each node that has turned
pub turned_inside : (counts : List ℕ) (y : ℕ) → 0 < get_or counts y 0 → y < length counts
turned_inside counts y turned = elim (cases_lt y (length counts)) [
  | inl inside ↦ inside
  | inr past ↦ absurd (omega (arith, turned, get_or_past counts y 0 past))
]

-- a list has exactly the nodes below x that have turned
abbrev pub AreListed : List ℕ → ℕ → List ℕ → Type 0
AreListed counts x list = (z : ℕ) → Contains list z ↔ ((z < x) × (0 < get_or counts z 0))

-- the same for those below the next node, which has turned or not
pub one_listed : (counts : List ℕ) (x : ℕ) (list : List ℕ) → 0 < get_or counts x 0 → AreListed counts x list → AreListed counts (x + 1) (list ++ x ∷ [])
one_listed counts x list turned listed z = (
  λ stands. elim (Contains-push_cases list x z stands) [
    | inl old ↦ let at = (listed z).0 old in (omega (arith, at.0), at.1)
    | inr it ↦ (omega (arith, it), subst (λ (w : ℕ). 0 < get_or counts w 0) it turned)
  ],
  λ (below, some). elim (cases_lt z x) [
    | inl early ↦ Contains-append_left list (x ∷ []) z ((listed z).1 (early, some))
    | inr from ↦ let it : x ≡ z = omega (arith, below, from) in subst (Contains (list ++ x ∷ [])) it (Contains-push list x)
  ],
)

pub none_listed : (counts : List ℕ) (x : ℕ) (list : List ℕ) → get_or counts x 0 ≡ 0 → AreListed counts x list → AreListed counts (x + 1) list
none_listed counts x list none listed z = (
  λ stands. let at = (listed z).0 stands in (omega (arith, at.0), at.1),
  λ (below, some). (listed z).1 (elim (cases_eq z x)
      [ inl it ↦ absurd (omega (arith, some, none, ap (λ (w : ℕ). get_or counts w 0) it)) | inr apart ↦ (omega (arith, below, apart), some) ]),
)

pub all_listed : (counts : List ℕ) (x : ℕ) (list : List ℕ) → length counts ≤ x → AreListed counts x list → (z : ℕ) → Contains list z ↔ (0 < get_or counts z 0)
all_listed counts x list all listed z = (λ stands. ((listed z).0 stands).1, λ turned. (listed z).1 (omega (arith, turned_inside counts z turned, all), turned))

-- counts that are set at the nodes that have turned
pub each_set : (counts after nodes : List ℕ) (count : ℕ) → AreTurned counts nodes → length after ≡ length counts
    → AreSet nodes count counts after → after ≡ map (set_to count) counts
each_set counts after nodes count listed same set =
    ext_get_or 0 after (map (set_to count) counts) (same ∙ sym (length-map counts (set_to count)))
    (λ x inside.
    let here : get_or (map (set_to count) counts) x 0 ≡ set_to count (get_or counts x 0) =
    get_or-map (set_to count) counts x 0 0 (omega (arith, inside, same)) in
    elim (cases_eq (get_or counts x 0) 0) [
      | inl none ↦
          let out : ¬ Contains nodes x = λ h. absurd (omega (arith, none, (listed.each x).0 h)) in
          set.others x out ∙ none ∙ sym (here ∙ cond-true _ _ _ (eq-eqb _ _ none))
      | inr some ↦ set.these x ((listed.each x).1 (omega (arith, some))) ∙ sym (here ∙ cond-false _ _ _ (ne_eqb _ _ some))
    ])

-- no node has turned after their counts are set to 0
pub all_cleared : (counts : List ℕ) → map (set_to 0) counts ≡ replicate (length counts) 0
all_cleared [] = refl
all_cleared (count ∷ counts) = elim (cases_Bool (eqb count 0)) [ inl t ↦ rw (t, all_cleared counts) refl | inr f ↦ rw (f, all_cleared counts) refl ]

-- the same nodes have turned after their counts are set to a number other than 0
pub still_turned : (counts nodes : List ℕ) (count : ℕ) → 0 < count → AreTurned counts nodes → AreTurned (map (set_to count) counts) nodes
still_turned counts nodes count some listed = record {
  once = listed.once;
  each = λ x. (
    λ h.
        let turned = (listed.each x).0 h in
        let here : get_or (map (set_to count) counts) x 0 ≡ set_to count (get_or counts x 0) =
        get_or-map (set_to count) counts x 0 0 (turned_inside counts x turned) in
        omega (arith, here, some, cond-false (eqb (get_or counts x 0) 0) 0 count (ne_eqb _ _ (λ none. omega (arith, none, turned)))),
    λ turned. elim (cases_eq (get_or counts x 0) 0) [
      | inr before ↦ (listed.each x).1 (omega (arith, before))
      | inl none ↦
          let inside : x < length counts = omega (arith, turned_inside (map (set_to count) counts) x turned, length-map counts (set_to count)) in
          let here : get_or (map (set_to count) counts) x 0 ≡ set_to count (get_or counts x 0) = get_or-map (set_to count) counts x 0 0 inside in
          absurd (omega (arith, turned, here, cond-true (eqb (get_or counts x 0) 0) 0 count (eq-eqb _ _ none)))
    ],
  );
}

-- the sum over a list depends only on its elements
sum_by-alike : (f g : ℕ → ℕ) (xs : List ℕ) → ((x : ℕ) → Contains xs x → f x ≡ g x) → sum_by f xs ≡ sum_by g xs
sum_by-alike f g [] same = refl
sum_by-alike f g (x ∷ xs) same =
    sum_by-cons f x xs ∙ sym (sum_by-cons g x xs
    ∙ ap (λ (n : ℕ). g x + n) (sym (sum_by-alike f g xs (λ y h. same y (Contains-tail y x xs h))))
    ∙ ap (λ (n : ℕ). n + sum_by f xs) (sym (same x (Contains-head x xs))))

-- the turns of the nodes that have turned are all turns
pub sum_listed : (nodes counts : List ℕ) → AreTurned counts nodes → sum_by (λ x. get_or counts x 0) nodes ≡ sum counts
sum_listed [] counts listed =
    let zeros : counts ≡ replicate (length counts) 0 = each_set counts counts [] 0 listed refl (record {
      these = λ x h. absurd (Contains-none x h);
      others = λ x out. refl;
    }) ∙ all_cleared counts in
    let none : sum (replicate (length counts) 0) ≡ length counts * 0 = sum_by-replicate (λ (count : ℕ). count) (length counts) 0 in
    let all : sum counts ≡ sum (replicate (length counts) 0) = ap sum zeros in
    omega (arith, none, all)
sum_listed (x ∷ nodes) counts listed =
    let turned = (listed.each x).0 (Contains-head x nodes) in
    let rest = set counts x 0 in
    let here : get_or rest x 0 ≡ 0 = get_or-set_same counts x 0 0 (turned_inside counts x turned) in
    let stays : (y : ℕ) → ¬ (y ≡ x) → get_or rest y 0 ≡ get_or counts y 0 = λ y other. get_or-set_other counts x y 0 0 other in
    let apart : ¬ Contains nodes x = λ h. listed.once 0 (suc h.0) (omega arith) (omega (arith, h.1)) (sym h.2 ∙ get_or_default nodes h.0 x 0 h.1) in
    let fewer : AreTurned rest nodes = record {
      once = λ i j lt l. listed.once (suc i) (suc j) (omega (arith, lt)) (omega (arith, l));
      each = λ y. elim (cases_eq y x) [
        | inl it ↦ rw it ((λ h. absurd (apart h)), (λ t. absurd (omega (arith, here, t))))
        | inr other ↦ (
          λ h. omega (arith, stays y other, (listed.each y).0 (Contains-tail y x nodes h)),
          λ t. elim (Contains-cases y x nodes ((listed.each y).1 (omega (arith, stays y other, t)))) [
            | inl same ↦ absurd (other (sym same))
            | inr h ↦ h
          ],
        )
      ];
    } in
    let others : sum_by (λ y. get_or counts y 0) nodes ≡ sum_by (λ y. get_or rest y 0) nodes =
    sum_by-alike (λ y. get_or counts y 0) (λ y. get_or rest y 0) nodes (λ y h. sym (stays y (λ it. apart (subst (Contains nodes) it h)))) in
    let all : sum rest + get_or counts x 0 ≡ sum counts + 0 = sum_by-set (λ (count : ℕ). count) counts x 0 0 (turned_inside counts x turned) in
    omega (arith, sum_by-cons (λ y. get_or counts y 0) x nodes, others, sum_listed nodes rest fewer, all)

-- no node has turned if all counts are 0
pub none_turned : (n : ℕ) → AreTurned (replicate n 0) []
none_turned n = record {
  once = λ i j lt l same. absurd (omega (arith, l));
  each = λ x. (
    λ h. absurd (omega (arith, h.1)),
    λ turned. elim (cases_lt x n) [
      | inl inside ↦ absurd (omega (arith, turned, get_or-replicate {A = ℕ} n x 0 0 inside))
      | inr past ↦ absurd (omega (arith, turned, get_or_past {X = ℕ} (replicate n 0) x 0 (omega (arith, past, length-replicate {A = ℕ} n 0))))
    ],
  );
}

-- there is a count for each of them
pub turned_below : (counts nodes : List ℕ) → AreTurned counts nodes → All (λ (x : ℕ). x < length counts) nodes
turned_below counts nodes listed k d l = let z = get_or nodes k d in turned_inside counts z ((listed.each z).0 (Contains-get_or nodes k d l))

-- a list of these nodes is no longer than the counts
pub no_more : (counts nodes : List ℕ) → AreTurned counts nodes → length nodes ≤ length counts
no_more counts nodes listed =
    length-le_from_distinct_below nodes (length counts)
    (IsDistinct-from_apart eqb nodes
    (λ i j d lt l. ne_eqb _ _ (λ same. listed.once i j lt l (sym (get_or_default nodes i d 0 (omega (arith, lt, l)))
    ∙ same ∙ get_or_default nodes j d 0 l))))
    (λ q found. turned_inside counts q
    ((listed.each q).0 (Contains-from_any {eq = eqb}
    (λ x y same. elim (cases_eq x y) [ inl it ↦ it | inr apart ↦ absurd (false≢true (sym (ne_eqb x y apart) ∙ same)) ]) q nodes found)))

-- a node that has not turned yet turns
pub first_turn : (counts nodes : List ℕ) (x count : ℕ) → AreTurned counts nodes → x < length counts → get_or counts x 0 ≡ 0
    → 0 < count → AreTurned (set counts x count) (nodes ++ x ∷ [])
first_turn counts nodes x count listed inside none some =
    let here : get_or (set counts x count) x 0 ≡ count = get_or-set_same counts x count 0 inside in
    record {
      once = once_more nodes x listed.once (λ h. absurd (omega (arith, none, (listed.each x).0 h)));
      each = λ y. elim (cases_eq y x) [
        | inl it ↦ rw it ((λ h. omega (arith, here, some)), (λ turned. Contains-push nodes x))
        | inr other ↦
            let stays : get_or (set counts x count) y 0 ≡ get_or counts y 0 = get_or-set_other counts x y count 0 other in (
              λ h. elim (Contains-push_cases nodes x y h) [
                | inl old ↦ omega (arith, stays, (listed.each y).0 old)
                | inr same ↦ absurd (other (sym same))
              ],
              λ turned. Contains-append_left nodes (x ∷ []) y ((listed.each y).1 (omega (arith, stays, turned))),
            )
      ];
    }

-- a node that has turned turns again
pub further_turn : (counts nodes : List ℕ) (x count : ℕ) → AreTurned counts nodes → x < length counts
    → 0 < get_or counts x 0 → 0 < count → AreTurned (set counts x count) nodes
further_turn counts nodes x count listed inside turned some =
    let here : get_or (set counts x count) x 0 ≡ count = get_or-set_same counts x count 0 inside in
    record {
      once = listed.once;
      each = λ y. elim (cases_eq y x) [
        | inl it ↦ rw it ((λ h. omega (arith, here, some)), (λ t. (listed.each x).1 turned))
        | inr other ↦
            let stays : get_or (set counts x count) y 0 ≡ get_or counts y 0 = get_or-set_other counts x y count 0 other in
            ((λ h. omega (arith, stays, (listed.each y).0 h)), (λ t. (listed.each y).1 (omega (arith, stays, t))))
      ];
    }

-- there is room left for it
pub place_left : (counts nodes : List ℕ) (x : ℕ) → AreTurned counts nodes → x < length counts → get_or counts x 0 ≡ 0 → length nodes < length counts
place_left counts nodes x listed inside none =
    let few = no_more (set counts x 1) (nodes ++ x ∷ []) (first_turn counts nodes x 1 listed inside none (omega arith)) in
    omega (arith, few, length_push nodes x, length-set counts x 1)

-- the most turns of one of these nodes are the most turns of all nodes
pub most_of_all : (counts nodes : List ℕ) (most : ℕ) → AreTurned counts nodes
    → ((x : ℕ) → Contains nodes x → get_or counts x 0 ≤ most) → (x : ℕ) → get_or counts x 0 ≤ most
most_of_all counts nodes most listed bound x = elim (cases_eq (get_or counts x 0) 0) [
  | inl none ↦ omega (arith, none)
  | inr some ↦ bound x ((listed.each x).1 (omega (arith, some)))
]
