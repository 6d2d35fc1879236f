-- Lists of any elements that are filtered, mapped, cut and joined.
use Rattle.std.proofs.Common.{Bool, List, [], ap, arith, cond, drop, get_or, inl, inr, length, length-drop, refl}
use Rattle.std.proofs.Common.{replicate, set, subst, sym, take, ℕ, ◌++◌, ◌+◌}
use Rattle.std.proofs.Common.{◌<◌, ◌∙◌, ◌∷◌, ◌≡◌, ◌≢◌, ◌≤◌, ◌⊎◌, length-append, suc, zero, Contains, None, Option, Some}
use Rattle.std.proofs.Common.{false, map, option_map}
use Rattle.std.proofs.Common.{option_to_list, true, ⊎_elim, slice_range, ◌-◌}
use Rattle.std.proofs.lemmas.Bool.{cases_lt}
use Rattle.std.proofs.lemmas.List.{get_or-drop, get_or_append_left, get_or_past, get_or_push, get_or-replicate}
use Rattle.std.proofs.lemmas.List.{length-replicate, length-take-le, length_push, append_assoc, drop-append-le}
use Rattle.std.proofs.lemmas.List.{drop-drop}
use Rattle.std.proofs.lemmas.List.{drop-take, drop_more, get_or-append_right, same_lists, set_at, take-append-le}
use Rattle.std.proofs.lemmas.List.{take-take, take_all, take_more}
use Rattle.std.proofs.lemmas.List.{length-append, drop_at, take_at}
use Rattle.std.proofs.lemmas.List.Elements.{Contains-get_or}
use Rattle.std.specs.List.{filter, remove, insert, range_with_len}
use Rattle.fr_graph.specs.Rows.{row}
use borrow.Rule.Slice.PartMut.{post_of, put_mid}
use Rattle.fr_graph.proofs.Members.{Contains-cases, Contains-head, Contains-tail}
use Rattle.std.proofs.Math.ListN.{get_or-append}
use Rattle.std.proofs.Math.Seq.{get_or-append_seam, take-append-add}
use Rattle.std.proofs.lemmas.List.FromFn.{get_or-map-range_with_len, length-map-range_with_len}
use Rattle.std.proofs.lemmas.Slice.{between_is}

-- an element of a list with one more: an element of the list, or the new one
pub push_cases : (xs : List ℕ) (x k : ℕ) → k < length (xs ++ x ∷ [])
    → ((k < length xs) × (get_or (xs ++ x ∷ []) k 0 ≡ get_or xs k 0))
    ⊎ ((k ≡ length xs) × (get_or (xs ++ x ∷ []) k 0 ≡ x))
push_cases xs x k h =
    let e = length_push xs x in
    elim (cases_lt k (length xs)) [
      | inl l ↦ inl (l, get_or_append_left xs (x ∷ []) 0 k l)
      | inr g ↦ let q : length xs ≡ k = omega (arith, e) in inr (sym q, get_or_push xs x 0 k q)
    ]

-- each place of a list of equal elements, and each one past it
pub all_default : {X : Type 0} (n k : ℕ) (d : X) → get_or (replicate n d) k d ≡ d
all_default n k d = elim (cases_lt k n) [
  | inl l ↦ get_or-replicate n k d d l
  | inr g ↦ get_or_past (replicate n d) k d (omega (arith, length-replicate n d))
]

-- writing a part keeps the length of the list
pub length_put : {X : Type 0} (a k : ℕ) (xs ys : List X) → a + k ≤ length xs → length ys ≡ k
    → length (put_mid a k xs ys) ≡ length xs
length_put a k xs ys inside long =
    omega (
      arith,
      length-append (take a xs) (ys ++ post_of a k xs),
      length-append ys (post_of a k xs),
      length-take-le a xs (omega (arith, inside)),
      length-drop k (drop a xs),
      length-drop a xs,
      long,
    )

pub map-option_to_list : {X Y : Type 0} (f : X → Y) (o : Option X)
    → map f (option_to_list o) ≡ option_to_list (option_map f o)
map-option_to_list f None = refl
map-option_to_list f (Some x) = refl

-- which elements a test keeps
into_filter_by : {X : Type 0} (b : Bool) (p : X → Bool) (y : X) (ys : List X) (x : X) → p y ≡ b → p x ≡ true → (y ≡ x)
    ⊎ Contains (filter p ys) x → Contains (cond b (y ∷ filter p ys) (filter p ys)) x
into_filter_by true p y ys x is passes (inl e) =
    subst (λ z. Contains (y ∷ filter p ys) z) e (Contains-head y (filter p ys))
into_filter_by true p y ys x is passes (inr h) = Contains-tail x y (filter p ys) h
into_filter_by false p y ys x is passes (inl e) = cc (is, passes, e)
into_filter_by false p y ys x is passes (inr h) = h

pub into_filter : {X : Type 0} (p : X → Bool) (xs : List X) (x : X) → Contains xs x → p x ≡ true
    → Contains (filter p xs) x
into_filter p [] x h passes = h
into_filter p (y ∷ ys) x h passes =
    into_filter_by (p y) p y ys x refl passes
    (⊎_elim (λ e. inl e) (λ g. inr (into_filter p ys x g passes)) (Contains-cases x y ys h))

filter_passes_by : (b : Bool) (p : ℕ × ℕ → Bool) (y : ℕ × ℕ) (ys : List (ℕ × ℕ)) (x : ℕ × ℕ) → p y ≡ b
    → (Contains (filter p ys) x → p x ≡ true) → Contains (cond b (y ∷ filter p ys) (filter p ys)) x → p x ≡ true
filter_passes_by true p y ys x is rest h = ⊎_elim (λ e. ap p (sym e) ∙ is) rest (Contains-cases x y (filter p ys) h)
filter_passes_by false p y ys x is rest h = rest h

pub filter_passes : (p : ℕ × ℕ → Bool) (xs : List (ℕ × ℕ)) (x : ℕ × ℕ) → Contains (filter p xs) x → p x ≡ true
filter_passes p [] x h = absurd (omega (arith, h.1))
filter_passes p (y ∷ ys) x h = filter_passes_by (p y) p y ys x refl (filter_passes p ys x) h

-- a test of an entry that is in the list
filter_option_by : {X : Type 0} (b : Bool) (p : X → Bool) (x : X) → p x ≡ b → filter p (x ∷ []) ≡ cond b (x ∷ []) []
filter_option_by b p x e = rw e refl

pub filter-option : {X : Type 0} (b : Bool) (p : X → Bool) (o : Option X) → ((x : X) → o ≡ Some x → p x ≡ b)
    → filter p (option_to_list o) ≡ cond b (option_to_list o) []
filter-option true p None is = refl
filter-option false p None is = refl
filter-option b p (Some x) is = filter_option_by b p x (is x refl)

pub filter_kept : {X : Type 0} (t : X → Bool) (xs : List X)
    → ((i : ℕ) (d : X) → i < length xs → t (get_or xs i d) ≡ true) → filter t xs ≡ xs
filter_kept t [] kept = refl
filter_kept t (x ∷ xs) kept =
    rw (kept 0 x (omega arith), filter_kept t xs (λ i d l. kept (suc i) d (omega (arith, l)))) refl

-- a test that all elements but one pass
pub filter_one : {X : Type 0} (t : X → Bool) (xs : List X) (k : ℕ) (d : X) → k < length xs → t (get_or xs k d) ≡ false
    → ((i : ℕ) (e : X) → i < length xs → i ≢ k → t (get_or xs i e) ≡ true) → filter t xs ≡ remove xs k
filter_one t [] k d l out kept = absurd (omega (arith, l))
filter_one t (x ∷ xs) zero d l out kept =
    rw (out, filter_kept t xs (λ i e m. kept (suc i) e (omega (arith, m)) (λ z. omega (arith, z)))) refl
filter_one t (x ∷ xs) (suc k) d l out kept =
    rw (
      kept 0 x (omega arith) (λ z. omega (arith, z)),
      filter_one t xs k d (omega (arith, l)) out
          (λ i e m ne. kept (suc i) e (omega (arith, m)) (λ z. ne (omega (arith, z)))),
    ) refl

-- a link, by either of its names
pub filter_alike : {X : Type 0} (p q : X → Bool) (xs : List X) → ((x : X) → p x ≡ q x) → filter p xs ≡ filter q xs
filter_alike p q [] same = refl
filter_alike p q (x ∷ xs) same = rw (same x, filter_alike p q xs same) refl

pub map_alike : {X Y : Type 0} (f g : X → Y) (xs : List X) → ((x : X) → Contains xs x → f x ≡ g x) → map f xs ≡ map g xs
map_alike f g [] same = refl
map_alike f g (x ∷ xs) same =
    rw (same x (Contains-head x xs), map_alike f g xs (λ y h. same y (Contains-tail y x xs h))) refl

map_stays : {X : Type 0} (f : X → X) (xs : List X)
    → ((i : ℕ) (d : X) → i < length xs → f (get_or xs i d) ≡ get_or xs i d) → map f xs ≡ xs
map_stays f [] kept = refl
map_stays f (x ∷ xs) kept =
    rw (kept 0 x (omega arith), map_stays f xs (λ i d l. kept (suc i) d (omega (arith, l)))) refl

pub set_is_map : {X : Type 0} (f : X → X) (xs : List X) (k : ℕ) (y d : X) → k < length xs → y ≡ f (get_or xs k d)
    → ((i : ℕ) (e : X) → i < length xs → i ≢ k → f (get_or xs i e) ≡ get_or xs i e) → set xs k y ≡ map f xs
set_is_map f [] k y d l is kept = absurd (omega (arith, l))
set_is_map f (x ∷ xs) zero y d l is kept =
    rw (is, map_stays f xs (λ i e m. kept (suc i) e (omega (arith, m)) (λ q. omega (arith, q)))) refl
set_is_map f (x ∷ xs) (suc k) y d l is kept =
    rw (
      kept 0 x (omega arith) (λ q. omega (arith, q)),
      set_is_map f xs k y d (omega (arith, l)) is
          (λ i e m ne. kept (suc i) e (omega (arith, m)) (λ q. ne (omega (arith, q)))),
    ) refl

-- a list without repetitions, with one more node that is not in it, has no repetitions
pub once_more : (nodes : List ℕ) (y : ℕ)
    → ((i j : ℕ) → i < j → j < length nodes → ¬ (get_or nodes i 0 ≡ get_or nodes j 0))
    → ¬ Contains nodes y → (i j : ℕ) → i < j → j < length (nodes ++ y ∷ [])
    → ¬ (get_or (nodes ++ y ∷ []) i 0 ≡ get_or (nodes ++ y ∷ []) j 0)
once_more nodes y once new i j lt l same =
    let long = length_push nodes y in
    let inside : i < length nodes = omega (arith, lt, l, long) in
    let low : get_or (nodes ++ y ∷ []) i 0 ≡ get_or nodes i 0 = get_or-append nodes (y ∷ []) 0 i inside in
    elim (cases_lt j (length nodes)) [
      | inl early ↦ once i j lt early (sym low ∙ same ∙ get_or-append nodes (y ∷ []) 0 j early)
      | inr last ↦
          let end : j ≡ length nodes = omega (arith, last, l, long) in
          let high : get_or (nodes ++ y ∷ []) j 0 ≡ y = rw end (get_or-append_seam nodes y [] 0) in
          new (subst (Contains nodes) (sym low ∙ same ∙ high) (Contains-get_or nodes i 0 inside))
    ]

-- entries written one by one, with one more
pub shifted_more : {X : Type 0} (xs ys : List X) (i : ℕ) (d : X) → i < length xs → i < length ys
    → set (take i ys ++ drop i xs) i (get_or ys i d) ≡ take (i + 1) ys ++ drop (i + 1) xs
shifted_more xs ys i d lx ly =
    let y = get_or ys i d in
    let rest = drop (i + 1) xs in
    ap (λ zs. set (take i ys ++ zs) i y) (drop_more xs i d lx)
    ∙ set_at (take i ys) (get_or xs i d) rest y i (length-take-le i ys (omega arith))
    ∙ sym (append_assoc (take i ys) (y ∷ []) rest)
    ∙ ap (λ zs. zs ++ rest) (sym (take_more ys i d ly))

pub shifted_rest : {X : Type 0} (xs ys : List X) (i k : ℕ) (d : X) → i ≤ length ys → i ≤ k
    → get_or (take i ys ++ drop i xs) k d ≡ get_or xs k d
shifted_rest xs ys i k d l le =
    let there : i + (k - i) ≡ k = omega arith in
    get_or-append_right (take i ys) (drop i xs) i k d (length-take-le i ys l) le ∙ get_or-drop i xs (k - i) d
    ∙ ap (λ m. get_or xs m d) there

-- a list made from its places is the same for functions that agree at each place
pub alike_below : {X : Type 0} (f g : ℕ → X) (n : ℕ) → ((x : ℕ) → x < n → f x ≡ g x)
    → map f (range_with_len 0 n) ≡ map g (range_with_len 0 n)
alike_below f g n same =
    same_lists (map f (range_with_len 0 n)) (map g (range_with_len 0 n)) (length-map-range_with_len f 0 n
    ∙ sym (length-map-range_with_len g 0 n))
    (λ k d l.
    let lt : k < n = omega (arith, l, length-map-range_with_len f 0 n) in
    get_or-map-range_with_len f 0 n k k d lt (omega arith) ∙ same k lt
    ∙ sym (get_or-map-range_with_len g 0 n k k d lt (omega arith)))

-- a part of a list whose end was written
range_written : {X : Type 0} (xs ys : List X) (s p e : ℕ) → s + p ≤ length xs → s + p ≤ e → e ≤ s + p + length ys
    → slice_range (put_mid (s + p) (length ys) xs ys) s e ≡ take p (drop s xs) ++ take (e - (s + p)) ys
range_written xs ys s p e inside low high =
    let rest = drop (length ys) (drop (s + p) xs) in
    let front = take p (drop s xs) in
    let long : length (take (s + p) xs) ≡ s + p = length-take-le (s + p) xs inside in
    let size : length front ≡ p = length-take-le p (drop s xs) (omega (arith, length-drop s xs, inside)) in
    let wide : e - s ≡ length front + (e - (s + p)) = omega (arith, size, low) in
    ap (take (e - s)) (drop-append-le s (take (s + p) xs) (ys ++ rest) (omega (arith, long))
    ∙ ap (λ zs. zs ++ (ys ++ rest)) (drop-take s p xs))
    ∙ ap (λ k. take k (front ++ (ys ++ rest))) wide
    ∙ take-append-add front (ys ++ rest) (e - (s + p))
    ∙ ap (λ zs. front ++ zs) (take-append-le (e - (s + p)) ys rest (omega (arith, low, high)))

range_rest : {X : Type 0} (xs : List X) (s p e : ℕ) → s + p ≤ e → drop p (slice_range xs s e) ≡ slice_range xs (s + p) e
range_rest xs s p e low =
    let wide : e - s ≡ p + (e - (s + p)) = omega (arith, low) in
    ap (λ k. drop p (take k (drop s xs))) wide ∙ drop-take p (e - (s + p)) (drop s xs)
    ∙ ap (take (e - (s + p))) (drop-drop p s xs)

-- an entry inserted into a part that has room after it
pub range_inserted : {X : Type 0} (xs ys : List X) (s p e : ℕ) (x : X) → s + p ≤ e → e < length xs
    → length ys ≡ e + 1 - (s + p) → ys ≡ take (e + 1 - (s + p)) (x ∷ slice_range xs (s + p) (e + 1))
    → slice_range (put_mid (s + p) (length ys) xs ys) s (e + 1) ≡ insert (slice_range xs s e) p x
range_inserted xs ys s p e x low inside long is =
    let more : e + 1 - (s + p) ≡ suc (e - (s + p)) = omega (arith, low) in
    let back : ys ≡ x ∷ slice_range xs (s + p) e =
    is ∙ ap (λ k. take k (x ∷ slice_range xs (s + p) (e + 1))) more
    ∙ ap (λ zs. x ∷ zs) (take-take (e - (s + p)) (e + 1 - (s + p)) (drop (s + p) xs) (omega (arith, low))) in
    range_written xs ys s p (e + 1) (omega (arith, low, inside)) (omega (arith, low)) (omega (arith, long, low))
    ∙ ap (λ zs. take p (drop s xs) ++ zs) (take_all (e + 1 - (s + p)) ys (omega (arith, long)) ∙ back)
    ∙ sym (ap (λ zs. zs ++ x ∷ drop p (slice_range xs s e)) (take-take p (e - s) (drop s xs) (omega (arith, low)))
    ∙ ap (λ zs. take p (drop s xs) ++ x ∷ zs) (range_rest xs s p e low))

-- an entry removed from a part
pub range_removed : {X : Type 0} (xs ys : List X) (s p e : ℕ) → s + p < e → e ≤ length xs → length ys ≡ e - (s + p)
    → take (e - (s + p) - 1) ys ≡ drop 1 (slice_range xs (s + p) e)
    → slice_range (put_mid (s + p) (length ys) xs ys) s (e - 1) ≡ remove (slice_range xs s e) p
range_removed xs ys s p e low inside long is =
    let row = slice_range xs s e in
    let count : e - 1 - (s + p) ≡ e - (s + p) - 1 = omega (arith, low) in
    let next : p + 1 ≡ suc p = omega arith in
    range_written xs ys s p (e - 1) (omega (arith, low, inside)) (omega (arith, low)) (omega (arith, long, low))
    ∙ ap (λ zs. take p (drop s xs) ++ zs) (ap (λ k. take k ys) count ∙ is
    ∙ ap (drop 1) (sym (range_rest xs s p e (omega (arith, low)))) ∙ drop-drop 1 p row ∙ ap (λ k. drop k row) next)
    ∙ ap (λ zs. zs ++ drop (suc p) row) (sym (take-take p (e - s) (drop s xs) (omega (arith, low))))

pub in_option : {X : Type 0} (o : Option X) (e : X) → Contains (option_to_list o) e → o ≡ Some e
in_option None e h = absurd (omega (arith, h.1))
in_option (Some x) e h =
    elim (Contains-cases e x [] h) [ inl q ↦ ap (λ (y : _). Some y) q | inr g ↦ absurd (omega (arith, g.1)) ]

pub option_short : {X : Type 0} (o : Option X) → length (option_to_list o) ≤ 1
option_short None = omega arith
option_short (Some x) = omega arith

-- what is before a place is unchanged if what follows is laid out again
pub part_before : {X : Type 0} (xs rest : List X) (s a b : ℕ) → b ≤ s → s ≤ length xs
    → slice_range (take s xs ++ rest) a b ≡ slice_range xs a b
part_before xs rest s a b low high =
    between_is (take s xs ++ rest) a b
    ∙ ap (drop a) (take-append-le b (take s xs) rest (omega (arith, length-take-le s xs high, low))
    ∙ take-take b s xs low)
    ∙ sym (between_is xs a b)

-- what is laid out there begins at that place
pub part_behind : {X : Type 0} (xs row rest : List X) (s : ℕ) → s ≤ length xs
    → slice_range (take s xs ++ (row ++ rest)) s (s + length row) ≡ row
part_behind xs row rest s high =
    ap (take (s + length row - s)) (drop_at (take s xs) (row ++ rest) s (length-take-le s xs high))
    ∙ take_at row rest (s + length row - s) (omega arith)
