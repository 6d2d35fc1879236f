-- A set that is closed downstream is pushed: which cycles there can be, and where a packet goes. Each node may send on
-- as `old` says before its push, and as `new` says after it.
use Rattle.std.proofs.Common.{Contains, List, [], ap, arith, cond, eqb, inl, inr, refl, subst, ℕ, ⊎_elim, ◌++◌}
use Rattle.std.proofs.Common.{◌+◌, ◌∙◌, ◌∷◌, ◌≡◌, ◌≤◌, ◌⊎◌}
use Rattle.std.specs.List.{count_by}
use Rattle.std.proofs.lemmas.List.Sums.{sum_by-append}
use Rattle.fr_tables.specs.Walks.{IsCycle, IsCycleFree, IsDownstream, IsWalk, end_of}
use Rattle.fr_tables.proofs.Members.{cases_member}
use Rattle.fr_tables.proofs.Relations.{come_more, come_once, end_append}

-- each differing node downstream of x has been pushed
abbrev pub IsClean : (ℕ → ℕ → Type 0) → (ℕ → Type 0) → List ℕ → ℕ → Type 0
IsClean new differ nodes x = (y : ℕ) → IsDownstream new x y → differ y → Contains nodes y

-- the nodes are closed downstream
abbrev pub AreClosed : (ℕ → ℕ → Type 0) → (ℕ → Type 0) → List ℕ → Type 0
AreClosed new differ nodes = (x : ℕ) → Contains nodes x → IsClean new differ nodes x

-- where x may send, once these nodes are pushed. A node that was not pushed may have a new way already, if it leads to
-- a clean node
abbrev pub Pushed : (ℕ → ℕ → Type 0) → (ℕ → ℕ → Type 0) → (ℕ → Type 0) → List ℕ → ℕ → ℕ → Type 0
Pushed old new differ nodes x y = (Contains nodes x → new x y)
    × (¬ Contains nodes x → old x y ⊎ (new x y × IsClean new differ nodes y))

-- a packet moves while nodes are pushed
abbrev pub IsMove : (ℕ → ℕ → Type 0) → (ℕ → ℕ → Type 0) → (ℕ → Type 0) → (ℕ → List ℕ) → ℕ → List ℕ → Type 0
IsMove old new differ pushed x [] = Unit {0}
IsMove old new differ pushed x (y ∷ ys) =
    Pushed old new differ (pushed 0) x y × IsMove old new differ (λ k. pushed (k + 1)) y ys

module _ (old new : ℕ → ℕ → Type 0) (differ : ℕ → Type 0)
    (same : (x : ℕ) → ((y : ℕ) → old x y → new x y) ⊎ differ x) where
  clean_next : (nodes : List ℕ) (x y : ℕ) → IsClean new differ nodes x → new x y → IsClean new differ nodes y
  clean_next nodes x y clean sends z down =
      clean z (record { by = y ∷ down.by; goes = (sends, down.goes); ends = down.ends })

  -- a clean node sends on as the new table says
  pub clean_sends : (nodes : List ℕ) (x y : ℕ) → IsClean new differ nodes x → Pushed old new differ nodes x y → new x y
  clean_sends nodes x y clean sends = ⊎_elim sends.0
      (λ out. ⊎_elim
      (λ was. ⊎_elim
      (λ kept. kept y was)
      (λ differs. absurd (out (clean x (record { by = []; goes = tt; ends = refl }) differs)))
      (same x))
      (λ early. early.0)
      (sends.1 out))
      (cases_member nodes x)

  module _ (nodes : List ℕ) (table : ℕ → ℕ → Type 0)
      (pushed : (x y : ℕ) → table x y → Pushed old new differ nodes x y) where
    -- so its walks are those of the new table
    pub clean_walk : (x : ℕ) (ys : List ℕ) → IsClean new differ nodes x → IsWalk table x ys → IsWalk new x ys
    clean_walk x [] clean goes = tt
    clean_walk x (y ∷ ys) clean goes =
        let sends : new x y = clean_sends nodes x y clean (pushed x y goes.0) in
        (sends, clean_walk y ys (clean_next nodes x y clean sends) goes.1)

    -- and end at clean nodes
    clean_end : (x : ℕ) (ys : List ℕ) → IsClean new differ nodes x → IsWalk table x ys
        → IsClean new differ nodes (end_of x ys)
    clean_end x [] clean goes = clean
    clean_end x (y ∷ ys) clean goes =
        clean_end y ys (clean_next nodes x y clean (clean_sends nodes x y clean (pushed x y goes.0))) goes.1

    -- a walk follows the old table as well, or it ends at a clean node
    walk_cases : AreClosed new differ nodes → (x : ℕ) (ys : List ℕ) → IsWalk table x ys
        → IsWalk old x ys ⊎ IsClean new differ nodes (end_of x ys)
    walk_cases closed x [] goes = inl tt
    walk_cases closed x (y ∷ ys) goes = ⊎_elim
        (λ inside. inr (clean_end x (y ∷ ys) (closed x inside) goes))
        (λ out. ⊎_elim
        (λ was. ⊎_elim (λ walk. inl (was, walk)) (λ clean. inr clean) (walk_cases closed y ys goes.1))
        (λ early. inr (clean_end y ys early.1 goes.1))
        ((pushed x y goes.0).1 out))
        (cases_member nodes x)

    pub no_cycle_is_new : AreClosed new differ nodes → (cycle : List ℕ) → IsCycleFree new → IsCycle table cycle
        → IsCycle old cycle
    no_cycle_is_new closed [] free is = is
    no_cycle_is_new closed (x ∷ xs) free is = ⊎_elim
        (λ walk. walk)
        (λ clean. absurd (free (x ∷ xs)
        (clean_walk x (xs ++ x ∷ []) (subst (IsClean new differ nodes) (end_append x xs (x ∷ [])) clean) is)))
        (walk_cases closed x (xs ++ x ∷ []) is)

  -- a packet at a clean node moves along the new table
  moves_clean : (pushed : ℕ → List ℕ) (x : ℕ) (ys : List ℕ)
      → ((k y : ℕ) → Contains (pushed k) y → Contains (pushed (k + 1)) y)
      → IsClean new differ (pushed 0) x → IsMove old new differ pushed x ys → IsWalk new x ys
  moves_clean pushed x [] grows clean moves = tt
  moves_clean pushed x (y ∷ ys) grows clean moves =
      let sends : new x y = clean_sends (pushed 0) x y clean moves.0 in (
        sends,
        moves_clean (λ k. pushed (k + 1)) y ys (λ k. grows (k + 1))
            (λ z down differs. grows 0 z (clean_next (pushed 0) x y clean sends z down differs)) moves.1,
      )

  -- before that, it moved along the old table
  moves_split : (pushed : ℕ → List ℕ) (x : ℕ) (ys : List ℕ)
      → ((k : ℕ) → AreClosed new differ (pushed k)) → ((k y : ℕ) → Contains (pushed k) y → Contains (pushed (k + 1)) y)
      → IsMove old new differ pushed x ys
      → (us : List ℕ) × (vs : List ℕ) × (ys ≡ us ++ vs) × IsWalk old x us × IsWalk new (end_of x us) vs
  moves_split pushed x [] closed grows moves = ([], [], refl, tt, tt)
  moves_split pushed x (y ∷ ys) closed grows moves = ⊎_elim
      (λ inside. ([], y ∷ ys, refl, tt, moves_clean pushed x (y ∷ ys) grows (closed 0 x inside) moves))
      (λ out. ⊎_elim
      (λ was.
      let (us, vs, is, first, last) =
      moves_split (λ k. pushed (k + 1)) y ys (λ k. closed (k + 1)) (λ k. grows (k + 1)) moves.1 in
      (y ∷ us, vs, ap (λ (ws : List ℕ). y ∷ ws) is, (was, first), last))
      (λ early. (
        [],
        y ∷ ys,
        refl,
        tt,
        (
          early.0,
          moves_clean (λ k. pushed (k + 1)) y ys (λ k. grows (k + 1))
              (λ z down differs. grows 0 z (early.1 z down differs)) moves.1,
        ),
      ))
      (moves.0.1 out))
      (cases_member (pushed 0) x)

  pub comes_twice : (pushed : ℕ → List ℕ) (x : ℕ) (ys : List ℕ) (z : ℕ) → IsCycleFree old → IsCycleFree new
      → ((k : ℕ) → AreClosed new differ (pushed k)) → ((k y : ℕ) → Contains (pushed k) y → Contains (pushed (k + 1)) y)
      → IsMove old new differ pushed x ys → count_by (eqb z) (x ∷ ys) ≤ 2
  comes_twice pushed x ys z was free closed grows moves =
      let (us, vs, is, first, last) = moves_split pushed x ys closed grows moves in
      let whole : count_by (eqb z) (x ∷ ys) ≡ count_by (eqb z) (x ∷ us) + count_by (eqb z) vs =
      ap (λ (ws : List ℕ). count_by (eqb z) (x ∷ ws)) is ∙ sum_by-append (λ (y : ℕ). cond (eqb z y) 1 0) (x ∷ us) vs in
      omega (
        arith,
        whole,
        come_once old z x us was first,
        come_more z (end_of x us) vs,
        come_once new z
            (end_of x us) vs free last,
      )

-- the other direction, where nothing is dropped
module _ (old new : ℕ → ℕ → Type 0) (differ : ℕ → Type 0) (back : (x : ℕ) → ((y : ℕ) → new x y → old x y) ⊎ differ x)
    (nodes : List ℕ) (table : ℕ → ℕ → Type 0) (these : (x y : ℕ) → Contains nodes x → new x y → table x y)
    (others : (x y : ℕ) → ¬ Contains nodes x → old x y → table x y) where
  pub walk_clean : (x : ℕ) (ys : List ℕ) → IsClean new differ nodes x → IsWalk new x ys → IsWalk table x ys
  walk_clean x [] clean goes = tt
  walk_clean x (y ∷ ys) clean goes = (
    ⊎_elim (λ here. these x y here goes.0)
        (λ out. ⊎_elim
        (λ was. others x y out (was y goes.0))
        (λ differs. absurd (out (clean x (record { by = []; goes = tt; ends = refl }) differs)))
        (back x))
        (cases_member nodes x),
    walk_clean y ys (λ z down. clean z
        (record { by = y ∷ down.by; goes = (goes.0, down.goes); ends = down.ends })) goes.1,
  )
