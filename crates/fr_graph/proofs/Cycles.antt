-- Paths and cycles from their steps.
use Rattle.std.proofs.Common.{List, [], add-one, ap, arith, get_or, length, refl, sym, ℕ, ◌+◌, ◌<◌, ◌∙◌, ◌∷◌, ◌≡◌}
use Rattle.std.proofs.lemmas.List.{get_or_default}
use Rattle.fr_graph.specs.Links.{IsCycle, IsPath, Points, end_of}

-- if links from nodes with P lead to nodes with P, a path from such a node ends at one
pub path_keeps : (links : List (ℕ × ℕ)) (P : ℕ → Type 0) → ((u v : ℕ) → P u → Points links u v → P v)
    → (u : ℕ) (vs : List ℕ) → P u → IsPath links u vs → P (end_of u vs)
path_keeps links P closed u [] here path = here
path_keeps links P closed u (v ∷ vs) here path = path_keeps links P closed v vs (closed u v here path.0) path.1

shifted : (u : ℕ) (xs : List ℕ) (k : ℕ) → get_or (u ∷ xs) (k + 1) 0 ≡ get_or xs k 0
shifted u xs k = rw add-one refl

-- a list whose steps follow the links is a path from its first node
pub path_from_steps : (links : List (ℕ × ℕ)) (u : ℕ) (vs : List ℕ)
    → ((k : ℕ) → k + 1 < length (u ∷ vs) → Points links (get_or (u ∷ vs) k 0) (get_or (u ∷ vs) (k + 1) 0)) → IsPath links u vs
path_from_steps links u [] steps = tt
path_from_steps links u (v ∷ vs) steps =
    (steps 0 (omega arith), path_from_steps links v vs (λ k h. rw (← shifted u (v ∷ vs) k, ← shifted u (v ∷ vs) (k + 1)) (steps (k + 1) (omega arith))))

pub end_from_last : (u : ℕ) (vs : List ℕ) → end_of u vs ≡ get_or (u ∷ vs) (length vs) 0
end_from_last u [] = refl
end_from_last u (v ∷ vs) = end_from_last v vs

-- a list that begins and ends at the same node, and whose steps follow the links
pub cycle_from_steps : (links : List (ℕ × ℕ)) (walk : List ℕ) (last : ℕ) → last + 1 ≡ length walk → 0 < last
    → get_or walk last 0 ≡ get_or walk 0 0 → ((k : ℕ) → k + 1 < length walk → Points links (get_or walk k 0) (get_or walk (k + 1) 0)) → IsCycle links walk
cycle_from_steps links [] last len some same steps = omega arith
cycle_from_steps links (u ∷ []) last len some same steps = omega arith
cycle_from_steps links (u ∷ (v ∷ vs)) last len some same steps =
    let l : last ≡ length (v ∷ vs) = omega arith in
    (path_from_steps links u (v ∷ vs) steps, end_from_last u (v ∷ vs) ∙ ap (λ (k : ℕ). get_or (u ∷ (v ∷ vs)) k 0) (sym l) ∙ same)

pair_is : (l : ℕ × ℕ) (u v : ℕ) → l.0 ≡ u → l.1 ≡ v → l ≡ (u, v)
pair_is (a, b) u v e f = cc

-- a link at its place
pub points_at : (links : List (ℕ × ℕ)) (i u v : ℕ) (d : ℕ × ℕ) → i < length links → (get_or links i d).0 ≡ u → (get_or links i d).1 ≡ v → Points links u v
points_at links i u v d l tail head =
    let whole : get_or links i d ≡ (u, v) = pair_is _ u v tail head in
    (i, l, get_or_default links i (u, v) d l ∙ whole)
