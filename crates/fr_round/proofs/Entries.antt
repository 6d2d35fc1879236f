-- Lists of counts, and histories with one entry more.
use Rattle.std.proofs.Common.{◌≡◌, ◌≢◌, ◌⊎◌, ℕ, zero, suc, ◌≤◌, Bool, cond, eqb, List, [], ◌∷◌, ◌++◌, get_or, set}
use Rattle.std.proofs.Common.{replicate, refl, ap, ◌∙◌, ⊎_elim}
use Rattle.std.proofs.Common.{inl, inr, arith, eq-eqb, ne_eqb, append-nil}
use Rattle.std.proofs.lemmas.List.{length-replicate}
use Rattle.std.proofs.lemmas.List.Elements.{filter-append}
use Rattle.fr_graph.specs.Links.{IsNet}
use Rattle.fr_core.proofs.Finishing.{zeros_lawful}
use Rattle.fr_core.proofs.Runs.{run_count}
use Rattle.fr_core.proofs.Turning.{IsLawfulAt, run_keeps}
use Rattle.fr_core.specs.History.{part, turn_count_of}
use Rattle.fr_core.specs.declared.entry.Entry.{Entry}
use Rattle.fr_round.specs.declared.view.Setup.{Setup}
use Rattle.fr_round.specs.Histories.{IsHistory, moment, reached, start}

pub zeros : (n y : ℕ) → get_or {A = ℕ} (replicate n 0) y 0 ≡ 0
zeros n y = (zeros_lawful n y []).destination

-- after each history the counts are lawful, and the links are those that they give
pub lawful_after : (b : Setup) (h : List Entry) → IsNet b.nodes b.links → IsHistory b h
    → IsLawfulAt b.nodes b.dest b.links (moment b h)
lawful_after b h net run =
    run_keeps b.nodes b.dest b.links net (start b) (record {
      links = refl;
      lawful = zeros_lawful b.nodes b.dest b.links;
    }) h run

-- the count of a node after a history is the number of its turns
pub reached_count : (b : Setup) (h : List Entry) → IsHistory b h → (y : ℕ) → reached b h y ≡ turn_count_of y h
reached_count b h run y =
    omega (arith, run_count b.nodes b.dest (start b) h (length-replicate b.nodes 0) run y, zeros b.nodes y)

set_or : (xs : List ℕ) (i v y : ℕ)
    → (get_or (set xs i v) y 0 ≡ get_or xs y 0) ⊎ ((y ≡ i) × (get_or (set xs i v) y 0 ≡ v))
set_or [] i v y = inl refl
set_or (x ∷ xs) zero v zero = inr (refl, refl)
set_or (x ∷ xs) zero v (suc y) = inl refl
set_or (x ∷ xs) (suc i) v zero = inl refl
set_or (x ∷ xs) (suc i) v (suc y) =
    ⊎_elim (λ e. inl e) (λ (t : (y ≡ i) × (get_or (set xs i v) y 0 ≡ v)). inr (ap suc t.0, t.1)) (set_or xs i v y)

-- a count that rises lowers none
pub set_up : (xs : List ℕ) (i v : ℕ) → get_or xs i 0 ≤ v → (y : ℕ) → get_or xs y 0 ≤ get_or (set xs i v) y 0
set_up xs i v up y =
    ⊎_elim (λ (e : get_or (set xs i v) y 0 ≡ get_or xs y 0). omega arith)
    (λ (t : (y ≡ i) × (get_or (set xs i v) y 0 ≡ v)). let p : get_or xs y 0
    ≡ get_or xs i 0 = ap (λ z. get_or xs z 0) t.0 in let q = t.1 in omega arith)
    (set_or xs i v y)

-- what is noted of one count stays below the counts
pub set_below : (seen words : List ℕ) (i v : ℕ) → ((y : ℕ) → get_or seen y 0 ≤ get_or words y 0) → v ≤ get_or words i 0
    → (y : ℕ) → get_or (set seen i v) y 0 ≤ get_or words y 0
set_below seen words i v h le y =
    ⊎_elim (λ (e : get_or (set seen i v) y 0 ≡ get_or seen y 0). let b = h y in omega arith)
    (λ (t : (y ≡ i) × (get_or (set seen i v) y 0 ≡ v)). let p : get_or words y 0 ≡ get_or words i 0 =
    ap (λ z. get_or words z 0) t.0 in let q = t.1 in omega arith)
    (set_or seen i v y)

pub part_mine : (k : ℕ) (h : List Entry) (e : Entry) → e.worker ≡ k → part k (h ++ e ∷ []) ≡ part k h ++ e ∷ []
part_mine k h e is =
    filter-append (λ (e : Entry). eqb e.worker k) h (e ∷ [])
    ∙ ap (λ (b : Bool). part k h ++ cond b (e ∷ []) []) (eq-eqb e.worker k is)

pub part_other : (k : ℕ) (h : List Entry) (e : Entry) → e.worker ≢ k → part k (h ++ e ∷ []) ≡ part k h
part_other k h e not = filter-append (λ (e : Entry). eqb e.worker k) h (e ∷ [])
    ∙ (ap (λ (b : Bool). part k h ++ cond b (e ∷ []) []) (ne_eqb e.worker k not) ∙ append-nil (part k h))

pub part_more : (k : ℕ) (e : Entry) (h : List Entry) → e.worker ≡ k → part k (e ∷ h) ≡ e ∷ part k h
part_more k e h is = ap (λ (b : Bool). cond b (e ∷ part k h) (part k h)) (eq-eqb e.worker k is)

pub part_same : (k : ℕ) (e : Entry) (h : List Entry) → e.worker ≢ k → part k (e ∷ h) ≡ part k h
part_same k e h ne = ap (λ (b : Bool). cond b (e ∷ part k h) (part k h)) (ne_eqb e.worker k ne)
