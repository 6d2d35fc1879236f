-- Drawing a schedule, step by step.
use Rattle.std.proofs.Common.{◌≡◌, ◌∙◌, ℕ, suc, ◌+◌, ◌%◌, List, [], ◌∷◌, ◌++◌, append_assoc, append-nil, zero-add, ap}
use Rattle.std.proofs.Common.{refl, sym}
use Rattle.rand_pcg.specs.Lcg.{Lcg}
use Rattle.rand_pcg.specs.Pcg.{pcg32}
use Rattle.fr_cli.specs.Draws.{draws}

-- one more step moves from the rest to the steps taken
pub draws-step : (g h : Lcg) (x w k : ℕ) (done : List ℕ) → (x, h) ≡ pcg32 g
    → done ++ draws g (suc k) w ≡ (done ++ x % w ∷ []) ++ draws h k w
unfolding draws
draws-step g h x w k done is =
    let word : x ≡ (pcg32 g).0 = ap (λ (p : ℕ × Lcg). p.0) is in
    let after : h ≡ (pcg32 g).1 = ap (λ (p : ℕ × Lcg). p.1) is in
    rw (append_assoc, word, after)

draws-none : (g : Lcg) (w : ℕ) → draws g 0 w ≡ []
unfolding draws
draws-none g w = refl

pub draws-start : (g h : Lcg) (done : List ℕ) (k w : ℕ) → done ≡ [] → h ≡ g → draws g (0 + k) w ≡ done ++ draws h k w
draws-start g h done k w none same = rw (none, same, zero-add)

-- the draws of all steps are those taken
pub draws-all : (g h : Lcg) (steps i w : ℕ) (done : List ℕ) → i + 0 ≡ steps → draws g (i + 0) w ≡ done ++ draws h 0 w
    → done ≡ draws g steps w
draws-all g h steps i w done all is = sym (rw (← all) (is ∙ rw draws-none (append-nil done)))
