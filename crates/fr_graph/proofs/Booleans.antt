-- Combined tests.
use Rattle.std.proofs.Common.{Bool, false, inl, inr, refl, true, ◌&&◌, ◌||◌, ◌≡◌, ◌⊎◌}

pub and_false : (a b : Bool) → (a && b) ≡ false → a ≡ true → b ≡ false
and_false true b e t = e
and_false false b e t = cc

-- two joined nodes are joined in either order
pub or_both : (a b c d : Bool) → (a && b) || (c && d) ≡ true → ((a ≡ true) × (b ≡ true)) ⊎ ((c ≡ true) × (d ≡ true))
or_both true true c d e = inl (refl, refl)
or_both true false true true e = inr (refl, refl)
or_both true false true false e = cc
or_both true false false d e = cc
or_both false b true true e = inr (refl, refl)
or_both false b true false e = cc
or_both false b false d e = cc

pub or_comm : (a b : Bool) → (a || b) ≡ (b || a)
or_comm true true = refl
or_comm true false = refl
or_comm false true = refl
or_comm false false = refl

-- a link counts equally in both directions
and_comm : (a b : Bool) → (a && b) ≡ (b && a)
and_comm true true = refl
and_comm true false = refl
and_comm false true = refl
and_comm false false = refl

pub flip : (a b c d : Bool) → ((d && c) || (b && a)) ≡ ((a && b) || (c && d))
flip a b c d = rw (and_comm d c, and_comm b a) (or_comm (c && d) (a && b))
