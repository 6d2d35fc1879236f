-- Tables of next hops, and the words of hops.
use Rattle.std.proofs.Common.{Bool, List, Option, Some, None, [], ap, arith, cond, lt-ltb, nat_eq, refl, slice_get}
use Rattle.std.proofs.Common.{subst, suc, sym, zero, ℕ, ◌<◌, ◌∙◌, ◌∷◌, ◌≡◌}
use Rattle.std.proofs.lemmas.List.{length-replicate}
use Rattle.fr_tables.specs.Tables.{IsLoop, SendsOn}
use Rattle.fr_tables.specs.declared.hop.Hop.{Hop}
use Rattle.fr_tables.specs.declared.hop.Hop.TheVariants.{Here, To, CutOff}
use Rattle.fr_shared.specs.Codec.{IsSound}
use Rattle.fr_shared.specs.Histories.{blank}
use Rattle.fr_shared.specs.HopTables.{IsTable, hop_codec, hop_of, word_of}

-- the word of a hop to a node below 2 ^ 32 holds this hop
hop_again : (hop : Hop) → ((y : ℕ) → hop ≡ To y → y < 4294967296) → hop_of (word_of hop) ≡ hop
hop_again Here low = refl
hop_again (To y) low =
    ap (λ (b : Bool). cond b (To y) (cond (nat_eq y 4294967296) Here CutOff)) (lt-ltb y 4294967296 (low y refl))
hop_again CutOff low = refl

-- The table in which every node is cut off

abbrev pub Sends : Option Hop → Type 0
Sends None = ⊥
Sends (Some Here) = ⊥
Sends (Some (To y)) = Unit {0}
Sends (Some CutOff) = ⊥

blank_rests : (n x : ℕ) → Sends (slice_get (blank hop_codec n) x) → ⊥
blank_rests zero x s = s
blank_rests (suc n) zero s = s
blank_rests (suc n) (suc x) s = blank_rests n x s

pub blank_sends : (n x y : ℕ) → SendsOn (blank hop_codec n) x y → ⊥
blank_sends n x y e = blank_rests n x (subst Sends (sym e) tt)

blank_loops : (n : ℕ) (nodes : List ℕ) → IsLoop (blank hop_codec n) nodes → ⊥
blank_loops n [] loop = loop
blank_loops n (x ∷ []) loop = blank_sends n x x loop.0
blank_loops n (x ∷ y ∷ ys) loop = blank_sends n x y loop.0

pub blank_is_table : (n : ℕ) → IsTable n (blank hop_codec n)
blank_is_table n = record {
  one_each = length-replicate n CutOff;
  in_range = λ x y e. absurd (blank_sends n x y e);
  loop_free = blank_loops n;
}

pub hops_are_sound : IsSound hop_codec
hops_are_sound = record {
  one_each = λ n table is. is.one_each;
  first = blank_is_table;
  again = λ n table x hop few is at. hop_again hop (λ y to. omega (
    arith,
    is.in_range x y (at ∙ ap Some to),
    is.one_each,
    few,
  ));
}
