-- What the bytes of a message are.
use Rattle.std.proofs.Common.{List, ap, arith, drop, get_or, length, refl, subst, sym, take, w32, w64, ℕ, ⊎_elim, ◌+◌}
use Rattle.std.proofs.Common.{◌++◌, ◌-◌, ◌<◌, ◌^◌, ◌∙◌, ◌≡◌}
use Rattle.std.specs.Int.{from_be_bytes}
use Rattle.std.proofs.Math.Seq.{take-add}
use Rattle.std.proofs.lemmas.Bool.{cases_lt}
use Rattle.std.proofs.lemmas.List.{get_or-drop, get_or-take, get_or_past, length-take}
use Rattle.std.proofs.lemmas.Nat.{from_be_bytes-to_be_bytes_4, from_be_bytes-to_be_bytes_8}
use Rattle.fr_node.specs.declared.message.Message.{Message}
use Rattle.fr_node.specs.Bytes.{OneMessage, bytes_4, bytes_8, bytes_of}

-- a part of some bytes is bytes
piece_fits : (bytes : List ℕ) (at n : ℕ) → ((i : ℕ) → get_or bytes i 0 < 256) → (i : ℕ)
    → get_or (take n (drop at bytes)) i 0 < 256
piece_fits bytes at n fits i = ⊎_elim
    (λ within. omega (arith, get_or-take n (drop at bytes) i 0 within, get_or-drop at bytes i 0, fits (at + i)))
    (λ past. omega (
      arith,
      get_or_past (take n (drop at bytes)) i 0 (omega (
        arith,
        past,
        length-take n
            (drop at bytes),
      )),
    ))
    (cases_lt i n)

-- the n bytes of `piece` were copied from index `at` on
pub copied_fits : (bytes piece : List ℕ) (at n : ℕ) → piece ≡ take (at + n - at) (drop at bytes)
    → ((i : ℕ) → get_or bytes i 0 < 256) → (i : ℕ) → get_or piece i 0 < 256
copied_fits bytes piece at n e fits = subst (λ (p : List ℕ). (i : ℕ) → get_or p i 0 < 256) (sym e)
    (piece_fits bytes at (at + n - at) fits)

pub copied_after : (bytes piece : List ℕ) (at n : ℕ) → piece ≡ take (at + n - at) (drop at bytes)
    → take (at + n) bytes ≡ take at bytes ++ piece
copied_after bytes piece at n e = take-add at n bytes ∙ ap (λ (p : List ℕ). take at bytes ++ p)
    (ap (λ (k : ℕ). take k (drop at bytes)) width ∙ sym e)
  where
    width : n ≡ at + n - at
    width = omega arith

pub length-bytes_of : (m : Message) → length (bytes_of m) ≡ 64
unfolding bytes_4 bytes_8
length-bytes_of m = refl

pub header_first : (m : Message) → take 4 (bytes_of m) ≡ bytes_4 0x46524e02
unfolding bytes_4 bytes_8
header_first m = refl

pub bytes_4-once : (n k : ℕ) → n < 2 ^ 32 → k < 2 ^ 32 → bytes_4 n ≡ bytes_4 k → n ≡ k
unfolding bytes_4
bytes_4-once n k a b e = sym (from_be_bytes-to_be_bytes_4 n a) ∙ ap (from_be_bytes w32) e
    ∙ from_be_bytes-to_be_bytes_4 k b

bytes_8-once : (n k : ℕ) → n < 2 ^ 64 → k < 2 ^ 64 → bytes_8 n ≡ bytes_8 k → n ≡ k
unfolding bytes_8
bytes_8-once n k a b e = sym (from_be_bytes-to_be_bytes_8 n a) ∙ ap (from_be_bytes w64) e
    ∙ from_be_bytes-to_be_bytes_8 k b

part_4 : (at : ℕ) → List ℕ → List ℕ
part_4 at bs = take 4 (drop at bs)

part_8 : (at : ℕ) → List ℕ → List ℕ
part_8 at bs = take 8 (drop at bs)

pub one_message : OneMessage
unfolding bytes_4 bytes_8 part_4 part_8
one_message m k a b e =
    let from = bytes_4-once m.from k.from a.from b.from (ap (part_4 4) e) in
    let to = bytes_4-once m.to k.to a.to b.to (ap (part_4 8) e) in
    let distance = bytes_4-once m.distance k.distance a.distance b.distance (ap (part_4 12) e) in
    let boot = bytes_8-once m.boot k.boot a.boot b.boot (ap (part_8 16) e) in
    let echo = bytes_8-once m.echo k.echo a.echo b.echo (ap (part_8 24) e) in
    let number = bytes_8-once m.number k.number a.number b.number (ap (part_8 32) e) in
    let height = bytes_8-once m.height k.height a.height b.height (ap (part_8 40) e) in
    let heard = bytes_8-once m.heard k.heard a.heard b.heard (ap (part_8 48) e) in
    let stamp = bytes_8-once m.stamp k.stamp a.stamp b.stamp (ap (part_8 56) e) in
    λ i. record {
      from = from i;
      to = to i;
      boot = boot i;
      echo = echo i;
      number = number i;
      height = height i;
      heard = heard i;
      distance = distance i;
      stamp = stamp i;
    }
