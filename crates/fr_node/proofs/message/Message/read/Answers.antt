use Rattle.std.proofs.Common.{List, ap, arith, length, sym, take, ℕ, ◌++◌, ◌∙◌}
use Rattle.std.proofs.lemmas.List.{take_all}
use Rattle.fr_node.specs.Bytes.{bytes_4, bytes_8}
use Rattle.fr_node.proofs.ByteForms.{bytes_4-once, header_first, length-bytes_of}
use Rattle.fr_node.proofs.message.Message.read.Goals as goal
use Rattle.fr_node.proofs.message.Message.read.Goals.{then-bytes-ne-MESSAGE_LENGTH-via-then-bytes-ne-MESSAGE_LENGTH, then-bytes-ne-MESSAGE_LENGTH-via-else-bytes-ne-MESSAGE_LENGTH+then-read_u32-ne-HEADER}

pub returns-then-bytes-ne-MESSAGE_LENGTH : goal.returns-then-bytes-ne-MESSAGE_LENGTH
returns-then-bytes-ne-MESSAGE_LENGTH c = λ m e. elim c.then-bytes-ne-MESSAGE_LENGTH.branch [
  | then-bytes-ne-MESSAGE_LENGTH-via-then-bytes-ne-MESSAGE_LENGTH w ↦
      w.if-bytes-ne-MESSAGE_LENGTH.true (sym (ap length e) ∙ length-bytes_of m)
  | then-bytes-ne-MESSAGE_LENGTH-via-else-bytes-ne-MESSAGE_LENGTH+then-read_u32-ne-HEADER w ↦
      w.if-read_u32-ne-HEADER.true (bytes_4-once _ _ w.read_u32.type_inv (omega arith)
      (sym w.read_u32.ensures ∙ sym (ap (take 4) e) ∙ header_first m))
]

pub returns : goal.returns
returns c =
    let one = c.read_u32.ensures ∙ ap bytes_4 c.if-read_u32-ne-HEADER.false in
    let two = c.read_u32-2.ensures ∙ ap (λ (p : List ℕ). p ++ bytes_4 c.read_u32-2.result) one in
    let three = c.read_u32-3.ensures ∙ ap (λ (p : List ℕ). p ++ bytes_4 c.read_u32-3.result) two in
    let four = c.read_u32-4.ensures ∙ ap (λ (p : List ℕ). p ++ bytes_4 c.read_u32-4.result) three in
    let five = c.read_u64.ensures ∙ ap (λ (p : List ℕ). p ++ bytes_8 c.read_u64.result) four in
    let six = c.read_u64-2.ensures ∙ ap (λ (p : List ℕ). p ++ bytes_8 c.read_u64-2.result) five in
    let seven = c.read_u64-3.ensures ∙ ap (λ (p : List ℕ). p ++ bytes_8 c.read_u64-3.result) six in
    let eight = c.read_u64-4.ensures ∙ ap (λ (p : List ℕ). p ++ bytes_8 c.read_u64-4.result) seven in
    let nine = c.read_u64-5.ensures ∙ ap (λ (p : List ℕ). p ++ bytes_8 c.read_u64-5.result) eight in
    let ten = c.read_u64-6.ensures ∙ ap (λ (p : List ℕ). p ++ bytes_8 c.read_u64-6.result) nine in
    sym ten ∙ take_all 64 c.args.bytes.now (omega (arith, c.if-bytes-ne-MESSAGE_LENGTH.false))
