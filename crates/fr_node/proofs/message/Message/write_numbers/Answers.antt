use Rattle.std.proofs.Common.{List, ap, arith, sym, ℕ, ◌++◌, ◌∙◌}
use Rattle.std.proofs.lemmas.List.{take_all}
use Rattle.fr_node.specs.Bytes.{bytes_8}
use Rattle.fr_node.proofs.message.Message.write_numbers.Goals as goal

pub returns : goal.returns
returns c =
    let m = c.args.self.now in
    let one = c.write_u64.ensures ∙ ap (λ (p : List ℕ). p ++ bytes_8 m.boot) c.requires.head in
    let two = c.write_u64-2.ensures ∙ ap (λ (p : List ℕ). p ++ bytes_8 m.echo) one in
    let three = c.write_u64-3.ensures ∙ ap (λ (p : List ℕ). p ++ bytes_8 m.number) two in
    let four = c.write_u64-4.ensures ∙ ap (λ (p : List ℕ). p ++ bytes_8 m.height) three in
    let five = c.write_u64-5.ensures ∙ ap (λ (p : List ℕ). p ++ bytes_8 m.heard) four in
    let six = c.write_u64-6.ensures ∙ ap (λ (p : List ℕ). p ++ bytes_8 m.stamp) five in
    sym (take_all 64 c.write_u64-6.new.bytes (omega (
      arith,
      c.requires.length,
      c.write_u64.auto.bytes,
      c.write_u64-2.auto.bytes,
      c.write_u64-3.auto.bytes,
      c.write_u64-4.auto.bytes,
      c.write_u64-5.auto.bytes,
      c.write_u64-6.auto.bytes,
    ))) ∙ six
