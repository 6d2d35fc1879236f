use Rattle.std.proofs.Common.{List, ap, arith, length, take, ℕ, ◌+◌, ◌++◌, ◌-◌, ◌∙◌}
use Rattle.std.proofs.lemmas.Slice.{take-put_mid}
use Rattle.fr_node.specs.Bytes.{bytes_8}
use Rattle.fr_node.proofs.message.write_u64.Goals as goal

pub returns : goal.returns
unfolding bytes_8
returns c =
    let at = c.args.at in
    let bytes = c.args.bytes.now in
    let written = c.copy_from_slice.ensures.after ∙ c.to_be_bytes.ensures in
    take-put_mid at (at + 8 - at) bytes c.copy_from_slice.new.self (at + 8) (omega (arith, ap length written))
    (omega (arith, c.requires))
    ∙ ap (λ (piece : List ℕ). take at bytes ++ piece) written
