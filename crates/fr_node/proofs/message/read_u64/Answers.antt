use Rattle.std.proofs.Common.{List, ap, sym, take, w8, ℕ, ◌++◌, ◌∙◌}
use Rattle.std.proofs.Math.Facts.{Fits-lt-pow}
use Rattle.std.proofs.lemmas.Nat.{be_bytes_8}
use Rattle.fr_node.specs.Bytes.{bytes_8}
use Rattle.fr_node.proofs.ByteForms.{copied_after, copied_fits}
use Rattle.fr_node.proofs.message.read_u64.Goals as goal

pub returns : goal.returns
unfolding bytes_8
returns c =
    let bytes = c.args.bytes.now in
    let piece = c.copy_from_slice.new.self in
    let after = c.copy_from_slice.ensures.after in
    let fits = copied_fits bytes piece c.args.at 8 after (λ i. Fits-lt-pow {w = w8} (c.type_inv.bytes i)) in
    copied_after bytes piece c.args.at 8 after ∙ ap (λ (p : List ℕ). take c.args.at bytes ++ p)
    (sym (be_bytes_8 piece c.from_be_bytes.result c.copy_from_slice.ensures.len fits c.from_be_bytes.ensures))
