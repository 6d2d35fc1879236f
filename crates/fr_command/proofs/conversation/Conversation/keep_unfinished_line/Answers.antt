use Rattle.std.proofs.Common.{◌≡◌, ◌≤◌, ◌∙◌, ◌++◌, ◌∷◌, [], List, ℕ, length, length-append, sym, subst, arith}
use Rattle.fr_bytes.specs.Lines.{lines_of}
use Rattle.fr_bytes.specs.Bytes.{most_bytes}
use Rattle.fr_bytes.proofs.Ending.{line_goes_on}
use Rattle.fr_command.proofs.conversation.Conversation.keep_unfinished_line.Goals as goal

pub invariant_of-self : goal.invariant_of-self
invariant_of-self c =
    let begun : List ℕ = c.self.inside.begun.items in
    let bytes : List ℕ = c.args.bytes.now in
    let longer : c.extend_from_slice.new.self.items
    ≡ begun ++ bytes = rw (sym c.is_ok.ensures.value ∙ c.if-is_ok.true) at c.extend_from_slice.ensures.items in
    let alone : lines_of (begun ++ bytes)
    ≡ (begun ++ bytes) ∷ [] = line_goes_on begun bytes bytes [] c.self.invariant.0 c.requires in
    let short : length (begun ++ bytes) ≤ most_bytes = omega (arith, length-append begun bytes) in (
      subst (λ (l : List ℕ). lines_of l ≡ l ∷ []) (sym longer) alone,
      subst (λ (l : List ℕ). length l ≤ most_bytes)
          (sym longer) short,
    )
