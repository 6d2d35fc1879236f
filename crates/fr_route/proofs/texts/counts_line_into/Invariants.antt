use Rattle.std.proofs.Common.{◌≡◌, ◌++◌, drop, string_bytes}
use Rattle.fr_route.specs.Texts.{counts_text, spaced}
use Rattle.fr_route.proofs.texts.counts_line_into.Given as goal

abbrev pub invariant-loop-count : goal.invariant-loop-count
invariant-loop-count l = string_bytes l.line ++ spaced (drop l.count-index l.counts) ≡ counts_text l.counts
