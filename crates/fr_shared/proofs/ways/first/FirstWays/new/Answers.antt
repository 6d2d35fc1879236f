use Rattle.std.proofs.Common.{◌≡◌, ◌∙◌, ℕ, List, map}
use Rattle.fr_shared.specs.Histories.{blank}
use Rattle.fr_shared.specs.WayTables.{way_codec, word_of}
use Rattle.fr_shared.proofs.Histories.{blank_words}
use Rattle.fr_shared.proofs.WayWords.{are_words, blank_fit}
use Rattle.fr_shared.proofs.ways.first.FirstWays.new.Goals as goal

pub invariant_of-result : goal.invariant_of-result
invariant_of-result c =
    let n : ℕ = c.args.nodes in
    let items : List ℕ = c.in_ok-vec.field-0.items in
    let are : items ≡ map word_of (blank way_codec n) =
    c.in_ok-vec.ensures.items_if_clones_equal (λ y is. is) ∙ blank_words way_codec n in
    (are_words (blank way_codec n) items (blank_fit n) are).1

pub returns : goal.returns
returns c =
    let n : ℕ = c.args.nodes in
    let items : List ℕ = c.in_ok-vec.field-0.items in
    let are : items ≡ map word_of (blank way_codec n) =
    c.in_ok-vec.ensures.items_if_clones_equal (λ y is. is) ∙ blank_words way_codec n in
    (are_words (blank way_codec n) items (blank_fit n) are).0
