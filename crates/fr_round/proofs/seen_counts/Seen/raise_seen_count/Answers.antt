use Rattle.std.proofs.Common.{rules, ◌≡◌, ◌≢◌, ◌<◌, List, ℕ, ap, length, refl, slice_index, slice_set, subst, ◌∙◌}
use Rattle.std.proofs.lemmas.List.{with_items_is}
use Rattle.fr_round.specs.Missing.{missing_of}
use Rattle.fr_round.proofs.MissingNumbers.{raised}
use Rattle.fr_round.proofs.seen_counts.Seen.raise_seen_count.Goals as goal

pub returns-clause-counted : goal.returns-clause-counted
returns-clause-counted c =
    let net = c.args.net.now in
    let was = c.args.self.now in
    let y : ℕ = c.args.y in
    let lowered : List ℕ = c.update_row_for_count-missing.new.missing in
    let m : ℕ = c.update_row_for_count-missing.result in
    let long : length lowered ≡ length was.missing.items = search rules in
    let written : (Rattle.std.specs.Vec.with_items was.missing lowered).items ≡ lowered =
    with_items_is was.missing lowered (search rules) in
    let others : (z : ℕ) → z < net.nodes → z ≢ y
    → slice_index lowered z ≡ missing_of net.nodes net.links (slice_set was.counts.items y c.args.count) z =
    subst (λ (l : List ℕ). (z : ℕ) → z < net.nodes → z ≢ y
    → slice_index lowered z
    ≡ missing_of net.nodes net.links (slice_set l y c.args.count) z) c.deref.ensures.value
    c.update_row_for_count-missing.ensures.others in
    raised net.nodes net.links was _ y c.args.count m lowered c.requires.node c.requires.counted long others refl
    (ap (λ (l : List ℕ). slice_set l y m) written)
    (c.update_row_for_count-missing.ensures.own
    ∙ ap (λ (l : List ℕ). missing_of net.nodes net.links (slice_set l y c.args.count) y) c.deref.ensures.value)
