use Rattle.std.proofs.Common.{List, arith, get_or, length, length-set, refl, set, subst, sym, true, ℕ, ◌<◌, ◌∙◌}
use Rattle.std.proofs.lemmas.List.{take_more}
use Rattle.fr_tables.specs.Inside.{AreNoted}
use Rattle.fr_tables.proofs.Listing.{noted_more, noted_none}
use Rattle.fr_tables.proofs.push_room.mark_changed.Goals as goal

pub loop-x-init : goal.loop-x-init
loop-x-init c = record { one_each = refl; noted = rw c.requires.none (noted_none (length c.args.differ.now)) }

pub loop-x-preserved : goal.loop-x-preserved
loop-x-preserved c =
    let changed = c.args.changed.now in
    let differ = c.loop-x.differ in
    let i : ℕ = c.loop-x.x-index in
    let x : ℕ = get_or changed i 0 in
    let before = c.loop-x.invariant in
    let low : x < length differ = omega (arith, c.requires.nodes i 0 c.loop-x-test.true, before.one_each) in
    record {
      one_each = length-set differ x true ∙ before.one_each;
      noted = subst (λ (xs : List ℕ). AreNoted xs (set differ x true)) (sym (take_more changed i 0 c.loop-x-test.true))
          (noted_more _ differ x low before.noted);
    }
