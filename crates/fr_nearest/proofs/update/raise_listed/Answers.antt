use Rattle.std.proofs.Common.{arith, length, slice_index, sym, ◌∙◌, ◌≡◌, ◌<◌, ◌≤◌}
use Rattle.std.proofs.lemmas.List.{get_or_read}
use Rattle.fr_nearest.proofs.Updating.{raised_all, raising_less}
use Rattle.fr_nearest.proofs.update.raise_listed.Goals as goal

pub loop-read-preserved : goal.loop-read-preserved
loop-read-preserved c =
    let inv = c.loop-read.invariant in
    let list = c.loop-read.list in
    let left : c.loop-read.read < length list.items = omega (arith, c.loop-read-test.true, c.len.ensures, list.ok.0) in
    let at : slice_index list.items c.loop-read.read ≡ c.index.result.now =
    sym (get_or_read list.items c.loop-read.read c.index.result.now left c.index.ensures 0) in
    let u = c.raise_distance.ensures.raised c.if-not-raise_distance.false in
    record {
      raising =
          raising_less c.loop-read.read c.index.result.now inv.raising left at c.raise_distance.ensures.one_each u;
      room = c.raise_distance.ensures.room ∙ inv.room;
    }

pub returns-clause-raised : goal.returns-clause-raised
returns-clause-raised c =
    let list = c.loop-read.list in
    let end : length list.items ≤ c.loop-read.read = omega (arith, c.loop-read-test.false, c.len.ensures, list.ok.0) in
    λ _. raised_all c.loop-read.read c.loop-read.invariant.raising end
