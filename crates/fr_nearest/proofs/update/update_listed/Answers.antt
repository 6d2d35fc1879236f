use Rattle.std.proofs.Common.{arith, length, slice_index, sym, ◌∙◌, ◌≡◌, ◌<◌, ◌≤◌}
use Rattle.std.proofs.lemmas.List.{get_or_read}
use Rattle.fr_nearest.proofs.Measuring.{distances_of}
use Rattle.fr_nearest.proofs.Updating.{keeps_others, none_pending, pending_less}
use Rattle.fr_nearest.proofs.update.update_listed.Goals as goal

pub loop-at-preserved : goal.loop-at-preserved
loop-at-preserved c =
    let inv = c.loop-at.invariant in
    let list = c.loop-at.list in
    let left : c.loop-at.at < length list.items = omega (arith, c.loop-at-test.true, c.len.ensures, list.ok.0) in
    let at : slice_index list.items c.loop-at.at ≡ c.index.result.now =
    sym (get_or_read list.items c.loop-at.at c.index.result.now left c.index.ensures 0) in
    let u = c.update_distance.ensures.updated c.if-not-update_distance.false in
    record {
      pending = pending_less c.loop-at.at c.index.result.now inv.pending left at c.update_distance.ensures.one_each u;
      others =
          λ before keeps. keeps_others before c.loop-at.distances list.items c.update_distance.new.distances u.added
          c.loop-at.at c.index.result.now (inv.others before keeps) left at u.all u.others;
      room = c.update_distance.ensures.room ∙ inv.room;
    }

pub returns-clause-updated : goal.returns-clause-updated
returns-clause-updated c =
    let inv = c.loop-at.invariant in
    let list = c.loop-at.list in
    let end : length list.items ≤ c.loop-at.at = omega (arith, c.loop-at-test.false, c.len.ensures, list.ok.0) in
    let net = c.network_law.ensures in
    λ _ before keeps. record {
      distances = distances_of _ _ _ _ (none_pending c.loop-at.at net.is_net net.limits.nodes_few inv.pending end);
      small = inv.pending.small;
      listed = inv.pending.listed;
      others = inv.others before keeps;
    }
