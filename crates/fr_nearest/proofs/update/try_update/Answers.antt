use Rattle.std.proofs.Common.{ap, arith, length, subst, ◌≡◌, ℕ}
use Rattle.fr_nearest.specs.LinkChanges.{IsOutOfDate}
use Rattle.fr_nearest.specs.Update.{IsPending}
use Rattle.fr_nearest.proofs.Listing.{pending_first, raised_others, raising_first}
use Rattle.fr_nearest.proofs.update.try_update.Goals as goal

pub raise_listed-requires-clause-raising : goal.raise_listed-requires-clause-raising
raise_listed-requires-clause-raising c =
    let r = c.requires in
    let net = c.network_law.ensures in
    let table = c.args.distances.now in
    let old : IsOutOfDate c.args.net.now c.args.touched.now c.args.dest table = rw c.if-last-dest.false at r.old in
    let edits = c.list_edits.ensures.listed c.if-not-list_edits.false in
    raising_first c.args.net.now c.args.touched.now c.args.dest table net.is_net net.limits.nodes_few r.small old
    (rw r.old.were.one_each at edits) (c.list_turned.ensures.listed c.if-not-list_turned.false)
    (ap length c.clear.ensures.items)

pub update_listed-requires-clause-pending : goal.update_listed-requires-clause-pending
update_listed-requires-clause-pending c =
    let r = c.requires in
    let net = c.network_law.ensures in
    let table = c.args.distances.now in
    let old : IsOutOfDate c.args.net.now c.args.touched.now c.args.dest table = rw c.if-last-dest.false at r.old in
    let raised = c.raise_listed.ensures.raised c.if-not-raise_listed.false in
    let list = c.raise_listed.new.list in
    let read : length list.items ≡ c.len-read.result = omega (arith, c.len-read.ensures, list.ok.0) in
    let edits = c.list_edits-2.ensures.listed c.if-not-list_edits-2.false in
    let turned = c.list_turned-else-not-list_edits-2 in
    subst (λ (k : ℕ). IsPending c.args.net.now c.args.dest c.raise_listed.new.distances turned.new.list.items k) read
    (pending_first c.args.net.now c.args.touched.now c.args.dest table net.is_net net.limits.nodes_few r.small old
    raised (rw raised.one_each at edits) (turned.ensures.listed c.if-not-list_turned-2.false))

pub returns-clause-updated : goal.returns-clause-updated
returns-clause-updated c = λ t.
    let r = c.requires in
    let net = c.network_law.ensures in
    let table = c.args.distances.now in
    let old : IsOutOfDate c.args.net.now c.args.touched.now c.args.dest table = rw c.if-last-dest.false at r.old in
    let raised = c.raise_listed.ensures.raised c.if-not-raise_listed.false in
    let edits = c.list_edits-2.ensures.listed c.if-not-list_edits-2.false in
    let turned = c.list_turned-else-not-list_edits-2.ensures.listed c.if-not-list_turned-2.false in
    c.update_listed.ensures.updated t table
    (raised_others c.args.net.now c.args.touched.now c.args.dest table net.is_net net.limits.nodes_few r.small old
    raised (rw raised.one_each at edits) turned)
