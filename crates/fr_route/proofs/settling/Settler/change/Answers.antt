use Rattle.std.proofs.Common.{refl}
use Rattle.fr_route.specs.Tries.{change_of}
use Rattle.fr_graph.specs.declared.edit.Edit.TheVariants as edit
use Rattle.fr_route.specs.declared.change.Change.TheVariants.{Add, Cut, Join}
use Rattle.fr_route.proofs.Changing.{add_by, cut_by, join_by}
use Rattle.fr_route.proofs.Tried.{batch_as, edit_as}
use Rattle.fr_route.proofs.settling.Settler.change.Goals as goal

pub returns-in-Cut : goal.returns-in-Cut
returns-in-Cut g c =
    let s = c.args.router.now in
    let u = c.in-Cut.u in
    let v = c.in-Cut.v in
    let by = cut_by s u v in
    rw c.in-Cut.is
    (edit_as _ (edit.Cut u v) s.dest (change_of s (Cut u v)) s c.args.told.now c.edit_one.result c.edit_one.new.router
    c.edit_one.new.told
    by.done by.undone refl c.edit_one.ensures)

pub returns-in-Add : goal.returns-in-Add
returns-in-Add g c =
    let s = c.args.router.now in
    let u = c.in-Add.u in
    let v = c.in-Add.v in
    let by = add_by s u v in
    rw c.in-Add.is
    (edit_as _ (edit.Add u v) s.dest (change_of s (Add u v)) s c.args.told.now c.edit_one-in-Add.result
    c.edit_one-in-Add.new.router
    c.edit_one-in-Add.new.told by.done by.undone refl c.edit_one-in-Add.ensures)

pub returns-in-Join : goal.returns-in-Join
returns-in-Join g c =
    let s = c.args.router.now in
    let u = c.in-Join.u in
    let v = c.in-Join.v in
    let by = join_by s u v in
    rw c.in-Join.is
    (edit_as _ (edit.Join u v) s.dest (change_of s (Join u v)) s c.args.told.now c.edit_one-in-Join.result
    c.edit_one-in-Join.new.router
    c.edit_one-in-Join.new.told by.done by.undone refl c.edit_one-in-Join.ensures)

pub returns-in-Batch : goal.returns-in-Batch
returns-in-Batch g c =
    rw c.in-Batch.is
    (batch_as _ c.in-Batch.edits c.deref.result.now c.dest-dest.result c.args.router.now c.args.told.now c.edit.result
    c.edit.new.router
    c.edit.new.told c.deref.ensures.value c.dest-dest.ensures.value c.edit.ensures)
