use Rattle.fr_route.specs.Tries.{edit_of}
use Rattle.fr_route.proofs.Tried.{edit_as}
use Rattle.fr_route.proofs.settling.Settler.edit_one.Goals as goal

pub returns : goal.returns
returns g c =
    let s = c.args.router.now in
    edit_as _ c.args.edit c.dest-dest.result (edit_of s c.args.edit s.dest) s c.args.told.now c.edit.result
    c.edit.new.router c.edit.new.told
    (λ new h. h) (λ why h. h) c.dest-dest.ensures.value c.edit.ensures
