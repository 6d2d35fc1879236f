use Rattle.std.proofs.Common.{arith, ◌∙◌, ap}
use Rattle.fr_round.specs.Knowledge.{Knowledge}
use Rattle.fr_round.specs.Setups.{setup_of}
use Rattle.fr_round.proofs.Seating.{hands_on, kept_split}
use Rattle.fr_round.proofs.worker.Worker.past.Goals as goal

pub split_seat-requires : goal.split_seat-requires
split_seat-requires c =
    let p = c.self.inside.caller.seat in
    let b = setup_of c.args.words.now.table.shared.key in
    let own = c.requires.own in (
      ap (λ (k : Knowledge). k.table) c.self.view_is ∙ own.table,
      omega (arith, own.one_each, c.requires.some),
      kept_split b p.id p.me.0 _ _ (λ list. hands_on b list p.id p.me.0),
    )
