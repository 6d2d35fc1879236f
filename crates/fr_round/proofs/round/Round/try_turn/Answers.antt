use Rattle.std.proofs.Common.{refl, subst}
use Rattle.std.proofs.lemmas.Result.{err_from_is_err_and}
use Rattle.fr_round.specs.Knowledge.{OpenRound, Refuses}
use Rattle.fr_round.proofs.round.Round.try_turn.Goals as goal

pub returns-in_err-check_turn-clause-refused : goal.returns-in_err-check_turn-clause-refused
returns-in_err-check_turn-clause-refused c =
    let told = err_from_is_err_and c.from_residual.result c.from_residual.ensures.1 in
    rw (told.1, told.2) (
      subst (λ (o : OpenRound). Refuses o.setup c.args.x c.in_err-check_turn.field-0.0)
          c.self.view_is c.in_err-check_turn.ensures.refused,
      refl,
    )
