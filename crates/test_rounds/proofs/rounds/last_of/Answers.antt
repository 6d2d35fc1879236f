use Rattle.std.proofs.Common.{ap, subst, [], ◌++◌, ◌∷◌, ◌∙◌, ◌≡◌, List, Option}
use Rattle.std.specs.List.{AllByRecursion as Each}
use Rattle.std.specs.Option.{option_to_list}
use Rattle.fr_round.specs.Knowledge.{IsOwn, Knowledge}
use Rattle.fr_round.proofs.Gathering.{each_in}
use Rattle.test_rounds.proofs.rounds.last_of.Goals as goal

-- what holds of each holds of all but the last
each_front : {X : Type 0} (P : X → Type 0) (xs : List X) (x : X) → Each P (xs ++ x ∷ []) → Each P xs
each_front P [] x each = tt
each_front P (y ∷ xs) x each = (each.0, each_front P xs x each.1)

pub returns-in-Some-clause-own : goal.returns-in-Some-clause-own
returns-in-Some-clause-own c =
    each_in (IsOwn c.args.round.now) c.pop.new.self.items c.in-Some.worker []
    (subst (Each (IsOwn c.args.round.now))
    (c.pop.ensures.items
    ∙ ap (λ (popped : Option Knowledge). c.pop.new.self.items ++ option_to_list popped) c.in-Some.is) c.requires)

pub returns-in-Some-clause-others : goal.returns-in-Some-clause-others
returns-in-Some-clause-others c =
    each_front (IsOwn c.args.round.now) c.pop.new.self.items c.in-Some.worker
    (subst (Each (IsOwn c.args.round.now))
    (c.pop.ensures.items
    ∙ ap (λ (popped : Option Knowledge). c.pop.new.self.items ++ option_to_list popped) c.in-Some.is) c.requires)
