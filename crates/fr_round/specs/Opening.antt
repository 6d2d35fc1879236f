-- A round that was just opened: nothing has happened yet. This project's own.
use Rattle.std.specs.Prelude.{◌≡◌, List, [], replicate}
use Rattle.std.specs.List.{AllByRecursion as Each}
use Rattle.atomic_table.specs.Table.{State}
use Rattle.fr_round.specs.declared.view.Setup.{Setup}
use Rattle.fr_round.specs.declared.view.View.{View}
use Rattle.fr_round.specs.Knowledge.{Knowledge, OpenRound}
use Rattle.fr_round.specs.Laws.{StandsBehind, first_state}
use Rattle.fr_round.specs.Rule.{KeepsRule}

-- the worker knows no call, and has seen no turn
pub record KnowsNothing (b : Setup) (k : Knowledge) : Type 0 where
  pub calls : k.known ≡ []
  pub seen : k.seen ≡ replicate b.nodes 0

-- nothing has happened yet: there is a state of the round without calls, which the rule allows. That the words in memory
-- are those of this state follows from what the making of the table requires, and from `NoOtherStateIsFirst`
pub record HasNotBegun (r : OpenRound) (workers : List Knowledge) : Type 0 where
  -- the round is in the first state of its law, which the rule allows
  pub state : State (Unit {0}) View
  pub first : state ≡ first_state r.setup
  pub ruled : KeepsRule r.setup state
  pub empty : ruled.history ≡ []
  -- all words are 0
  pub words : state.words ≡ replicate r.setup.nodes 0
  -- the list of calls is empty
  pub calls : StandsBehind r.setup state []
  -- no worker knows a call
  pub knows : Each (KnowsNothing r.setup) workers
