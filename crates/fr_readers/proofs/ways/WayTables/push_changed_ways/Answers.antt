use Rattle.std.proofs.Common.{List, Some, ap, inr, subst, sym, ℕ, ◌++◌, ◌∙◌}
use Rattle.fr_shared.specs.WayTables.{WayKnowledge, last_ways, pushes_of}
use Rattle.fr_readers.specs.Inside.{pushes_in}
use Rattle.fr_readers.specs.Published.{HasFirstWays}
use Rattle.fr_readers.specs.Publishing.{AlterWays, PublishesWays}
use Rattle.fr_readers.proofs.ways.WayTables.push_changed_ways.Goals as goal

pub set_changed_ways-requires-clause-altered : goal.set_changed_ways-requires-clause-altered
set_changed_ways-requires-clause-altered c =
    subst (λ (t : List (List ℕ)). AlterWays t c.args.router.now (pushes_in c.args.reroutes.now))
    (sym (c.self.invariant.wanted ∙ ap last_ways c.self.view_is)) c.requires

pub push_listed-requires-clause-new : goal.push_listed-requires-clause-new
push_listed-requires-clause-new c = rw c.self.invariant.table c.set_changed_ways.ensures.first.1

pub push_listed-requires-clause-listed : goal.push_listed-requires-clause-listed
push_listed-requires-clause-listed c =
    rw (← c.self.invariant.wanted) (rw c.deref.ensures.value c.set_changed_ways.ensures.listed)

pub returns-clause-published : goal.returns-clause-published
returns-clause-published c =
    let s = c.args.router.now in
    let k = c.self.inside.publisher in
    let made = c.push_listed.ensures in
    subst (λ (old : WayKnowledge). PublishesWays old (Some s) c.push_listed.new.self) c.self.view_is (record {
      has = record {
        largest = ap (λ (q : WayKnowledge). q.nodes) made.history ∙ c.self.invariant.table;
        are = subst (HasFirstWays s) (sym made.table) c.set_changed_ways.ensures.first.0;
      };
      by = inr (made.history
          ∙ ap (λ (t : List (List ℕ)). record k { known = k.known ++ pushes_of (last_ways k) t }) (sym made.table));
    })
