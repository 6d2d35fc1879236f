use Rattle.std.proofs.Common.{List, ap, inr, length, subst, sym, ℕ, ◌++◌, ◌∙◌}
use Rattle.fr_shared.specs.WayTables.{WayKnowledge, last_ways, pushes_of, way_codec}
use Rattle.fr_readers.specs.Published.{AreFirstWays}
use Rattle.fr_readers.specs.Publishing.{PublishesWays}
use Rattle.fr_readers.proofs.FirstWays.{first_table}
use Rattle.fr_shared.proofs.Histories.{length_table}
use Rattle.fr_readers.proofs.ways.WayTables.push_session_ways.Goals as goal

pub set_session_ways-requires-clause-long : goal.set_session_ways-requires-clause-long
set_session_ways-requires-clause-long c =
    let k = c.self.inside.publisher in
    ap length c.self.invariant.wanted ∙ (length_table way_codec k.nodes k.known ∙ c.self.invariant.table)

pub push_phases-requires : goal.push_phases-requires
push_phases-requires c =
    rw c.self.invariant.table
    (first_table c.args.session.now c.requires c.set_session_ways.new.wanted c.set_session_ways.ensures.ways)

pub returns-clause-published : goal.returns-clause-published
returns-clause-published c =
    let s = c.args.session.now in
    let k = c.self.inside.publisher in
    let made = c.push_phases.ensures in
    subst (λ (old : WayKnowledge). PublishesWays old s c.push_phases.new.self) c.self.view_is (record {
      has = record {
        largest = ap (λ (q : WayKnowledge). q.nodes) made.history ∙ c.self.invariant.table;
        are = subst (AreFirstWays s) (sym made.table) c.set_session_ways.ensures.ways;
      };
      by = inr (made.history
          ∙ ap (λ (t : List (List ℕ)). record k { known = k.known ++ pushes_of (last_ways k) t }) (sym made.table));
    })
