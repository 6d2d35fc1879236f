use Rattle.std.proofs.Common.{arith, rules}
use Rattle.fr_ways.specs.Rows.{IsLaidOut}
use Rattle.revroute_c.specs.Phases.{IsPlanned}
use Rattle.revroute_c.proofs.phases.phases_from.Goals as goal

pub returns-in-Ok-phases-clause-phases : goal.returns-in-Ok-phases-clause-phases
returns-in-Ok-phases-clause-phases c =
    let s = c.in-Some.router.now in
    let asked = c.args.asked.now in
    let laid : IsLaidOut asked.starts.now asked.ways.now c.in-Some-table.table = search rules in
    let planned : IsPlanned s asked.starts.now asked.ways.now c.in-Ok-phases.phases = record {
      table = c.in-Some-table.table;
      is = record {
        laid_out = laid;
        one_each =
            omega (arith, c.if-asked-nodes.false, c.nodes.ensures.value, c.net.ensures.nodes, laid.begins.one_more);
      };
      leads = c.in-Ok-phases.ensures.phases;
    } in
    search (rules, planned)
