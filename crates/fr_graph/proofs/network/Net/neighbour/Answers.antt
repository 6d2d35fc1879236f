use Rattle.std.proofs.Common.{ap, arith, get_or, length, sym, ◌<◌, ◌∙◌, ◌≡◌}
use Rattle.std.proofs.lemmas.List.{get_or_default}
use Rattle.std.proofs.lemmas.Option.{slice_get-get_or}
use Rattle.std.specs.List.{slice_get}
use Rattle.fr_graph.specs.Network.{Network}
use Rattle.fr_graph.specs.Rows.{row}
use Rattle.fr_graph.specs.declared.first.First.TheVariants.{Outward}
use Rattle.fr_graph.proofs.network.Net.neighbour.Goals as goal

pub returns-clause-value : goal.returns-clause-value
returns-clause-value c =
    let read : c.row.result.now ≡ row c.args.self.now.nodes c.args.self.now.links c.args.x = c.row.ensures
    ∙ ap (λ (n : Network). row n.nodes n.links c.args.x) c.self.view_is in
    let inside : c.args.j < length c.row.result.now = omega (arith, c.requires.place, ap length read) in
    ap (λ entries. slice_get entries c.args.j) (sym read)
    ∙ slice_get-get_or c.row.result.now c.args.j (0, Outward) inside

pub returns-clause-at : goal.returns-clause-at
returns-clause-at c d =
    let read : c.row.result.now ≡ row c.args.self.now.nodes c.args.self.now.links c.args.x = c.row.ensures
    ∙ ap (λ (n : Network). row n.nodes n.links c.args.x) c.self.view_is in
    let inside : c.args.j < length c.row.result.now = omega (arith, c.requires.place, ap length read) in
    ap (λ entries. get_or entries c.args.j d) (sym read)
    ∙ get_or_default c.row.result.now c.args.j d (0, Outward) inside
