use Rattle.std.proofs.Common.{ap, arith, ℕ, ◌∙◌, ◌≡◌}
use Rattle.std.proofs.lemmas.List.{get_or_read}
use Rattle.fr_graph.proofs.Neighbours.{row_rises}
use Rattle.fr_graph.proofs.Places.{entry_in, entry_out, not_joined, rises_by}
use Rattle.fr_graph.specs.Graph.{shown}
use Rattle.fr_graph.specs.Links.{IsNet}
use Rattle.fr_graph.specs.Rows.{row}
use Rattle.fr_graph.specs.declared.first.First.{First}
use Rattle.fr_graph.proofs.graph.Graph.link_between.Goals as goal

pub place_in_row-requires : goal.place_in_row-requires
place_in_row-requires c =
    let n = c.args.self.now.nodes in
    rw c.row-row.ensures
    (rises_by (row n (shown c.args.self.now).links c.args.u) (row_rises n (shown c.args.self.now).links c.args.u))

pub returns-in_err-w-clause-none : goal.returns-in_err-w-clause-none
returns-in_err-w-clause-none c =
    let n = c.args.self.now.nodes in
    let links = (shown c.args.self.now).links in
    let u = c.args.u in
    let net : IsNet n links = c.requires.faultless.is_net in
    let is : c.row-row.result.now ≡ row n links u = c.row-row.ensures in
    let found = rw is at c.place_in_row.ensures in
    let past = rw is at c.in_err-w.ensures.lookup in
    rw c.from_residual.ensures
    (not_joined n links u c.args.v c.place_in_row.result net found.before found.stops (λ d l same. omega (
      arith,
      l,
      past.3,
    )))

pub returns-then-w-v-clause-none : goal.returns-then-w-v-clause-none
returns-then-w-v-clause-none c =
    let n = c.args.self.now.nodes in
    let links = (shown c.args.self.now).links in
    let u = c.args.u in
    let net : IsNet n links = c.requires.faultless.is_net in
    let is : c.row-row.result.now ≡ row n links u = c.row-row.ensures in
    let found = rw is at c.place_in_row.ensures in
    let seen = rw is at c.in_ok-w.ensures.lookup in
    not_joined n links u c.args.v c.place_in_row.result net found.before found.stops
    (λ d l same. c.if-w-v.true (ap (λ (e : ℕ
    × First). e.0) (get_or_read (row n links u) c.place_in_row.result c.in_ok-w.field-0.now l seen.1 d) ∙ same))

pub returns-in-Outward-clause-stands : goal.returns-in-Outward-clause-stands
returns-in-Outward-clause-stands c =
    let n = c.args.self.now.nodes in
    let links = (shown c.args.self.now).links in
    let u = c.args.u in
    let is : c.row-row.result.now ≡ row n links u = c.row-row.ensures in
    let seen = rw is at c.in_ok-w.ensures.lookup in
    entry_out n links u c.args.v c.place_in_row.result c.in_ok-w.field-0.now seen.3.0 seen.1 c.if-w-v.false
    c.in-Outward.is

pub returns-in-Inward-clause-stands : goal.returns-in-Inward-clause-stands
returns-in-Inward-clause-stands c =
    let n = c.args.self.now.nodes in
    let links = (shown c.args.self.now).links in
    let u = c.args.u in
    let is : c.row-row.result.now ≡ row n links u = c.row-row.ensures in
    let seen = rw is at c.in_ok-w.ensures.lookup in
    entry_in n links u c.args.v c.place_in_row.result c.in_ok-w.field-0.now seen.3.0 seen.1 c.if-w-v.false
    c.in-Inward.is
