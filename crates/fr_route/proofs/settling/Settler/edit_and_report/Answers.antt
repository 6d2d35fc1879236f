use Rattle.std.proofs.Common.{◌≡◌, ◌∙◌, ◌+◌, Some, ap, arith, inl, length, refl, sym}
use Rattle.fr_graph.specs.Links.{IsNet}
use Rattle.fr_route.specs.Listing.{nodes_told, ways_told}
use Rattle.fr_route.specs.Reroutes.{AreRerouted}
use Rattle.fr_route.specs.States.{IsReport, State, net_at}
use Rattle.fr_route.proofs.Changed.{report_is}
use Rattle.fr_route.proofs.Changing.{made_nodes, too_many_named}
use Rattle.fr_route.proofs.PushLengths.{order_short}
use Rattle.fr_route.proofs.ReportRooms.{change_replaces, edits_size}
use Rattle.fr_route.proofs.Replying.{report_fits, text_size}
use Rattle.fr_route.proofs.settling.Settler.edit_and_report.Goals as goal

pub push_report_in_form-requires : goal.push_report_in_form-requires
push_report_in_form-requires g c = λ e. c.in_ok-report.ensures.asks (c.requires.lists.notes e)

pub returns-in_err-push_report_in_form : goal.returns-in_err-push_report_in_form
returns-in_err-push_report_in_form g c =
    let s : State = c.args.router.now in
    let next : State = c.edit.new.router in
    let edits = c.args.revision.now.edits.now in
    let more = c.edit.new.told in
    let tried = c.in_ok-report.ensures in
    let made = tried.made in
    let as_many : next.nodes ≡ s.nodes = made.1.1.1.nodes ∙ made_nodes (net_at s) edits made.1.0 made.1.1.0 in
    let is_net : IsNet s.nodes s.links =
    rw (c.net-net.ensures.nodes, c.net-net.ensures.links) at c.network_law.ensures.is_net in
    let fits =
    report_fits c.args.draft.now.form c.nodes.result (c.link_count.result
    + length edits) (length (nodes_told more)) (ways_told more)
    (λ other.
    let re = tried.rerouted (c.requires.lists.list other) in
    let short =
    order_short re.before re.after (nodes_told more) (re.were.one_each
    ∙ (sym as_many ∙ sym re.are.one_each)) re.order in
    omega (arith, short, re.are.one_each, as_many, c.nodes.ensures.value, c.net-net.ensures.nodes))
    (λ e.
    let size = edits_size s next edits c.args.revision.now.dest made.1.0 is_net c.requires.node made.1.1.0 made.1.1.1
    (ways_told more).shrink (ways_told more).grow (tried.ways (c.requires.lists.notes e)) in
    omega (
      arith,
      size,
      c.nodes.ensures.value,
      c.net-net.ensures.nodes,
      c.link_count.ensures,
      ap length c.net-net.ensures.links,
    )) in
    absurd (omega (
      arith,
      fits,
      c.in_err-push_report_in_form.ensures.room.full,
      c.in_ok-begin_report.ensures.room,
      c.in_ok-begin_report.ensures.length,
    ))

pub returns-clause-revised : goal.returns-clause-revised
returns-clause-revised g c =
    let s : State = c.args.router.now in
    let next : State = c.edit.new.router in
    let edits = c.args.revision.now.edits.now in
    let more = c.edit.new.told in
    let tried = c.in_ok-report.ensures in
    let made = tried.made in
    let as_many : next.nodes ≡ s.nodes = made.1.1.1.nodes ∙ made_nodes (net_at s) edits made.1.0 made.1.1.0 in
    let report : IsReport next c.in_ok-report.report.turned c.in_ok-report.report.cut = tried.report in
    record {
      made = tried.made;
      report =
          λ list. report_is c.args.draft.now.form (AreRerouted s next) (Some s) next c.state_law.ensures
          c.in_ok-report.report report
          c.hops.result.now c.hops.ensures (nodes_told more) (λ other. tried.rerouted (list.list other))
          (ways_told more)
          (λ e. change_replaces s next as_many (ways_told more).shrink (ways_told more).grow
          (tried.ways (list.notes e)))
          _ (rw c.in_ok-begin_report.ensures.empty at c.in_ok-push_report_in_form.ensures.text);
      short = λ e.
          let size = text_size c.args.draft.now.form (length (nodes_told more)) (ways_told more) e in
          omega (
            arith,
            size,
            c.in_ok-push_report_in_form.ensures.room.length,
            c.in_ok-begin_report.ensures.length,
            c.push_report_in_form.new.line.bytes.ok.0,
          );
      rerouted = λ listing. tried.rerouted listing;
      fault = tt;
      unchanged = tt;
      no_start = λ h. tt;
    }

pub returns-then-revision-gt-MAX_EDITS-clause-revised : goal.returns-then-revision-gt-MAX_EDITS-clause-revised
returns-then-revision-gt-MAX_EDITS-clause-revised g c = record {
  made = tt;
  report = λ list. tt;
  short = λ e. tt;
  rerouted = λ listing. tt;
  fault = (inl (c.if-revision-gt-MAX_EDITS.true, refl, refl), λ before made d. too_many_named before _);
  unchanged = (refl, refl);
  no_start = λ never e. absurd cc;
}
