use Rattle.std.proofs.Common.{arith, string_bytes, ◌∙◌}
use Rattle.std.proofs.lemmas.Result.{IfOk-weaker}
use Rattle.fr_graph.specs.Links.{IsNet}
use Rattle.fr_route.specs.Texts.{phases_text}
use Rattle.fr_route.proofs.Replying.{json_phases}
use Rattle.fr_route.proofs.WayPushes.{growths_are, phases_listed, shrinks_are, ways_in_range}
use Rattle.fr_ways.specs.Phases.{growths, shrinks}
use Rattle.fr_route.proofs.questions.phases_in_form.Goals as goal

pub known_phases-requires-clause-range : goal.known_phases-requires-clause-range
known_phases-requires-clause-range c =
    let s = c.args.router.now in
    let net : IsNet s.nodes s.links =
    rw (c.net.ensures.nodes, c.net.ensures.links) at c.network_law.ensures.is_net in
    ways_in_range s net s.nodes c.in_ok-wanted.wanted (omega arith) c.in_ok-wanted.ensures

pub phases_line-requires : goal.phases_line-requires
phases_line-requires c =
    phases_listed c.args.table.now c.in_ok-wanted.wanted c.in_ok-phases.phases c.in_ok-phases.ensures
    (omega (arith, c.net.ensures.nodes, c.network_law.ensures.limits, c.in_ok-wanted.ensures.one_each))

pub phases_object-requires : goal.phases_object-requires
phases_object-requires c =
    let old = c.args.table.now in
    let new = c.in_ok-wanted.wanted in
    (shrinks old new, growths old new, c.from_plan.ensures old new c.in_ok-phases.ensures)

pub returns-in-Text : goal.returns-in-Text
returns-in-Text c =
    let old = c.args.table.now in
    let new = c.in_ok-wanted.wanted in
    let first = shrinks_are old new c.in_ok-phases.phases c.in_ok-phases.ensures in
    let second = growths_are old new c.in_ok-phases.phases c.in_ok-phases.ensures in
    rw c.in-Text.is (IfOk-weaker c.phases_line.result _ _
    (λ _ is. (new, c.in_ok-wanted.ensures, is ∙ (λ i. phases_text (first i) (second i))))
    c.phases_line.ensures)

pub returns : goal.returns
returns c =
    let old = c.args.table.now in
    let new = c.in_ok-wanted.wanted in
    let lists = c.from_plan.ensures old new c.in_ok-phases.ensures in
    IfOk-weaker c.phases_object.result _ _
    (λ _ is. json_phases c.args.draft.now.form c.in_default.not-Text c.args.router.now old
    (string_bytes c.phases_object.new.line)
    (new, c.in_ok-wanted.ensures, is))
    (c.phases_object.ensures (shrinks old new) (growths old new) lists)
