use Rattle.std.proofs.Common.{rules, ap, arith, length, slice_get, sym, Some, ◌≡◌, ◌∙◌, ◌≤◌, ◌<◌, ℕ, IsTrue, ◌↔◌}
use Rattle.std.proofs.lemmas.Option.{same_Some, slice_get-get_or, slice_get_past}
use Rattle.fr_shared.specs.HopTables.{hop_codec, last_hops, padded}
use Rattle.fr_shared.proofs.Histories.{last_is_table}
use Rattle.fr_shared.proofs.HopPadding.{padded_hop, padded_length}
use Rattle.fr_tables.specs.declared.hop.Hop.TheVariants.{Here}
use Rattle.fr_readers.proofs.publishing.has_hop.Goals as goal

pub returns-then-x-nodes-clause-same : goal.returns-then-x-nodes-clause-same
returns-then-x-nodes-clause-same c =
    let k = c.args.publisher.now in
    let x : ℕ = c.args.x in
    let out : k.nodes ≤ x = search rules in
    let table = last_is_table hop_codec k.nodes k.known c.history_law.ensures in
    let same = slice_get_past (last_hops k) x (omega (arith, out, table.one_each))
    ∙ sym (slice_get_past (padded k.nodes c.args.hops.now) x (omega (
      arith,
      out,
      padded_length k.nodes c.args.hops.now c.requires,
    ))) in
    (λ _. same, λ _. search rules)

pub returns-clause-same : goal.returns-clause-same
returns-clause-same c =
    let k = c.args.publisher.now in
    let hops = c.args.hops.now in
    let x : ℕ = c.args.x in
    let low : x < k.nodes = search rules in
    let inside : x < length (padded k.nodes hops) = omega (arith, low, padded_length k.nodes hops c.requires) in
    let is : slice_get (padded k.nodes hops) x ≡ Some c.hop_in.result =
    slice_get-get_or (padded k.nodes hops) x Here inside
    ∙ ap Some (padded_hop k.nodes hops x inside ∙ sym c.hop_in.ensures) in
    let test : IsTrue c.eq.result ↔ (c.hop.result ≡ c.hop_in.result) = search rules in (
      λ t. c.hop.ensures.hop ∙ (ap Some (test.0 t) ∙ sym is),
      λ same. test.1 (same_Some c.hop.result c.hop_in.result (sym c.hop.ensures.hop ∙ (same ∙ is))),
    )
