use Rattle.std.proofs.Common.{List, ap, arith, inl, inr, length, max, replicate, subst, take_all, ◌++◌, ◌-◌, ◌∙◌, ◌≡◌}
use Rattle.std.proofs.Common.{◌≤◌}
use Rattle.std.proofs.lemmas.Result.{IfOk-weaker}
use Rattle.fr_graph.specs.Limits.{most_nodes}
use Rattle.fr_route.specs.Pushing.{IsTablesFault, padded}
use Rattle.fr_tables.specs.declared.hop.Hop.{Hop}
use Rattle.fr_tables.specs.declared.hop.Hop.TheVariants.{CutOff}
use Rattle.fr_route.proofs.pushing.pushes_from.Goals as goal

pub returns-clause-reply : goal.returns-clause-reply
returns-clause-reply c =
    let table = c.args.table.now in
    let hops = c.args.hops.now in
    let fits : length table ≤ length hops = omega (arith, c.if-table-hops.false) in
    let few : max (length hops) (length table) ≤ most_nodes = omega (arith, c.max.ensures, c.if-max.false) in
    let same : c.deref-in-Err.result.now ≡ padded (length hops) table =
    c.deref-in-Err.ensures.value ∙ (c.in_ok-old.ensures
    ∙ ap (λ (t : List Hop). t ++ replicate (length hops - length table) CutOff) (take_all (length hops) table fits)) in
    IfOk-weaker c.refuse_tables.result _ _ (λ a h.
    inl (h.0, h.1, inr (inr (few, fits, subst (λ (t : List Hop). IsTablesFault t hops h.0 h.1) same h.2)), h.3))
    c.refuse_tables.ensures.refuses
