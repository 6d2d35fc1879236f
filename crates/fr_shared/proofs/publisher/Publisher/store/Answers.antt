use Rattle.std.proofs.Common.{◌≡◌, arith, ap, subst, sym, slice_set, ◌∙◌}
use Rattle.fr_shared.specs.Histories.{table_of}
use Rattle.fr_shared.proofs.StepsKeepTheRule.{writes_at}
use Rattle.fr_shared.proofs.publisher.Publisher.store.Goals as goal

pub store-requires : goal.store-requires
store-requires g c =
    let r = c.self.inside in
    let i = c.self.invariant in
    let t = r.table.value.shared in
    let codec = g.T.Item.codec in
    let item = codec.item_of c.args.word in
    let nodes : t.key ≡ c.args.self.now.nodes = i.key ∙ ap (λ k. k.nodes) c.self.view_is in
    let table : codec.IsTable t.key (slice_set (table_of codec t.key r.seat.me.0.known) c.args.x item) =
    rw i.key (subst (λ k. codec.IsTable k.nodes (slice_set (table_of codec k.nodes k.known) c.args.x item))
    (sym c.self.view_is) c.requires.table) in
    rw c.deref.ensures (
      i.table,
      omega (arith, i.words, i.key, nodes, c.requires.node),
      rw c.requires.word at
          (writes_at codec i.sound t.key t.table_id.slots r.seat.id r.seat.me c.args.x item (i.nodes ∙ sym i.key)
          i.kind (omega (arith, nodes, c.requires.node)) table),
    )
