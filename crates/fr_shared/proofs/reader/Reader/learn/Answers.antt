use Rattle.std.proofs.Common.{ap, arith, sym, ◌∙◌}
use Rattle.fr_shared.proofs.StepsKeepTheRule.{joins, looks_at}
use Rattle.fr_shared.proofs.reader.Reader.learn.Goals as goal

pub join_seat-requires : goal.join_seat-requires
join_seat-requires g c =
    let r = c.self.inside in
    let i = c.self.invariant in
    let e = c.into_seat.ensures in
    let q = c.into_seat.result in
    rw c.deref.ensures (
      i.table,
      e.0 ∙ (c.requires ∙ sym (ap (λ k. k.table) c.self.view_is)),
      e.1,
      omega (arith, i.words, i.some),
      joins g.T.Item.codec i.sound r.table.value.shared.key r.seat.id r.seat.me.0 q.id q.me.0,
    )

pub load-requires : goal.load-requires
load-requires g c =
    let r = c.self.inside in
    let i = c.self.invariant in
    let t = r.table.value.shared in
    let j = c.join_seat.ensures in
    let p = c.join_seat.new.seat in
    rw c.deref-2.ensures (
      j.0 ∙ i.table,
      omega (arith, i.words, i.some),
      looks_at g.T.Item.codec i.sound t.key t.table_id.slots p.id p.me 0
          (ap (λ m. m.0.nodes) j.2 ∙ (i.nodes ∙ sym i.key)) (omega (arith, i.key, i.some)),
    )
