use Rattle.std.proofs.Common.{Global, List, Vec, ap, arith, subst, sym, ℕ, ◌++◌, ◌+◌, ◌∙◌, ◌∷◌, [], ◌≡◌, ◌≤◌}
use Rattle.std.specs.Prelude.{vec_capacity, vec_len}
use Rattle.fr_graph.specs.Links.{IsNet}
use Rattle.fr_core.specs.Targets.{IsLookable}
use Rattle.fr_core.specs.declared.entry.Reply.TheVariants.{Held}
use Rattle.fr_round.specs.declared.view.Setup.{Setup}
use Rattle.fr_round.specs.Histories.{entry}
use Rattle.fr_round.specs.Steps.{Extends}
use Rattle.fr_crew.specs.LiveWalks.{HasWalked}
use Rattle.fr_crew.specs.declared.live_walks.LiveEnd.TheVariants.{AtSink}
use Rattle.fr_crew.proofs.Walking.{HasLooked, IsWalking, ends_at_sink, held_lookable, look_not_refused, walk_begins}
use Rattle.fr_crew.proofs.Walking.{walks_held, walks_moved}
use Rattle.fr_crew.proofs.live_walks.continue_walk.Goals as goal
use Rattle.fr_crew.proofs.live_walks.continue_walk.Goals.{in-Held, in-Moved}

pub loop-made-init : goal.loop-made-init
loop-made-init c = record {
  walking =
      walk_begins c.args.worker.now c.dest-dest.result c.args.x c.args.nodes.now.items c.requires.room.first
      c.seen-seen.ensures.known;
  node = c.requires.node;
  room = (omega (arith, c.requires.room.one), c.requires.room.room);
}

pub unreachable-requires : goal.unreachable-requires
unreachable-requires c =
    look_not_refused c.args.round.now.setup c.loop-made.here c.in_default.field-0 c.loop-made.invariant.node
    c.in_default.ensures.refused.0

pub returns-in-Sink-clause-walked : goal.returns-in-Sink-clause-walked
returns-in-Sink-clause-walked c =
    let round = c.args.round.now in
    let old = c.args.worker.now in
    let now = c.loop-made.worker in
    let next = c.look.new.worker in
    let here = c.loop-made.here in
    let w = c.loop-made.invariant.walking in
    let e = c.in-Ok.ensures in
    let looked =
    subst (HasLooked now next here) c.in-Sink.is (record {
      keeps = c.look.ensures.keeps;
      learns = e.learns;
      kind = e.kind;
    }) in
    subst (λ (d : ℕ). HasWalked old next d c.args.x c.args.limit c.loop-made.nodes.items AtSink) c.dest-dest.ensures
    (ends_at_sink old now next c.dest-dest.result c.args.x c.loop-made._made c.args.limit c.loop-made.nodes.items here w
    looked c.if-here-dest.false c.loop-made-test.true)

pub loop-made-preserved : goal.loop-made-preserved
loop-made-preserved c =
    let round = c.args.round.now in
    let old = c.args.worker.now in
    let now = c.loop-made.worker in
    let next = c.look.new.worker in
    let here = c.loop-made.here in
    let dest = c.dest-dest.result in
    let i = c.loop-made.invariant in
    let net =
    subst (λ (p : ℕ
    × List (ℕ
    × ℕ)). IsNet p.0 p.1) (λ k. (c.net.ensures.nodes k, c.net.ensures.links k)) c.network_law.ensures.is_net in
    let e = c.in-Ok.ensures in
    let looked : HasLooked now next here c.in-Ok.reply =
    record { keeps = c.look.ensures.keeps; learns = e.learns; kind = e.kind } in
    let setup = i.walking.keeps.setup ∙ c.requires.own.setup in
    elim c.match-reply.branch [
      | in-Held w ↦
          let by = w.in-Held.by in
          let held = subst (HasLooked now next here) w.in-Held.is looked in
          let items : c.match-reply.nodes.items ≡ c.loop-made.nodes.items ++ by ∷ [] =
          ap (λ (v : Vec ℕ Global). v.items) w.nodes-is ∙ w.push_reserved.ensures.items in
          let long : vec_len c.match-reply.nodes ≡ vec_len c.loop-made.nodes + 1 =
          ap (λ (v : Vec ℕ Global). vec_len v) w.nodes-is ∙ w.push_reserved.ensures.len in
          let room : vec_capacity c.match-reply.nodes ≡ vec_capacity c.loop-made.nodes =
          ap (λ (v : Vec ℕ Global). vec_capacity v) w.nodes-is ∙ w.push_reserved.ensures.capacity in
          record {
            walking =
                subst (λ (h : ℕ). IsWalking old next dest c.args.x (c.loop-made._made
                + 1) c.match-reply.nodes.items h) (sym w.here-is)
                (walks_held old now next dest c.args.x c.loop-made._made c.loop-made.nodes.items here i.walking by held
                c.if-here-dest.false c.match-reply.nodes.items items);
            node = subst (λ (h : ℕ). IsLookable round.setup.nodes round.setup.links h) (sym w.here-is)
                (held_lookable round.setup now.number here by now.known next.known net
                (subst (λ (b : Setup). Extends b now.number now.known (entry now.number here (Held by)) next.known)
                setup held.learns.history));
            room = (omega (arith, long, i.room.0), omega (arith, room, i.room.1));
          }
      | in-Moved w ↦
          let moved = subst (HasLooked now next here) w.in-Moved.is looked in
          record {
            walking = subst (λ (p : Vec ℕ Global × ℕ). IsWalking old next dest c.args.x
                (c.loop-made._made + 1) p.0.items p.1) (λ k. (sym w.nodes-is k, sym w.here-is k))
                (walks_moved old now next dest c.args.x c.loop-made._made c.loop-made.nodes.items here i.walking
                w.in-Moved.had w.in-Moved.count moved c.if-here-dest.false);
            node = subst (λ (h : ℕ). IsLookable round.setup.nodes round.setup.links h) (sym w.here-is) i.node;
            room = subst (λ (v : Vec ℕ Global). (vec_len v ≤ c.loop-made._made + 1 + 1)
                × (c.args.limit + 1 ≤ vec_capacity v)) (sym w.nodes-is) (omega (arith, i.room.0), i.room.1);
          }
    ]
