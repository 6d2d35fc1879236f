use Rattle.std.proofs.Common.{ℕ, ◌≡◌, ◌∙◌, arith, get_or, sym}
use Rattle.fr_tables.specs.declared.hop.Hop.TheVariants.{Here}
use Rattle.fr_shared.specs.HopTables.{padded}
use Rattle.fr_shared.proofs.HopPadding.{padded_hop}
use Rattle.fr_shared.proofs.HopPushing.{has_word, inside, next_table, push_begins, push_ends, push_goes_on}
use Rattle.fr_shared.proofs.hops.publishing.Publisher+Hop.push_all.Goals as goal

pub loop-x-init : goal.loop-x-init
loop-x-init c =
    let new = padded c.args.self.now.nodes c.args.new.now in
    push_begins c.args.self.now new c.args.order.now c.history_law.ensures c.requires.new c.requires.order

pub push-requires-clause-node : goal.push-requires-clause-node
push-requires-clause-node c = has_word c.loop-x.invariant c.loop-x-test.true

pub push-requires-clause-table : goal.push-requires-clause-table
push-requires-clause-table c =
    let n : ℕ = c.args.self.now.nodes in
    let x : ℕ = get_or c.args.order.now c.loop-x.x-index 0 in
    let hop : c.hop_at.result ≡ get_or (padded n c.args.new.now) x Here =
    c.hop_at.ensures ∙ sym (padded_hop n c.args.new.now x (inside c.loop-x.invariant c.loop-x-test.true)) in
    rw hop (next_table c.loop-x.invariant c.push_law.ensures.loop_free c.loop-x-test.true)

pub loop-x-preserved : goal.loop-x-preserved
loop-x-preserved c =
    let n : ℕ = c.args.self.now.nodes in
    let x : ℕ = get_or c.args.order.now c.loop-x.x-index 0 in
    let hop : c.hop_at.result ≡ get_or (padded n c.args.new.now) x Here =
    c.hop_at.ensures ∙ sym (padded_hop n c.args.new.now x (inside c.loop-x.invariant c.loop-x-test.true)) in
    push_goes_on c.loop-x.invariant c.loop-x-test.true (rw hop at c.push.ensures)

pub returns-clause-table : goal.returns-clause-table
returns-clause-table c = push_ends c.loop-x.invariant (omega (arith, c.loop-x-test.false))
