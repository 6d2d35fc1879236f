use Rattle.std.proofs.Common.{None, Option, Some, arith, inr, ℕ, ◌<◌, ◌≡◌}
use Rattle.std.specs.Option.{IfNone, IfSome}
use Rattle.fr_core.specs.Checks.{Fails, FailsReply}
use Rattle.fr_core.specs.History.{Moment, moment_of}
use Rattle.fr_core.specs.Legal.{IsLegal, IsLegalReply}
use Rattle.fr_core.specs.declared.check.fault.Why.{Why}
use Rattle.fr_core.specs.declared.entry.Entry.{Entry}
use Rattle.fr_core.specs.declared.entry.Reply.{Reply}
use Rattle.fr_core.proofs.check.fault_of.Goals as goal

-- an entry on a node is as its reply is
legal_as : (n d : ℕ) (m : Moment) (e : Entry) (r : Reply) (found : Option Why) → e.node < n → e.reply ≡ r
    → IfNone found (IsLegalReply n d m e.node r) → IfNone found (IsLegal n d m e)
legal_as n d m e r None inside is legal = (inside, rw is legal)
legal_as n d m e r (Some why) inside is legal = tt

fails_as : (n d : ℕ) (m : Moment) (e : Entry) (r : Reply) (found : Option Why) → e.node < n → e.reply ≡ r
    → IfSome found (FailsReply n d m e.node r) → IfSome found (Fails n d m e)
fails_as n d m e r None inside is fails = tt
fails_as n d m e r (Some why) inside is fails = inr (inside, rw is fails)

pub returns-in-Turned-clause-none : goal.returns-in-Turned-clause-none
returns-in-Turned-clause-none c =
    legal_as c.args.net.now.nodes c.args.dest (moment_of c.args.net.now.links c.args.counts.now)
    c.args.entry _ c.turn_fault.result (omega (arith, c.if-x-nodes.false, c.nodes-nodes.ensures.value)) c.in-Turned.is
    c.turn_fault.ensures.none

pub returns-in-Turned-clause-some : goal.returns-in-Turned-clause-some
returns-in-Turned-clause-some c =
    fails_as c.args.net.now.nodes c.args.dest (moment_of c.args.net.now.links c.args.counts.now)
    c.args.entry _ c.turn_fault.result (omega (arith, c.if-x-nodes.false, c.nodes-nodes.ensures.value)) c.in-Turned.is
    c.turn_fault.ensures.some

pub returns-in-Held-clause-none : goal.returns-in-Held-clause-none
returns-in-Held-clause-none c =
    legal_as c.args.net.now.nodes c.args.dest (moment_of c.args.net.now.links c.args.counts.now)
    c.args.entry _ c.held_fault.result (omega (arith, c.if-x-nodes.false, c.nodes-nodes.ensures.value)) c.in-Held.is
    c.held_fault.ensures.none

pub returns-in-Held-clause-some : goal.returns-in-Held-clause-some
returns-in-Held-clause-some c =
    fails_as c.args.net.now.nodes c.args.dest (moment_of c.args.net.now.links c.args.counts.now)
    c.args.entry _ c.held_fault.result (omega (arith, c.if-x-nodes.false, c.nodes-nodes.ensures.value)) c.in-Held.is
    c.held_fault.ensures.some

pub returns-in-Moved-clause-none : goal.returns-in-Moved-clause-none
returns-in-Moved-clause-none c =
    legal_as c.args.net.now.nodes c.args.dest (moment_of c.args.net.now.links c.args.counts.now)
    c.args.entry _ c.new_count_fault.result (omega (arith, c.if-x-nodes.false, c.nodes-nodes.ensures.value))
    c.in-Moved.is c.new_count_fault.ensures.none

pub returns-in-Moved-clause-some : goal.returns-in-Moved-clause-some
returns-in-Moved-clause-some c =
    fails_as c.args.net.now.nodes c.args.dest (moment_of c.args.net.now.links c.args.counts.now)
    c.args.entry _ c.new_count_fault.result (omega (arith, c.if-x-nodes.false, c.nodes-nodes.ensures.value))
    c.in-Moved.is c.new_count_fault.ensures.some

pub returns-in-Cut-clause-none : goal.returns-in-Cut-clause-none
returns-in-Cut-clause-none c =
    legal_as c.args.net.now.nodes c.args.dest (moment_of c.args.net.now.links c.args.counts.now)
    c.args.entry _ c.cut_off_fault.result (omega (arith, c.if-x-nodes.false, c.nodes-nodes.ensures.value)) c.in-Cut.is
    (rw c.nodes-nodes.ensures.value at c.cut_off_fault.ensures.none)

pub returns-in-Cut-clause-some : goal.returns-in-Cut-clause-some
returns-in-Cut-clause-some c =
    fails_as c.args.net.now.nodes c.args.dest (moment_of c.args.net.now.links c.args.counts.now)
    c.args.entry _ c.cut_off_fault.result (omega (arith, c.if-x-nodes.false, c.nodes-nodes.ensures.value)) c.in-Cut.is
    (rw c.nodes-nodes.ensures.value at c.cut_off_fault.ensures.some)

pub returns-in-Sink-clause-none : goal.returns-in-Sink-clause-none
returns-in-Sink-clause-none c =
    legal_as c.args.net.now.nodes c.args.dest (moment_of c.args.net.now.links c.args.counts.now)
    c.args.entry _ c.sink_fault.result (omega (arith, c.if-x-nodes.false, c.nodes-nodes.ensures.value)) c.in-Sink.is
    c.sink_fault.ensures.none

pub returns-in-Sink-clause-some : goal.returns-in-Sink-clause-some
returns-in-Sink-clause-some c =
    fails_as c.args.net.now.nodes c.args.dest (moment_of c.args.net.now.links c.args.counts.now)
    c.args.entry _ c.sink_fault.result (omega (arith, c.if-x-nodes.false, c.nodes-nodes.ensures.value)) c.in-Sink.is
    c.sink_fault.ensures.some
