use Rattle.std.proofs.Common.{◌≡◌, ℕ, ◌+◌, List, [], Vec, Global, refl, replicate, rules, slice_index, slice_index_or}
use Rattle.std.proofs.Common.{slice_set, arith, sym, ap, ◌∙◌}
use Rattle.std.proofs.lemmas.List.{get_or_read}
use Rattle.fr_core.proofs.Checking.{one_more, bad_at, same_after}
use Rattle.fr_core.proofs.Finishing.{zeros_lawful}
use Rattle.fr_core.proofs.Runs.{run_to}
use Rattle.fr_core.specs.Checks.{Fails}
use Rattle.fr_core.specs.History.{Moment, after_reply, moment_of}
use Rattle.fr_core.specs.Legal.{IsLegal}
use Rattle.fr_core.specs.declared.entry.Entry.{Entry}
use Rattle.fr_core.specs.declared.entry.Reply.{Reply}
use Rattle.fr_core.specs.declared.entry.Reply.TheVariants.{Turned}
use Rattle.fr_core.proofs.check.check_run.Goals as goal
use Rattle.fr_core.proofs.check.check_run.Goals.{in-Turned, in_default-reply}

-- what a read past the end of the entries gives
none : Entry
none = record { worker = 0; node = 0; reply = Turned 0 }

pub loop-index-init : goal.loop-index-init
loop-index-init c =
    let net = c.args.net.now in
    let zeros : c.in_ok-counts.counts.items ≡ replicate net.nodes 0 = search rules in
    rw zeros (run_to net.nodes c.args.dest net.links c.nodes-nodes.ensures.faultless.is_net []
    (replicate net.nodes 0) tt refl (zeros_lawful net.nodes c.args.dest net.links))

pub returns-in-Some-clause-refused : goal.returns-in-Some-clause-refused
unfolding none
returns-in-Some-clause-refused c _ =
    let net = c.args.net.now in
    let fails : Fails net.nodes c.args.dest (moment_of net.links c.loop-index.counts.items)
    (slice_index_or c.args.entries.now c.loop-index.index none) c.in-Some.why =
    rw c.deref.ensures.value at c.in-Some.ensures.some in (
      omega (arith, c.if-dest-nodes.false),
      bad_at net.nodes c.args.dest net.links c.args.entries.now c.loop-index.index none c.loop-index.counts.items
          c.in-Some.why c.loop-index.invariant (omega arith) fails,
    )

pub loop-index-preserved : goal.loop-index-preserved
unfolding none
loop-index-preserved c =
    let net = c.args.net.now in
    let old : List ℕ = c.loop-index.counts.items in
    let e : Entry = slice_index_or c.args.entries.now c.loop-index.index none in
    let m : Moment = moment_of net.links old in
    let legal : IsLegal net.nodes c.args.dest m e = rw c.deref.ensures.value at c.in_default.ensures.none in
    one_more net.nodes c.args.dest net.links c.args.entries.now c.loop-index.index none old c.match-entry.counts.items
    c.nodes-nodes.ensures.faultless.is_net c.loop-index.invariant (omega arith) legal
    (elim c.match-entry.branch [
      | in-Turned w ↦
          let read : w.index_mut.result.now ≡ slice_index old e.node = get_or_read old e.node w.index_mut.result.now
          (let l = legal.0 in let each = c.loop-index.invariant.lawful.one_each in omega (arith, l, each))
          w.index_mut.ensures.value 0 in
          ap (λ (v : Vec ℕ Global). v.items) w.counts-is ∙ ap (λ (k : ℕ). slice_set old e.node (k + 1)) read
          ∙ ap (λ (r : Reply). (after_reply m e.node r).counts) (sym w.in-Turned.is)
      | in_default-reply w ↦ ap (λ (v : Vec ℕ Global). v.items) w.counts-is
          ∙ same_after m e.node e.reply w.in_default-reply.not-Turned
    ])
