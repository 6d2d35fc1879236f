use Rattle.std.proofs.Common.{List, ap, arith, drop, refl, set, sym, ℕ, ◌+◌, ◌∙◌, ◌≡◌}
use Rattle.std.proofs.lemmas.List.{drop-drop, drop-set-lt}
use Rattle.fr_shared.proofs.HopWalks.{next_inside, not_longer, walk_begins, walk_ends, walk_goes_on}
use Rattle.fr_shared.proofs.hops.reading.Reader+Hop.walk.Goals as goal

-- a write at place i does not change what is after it
rest_more : (room now : List ℕ) (i y : ℕ) → drop i now ≡ drop i room → drop (i + 1) (set now i y) ≡ drop (i + 1) room
rest_more room now i y rest =
    drop-set-lt (i + 1) now i y (omega arith)
    ∙ (sym (drop-drop 1 i now) ∙ (ap (λ (l : List ℕ). drop 1 l) rest ∙ drop-drop 1 i room))

pub loop-count-init : goal.loop-count-init
loop-count-init c = record { way = walk_begins c.args.nodes.now c.hop-hop.ensures; rest = refl }

pub hop-hop-requires-in-loop-count : goal.hop-hop-requires-in-loop-count
hop-hop-requires-in-loop-count c = next_inside c.loop-count.invariant.way c.in-To.is

pub loop-count-preserved : goal.loop-count-preserved
loop-count-preserved c = record {
  way = walk_goes_on c.loop-count.invariant.way c.in-To.is (omega arith) c.hop-hop-in-loop-count.ensures;
  rest = rest_more c.args.nodes.now c.loop-count.nodes c.loop-count.count c.in-To.next c.loop-count.invariant.rest;
}

pub returns-in_default-clause-walked : goal.returns-in_default-clause-walked
returns-in_default-clause-walked c =
    walk_ends c.with_last_hop.result c.loop-count.invariant.way c.with_last_hop.ensures.count c.with_last_hop.ensures.end
    (omega arith)
    (λ longer. absurd (not_longer c.loop-count.hop c.in_default.not-To (sym c.with_last_hop.ensures.end ∙ longer)))

pub returns-clause-walked : goal.returns-clause-walked
returns-clause-walked c =
    walk_ends c.with_last_hop-2.result c.loop-count.invariant.way (omega (arith, c.with_last_hop-2.ensures.count))
    c.with_last_hop-2.ensures.end
    (omega arith) (λ _. omega arith)
