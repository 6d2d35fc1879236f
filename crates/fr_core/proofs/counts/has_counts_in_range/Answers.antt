use Rattle.std.proofs.Common.{arith, ⊎_elim}
use Rattle.std.proofs.lemmas.Bool.{cases_eq, false≢true}
use Rattle.fr_core.specs.NodeCounts.{IsLawfulCount}
use Rattle.fr_core.proofs.counts.has_counts_in_range.Goals as goal

pub returns-then-counts-x : goal.returns-then-counts-x
returns-then-counts-x c = (
  λ f. absurd (false≢true f),
  λ fits.
      let at = fits c.loop-x.x (omega arith) in
      absurd (⊎_elim {C = ⊥} (λ none. omega (arith, at.1 none.0, none.1)) (λ some. omega (arith, at.0, some.1))
      c.most_count.ensures),
)

pub loop-x-preserved : goal.loop-x-preserved
loop-x-preserved c = λ y l.
    let net = c.args.net.now in
    let here : IsLawfulCount net.nodes net.links c.args.counts.now c.loop-x.x =
    ⊎_elim {C = IsLawfulCount net.nodes net.links c.args.counts.now c.loop-x.x}
    (λ none. (omega (arith, none.1), λ alone. omega (arith, none.1)))
    (λ some. (omega (arith, some.1), λ alone. absurd (some.0 alone)))
    c.most_count.ensures in
    ⊎_elim {C = IsLawfulCount net.nodes net.links c.args.counts.now y}
    (λ e. rw e here)
    (λ ne. c.loop-x.invariant y (omega arith))
    (cases_eq y c.loop-x.x)
