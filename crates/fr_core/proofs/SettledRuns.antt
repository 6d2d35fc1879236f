-- A run of turns alone leads from lawful counts to the settled ones.
use Rattle.std.proofs.Common.{List, ap, arith, mul-le-mul, refl, subst, sum, ℕ, ◌*◌, ◌<◌, ◌^◌, ◌∙◌, ◌≡◌, ◌≤◌}
use Rattle.fr_core.proofs.Finishing.{finish, moment_path, settled_at_end}
use Rattle.fr_core.proofs.Runs.{lawful_sum, run_sum}
use Rattle.fr_core.proofs.Turning.{IsLawfulAt, run_keeps}
use Rattle.fr_core.proofs.Unique.{settled_unique}
use Rattle.fr_core.specs.History.{Moment, after_all, moment_of}
use Rattle.fr_core.specs.Laws.{RunLeadsToSettled}
use Rattle.fr_core.specs.Legal.{NoneCanTurn}
use Rattle.fr_graph.specs.Counts.{AreLawful, links_at}
use Rattle.fr_graph.specs.Limits.{most_nodes}

pub run_to_settled : RunLeadsToSettled
run_to_settled = λ n d first before settled net below lawful ends.
    let start : Moment = moment_of first before in
    let at_start : IsLawfulAt n d first start = record { links = refl; lawful = lawful } in
    let f = finish n d first net start at_start in
    let end : Moment = after_all start f.entries in
    let at_end = run_keeps n d first net start at_start f.entries f.run in
    let same =
    settled_unique n d first end.counts settled (settled_at_end n d first net below end at_end f.ends) ends in
    let whole : end ≡ moment_of first settled =
    moment_path end (moment_of first settled) (at_end.links ∙ ap (links_at first) same) same in
    let adds = run_sum n d start f.entries lawful.one_each f.run in
    let sums : sum end.counts ≡ sum settled = ap sum same in (
      omega (arith, adds, sums),
      record {
        entries = f.entries;
        run = f.run;
        turns_alone = f.turns_alone;
        long = omega (arith, adds, sums, f.turns_alone);
        ends = whole;
        none_left = subst (NoneCanTurn n d) whole f.ends;
        adds = omega (arith, adds, sums);
      },
    )

-- the sum of lawful counts fits a u64
pub lawful_sum_fits : (n d : ℕ) (first : List (ℕ × ℕ)) (c : List ℕ) → n ≤ most_nodes → AreLawful n d first c
    → sum c < 2 ^ 64
lawful_sum_fits n d first c few lawful =
    let square : n * n ≤ most_nodes * most_nodes =
    mul-le-mul {n₁ = n} {m₁ = n} {n₂ = most_nodes} {m₂ = most_nodes} few few in
    omega (arith, square, lawful_sum n d first c lawful)
