use Rattle.fr_core.proofs.Turning.{turn-links_at, turn_lawful}
use Rattle.std.proofs.Common.{List, ap, arith, refl, replicate, subst, sym, ℕ, ◌∙◌, ◌≡◌}
use Rattle.fr_core.proofs.Finishing.{links_at-zeros, zeros_lawful}
use Rattle.fr_core.proofs.Reached.{lawful_reached}
use Rattle.fr_core.proofs.Rounds.{links-after_all}
use Rattle.fr_core.proofs.Runs.{lawful_sum, run_count, run_sum}
use Rattle.fr_core.proofs.Turning.{run_keeps}
use Rattle.fr_core.specs.History.{Moment, after_all, links_after, moment_of}
use Rattle.fr_graph.proofs.Acyclic.{links_at_acyclic}
use Rattle.fr_graph.specs.Counts.{links_at}
use Rattle.fr_graph.specs.Links.{IsAcyclic}
use Rattle.fr_core.proofs.laws.run_law.Goals as goal

pub returns-clause-one : goal.returns-clause-one
returns-clause-one c =
    λ n d first counts x net lawful can. (
      turn-links_at n d first net counts lawful x can,
      turn_lawful n d first net counts lawful x can,
    )

pub returns-clause-all : goal.returns-clause-all
returns-clause-all c = λ n d first counts h net lawful run.
    let at = run_keeps n d first net (moment_of first counts) (record { links = refl; lawful = lawful }) h run in
    (at.links, at.lawful)

pub returns-clause-after : goal.returns-clause-after
returns-clause-after c = λ n d first counts h long run.
    (links-after_all (moment_of first counts) h, run_count n d (moment_of first counts) h long run)

pub returns-clause-acyclic : goal.returns-clause-acyclic
returns-clause-acyclic c = λ n d first h net run.
    let start : Moment = moment_of first (replicate n 0) in
    let at = run_keeps n d first net start (record { links = refl; lawful = zeros_lawful n d first }) h run in
    let same : (after_all start h).links ≡ links_after first h = links-after_all start h
    ∙ ap (λ (links : List (ℕ × ℕ)). links_after links h) (links_at-zeros n first) in
    let given : links_after first h ≡ links_at first (after_all start h).counts = sym same ∙ at.links in
    (given, subst IsAcyclic (sym given) (links_at_acyclic first (after_all start h).counts net.acyclic))

pub returns-clause-adds : goal.returns-clause-adds
returns-clause-adds c = λ n d first counts h net lawful run.
    let at = run_keeps n d first net (moment_of first counts) (record { links = refl; lawful = lawful }) h run in
    let adds = run_sum n d (moment_of first counts) h lawful.one_each run in
    (adds, omega (arith, adds, lawful_sum n d first _ at.lawful))

pub returns-clause-reached : goal.returns-clause-reached
returns-clause-reached c = lawful_reached
