use Rattle.std.proofs.Common.{Global, Vec, sym, ◌∙◌}
use Rattle.std.proofs.lemmas.List.{length-map}
use Rattle.fr_core.specs.Targets.{lists_of}
use Rattle.fr_core.specs.declared.targets.Target.{Target}
use Rattle.fr_logs.proofs.Jobs.{all_own, run_of_plans}
use Rattle.fr_logs.proofs.running.close_run.Goals as goal

pub close_logged-requires-clause-own : goal.close_logged-requires-clause-own
close_logged-requires-clause-own c = all_own c.args.round
    (lists_of c.args.plans.now) c.args.recorders.items c.requires.done

pub returns-in-Ok-clause-run : goal.returns-in-Ok-clause-run
returns-in-Ok-clause-run c =
    run_of_plans c.args.round (lists_of c.args.plans.now) c.args.recorders.items c.in-Ok.logged c.requires.done
    c.in-Ok.ensures.logged (c.requires.workers
    ∙ sym (length-map c.args.plans.now (λ (v : Vec Target Global). v.items)))
