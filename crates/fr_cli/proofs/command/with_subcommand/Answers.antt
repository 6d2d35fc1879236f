use Rattle.std.proofs.Common.{subst, Result}
use Rattle.std.specs.declared.alloc.AllocError.{AllocError}
use Rattle.clap.specs.declared.builder.command.Command.{Command}
use Rattle.fr_cli.specs.Making.{Makes}
use Rattle.fr_cli.proofs.command.with_subcommand.Goals as goal

pub returns : goal.returns
returns c app sub makes makes_sub = c.with_made_subcommand.ensures app sub makes
    (subst (λ (r : Result Command AllocError). Makes sub r) c.in_ok-subcommand.was makes_sub)
