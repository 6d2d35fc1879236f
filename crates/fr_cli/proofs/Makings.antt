-- How a command is made, call by call.
use Rattle.std.proofs.Common.{◌≡◌, ◌∙◌, ◌||◌, false, Result, Ok, Err, IfOk, ap, subst}
use Rattle.std.specs.declared.alloc.AllocError.{AllocError}
use Rattle.clap.specs.Simple.{App, app_of, with_rule, with_subcommand}
use Rattle.clap.specs.Walk.{Rule}
use Rattle.clap.specs.Words.{AddsArg, AddsSubcommand, rule_of}
use Rattle.clap.specs.declared.builder.arg.Arg.{Arg}
use Rattle.clap.specs.declared.builder.command.Command.{Command}
use Rattle.clap.specs.declared.builder.command.Command.TheViews.{out-Command}
use Rattle.fr_cli.specs.Making.{Makes}

-- what is known of a command that was made
pub made : (app : App) (c : Command) → Makes app (Ok c) → app_of c ≡ app
unfolding Makes
made app c makes = makes.0

-- one more option
pub makes_option : (given : Result Command AllocError) (option : Arg) (c : Command) (r : Result Command AllocError)
    → given ≡ Ok c → option.global ≡ false → IfOk r (λ d. AddsArg c option d)
    → (app : App) → Makes app given → Makes (with_rule app (rule_of option)) r
unfolding Makes
makes_option (Err e) option c r is local adds app makes = cc
makes_option (Ok x) option c (Err e) is local adds app makes = tt
makes_option (Ok x) option c (Ok d) is local adds app makes =
    let same : c ≡ x = cc in
    let shape = adds.shape local in
    let globals = adds.globals in (
      shape ∙ (λ i. with_rule ((ap app_of same ∙ makes.0) i) (rule_of option)),
      globals ∙ (λ i. (ap (λ (y : Command). (out-Command y).has_globals) same ∙ makes.1) i || local i),
    )

-- one more subcommand
pub makes_subcommand : (given : Result Command AllocError) (c s : Command) (r : Result Command AllocError)
    → given ≡ Ok c → IfOk r (λ d. AddsSubcommand c s d)
    → (app sub : App) → Makes app given → Makes sub (Ok s) → Makes (with_subcommand app sub.top) r
unfolding Makes
makes_subcommand (Err e) c s r is adds app sub makes makes_sub = cc
makes_subcommand (Ok x) c s (Err e) is adds app sub makes makes_sub = tt
makes_subcommand (Ok x) c s (Ok d) is adds app sub makes makes_sub =
    let same : c ≡ x = cc in (
      adds.shape makes_sub.1 ∙ (λ i. with_subcommand ((ap app_of same ∙ makes.0) i) (makes_sub.0 i).top),
      adds.globals ∙ (λ i. (ap (λ (y : Command). (out-Command y).has_globals) same ∙ makes.1) i || makes_sub.1 i),
    )

-- one more option, with an equal rule
pub makes_rule : (given r : Result Command AllocError) (app : App) (one rule : Rule) → one ≡ rule
    → ((a : App) → Makes a given → Makes (with_rule a one) r) → Makes app given → Makes (with_rule app rule) r
makes_rule given r app one rule same adds makes = subst (λ (x : Rule). Makes (with_rule app x) r) same (adds app makes)
