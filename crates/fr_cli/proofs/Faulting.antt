-- Which words of a command line are refused, and how.
use Rattle.std.proofs.Common.{◌≡◌, List, [], Result, Ok, Err, IfOk, IfErr, true, inl, inr, subst, sym, refl}
use Rattle.clap.specs.Faults.{fault_of, is_simple_and_free}
use Rattle.clap.specs.Kinds.{FailsBy, HasKind, IsAmong}
use Rattle.clap.specs.Simple.{App, HasMatchesOf, is_simple, subcommand_of, subcommand_rows_of}
use Rattle.clap.specs.Values.{kind_of}
use Rattle.clap.specs.Walk.{Text}
use Rattle.clap.specs.declared.error.Error.{Error}
use Rattle.clap.specs.declared.error.kind.ErrorKind.{ErrorKind}
use Rattle.clap.specs.declared.parser.matches.ArgMatches.{ArgMatches}
use Rattle.fr_cli.specs.Commands.{command}
use Rattle.fr_cli.specs.Tasks.{IsUsageOf, IsFaultOf}
use Rattle.fr_cli.specs.declared.task.TaskFault.{TaskFault}
use Rattle.fr_cli.specs.declared.task.TaskFault.TheVariants.{Usage, Version, Memory}

-- words that the command accepts have its subcommand
pub taken_subcommand : (app : App) (words : List Text) (r : Result ArgMatches Error) → app ≡ command
    → IfOk r (HasMatchesOf app words) → IfOk r (λ m. subcommand_rows_of m ≡ subcommand_of command words)
taken_subcommand app words (Ok m) same has =
    subst (λ (a : App). subcommand_rows_of m
    ≡ subcommand_of a words) same (has (subst (λ (a : App). is_simple a ≡ true) (sym same) refl)).1
taken_subcommand app words (Err e) same has = tt

module _ {T : Type 0} where
  -- words that the command accepts have no fault
  pub taken_faultless : (app : App) (words : List Text) (r : Result T Error) → app ≡ command
      → (is_simple_and_free app ≡ true → FailsBy (fault_of app words) r) → IfOk r (λ _. fault_of command words ≡ [])
  taken_faultless app words (Ok m) same kinds =
      subst (λ (a : App). fault_of a words
      ≡ []) same (kinds (subst (λ (a : App). is_simple_and_free a ≡ true) (sym same) refl))
  taken_faultless app words (Err e) same kinds = tt

  -- an error of the command has one of its kinds
  pub refused_kinds : (app : App) (words : List Text) (r : Result T Error) → app ≡ command
      → (is_simple_and_free app ≡ true → FailsBy (fault_of app words) r) → IfErr r (HasKind (fault_of command words))
  refused_kinds app words (Ok m) same kinds = tt
  refused_kinds app words (Err e) same kinds =
      subst (λ (a : App). HasKind (fault_of a words) e) same (kinds (subst (λ (a : App). is_simple_and_free a
      ≡ true) (sym same) refl))

-- the fault says whether help or the version was asked for
pub said_fault : (words : List Text) (e : Error) (fault : TaskFault) → HasKind (fault_of command words) e
    → IsUsageOf (kind_of e) fault → IsFaultOf words fault
said_fault words e (Usage text asked) (inl none) said = absurd (said.0 none)
said_fault words e (Usage text asked) (inr among) said = inl (kind_of e, among, said.1, said.2)
said_fault words e (Version text) (inl none) said = absurd (cc (none, said))
said_fault words e (Version text) (inr among) said =
    subst (λ (kind : ErrorKind). IsAmong kind (fault_of command words)) said among
said_fault words e Memory kinds said = tt
