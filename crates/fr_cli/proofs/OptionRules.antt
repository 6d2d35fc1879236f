-- The rule of an option, call by call.
use Rattle.std.proofs.Common.{◌≡◌, ◌∙◌, ◌∷◌, [], List, ℕ, Some, Bor}
use Rattle.clap.specs.Words.{rule_of, new_rule}
use Rattle.clap.specs.declared.builder.action.ArgAction.TheVariants.{SetTrue}
use Rattle.clap.specs.declared.builder.arg.Arg.{Arg}
use Rattle.clap.specs.declared.builder.texts.Texts.TheVariants.{One}
use Rattle.clap.specs.declared.builder.value_parser.ValueParser.{ValueParser}
use Rattle.fr_cli.specs.Commands.{flag, option}

-- a name on the command line and one value
named : (name word : Bor (List ℕ)) (a b c : Arg) → rule_of a ≡ new_rule name.now → b ≡ record a { long = Some name }
    → c ≡ record b { val_names = One word }
    → rule_of c ≡ record (new_rule name.now) { long = Some name.now; value_names = 1 }
named name word a b c new long one = (λ i. rule_of (one i))
    ∙ ((λ i. record (rule_of (long i)) { value_names = 1 }) ∙ (λ i. record (new i) {
      long = Some name.now;
      value_names = 1;
    }))

-- a default, numbers and a text
pub option_rule : (name word default help : Bor (List ℕ)) (numbers : ValueParser) (a b c d e f : Arg)
    → rule_of a ≡ new_rule name.now → b ≡ record a { long = Some name } → c ≡ record b { val_names = One word }
    → d ≡ record c { default_vals = One default } → e ≡ record d { value_parser = e.value_parser }
    → e.value_parser ≡ Some numbers → f ≡ record e { help = Some help }
    → rule_of f ≡ option name.now default.now numbers
option_rule name word default help numbers a b c d e f new long one stands others parser helped =
    let so_far = named name word a b c new long one in
    (λ i. rule_of (helped i)) ∙ ((λ i. rule_of (others i))
    ∙ ((λ i. record (rule_of (stands i)) { parser = parser i }) ∙ (λ i. record (so_far i) {
      defaults = default.now ∷ [];
      parser = Some numbers;
    })))

-- no value, and a text
pub flag_rule : (name help : Bor (List ℕ)) (a b c d : Arg)
    → rule_of a ≡ new_rule name.now → b ≡ record a { long = Some name } → c ≡ record b { action = Some SetTrue }
    → d ≡ record c { help = Some help } → rule_of d ≡ flag name.now
flag_rule name help a b c d new long sets helped = (λ i. rule_of (helped i))
    ∙ ((λ i. rule_of (sets i)) ∙ ((λ i. record (rule_of (long i)) { action = Some SetTrue })
    ∙ (λ i. record (new i) { long = Some name.now; action = Some SetTrue })))
