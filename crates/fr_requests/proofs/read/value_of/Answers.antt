use Rattle.std.proofs.Common.{List, None, Option, Some, [], ap, false, is_some, refl, sym, true, ◌∙◌, ◌∷◌, ◌≡◌}
use Rattle.std.proofs.lemmas.Bool.{false≢true}
use Rattle.json.specs.Json.{value}
use Rattle.json.specs.Lex.{tokens}
use Rattle.json.specs.Reads.{Yields, token_of}
use Rattle.json.specs.Token as spec
use Rattle.json.specs.Value.{value_view}
use Rattle.json.specs.declared.token.Token.{Token}
use Rattle.fr_requests.specs.Values.{data_of, is_json_readable}
use Rattle.fr_requests.proofs.Readings.{json_data, more_than_value, when, whole_read}
use Rattle.fr_requests.proofs.read.value_of.Goals as goal

yields_one : (old new : List spec.Token) (o : Option Token) → is_some o ≡ true → Yields old o new
    → (t : spec.Token) × (old ≡ t ∷ new)
yields_one old new None some yields = absurd (false≢true some)
yields_one old new (Some t) some yields = (token_of t, yields)

yields_none : (old new : List spec.Token) (o : Option Token) → is_some o ≡ false → Yields old o new → old ≡ []
yields_none old new None none yields = yields.0
yields_none old new (Some t) none yields = absurd (false≢true (sym none))

pub returns-then-is_some-clause-refused : goal.returns-then-is_some-clause-refused
returns-then-is_some-clause-refused c _ =
    let more = yields_one _ _ c.next.result (sym c.if-is_some.ensures) c.next.ensures.value in
    let begins = ap (value 127) (sym c.in_ok-reader.ensures.ok) ∙ c.in-Ok.ensures.ok
    ∙ ap (λ ts. Some (value_view c.in-Ok.value, ts)) more.1 in
    (refl, more_than_value c.args.text.now (value_view c.in-Ok.value) more.0 _ begins)

pub returns-then-is_readable-clause-ok : goal.returns-then-is_readable-clause-ok
returns-then-is_readable-clause-ok c =
    let j = value_view c.in-Ok.value in
    let none = yields_none _ _ c.next.result (sym c.if-is_some.ensures) c.next.ensures.value in
    let whole : value 127 (tokens c.args.text.now) ≡ Some (j, []) = ap (value 127) (sym c.in_ok-reader.ensures.ok)
    ∙ c.in-Ok.ensures.ok ∙ ap (λ ts. Some (j, ts)) none in
    let readable : is_json_readable j ≡ true = sym c.if-is_readable.ensures in
    whole_read c.args.text.now j whole ∙ json_data j ∙ ap (λ b. when b (data_of j)) readable

pub returns-clause-refused : goal.returns-clause-refused
returns-clause-refused c _ =
    let j = value_view c.in-Ok.value in
    let none = yields_none _ _ c.next.result (sym c.if-is_some.ensures) c.next.ensures.value in
    let whole : value 127 (tokens c.args.text.now) ≡ Some (j, []) = ap (value 127) (sym c.in_ok-reader.ensures.ok)
    ∙ c.in-Ok.ensures.ok ∙ ap (λ ts. Some (j, ts)) none in
    let readable : is_json_readable j ≡ false = sym c.if-is_readable.ensures in
    (refl, whole_read c.args.text.now j whole ∙ json_data j ∙ ap (λ b. when b (data_of j)) readable)
