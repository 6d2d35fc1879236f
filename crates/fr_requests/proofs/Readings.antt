-- The data of a text, from its value of JSON.
use Rattle.std.proofs.Common.{Bool, List, None, Option, Some, [], ap, false, if◌then◌else◌, is_some, option_and_then}
use Rattle.std.proofs.Common.{option_map, refl, true, ℕ, ◌&&◌, ◌∙◌, ◌∷◌, ◌≡◌}
use Rattle.json.specs.Json as json
use Rattle.json.specs.Json.{value}
use Rattle.json.specs.Lex.{tokens}
use Rattle.json.specs.Token.{Token}
use Rattle.serde_json.specs.Data.{Data, Items, Members, Num, array, item, number, object, put}
use Rattle.serde_json.specs.Read.{number_of, of_items, of_json, of_members, read}
use Rattle.fr_requests.specs.Values.{are_items_readable, are_members_readable, data_of, data_of_items, data_of_members}
use Rattle.fr_requests.specs.Values.{is_json_readable, number_or_null}

abbrev pub when : {X : Type 0} → Bool → X → Option X
when test x = if test then Some x else None

map_when : {X Y : Type 0} (f : X → Y) (test : Bool) (x : X) → option_map f (when test x) ≡ when test (f x)
map_when f true x = refl
map_when f false x = refl

item_when : (first more : Bool) (d : Data) (ds : Items)
    → option_and_then (λ d. option_map (item d) (when more ds)) (when first d) ≡ when (first && more) (item d ds)
item_when true true d ds = refl
item_when true false d ds = refl
item_when false true d ds = refl
item_when false false d ds = refl

member_when : (first more : Bool) (d : Data) (rest : Data → Option Members) (ms : Members) → rest d ≡ when more ms
    → option_and_then rest (when first d) ≡ when (first && more) ms
member_when true more d rest ms is = is
member_when false more d rest ms is = refl

number_when : (o : Option Num) → option_map number o ≡ when (is_some o) (number_or_null o)
number_when None = refl
number_when (Some n) = refl

-- a value has data exactly if each number is in range
mutual
  pub json_data : (j : json.Json) → of_json j ≡ when (is_json_readable j) (data_of j)
  json_data json.null = refl
  json_data (json.boolean b) = refl
  json_data (json.number s) = number_when (number_of s)
  json_data (json.string s) = refl
  json_data (json.array js) = ap (option_map array) (items_data js) ∙ map_when array _ _
  json_data (json.object ms) = ap (option_map object) (members_data ms _) ∙ map_when object _ _

  items_data : (js : json.Items) → of_items js ≡ when (are_items_readable js) (data_of_items js)
  items_data json.no_items = refl
  items_data (json.item j js) =
      ap (λ o. option_and_then (λ d. option_map (item d) o) (of_json j)) (items_data js)
      ∙ ap (option_and_then (λ d. option_map (item d) (when (are_items_readable js) (data_of_items js)))) (json_data j)
      ∙ item_when (is_json_readable j) (are_items_readable js) (data_of j) (data_of_items js)

  members_data : (ms : json.Members) (found : Members)
      → of_members ms found ≡ when (are_members_readable ms) (data_of_members ms found)
  members_data json.no_members found = refl
  members_data (json.member k j ms) found =
      ap (option_and_then (λ d. of_members ms (put k d found))) (json_data j)
      ∙ member_when (is_json_readable j) (are_members_readable ms) (data_of j) (λ d. of_members ms (put k d found)) _
      (members_data ms (put k (data_of j) found))

-- a text whose tokens are exactly those of a value
pub whole_read : (text : List ℕ) (j : json.Json) → value 127 (tokens text) ≡ Some (j, []) → read text ≡ of_json j
whole_read text j is = ap (λ found. option_and_then of_json (option_and_then (λ p. json.if_last p.0 p.1) found)) is

-- a text with more tokens after its value
pub more_than_value : (text : List ℕ) (j : json.Json) (t : Token) (ts : List Token)
    → value 127 (tokens text) ≡ Some (j, t ∷ ts) → read text ≡ None
more_than_value text j t ts is =
    ap (λ found. option_and_then of_json (option_and_then (λ p. json.if_last p.0 p.1) found)) is
