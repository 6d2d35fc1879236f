-- The data of `serde_json` for a value of `json`. For proofs only.
use Rattle.std.specs.Prelude.{Option, Some, None, Bool, true, ◌&&◌, is_some}
use Rattle.json.specs.Json as json
use Rattle.json.specs.Value.{value_view}
use Rattle.json.specs.declared.value.Value as code
use Rattle.serde_json.specs.Data.{Num, Data, null, boolean, number, string, array, object, Items, no_items, item}
use Rattle.serde_json.specs.Data.{Members, no_members, put}
use Rattle.serde_json.specs.Read.{number_of}
use Rattle.std.specs.declared.alloc.Global.{Global}

-- each number inside is in the range of `serde_json`
abbrev mutual
  pub is_json_readable : json.Json → Bool
  is_json_readable json.null = true
  is_json_readable (json.boolean b) = true
  is_json_readable (json.number s) = is_some (number_of s)
  is_json_readable (json.string s) = true
  is_json_readable (json.array js) = are_items_readable js
  is_json_readable (json.object ms) = are_members_readable ms

  pub are_items_readable : json.Items → Bool
  are_items_readable json.no_items = true
  are_items_readable (json.item j js) = is_json_readable j && are_items_readable js

  pub are_members_readable : json.Members → Bool
  are_members_readable json.no_members = true
  are_members_readable (json.member k j ms) = is_json_readable j && are_members_readable ms

-- a number as data, or null where there is none
abbrev pub number_or_null : Option Num → Data
number_or_null (Some n) = number n
number_or_null None = null

-- the data of a value. A number that is out of range counts as null
abbrev mutual
  pub data_of : json.Json → Data
  data_of json.null = null
  data_of (json.boolean b) = boolean b
  data_of (json.number s) = number_or_null (number_of s)
  data_of (json.string s) = string s
  data_of (json.array js) = array (data_of_items js)
  data_of (json.object ms) = object (data_of_members ms no_members)

  pub data_of_items : json.Items → Items
  data_of_items json.no_items = no_items
  data_of_items (json.item j js) = item (data_of j) (data_of_items js)

  pub data_of_members : json.Members → Members → Members
  data_of_members json.no_members found = found
  data_of_members (json.member k j ms) found = data_of_members ms (put k (data_of j) found)

-- a value of the code, and its data
abbrev pub Value : Type 0
Value = code.Value Global

abbrev pub view : Value → Data
view v = data_of (value_view v)
