-- A line that is read by its bytes: from its lexemes to its request.
use Rattle.std.proofs.Common.{IsUtf8, List, Ok, Option, Some, [], ap, append_assoc, arith, codes}
use Rattle.std.proofs.Common.{decimal, lt-ltb, map, ok_or, option_and_then, refl, sym, true}
use Rattle.std.proofs.Common.{ℕ, ◌++◌, ◌≤◌, ◌∙◌, ◌∷◌, ◌≡◌}
use Rattle.std.proofs.lemmas.Bool.{false≢true}
use Rattle.std.proofs.lemmas.List.{append-nil}
use Rattle.std.proofs.lemmas.Str.{IsUtf8-nil}
use Rattle.json.proofs.Printed.Trees.{value-json_tokens}
use Rattle.json.specs.Json as json
use Rattle.json.specs.Json.{Json, value}
use Rattle.json.specs.Lex.{Lexeme, Place, after_comma, after_key, after_value, comma, fresh, lex, may_begin, punctuate}
use Rattle.json.specs.Lex.{token, tokens}
use Rattle.json.specs.Token.{Token}
use Rattle.json.specs.Tree.{depth, items_depth, items_tokens, json_tokens}
use Rattle.serde_json.proofs.Numbers.{number_of-decimal}
use Rattle.serde_json.specs.Data.{Data, Items, array, item, no_items, number, string, unsigned}
use Rattle.serde_json.specs.Read.{number_of, of_items, of_json}
use Rattle.serde_json.specs.View.{items_of}
use Rattle.fr_requests.specs.LineLexemes.{AreSmall, Begins, Each, HasSmallEnds, IsReadAs, IsSmall}
use Rattle.fr_requests.specs.LineLexemes.{edit_ends, edit_lexemes}
use Rattle.fr_requests.specs.LineLexemes.{letters, link_lexemes, list_lexemes, number_lexeme, opening}
use Rattle.fr_requests.specs.LineLexemes.{plain_edit, word_of}
use Rattle.fr_requests.specs.Requests.{ask, edit_in, edit_of_word, edits_in, item_list, link_in, links_in, make_edits}
use Rattle.fr_requests.specs.Requests.{move_dest, new_network}
use Rattle.fr_requests.specs.Requests.{read_all, reading, reading_of_value, request_of, request_of_word}
use Rattle.fr_requests.specs.Requests.{walk_from}
use Rattle.fr_graph.specs.declared.edit.Edit.{Edit}
use Rattle.fr_graph.specs.declared.edit.Edit.TheVariants.{Add, Cut, Join}
use Rattle.fr_requests.specs.declared.requests.LineFault.TheVariants.{NotRequest}
use Rattle.fr_requests.specs.declared.requests.Question.{Question}
use Rattle.fr_requests.specs.declared.requests.Question.TheVariants.{Counts, Hops, Links, Ways}
use Rattle.fr_requests.specs.declared.words.Word.TheVariants as word
use Rattle.fr_requests.proofs.FrontTexts.{begins_more}
use Rattle.fr_requests.proofs.Items.{list_again}
use Rattle.fr_requests.proofs.LineValues.{value_of_text}

-- ---- lists as their lexemes

-- the lexemes of items, each followed by a comma
abbrev pub each_before_comma : {X : Type 0} → (X → List Lexeme) → List X → List Lexeme
each_before_comma of_one [] = []
each_before_comma of_one (x ∷ xs) = of_one x ++ comma ∷ each_before_comma of_one xs

pub one_more_before_comma : {X : Type 0} (of_one : X → List Lexeme) (xs : List X) (x : X)
    → each_before_comma of_one xs ++ (of_one x ++ comma ∷ []) ≡ each_before_comma of_one (xs ++ x ∷ [])
one_more_before_comma of_one [] x = refl
one_more_before_comma of_one (y ∷ ys) x = append_assoc (of_one y) (comma ∷ each_before_comma of_one ys) _
    ∙ ap (λ ls. of_one y ++ comma ∷ ls) (one_more_before_comma of_one ys x)

-- a last item, and the bracket after it
pub last_before_bracket : {X : Type 0} (of_one : X → List Lexeme) (xs : List X) (x : X)
    → each_before_comma of_one xs ++ (of_one x ++ token Token.end_array ∷ []) ≡ list_lexemes of_one (xs ++ x ∷ [])
last_before_bracket of_one [] x = refl
last_before_bracket of_one (y ∷ []) x = append_assoc (of_one y) (comma ∷ []) _
last_before_bracket of_one (y ∷ z ∷ zs) x =
    append_assoc (of_one y) (comma ∷ each_before_comma of_one (z ∷ zs)) _
    ∙ ap (λ ls. of_one y ++ comma ∷ ls) (last_before_bracket of_one (z ∷ zs) x)

-- a list that is the last item of its line
pub list_closes : {X : Type 0} (of_one : X → List Lexeme) (text mid behind : List ℕ) (xs : List X) (x : X)
    → Begins text (each_before_comma of_one xs) mid → Begins mid (of_one x) behind
    → Begins behind (token Token.end_array ∷ token Token.end_array ∷ []) []
    → Begins text (list_lexemes of_one (xs ++ x ∷ []) ++ token Token.end_array ∷ []) []
list_closes of_one text mid behind xs x before last end =
    let bracket = token Token.end_array ∷ [] in
    let same : each_before_comma of_one xs ++ (of_one x ++ token Token.end_array ∷ token Token.end_array ∷ [])
    ≡ list_lexemes of_one (xs ++ x ∷ []) ++ bracket =
    ap (λ ls. each_before_comma of_one xs ++ ls) (sym (append_assoc (of_one x) bracket bracket))
    ∙ sym (append_assoc (each_before_comma of_one xs) (of_one x ++ bracket) bracket)
    ∙ ap (λ ls. ls ++ bracket) (last_before_bracket of_one xs x) in
    rw (← same) (begins_more _ _ _ (each_before_comma of_one xs)
    (of_one x ++ token Token.end_array ∷ token Token.end_array ∷ []) before (begins_more _ _ _ (of_one x) _ last end))

pub Each-snoc : {X : Type 0} (P : X → Type 0) (xs : List X) (x : X) → Each P xs → P x → Each P (xs ++ x ∷ [])
Each-snoc P [] x all one = (one, tt)
Each-snoc P (y ∷ ys) x all one = (all.0, Each-snoc P ys x all.1 one)

-- ---- lists as JSON, whose brackets and commas make a tree

abbrev ends_json : ℕ × ℕ → json.Items
ends_json ends = json.item (json.number (decimal ends.0)) (json.item (json.number (decimal ends.1)) json.no_items)

abbrev link_json : ℕ × ℕ → Json
link_json link = json.array (ends_json link)

abbrev edit_json : Edit → Json
edit_json edit = json.array (json.item (json.string (word_of edit)) (ends_json (edit_ends edit)))

abbrev number_json : ℕ → Json
number_json n = json.number (decimal n)

abbrev items_json : {X : Type 0} → (X → Json) → List X → json.Items
items_json json_of [] = json.no_items
items_json json_of (x ∷ xs) = json.item (json_of x) (items_json json_of xs)

-- an item begins wherever a value may, and has these tokens
abbrev IsPlaced : {X : Type 0} → (X → List Lexeme) → (X → Json) → Type 0
IsPlaced {X} of_one json_of =
    (x : X) (place : Place) (more : List Lexeme) → may_begin place ≡ true
    → punctuate place (of_one x ++ more) ≡ json_tokens (json_of x) ++ punctuate after_value more

link_placed : IsPlaced link_lexemes link_json
unfolding punctuate
link_placed link fresh more may = refl
link_placed link after_value more may = absurd (false≢true may)
link_placed link after_comma more may = refl
link_placed link after_key more may = absurd (false≢true may)

edit_placed : IsPlaced edit_lexemes edit_json
unfolding punctuate
edit_placed edit fresh more may = refl
edit_placed edit after_value more may = absurd (false≢true may)
edit_placed edit after_comma more may = refl
edit_placed edit after_key more may = absurd (false≢true may)

module _ {X : Type 0} (of_one : X → List Lexeme) (json_of : X → Json) (placed : IsPlaced of_one json_of) where
  some_tokens : (x : X) (xs : List X) (place : Place) (more : List Lexeme) → may_begin place ≡ true
      → punctuate place (list_lexemes of_one (x ∷ xs) ++ more) ≡ items_tokens (items_json json_of (x ∷ xs))
      ++ punctuate after_value more
  unfolding punctuate
  some_tokens x [] place more may =
      ap (punctuate place) (append_assoc (of_one x) (token Token.end_array ∷ []) more)
      ∙ placed x place (token Token.end_array ∷ more) may
      ∙ sym (append_assoc (json_tokens (json_of x)) (Token.end_array ∷ []) (punctuate after_value more))
  some_tokens x (y ∷ ys) place more may =
      ap (punctuate place) (append_assoc (of_one x) (comma ∷ list_lexemes of_one (y ∷ ys)) more)
      ∙ placed x place (comma ∷ (list_lexemes of_one (y ∷ ys) ++ more)) may
      ∙ ap (λ ts. json_tokens (json_of x) ++ ts) (some_tokens y ys after_comma more refl)
      ∙ sym (append_assoc (json_tokens (json_of x)) _ (punctuate after_value more))

  list_tokens : (xs : List X) (more : List Lexeme) → punctuate fresh (list_lexemes of_one xs ++ more) ≡ items_tokens
      (items_json json_of xs) ++ punctuate after_value more
  unfolding punctuate
  list_tokens [] more = refl
  list_tokens (x ∷ xs) more = some_tokens x xs fresh more refl

  -- after the list comes the bracket of its line
  closed_tokens : (text : List ℕ) (xs : List X) → Begins text (list_lexemes of_one xs ++ token Token.end_array ∷ []) []
      → tokens text ≡ items_tokens (items_json json_of xs) ++ Token.end_array ∷ []
  unfolding lex punctuate
  closed_tokens text xs closes =
      ap (punctuate fresh) (closes.0 ∙ append-nil _) ∙ list_tokens xs (token Token.end_array ∷ [])

-- ---- JSON as data

abbrev ends_data : ℕ × ℕ → Items
ends_data ends = item (number (unsigned ends.0)) (item (number (unsigned ends.1)) no_items)

abbrev link_data : ℕ × ℕ → Data
link_data link = array (ends_data link)

abbrev edit_data : Edit → Data
edit_data edit = array (item (string (word_of edit)) (ends_data (edit_ends edit)))

abbrev number_data : ℕ → Data
number_data n = number (unsigned n)

-- a small item is this value of JSON, and is read from it again
abbrev IsRead : {X : Type 0} → (X → Json) → (X → Data) → (X → Type 0) → (Data → Option X) → Type 0
IsRead {X} json_of data_of P one =
    (x : X) → P x → (of_json (json_of x) ≡ Some (data_of x)) × (one (data_of x) ≡ Some x) × (depth (json_of x) ≤ 1)

module _ {X : Type 0} (json_of : X → Json) (data_of : X → Data) (P : X → Type 0) (one : Data
    → Option X) (is_read : IsRead json_of data_of P one) where
  all_read : (xs : List X) → Each P xs
      → (of_items (items_json json_of xs) ≡ Some (items_of (map data_of xs)))
      × (read_all one (map data_of xs) ≡ Some xs)
      × (items_depth (items_json json_of xs) ≤ 1)
  all_read [] small = (refl, refl, omega arith)
  all_read (x ∷ xs) small =
      let first = is_read x small.0 in
      let more = all_read xs small.1 in
      (rw (first.0, more.0), rw (first.1, more.1), omega (arith, first.2, more.2))

wide : (n : ℕ) → IsSmall n → number_of (decimal n) ≡ Some (unsigned n)
wide n small = number_of-decimal n (omega arith)

link_is_read : IsRead link_json link_data AreSmall link_in
link_is_read link small =
    (rw (wide link.0 small.0, wide link.1 small.1), rw (lt-ltb _ _ small.0, lt-ltb _ _ small.1), omega arith)

edit_is_read : IsRead edit_json edit_data HasSmallEnds edit_in
unfolding edit_of_word
edit_is_read (Cut a b) small =
    (rw (wide a small.0, wide b small.1), rw (lt-ltb _ _ small.0, lt-ltb _ _ small.1), omega arith)
edit_is_read (Add a b) small =
    (rw (wide a small.0, wide b small.1), rw (lt-ltb _ _ small.0, lt-ltb _ _ small.1), omega arith)
edit_is_read (Join a b) small =
    (rw (wide a small.0, wide b small.1), rw (lt-ltb _ _ small.0, lt-ltb _ _ small.1), omega arith)

-- ---- lines

-- the request of a line whose tokens are those of a value
reads_as : (line : List ℕ) (j : Json) (d : Data) → tokens line ≡ json_tokens j → IsUtf8 line → depth j ≤ 127
    → of_json j ≡ Some d
    → reading line ≡ ok_or (request_of d) NotRequest
reads_as line j d told utf8 shallow is =
    let whole : value 127 (tokens line) ≡ Some (j, []) =
    ap (value 127) (told ∙ sym (append-nil (json_tokens j))) ∙ value-json_tokens j 127 [] shallow in
    ap reading_of_value (value_of_text line utf8)
    ∙ ap (λ found. reading_of_value (option_and_then of_json (option_and_then (λ p. json.if_last p.0 p.1) found)))
    whole ∙ ap reading_of_value is

-- the same if the value is an array that begins with a word
word_reads_as : (line word : List ℕ) (js : json.Items) (ds : Items)
    → tokens line ≡ Token.begin_array ∷ Token.string word ∷ items_tokens js → IsUtf8 line → items_depth js ≤ 126
    → of_items js ≡ Some ds → reading line ≡ ok_or (request_of_word word (item_list ds)) NotRequest
word_reads_as line word js ds told utf8 shallow is =
    reads_as line (json.array (json.item (json.string word) js)) (array (item (string word) ds)) told utf8
    (omega arith) (rw is)

pub edit_reads : (line : List ℕ) (edit : Edit) → HasSmallEnds edit → Begins line (edit_lexemes edit) []
    → reading line ≡ Ok (plain_edit edit)
unfolding lex punctuate request_of_word
edit_reads line (Cut u v) small is =
    word_reads_as line (codes "cut") (ends_json (u, v)) (ends_data (u, v)) (ap (punctuate fresh) is.0) (is.1 IsUtf8-nil)
    (omega arith) (rw (wide u small.0, wide v small.1))
    ∙ rw (lt-ltb _ _ small.0, lt-ltb _ _ small.1)
edit_reads line (Add u v) small is =
    word_reads_as line (codes "add") (ends_json (u, v)) (ends_data (u, v)) (ap (punctuate fresh) is.0) (is.1 IsUtf8-nil)
    (omega arith) (rw (wide u small.0, wide v small.1))
    ∙ rw (lt-ltb _ _ small.0, lt-ltb _ _ small.1)
edit_reads line (Join u v) small is =
    word_reads_as line (codes "join") (ends_json (u, v)) (ends_data (u, v)) (ap (punctuate fresh) is.0)
    (is.1 IsUtf8-nil)
    (omega arith) (rw (wide u small.0, wide v small.1))
    ∙ rw (lt-ltb _ _ small.0, lt-ltb _ _ small.1)

module _ (rest : List ℕ) (x : ℕ) (small : IsSmall x) (ends : Begins rest (comma ∷ number_lexeme x
    ∷ token Token.end_array ∷ []) []) where
  node_reads : (word line : List ℕ) → Begins line (opening word) rest
      → reading line ≡ ok_or (request_of_word word (number_data x ∷ [])) NotRequest
  unfolding lex punctuate
  node_reads word line opens =
      let is =
      begins_more line rest [] (opening word) (comma ∷ number_lexeme x ∷ token Token.end_array ∷ []) opens ends in
      word_reads_as line word (json.item (number_json x) json.no_items) (item (number_data x) no_items)
      (ap (punctuate fresh) is.0) (is.1 IsUtf8-nil) (omega arith) (rw (wide x small))

  pub dest_reads : IsReadAs (codes "dest") rest (move_dest x)
  unfolding request_of_word
  dest_reads line opens = node_reads (codes "dest") line opens ∙ rw (lt-ltb _ _ small)

  pub walk_reads : IsReadAs (codes "walk") rest (walk_from x)
  unfolding request_of_word
  walk_reads line opens = node_reads (codes "walk") line opens ∙ rw (lt-ltb _ _ small)

pub question_reads : (rest : List ℕ) (question : Question) → Begins rest (token Token.end_array ∷ []) []
    → IsReadAs (letters (word.Ask question)) rest (ask question)
unfolding lex punctuate request_of_word
question_reads rest question ends line opens =
    let is = begins_more line rest [] (opening (letters (word.Ask question))) (token Token.end_array ∷ []) opens ends in
    word_reads_as line (letters (word.Ask question)) json.no_items no_items (ap (punctuate fresh) is.0)
    (is.1 IsUtf8-nil) (omega arith) refl ∙ go question
  where
    go : (question : Question) → ok_or (request_of_word (letters (word.Ask question)) []) NotRequest ≡ Ok (ask question)
    go Links = refl
    go Counts = refl
    go Hops = refl
    go Ways = refl

pub network_reads : (rest items : List ℕ) (nodes dest : ℕ) (links : List (ℕ × ℕ)) → IsSmall nodes → IsSmall dest
    → Begins rest (comma ∷ number_lexeme nodes ∷ comma ∷ number_lexeme dest ∷ comma ∷ token Token.begin_array
    ∷ []) items
    → Begins items (list_lexemes link_lexemes links ++ token Token.end_array ∷ []) [] → Each AreSmall links
    → IsReadAs (codes "net") rest (new_network nodes dest links)
unfolding punctuate request_of_word
network_reads rest items nodes dest links n d head closes small line opens =
    let both = begins_more line rest items (opening (codes "net"))
    (comma ∷ number_lexeme nodes ∷ comma ∷ number_lexeme dest ∷ comma ∷ token Token.begin_array ∷ []) opens head in
    let js =
    json.item (number_json nodes)
    (json.item (number_json dest) (json.item (json.array (items_json link_json links)) json.no_items)) in
    let ds =
    item (number_data nodes) (item (number_data dest) (item (array (items_of (map link_data links))) no_items)) in
    let all = all_read link_json link_data AreSmall link_in link_is_read links small in
    let told : tokens line ≡ Token.begin_array ∷ Token.string (codes "net") ∷ items_tokens js =
    ap (punctuate fresh) both.0
    ∙ ap (λ ts. Token.begin_array ∷ Token.string (codes "net") ∷ Token.number (decimal nodes)
    ∷ Token.number (decimal dest) ∷ Token.begin_array ∷ ts)
    (closed_tokens link_lexemes link_json link_placed items links closes) in
    let listed : links_in (array (items_of (map link_data links))) ≡ Some links =
    rw (list_again (map link_data links)) all.1 in
    word_reads_as line (codes "net") js ds told (both.1 (closes.1 IsUtf8-nil)) (omega (arith, all.2))
    (rw (wide nodes n, wide dest d, all.0)) ∙ rw (lt-ltb _ _ n, lt-ltb _ _ d, listed)

pub batch_reads : (rest items : List ℕ) (edits : List Edit) → Begins rest (comma ∷ token Token.begin_array ∷ []) items
    → Begins items (list_lexemes edit_lexemes edits ++ token Token.end_array ∷ []) [] → Each HasSmallEnds edits
    → IsReadAs (codes "batch") rest (make_edits edits)
unfolding punctuate request_of_word
batch_reads rest items edits head closes small line opens =
    let both =
    begins_more line rest items (opening (codes "batch")) (comma ∷ token Token.begin_array ∷ []) opens head in
    let js = json.item (json.array (items_json edit_json edits)) json.no_items in
    let ds = item (array (items_of (map edit_data edits))) no_items in
    let all = all_read edit_json edit_data HasSmallEnds edit_in edit_is_read edits small in
    let told : tokens line ≡ Token.begin_array ∷ Token.string (codes "batch") ∷ items_tokens js =
    ap (punctuate fresh) both.0 ∙ ap (λ ts. Token.begin_array ∷ Token.string (codes "batch") ∷ Token.begin_array ∷ ts)
    (closed_tokens edit_lexemes edit_json edit_placed items edits closes) in
    let listed : edits_in (array (items_of (map edit_data edits))) ≡ Some edits =
    rw (list_again (map edit_data edits)) all.1 in
    word_reads_as line (codes "batch") js ds told (both.1 (closes.1 IsUtf8-nil)) (omega (arith, all.2)) (rw all.0)
    ∙ rw listed
