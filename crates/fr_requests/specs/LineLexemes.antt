-- The lines that are read by their bytes, as lexemes without white space. For proofs only.
use Rattle.std.specs.Prelude.{ℕ, List, [], ◌∷◌, ◌++◌, ◌≡◌, ◌<◌, ◌^◌, if◌then◌else◌, Ok, codes, decimal, ⊤}
use Rattle.std.specs.Str.{IsUtf8}
use Rattle.json.specs.Lex.{Lexeme, token, comma, between, lex}
use Rattle.json.specs.Token.{Token}
use Rattle.json.specs.Word.{is_space}
use Rattle.fr_graph.specs.declared.edit.Edit.{Edit}
use Rattle.fr_graph.specs.declared.edit.Edit.TheVariants.{Cut, Add, Join}
use Rattle.fr_requests.specs.declared.requests.Question.TheVariants.{Links, Counts, Hops, Ways}
use Rattle.fr_requests.specs.declared.words.EditWord.{EditWord}
use Rattle.fr_requests.specs.declared.words.EditWord.TheVariants as edit_word
use Rattle.fr_requests.specs.declared.words.Word.{Word}
use Rattle.fr_requests.specs.declared.words.Word.TheVariants as word
use Rattle.fr_requests.specs.declared.word_lines.ShortRequest.{ShortRequest}
use Rattle.fr_requests.specs.declared.word_lines.ShortRequest.TheVariants as brief
use Rattle.fr_requests.specs.Requests.{PlainRequest, cut_link, add_link, ask, join_nodes, move_dest, reading, walk_from}

-- a text without the white space at its front
abbrev pub unspaced : List ℕ → List ℕ
unspaced [] = []
unspaced (b ∷ bs) = if is_space b then unspaced bs else b ∷ bs

-- a text begins with these lexemes, and then `rest` follows
abbrev pub Begins : List ℕ → List Lexeme → List ℕ → Type 0
Begins text front rest = (lex between text ≡ front ++ lex between rest) × (IsUtf8 rest → IsUtf8 text)

-- the words of edits and of requests
abbrev pub letters_of_edit : EditWord → List ℕ
letters_of_edit edit_word.Cut = codes "cut"
letters_of_edit edit_word.Add = codes "add"
letters_of_edit edit_word.Join = codes "join"

abbrev pub letters : Word → List ℕ
letters word.Network = codes "net"
letters (word.Edit edit) = letters_of_edit edit
letters word.Batch = codes "batch"
letters word.Destination = codes "dest"
letters word.Walk = codes "walk"
letters (word.Ask Links) = codes "links"
letters (word.Ask Counts) = codes "counts"
letters (word.Ask Hops) = codes "hops"
letters (word.Ask Ways) = codes "ways"

-- the start of an array whose first item is this word, written without escapes
abbrev pub opening : List ℕ → List Lexeme
opening letters = token Token.begin_array ∷ token (Token.string letters) ∷ []

-- each line that begins with this word and continues with this text is the request
abbrev pub IsReadAs : List ℕ → List ℕ → PlainRequest → Type 0
IsReadAs letters rest request = (line : List ℕ) → Begins line (opening letters) rest → reading line ≡ Ok request

-- a number
abbrev pub number_lexeme : ℕ → Lexeme
number_lexeme n = token (Token.number (decimal n))

-- the two ends of a link, and the bracket after them
abbrev pub ends_lexemes : ℕ × ℕ → List Lexeme
ends_lexemes ends = number_lexeme ends.0 ∷ comma ∷ number_lexeme ends.1 ∷ token Token.end_array ∷ []

-- a link: [u, v]
abbrev pub link_lexemes : ℕ × ℕ → List Lexeme
link_lexemes link = token Token.begin_array ∷ ends_lexemes link

-- the word of an edit, and the nodes that it names
abbrev pub word_of : Edit → List ℕ
word_of (Cut u v) = codes "cut"
word_of (Add u v) = codes "add"
word_of (Join u v) = codes "join"

abbrev pub edit_ends : Edit → ℕ × ℕ
edit_ends (Cut u v) = (u, v)
edit_ends (Add u v) = (u, v)
edit_ends (Join u v) = (u, v)

-- an edit: ["cut", u, v], and its like
abbrev pub edit_lexemes : Edit → List Lexeme
edit_lexemes edit = opening (word_of edit) ++ comma ∷ ends_lexemes (edit_ends edit)

-- the request of a single edit
abbrev pub plain_edit : Edit → PlainRequest
plain_edit (Cut u v) = cut_link u v
plain_edit (Add u v) = add_link u v
plain_edit (Join u v) = join_nodes u v

-- a request without a list
abbrev pub plain_brief : ShortRequest → PlainRequest
plain_brief (brief.Edit edit) = plain_edit edit
plain_brief (brief.Destination d) = move_dest d
plain_brief (brief.Walk x) = walk_from x
plain_brief (brief.Ask question) = ask question

-- numbers of 32 bits
abbrev pub IsSmall : ℕ → Type 0
IsSmall n = n < 2 ^ 32

abbrev pub AreSmall : ℕ × ℕ → Type 0
AreSmall ends = IsSmall ends.0 × IsSmall ends.1

abbrev pub HasSmallEnds : Edit → Type 0
HasSmallEnds edit = AreSmall (edit_ends edit)

-- P holds of each item
abbrev pub Each : {X : Type 0} → (X → Type 0) → List X → Type 0
Each P [] = ⊤
Each P (x ∷ xs) = P x × Each P xs

-- the items of a list, separated by commas, and the bracket after them
abbrev pub list_lexemes : {X : Type 0} → (X → List Lexeme) → List X → List Lexeme
list_lexemes of_one [] = token Token.end_array ∷ []
list_lexemes of_one (x ∷ []) = of_one x ++ token Token.end_array ∷ []
list_lexemes of_one (x ∷ y ∷ ys) = of_one x ++ comma ∷ list_lexemes of_one (y ∷ ys)
