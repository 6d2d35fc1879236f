-- The results of the library's calls. This project's own.
use Rattle.std.specs.Prelude.{◌≡◌, ℕ, ◌<◌, ◌≤◌, ◌⊎◌, ◌++◌, false, true, List, length, drop, Option}
use Rattle.fr_requests.specs.Requests.{reading}
use Rattle.fr_route.specs.Answers.{IsLineAnswer}
use Rattle.fr_route.specs.Blank.{is_blank}
use Rattle.fr_route.specs.States.{State}
use Rattle.fr_route.specs.Telling.{IsLineTold}
use Rattle.fr_readers.specs.Publishing.{PublishesTo, PublishesWaysTo}
use Rattle.revroute_c.specs.SessionStates.{Held, published_of}
use Rattle.revroute_c.specs.Statuses.{REVROUTE_ANSWERED, REVROUTE_BLANK, REVROUTE_TOO_SHORT, REVROUTE_NO_MEMORY}

-- the least room for an answer, in bytes
abbrev pub least_room : ℕ
least_room = 64

-- the result of a call: its status, the caller's place before and after it, and the length that it writes to `size`
pub record Outcome (X : Type 0) : Type 0 where
  pub status : ℕ
  pub before : List X
  pub after : List X
  pub size : ℕ

abbrev pub outcome : {X : Type 0} → ℕ → List X → List X → ℕ → Outcome X
outcome status before after size = record { status = status; before = before; after = after; size = size }

-- the items are at the front of the place, and the rest of it is unchanged
abbrev pub IsWritten : {X : Type 0} → List X → List X → List X → Type 0
IsWritten items before after = (length items ≤ length before) × (after ≡ items ++ drop (length items) before)

-- items with the property `Are` are at the front of the place, and `size` is how many there are
abbrev pub IsGiven : {X : Type 0} → (List X → Type 0) → Outcome X → Type 0
IsGiven {X = X} Are o = (items : List X) × Are items × IsWritten items o.before o.after × (o.size ≡ length items)

-- `size` is how many items with the property `Are` there are
abbrev pub IsLength : {X : Type 0} → (List X → Type 0) → ℕ → Type 0
IsLength {X = X} Are size = (items : List X) × Are items × (size ≡ length items)

-- a call that writes items with the property `Are` to the front of the place
pub record GivesList {X : Type 0} (Are : List X → Type 0) (o : Outcome X) : Type 0 where
  pub written : o.status ≡ REVROUTE_ANSWERED → IsGiven Are o
  -- the items do not fit into the place, and `size` is how many there are
  pub too_short : o.status ≡ REVROUTE_TOO_SHORT → (length o.before < o.size) × IsLength Are o.size
  pub unchanged : ¬ (o.status ≡ REVROUTE_ANSWERED) → o.after ≡ o.before
  -- the status says why there are no such items
  pub none : REVROUTE_TOO_SHORT < o.status → o.size ≡ 0

-- the line is answered: the session is then in this state, the answer is in the place, and `size` is its length
pub record IsReplied (old : Option State) (line : List ℕ) (new : Option State) (o : Outcome ℕ) : Type 0 where
  pub asks : is_blank line ≡ false
  pub text : List ℕ
  pub answer : IsLineAnswer old (reading line) text new
  pub written : IsWritten text o.before o.after
  pub size_is : o.size ≡ length text

-- the answer to the line has this length and does not change the session
pub record IsAnswerLength (old : Option State) (line : List ℕ) (size : ℕ) : Type 0 where
  pub asks : is_blank line ≡ false
  pub text : List ℕ
  pub answer : IsLineAnswer old (reading line) text old
  pub size_is : size ≡ length text

-- the room that is needed if there is too little: the least room, or the length of the answer
abbrev pub IsWanted : Option State → List ℕ → ℕ → ℕ → Type 0
IsWanted old line room size =
    ((room < least_room) × (size ≡ least_room))
    ⊎ ((least_room ≤ room) × IsAnswerLength old line size)

-- a call answers the line in the caller's place; the session state changes from `old` to `new`
pub record AnswersLine (line : List ℕ) (old new : Held) (o : Outcome ℕ) : Type 0 where
  pub answered : o.status ≡ REVROUTE_ANSWERED → IsReplied old.session line new.session o
  -- the session state then has the nodes that the line reroutes
  pub told : o.status ≡ REVROUTE_ANSWERED → IsLineTold old.session (reading line) new.session old.rerouted new.rerouted
  pub blank : o.status ≡ REVROUTE_BLANK → (is_blank line ≡ true) × (o.size ≡ 0)
  -- with memory or without
  pub blank_line : is_blank line ≡ true → least_room ≤ length o.before → o.status ≡ REVROUTE_BLANK
  pub too_short : o.status ≡ REVROUTE_TOO_SHORT → (length o.before < o.size)
      × IsWanted old.session line (length o.before) o.size
  pub no_memory : o.status ≡ REVROUTE_NO_MEMORY → o.size ≡ 0
  -- they are pushed to the readers, and the ways to readers of ways
  pub published : o.status ≡ REVROUTE_ANSWERED → PublishesTo old.table (published_of new)
  pub ways : o.status ≡ REVROUTE_ANSWERED → PublishesWaysTo old.ways (published_of new)
  pub pushes : new.pushes ≡ old.pushes
  pub unchanged : ¬ (o.status ≡ REVROUTE_ANSWERED) → (published_of new ≡ published_of old) × (o.after ≡ o.before)
  pub room : length o.before < least_room → o.status ≡ REVROUTE_TOO_SHORT
  pub status : o.status ≤ REVROUTE_NO_MEMORY

-- a call answers the line, and does not touch the line that has begun
pub record AnswersApart (line : List ℕ) (old new : Held) (o : Outcome ℕ) : Type 0 where
  pub answers : AnswersLine line old new o
  -- the bytes of a line that has begun are unchanged
  pub begun : new.begun ≡ old.begun
