-- Lines whose bytes come in pieces. This project's own.
use Rattle.std.specs.Prelude.{◌≡◌, ◌≢◌, ◌==◌, ℕ, ◌+◌, ◌<◌, ◌≤◌, ◌⊎◌, ◌++◌, [], List, length, take, position}
use Rattle.std.specs.Prelude.{Some, None, Option, true}
use Rattle.fr_bytes.specs.Bytes.{most_bytes}
use Rattle.fr_requests.specs.Requests.{reading}
use Rattle.fr_route.specs.Blank.{is_blank}
use Rattle.fr_route.specs.States.{State}
use Rattle.fr_route.specs.Telling.{IsLineTold}
use Rattle.fr_readers.specs.Publishing.{PublishesTo, PublishesWaysTo}
use Rattle.revroute_c.specs.SessionStates.{Held, published_of}
use Rattle.revroute_c.specs.Replies.{least_room, IsReplied, IsAnswerLength, Outcome}
use Rattle.revroute_c.specs.Statuses.{REVROUTE_ANSWERED, REVROUTE_BLANK, REVROUTE_TOO_SHORT}
use Rattle.revroute_c.specs.Statuses.{REVROUTE_NO_MEMORY, REVROUTE_BEGUN, REVROUTE_TOO_LONG}

-- The line that has begun ends in this piece. It is then this line, within the limit, and `count` bytes of the piece
-- belong to it, with the newline.
pub record EndsLine (begun piece line : List ℕ) (count : ℕ) : Type 0 where
  pub end : ℕ
  pub at : position (λ x. x == 10) piece ≡ Some end
  pub line_is : line ≡ begun ++ take end piece
  pub short : length line ≤ most_bytes
  pub count_is : count ≡ end + 1

-- the line that has begun ends in this piece, and is blank
abbrev pub EndsBlank : List ℕ → List ℕ → Type 0
EndsBlank begun piece = (line : List ℕ) × (count : ℕ) × EndsLine begun piece line count × (is_blank line ≡ true)

-- a line ends in the piece, and its answer has this length and does not change the session
pub record EndsWithAnswer (old : Option State) (begun piece : List ℕ) (size : ℕ) : Type 0 where
  pub line : List ℕ
  pub count : ℕ
  pub ends : EndsLine begun piece line count
  pub answer : IsAnswerLength old line size

-- the room that is needed if there is too little: the least room, or the length of the answer
abbrev pub IsWantedAtEnd : Option State → List ℕ → List ℕ → ℕ → ℕ → Type 0
IsWantedAtEnd old begun piece room size =
    ((room < least_room) × (size ≡ least_room))
    ⊎ ((least_room ≤ room) × EndsWithAnswer old begun piece size)

-- the line that has begun would be too long with its bytes in the piece
abbrev pub IsTooLong : List ℕ → List ℕ → Type 0
IsTooLong begun piece =
    (most_bytes < length begun + length piece)
    × ((end : ℕ) → position (λ x. x == 10) piece ≡ Some end → most_bytes < length begun + end)

-- a line ends after `taken` bytes of the piece, and is answered
pub record AnswersEnd (piece : List ℕ) (old new : Held) (taken : ℕ) (o : Outcome ℕ) : Type 0 where
  pub line : List ℕ
  pub ends : EndsLine old.begun piece line taken
  pub answered : IsReplied old.session line new.session o
  -- the session state then has the nodes that the line reroutes
  pub told : IsLineTold old.session (reading line) new.session old.rerouted new.rerouted
  -- they are pushed to the readers, and the ways to readers of ways
  pub published : PublishesTo old.table (published_of new)
  pub ways : PublishesWaysTo old.ways (published_of new)
  pub pushes : new.pushes ≡ old.pushes

-- a call takes `taken` bytes of the piece, and answers the line that ends there; the session state changes from `old`
-- to `new`
pub record TakesPiece (piece : List ℕ) (old new : Held) (taken : ℕ) (o : Outcome ℕ) : Type 0 where
  pub answered : o.status ≡ REVROUTE_ANSWERED → AnswersEnd piece old new taken o
  pub blank : o.status ≡ REVROUTE_BLANK → (line : List ℕ) × EndsLine old.begun piece line taken
      × (is_blank line ≡ true) × (o.size ≡ 0)
  -- with memory or without
  pub blank_line : EndsBlank old.begun piece → least_room ≤ length o.before → o.status ≡ REVROUTE_BLANK
  pub ended : o.status ≤ REVROUTE_BLANK → new.begun ≡ []
  -- no line ends in the piece, which is kept after what had begun
  pub kept : o.status ≡ REVROUTE_BEGUN → (position (λ x. x == 10) piece ≡ None) × (new.begun ≡ old.begun ++ piece)
      × (taken ≡ length piece) × (o.size ≡ 0)
  pub within : o.status ≡ REVROUTE_BEGUN → length new.begun ≤ most_bytes
  pub too_short : o.status ≡ REVROUTE_TOO_SHORT → (length o.before < o.size)
      × IsWantedAtEnd old.session old.begun piece (length o.before) o.size
  pub no_memory : o.status ≡ REVROUTE_NO_MEMORY → o.size ≡ 0
  pub too_long : o.status ≡ REVROUTE_TOO_LONG → IsTooLong old.begun piece × (o.size ≡ 0)
  pub unchanged : ¬ (o.status ≡ REVROUTE_ANSWERED) → (published_of new ≡ published_of old) × (o.after ≡ o.before)
  pub untaken : REVROUTE_BLANK < o.status → o.status ≢ REVROUTE_BEGUN → (new.begun ≡ old.begun) × (taken ≡ 0)
  pub room : length o.before < least_room → o.status ≡ REVROUTE_TOO_SHORT
  pub status : (o.status ≤ REVROUTE_NO_MEMORY) ⊎ (o.status ≡ REVROUTE_BEGUN) ⊎ (o.status ≡ REVROUTE_TOO_LONG)
