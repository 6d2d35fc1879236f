-- The statuses of the calls, as the header names them. This project's own.
use Rattle.std.specs.Prelude.{ℕ}

-- the result is written
abbrev pub REVROUTE_ANSWERED : ℕ
REVROUTE_ANSWERED = 0

-- the line is blank
abbrev pub REVROUTE_BLANK : ℕ
REVROUTE_BLANK = 1

-- there is too little room
abbrev pub REVROUTE_TOO_SHORT : ℕ
REVROUTE_TOO_SHORT = 2

-- an allocation was refused
abbrev pub REVROUTE_NO_MEMORY : ℕ
REVROUTE_NO_MEMORY = 3

-- there is no network yet
abbrev pub REVROUTE_NO_NETWORK : ℕ
REVROUTE_NO_NETWORK = 4

-- the node has no route to the destination
abbrev pub REVROUTE_NO_ROUTE : ℕ
REVROUTE_NO_ROUTE = 5

-- the call is refused
abbrev pub REVROUTE_REFUSED : ℕ
REVROUTE_REFUSED = 6

-- there is no refusal for a cycle
abbrev pub REVROUTE_NO_WALK : ℕ
REVROUTE_NO_WALK = 7

-- no line has ended yet
abbrev pub REVROUTE_BEGUN : ℕ
REVROUTE_BEGUN = 8

-- the line is too long
abbrev pub REVROUTE_TOO_LONG : ℕ
REVROUTE_TOO_LONG = 9

-- the table is not one for this network
abbrev pub REVROUTE_NO_TABLE : ℕ
REVROUTE_NO_TABLE = 10

-- the ways and gates of the node are not written yet
abbrev pub REVROUTE_UNWRITTEN : ℕ
REVROUTE_UNWRITTEN = 12

-- the bytes are not a message
abbrev pub REVROUTE_NO_MESSAGE : ℕ
REVROUTE_NO_MESSAGE = 13

-- the neighbour is not known, or the link to it is down
abbrev pub REVROUTE_LINK_DOWN : ℕ
REVROUTE_LINK_DOWN = 14

-- an event came after the ways and gates were handed out
abbrev pub REVROUTE_OUTDATED : ℕ
REVROUTE_OUTDATED = 15

-- a neighbour knows a later start of this router
abbrev pub REVROUTE_LATER_START : ℕ
REVROUTE_LATER_START = 16
