-- What a node knows of its neighbours, and how a message changes it. The definitions are this project's own.
use Rattle.std.specs.Prelude.{Bool, None, Some, ℕ, List, if◌then◌else◌, map, length, min, ◌≡◌, ◌≢◌, ◌==◌, ◌<◌, ◌≤◌, ◌⊎◌, ◌&&◌, ◌||◌, ◌+◌, ◌-◌, ◌^◌, false, true, nat_le, nat_lt}
use Rattle.std.specs.List.{position_or_len, slice_index_or}
use Rattle.fr_node.specs.declared.message.TheConstants.{CUT_OFF}
use Rattle.fr_node.specs.declared.link.Link.{Link}
use Rattle.fr_node.specs.declared.message.Message.{Message}
use Rattle.fr_node.specs.declared.own.Own.{Own}

-- what is known of a router that is no neighbour: nothing
abbrev pub unknown : Link
unknown = record {
  neighbour = 0;
  cost = 1;
  distance = CUT_OFF;
  deaf = 0;
  silent = 0;
  carrier = false;
  up = false;
  is_heard = false;
  peer = 0;
  stamp = 0;
  heard = 0;
  seen = 0;
  acked = 0;
  said = None;
}

abbrev pub leads_to : ℕ → Link → Bool
leads_to w l = l.neighbour == w

-- where the link to w is listed: the length of the list if it is not
abbrev pub place_of : List Link → ℕ → ℕ
place_of ls w = position_or_len (leads_to w) ls

abbrev pub IsKnown : List Link → ℕ → Type 0
IsKnown ls w = place_of ls w < length ls

-- what is known of router w
abbrev pub link_to : List Link → ℕ → Link
link_to ls w = slice_index_or ls (place_of ls w) unknown

-- the neighbour is known to be lower: heights are compared with the routers' numbers
abbrev pub is_lower : Own → Link → Bool
is_lower own l = nat_lt 0 l.heard && (nat_lt l.seen own.used || (l.seen == own.used && nat_lt l.neighbour own.me))

-- the router may send packets on the link: it counts as up, and the neighbour is lower
abbrev pub is_way : Own → Link → Bool
is_way own l = l.up && is_lower own l

-- the cost of a route over the neighbour, by the height that was heard of it
abbrev pub offer_of : Link → ℕ
offer_of l = l.seen + l.cost

-- the neighbour offers such a route: the link counts as up, the neighbour was heard, and the cost is below the ceiling
abbrev pub is_offer : (ceiling : ℕ) → Link → Bool
is_offer ceiling l = l.up && (nat_lt 0 l.heard && nat_lt (offer_of l) ceiling)

-- the neighbour has acknowledged a number from which on nothing was announced below the height in use
abbrev pub has_answered : Own → Link → Bool
has_answered own l = nat_le own.used_since l.acked

-- the message is of a greater start than this one, or of this start with a greater stamp
abbrev pub IsNewer : (boot stamp : ℕ) → Message → Type 0
IsNewer boot stamp m = (boot < m.boot) ⊎ ((boot ≡ m.boot) × (stamp < m.stamp))

-- router `own` with these links takes the message m: it is for this router and from a known neighbour, and newer than
-- all that were taken of this neighbour
pub record IsTaken (own : Own) (m : Message) (ls : List Link) : Type 0 where
  pub to : m.to ≡ own.me
  pub from : IsKnown ls m.from
  pub newer : IsNewer (link_to ls m.from).peer (link_to ls m.from).stamp m

-- router `own` has taken the message m, and the link l has become k. Its start and its stamp are noted. If the start is
-- greater, then what was known is forgotten. If the message is for the present start of the router, then its
-- announcement is taken unless a later one was heard, and its acknowledgement if it is greater. Then the neighbour is
-- not deaf, and the link counts as up if it has a carrier. A neighbour that has started again is given time to hear the
-- router
pub record IsHeard (own : Own) (m : Message) (l k : Link) : Type 0 where
  pub neighbour : k.neighbour ≡ l.neighbour
  pub cost : k.cost ≡ l.cost
  pub carrier : k.carrier ≡ l.carrier
  pub said : k.said ≡ l.said
  pub both_ways : m.echo ≡ own.boot → (k.up ≡ l.carrier) × (k.deaf ≡ 0)
  pub one_way : m.echo ≢ own.boot → k.up ≡ l.up
  pub deaf : m.echo ≢ own.boot → l.peer ≡ m.boot → k.deaf ≡ l.deaf
  pub started : l.peer < m.boot → k.deaf ≡ 0
  pub lately : (k.is_heard ≡ true) × (k.silent ≡ 0)
  pub start : k.peer ≡ m.boot
  pub stamp : k.stamp ≡ m.stamp
  pub informed : m.echo ≡ own.boot → (l.peer ≡ m.boot → l.heard ≤ m.number)
      → (k.heard ≡ m.number) × (k.seen ≡ m.height) × (k.distance ≡ m.distance)
  pub uninformed : l.peer ≡ m.boot → (m.echo ≢ own.boot) ⊎ (m.number < l.heard)
      → (k.heard ≡ l.heard) × (k.seen ≡ l.seen) × (k.distance ≡ l.distance)
  pub forgotten : l.peer < m.boot → m.echo ≢ own.boot → (k.heard ≡ 0) × (k.distance ≡ CUT_OFF)
  pub answered : m.echo ≡ own.boot → m.heard ≤ own.number → (l.peer ≡ m.boot → l.acked < m.heard)
      → k.acked ≡ m.heard
  pub unanswered : l.peer ≡ m.boot → (m.echo ≢ own.boot) ⊎ (own.number < m.heard) ⊎ (m.heard ≤ l.acked)
      → k.acked ≡ l.acked
  pub unacked : l.peer < m.boot → (m.echo ≢ own.boot) ⊎ (own.number < m.heard) → k.acked ≡ 0

-- router `own` has heard the message m, and its links ls have become ks. Only a message that it takes changes a link,
-- and only the one to the sender
pub record Hears (own : Own) (m : Message) (ls ks : List Link) : Type 0 where
  pub neighbours : map (λ l. l.neighbour) ks ≡ map (λ l. l.neighbour) ls
  pub others : (w : ℕ) → w ≢ m.from → link_to ks w ≡ link_to ls w
  pub taken : IsTaken own m ls → IsHeard own m (link_to ls m.from) (link_to ks m.from)
  pub ignored : ¬ IsTaken own m ls → ks ≡ ls

-- what is known of w has changed so, if w is known. All else that is known stays
pub record Changes (to : Link → Link) (w : ℕ) (ls ks : List Link) : Type 0 where
  pub neighbours : map (λ l. l.neighbour) ks ≡ map (λ l. l.neighbour) ls
  pub others : (v : ℕ) → v ≢ w → link_to ks v ≡ link_to ls v
  pub itself : IsKnown ls w → link_to ks w ≡ to (link_to ls w)
  pub stranger : ¬ IsKnown ls w → ks ≡ ls

-- the link, if the caller says that it is up, or that it is down
abbrev pub with_carrier : Bool → Link → Link
with_carrier up l = record l { carrier = up; up = up; deaf = 0 }

abbrev pub SetsUp : (w : ℕ) (up : Bool) → List Link → List Link → Type 0
SetsUp w up ls ks = Changes (with_carrier up) w ls ks

-- the link, if it costs so much to send a packet over it
abbrev pub with_cost : ℕ → Link → Link
with_cost cost l = record l { cost = cost }

abbrev pub SetsCost : (w cost : ℕ) → List Link → List Link → Type 0
SetsCost w cost ls ks = Changes (with_cost cost) w ls ks

-- the message m has been said to w, and is kept. All else that is known stays
pub record Says (w : ℕ) (m : Message) (ls ks : List Link) : Type 0 where
  pub neighbours : map (λ l. l.neighbour) ks ≡ map (λ l. l.neighbour) ls
  pub others : (v : ℕ) → v ≢ w → link_to ks v ≡ link_to ls v
  pub itself : link_to ks w ≡ record (link_to ls w) { said = Some m }

-- something lasts that has lasted for so many ticks, and there are fewer than the caller's patience with one more
abbrev pub lasts : Bool → (ticks patience : ℕ) → Bool
lasts is_so ticks patience = is_so && nat_lt (ticks + 1) patience

-- one tick more, if they are counted, in 32 bits
abbrev pub one_more : Bool → ℕ → ℕ
one_more is_counted ticks = if is_counted then min (ticks + 1) (2 ^ 32 - 1) else ticks

-- the link after a tick. While it counts as up, the ticks are counted for which the neighbour has seemed deaf, and
-- while the neighbour is heard those for which it has been silent
abbrev pub after_tick : ℕ → Link → Link
after_tick patience l = record l {
  up = lasts l.up l.deaf patience;
  deaf = one_more l.up l.deaf;
  is_heard = lasts l.is_heard l.silent patience;
  silent = one_more l.is_heard l.silent;
}

-- the link counts as up, and the next tick ends that
abbrev pub is_lost : ℕ → Link → Bool
is_lost patience l = l.up && nat_le patience (l.deaf + 1)

-- the start of the neighbour that the router says it knows: none if it has not heard the neighbour lately
abbrev pub echo_of : Link → ℕ
echo_of l = if l.is_heard then l.peer else 0
