-- Which height a node announces by its policy, and when it uses it. Full link reversal is from E. Gafni and D. Bertsekas,
-- IEEE Transactions on Communications 29 (1981). Offers are the sums of distance-vector routing, as in D. Bertsekas and
-- R. Gallager, Data Networks (1992). That a router waits for acknowledgements before it takes a lower height is near to
-- what J. J. Garcia-Luna-Aceves describes, IEEE/ACM Transactions on Networking 1 (1993).
use Rattle.std.specs.Prelude.{All, Bool, List, MatchOption, Option, false, true, nat_lt, if◌then◌else◌, ℕ, ◌+◌, ◌^◌, ◌<◌, ◌≤◌, ◌≡◌, ◌≢◌, ◌⊎◌}
use Rattle.std.specs.List.{Contains}
use Rattle.fr_node.specs.declared.link.Link.{Link}
use Rattle.fr_node.specs.declared.message.TheConstants.{CUT_OFF}
use Rattle.fr_node.specs.declared.node.Node.{Node}
use Rattle.fr_node.specs.declared.own.Own.{Own}
use Rattle.fr_node.specs.declared.policy.Rise.{Rise}
use Rattle.fr_node.specs.declared.policy.Rise.TheVariants.{Full, Top}
use Rattle.fr_node.specs.Distances.{IsDistance, IsLeast}
use Rattle.fr_node.specs.Links.{has_answered, is_lower, is_offer, is_way, offer_of}

-- link x passes the test, and no link of the list that passes it is better
pub record IsBest (passes : Link → Bool) (better : Link → Link → Bool) (ls : List Link) (x : Link) : Type 0 where
  pub listed : Contains ls x
  pub good : passes x ≡ true
  pub best : All (λ l. passes l ≡ true → better l x ≡ false) ls

-- of two links, l if it is better, and otherwise k
abbrev pub better_of : (Link → Link → Bool) → Link → Link → Link
better_of better k l = if better l k then l else k

-- x is such a link, or there is none
abbrev pub IsBestOrNone : (Link → Bool) → (Link → Link → Bool) → List Link → Option Link → Type 0
IsBestOrNone passes better ls x = MatchOption x (All (λ l. passes l ≡ false) ls) (IsBest passes better ls)

abbrev pub is_up : Link → Bool
is_up l = l.up

-- a greater height was heard on link l than on k
abbrev pub is_higher : Link → Link → Bool
is_higher l k = nat_lt k.seen l.seen

-- the router is a sink: each neighbour at a link that is up has been heard, and none is lower
abbrev pub IsSink : Own → List Link → Type 0
IsSink own ls = All (λ l. l.up ≡ true → (0 < l.heard) × (is_lower own l ≡ false)) ls

-- full link reversal raises a sink to v: one more than the greatest height that was heard on links that are up
pub record IsAboveAll (n : Node) (v : ℕ) : Type 0 where
  pub sink : IsSink n.own n.links.items
  pub highest : (x : Link) × IsBest is_up is_higher n.links.items x × (v ≡ x.seen + 1)
  pub fits : v < 2 ^ 64

-- a router rises to v, the height of a router without a route, if no neighbour offers its height or less
pub record IsAtTop (n : Node) (ceiling v : ℕ) : Type 0 where
  pub none : All (λ l. is_offer ceiling l ≡ true → n.own.announced < offer_of l) n.links.items
  pub top : v ≡ CUT_OFF

abbrev pub rises_to : Rise → Node → ℕ → Type 0
rises_to Full n v = IsAboveAll n v
rises_to (Top ceiling) n v = IsAtTop n ceiling v

-- the policy of the node raises it to v, if that is greater than its height
abbrev pub RisesTo : Node → ℕ → Type 0
RisesTo n v = rises_to n.policy.rise n v

-- a router comes down to v: to its distance, if a way that is nearer than that stays a way
pub record IsAtDistance (n : Node) (v : ℕ) : Type 0 where
  pub wanted : n.policy.lower ≡ true
  pub distance : IsDistance n v
  pub near : v ≢ CUT_OFF
  pub lower : v < n.own.used
  pub stays : (x : Link) × Contains n.links.items x × (is_way (record n.own { used = v }) x ≡ true) × (x.distance < v)

-- a router comes down to v: to its best offer, once each neighbour at a link that is up has acknowledged enough to be let
-- in
pub record IsAtOffer (n : Node) (ceiling v : ℕ) : Type 0 where
  pub answered : All (λ l. l.up ≡ true → has_answered n.own l ≡ true) n.links.items
  pub best : IsLeast (is_offer ceiling) offer_of n.links.items v
  pub lower : v < n.own.used

abbrev pub falls_to : Rise → Node → ℕ → Type 0
falls_to Full n v = IsAtDistance n v
falls_to (Top ceiling) n v = IsAtOffer n ceiling v

-- the policy of the node lowers it to v
abbrev pub FallsTo : Node → ℕ → Type 0
FallsTo n v = falls_to n.policy.rise n v

-- a node may announce a height: it is no gateway, the last height is in use, and the next number has 64 bits
pub record MayAnnounce (n : Node) : Type 0 where
  pub forwards : n.gateway ≡ false
  pub settled : n.own.used ≡ n.own.announced
  pub number : n.own.number + 1 < 2 ^ 64

-- the node announces a lower height, which is in use at once, and then knows `new` of itself
pub record Lowers (n : Node) (new : Own) : Type 0 where
  pub height : ℕ
  pub may : MayAnnounce n
  pub falls : FallsTo n height
  pub own : new ≡ record n.own { used = height; announced = height; number = n.own.number + 1 }

-- the node announces a greater height, which is not in use yet
pub record Raises (n : Node) (new : Own) : Type 0 where
  pub height : ℕ
  pub may : MayAnnounce n
  pub stays : (v : ℕ) → ¬ FallsTo n v
  pub rises : RisesTo n height
  pub greater : n.own.announced < height
  pub own : new ≡ record n.own { announced = height; number = n.own.number + 1; announced_since = n.own.number + 1 }

-- the node announces nothing: it may not, or its policy neither lowers nor raises it
pub record Keeps (n : Node) (new : Own) : Type 0 where
  pub stays : MayAnnounce n → (v : ℕ) → ¬ FallsTo n v × (RisesTo n v → v ≤ n.own.announced)
  pub own : new ≡ n.own

-- the announcement that the policy makes, or none
abbrev pub Announcement : Node → Own → Type 0
Announcement n new = Lowers n new ⊎ Raises n new ⊎ Keeps n new

-- the last height may be used. A policy that waits lets it be used once each open gate stays open with it
abbrev pub MayUseAnnounced : Node → Type 0
MayUseAnnounced n = n.policy.wait ≡ true → All (λ l. l.up ≡ true → has_answered n.own l ≡ true
    → n.own.announced_since ≤ l.acked) n.links.items

-- the node uses the last height that it announced, if it may
pub record Settles (n : Node) (new : Own) : Type 0 where
  pub used : MayUseAnnounced n → new ≡ record n.own { used = n.own.announced; used_since = n.own.announced_since }
  pub waits : ¬ MayUseAnnounced n → new ≡ n.own

-- the node acts by its policy, and then knows `new` of itself: it may announce a height, and then use the last one
pub record Acts (n : Node) (new : Own) : Type 0 where
  pub said : Own
  pub announces : Announcement n said
  pub settles : Settles (record n { own = said }) new
