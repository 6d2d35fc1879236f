-- Two routers. One says that it has started, and the gateway says its height. The router hears it, announces a height
-- above it, and says so. Once each has heard that its last announcement was heard, nothing more happens.
use Rattle.std.proofs.Common.{All, Bool, Contains, List, None, [], ap, arith, count_by, eq-eqb, false, get_or, inl, inr}
use Rattle.std.proofs.Common.{refl, subst, suc, sym, true, zero, ℕ, ⊎_elim, IsTrue, ◌+◌, ◌%◌, ◌^◌, ◌⊎◌, ◌<◌, ◌∙◌, ◌∷◌}
use Rattle.std.proofs.Common.{◌≡◌}
use Rattle.std.proofs.Common.{◌≢◌, ◌↔◌}
use Rattle.std.proofs.lemmas.List.Elements.{All-contains, All-cons, All-nil}
use Rattle.std.specs.Global.{Global, Vec}
use denote.RawPtr.{null_ptr}
use Rattle.fr_core.specs.Walks.{IsConnected}
use Rattle.fr_core.specs.Work.{IsConnectedNet}
use Rattle.fr_graph.proofs.Members.{Contains-cases, Contains-head, Contains-none}
use Rattle.fr_graph.specs.Links.{IsNet, Joins, Points, is_between}
use Rattle.fr_node.proofs.Announcing.{true_false}
use Rattle.fr_node.proofs.Histories.{Announces-none, Announces-raised, Announces-settled, Announces-then}
use Rattle.fr_node.proofs.Linking.{hears_at}
use Rattle.fr_node.proofs.Stepping.{InTurn, after_hearing}
use Rattle.fr_node.specs.Arrivals.{IsLinkedTo, IsQuiet, IsStill, IsTold}
use Rattle.fr_node.specs.Distances.{IsDistance, IsNearest, distance_over}
use Rattle.fr_node.specs.Events.{IsAfterEvent}
use Rattle.fr_node.specs.Histories.{IsHistory}
use Rattle.fr_node.specs.Links.{Hears, IsHeard, IsNewer, echo_of, is_lower, is_way, unknown}
use Rattle.fr_node.specs.Nodes.{IsMessageTo}
use Rattle.fr_node.specs.Policies.{Acts, IsAboveAll, is_higher, is_up}
use Rattle.fr_node.specs.declared.link.Link.{Link}
use Rattle.fr_node.specs.declared.message.Message.{Message}
use Rattle.fr_node.specs.declared.message.TheConstants.{CUT_OFF}
use Rattle.fr_node.specs.declared.node.Node.{Node}
use Rattle.fr_node.specs.declared.own.Own.{Own}
use Rattle.fr_node.specs.declared.policy.Policy.{Policy}
use Rattle.fr_node.specs.declared.policy.Rise.TheVariants.{Full}
use Rattle.fr_laws.proofs.HopsAlong.{falling_acyclic}
use Rattle.fr_laws.proofs.NodeCalls.{rests, taking_is_a_call}
use Rattle.fr_laws.specs.Announcements.{AreListedOnce, AreSteps, Configuration, IsAsSaid, IsLower, IsNetwork}
use Rattle.fr_laws.specs.Announcements.{IsRouter, IsStep, SomeRouterAnnounces}

abbrev policy : Policy
policy = record { rise = Full; lower = false; wait = false }

-- what a router knows of itself in its first start
abbrev own : (me height number : ℕ) → Own
own me height number = record {
  me = me;
  boot = 1;
  used = height;
  announced = height;
  number = number;
  used_since = number;
  announced_since = number;
}

-- a link of cost 1 that is up, to a neighbour of which nothing is known
abbrev new_link : ℕ → Link
new_link neighbour = record (unknown) { neighbour = neighbour; carrier = true; up = true }

-- What the routers say: 0 that it has started, the gateway 1 its height, 0 its height, and the gateway that it has
-- heard that

abbrev started : Message
started =
    record { from = 0; to = 1; boot = 1; echo = 0; number = 1; height = 0; heard = 0; distance = CUT_OFF; stamp = 1 }

abbrev hello : Message
hello = record { from = 1; to = 0; boot = 1; echo = 1; number = 1; height = 0; heard = 0; distance = 0; stamp = 1 }

abbrev reply : Message
reply = record { from = 0; to = 1; boot = 1; echo = 1; number = 2; height = 1; heard = 1; distance = 1; stamp = 2 }

abbrev answer : Message
answer = record { from = 1; to = 0; boot = 1; echo = 1; number = 1; height = 0; heard = 2; distance = 0; stamp = 2 }

-- the gateway's link, once it has heard that 0 has started, and the reply
abbrev met : Link
met = record (new_link 0) { is_heard = true; peer = 1; stamp = 1 }

abbrev told : Link
told = record met { stamp = 2; heard = 2; seen = 1; distance = 1; acked = 1 }

-- the other router's link, once it has heard the gateway's height, and the answer
abbrev greeted : Link
greeted = record (new_link 1) { is_heard = true; peer = 1; stamp = 1; heard = 1; distance = 0 }

abbrev answered : Link
answered = record greeted { stamp = 2; acked = 2 }

abbrev one_link : List (ℕ × ℕ)
one_link = (1, 0) ∷ []

-- What is heard

-- the first link of a list of one
hears_one : (o : Own) (m : Message) (l k : Link) → l.neighbour ≡ m.from → m.to ≡ o.me → IsNewer l.peer l.stamp m
    → IsHeard o m l k → Hears o m (l ∷ []) (k ∷ [])
hears_one o m l k from to newer heard = hears_at o m (l ∷ []) 0 l k (record {
  place = rw (eq-eqb l.neighbour m.from from) refl;
  within = omega arith;
  here = refl;
  neighbour = from;
}) heard to newer

hears_started : Hears (own 1 0 1) started (new_link 0 ∷ []) (met ∷ [])
hears_started = hears_one (own 1 0 1) started (new_link 0) met refl refl (inl (omega arith)) (record {
  neighbour = refl;
  cost = refl;
  carrier = refl;
  said = refl;
  both_ways = λ _. (refl, refl);
  one_way = λ _. refl;
  deaf = λ _ _. refl;
  started = λ _. refl;
  lately = (refl, refl);
  start = refl;
  stamp = refl;
  informed = λ e _. absurd (omega (arith, e));
  uninformed = λ e _. absurd (omega (arith, e));
  forgotten = λ _ _. (refl, refl);
  answered = λ e _ _. absurd (omega (arith, e));
  unanswered = λ e _. absurd (omega (arith, e));
  unacked = λ _ _. refl;
})

hears_hello : Hears (own 0 0 1) hello (new_link 1 ∷ []) (greeted ∷ [])
hears_hello = hears_one (own 0 0 1) hello (new_link 1) greeted refl refl (inl (omega arith)) (record {
  neighbour = refl;
  cost = refl;
  carrier = refl;
  said = refl;
  both_ways = λ _. (refl, refl);
  one_way = λ _. refl;
  deaf = λ _ _. refl;
  started = λ _. refl;
  lately = (refl, refl);
  start = refl;
  stamp = refl;
  informed = λ _ _. (refl, refl, refl);
  uninformed = λ e _. absurd (omega (arith, e));
  forgotten = λ _ other. absurd (other refl);
  answered = λ _ _ _. refl;
  unanswered = λ e _. absurd (omega (arith, e));
  unacked = λ _ _. refl;
})

hears_reply : Hears (own 1 0 1) reply (met ∷ []) (told ∷ [])
hears_reply = hears_one (own 1 0 1) reply met told refl refl (inr (refl, omega arith)) (record {
  neighbour = refl;
  cost = refl;
  carrier = refl;
  said = refl;
  both_ways = λ _. (refl, refl);
  one_way = λ _. refl;
  deaf = λ _ _. refl;
  started = λ _. refl;
  lately = (refl, refl);
  start = refl;
  stamp = refl;
  informed = λ _ _. (refl, refl, refl);
  uninformed = λ _ why. ⊎_elim (λ other. absurd (other refl)) (λ l. absurd (omega (arith, l))) why;
  forgotten = λ l _. absurd (omega (arith, l));
  answered = λ _ _ _. refl;
  unanswered = λ _ why. ⊎_elim (λ other. absurd (other refl))
      (⊎_elim (λ l. absurd (omega (arith, l))) (λ l. absurd (omega (arith, l)))) why;
  unacked = λ l _. absurd (omega (arith, l));
})

hears_answer : Hears (own 0 1 2) answer (greeted ∷ []) (answered ∷ [])
hears_answer = hears_one (own 0 1 2) answer greeted answered refl refl (inr (refl, omega arith)) (record {
  neighbour = refl;
  cost = refl;
  carrier = refl;
  said = refl;
  both_ways = λ _. (refl, refl);
  one_way = λ _. refl;
  deaf = λ _ _. refl;
  started = λ _. refl;
  lately = (refl, refl);
  start = refl;
  stamp = refl;
  informed = λ _ _. (refl, refl, refl);
  uninformed = λ _ _. (refl, refl, refl);
  forgotten = λ l _. absurd (omega (arith, l));
  answered = λ _ _ _. refl;
  unanswered = λ _ why. ⊎_elim (λ other. absurd (other refl))
      (⊎_elim (λ l. absurd (omega (arith, l))) (λ l. absurd (omega (arith, l)))) why;
  unacked = λ l _. absurd (omega (arith, l));
})

-- What the router says of its distance: none at first, and 1 once it has heard the gateway

no_way : (k : ℕ) → ¬ IsNearest (own 0 0 1) (new_link 1 ∷ []) k
no_way k nearest = at nearest.some.0 nearest.some.1 nearest.some.2
  where
    at : (j : ℕ) → j < 1 → is_way (own 0 0 1) (get_or (new_link 1 ∷ []) j unknown) ≡ true → ⊥
    at zero l e = true_false e
    at (suc j) l e = omega (arith, l)

near : (k : ℕ) → IsNearest (own 0 1 2) (greeted ∷ []) k → 1 ≡ k
near k nearest = at nearest.some.0 nearest.some.1 nearest.some.3
  where
    at : (j : ℕ) → j < 1 → distance_over (get_or (greeted ∷ []) j unknown) ≡ k → 1 ≡ k
    at zero l e = omega (arith, e)
    at (suc j) l e = absurd (omega (arith, l))

-- The network

only : (l k : Link) → Contains (l ∷ []) k → l ≡ k
only l k h = ⊎_elim (λ e. e) (λ none. absurd (Contains-none k none)) (Contains-cases k l [] h)

only_link : (u v : ℕ) → Points one_link u v → (u ≡ 1) × (v ≡ 0)
only_link u v h = ⊎_elim (λ e. (sym (ap (λ (l : ℕ × ℕ). l.0) e), sym (ap (λ (l : ℕ × ℕ). l.1) e)))
    (λ none. absurd (Contains-none (u, v) none)) (Contains-cases (u, v) (1, 0) [] h)

all_one : (P : ℕ × ℕ → Type 0) → P (1, 0) → All P one_link
all_one P one = All-cons P (1, 0) [] one (All-nil P)

net : IsNet 2 one_link
net = record {
  in_range = all_one (λ (l : ℕ × ℕ). (l.0 < 2) × (l.1 < 2)) (omega arith, omega arith);
  no_self = all_one (λ (l : ℕ × ℕ). ¬ (l.0 ≡ l.1)) (λ e. omega (arith, e));
  single = all_one (λ (l : ℕ × ℕ). count_by (is_between l.0 l.1) one_link ≡ 1) refl;
  acyclic = falling_acyclic one_link (0 ∷ 1 ∷ []) (λ u v h. let e = only_link u v h in falls u v e.0 e.1);
}
  where
    falls : (u v : ℕ) → u ≡ 1 → v ≡ 0 → get_or (0 ∷ 1 ∷ []) v 0 < get_or (0 ∷ 1 ∷ []) u 0
    falls u v eu ev = subst (λ (z : ℕ). get_or (0 ∷ 1 ∷ []) v 0 < get_or (0 ∷ 1 ∷ []) z 0) (sym eu)
        (subst (λ (z : ℕ). get_or (0 ∷ 1 ∷ []) z 0 < 1) (sym ev) (omega arith))

connected : IsConnectedNet 2 1 one_link
connected = record { is_net = net; dest = omega arith; joined = joined }
  where
    joined : (x : ℕ) → x < 2 → IsConnected one_link 1 x
    joined zero l = (1, (0 ∷ [], inl (Contains-head (1, 0) [], (0, refl, (refl, refl)))))
    joined (suc zero) l = (0, ([], (refl, refl)))
    joined (suc (suc x)) l = absurd (omega (arith, l))

history : (me height number : ℕ) → 0 < number → IsHistory (own me height number) (λ _. height)
history me height number some = record {
  last = refl;
  used = λ n from upto. omega arith;
  announced = λ n from upto. omega arith;
  order = omega arith;
  begins = (some, some);
  ends = (omega arith, omega arith);
}

first_only : (neighbour : ℕ) → AreListedOnce (new_link neighbour ∷ [])
first_only neighbour zero l = rw (eq-eqb neighbour neighbour refl) refl
first_only neighbour (suc i) l = absurd (omega (arith, l))

module _ (alloc : Global) where
  abbrev links : Link → Vec Link
  links l = record {
    ptr = null_ptr;
    len = 1;
    cap = 1;
    alloc = alloc;
    items = l ∷ [];
    ok = (refl, omega arith);
    small = omega arith;
  }

  -- router 0 and the gateway, each with this link, after so many events. Each starts with a table that is written
  abbrev router : ℕ → Bool → Own → Link → Node
  router events written o l = record {
    own = o;
    gateway = false;
    policy = policy;
    links = links l;
    events = events;
    is_written = written;
    stamp = 0;
  }

  abbrev gate : ℕ → Bool → Link → Node
  gate events written l = record {
    own = own 1 0 1;
    gateway = true;
    policy = policy;
    links = links l;
    events = events;
    is_written = written;
    stamp = 0;
  }

  abbrev before : Node
  before = router 0 true (own 0 0 1) (new_link 1)

  abbrev after : Node
  after = router 1 false (own 0 1 2) greeted

  abbrev done : Node
  done = router 2 false (own 0 1 2) answered

  abbrev gate0 : Node
  gate0 = gate 0 true (new_link 0)

  abbrev gate1 : Node
  gate1 = gate 1 false met

  abbrev gate2 : Node
  gate2 = gate 2 false told

  abbrev nodes : Node → Node → ℕ → Node
  nodes a b zero = a
  nodes a b (suc zero) = b
  nodes a b (suc (suc x)) = gate0

  abbrev moment : Node → Node → List Message → Configuration
  moment a b pool = record { node = nodes a b; pool = pool }

  router_before : IsRouter 1 0 before
  router_before = record {
    me = refl;
    once = first_only 1;
    announced = (λ n. 0, history 0 0 1 (omega arith));
    gateway = (λ g. absurd (true_false g), λ e. absurd (omega (arith, e)));
    used = λ e. refl;
    full = λ other. (refl, refl);
  }

  router_gate : IsRouter 1 1 gate0
  router_gate = record {
    me = refl;
    once = first_only 0;
    announced = (λ n. 0, history 1 0 1 (omega arith));
    gateway = (λ g. refl, λ e. refl);
    used = λ e. refl;
    full = λ other. absurd (other refl);
  }

  network : IsNetwork 2 1 one_link (moment before gate0 [])
  network = record {
    router = routers;
    linked = record { up = up; down = down };
    heard = λ x l inside listed up some. absurd (none x l listed some);
    said = λ m h. absurd (Contains-none m h);
  }
    where
      routers : (x : ℕ) → x < 2 → IsRouter 1 x (nodes before gate0 x)
      routers zero l = router_before
      routers (suc zero) l = router_gate
      routers (suc (suc x)) l = absurd (omega (arith, l))

      at_before : (w : ℕ) → IsLinkedTo before w → Joins one_link 0 w
      at_before w (l, listed, up, leads) = subst (Joins one_link 0)
          (ap (λ (k : Link). k.neighbour) (only (new_link 1) l listed) ∙ leads) (inr (Contains-head (1, 0) []))

      at_gate : (w : ℕ) → IsLinkedTo gate0 w → Joins one_link 1 w
      at_gate w (l, listed, up, leads) = subst (Joins one_link 1)
          (ap (λ (k : Link). k.neighbour) (only (new_link 0) l listed) ∙ leads) (inl (Contains-head (1, 0) []))

      from_before : (w : ℕ) → Joins one_link 0 w → 1 ≡ w
      from_before w (inl h) = absurd (omega (arith, (only_link 0 w h).0))
      from_before w (inr h) = sym (only_link w 0 h).0

      from_gate : (w : ℕ) → Joins one_link 1 w → 0 ≡ w
      from_gate w (inl h) = sym (only_link 1 w h).1
      from_gate w (inr h) = absurd (omega (arith, (only_link w 1 h).1))

      up : (x w : ℕ) → x < 2 → IsLinkedTo (nodes before gate0 x) w ↔ Joins one_link x w
      up zero w inside = (at_before w, λ j. (new_link 1, Contains-head (new_link 1) [], refl, from_before w j))
      up (suc zero) w inside = (at_gate w, λ j. (new_link 0, Contains-head (new_link 0) [], refl, from_gate w j))
      up (suc (suc x)) w inside = absurd (omega (arith, inside))

      down : (x w : ℕ) → Points one_link x w → IsLower (nodes before gate0) w x
      down x w h = let e = only_link x w h in subst (λ (z : ℕ). IsLower (nodes before gate0) w z) (sym e.0)
          (subst (λ (z : ℕ). IsLower (nodes before gate0) z 1) (sym e.1) (inr (refl, omega arith)))

      none : (x : ℕ) (l : Link) → Contains (nodes before gate0 x).links.items l → 0 < l.heard → ⊥
      none zero l listed some = omega (arith, some, ap (λ (k : Link). k.heard) (only (new_link 1) l listed))
      none (suc zero) l listed some = omega (arith, some, ap (λ (k : Link). k.heard) (only (new_link 0) l listed))
      none (suc (suc x)) l listed some = omega (arith, some, ap (λ (k : Link). k.heard) (only (new_link 0) l listed))

  -- What a step is: one router says something, or hears the last message

  says : (a b : Node) (pool : List Message) (m : Message) → IsMessageTo (nodes a b m.from) m.to m
      → IsStep 1 (moment a b pool) (moment a b (m ∷ pool))
  says a b pool m honest = record {
    messages = [];
    sent = λ k h. absurd (Contains-none k h);
    call = rests [] b b.is_written;
    others = λ y other. refl;
    said = λ k h. ⊎_elim
        (λ e. inr (subst (λ (j : Message). IsMessageTo (nodes a b j.from) j.to j) e honest))
        (λ old. inl old)
        (Contains-cases k m pool h);
  }

  only_last : (m : Message) (pool : List Message) (k : Message) → Contains (m ∷ []) k → Contains (m ∷ pool) k
  only_last m pool k h = ⊎_elim
      (λ e. subst (Contains (m ∷ pool)) e (Contains-head m pool))
      (λ none. absurd (Contains-none k none))
      (Contains-cases k m [] h)

  router_hears : (a mid c b : Node) (m : Message) (pool : List Message) → InTurn a mid c → IsAsSaid a m.from
      → Hears a.own m a.links.items c.links.items → IsStep 0 (moment a b (m ∷ pool)) (moment c b (m ∷ pool))
  router_hears a mid c b m pool turn as_said hears = record {
    messages = m ∷ [];
    sent = only_last m pool;
    call = taking_is_a_call m a c as_said hears event;
    others = others;
    said = λ k h. inl h;
  }
    where
      event : IsAfterEvent (m ∷ []) a c
      event = after_hearing m a mid c turn
          (subst (λ (ls : Vec Link). Hears a.own m a.links.items ls.items) (ap (λ (n : Node). n.links) turn.own) hears)

      others : (y : ℕ) → y ≢ 0 → nodes c b y ≡ nodes a b y
      others zero other = absurd (other refl)
      others (suc zero) other = refl
      others (suc (suc y)) other = refl

  -- a gateway announces nothing
  gate_hears : (a : Node) (e : ℕ) (b : Bool) (l k : Link) (m : Message) (pool : List Message)
      → IsAsSaid (gate e b l) m.from → Hears (own 1 0 1) m (l ∷ []) (k ∷ [])
      → IsStep 1 (moment a (gate e b l) (m ∷ pool)) (moment a (gate ((e + 1) % 2 ^ 64) false k) (m ∷ pool))
  gate_hears a e b l k m pool as_said hears = record {
    messages = m ∷ [];
    sent = only_last m pool;
    call = taking_is_a_call m (gate e b l) heard as_said hears event;
    others = others;
    said = λ k h. inl h;
  }
    where
      heard : Node
      heard = gate ((e + 1) % 2 ^ 64) false k

      acts : Acts (gate e b k) (own 1 0 1)
      acts = record {
        said = own 1 0 1;
        announces = inr (inr (record { stays = λ may. absurd (true_false (sym may.forwards)); own = refl }));
        settles = record { used = λ _. refl; waits = λ _. refl };
      }

      event : IsAfterEvent (m ∷ []) (gate e b l) heard
      event = after_hearing m (gate e b l) (gate e b k) heard
          (record { links = refl; own = refl; announces = Announces-none (own 1 0 1); acts = acts }) hears

      others : (y : ℕ) → y ≢ 1 → nodes a heard y ≡ nodes a (gate e b l) y
      others zero other = refl
      others (suc zero) other = absurd (other refl)
      others (suc (suc y)) other = refl

  gate_distance : (e : ℕ) (b : Bool) (l : Link) → IsDistance (gate e b l) 0
  gate_distance e b l = record {
    gateway = λ _. refl;
    near = λ other. absurd (other refl);
    far = λ other. absurd (other refl);
  }

  gate_says : (e : ℕ) (b : Bool) (l : Link) (m : Message) → m.from ≡ 1 → m.to ≡ 0 → m.boot ≡ 1 → m.number ≡ 1
      → m.height ≡ 0
      → m.distance ≡ 0 → l.neighbour ≡ 0 → m.echo ≡ echo_of l → m.heard ≡ l.heard → IsMessageTo (gate e b l) 0 m
  gate_says e b l m from to boot number height distance leads echo heard = record {
    from = from;
    to = to;
    boot = boot;
    echo = rw (eq-eqb l.neighbour 0 leads) echo;
    number = number;
    height = height;
    heard = rw (eq-eqb l.neighbour 0 leads) heard;
    distance = subst (IsDistance (gate e b l)) (sym distance) (gate_distance e b l);
  }

  -- Each step

  says_started : IsMessageTo before 1 started
  says_started = record {
    from = refl;
    to = refl;
    boot = refl;
    echo = refl;
    number = refl;
    height = refl;
    heard = refl;
    distance = record {
      gateway = λ g. absurd (true_false g);
      near = λ _ k nearest. absurd (no_way k nearest);
      far = λ _ _. refl;
    };
  }

  -- the router hears the gateway's height, and announces one
  abbrev middle : Node
  middle = router 0 true (own 0 0 1) greeted

  above : IsAboveAll middle 1
  above = record {
    sink = All-cons (λ l. l.up ≡ true → (0 < l.heard) × (is_lower (own 0 0 1) l ≡ false)) greeted []
        (λ _. (omega arith, refl)) (All-nil _);
    highest = (
      greeted,
      record {
        listed = Contains-head greeted [];
        good = refl;
        best = All-cons (λ l. is_up l ≡ true → is_higher l greeted ≡ false) greeted [] (λ _. refl) (All-nil _);
      },
      refl,
    );
    fits = omega arith;
  }

  acts : Acts middle (own 0 1 2)
  acts = record {
    said = record (own 0 0 1) { announced = 1; number = 2; announced_since = 2 };
    announces = inr (inl (record {
      height = 1;
      may = record { forwards = refl; settled = refl; number = omega arith };
      stays = λ v falls. true_false falls.wanted;
      rises = above;
      greater = omega arith;
      own = refl;
    }));
    settles = record { used = λ _. refl; waits = λ no. absurd (no (λ e. absurd (true_false e))) };
  }

  rises : InTurn before middle after
  rises = record {
    links = refl;
    own = refl;
    announces = Announces-then (own 0 0 1) (record (own 0 0 1) { announced = 1; number = 2; announced_since = 2 })
        (own 0 1 2) (Announces-raised (own 0 0 1) 1 (omega arith))
        (Announces-settled (record (own 0 0 1) { announced = 1; number = 2; announced_since = 2 }));
    acts = acts;
  }

  says_reply : IsMessageTo after 1 reply
  says_reply = record {
    from = refl;
    to = refl;
    boot = refl;
    echo = refl;
    number = refl;
    height = refl;
    heard = refl;
    distance = record {
      gateway = λ g. absurd (true_false g);
      near = λ _ k nearest. near k nearest;
      far = λ _ none. absurd (true_false (sym (none 0 (omega arith))));
    };
  }

  -- it has a way, so it announces nothing more
  no_sink : (e v : ℕ) → ¬ IsAboveAll (router e false (own 0 1 2) answered) v
  no_sink e v above = true_false (sym (All-contains
      (λ l. l.up ≡ true → (0 < l.heard) × (is_lower (own 0 1 2) l ≡ false)) (answered ∷ []) answered above.sink
      (Contains-head answered []) refl).1)

  abbrev at_rest : Node
  at_rest = router 1 false (own 0 1 2) answered

  keeps : Acts at_rest (own 0 1 2)
  keeps = record {
    said = own 0 1 2;
    announces = inr (inr (record {
      stays = λ may v. (λ falls. true_false falls.wanted, λ rises. absurd (no_sink 1 v rises));
      own = refl;
    }));
    settles = record { used = λ _. refl; waits = λ _. refl };
  }

  stays : InTurn after at_rest done
  stays = record { links = refl; own = refl; announces = Announces-none (own 0 1 2); acts = keeps }

  -- Nothing more happens

  quiet : IsQuiet 2 (nodes done gate2)
  quiet = record { me = me; announced = announced; room = room; told = all_told; still = still }
    where
      me : (x : ℕ) → x < 2 → (nodes done gate2 x).own.me ≡ x
      me zero l = refl
      me (suc zero) l = refl
      me (suc (suc x)) l = absurd (omega (arith, l))

      announced : (x : ℕ) → x < 2 → (h : ℕ → ℕ) × IsHistory (nodes done gate2 x).own h
      announced zero l = (λ _. 1, history 0 1 2 (omega arith))
      announced (suc zero) l = (λ _. 0, history 1 0 1 (omega arith))
      announced (suc (suc x)) l = absurd (omega (arith, l))

      room : (x : ℕ) → x < 2 → (nodes done gate2 x).own.used + 1 < 2 ^ 64
      room zero l = omega arith
      room (suc zero) l = omega arith
      room (suc (suc x)) l = absurd (omega (arith, l))

      told_router : IsTold 2 (nodes done gate2) 0 answered
      told_router = record { within = omega arith; linked = refl; heard = omega arith; seen = refl; acked = refl }

      told_gate : IsTold 2 (nodes done gate2) 1 told
      told_gate = record { within = omega arith; linked = refl; heard = omega arith; seen = refl; acked = refl }

      all_told : (x : ℕ) (l : Link) → x < 2 → Contains (nodes done gate2 x).links.items l → l.up ≡ true
          → IsTold 2 (nodes done gate2) x l
      all_told zero l inside listed up = subst (IsTold 2 (nodes done gate2) 0) (only answered l listed) told_router
      all_told (suc zero) l inside listed up = subst (IsTold 2 (nodes done gate2) 1) (only told l listed) told_gate
      all_told (suc (suc x)) l inside listed up = absurd (omega (arith, inside))

      still : (x : ℕ) → x < 2 → IsTrue (nodes done gate2 x).gateway ⊎ IsStill (nodes done gate2 x)
      still zero l = inr (record {
        full = refl;
        may = record { forwards = refl; settled = refl; number = omega arith };
        keeps = record {
          stays = λ may v. (λ falls. true_false falls.wanted, λ rises. absurd (no_sink 2 v rises));
          own = refl;
        };
      })
      still (suc zero) l = inl refl
      still (suc (suc x)) l = absurd (omega (arith, l))

  starts_from_one : (x : ℕ) → 0 < (nodes before gate0 x).own.boot
  starts_from_one zero = omega arith
  starts_from_one (suc zero) = omega arith
  starts_from_one (suc (suc x)) = omega arith

  abbrev pool1 : List Message
  pool1 = started ∷ []

  abbrev pool2 : List Message
  pool2 = hello ∷ pool1

  abbrev pool3 : List Message
  pool3 = reply ∷ pool2

  abbrev pool4 : List Message
  pool4 = answer ∷ pool3

  step1 : IsStep 1 (moment before gate0 []) (moment before gate0 pool1)
  step1 = says before gate0 [] started says_started

  step2 : IsStep 1 (moment before gate0 pool1) (moment before gate1 pool1)
  step2 = gate_hears before 0 true (new_link 0) met started [] refl hears_started

  step3 : IsStep 1 (moment before gate1 pool1) (moment before gate1 pool2)
  step3 = says before gate1 pool1 hello (gate_says 1 false met hello refl refl refl refl refl refl refl refl refl)

  step4 : IsStep 0 (moment before gate1 pool2) (moment after gate1 pool2)
  step4 = router_hears before middle after gate1 hello pool1 rises refl hears_hello

  step5 : IsStep 1 (moment after gate1 pool2) (moment after gate1 pool3)
  step5 = says after gate1 pool2 reply says_reply

  step6 : IsStep 1 (moment after gate1 pool3) (moment after gate2 pool3)
  step6 = gate_hears after 1 false met told reply pool2 refl hears_reply

  step7 : IsStep 1 (moment after gate2 pool3) (moment after gate2 pool4)
  step7 = says after gate2 pool3 answer (gate_says 2 false told answer refl refl refl refl refl refl refl refl refl)

  step8 : IsStep 0 (moment after gate2 pool4) (moment done gate2 pool4)
  step8 = router_hears after at_rest done gate2 answer pool3 stays refl hears_answer

  abbrev last_four : List (ℕ × Configuration)
  last_four = (1, moment after gate1 pool3) ∷ (1, moment after gate2 pool3) ∷ (1, moment after gate2 pool4)
      ∷ (0, moment done gate2 pool4) ∷ []

  last_steps : AreSteps 2 (moment after gate1 pool2) last_four
  last_steps = (omega arith, step5, (omega arith, step6, (omega arith, step7, (omega arith, step8, tt))))

  abbrev all_eight : List (ℕ × Configuration)
  all_eight = (1, moment before gate0 pool1) ∷ (1, moment before gate1 pool1) ∷ (1, moment before gate1 pool2)
      ∷ (0, moment after gate1 pool2) ∷ last_four

  all_steps : AreSteps 2 (moment before gate0 []) all_eight
  all_steps = (omega arith, step1, (omega arith, step2, (omega arith, step3, (omega arith, step4, last_steps))))

pub some_router_announces : SomeRouterAnnounces
some_router_announces alloc = (
  2,
  1,
  one_link,
  moment alloc (before alloc) (gate0 alloc) [],
  all_eight alloc,
  connected,
  network alloc,
  all_steps alloc,
  refl,
  starts_from_one alloc,
  refl,
  quiet alloc,
)
