-- What daemons do are moves of forwarders, so their tables have no loop.
use Rattle.std.proofs.Common.{Bool, Contains, List, [], ap, arith, cond, eqb, false, get_or, inl, inr, length, refl}
use Rattle.std.proofs.Common.{subst, suc, sym}
use Rattle.std.proofs.Common.{true, zero, ℕ, ⊎_elim, ◌++◌, ◌+◌, ◌-◌, ◌∷◌, ◌∙◌, ◌≡◌, ◌≤◌, ◌⊎◌}
use Rattle.std.proofs.Math.Path.{fun_ext}
use Rattle.std.proofs.lemmas.Bool.{cases_lt, ne_eqb}
use Rattle.std.proofs.lemmas.List.{get_or-append-add, get_or_append_left, get_or_past}
use Rattle.std.proofs.lemmas.List.Folds.{position_or_len_push}
use Rattle.fr_node.specs.declared.link.Link.{Link}
use Rattle.fr_node.specs.declared.message.Message.{Message}
use Rattle.fr_node.specs.declared.node.Node.{Node}
use Rattle.fr_node.specs.Daemons.{DaemonsHaveNoLoop, Does, HasEvent, IsCalled, IsDaemonStart, IsDaemonStep, IsFresh}
use Rattle.fr_node.specs.Daemons.{KeepsLinks, StartsAnew}
use Rattle.fr_node.specs.Histories.{IsHistory}
use Rattle.fr_node.specs.Links.{IsKnown, leads_to, link_to, place_of, unknown}
use Rattle.fr_node.specs.Nodes.{IsMessageTo, lets_in, router, sends_to}
use Rattle.fr_node.specs.Routers.{GoesOn, IsOpen, IsSaidBy, IsWay, Restarts, Router}
use Rattle.fr_node.specs.Tables.{ChangesWays, Confirms, Forwarder, HasAnotherState, IsPlaneRun}
use Rattle.fr_node.specs.Tables.{HaveNoLoop, Moves, OpensGates, Plane, Removes, last_plane}
use Rattle.fr_node.proofs.Going.{goes_on_more}
use Rattle.fr_node.proofs.Forwarders.{only}
use Rattle.fr_node.proofs.Stepping.{KnowsSame, gate_to, is_said_by, said_same, same, way_to}
use Rattle.fr_node.proofs.Tables.{IsBacked, backed_start, backed_step, loop_free}
use Rattle.fr_node.proofs.Ticking.{ticked_same}

-- this node of router y is among these states
record IsState (y : ℕ) (n : Node) (r : Router) : Type 0 where
  history : ℕ → ℕ
  known : IsHistory n.own history
  me : n.own.me ≡ y
  state : r ≡ router n history

record IsRead (y : ℕ) (rs : List Router) (n : Node) : Type 0 where
  of : Router
  listed : Contains rs of
  is : IsState y n of

-- the daemon of router y is this forwarder
record Is (y : ℕ) (d : Forwarder Node) (f : Forwarder Router) : Type 0 where
  node : IsState y d.state f.state
  ways : f.ways ≡ d.ways
  gates : f.gates ≡ d.gates
  confirmed : f.confirmed ≡ d.confirmed
  now : Contains f.since f.state
  since : (n : Node) → Contains d.since n → IsRead y f.since n

way_of : (y : ℕ) (n : Node) (r : Router) → IsState y n r → (w : ℕ) → sends_to n w ≡ true → IsWay r y w
way_of y n r is w t = subst (λ q. IsWay q y w) (sym is.state)
    (subst (λ x. IsWay (router n is.history) x w) is.me (way_to n w t is.history))

gate_of : (y : ℕ) (n : Node) (r : Router) → IsState y n r → (w : ℕ) → lets_in n w ≡ true → IsOpen r w
gate_of y n r is w t = subst (λ q. IsOpen q w) (sym is.state) (gate_to n w t is.history is.known)

-- the link, to whomever it leads, whatever its cost
abbrev pub nameless : Link → Link
nameless l = record l { neighbour = 0; cost = 1 }

-- past the list there is nothing known, also with a router of which nothing is known after it
past_alike : (ls : List Link) (w c i : ℕ) → length ls ≤ i
    → nameless (get_or (ls ++ record unknown { neighbour = w; cost = c } ∷ []) i unknown) ≡ unknown
past_alike ls w c i past =
    ap (λ (n : ℕ). nameless (get_or (ls ++ record unknown { neighbour = w; cost = c } ∷ []) n unknown))
    (omega (arith, past))
    ∙ ap nameless (get_or-append-add ls (record unknown { neighbour = w; cost = c } ∷ []) (i - length ls) unknown)
    ∙ after (i - length ls)
  where
    after : (k : ℕ) → nameless (get_or (record unknown { neighbour = w; cost = c } ∷ []) k unknown) ≡ unknown
    after zero = refl
    after (suc k) = refl

-- a known router stays in its place when one more is known, and so does the link to it
pub place_pushed : (ls : List Link) (w c v : ℕ) → IsKnown ls v
    → place_of (ls ++ record unknown { neighbour = w; cost = c } ∷ []) v ≡ place_of ls v
place_pushed ls w c v l = position_or_len_push (leads_to v) ls (record unknown { neighbour = w; cost = c })
    ∙ rw (ne_eqb (place_of ls v) (length ls) (λ e. omega (arith, e, l))) refl

pub known_stays : (ls : List Link) (w c v : ℕ) → IsKnown ls v
    → link_to (ls ++ record unknown { neighbour = w; cost = c } ∷ []) v ≡ link_to ls v
known_stays ls w c v l = ap (λ (i : ℕ). get_or (ls ++ record unknown { neighbour = w; cost = c } ∷ []) i unknown)
    (place_pushed ls w c v l)
    ∙ get_or_append_left ls (record unknown { neighbour = w; cost = c } ∷ []) unknown (place_of ls v) l

-- the link to each router stays, but for its name
pub known_alike : (ls : List Link) (w c v : ℕ)
    → nameless (link_to (ls ++ record unknown { neighbour = w; cost = c } ∷ []) v) ≡ nameless (link_to ls v)
known_alike ls w c v = ⊎_elim
    (λ l. ap nameless (known_stays ls w c v l))
    (λ past. past_alike ls w c (place_of (ls ++ x ∷ []) v) (omega (
      arith,
      place,
      beyond (eqb (place_of ls v) (length ls))
          (length ls) (cond (leads_to v x) 0 1) (place_of ls v) past,
    )) ∙ sym (ap nameless (get_or_past ls (place_of ls v) unknown past)))
    (cases_lt (place_of ls v) (length ls))
  where
    x : Link
    x = record unknown { neighbour = w; cost = c }

    place : place_of (ls ++ x ∷ []) v ≡ cond (eqb (place_of ls v) (length ls))
        (length ls + cond (leads_to v x) 0 1) (place_of ls v)
    place = position_or_len_push (leads_to v) ls x

    beyond : (b : Bool) (n k i : ℕ) → n ≤ i → n ≤ cond b (n + k) i
    beyond true n k i l = omega arith
    beyond false n k i l = l

-- so what is known of it stays
pub known_same : (ls : List Link) (w c v : ℕ)
    → KnowsSame (link_to ls v) (link_to (ls ++ record unknown { neighbour = w; cost = c } ∷ []) v)
known_same ls w c v = record {
  peer = ap (λ (l : Link). l.peer) (known_alike ls w c v);
  stamp = ap (λ (l : Link). l.stamp) (known_alike ls w c v);
  heard = ap (λ (l : Link). l.heard) (known_alike ls w c v);
  seen = ap (λ (l : Link). l.seen) (known_alike ls w c v);
  acked = ap (λ (l : Link). l.acked) (known_alike ls w c v);
}

-- the router of a node, by what it knows of others
abbrev router_by : Node → (h peer heard seen acked : ℕ → ℕ) → Router
router_by n h peer heard seen acked = record (router n h) { peer = peer; heard = heard; seen = seen; acked = acked }

-- the router of a node with other links by which it knows the same
router_same : (n k : Node) (h : ℕ → ℕ)
    → k ≡ record n { links = k.links; is_written = k.is_written; stamp = k.stamp }
    → ((w : ℕ) → KnowsSame (link_to n.links.items w) (link_to k.links.items w)) → router k h ≡ router n h
router_same n k h e knows = ap (λ (m : Node). router m h) e
    ∙ ap (λ f. router_by n h f (router k h).heard (router k h).seen (router k h).acked) (fun_ext (λ w. (knows w).peer))
    ∙ ap (λ f. router_by n h (router n h).peer f (router k h).seen (router k h).acked) (fun_ext (λ w. (knows w).heard))
    ∙ ap (λ f. router_by n h (router n h).peer (router n h).heard f (router k h).acked) (fun_ext (λ w. (knows w).seen))
    ∙ ap (λ f. router_by n h (router n h).peer (router n h).heard (router n h).seen f) (fun_ext (λ w. (knows w).acked))

fresh_state : (y : ℕ) (n : Node) (fresh : IsFresh n) → n.own.me ≡ y → IsState y n (router n fresh.announced.0)
fresh_state y n fresh me = record { history = fresh.announced.0; known = fresh.announced.1; me = me; state = refl }

-- a list with one more state
read_more : (y : ℕ) (ns : List Node) (rs : List Router) (n : Node) (r : Router)
    → ((k : Node) → Contains ns k → IsRead y rs k) → IsState y n r → (k : Node) → Contains (n ∷ ns) k
    → IsRead y (r ∷ rs) k
read_more y ns rs n r before is k (zero, l, e) = record {
  of = r;
  listed = (0, omega arith, refl);
  is = subst (λ m. IsState y m r) e is;
}
read_more y ns rs n r before is k (suc i, l, e) = let old = before k (i, omega (arith, l), e) in record {
  of = old.of;
  listed = (suc old.listed.0, omega (arith, old.listed.1), old.listed.2);
  is = old.is;
}

-- a list with one more node whose state was there
read_again : (y : ℕ) (ns : List Node) (rs : List Router) (n : Node) (r : Router) → Contains rs r
    → ((k : Node) → Contains ns k → IsRead y rs k) → IsState y n r → (k : Node) → Contains (n ∷ ns) k
    → IsRead y rs k
read_again y ns rs n r there before is k (zero, l, e) = record {
  of = r;
  listed = there;
  is = subst (λ m. IsState y m r) e is;
}
read_again y ns rs n r there before is k (suc i, l, e) = before k (i, omega (arith, l), e)

read_one : (y : ℕ) (n : Node) (r : Router) → IsState y n r → (k : Node) → Contains (n ∷ []) k → IsRead y (r ∷ []) k
read_one y n r is k at = record {
  of = r;
  listed = (0, omega arith, refl);
  is = subst (λ m. IsState y m r) (only n k at) is;
}

-- a daemon has become e, and its forwarder has moved
record Moved (pool : List Message) (y : ℕ) (f : Forwarder Router) (e : Forwarder Node) : Type 0 where
  to : Forwarder Router
  move : Moves pool y f to
  is : Is y e to

module _ (pool : List Message) (y : ℕ) (d e : Forwarder Node) (f : Forwarder Router) (is : Is y d f) where
  -- another node of the router, after an event or a start
  becomes : (r : Router) → IsState y e.state r → GoesOn pool y f.state r ⊎ Restarts f.state r → HasAnotherState d e
      → Moved pool y f e
  becomes r state how table = record {
    to = record f { state = r; confirmed = false; since = r ∷ f.since };
    move = inl (record { router = how; table = refl });
    is = subst (λ k. Is y k (record f { state = r; confirmed = false; since = r ∷ f.since })) (sym table) (record {
      node = state;
      ways = is.ways;
      gates = is.gates;
      confirmed = refl;
      now = (0, omega arith, refl);
      since = read_more y d.since f.since e.state r is.since state;
    });
  }

  event : HasEvent pool d e → Moved pool y f e
  event h = let after = h.step.goes_on is.node.history is.node.known in becomes (router e.state after.0)
      (record { history = after.0; known = after.1; me = h.step.me ∙ is.node.me; state = refl })
      (inl (subst (λ r. GoesOn pool y r (router e.state after.0)) (sym is.node.state)
      (goes_on_more h.messages pool h.sent y (router d.state is.node.history) (router e.state after.0)
      (subst (λ x. GoesOn h.messages x (router d.state is.node.history) (router e.state after.0)) is.node.me after.2))))
      h.table

  restart : StartsAnew y d e → Moved pool y f e
  restart s = becomes (router e.state s.fresh.announced.0) (fresh_state y e.state s.fresh s.me)
      (inr (subst (λ r. Restarts r (router e.state s.fresh.announced.0)) (sym is.node.state) (record {
        boot = s.boot;
        peer = λ w. ap (λ ls. (link_to ls w).peer) s.fresh.links;
        heard = λ w. ap (λ ls. (link_to ls w).heard) s.fresh.links;
        acked = λ w. ap (λ ls. (link_to ls w).acked) s.fresh.links;
      })))
      s.table

  called : IsCalled d e → Moved pool y f e
  called c = record {
    to = f;
    move = inr (inl (record { ways = λ w t. t; gates = λ w t. t; rest = refl }));
    is = subst (λ k. Is y k f) (sym c.table) (record {
      node = state;
      ways = is.ways;
      gates = is.gates;
      confirmed = is.confirmed;
      now = is.now;
      since = read_again y d.since f.since e.state f.state is.now is.since state;
    });
  }
    where
      knows : KeepsLinks d.state e.state → (w : ℕ)
          → KnowsSame (link_to d.state.links.items w) (link_to e.state.links.items w)
      knows (inl kept) w = same (link_to d.state.links.items w) (link_to e.state.links.items w)
          (ap (λ ls. link_to ls w) kept)
      knows (inr (inl (v, m, says))) w = said_same v m d.state.links.items e.state.links.items says w
      knows (inr (inr (inl (v, c, more)))) w = subst (λ ls. KnowsSame (link_to d.state.links.items w) (link_to ls w))
          (sym more) (known_same d.state.links.items v c w)
      knows (inr (inr (inr (patience, ticked)))) w =
          ticked_same patience d.state.links.items e.state.links.items ticked w

      own : e.state.own ≡ d.state.own
      own = ap (λ (n : Node). n.own) c.node

      state : IsState y e.state f.state
      state = record {
        history = is.node.history;
        known = subst (λ o. IsHistory o is.node.history) (sym own) is.node.known;
        me = ap (λ o. o.me) own ∙ is.node.me;
        state = is.node.state ∙ sym (router_same d.state e.state is.node.history c.node (knows c.links));
      }

  -- the ways and gates of the table, and those of a node
  way_on : (w : ℕ) → f.ways w ≡ d.ways w
  way_on w = ap (λ ways. ways w) is.ways

  gate_on : (w : ℕ) → f.gates w ≡ d.gates w
  gate_on w = ap (λ gates. gates w) is.gates

  removes : Removes d e → Moved pool y f e
  removes t = record {
    to = record f { ways = e.ways; gates = e.gates };
    move = inr (inl (record {
      ways = λ w on. way_on w ∙ t.ways w on;
      gates = λ w on. gate_on w ∙ t.gates w on;
      rest = refl;
    }));
    is = subst (λ k. Is y k (record f { ways = e.ways; gates = e.gates })) (sym t.rest) (record {
      node = is.node;
      ways = refl;
      gates = refl;
      confirmed = is.confirmed;
      now = is.now;
      since = is.since;
    });
  }

  changes_ways : ChangesWays (λ n w. sends_to n w ≡ true) (λ n w. lets_in n w ≡ true) d e → Moved pool y f e
  changes_ways t = let read = is.since t.target t.read in record {
    to = record f { ways = e.ways };
    move = inr (inr (inl (record {
      target = read.of;
      read = read.listed;
      closed = λ w on. gate_of y t.target read.of read.is w (t.closed w (sym (gate_on w) ∙ on));
      ways = λ w on. ⊎_elim (λ old. inl (way_on w ∙ old))
          (λ new. inr (way_of y t.target read.of read.is w new)) (t.ways w on);
      rest = refl;
    })));
    is = subst (λ k. Is y k (record f { ways = e.ways })) (sym t.rest) (record {
      node = is.node;
      ways = refl;
      gates = is.gates;
      confirmed = is.confirmed;
      now = is.now;
      since = is.since;
    });
  }

  opens_gates : OpensGates (λ n w. sends_to n w ≡ true) (λ n w. lets_in n w ≡ true) d e → Moved pool y f e
  opens_gates t = let read = is.since t.target t.read in record {
    to = record f { gates = e.gates };
    move = inr (inr (inr (inl (record {
      target = read.of;
      read = read.listed;
      changed = λ w on. way_of y t.target read.of read.is w (t.changed w (sym (way_on w) ∙ on));
      gates = λ w on. ⊎_elim (λ old. inl (gate_on w ∙ old))
          (λ new. inr (gate_of y t.target read.of read.is w new)) (t.gates w on);
      rest = refl;
    }))));
    is = subst (λ k. Is y k (record f { gates = e.gates })) (sym t.rest) (record {
      node = is.node;
      ways = is.ways;
      gates = refl;
      confirmed = is.confirmed;
      now = is.now;
      since = is.since;
    });
  }

  confirms : Confirms (λ n w. sends_to n w ≡ true) (λ n w. lets_in n w ≡ true) d e → Moved pool y f e
  confirms t = record {
    to = record f { confirmed = true; since = f.state ∷ [] };
    move = inr (inr (inr (inr (record {
      ways = λ w on. way_of y d.state f.state is.node w (t.ways w (sym (way_on w) ∙ on));
      gates = λ w on. gate_of y d.state f.state is.node w (t.gates w (sym (gate_on w) ∙ on));
      rest = refl;
    }))));
    is = subst (λ k. Is y k (record f { confirmed = true; since = f.state ∷ [] })) (sym t.rest) (record {
      node = is.node;
      ways = is.ways;
      gates = is.gates;
      confirmed = refl;
      now = (0, omega arith, refl);
      since = read_one y d.state f.state is.node;
    });
  }

  moved : Does pool y d e → Moved pool y f e
  moved (inl h) = event h
  moved (inr (inl s)) = restart s
  moved (inr (inr (inl c))) = called c
  moved (inr (inr (inr (inl t)))) = removes t
  moved (inr (inr (inr (inr (inl t))))) = changes_ways t
  moved (inr (inr (inr (inr (inr (inl t)))))) = opens_gates t
  moved (inr (inr (inr (inr (inr (inr t)))))) = confirms t

-- what `say` returns is true of the router
said_by : (y : ℕ) (n : Node) (r : Router) (m : Message) → IsState y n r → IsMessageTo n m.to m → IsSaidBy r m
said_by y n r m is says = subst (λ q. IsSaidBy q m) (sym is.state) (is_said_by n m.to m says is.history is.known)

-- the daemons are a plane of routers that is backed
record AreBacked (s : Plane Node) : Type 0 where
  forwarder : ℕ → Forwarder Router
  backed : IsBacked (record { forwarder = forwarder; pool = s.pool })
  are : (y : ℕ) → Is y (s.forwarder y) (forwarder y)

start : (s : Plane Node) → IsDaemonStart s → AreBacked s
start s b = record {
  forwarder = f;
  backed = backed_start (record { forwarder = f; pool = s.pool }) (record {
    silent = record { pool = b.silent.pool; ways = b.silent.ways; gates = b.silent.gates; since = λ y. refl };
    peer = λ y w. ap (λ ls. (link_to ls w).peer) (b.fresh y).links;
    heard = λ y w. ap (λ ls. (link_to ls w).heard) (b.fresh y).links;
    acked = λ y w. ap (λ ls. (link_to ls w).acked) (b.fresh y).links;
  });
  are = λ y. record {
    node = state y;
    ways = refl;
    gates = refl;
    confirmed = refl;
    now = (0, omega arith, refl);
    since = λ n at. read_one y (s.forwarder y).state (r y) (state y) n
        (subst (λ ns. Contains ns n) (b.silent.since y) at);
  };
}
  where
    r : ℕ → Router
    r y = router (s.forwarder y).state (b.fresh y).announced.0

    f : ℕ → Forwarder Router
    f y = record {
      state = r y;
      ways = (s.forwarder y).ways;
      gates = (s.forwarder y).gates;
      confirmed = (s.forwarder y).confirmed;
      since = r y ∷ [];
    }

    state : (y : ℕ) → IsState y (s.forwarder y).state (r y)
    state y = fresh_state y (s.forwarder y).state (b.fresh y) (b.me y)

step : (s t : Plane Node) → AreBacked s → IsDaemonStep s t → AreBacked t
step s t b next = record {
  forwarder = λ y. (move y).to;
  backed = backed_step (record { forwarder = b.forwarder; pool = s.pool })
      (record { forwarder = λ y. (move y).to; pool = t.pool }) b.backed (record {
        moves = λ y. (move y).move;
        kept = next.kept;
        new = λ m at. ⊎_elim (λ old. inl old) (λ e. inr (
          (b.are m.from).confirmed ∙ e.0,
          said_by m.from (s.forwarder m.from).state (b.forwarder m.from).state m (b.are m.from).node e.1,
        )) (next.new m at);
      });
  are = λ y. (move y).is;
}
  where
    move : (y : ℕ) → Moved s.pool y (b.forwarder y) (t.forwarder y)
    move y = moved s.pool y (s.forwarder y) (t.forwarder y) (b.forwarder y) (b.are y) (next.does y)

run : (s : Plane Node) (ts : List (Plane Node)) → AreBacked s → IsPlaneRun IsDaemonStep s ts
    → AreBacked (last_plane s ts)
run s [] b steps = b
run s (t ∷ ts) b steps = run t ts (step s t b steps.0) steps.1

pub daemons_have_no_loop : DaemonsHaveNoLoop
daemons_have_no_loop s ts begins steps =
    let b = run s ts (start s begins) steps in
    let none = loop_free (record { forwarder = b.forwarder; pool = (last_plane s ts).pool }) b.backed in
    subst (λ ways. HaveNoLoop ways (λ y. ((last_plane s ts).forwarder y).gates)) (fun_ext (λ y. (b.are y).ways))
    (subst (HaveNoLoop (λ y. (b.forwarder y).ways)) (fun_ext (λ y. (b.are y).gates)) none)
