-- One forwarder. It has said nothing since its table was last confirmed, so for others it still is as it was then: this
-- is its base. What it has written since comes from states to which the base goes on without a word.
use Rattle.std.proofs.Common.{Bool, Contains, IsTrue, List, [], ap, arith, false, inl, inr, refl, subst, suc, sym, true}
use Rattle.std.proofs.Common.{zero, ℕ, ⊎_elim, ◌∷◌, ◌≡◌, ◌≤◌, ◌⊎◌, ◌∙◌}
use Rattle.fr_node.specs.declared.message.Message.{Message}
use Rattle.fr_node.specs.Routers.{GoesOn, IsOpen, IsWay, LetsIn, Restarts, Router}
use Rattle.fr_node.specs.Tables.{Changes, Confirms, Forwarder, HasGatesOf, HasWaysOf, Moves}
use Rattle.fr_node.proofs.Going.{goes_nowhere, goes_on_more, goes_on_twice}

-- router y has gone on from its base without a word, perhaps after it restarted
abbrev pub Follows : List Message → ℕ → Router → Router → Type 0
Follows pool y base r = GoesOn pool y base r ⊎ ((fresh : Router) × Restarts base fresh × GoesOn pool y fresh r)

-- w is a way of a state that is no higher than `top`
pub record HasWay (pool : List Message) (y : ℕ) (base : Router) (top w : ℕ) : Type 0 where
  pub state : Router
  pub goes : GoesOn pool y base state
  pub way : IsWay state y w
  pub low : state.height ≤ top

-- w is let in by a state that is at least as high as `top`
pub record HasGate (pool : List Message) (y : ℕ) (base : Router) (top w : ℕ) : Type 0 where
  pub state : Router
  pub goes : GoesOn pool y base state
  pub gate : LetsIn state w
  pub high : top ≤ state.height

-- a number is between the heights of the ways and those of the gates of the table
pub record IsBetween (pool : List Message) (y : ℕ) (base : Router) (f : Forwarder Router) : Type 0 where
  pub top : ℕ
  pub ways : (w : ℕ) → f.ways w ≡ true → HasWay pool y base top w
  pub gates : (w : ℕ) → f.gates w ≡ true → HasGate pool y base top w

abbrev pub HasNoWays : Forwarder Router → Type 0
HasNoWays f = (w : ℕ) → ¬ (f.ways w ≡ true)

abbrev pub HasNoGates : Forwarder Router → Type 0
HasNoGates f = (w : ℕ) → ¬ (f.gates w ≡ true)

abbrev pub IsSafe : List Message → ℕ → Router → Forwarder Router → Type 0
IsSafe pool y base f = HasNoWays f ⊎ HasNoGates f ⊎ IsBetween pool y base f

pub record Holds (pool : List Message) (y : ℕ) (base : Router) (f : Forwarder Router) : Type 0 where
  pub said : f.confirmed ≡ true → f.state ≡ base
  pub now : Follows pool y base f.state
  pub since : (r : Router) → Contains f.since r → Follows pool y base r
  pub table : IsSafe pool y base f

true_false : true ≡ false → ⊥
true_false e = cc

is_gateway : (r : Router) → IsTrue r.gateway ⊎ (r.gateway ≡ false)
is_gateway r = either r.gateway
  where
    either : (b : Bool) → IsTrue b ⊎ (b ≡ false)
    either true = inl refl
    either false = inr refl

le_or_le : (a b : ℕ) → (a ≤ b) ⊎ (b ≤ a)
le_or_le a b = grind arith

-- a router that is no gateway lets in whom it has heard
let_in : (r : Router) (w : ℕ) → r.gateway ≡ false → IsOpen r w → LetsIn r w
let_in r w not (inl g) = absurd (true_false (sym g ∙ not))
let_in r w not (inr l) = l

-- after a restart nobody is let in before the router has said something
let_in_none : (pool : List Message) (y : ℕ) (base fresh r : Router)
    → ((m : Message) → Contains pool m → m.to ≡ y → m.echo ≤ base.boot) → Restarts base fresh → GoesOn pool y fresh r
    → (w : ℕ) → ¬ LetsIn r w
let_in_none pool y base fresh r echoes restarts g w l = ⊎_elim
    (λ e. omega (arith, e.1, restarts.acked w, l.acked))
    (⊎_elim (λ e. omega (arith, e, l.acked))
    (λ e. omega (arith, e.2, restarts.boot, echoes e.0 e.1.said e.1.to)))
    (g.answer w)

-- the table of f, which is safe, is written
module _ (pool : List Message) (y : ℕ) (base : Router) (f g : Forwarder Router)
    (echoes : (m : Message) → Contains pool m → m.to ≡ y → m.echo ≤ base.boot) (safe : IsSafe pool y base f) where
  -- with fewer ways and gates
  safe_less : ((w : ℕ) → g.ways w ≡ true → f.ways w ≡ true) → ((w : ℕ) → g.gates w ≡ true → f.gates w ≡ true)
      → IsSafe pool y base g
  safe_less ways gates = ⊎_elim (λ none. inl (λ w t. none w (ways w t)))
      (⊎_elim (λ none. inr (inl (λ w t. none w (gates w t))))
      (λ between. inr (inr (record {
        top = between.top;
        ways = λ w t. between.ways w (ways w t);
        gates = λ w t. between.gates w (gates w t);
      }))))
      safe

  module _ (target : Router) (follows : Follows pool y base target) where
    -- with ways of the target, whose gates all open gates are
    safe_ways : HasGatesOf IsOpen f target → ((w : ℕ) → g.ways w ≡ true → (f.ways w ≡ true) ⊎ IsWay target y w)
        → ((w : ℕ) → g.gates w ≡ true → f.gates w ≡ true) → IsSafe pool y base g
    safe_ways closed ways gates = ⊎_elim
        (λ gateway. safe_less (λ w t. ⊎_elim (λ e. e) (λ way. absurd (way.forwards gateway)) (ways w t)) gates)
        (λ not. ⊎_elim (goes not) (λ after. inr (inl (λ w t. let_in_none pool y base after.0 target echoes after.1
        after.2 w (lets not w t)))) follows)
        (is_gateway target)
      where
        lets : target.gateway ≡ false → (w : ℕ) → g.gates w ≡ true → LetsIn target w
        lets not w t = let_in target w not (closed w (gates w t))

        goes : target.gateway ≡ false → GoesOn pool y base target → IsSafe pool y base g
        goes not on = ⊎_elim
            (λ none. inr (inr (record {
              top = target.height;
              ways = λ w t. ⊎_elim (λ e. absurd (none w e)) (way target.height (omega arith) w) (ways w t);
              gates = λ w t. gate target.height (omega arith) w t;
            })))
            (⊎_elim (λ none. inr (inl (λ w t. none w (gates w t))))
            (λ between. inr (inr (⊎_elim
            (λ l. record {
              top = target.height;
              ways = λ w t. ⊎_elim (λ e. let old = between.ways w e in record {
                state = old.state;
                goes = old.goes;
                way = old.way;
                low = omega (arith, old.low, l);
              }) (way target.height (omega arith) w) (ways w t);
              gates = λ w t. gate target.height (omega arith) w t;
            })
            (λ l. record {
              top = between.top;
              ways = λ w t. ⊎_elim (λ e. between.ways w e) (way between.top l w) (ways w t);
              gates = λ w t. between.gates w (gates w t);
            })
            (le_or_le between.top target.height)))))
            safe
          where
            way : (top : ℕ) → target.height ≤ top → (w : ℕ) → IsWay target y w → HasWay pool y base top w
            way top l w is = record { state = target; goes = on; way = is; low = l }

            gate : (top : ℕ) → top ≤ target.height → (w : ℕ) → g.gates w ≡ true → HasGate pool y base top w
            gate top l w t = record { state = target; goes = on; gate = lets not w t; high = l }

    -- with gates of the target, whose ways all ways are
    safe_gates : HasWaysOf (λ q. IsWay q y) f target
        → ((w : ℕ) → g.gates w ≡ true → (f.gates w ≡ true) ⊎ IsOpen target w)
        → ((w : ℕ) → g.ways w ≡ true → f.ways w ≡ true) → IsSafe pool y base g
    safe_gates changed gates ways = ⊎_elim
        (λ gateway. inl (λ w t. (changed w (ways w t)).forwards gateway))
        (λ not. ⊎_elim (goes not) (λ after. safe_less ways (λ w t. ⊎_elim (λ e. e)
        (λ lets. absurd (let_in_none pool y base after.0 target echoes after.1 after.2 w (let_in target w not lets)))
        (gates w t))) follows)
        (is_gateway target)
      where
        goes : target.gateway ≡ false → GoesOn pool y base target → IsSafe pool y base g
        goes not on = ⊎_elim
            (λ none. inl (λ w t. none w (ways w t)))
            (⊎_elim (λ none. inr (inr (record {
              top = target.height;
              ways = λ w t. way target.height (omega arith) w t;
              gates = λ w t. ⊎_elim (λ e. absurd (none w e)) (gate target.height (omega arith) w) (gates w t);
            })))
            (λ between. inr (inr (⊎_elim
            (λ l. record {
              top = between.top;
              ways = λ w t. between.ways w (ways w t);
              gates = λ w t. ⊎_elim (λ e. between.gates w e) (gate between.top l w) (gates w t);
            })
            (λ l. record {
              top = target.height;
              ways = λ w t. way target.height (omega arith) w t;
              gates = λ w t. ⊎_elim (λ e. let old = between.gates w e in record {
                state = old.state;
                goes = old.goes;
                gate = old.gate;
                high = omega (arith, old.high, l);
              }) (gate target.height (omega arith) w) (gates w t);
            })
            (le_or_le between.top target.height)))))
            safe
          where
            way : (top : ℕ) → target.height ≤ top → (w : ℕ) → g.ways w ≡ true → HasWay pool y base top w
            way top l w t = record { state = target; goes = on; way = changed w (ways w t); low = l }

            gate : (top : ℕ) → top ≤ target.height → (w : ℕ) → IsOpen target w → HasGate pool y base top w
            gate top l w is = record { state = target; goes = on; gate = let_in target w not is; high = l }

pub only : {X : Type 0} (q r : X) → Contains (q ∷ []) r → q ≡ r
only q r (zero, l, e) = e
only q r (suc k, l, e) = absurd (omega (arith, l))

-- a table that agrees with a state is safe with this state as the base
safe_at : (pool : List Message) (y : ℕ) (f : Forwarder Router) (r : Router) → HasWaysOf (λ q. IsWay q y) f r
    → HasGatesOf IsOpen f r → IsSafe pool y r f
safe_at pool y f r ways gates = ⊎_elim
    (λ gateway. inl (λ w t. (ways w t).forwards gateway))
    (λ not. inr (inr (record {
      top = r.height;
      ways = λ w t. record { state = r; goes = goes_nowhere pool y r; way = ways w t; low = omega arith };
      gates = λ w t. record {
        state = r;
        goes = goes_nowhere pool y r;
        gate = let_in r w not (gates w t);
        high = omega arith;
      };
    })))
    (is_gateway r)

-- a forwarder has moved, while the pool has become more
pub record Advances (pool more : List Message) (y : ℕ) (base : Router) (g : Forwarder Router) : Type 0 where
  pub mid : Router
  pub next : Router
  pub first : GoesOn pool y base mid ⊎ Restarts base mid
  pub second : GoesOn more y mid next
  pub holds : Holds more y next g

module _ (pool more : List Message) (grows : (m : Message) → Contains pool m → Contains more m) (y : ℕ)
    (base : Router) where
  follows_more : (r : Router) → Follows pool y base r → Follows more y base r
  follows_more r (inl g) = inl (goes_on_more pool more grows y base r g)
  follows_more r (inr (fresh, restarts, g)) = inr (fresh, restarts, goes_on_more pool more grows y fresh r g)

  safe_more : (f : Forwarder Router) → IsSafe pool y base f → IsSafe more y base f
  safe_more f (inl none) = inl none
  safe_more f (inr (inl none)) = inr (inl none)
  safe_more f (inr (inr between)) = inr (inr (record {
    top = between.top;
    ways = λ w t. let old = between.ways w t in record {
      state = old.state;
      goes = goes_on_more pool more grows y base old.state old.goes;
      way = old.way;
      low = old.low;
    };
    gates = λ w t. let old = between.gates w t in record {
      state = old.state;
      goes = goes_on_more pool more grows y base old.state old.goes;
      gate = old.gate;
      high = old.high;
    };
  }))

  -- the base stays
  stays : (g : Forwarder Router) → Holds pool y base g → Advances pool more y base g
  stays g h = record {
    mid = base;
    next = base;
    first = inl (goes_nowhere pool y base);
    second = goes_nowhere more y base;
    holds = record {
      said = h.said;
      now = follows_more g.state h.now;
      since = λ r at. follows_more r (h.since r at);
      table = safe_more g h.table;
    };
  }

  -- the base becomes the present state
  settles : (f g : Forwarder Router) → Holds pool y base f → Confirms (λ q. IsWay q y) IsOpen f g
      → Advances pool more y base g
  settles f g h c = ⊎_elim
      (λ on. record {
        mid = base;
        next = f.state;
        first = inl (goes_nowhere pool y base);
        second = goes_on_more pool more grows y base f.state on;
        holds = holds;
      })
      (λ after. record {
        mid = after.0;
        next = f.state;
        first = inr after.1;
        second = goes_on_more pool more grows y after.0 f.state after.2;
        holds = holds;
      })
      h.now
    where
      holds : Holds more y f.state g
      holds = subst (λ (k : Forwarder Router). Holds more y f.state k) (sym c.rest) (record {
        said = λ t. refl;
        now = inl (goes_nowhere more y f.state);
        since = λ r at. inl (subst (λ (q : Router). GoesOn more y f.state q) (only f.state r at)
            (goes_nowhere more y f.state));
        table = safe_at more y (record f { confirmed = true; since = f.state ∷ [] }) f.state c.ways c.gates;
      })

  module _ (f g : Forwarder Router) (h : Holds pool y base f)
      (echoes : (m : Message) → Contains pool m → m.to ≡ y → m.echo ≤ base.boot) where
    -- the table is written, and the new one is safe
    writes : (ways gates : ℕ → Bool) → g ≡ record f { ways = ways; gates = gates }
        → IsSafe pool y base (record f { ways = ways; gates = gates }) → Advances pool more y base g
    writes ways gates rest safe = subst (λ k. Advances pool more y base k) (sym rest)
        (stays (record f { ways = ways; gates = gates })
        (record { said = h.said; now = h.now; since = h.since; table = safe }))

    changes : Changes pool y f g → Advances pool more y base g
    changes c = stays g (record {
      said = λ t. absurd (true_false (sym t ∙ ap (λ (k : Forwarder Router). k.confirmed) c.table));
      now = now;
      since = λ r at. later r (subst (λ rs. Contains rs r) (ap (λ (k : Forwarder Router). k.since) c.table) at);
      table = safe_less pool y base f g echoes h.table
          (λ w t. sym (ap (λ (k : Forwarder Router). k.ways w) c.table) ∙ t)
          (λ w t. sym (ap (λ (k : Forwarder Router). k.gates w) c.table) ∙ t);
    })
      where
        restarted : Restarts f.state g.state → Follows pool y base f.state → Restarts base g.state
        restarted r before = record {
          boot = omega (arith, r.boot, least before);
          peer = r.peer;
          heard = r.heard;
          acked = r.acked;
        }
          where
            least : Follows pool y base f.state → base.boot ≤ f.state.boot
            least (inl on) = omega (arith, on.boot)
            least (inr (fresh, after, on)) = omega (arith, on.boot, after.boot)

        gone : GoesOn pool y f.state g.state → Follows pool y base f.state → Follows pool y base g.state
        gone on (inl before) = inl (goes_on_twice pool y base f.state g.state before on)
        gone on (inr (fresh, after, before)) = inr
            (fresh, after, goes_on_twice pool y fresh f.state g.state before on)

        now : Follows pool y base g.state
        now = ⊎_elim (λ on. gone on h.now)
            (λ r. inr (g.state, restarted r h.now, goes_nowhere pool y g.state)) c.router

        later : (r : Router) → Contains (g.state ∷ f.since) r → Follows pool y base r
        later r (zero, l, e) = subst (λ q. Follows pool y base q) e now
        later r (suc k, l, e) = h.since r (k, omega (arith, l), e)

    pub advances : Moves pool y f g → Advances pool more y base g
    advances (inl c) = changes c
    advances (inr (inl r)) = writes g.ways g.gates r.rest
        (safe_less pool y base f (record f { ways = g.ways; gates = g.gates }) echoes h.table r.ways r.gates)
    advances (inr (inr (inl c))) = writes g.ways f.gates c.rest
        (safe_ways pool y base f (record f { ways = g.ways }) echoes h.table c.target (h.since c.target c.read) c.closed
        c.ways (λ w t. t))
    advances (inr (inr (inr (inl o)))) = writes f.ways g.gates o.rest
        (safe_gates pool y base f (record f { gates = g.gates }) echoes h.table o.target (h.since o.target o.read)
        o.changed o.gates (λ w t. t))
    advances (inr (inr (inr (inr c)))) = settles f g h c
