-- Runs of three routers, for examples: what a router takes from a message, and one step.
use Rattle.std.proofs.Common.{Contains, List, [], arith, cond, eq-eqb, false, inl, inr, ne_eqb, refl, subst, suc, sym}
use Rattle.std.proofs.Common.{zero, ℕ, ⊎_elim, ◌∷◌, ◌+◌, ◌<◌, ◌==◌, ◌≡◌, ◌≢◌, ◌≤◌, ◌⊎◌}
use Rattle.std.proofs.lemmas.Bool.{cases_eq}
use Rattle.fr_node.specs.declared.message.Message.{Message}
use Rattle.fr_node.specs.Routers.{GoesOn, IsFrom, IsSaidBy, IsStart, IsStep, Net, Restarts, Router, TakesAnswer}
use Rattle.fr_node.specs.Routers.{TakesHeight, TakesStart}
use Rattle.fr_node.proofs.Members.{Contains-cases, Contains-tail}

-- f, but v at w
abbrev but : (ℕ → ℕ) → ℕ → ℕ → ℕ → ℕ
but f w v u = cond (u == w) v (f u)

but-here : (f : ℕ → ℕ) (w v : ℕ) → but f w v w ≡ v
but-here f w v = rw (eq-eqb w w refl) refl

but-other : (f : ℕ → ℕ) (w v u : ℕ) → u ≢ w → but f w v u ≡ f u
but-other f w v u other = rw (ne_eqb u w other) refl

-- a router that starts, with its first announcement, and knows nothing of others
abbrev pub new_router : (start height : ℕ) → Router
new_router start height = record {
  boot = start;
  gateway = false;
  height = height;
  number = 1;
  announced = λ _. height;
  peer = λ _. 0;
  heard = λ _. 0;
  seen = λ _. 0;
  acked = λ _. 0;
}

-- the router after it has met a greater start of the message's sender. The message is not for its own present start
abbrev pub met : Message → Router → Router
met m r = record r {
  peer = but r.peer m.from m.boot;
  heard = but r.heard m.from 0;
  acked = but r.acked m.from 0;
}

-- the router after it has taken all that the message says
abbrev pub taken : Message → Router → Router
taken m r = record r {
  peer = but r.peer m.from m.boot;
  heard = but r.heard m.from m.number;
  seen = but r.seen m.from m.height;
  acked = but r.acked m.from m.heard;
}

-- the router after it has announced a height, which it uses
abbrev pub announcing : ℕ → Router → Router
announcing v r = record r {
  height = v;
  number = r.number + 1;
  announced = but r.announced (r.number + 1) v;
}

-- what router x, in this state, says to w. Distances and stamps do not matter here
abbrev pub said : Router → ℕ → ℕ → Message
said r x w = record {
  from = x;
  to = w;
  boot = r.boot;
  echo = r.peer w;
  number = r.number;
  height = r.announced r.number;
  heard = r.heard w;
  distance = 0;
  stamp = 1;
}

pub idle : (pool : List Message) (y : ℕ) (r : Router) → GoesOn pool y r r
idle pool y r = record {
  boot = refl;
  number = omega arith;
  announced = λ _ _. refl;
  start = λ w. (omega arith, inl refl);
  height = λ w. inl (refl, refl, refl);
  answer = λ w. inl (refl, refl);
}

module _ (pool : List Message) (y : ℕ) (r : Router) (m : Message) (listed : Contains pool m) (to : m.to ≡ y) where
  from : IsFrom pool y m.from m
  from = record { said = listed; from = refl; to = to }

  -- what holds at the sender and at all others holds at each router
  at_each : (P : ℕ → Type 0) → P m.from → ((w : ℕ) → w ≢ m.from → P w) → (w : ℕ) → P w
  at_each P here other w = ⊎_elim (λ e. subst P (sym e) here) (other w) (cases_eq w m.from)

  pub meets : r.peer m.from < m.boot → GoesOn pool y r (met m r)
  meets later = record {
    boot = refl;
    number = omega arith;
    announced = λ _ _. refl;
    start = at_each (TakesStart pool y r (met m r))
        (omega (arith, later, but-here r.peer m.from m.boot), inr (m, from, but-here r.peer m.from m.boot))
        (λ w other. let same = but-other r.peer m.from m.boot w other in (omega (arith, same), inl same));
    height = at_each (TakesHeight pool y r (met m r))
        (inr (inl (omega (arith, later, but-here r.peer m.from m.boot), but-here r.heard m.from 0)))
        (λ w other. inl (but-other r.peer m.from m.boot w other, but-other r.heard m.from 0 w other, refl));
    answer = at_each (TakesAnswer pool y r (met m r))
        (inr (inl (but-here r.acked m.from 0)))
        (λ w other. inl (but-other r.peer m.from m.boot w other, but-other r.acked m.from 0 w other));
  }

  pub takes : m.echo ≡ r.boot → r.peer m.from ≤ m.boot → (r.peer m.from ≡ m.boot → r.heard m.from ≤ m.number)
      → GoesOn pool y r (taken m r)
  takes echo now later = record {
    boot = refl;
    number = omega arith;
    announced = λ _ _. refl;
    start = at_each (TakesStart pool y r (taken m r))
        (omega (arith, now, but-here r.peer m.from m.boot), inr (m, from, but-here r.peer m.from m.boot))
        (λ w other. let same = but-other r.peer m.from m.boot w other in (omega (arith, same), inl same));
    height = at_each (TakesHeight pool y r (taken m r))
        (inr (inr (
          m,
          from,
          echo,
          but-here r.peer m.from m.boot,
          but-here r.heard m.from m.number,
          but-here r.seen m.from m.height,
          λ same. later (omega (arith, same, but-here r.peer m.from m.boot)),
        )))
        (λ w other. inl (
          but-other r.peer m.from m.boot w other,
          but-other r.heard m.from m.number w other,
          but-other r.seen m.from m.height w other,
        ));
    answer = at_each (TakesAnswer pool y r (taken m r))
        (inr (inr (m, from, echo, but-here r.peer m.from m.boot, but-here r.acked m.from m.heard)))
        (λ w other. inl (but-other r.peer m.from m.boot w other, but-other r.acked m.from m.heard w other));
  }

-- whatever a router takes, it may announce a height then
pub then_announces : (pool : List Message) (y v : ℕ) (r t : Router) → GoesOn pool y r t
    → GoesOn pool y r (announcing v t)
then_announces pool y v r t goes = record {
  boot = goes.boot;
  number = omega (arith, goes.number);
  announced = λ n l. omega (
    arith,
    goes.announced n l,
    but-other t.announced (t.number + 1) v n (λ e. omega (arith, e, l, goes.number)),
  );
  start = goes.start;
  height = goes.height;
  answer = goes.answer;
}

pub restarts : (start height : ℕ) (r : Router) → r.boot < start → Restarts r (new_router start height)
restarts start height r less = record { boot = less; peer = λ _. refl; heard = λ _. refl; acked = λ _. refl }

-- routers 0, 1 and 2 in these states, and others that do nothing
abbrev routers : (a b c : Router) → ℕ → Router
routers a b c zero = a
routers a b c (suc zero) = b
routers a b c (suc (suc zero)) = c
routers a b c (suc (suc (suc y))) = new_router 1 0

abbrev pub net : (a b c : Router) → List Message → Net
net a b c pool = record { router = routers a b c; pool = pool }

-- router x says to w what it knows
pub says : (s : Net) (x w : ℕ) → IsStep s (record s { pool = said (s.router x) x w ∷ s.pool })
says s x w = record {
  routers = λ y. inl (idle s.pool y (s.router y));
  kept = λ m h. Contains-tail m (said (s.router x) x w) s.pool h;
  new = λ m h. ⊎_elim
      (λ e. inr (subst (λ (k : Message). IsSaidBy (s.router k.from) k) e honest))
      (λ old. inl old)
      (Contains-cases m (said (s.router x) x w) s.pool h);
}
  where
    honest : IsSaidBy (s.router x) (said (s.router x) x w)
    honest = record { boot = refl; echo = omega arith; number = omega arith; height = refl; heard = refl }

-- a router changes
module _ (pool : List Message) (a b c t : Router) where
  pub first_changes : GoesOn pool 0 a t ⊎ Restarts a t → IsStep (net a b c pool) (net t b c pool)
  first_changes h = record { routers = each; kept = λ _ there. there; new = λ _ there. inl there }
    where
      each : (y : ℕ) → GoesOn pool y (routers a b c y) (routers t b c y) ⊎ Restarts (routers a b c y) (routers t b c y)
      each zero = h
      each (suc zero) = inl (idle pool 1 b)
      each (suc (suc zero)) = inl (idle pool 2 c)
      each (suc (suc (suc y))) = inl (idle pool (suc (suc (suc y))) (new_router 1 0))

  pub second_changes : GoesOn pool 1 b t ⊎ Restarts b t → IsStep (net a b c pool) (net a t c pool)
  second_changes h = record { routers = each; kept = λ _ there. there; new = λ _ there. inl there }
    where
      each : (y : ℕ) → GoesOn pool y (routers a b c y) (routers a t c y) ⊎ Restarts (routers a b c y) (routers a t c y)
      each zero = inl (idle pool 0 a)
      each (suc zero) = h
      each (suc (suc zero)) = inl (idle pool 2 c)
      each (suc (suc (suc y))) = inl (idle pool (suc (suc (suc y))) (new_router 1 0))

  pub third_changes : GoesOn pool 2 c t ⊎ Restarts c t → IsStep (net a b c pool) (net a b t pool)
  third_changes h = record { routers = each; kept = λ _ there. there; new = λ _ there. inl there }
    where
      each : (y : ℕ) → GoesOn pool y (routers a b c y) (routers a b t y) ⊎ Restarts (routers a b c y) (routers a b t y)
      each zero = inl (idle pool 0 a)
      each (suc zero) = inl (idle pool 1 b)
      each (suc (suc zero)) = h
      each (suc (suc (suc y))) = inl (idle pool (suc (suc (suc y))) (new_router 1 0))

-- what holds of each new router holds of all
of_each : (P : Router → Type 0) → ((start height : ℕ) → P (new_router start height)) → (i j k : ℕ)
    → (y : ℕ) → P (routers (new_router 1 i) (new_router 1 j) (new_router 1 k) y)
of_each P new i j k zero = new 1 i
of_each P new i j k (suc zero) = new 1 j
of_each P new i j k (suc (suc zero)) = new 1 k
of_each P new i j k (suc (suc (suc y))) = new 1 0

pub starts : (i j k : ℕ) → IsStart (net (new_router 1 i) (new_router 1 j) (new_router 1 k) [])
starts i j k = record {
  silent = refl;
  peer = λ y w. of_each (λ r. r.peer w ≡ 0) (λ _ _. refl) i j k y;
  heard = λ y w. of_each (λ r. r.heard w ≡ 0) (λ _ _. refl) i j k y;
  acked = λ y w. of_each (λ r. r.acked w ≡ 0) (λ _ _. refl) i j k y;
}

pub starts_from_one : (i j k y : ℕ) → 0 < (routers (new_router 1 i) (new_router 1 j) (new_router 1 k) y).boot
starts_from_one i j k zero = omega arith
starts_from_one i j k (suc zero) = omega arith
starts_from_one i j k (suc (suc zero)) = omega arith
starts_from_one i j k (suc (suc (suc y))) = omega arith
