-- Two routers say their heights to each other and write their tables, until the tables let packets through.
use Rattle.std.proofs.Common.{Bool, List, [], ap, arith, false, inl, inr, refl, subst, suc, sym, true, zero, ℕ, ⊎_elim}
use Rattle.std.proofs.Common.{◌∷◌, ◌∙◌, ◌<◌, ◌==◌, ◌≡◌}
use Rattle.std.proofs.lemmas.Bool.{eqb-true}
use Rattle.fr_node.specs.declared.message.Message.{Message}
use Rattle.fr_node.specs.Routers.{IsOpen, IsSaidBy, IsWay, Router}
use Rattle.fr_node.specs.Tables.{Forwarder, HasGatesOf, HasWaysOf, IsPlaneStart, IsPlaneStep, Moves, Plane}
use Rattle.fr_node.specs.Tables.{SomeTablesLetThrough}
use Rattle.fr_node.proofs.Members.{Contains-cases, Contains-head, Contains-tail}
use Rattle.fr_node.proofs.Running.{meets, met, new_router, taken, takes}

-- what router x, in this state, says to w. Distances and stamps do not matter here
abbrev said : Router → ℕ → ℕ → Message
said r x w = record {
  from = x;
  to = w;
  boot = r.boot;
  echo = r.peer w;
  number = r.number;
  height = r.announced r.number;
  heard = r.heard w;
  distance = 0;
  stamp = 1;
}

-- the states of router 0 and of router 1, and what they say
abbrev a0 : Router
a0 = new_router 1 1

abbrev b0 : Router
b0 = new_router 1 2

abbrev hello_a : Message
hello_a = said a0 0 1

abbrev hello_b : Message
hello_b = said b0 1 0

abbrev a1 : Router
a1 = met hello_b a0

abbrev b1 : Router
b1 = met hello_a b0

abbrev lower : Message
lower = said a1 0 1

abbrev b2 : Router
b2 = taken lower b1

abbrev answer : Message
answer = said b2 1 0

abbrev a2 : Router
a2 = taken answer a1

abbrev pool1 : List Message
pool1 = hello_b ∷ hello_a ∷ []

abbrev pool2 : List Message
pool2 = lower ∷ pool1

abbrev pool3 : List Message
pool3 = answer ∷ pool2

-- no neighbours, and neighbour n alone
abbrev none : ℕ → Bool
none w = false

abbrev one : ℕ → ℕ → Bool
one n w = w == n

-- a router whose table is confirmed, and one that has changed since
abbrev written : Router → (ways gates : ℕ → Bool) → Forwarder Router
written r ways gates = record { state = r; ways = ways; gates = gates; confirmed = true; since = r ∷ [] }

abbrev changed : Router → Forwarder Router → Forwarder Router
changed r f = record f { state = r; confirmed = false; since = r ∷ f.since }

abbrev two : (a b : Forwarder Router) → ℕ → Forwarder Router
two a b zero = a
two a b (suc zero) = b
two a b (suc (suc y)) = written (new_router 1 0) none none

abbrev plane : (a b : Forwarder Router) → List Message → Plane Router
plane a b pool = record { forwarder = two a b; pool = pool }

rests : (pool : List Message) (y : ℕ) (f : Forwarder Router) → Moves pool y f f
rests pool y f = inr (inl (record { ways = λ w t. t; gates = λ w t. t; rest = refl }))

-- the two move
moves : (pool : List Message) (a b c d : Forwarder Router) → Moves pool 0 a c → Moves pool 1 b d
    → IsPlaneStep (plane a b pool) (plane c d pool)
moves pool a b c d first second = record { moves = each; kept = λ m at. at; new = λ m at. inl at }
  where
    each : (y : ℕ) → Moves pool y (two a b y) (two c d y)
    each zero = first
    each (suc zero) = second
    each (suc (suc y)) = rests pool (suc (suc y)) (written (new_router 1 0) none none)

-- a message is said
says : (s : Plane Router) (m : Message) → (s.forwarder m.from).confirmed ≡ true → IsSaidBy (s.forwarder m.from).state m
    → IsPlaneStep s (record s { pool = m ∷ s.pool })
says s m confirmed honest = record {
  moves = λ y. rests s.pool y (s.forwarder y);
  kept = λ k at. Contains-tail k m s.pool at;
  new = λ k at. ⊎_elim (λ e. inr (subst (λ (j : Message). ((s.forwarder j.from).confirmed ≡ true)
      × IsSaidBy (s.forwarder j.from).state j) e (confirmed, honest))) (λ old. inl old)
      (Contains-cases k m s.pool at);
}

abbrev fa0 : Forwarder Router
fa0 = written a0 none none

abbrev fb0 : Forwarder Router
fb0 = written b0 none none

abbrev fa1 : Forwarder Router
fa1 = written a1 none none

abbrev fb1 : Forwarder Router
fb1 = written b1 none none

abbrev fb2 : Forwarder Router
fb2 = written b2 (one 0) none

abbrev begins : Plane Router
begins = plane fa0 fb0 []

step1 : IsPlaneStep begins (plane fa0 fb0 (hello_a ∷ []))
step1 = says begins hello_a refl
    (record { boot = refl; echo = omega arith; number = omega arith; height = refl; heard = refl })

step2 : IsPlaneStep (plane fa0 fb0 (hello_a ∷ [])) (plane fa0 fb0 pool1)
step2 = says (plane fa0 fb0 (hello_a ∷ [])) hello_b refl
    (record { boot = refl; echo = omega arith; number = omega arith; height = refl; heard = refl })

step3 : IsPlaneStep (plane fa0 fb0 pool1) (plane (changed a1 fa0) (changed b1 fb0) pool1)
step3 = moves pool1 fa0 fb0 (changed a1 fa0) (changed b1 fb0)
    (inl (record {
      router = inl (meets pool1 0 a0 hello_b (Contains-head hello_b (hello_a ∷ [])) refl (omega arith));
      table = refl;
    }))
    (inl (record {
      router = inl (meets pool1 1 b0 hello_a
          (Contains-tail hello_a hello_b (hello_a ∷ []) (Contains-head hello_a [])) refl (omega arith));
      table = refl;
    }))

empty : (table : ℕ → Bool) → table ≡ none → (w : ℕ) → ¬ (table w ≡ true)
empty table e w t = false_true (ap (λ (f : ℕ → Bool). f w) (sym e) ∙ t)
  where
    false_true : false ≡ true → ⊥
    false_true e = cc

no_ways : (y : ℕ) (f : Forwarder Router) (r : Router) → f.ways ≡ none → HasWaysOf (λ q. IsWay q y) f r
no_ways y f r e w t = absurd (empty f.ways e w t)

no_gates : (f : Forwarder Router) (r : Router) → f.gates ≡ none → HasGatesOf IsOpen f r
no_gates f r e w t = absurd (empty f.gates e w t)

step4 : IsPlaneStep (plane (changed a1 fa0) (changed b1 fb0) pool1) (plane fa1 fb1 pool1)
step4 = moves pool1 (changed a1 fa0) (changed b1 fb0) fa1 fb1
    (inr (inr (inr (inr (record {
      ways = no_ways 0 (changed a1 fa0) a1 refl;
      gates = no_gates (changed a1 fa0) a1 refl;
      rest = refl;
    })))))
    (inr (inr (inr (inr (record {
      ways = no_ways 1 (changed b1 fb0) b1 refl;
      gates = no_gates (changed b1 fb0) b1 refl;
      rest = refl;
    })))))

step5 : IsPlaneStep (plane fa1 fb1 pool1) (plane fa1 fb1 pool2)
step5 = says (plane fa1 fb1 pool1) lower refl
    (record { boot = refl; echo = omega arith; number = omega arith; height = refl; heard = refl })

step6 : IsPlaneStep (plane fa1 fb1 pool2) (plane fa1 (changed b2 fb1) pool2)
step6 = moves pool2 fa1 fb1 fa1 (changed b2 fb1) (rests pool2 0 fa1) (inl (record {
  router = inl (takes pool2 1 b1 lower (Contains-head lower pool1) refl refl (omega arith) (λ _. omega arith));
  table = refl;
}))

abbrev fb3 : Forwarder Router
fb3 = record (changed b2 fb1) { ways = one 0 }

way : (w : ℕ) → one 0 w ≡ true → IsWay b2 1 w
way w t = subst (λ v. IsWay b2 1 v) (sym (eqb-true w 0 t))
    (record { forwards = λ g. cc; known = omega arith; below = inl (omega arith) })

step7 : IsPlaneStep (plane fa1 (changed b2 fb1) pool2) (plane fa1 fb3 pool2)
step7 = moves pool2 fa1 (changed b2 fb1) fa1 fb3 (rests pool2 0 fa1) (inr (inr (inl (record {
  target = b2;
  read = Contains-head b2 (b1 ∷ []);
  closed = no_gates (changed b2 fb1) b2 refl;
  ways = λ w t. inr (way w t);
  rest = refl;
}))))

step8 : IsPlaneStep (plane fa1 fb3 pool2) (plane fa1 fb2 pool2)
step8 = moves pool2 fa1 fb3 fa1 fb2 (rests pool2 0 fa1)
    (inr (inr (inr (inr (record { ways = way; gates = no_gates fb3 b2 refl; rest = refl })))))

step9 : IsPlaneStep (plane fa1 fb2 pool2) (plane fa1 fb2 pool3)
step9 = says (plane fa1 fb2 pool2) answer refl
    (record { boot = refl; echo = omega arith; number = omega arith; height = refl; heard = refl })

step10 : IsPlaneStep (plane fa1 fb2 pool3) (plane (changed a2 fa1) fb2 pool3)
step10 = moves pool3 fa1 fb2 (changed a2 fa1) fb2 (inl (record {
  router = inl (takes pool3 0 a1 answer (Contains-head answer pool2) refl refl (omega arith) (λ _. omega arith));
  table = refl;
})) (rests pool3 1 fb2)

abbrev fa2 : Forwarder Router
fa2 = record (changed a2 fa1) { gates = one 1 }

gate : (w : ℕ) → one 1 w ≡ true → IsOpen a2 w
gate w t = subst (λ v. IsOpen a2 v) (sym (eqb-true w 1 t))
    (inr (record { acked = omega arith; high = λ n l h. omega arith }))

step11 : IsPlaneStep (plane (changed a2 fa1) fb2 pool3) (plane fa2 fb2 pool3)
step11 = moves pool3 (changed a2 fa1) fb2 fa2 fb2 (inr (inr (inr (inl (record {
  target = a2;
  read = Contains-head a2 (a1 ∷ []);
  changed = no_ways 0 (changed a2 fa1) a2 refl;
  gates = λ w t. inr (gate w t);
  rest = refl;
}))))) (rests pool3 1 fb2)

-- what holds of the three kinds of forwarders that start holds of all
of_each : (P : Forwarder Router → Type 0) → ((height : ℕ) → P (written (new_router 1 height) none none)) → (y : ℕ)
    → P (two fa0 fb0 y)
of_each P new zero = new 1
of_each P new (suc zero) = new 2
of_each P new (suc (suc y)) = new 0

starts : IsPlaneStart begins
starts = record {
  silent = record {
    pool = refl;
    ways = λ y w. of_each (λ f. f.ways w ≡ false) (λ _. refl) y;
    gates = λ y w. of_each (λ f. f.gates w ≡ false) (λ _. refl) y;
    since = λ y. of_each (λ f. f.since ≡ f.state ∷ []) (λ _. refl) y;
  };
  peer = λ y w. of_each (λ f. f.state.peer w ≡ 0) (λ _. refl) y;
  heard = λ y w. of_each (λ f. f.state.heard w ≡ 0) (λ _. refl) y;
  acked = λ y w. of_each (λ f. f.state.acked w ≡ 0) (λ _. refl) y;
}

pub some_tables_let_through : SomeTablesLetThrough
some_tables_let_through = (
  begins,
  plane fa0 fb0 (hello_a ∷ []) ∷ plane fa0 fb0 pool1 ∷ plane (changed a1 fa0) (changed b1 fb0) pool1
      ∷ plane fa1 fb1 pool1 ∷ plane fa1 fb1 pool2 ∷ plane fa1 (changed b2 fb1) pool2 ∷ plane fa1 fb3 pool2
      ∷ plane fa1 fb2 pool2 ∷ plane fa1 fb2 pool3 ∷ plane (changed a2 fa1) fb2 pool3 ∷ plane fa2 fb2 pool3 ∷ [],
  starts,
  (step1, (step2, (step3, (step4, (step5, (step6, (step7, (step8, (step9, (step10, (step11, tt))))))))))),
  λ y. of_each (λ f. 0 < f.state.boot) (λ _. omega arith) y,
  refl,
  refl,
  refl,
)
