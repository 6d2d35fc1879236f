-- A router falls below a neighbour beside another one that is lower still, and rises when that one rises. Both happen
-- twice, so its heights come back.
use Rattle.std.proofs.Common.{Contains, List, [], arith, eqb, false, inl, inr, refl, subst, suc, zero, ℕ, ⊎_elim, ◌∷◌}
use Rattle.std.proofs.Common.{◌<◌, ◌≡◌}
use Rattle.std.specs.List.{IsDistinct}
use Rattle.fr_node.specs.declared.message.Message.{Message}
use Rattle.fr_node.specs.Heights.{FallsBeside, KeepsActing, RisesBeside, SomeHeightComesBack, knows_low}
use Rattle.fr_node.specs.Lowerings.{Falls, SomeRouterFalls}
use Rattle.fr_node.specs.Paths.{Stays, is_below}
use Rattle.fr_node.specs.Rests.{KeepsBelow, SomeRoutersAnnounce, unheard_beside}
use Rattle.fr_node.specs.Routers.{IsBelow, IsRun, IsStep, Net, Router}
use Rattle.fr_node.proofs.Heights.{is_below_only}
use Rattle.fr_node.proofs.Members.{Contains-cases, Contains-head, Contains-none, Contains-tail}
use Rattle.fr_node.proofs.Running.{announcing, first_changes, idle, meets, met, net, new_router, said, says}
use Rattle.fr_node.proofs.Running.{second_changes, starts, taken, takes, then_announces, third_changes}

-- router 0 as it starts, and what it says then
abbrev a0 : Router
a0 = new_router 1 9

abbrev hello : Message
hello = said a0 0 1

abbrev greeting : Message
greeting = said a0 0 2

-- router 1, which stays at height 5
abbrev b0 : Router
b0 = new_router 1 5

abbrev b1 : Router
b1 = met hello b0

abbrev high : Message
high = said b1 1 0

-- router 2, which rises, falls and rises
abbrev c0 : Router
c0 = new_router 1 3

abbrev c1 : Router
c1 = met greeting c0

abbrev first : Message
first = said c1 2 0

abbrev c2 : Router
c2 = announcing 5 c1

abbrev second : Message
second = said c2 2 0

abbrev c3 : Router
c3 = announcing 3 c2

abbrev third : Message
third = said c3 2 0

abbrev c4 : Router
c4 = announcing 5 c3

abbrev fourth : Message
fourth = said c4 2 0

-- router 0 hears of both neighbours, and then falls and rises with router 2
abbrev a1 : Router
a1 = taken high a0

abbrev a2 : Router
a2 = taken first a1

abbrev a3 : Router
a3 = announcing 4 a2

abbrev a4 : Router
a4 = announcing 6 (taken second a3)

abbrev a5 : Router
a5 = announcing 4 (taken third a4)

abbrev a6 : Router
a6 = announcing 6 (taken fourth a5)

abbrev pool1 : List Message
pool1 = hello ∷ []

step1 : IsStep (net a0 b0 c0 []) (net a0 b0 c0 pool1)
step1 = says (net a0 b0 c0 []) 0 1

abbrev pool2 : List Message
pool2 = greeting ∷ pool1

step2 : IsStep (net a0 b0 c0 pool1) (net a0 b0 c0 pool2)
step2 = says (net a0 b0 c0 pool1) 0 2

step3 : IsStep (net a0 b0 c0 pool2) (net a0 b1 c0 pool2)
step3 = second_changes pool2 a0 b0 c0 b1
    (inl (meets pool2 1 b0 hello (Contains-tail hello greeting pool1 (Contains-head hello [])) refl (omega arith)))

step4 : IsStep (net a0 b1 c0 pool2) (net a0 b1 c1 pool2)
step4 = third_changes pool2 a0 b1 c0 c1
    (inl (meets pool2 2 c0 greeting (Contains-head greeting pool1) refl (omega arith)))

abbrev pool3 : List Message
pool3 = high ∷ pool2

step5 : IsStep (net a0 b1 c1 pool2) (net a0 b1 c1 pool3)
step5 = says (net a0 b1 c1 pool2) 1 0

step6 : IsStep (net a0 b1 c1 pool3) (net a1 b1 c1 pool3)
step6 = first_changes pool3 a0 b1 c1 a1
    (inl (takes pool3 0 a0 high (Contains-head high pool2) refl refl (omega arith) (λ _. omega arith)))

abbrev pool4 : List Message
pool4 = first ∷ pool3

step7 : IsStep (net a1 b1 c1 pool3) (net a1 b1 c1 pool4)
step7 = says (net a1 b1 c1 pool3) 2 0

step8 : IsStep (net a1 b1 c1 pool4) (net a2 b1 c1 pool4)
step8 = first_changes pool4 a1 b1 c1 a2
    (inl (takes pool4 0 a1 first (Contains-head first pool3) refl refl (omega arith) (λ _. omega arith)))

step9 : IsStep (net a2 b1 c1 pool4) (net a2 b1 c2 pool4)
step9 = third_changes pool4 a2 b1 c1 c2
    (inl (then_announces pool4 2 5 c1 c1 (idle pool4 2 c1)))

abbrev pool5 : List Message
pool5 = second ∷ pool4

step10 : IsStep (net a2 b1 c2 pool4) (net a2 b1 c2 pool5)
step10 = says (net a2 b1 c2 pool4) 2 0

step11 : IsStep (net a2 b1 c2 pool5) (net a2 b1 c3 pool5)
step11 = third_changes pool5 a2 b1 c2 c3
    (inl (then_announces pool5 2 3 c2 c2 (idle pool5 2 c2)))

abbrev pool6 : List Message
pool6 = third ∷ pool5

step12 : IsStep (net a2 b1 c3 pool5) (net a2 b1 c3 pool6)
step12 = says (net a2 b1 c3 pool5) 2 0

step13 : IsStep (net a2 b1 c3 pool6) (net a2 b1 c4 pool6)
step13 = third_changes pool6 a2 b1 c3 c4
    (inl (then_announces pool6 2 5 c3 c3 (idle pool6 2 c3)))

abbrev pool7 : List Message
pool7 = fourth ∷ pool6

step14 : IsStep (net a2 b1 c4 pool6) (net a2 b1 c4 pool7)
step14 = says (net a2 b1 c4 pool6) 2 0

step15 : IsStep (net a2 b1 c4 pool7) (net a3 b1 c4 pool7)
step15 = first_changes pool7 a2 b1 c4 a3
    (inl (then_announces pool7 0 4 a2 a2 (idle pool7 0 a2)))

second_said : Contains pool7 second
second_said = Contains-tail second fourth pool6 (Contains-tail second third pool5 (Contains-head second pool4))

step16 : IsStep (net a3 b1 c4 pool7) (net a4 b1 c4 pool7)
step16 = first_changes pool7 a3 b1 c4 a4
    (inl (then_announces pool7 0 6 a3 (taken second a3)
    (takes pool7 0 a3 second second_said refl refl (omega arith) (λ _. omega arith))))

third_said : Contains pool7 third
third_said = Contains-tail third fourth pool6 (Contains-head third pool5)

step17 : IsStep (net a4 b1 c4 pool7) (net a5 b1 c4 pool7)
step17 = first_changes pool7 a4 b1 c4 a5
    (inl (then_announces pool7 0 4 a4 (taken third a4)
    (takes pool7 0 a4 third third_said refl refl (omega arith) (λ _. omega arith))))

step18 : IsStep (net a5 b1 c4 pool7) (net a6 b1 c4 pool7)
step18 = first_changes pool7 a5 b1 c4 a6
    (inl (then_announces pool7 0 6 a5 (taken fourth a5)
    (takes pool7 0 a5 fourth (Contains-head fourth pool6) refl refl (omega arith) (λ _. omega arith))))

-- what router 2 announces before router 0 hears of it
abbrev after : List Net
after = net a2 b1 c2 pool4 ∷ net a2 b1 c2 pool5 ∷ net a2 b1 c3 pool5 ∷ net a2 b1 c3 pool6 ∷ net a2 b1 c4 pool6
    ∷ net a2 b1 c4 pool7 ∷ []

announces : IsRun (net a2 b1 c1 pool4) after
announces = (step9, (step10, (step11, (step12, (step13, (step14, tt))))))

abbrev nets : List Net
nets = net a0 b0 c0 pool1 ∷ net a0 b0 c0 pool2 ∷ net a0 b1 c0 pool2 ∷ net a0 b1 c1 pool2 ∷ net a0 b1 c1 pool3
    ∷ net a1 b1 c1 pool3 ∷ net a1 b1 c1 pool4 ∷ net a2 b1 c1 pool4 ∷ after

past : IsRun (net a0 b0 c0 []) nets
past = (step1, (step2, (step3, (step4, (step5, (step6, (step7, (step8, announces))))))))

abbrev later : List Net
later = net a3 b1 c4 pool7 ∷ net a4 b1 c4 pool7 ∷ net a5 b1 c4 pool7 ∷ net a6 b1 c4 pool7 ∷ []

future : IsRun (net a2 b1 c4 pool7) later
future = (step15, (step16, (step17, (step18, tt))))

not_below : (w : ℕ) → ¬ IsBelow 5 w 4 0
not_below w (inl l) = omega (arith, l)
not_below w (inr e) = omega (arith, e.0)

-- beside router 1, router 0 falls and rises, twice

first_fall : Falls a2 a3
first_fall = record { boot = refl; number = refl; lower = omega arith }

first_rise : Stays 0 1 a3 a4
first_rise = record {
  boot = refl;
  rises = inr (record { number = refl; heard = omega arith; not_lower = not_below 1; above = omega arith });
}

second_fall : Falls a4 a5
second_fall = record { boot = refl; number = refl; lower = omega arith }

second_rise : Stays 0 1 a5 a6
second_rise = record {
  boot = refl;
  rises = inr (record { number = refl; heard = omega arith; not_lower = not_below 1; above = omega arith });
}

pub some_router_falls : SomeRouterFalls
some_router_falls = (
  net a0 b0 c0 [],
  nets,
  later,
  0,
  1,
  starts 9 5 3,
  past,
  future,
  ((inr first_fall, refl, (inl first_rise, refl, (inr second_fall, refl, (inl second_rise, refl, tt)))), refl),
  refl,
  refl,
  refl,
)

-- and beside both neighbours

abbrev both : List ℕ
both = 1 ∷ 2 ∷ []

of_both : (P : ℕ → Type 0) → P 1 → P 2 → (w : ℕ) → Contains both w → P w
of_both P one two w h = ⊎_elim (λ e. subst P e one) (λ more. ⊎_elim
    (λ e. subst P e two)
    (λ none. absurd (Contains-none w none))
    (Contains-cases w 2 [] more)) (Contains-cases w 1 (2 ∷ []) h)

two_there : Contains both 2
two_there = Contains-tail 2 1 (2 ∷ []) (Contains-head 2 [])

falls_to_four : FallsBeside (is_below 0) both a2 a3
falls_to_four = record { number = refl; lower = omega arith; one_low = (2, two_there, refl) }

rises_to_six : RisesBeside (is_below 0) both a3 a4
rises_to_six = record {
  number = refl;
  greater = omega arith;
  none_low = of_both (λ w. knows_low (is_below 0) 4 w a4 ≡ false) refl refl;
}

falls_again : FallsBeside (is_below 0) both a4 a5
falls_again = record { number = refl; lower = omega arith; one_low = (2, two_there, refl) }

rises_again : RisesBeside (is_below 0) both a5 a6
rises_again = record {
  number = refl;
  greater = omega arith;
  none_low = of_both (λ w. knows_low (is_below 0) 4 w a6 ≡ false) refl refl;
}

beside_both : KeepsActing (is_below 0) 0 both (net a2 b1 c4 pool7) later
beside_both = (
  refl,
  inr (inr falls_to_four),
  (refl, inr (inl rises_to_six), (refl, inr (inr falls_again), (refl, inr (inl rises_again), tt))),
)

pub some_height_comes_back : SomeHeightComesBack
some_height_comes_back = (
  net a0 b0 c0 [],
  nets,
  later,
  0,
  4,
  both,
  starts 9 5 3,
  past,
  future,
  beside_both,
  refl,
  refl,
  refl,
)

-- and all three stay below a ceiling

abbrev beside_each : ℕ → List ℕ
beside_each zero = both
beside_each (suc x) = 0 ∷ []

apart_first : IsDistinct eqb (0 ∷ both)
unfolding IsDistinct
apart_first = ((refl, (refl, tt)), ((refl, tt), (tt, tt)))

apart_second : IsDistinct eqb (1 ∷ 0 ∷ [])
unfolding IsDistinct
apart_second = ((refl, tt), (tt, tt))

apart_third : IsDistinct eqb (2 ∷ 0 ∷ [])
unfolding IsDistinct
apart_third = ((refl, tt), (tt, tt))

only_zero : (w : ℕ) → Contains (0 ∷ []) w → w < 3
only_zero w h = ⊎_elim
    (λ e. omega (arith, e))
    (λ none. absurd (Contains-none w none))
    (Contains-cases w 0 [] h)

keeps : (x : ℕ) → x < 3 → KeepsBelow 6 6 3 3 x (is_below x) (beside_each x) (net a2 b1 c4 pool7) later
keeps zero within = let e : unheard_beside (net a2 b1 c4 pool7) 0 both ≡ 3 = refl in record {
  down = is_below_only 0;
  neighbours = of_both (λ w. w < 3) (omega arith) (omega arith);
  once = apart_first;
  links = beside_both;
  below = (inl (omega arith), (inr refl, (inl (omega arith), (inr refl, tt))));
  unheard = omega (arith, e);
}
keeps (suc zero) within = let e : unheard_beside (net a2 b1 c4 pool7) 1 (0 ∷ []) ≡ 1 = refl in record {
  down = is_below_only 1;
  neighbours = only_zero;
  once = apart_second;
  links = ((refl, inl refl, (refl, inl refl, (refl, inl refl, (refl, inl refl, tt)))));
  below = (inl (omega arith), (inl (omega arith), (inl (omega arith), (inl (omega arith), tt))));
  unheard = omega (arith, e);
}
keeps (suc (suc zero)) within = let e : unheard_beside (net a2 b1 c4 pool7) 2 (0 ∷ []) ≡ 1 = refl in record {
  down = is_below_only 2;
  neighbours = only_zero;
  once = apart_third;
  links = ((refl, inl refl, (refl, inl refl, (refl, inl refl, (refl, inl refl, tt)))));
  below = (inl (omega arith), (inl (omega arith), (inl (omega arith), (inl (omega arith), tt))));
  unheard = omega (arith, e);
}
keeps (suc (suc (suc x))) within = absurd (omega (arith, within))

pub some_routers_announce : SomeRoutersAnnounce
some_routers_announce = (
  net a0 b0 c0 [],
  nets,
  later,
  6,
  3,
  3,
  beside_each,
  starts 9 5 3,
  past,
  future,
  keeps,
  refl,
)
