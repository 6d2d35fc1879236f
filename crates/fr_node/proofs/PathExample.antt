-- A router hears an outdated height of a neighbour that has restarted, and then the present one. It announces two
-- heights, as many as are due. Then it is above its neighbour.
use Rattle.std.proofs.Common.{Contains, List, [], arith, inl, inr, refl, ◌∷◌}
use Rattle.fr_node.specs.declared.message.Message.{Message}
use Rattle.fr_node.specs.Paths.{BoundIsReached, Stays}
use Rattle.fr_node.specs.Routers.{IsBelow, IsStep, Router}
use Rattle.fr_node.proofs.Members.{Contains-head, Contains-tail}
use Rattle.fr_node.proofs.Running.{announcing, first_changes, meets, met, net, new_router, restarts, said, says}
use Rattle.fr_node.proofs.Running.{second_changes, starts, taken, takes, then_announces}

-- router 0 as it starts, and what it says then
abbrev a0 : Router
a0 = new_router 1 1

abbrev hello : Message
hello = said a0 0 1

-- router 1 as it starts, and after it has met router 0
abbrev b0 : Router
b0 = new_router 1 5

abbrev b1 : Router
b1 = met hello b0

abbrev outdated : Message
outdated = said b1 1 0

-- router 1 after its restart, and after it has met router 0 once more
abbrev b2 : Router
b2 = new_router 2 9

abbrev b3 : Router
b3 = met hello b2

abbrev present : Message
present = said b3 1 0

-- router 0 rises above the outdated height, and then above the present one
abbrev a1 : Router
a1 = announcing 6 (taken outdated a0)

abbrev a2 : Router
a2 = announcing 10 (taken present a1)

-- a third router, which does nothing
abbrev c : Router
c = new_router 1 3

abbrev pool1 : List Message
pool1 = hello ∷ []

step1 : IsStep (net a0 b0 c []) (net a0 b0 c pool1)
step1 = says (net a0 b0 c []) 0 1

step2 : IsStep (net a0 b0 c pool1) (net a0 b1 c pool1)
step2 = second_changes pool1 a0 b0 c b1
    (inl (meets pool1 1 b0 hello (Contains-head hello []) refl (omega arith)))

abbrev pool2 : List Message
pool2 = outdated ∷ pool1

step3 : IsStep (net a0 b1 c pool1) (net a0 b1 c pool2)
step3 = says (net a0 b1 c pool1) 1 0

step4 : IsStep (net a0 b1 c pool2) (net a0 b2 c pool2)
step4 = second_changes pool2 a0 b1 c b2
    (inr (restarts 2 9 b1 (omega arith)))

step5 : IsStep (net a0 b2 c pool2) (net a0 b3 c pool2)
step5 = second_changes pool2 a0 b2 c b3
    (inl (meets pool2 1 b2 hello (Contains-tail hello outdated pool1 (Contains-head hello [])) refl (omega arith)))

abbrev pool3 : List Message
pool3 = present ∷ pool2

step6 : IsStep (net a0 b3 c pool2) (net a0 b3 c pool3)
step6 = says (net a0 b3 c pool2) 1 0

outdated_said : Contains pool3 outdated
outdated_said = Contains-tail outdated present pool2 (Contains-head outdated pool1)

step7 : IsStep (net a0 b3 c pool3) (net a1 b3 c pool3)
step7 = first_changes pool3 a0 b3 c a1
    (inl (then_announces pool3 0 6 a0 (taken outdated a0)
    (takes pool3 0 a0 outdated outdated_said refl refl (omega arith) (λ _. omega arith))))

step8 : IsStep (net a1 b3 c pool3) (net a2 b3 c pool3)
step8 = first_changes pool3 a1 b3 c a2
    (inl (then_announces pool3 0 10 a1 (taken present a1)
    (takes pool3 0 a1 present (Contains-head present pool2) refl refl (omega arith) (λ _. omega arith))))

first_rise : Stays 0 1 a0 a1
first_rise = record {
  boot = refl;
  rises = inr (record { number = refl; heard = omega arith; not_lower = not_lower; above = omega arith });
}
  where
    not_lower : ¬ IsBelow 5 1 1 0
    not_lower (inl l) = omega (arith, l)
    not_lower (inr e) = omega (arith, e.0)

second_rise : Stays 0 1 a1 a2
second_rise = record {
  boot = refl;
  rises = inr (record { number = refl; heard = omega arith; not_lower = not_lower; above = omega arith });
}
  where
    not_lower : ¬ IsBelow 9 1 6 0
    not_lower (inl l) = omega (arith, l)
    not_lower (inr e) = omega (arith, e.0)

pub bound_is_reached : BoundIsReached
bound_is_reached = (
  net a0 b0 c [],
  net a0 b0 c pool1 ∷ net a0 b1 c pool1 ∷ net a0 b1 c pool2 ∷ net a0 b2 c pool2 ∷ net a0 b3 c pool2
      ∷ net a0 b3 c pool3 ∷ [],
  net a1 b3 c pool3 ∷ net a2 b3 c pool3 ∷ [],
  0,
  1,
  starts 1 5 3,
  (step1, (step2, (step3, (step4, (step5, (step6, tt)))))),
  (step7, (step8, tt)),
  ((first_rise, refl, (second_rise, refl, tt)), refl),
  refl,
  refl,
  (refl, refl, tt),
)
