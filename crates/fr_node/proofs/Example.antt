-- Two routers say their heights to each other. One of them restarts meanwhile, so the other's message for its earlier
-- start is not taken. At the end the link from the higher to the lower router comes into use.
use Rattle.std.proofs.Common.{List, [], arith, inl, inr, refl, ◌∷◌}
use Rattle.fr_node.specs.declared.message.Message.{Message}
use Rattle.fr_node.specs.Laws.{SomeLinkIsUsed}
use Rattle.fr_node.specs.Routers.{IsStep, IsUsed, Router}
use Rattle.fr_node.proofs.Members.{Contains-head}
use Rattle.fr_node.proofs.Running.{first_changes, meets, met, net, new_router, restarts, said, says, second_changes}
use Rattle.fr_node.proofs.Running.{starts}
use Rattle.fr_node.proofs.Running.{starts_from_one, taken, takes}

-- router 0 as it starts, and what router 1 says to it before the restart
abbrev a0 : Router
a0 = new_router 1 1

abbrev b0 : Router
b0 = new_router 1 2

abbrev first : Message
first = said b0 1 0

-- router 0 has met router 1, and says its height to this start of router 1, which is past then
abbrev a1 : Router
a1 = met first a0

abbrev late : Message
late = said a1 0 1

-- router 1 after the restart, and after it has met router 0
abbrev b1 : Router
b1 = new_router 2 2

abbrev b2 : Router
b2 = met late b1

abbrev again : Message
again = said b2 1 0

-- router 0 has heard the height of router 1, and says its own
abbrev a2 : Router
a2 = taken again a1

abbrev lower : Message
lower = said a2 0 1

-- router 1 has heard it, and router 0 hears that
abbrev b3 : Router
b3 = taken lower b2

abbrev answer : Message
answer = said b3 1 0

abbrev a3 : Router
a3 = taken answer a2

-- a third router, which does nothing
abbrev c : Router
c = new_router 1 3

abbrev pool1 : List Message
pool1 = first ∷ []

abbrev pool2 : List Message
pool2 = late ∷ pool1

abbrev pool3 : List Message
pool3 = again ∷ pool2

abbrev pool4 : List Message
pool4 = lower ∷ pool3

abbrev pool5 : List Message
pool5 = answer ∷ pool4

step1 : IsStep (net a0 b0 c []) (net a0 b0 c pool1)
step1 = says (net a0 b0 c []) 1 0

step2 : IsStep (net a0 b0 c pool1) (net a1 b0 c pool1)
step2 = first_changes pool1 a0 b0 c a1 (inl (meets pool1 0 a0 first (Contains-head first []) refl (omega arith)))

step3 : IsStep (net a1 b0 c pool1) (net a1 b1 c pool1)
step3 = second_changes pool1 a1 b0 c b1 (inr (restarts 2 2 b0 (omega arith)))

step4 : IsStep (net a1 b1 c pool1) (net a1 b1 c pool2)
step4 = says (net a1 b1 c pool1) 0 1

step5 : IsStep (net a1 b1 c pool2) (net a1 b2 c pool2)
step5 = second_changes pool2 a1 b1 c b2 (inl (meets pool2 1 b1 late (Contains-head late pool1) refl (omega arith)))

step6 : IsStep (net a1 b2 c pool2) (net a1 b2 c pool3)
step6 = says (net a1 b2 c pool2) 1 0

step7 : IsStep (net a1 b2 c pool3) (net a2 b2 c pool3)
step7 = first_changes pool3 a1 b2 c a2
    (inl (takes pool3 0 a1 again (Contains-head again pool2) refl refl (omega arith) (λ _. omega arith)))

step8 : IsStep (net a2 b2 c pool3) (net a2 b2 c pool4)
step8 = says (net a2 b2 c pool3) 0 1

step9 : IsStep (net a2 b2 c pool4) (net a2 b3 c pool4)
step9 = second_changes pool4 a2 b2 c b3
    (inl (takes pool4 1 b2 lower (Contains-head lower pool3) refl refl (omega arith) (λ _. omega arith)))

step10 : IsStep (net a2 b3 c pool4) (net a2 b3 c pool5)
step10 = says (net a2 b3 c pool4) 1 0

step11 : IsStep (net a2 b3 c pool5) (net a3 b3 c pool5)
step11 = first_changes pool5 a2 b3 c a3
    (inl (takes pool5 0 a2 answer (Contains-head answer pool4) refl refl (omega arith) (λ _. omega arith)))

used : IsUsed (net a3 b3 c pool5) 1 0
used = record {
  way = record { forwards = λ g. cc; known = omega arith; below = inl (omega arith) };
  gate = inr (record { acked = omega arith; high = λ n l h. omega arith });
}

pub some_link_is_used : SomeLinkIsUsed
some_link_is_used = (
  net a0 b0 c [],
  net a0 b0 c pool1 ∷ net a1 b0 c pool1 ∷ net a1 b1 c pool1 ∷ net a1 b1 c pool2 ∷ net a1 b2 c pool2
      ∷ net a1 b2 c pool3 ∷ net a2 b2 c pool3 ∷ net a2 b2 c pool4 ∷ net a2 b3 c pool4 ∷ net a2 b3 c pool5
      ∷ net a3 b3 c pool5 ∷ [],
  starts 1 2 3,
  (step1, (step2, (step3, (step4, (step5, (step6, (step7, (step8, (step9, (step10, (step11, tt))))))))))),
  used,
  starts_from_one 1 2 3,
  omega arith,
  refl,
)
