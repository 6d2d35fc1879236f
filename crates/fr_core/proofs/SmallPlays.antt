-- Small plays, by computation: the machine's definition decides what it is meant to decide.
use Rattle.std.proofs.Common.{List, [], map, refl, replicate, ℕ, ◌∷◌, ◌≡◌}
use Rattle.fr_core.specs.History.{part}
use Rattle.fr_core.specs.Machine.{MachineState, entries_of, start, state_after}
use Rattle.fr_core.specs.declared.entry.Entry.{Entry}
use Rattle.fr_core.specs.declared.entry.Reply.{Reply}
use Rattle.fr_core.specs.declared.entry.Reply.TheVariants.{Cut, Held, Moved, Sink, Turned}
use Rattle.fr_core.specs.declared.targets.Target.{Target}
use Rattle.fr_core.specs.declared.targets.Target.TheVariants.{Look, Turn}

abbrev turns : List ℕ → List Target
turns nodes = map (λ x. Turn x) nodes

abbrev looks : List ℕ → List Target
looks nodes = map (λ x. Look x) nodes

abbrev reply_of : Entry → Reply
reply_of e = e.reply

-- two workers at one node, step by step
abbrev two_at_one : MachineState
two_at_one = start 2 (turns (1 ∷ []) ∷ turns (1 ∷ []) ∷ [])

two_at_one_entries : entries_of 2 ((0, 1) ∷ []) two_at_one (0 ∷ 1 ∷ 0 ∷ 1 ∷ 0 ∷ 1 ∷ []) ≡ record {
  worker = 0;
  node = 1;
  reply = Turned 1;
} ∷ record { worker = 1; node = 1; reply = Moved 0 1 } ∷ []
two_at_one_entries = refl

two_at_one_counts : (state_after 2 ((0, 1) ∷ []) two_at_one (0 ∷ 1 ∷ 0 ∷ 1 ∷ 0 ∷ 1 ∷ [])).counts ≡ 0 ∷ 1 ∷ []
two_at_one_counts = refl

two_at_one_part : part 1 (entries_of 2 ((0, 1) ∷ []) two_at_one (0 ∷ 1 ∷ 0 ∷ 1 ∷ 0 ∷ 1 ∷ [])) ≡ record {
  worker = 1;
  node = 1;
  reply = Moved 0 1;
} ∷ []
two_at_one_part = refl

-- a link that points away holds the node
held : entries_of 2 ((1, 0) ∷ []) (start 2 (turns (1 ∷ []) ∷ [])) (0 ∷ 0 ∷ []) ≡ record {
  worker = 0;
  node = 1;
  reply = Held 0;
} ∷ []
held = refl

-- each call of a node that turns takes a load of its own count, one of each neighbour's and the exchange
turned_then_held : entries_of 2 ((0, 1) ∷ []) (start 2 (turns (1 ∷ 1 ∷ 1 ∷ []) ∷ []))
    (replicate 6 0) ≡ record { worker = 0; node = 1; reply = Turned 1 } ∷ record {
      worker = 0;
      node = 1;
      reply = Held 0;
    } ∷ []
turned_then_held = refl

held_then_turned : entries_of 3 ((0, 1) ∷ (1, 2) ∷ []) (start 3 (turns (1 ∷ 2 ∷ 1 ∷ 2 ∷ []) ∷ []))
    (replicate 6 0) ≡ record { worker = 0; node = 1; reply = Held 2 } ∷ record {
      worker = 0;
      node = 2;
      reply = Turned 1;
    } ∷ []
held_then_turned = refl

-- two nodes that no link joins with the destination turn one after the other, up to the cap
up_to_the_cap : map reply_of (entries_of 3 ((1, 2) ∷ []) (start 3 (turns (2 ∷ 1 ∷ 2 ∷ 1 ∷ 2 ∷ 1 ∷ 2 ∷ 1 ∷ []) ∷ []))
    (replicate 24 0)) ≡ Turned 1 ∷ Turned 1 ∷ Turned 2 ∷ Turned 2 ∷ Turned 3 ∷ Turned 3 ∷ Cut ∷ Cut ∷ []
up_to_the_cap = refl

-- a look at a node that turns meanwhile, and at one that does not
look_beside_a_turn : entries_of 2 ((0, 1) ∷ []) (start 2 (looks (1 ∷ []) ∷ turns (1 ∷ []) ∷ []))
    (0 ∷ 0 ∷ 1 ∷ 1 ∷ 1 ∷ 0 ∷ []) ≡ record { worker = 1; node = 1; reply = Turned 1 } ∷ record {
      worker = 0;
      node = 1;
      reply = Moved 0 1;
    } ∷ []
look_beside_a_turn = refl

look_alone : entries_of 2 ((0, 1) ∷ []) (start 2 (looks (1 ∷ []) ∷ turns (1 ∷ []) ∷ [])) (0 ∷ 0 ∷ 0 ∷ []) ≡ record {
  worker = 0;
  node = 1;
  reply = Sink;
} ∷ []
look_alone = refl

-- the destination can be looked at, and so can a node at the cap
look_at_destination : entries_of 2 ((1, 0) ∷ []) (start 2 (looks (0 ∷ 1 ∷ []) ∷ []))
    (replicate 5 0) ≡ record { worker = 0; node = 0; reply = Sink } ∷ record { worker = 0; node = 1; reply = Held 0 }
    ∷ []
look_at_destination = refl

abbrev up_then_look : List Target
up_then_look = Turn 2 ∷ Turn 1 ∷ Turn 2 ∷ Turn 1 ∷ Turn 2 ∷ Turn 1 ∷ Look 2 ∷ Look 1 ∷ []

look_at_the_cap : map reply_of (entries_of 3 ((1, 2) ∷ []) (start 3 (up_then_look ∷ [])) (replicate 23 0)) ≡ Turned
    1 ∷ Turned 1 ∷ Turned 2 ∷ Turned 2 ∷ Turned 3 ∷ Turned 3 ∷ Sink ∷ Held 2 ∷ []
look_at_the_cap = refl
