-- Small networks, by computation: the definitions give the links, turns and runs that they are meant to give.
use Rattle.std.proofs.Common.{◌≡◌, ℕ, List, [], ◌∷◌, ◌⊎◌, inl, inr, refl, subst, sym, arith, Contains}
use Rattle.fr_graph.specs.Counts.{links_at}
use Rattle.fr_graph.specs.Order.{in_order}
use Rattle.fr_graph.specs.Turn.{IsSink, turn}
use Rattle.fr_graph.proofs.Members.{Contains-none, Contains-head, Contains-tail, Contains-cases}
use Rattle.fr_core.specs.History.{Moment, moment_of, after_all, links_after, count_after}
use Rattle.fr_core.specs.Legal.{CanTurn, IsRun}
use Rattle.fr_core.specs.declared.entry.Entry.{Entry}
use Rattle.fr_core.specs.declared.entry.Reply.TheVariants.{Turned, Moved}

-- a turn of node 2 reverses both its links, and no other
turn_of_a_sink : turn 2 ((0, 1) ∷ (1, 2) ∷ (3, 2) ∷ []) ≡ (0, 1) ∷ (2, 1) ∷ (2, 3) ∷ []
turn_of_a_sink = refl

-- a chain that pointed away from node 0 points to it
chain : links_at ((0, 1) ∷ (1, 2) ∷ (2, 3) ∷ []) (0 ∷ 1 ∷ 2 ∷ 3 ∷ []) ≡ (1, 0) ∷ (2, 1) ∷ (3, 2) ∷ []
chain = refl

-- two nodes at the cap: their link is back where it was
two_at_the_cap : links_at ((1, 0) ∷ (2, 3) ∷ []) (0 ∷ 0 ∷ 4 ∷ 4 ∷ []) ≡ (1, 0) ∷ (2, 3) ∷ []
two_at_the_cap = refl

-- two ways to node 0
diamond : links_at ((0, 1) ∷ (0, 2) ∷ (1, 3) ∷ (2, 3) ∷ []) (0 ∷ 1 ∷ 1 ∷ 2 ∷ []) ≡ (1, 0) ∷ (2, 0) ∷ (3, 1) ∷ (3, 2)
    ∷ []
diamond = refl

-- one link of a way around has turned
ring : links_at ((0, 1) ∷ (2, 1) ∷ (2, 3) ∷ (3, 0) ∷ []) (0 ∷ 1 ∷ 0 ∷ 0 ∷ []) ≡ (1, 0) ∷ (1, 2) ∷ (2, 3) ∷ (3, 0) ∷ []
ring = refl

-- counts that differ by more than one give a link no direction
lost_link : links_at ((0, 1) ∷ []) (0 ∷ 2 ∷ []) ≡ []
lost_link = refl

-- the links that counts give need not be in ascending order
rising_order : in_order (links_at ((0, 1) ∷ (0, 3) ∷ (1, 2) ∷ (2, 3) ∷ (3, 4) ∷ []) (0 ∷ 1 ∷ 1 ∷ 1 ∷ 2 ∷ [])) ≡ (1, 0)
    ∷ (1, 2) ∷ (2, 3) ∷ (3, 0) ∷ (4, 3) ∷ []
rising_order = refl

-- worker 0 turns node 1, and worker 1 finds that its count has moved on
two_workers : List Entry
two_workers =
    record { worker = 0; node = 1; reply = Turned 1 } ∷ record { worker = 1; node = 1; reply = Moved 0 1 } ∷ []

one_link : Moment
one_link = moment_of ((0, 1) ∷ []) (0 ∷ 0 ∷ [])

first_can_turn : CanTurn 2 0 one_link 1
unfolding one_link
first_can_turn = record {
  not_destination = omega arith;
  below_cap = omega arith;
  sink = ((0, Contains-head (0, 1) []), λ w h. out w (Contains-cases (1, w) (0, 1) [] h));
}
  where
    out : (w : ℕ) → (◌≡◌ {A = ℕ × ℕ} (0, 1) (1, w)) ⊎ Contains {X = ℕ × ℕ} [] (1, w) → ⊥
    out w (inl e) = let f : ◌≡◌ {A = ℕ} 0 1 = λ i. (e i).0 in omega arith
    out w (inr h) = Contains-none (1, w) h

two_workers_run : IsRun 2 0 one_link two_workers
unfolding one_link two_workers
two_workers_run = ((omega arith, (first_can_turn, refl)), ((omega arith, (refl, omega arith)), tt))

two_workers_end : after_all one_link two_workers ≡ moment_of ((0, 1) ∷ []) (0 ∷ 1 ∷ [])
unfolding one_link two_workers
two_workers_end = refl

two_workers_links : links_after ((0, 1) ∷ []) two_workers ≡ (1, 0) ∷ []
unfolding two_workers
two_workers_links = refl

two_workers_count : count_after (0 ∷ 0 ∷ []) two_workers 1 ≡ 1
unfolding two_workers
two_workers_count = refl

-- of a chain of three nodes that points away from node 0 the last alone is a sink
pub sink_of_chain : (x : ℕ) → IsSink ((0, 1) ∷ (1, 2) ∷ []) x → x ≡ 2
sink_of_chain x sink = here (Contains-cases (sink.0.0, x) (0, 1) ((1, 2) ∷ []) sink.0.1)
  where
    last : (◌≡◌ {A = ℕ × ℕ} (1, 2) (sink.0.0, x)) ⊎ Contains {X = ℕ × ℕ} [] (sink.0.0, x) → x ≡ 2
    last (inl e) = λ i. (sym e i).1
    last (inr h) = absurd (Contains-none (sink.0.0, x) h)

    here : (◌≡◌ {A = ℕ × ℕ} (0, 1) (sink.0.0, x)) ⊎ Contains {X = ℕ × ℕ} ((1, 2) ∷ []) (sink.0.0, x) → x ≡ 2
    here (inl e) =
        let f : ◌≡◌ {A = ℕ} 1 x = λ i. (e i).1 in
        absurd (sink.1 2 (subst (λ (y : ℕ). Contains {X = ℕ × ℕ} ((0, 1) ∷ (1, 2) ∷ []) (y, 2)) f
        (Contains-tail (1, 2) (0, 1) ((1, 2) ∷ []) (Contains-head (1, 2) []))))
    here (inr h) = last (Contains-cases (sink.0.0, x) (1, 2) [] h)
