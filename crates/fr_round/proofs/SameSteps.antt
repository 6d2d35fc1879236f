-- Each step of a worker on the words is a step of the machine.
use Rattle.std.proofs.Common.{Bool, List, ap, arith, eqb, eqb-true, false, length, ltb, ltb-false, ltb-true, refl}
use Rattle.std.proofs.Common.{slice_index, slice_set, subst, sym}
use Rattle.std.proofs.Common.{true, ℕ, ◌+◌, ◌∙◌, ◌∷◌, ◌≡◌}
use Rattle.std.specs.Prelude.{IsSome, if◌then◌else◌}
use Rattle.std.proofs.lemmas.Bool.{eqb-false}
use Rattle.fr_graph.specs.Rows.{row}
use Rattle.fr_graph.specs.declared.first.First.{First}
use Rattle.fr_graph.specs.declared.first.First.TheVariants.{Inward, Outward}
use Rattle.fr_core.specs.Machine.{Outcome, bound_of, decides, goes_on, load_neighbour, neighbour_at, phase_unheld}
use Rattle.fr_core.specs.Targets.{node_of}
use Rattle.fr_core.specs.declared.entry.Reply.TheVariants.{Cut, Held, Moved, Sink, Turned}
use Rattle.fr_core.specs.declared.targets.Target.{Target}
use Rattle.fr_core.specs.declared.targets.Target.TheVariants.{Look, Turn}
use Rattle.fr_core.specs.declared.worker.Phase.{Phase}
use Rattle.fr_core.specs.declared.worker.Phase.TheVariants.{Idle, Looking}
use Rattle.fr_round.specs.declared.view.View.{View}
use Rattle.fr_round.specs.Histories.{entry}
use Rattle.fr_round.specs.Laws.{ComesToTheSame, ExchangeIsTheMachines, LookBeginsAsTheMachines, LookEndsAsTheMachines}
use Rattle.fr_round.specs.Laws.{NeighbourLoadIsTheMachines}
use Rattle.fr_round.specs.Laws.{OwnLoadIsTheMachines, more_of, phase_past}
use Rattle.fr_round.specs.Steps.{Extends}
use Rattle.std.proofs.lemmas.List.{set-get_or}

by_test : (P : Outcome → Type 0) (b : Bool) (one other : Outcome) → (b ≡ true → P one) → (b ≡ false → P other)
    → P (if b then one else other)
by_test P true one other passed failed = passed refl
by_test P false one other passed failed = failed refl

pub own_load_same : OwnLoadIsTheMachines
own_load_same s me me' found first words rest at (up, low, goes, ends, same) =
    let n = me.0.setup.nodes in
    let targets = Turn s.word ∷ rest in
    by_test (ComesToTheSame me.0 me'.0 words targets (Looking (Turn me'.0.node) me'.0.count 0))
    (eqb (slice_index words s.word) n)
    (decides words targets s.word Cut) (goes_on words targets (Looking (Turn s.word) (slice_index words s.word) 0))
    (λ e. let d = ends (sym at ∙ eqb-true (slice_index words s.word) n e) in record {
      counts = refl;
      decided = d.extends;
      worker = refl;
    })
    (λ e.
    let begun = goes (λ is. eqb-false (slice_index words s.word) n e (at ∙ is)) in
    let count : slice_index words s.word ≡ me'.0.count = at ∙ sym (ap (λ (v : View). v.count) begun) in
    record {
      counts = refl;
      decided = ap (λ (v : View). v.known) begun;
      worker = λ i. record { left = targets; phase = Looking (Turn ((sym begun i).node)) (count i) 0 };
    })

-- the test of the machine's load is that of the bound
bound_is : (f : First) (c : ℕ) → bound_of f c ≡ c + more_of f
bound_is Outward c = refl
bound_is Inward c = omega arith

-- a step that decides nothing goes on in one phase or in another
goes_past : (v w : View) (words : List ℕ) (targets : List Target) (b : Bool) (one other : Phase) → w.known ≡ v.known
    → ComesToTheSame v w words targets (if b then one else other)
    (if b then goes_on words targets one else goes_on words targets other)
goes_past v w words targets true one other stays = record { counts = refl; decided = stays; worker = refl }
goes_past v w words targets false one other stays = record { counts = refl; decided = stays; worker = refl }

pub neighbour_load_same : NeighbourLoadIsTheMachines
neighbour_load_same s me me' found j f t first words targets at on here (up, low, meets, misses, same) =
    subst (λ (x : ℕ). ComesToTheSame v me'.0 words targets (phase_past (row v.setup.nodes first x) t me'.0.count j)
    (load_neighbour (row v.setup.nodes first (node_of t)) words targets t c j)) on
    (subst (λ (p : ℕ
    × First). P (if (ltb (slice_index words p.0) (bound_of p.1 c)) then decides words targets (node_of t) (Held p.0)
    else past)) (sym here_on)
    (by_test P (ltb (slice_index words s.word) (bound_of f c)) (decides words targets (node_of t) (Held s.word)) past
    (λ e. let d = misses (omega (arith, ltb-true (slice_index words s.word) (bound_of f c) e, at, bound_is f c)) in
    record {
      counts = refl;
      decided =
          subst (λ (x : ℕ). Extends v.setup v.number v.known (entry v.number x (Held s.word)) me'.0.known) (sym on)
          d.extends;
      worker = refl;
    })
    (λ e.
    let noted = meets (omega (arith, ltb-false (slice_index words s.word) (bound_of f c) e, at, bound_is f c)) in
    subst (λ (w : View). ComesToTheSame v me'.0 words targets (phase_past neighbours t w.count j) past) (sym noted)
    (goes_past v me'.0 words targets last (phase_unheld t c) (Looking t c (j
    + 1)) (ap (λ (w : View). w.known) noted)))))
  where
    v : View
    v = me.0

    c : ℕ
    c = v.count

    neighbours : List (ℕ × First)
    neighbours = row v.setup.nodes first (node_of t)

    last : Bool
    last = eqb (j + 1) (length neighbours)

    past : Outcome
    past = if last then goes_on words targets (phase_unheld t c) else goes_on words targets (Looking t c (j + 1))

    P : Outcome → Type 0
    P = ComesToTheSame v me'.0 words targets (phase_past neighbours t me'.0.count j)

    here_on : neighbour_at neighbours j ≡ (s.word, f)
    here_on = ap (λ (x : ℕ). neighbour_at (row v.setup.nodes first x) j) on ∙ here

pub exchange_same : ExchangeIsTheMachines
exchange_same s me me' found first words targets at (up, low, wins, loses, same) =
    let x = s.word in
    let c = s.first in
    let word = slice_index words x in
    let becomes : Bool → ℕ = (λ (b : Bool). if b then c + 1 else found) in
    let turned = decides (slice_set words x (c + 1)) targets x (Turned (c + 1)) in
    let moved = decides words targets x (Moved c word) in
    let tested : (b : Bool) → eqb word c ≡ b → becomes b ≡ becomes (eqb found c) =
    (λ b e. ap becomes (sym e ∙ ap (λ (k : ℕ). eqb k c) at)) in (
      by_test (ComesToTheSame me.0 me'.0 (slice_set words x (becomes (eqb found c))) targets Idle) (eqb word c) turned
          moved
          (λ e. let d = wins (sym at ∙ eqb-true word c e) in record {
            counts = ap (λ (k : ℕ). slice_set words x k) (tested true e);
            decided = d.extends;
            worker = refl;
          })
          (λ e. let d = loses (λ is. eqb-false word c e (at ∙ is)) in record {
            counts = sym (set-get_or words x 0) ∙ ap (λ (k : ℕ). slice_set words x k) (at ∙ tested false e);
            decided =
                subst (λ (k : ℕ). Extends me.0.setup me.0.number me.0.known (entry me.0.number x (Moved c k))
                me'.0.known) (sym at) d.extends;
            worker = refl;
          }),
      by_test (λ (o : Outcome). IsSome o.decided) (eqb word c) turned moved (λ _. refl) (λ _. refl),
    )

pub look_begins_same : LookBeginsAsTheMachines
look_begins_same s me me' found first words rest at (up, low, begun, same) =
    let targets = Look s.word ∷ rest in
    let count : slice_index words s.word ≡ me'.0.count = at ∙ sym (ap (λ (v : View). v.count) begun) in
    record {
      counts = refl;
      decided = ap (λ (v : View). v.known) begun;
      worker = λ i. record { left = targets; phase = Looking (Look ((sym begun i).node)) (count i) 0 };
    }

pub look_ends_same : LookEndsAsTheMachines
look_ends_same s me me' found first words targets at (up, low, stays, moves, same) =
    let x = s.word in
    let c = me.0.count in
    let word = slice_index words x in
    let sink = decides words targets x Sink in
    let moved = decides words targets x (Moved c word) in (
      by_test (ComesToTheSame me.0 me'.0 words targets Idle) (eqb word c) sink moved
          (λ e. let d = stays (sym at ∙ eqb-true word c e) in record {
            counts = refl;
            decided = d.extends;
            worker = refl;
          })
          (λ e. let d = moves (λ is. eqb-false word c e (at ∙ is)) in record {
            counts = refl;
            decided =
                subst (λ (k : ℕ). Extends me.0.setup me.0.number me.0.known (entry me.0.number x (Moved c k))
                me'.0.known) (sym at) d.extends;
            worker = refl;
          }),
      by_test (λ (o : Outcome). IsSome o.decided) (eqb word c) sink moved (λ _. refl) (λ _. refl),
    )
