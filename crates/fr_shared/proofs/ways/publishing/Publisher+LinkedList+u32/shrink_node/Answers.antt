use Rattle.std.proofs.Common.{Bool, List, [], ap, arith, cond, eqb, false, inl, inr, length, refl, suc, sym, take}
use Rattle.std.proofs.Common.{true, zero, ℕ, ◌++◌, ◌∙◌, ◌∷◌, ◌≡◌, ◌≤◌}
use Rattle.std.specs.Bool.{beq}
use Rattle.std.specs.Prelude.{not}
use Rattle.std.proofs.lemmas.Bool.{cases_Bool, eqb-true}
use Rattle.std.proofs.lemmas.List.{length-take}
use Rattle.fr_ways.specs.Phases.{is_empty, kept, loses}
use Rattle.fr_shared.specs.Histories.{push}
use Rattle.fr_shared.specs.Knowledge.{Knowledge}
use Rattle.fr_shared.specs.WayTables.{last_ways, way_codec}
use Rattle.fr_shared.specs.WayParts.{drops, push_if}
use Rattle.fr_shared.proofs.Histories.{last_is_table}
use Rattle.fr_shared.proofs.WayPushing.{drops_some, kept_old, set_table}
use Rattle.fr_shared.proofs.ways.publishing.Publisher+LinkedList+u32.shrink_node.Goals as goal

pub kept_ways_of_loser-requires-clause-old : goal.kept_ways_of_loser-requires-clause-old
kept_ways_of_loser-requires-clause-old c =
    let k = c.args.self.now in
    omega (
      arith,
      ap length c.word.ensures.held,
      (last_is_table way_codec k.nodes k.known c.history_law.ensures).few c.args.x,
    )

-- a list of this many elements is empty if they are none
empty_test : (count : ℕ) (list front : List ℕ) → count ≤ length list → take count list ≡ front
    → is_empty front ≡ eqb count 0
empty_test zero list front low is = ap is_empty (sym is)
empty_test (suc count) [] front low is = absurd (omega (arith, low))
empty_test (suc count) (y ∷ ys) front low is = ap is_empty (sym is) ∙ elim (cases_Bool (eqb (suc count) 0)) [
  | inl t ↦ absurd (omega (arith, eqb-true (suc count) 0 t))
  | inr f ↦ sym f
]

as_wanted : (b emptied : Bool) → beq b emptied ≡ true → cond emptied b (not b) ≡ true
as_wanted true true is = refl
as_wanted true false is = is
as_wanted false true is = is
as_wanted false false is = refl

pub push-requires-clause-table : goal.push-requires-clause-table
push-requires-clause-table c =
    let k = c.args.self.now in
    let x : ℕ = c.args.x in
    let old = last_ways k in
    let table = last_is_table way_codec k.nodes k.known c.history_law.ensures in
    let list : take c.in-Some.count c.kept_ways_of_loser.new.list ≡ kept old c.args.new.now x =
    rw (c.word.ensures.held, c.word-2.ensures.held) at c.in-Some.ensures.kept in
    let few : length (kept old c.args.new.now x) ≤ 5 =
    omega (arith, ap length list, c.in-Some.ensures.few, length-take c.in-Some.count c.kept_ways_of_loser.new.list) in
    rw (c.word.ensures.kept, list)
    (set_table k.nodes old old x (kept old c.args.new.now x) table table (λ y z sends. sends) c.requires.node few
    (kept_old old c.args.new.now x))

pub returns-then-count-emptied : goal.returns-then-count-emptied
returns-then-count-emptied c =
    let k = c.args.self.now in
    let x : ℕ = c.args.x in
    let old = last_ways k in
    let new = c.args.new.now in
    let count : ℕ = c.in-Some.count in
    let list : take count c.kept_ways_of_loser.new.list ≡ kept old new x =
    rw (c.word.ensures.held, c.word-2.ensures.held) at c.in-Some.ensures.kept in
    let lost : loses old new x ≡ true = rw (c.word.ensures.held, c.word-2.ensures.held) at c.in-Some.ensures.loses in
    let few : count ≤ length c.kept_ways_of_loser.new.list =
    omega (arith, c.in-Some.ensures.few, c.kept_ways_of_loser.array_long) in
    let empty = empty_test count c.kept_ways_of_loser.new.list (kept old new x) few list in
    let drops_it : drops c.args.emptied old new x ≡ true =
    drops_some old new x c.args.emptied lost
    ∙ (ap (λ (b : Bool). cond c.args.emptied b (not b)) empty
    ∙ as_wanted (eqb count 0) c.args.emptied c.if-count-emptied.true) in
    c.push.ensures
    ∙ (ap (λ (ys : List ℕ). record c.word.new.self { known = c.word.new.self.known ++ push x ys ∷ [] }) list
    ∙ (ap (λ (q : Knowledge (List ℕ)). record q { known = q.known ++ push x (kept old new x) ∷ [] }) c.word.ensures.kept
    ∙ ap (λ (b : Bool). record k { known = k.known ++ push_if b x (kept old new x) }) (sym drops_it)))
