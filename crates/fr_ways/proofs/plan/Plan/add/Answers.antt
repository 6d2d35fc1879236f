use Rattle.std.proofs.Common.{All, Global, List, Vec, [], ap, cond, false, length, subst, sym, true, ℕ, ◌++◌, ◌<◌}
use Rattle.std.proofs.Common.{◌∙◌, ◌∷◌, ◌≡◌}
use Rattle.std.specs.Prelude.{not}
use Rattle.std.proofs.lemmas.List.Elements.{Contains-get_or}
use lib.Pointwise.{bytes_decides}
use Rattle.fr_ways.specs.Phases.{differs, is_empty, kept, loses}
use Rattle.fr_ways.specs.Plans.{IsPushedIf}
use Rattle.fr_ways.specs.Ways.{IsInRange, ways}
use Rattle.fr_ways.specs.declared.plan.Pushes.{Pushes}
use Rattle.fr_ways.proofs.Planning.{plan_loser, plan_other, plan_same}
use Rattle.fr_ways.proofs.plan.Plan.add.Goals as goal
use Rattle.fr_ways.proofs.plan.Plan.add.Goals.{After-loses_way}

inside : (table : List (List ℕ)) (x : ℕ) → IsInRange table → All (λ (y : ℕ). y < length table) (ways table x)
inside table x range k d low = range x _ (Contains-get_or (ways table x) k d low)

pub loses_way-requires : goal.loses_way-requires
loses_way-requires c = record {
  clear = (
    length c.args.new.now,
    c.requires.spare,
    rw c.row-now.ensures
        (inside c.args.new.now c.args.x c.requires.range),
  );
}

pub keep_common_ways-requires : goal.keep_common_ways-requires
keep_common_ways-requires c = record {
  clear = (
    length c.args.new.now,
    c.loses_way.ensures.clear (length c.args.new.now) c.requires.spare,
    rw c.row-now.ensures (inside c.args.new.now c.args.x c.requires.range),
  );
}

pub returns-then-eq-clause-plan : goal.returns-then-eq-clause-plan
returns-then-eq-clause-plan c =
    let equal = (bytes_decides c.row-was.result.now c.row-now.result.now).0 (sym c.if-eq.ensures) in
    plan_same c.args.old.now c.args.new.now c.args.x c.args.self.now c.requires.plan
    (sym c.row-was.ensures ∙ (equal ∙ c.row-now.ensures))

test : (c : After-loses_way) → c.loses_way.result ≡ loses c.args.old.now c.args.new.now c.args.x
test c = rw (c.row-was.ensures, c.row-now.ensures) at c.loses_way.ensures.loses

pub returns-then-not-loses_way-clause-plan : goal.returns-then-not-loses_way-clause-plan
returns-then-not-loses_way-clause-plan c =
    let e = c.in_ok-add_growing.ensures in
    let none : loses c.args.old.now c.args.new.now c.args.x ≡ false =
    sym (test (goal.at.returns-then-not-loses_way-clause-plan c).After-loses_way) ∙ c.if-not-loses_way.true in
    plan_other c.args.old.now c.args.new.now c.args.x c.args.self.now c.add_growing.new.self c.requires.plan none
    e.shrink
    e.emptied
    (rw (c.row-was.ensures, c.row-now.ensures) at e.grow)

pub returns-clause-plan : goal.returns-clause-plan
returns-clause-plan c =
    let old = c.args.old.now in
    let new = c.args.new.now in
    let x : ℕ = c.args.x in
    let before = c.args.self.now in
    let after = c.add_growing-2.new.self in
    let first = c.in_ok-add_shrinking.ensures in
    let second = c.in_ok-add_growing-2.ensures in
    let some : loses old new x ≡ true = sym (test (goal.at.returns-clause-plan c).After-loses_way)
    ∙ c.if-not-loses_way.false in
    let is : c.keep_common_ways.new.self.kept.items ≡ kept old new x =
    rw (c.row-was.ensures, c.row-now.ensures) at c.in_ok-keep_common_ways.ensures.kept in
    let here : c.deref.result.now ≡ kept old new x = c.deref.ensures.value ∙ is in
    let again : c.deref-2.result.now ≡ kept old new x = c.deref-2.ensures.value ∙ is in
    let shrinks : IsPushedIf (not (is_empty (kept old new x))) x
    (kept old new x) before.phases.shrink after.phases.shrink =
    subst (λ (p : Pushes). IsPushedIf (not (is_empty (kept old new x))) x (kept old new x) before.phases.shrink p)
    (sym second.shrink)
    (subst (λ (ys : List ℕ). IsPushedIf
    (not (is_empty ys)) x ys before.phases.shrink c.add_shrinking.new.self.phases.shrink) here first.shrink) in
    let emptied : after.emptied.items ≡ before.emptied.items ++ cond (is_empty (kept old new x)) (x ∷ []) [] =
    ap (λ (v : Vec ℕ Global). v.items) second.emptied
    ∙ (first.emptied ∙ ap (λ (ys : List ℕ). before.emptied.items ++ cond (is_empty ys) (x ∷ []) []) here) in
    let grows : IsPushedIf (differs (kept old new x) (ways new x)) x
    (ways new x) before.phases.grow after.phases.grow =
    subst (λ (p : Pushes). IsPushedIf (differs (kept old new x) (ways new x)) x
    (ways new x) p after.phases.grow) first.grow
    (subst (λ (ys : List ℕ). IsPushedIf (differs ys (ways new x)) x
    (ways new x) c.add_shrinking.new.self.phases.grow after.phases.grow) again
    (rw c.row-now.ensures at second.grow)) in
    plan_loser old new x before after c.requires.plan some shrinks emptied grows
