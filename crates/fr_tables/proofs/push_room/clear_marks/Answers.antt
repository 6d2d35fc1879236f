use Rattle.std.proofs.Common.{Contains, List, arith, false, get_or, length, replicate, subst, sym, ℕ, ⊎_elim, ◌∙◌}
use Rattle.std.proofs.lemmas.Bool.{cases_Bool}
use Rattle.std.proofs.lemmas.List.{drop_all, ext_get_or, get_or-replicate, length-replicate}
use Rattle.fr_tables.proofs.Members.{Contains-none}
use Rattle.fr_tables.proofs.push_room.clear_marks.Goals as goal

pub returns : goal.returns
returns c =
    let n : ℕ = length c.args.differ.now in
    let differ = c.loop-x.differ in
    let none = drop_all c.loop-x.x-index c.args.changed.now (omega (arith, c.loop-x-test.false)) in
    ext_get_or false differ (replicate n false) (omega (arith, c.loop-x.invariant.one_each, length-replicate n false))
    (λ x low.
    ⊎_elim
    (λ t. absurd (Contains-none x (subst (λ (xs : List ℕ). Contains xs x) none (c.loop-x.invariant.left x t))))
    (λ f. f ∙ sym (get_or-replicate n x false false (omega (arith, low, c.loop-x.invariant.one_each))))
    (cases_Bool (get_or differ x false)))
