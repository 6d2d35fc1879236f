use Rattle.std.proofs.Common.{Contains, List, arith, false, get_or, length, replicate, subst, sym, ℕ, ⊎_elim, ◌∙◌}
use Rattle.std.proofs.lemmas.Bool.{cases_Bool}
use Rattle.std.proofs.lemmas.List.{drop_all, ext_get_or, get_or-replicate, length-replicate}
use Rattle.fr_tables.proofs.Members.{Contains-none}
use Rattle.fr_ways.proofs.kept_ways.clear_notes.Goals as goal

pub returns : goal.returns
returns c =
    let n : ℕ = length c.args.noted.now in
    let noted = c.loop-y.noted in
    let none = drop_all c.loop-y.y-index c.args.ways.now (omega (arith, c.loop-y-test.false)) in
    ext_get_or false noted (replicate n false)
    (omega (arith, c.loop-y.invariant.one_each, length-replicate n false)) (λ x low.
    ⊎_elim
    (λ t. absurd (Contains-none x (subst (λ (xs : List ℕ). Contains xs x) none (c.loop-y.invariant.left x t))))
    (λ f. f ∙ sym (get_or-replicate n x false false (omega (arith, low, c.loop-y.invariant.one_each))))
    (cases_Bool (get_or noted x false)))
