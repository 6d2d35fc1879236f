use Rattle.std.proofs.Common.{List, [], ap, arith, cond, eqb, get_or, length, sym, take, ℕ, ◌++◌, ◌+◌}
use Rattle.std.proofs.Common.{◌<◌, ◌∙◌, ◌∷◌, ◌≡◌, Bool, append-nil}
use Rattle.std.specs.Cmp.{nat_eq_equiv}
use Rattle.std.specs.List.{filter, list_any}
use Rattle.std.proofs.lemmas.List.{take_more, take_more_set}
use Rattle.std.proofs.lemmas.List.Elements.{filter-append}
use Rattle.fr_ways.specs.Phases.{is_way}
use Rattle.fr_shared.proofs.ways.words.copy_kept_ways.Goals.{then-contains, else-contains}
use Rattle.fr_shared.proofs.ways.words.copy_kept_ways.Goals as goal

-- one more element of the list
filter_more : (p : ℕ → Bool) (xs : List ℕ) (i : ℕ) → i < length xs
    → filter p (take (i + 1) xs) ≡ filter p (take i xs) ++ cond (p (get_or xs i 0)) (get_or xs i 0 ∷ []) []
filter_more p xs i low = ap (filter p) (take_more xs i 0 low) ∙ filter-append p (take i xs) (get_or xs i 0 ∷ [])

way_test : (old : List ℕ) (y : ℕ) → is_way old y ≡ list_any (λ z. eqb z y) old
way_test old y = ap (λ (p : ℕ → Bool). list_any p old) (λ i z. nat_eq_equiv.symm y z i)

pub loop-y-preserved : goal.loop-y-preserved
loop-y-preserved c =
    let before = c.loop-y.invariant in
    let low = c.loop-y-test.true in
    let y : ℕ = get_or c.args.new.now c.loop-y.y-index 0 in
    let more = filter_more (is_way c.args.old.now) c.args.new.now c.loop-y.y-index low in
    let test : is_way c.args.old.now y ≡ c.contains.result = way_test c.args.old.now y ∙ sym c.contains.ensures.value in
    elim c.if-contains.branch [
      | then-contains w ↦ record {
        few = omega (arith, before.few, w.count-is);
        low = omega (arith, low);
        size = c.if-contains.array_long;
        front =
            let all : take c.if-contains.count c.if-contains.list ≡ take c.loop-y.count c.loop-y.list ++ y ∷ [] =
            rw (w.list-is, w.count-is) (take_more_set c.loop-y.list c.loop-y.count y
            (omega (arith, before.few, before.size, low, c.requires))) in
            all ∙ (ap (λ (l : List ℕ). l ++ y ∷ []) before.front
            ∙ sym (more ∙ ap (λ (b : Bool). filter (is_way c.args.old.now)
            (take c.loop-y.y-index c.args.new.now) ++ cond b (y ∷ []) []) (test ∙ w.if-contains.true)));
      }
      | else-contains w ↦ record {
        few = omega (arith, before.few, w.count-is);
        low = omega (arith, low);
        size = c.if-contains.array_long;
        front = rw (w.list-is, w.count-is) (before.front
            ∙ (sym (append-nil (filter (is_way c.args.old.now) (take c.loop-y.y-index c.args.new.now)))
            ∙ sym (more ∙ ap (λ (b : Bool). filter (is_way c.args.old.now)
            (take c.loop-y.y-index c.args.new.now) ++ cond b (y ∷ []) []) (test ∙ w.if-contains.false))));
      }
    ]
