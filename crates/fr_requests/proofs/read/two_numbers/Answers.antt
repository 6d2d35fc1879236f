use Rattle.std.proofs.Common.{List, Some, [], ap, arith, get_or, length, map, option_and_then, option_map, sym, ℕ, ◌<◌}
use Rattle.std.proofs.Common.{◌∙◌, ◌∷◌, ◌≡◌, ◌≤◌}
use Rattle.fr_requests.specs.Values.{view}
use Rattle.fr_requests.specs.Values.{Value}
use Rattle.fr_requests.specs.Requests.{number_in, number_pair}
use Rattle.fr_requests.proofs.read.two_numbers.Goals as goal

two_items : (items : List Value) (u v : Value) → 2 ≤ length items → length items < 3 → u ≡ get_or items 0 u
    → v ≡ get_or items 1 v → items ≡ u ∷ v ∷ []
two_items [] u v some few first second = absurd (omega arith)
two_items (x ∷ []) u v some few first second = absurd (omega arith)
two_items (x ∷ y ∷ []) u v some few first second = cc
two_items (x ∷ y ∷ z ∷ rest) u v some few first second = absurd (omega arith)

pair_of : (u v : Value) (m n : ℕ) → number_in (view u) ≡ Some m → number_in (view v) ≡ Some n
    → number_pair (view u ∷ view v ∷ []) ≡ Some (m, n)
pair_of u v m n first second =
    ap (option_and_then (λ x. option_map (λ y. (x, y)) (number_in (view v)))) first
    ∙ ap (option_map (λ y. (m, y))) second

pub returns : goal.returns
returns c =
    let u = c.u-item.result in
    let v = c.v-item.result in
    let whole = two_items c.args.items.now u v c.in-len2.len_at_least c.in-len2.len_below c.u-item.is c.v-item.is in
    sym (ap (λ items. number_pair (map view items)) whole ∙ pair_of u v c.in_ok-number.field-0 c.in_ok-number-2.field-0
    (sym c.in_ok-number.ensures) (sym c.in_ok-number-2.ensures))
