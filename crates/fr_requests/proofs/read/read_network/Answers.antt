use Rattle.std.proofs.Common.{List, Some, [], ap, arith, get_or, length, map, ok_or, option_and_then, option_map, sym}
use Rattle.std.proofs.Common.{ℕ, ◌<◌, ◌∙◌, ◌∷◌, ◌≡◌, ◌≤◌}
use Rattle.fr_requests.specs.Values.{view}
use Rattle.fr_requests.specs.Values.{Value}
use Rattle.fr_requests.specs.Requests.{links_in, network_request, new_network, number_in}
use Rattle.fr_requests.specs.declared.requests.LineFault.TheVariants.{NotRequest}
use Rattle.fr_requests.proofs.read.read_network.Goals as goal

three_items : (items : List Value) (u v w : Value) → 3 ≤ length items → length items < 4 → u ≡ get_or items 0 u
    → v ≡ get_or items 1 v → w ≡ get_or items 2 w → items ≡ u ∷ v ∷ w ∷ []
three_items [] u v w some few first second third = absurd (omega arith)
three_items (x ∷ []) u v w some few first second third = absurd (omega arith)
three_items (x ∷ y ∷ []) u v w some few first second third = absurd (omega arith)
three_items (x ∷ y ∷ z ∷ []) u v w some few first second third = cc
three_items (x ∷ y ∷ z ∷ more ∷ rest) u v w some few first second third = absurd (omega arith)

network_of : (n d ls : Value) (nodes dest : ℕ) (links : List (ℕ × ℕ)) → number_in (view n) ≡ Some nodes
    → number_in (view d) ≡ Some dest → links_in (view ls) ≡ Some links
    → network_request (view n ∷ view d ∷ view ls ∷ []) ≡ Some (new_network nodes dest links)
network_of n d ls nodes dest links first second third =
    ap (option_and_then (λ x. option_and_then (λ y. option_map (new_network x y) (links_in (view ls)))
    (number_in (view d)))) first
    ∙ ap (option_and_then (λ y. option_map (new_network nodes y) (links_in (view ls)))) second
    ∙ ap (option_map (new_network nodes dest)) third

pub returns : goal.returns
returns c =
    let n = c.nodes-item.result in
    let d = c.dest-item.result in
    let ls = c.links-item.result in
    let found = c.in-Some-Some in
    let whole =
    three_items c.args.rest.now n d ls c.in-len3.len_at_least c.in-len3.len_below c.nodes-item.is c.dest-item.is
    c.links-item.is in
    let is = network_of n d ls found.nodes found.dest c.in_ok-links.links.items (sym c.number.ensures ∙ found.is-0)
    (sym c.number-2.ensures ∙ found.is-1) c.in_ok-links.ensures.ok in
    (ap (λ items. ok_or (network_request (map view items)) NotRequest) whole ∙ ap (λ o. ok_or o NotRequest) is, tt)
