-- Hops as numbers.
use Rattle.std.proofs.Common.{List, ap, arith, drop, get_or, length, map, subst, sym, ℕ, ◌<◌, ◌≤◌, ◌++◌, ◌∙◌, ◌≡◌}
use Rattle.std.proofs.lemmas.List.{get_or-map, length-map}
use Rattle.std.proofs.lemmas.Option.{get_or_from_slice_get, slice_get-get_or, slice_get_within}
use Rattle.fr_route.specs.Routes.{AreHops}
use Rattle.fr_route.specs.States.{State}
use Rattle.fr_tables.specs.declared.hop.Hop.{Hop}
use Rattle.fr_tables.specs.declared.hop.Hop.TheVariants.{Here}
use Rattle.revroute_c.specs.Questions.{AreHopNumbers, number_of}
use Rattle.revroute_c.specs.Replies.{IsWritten}

pub hop_numbers : (s : State) (hops : List Hop) → AreHops s s.nodes hops → AreHopNumbers s (map number_of hops)
hop_numbers s hops are = record {
  one_each = length-map hops number_of ∙ are.one_each;
  each = λ x number is.
      let low : x < length hops =
      subst (λ (n : ℕ). x < n) (length-map hops number_of) (slice_get_within (map number_of hops) x number is) in
      let hop : Hop = get_or hops x Here in (
        hop,
        (
          are.each x hop (slice_get-get_or hops x Here low),
          sym (get_or_from_slice_get (map number_of hops) x number 0 is) ∙ get_or-map number_of hops x Here 0 low,
        ),
      );
}

-- they are written if the place begins with them
pub numbers_written : (hops : List Hop) (before front : List ℕ) → front ≡ map number_of hops
    → length hops ≤ length before
    → IsWritten (map number_of hops) before (front ++ drop (length hops) before)
numbers_written hops before front is low =
    let numbers : List ℕ = map number_of hops in
    let long : length numbers ≡ length hops = length-map hops number_of in (
      omega (arith, long, low),
      ap (λ (t : List ℕ). t ++ drop (length hops) before) is
          ∙ ap (λ (n : ℕ). numbers ++ drop n before) (sym long),
    )
