-- The numbers whose hop has changed, with their hops in the table after a round.
use Rattle.std.proofs.Common.{◌≡◌, ◌≢◌, ◌∙◌, ℕ, List, [], ◌∷◌, Option, ap, arith, get_or, length, map, refl, slice_get}
use Rattle.std.proofs.Common.{sym, subst, ⊎_elim}
use Rattle.std.specs.List.{AllByRecursion}
use Rattle.std.proofs.lemmas.Bool.{cases_lt}
use Rattle.std.proofs.lemmas.Option.{slice_get-get_or, slice_get_past}
use Rattle.fr_route.specs.Json.{AreChanges, more_json, no_more_json}
use Rattle.fr_route.specs.Pushing.{changes_of, hop_in}
use Rattle.fr_route.specs.Routes.{AreHops, IsHop}
use Rattle.fr_route.specs.Replies.{IsReportIn}
use Rattle.fr_route.specs.Reroutes.{AreReplacedWays}
use Rattle.fr_route.specs.Rooms.{report_in}
use Rattle.fr_route.specs.States.{State, IsAfterRound, IsReport}
use Rattle.fr_route.specs.declared.change.Report.{Report}
use Rattle.fr_route.specs.declared.form.Form.{Form}
use Rattle.fr_route.specs.declared.form.Form.TheVariants.{Text, Json, JsonWithWays}
use Rattle.fr_ways.specs.Changes.{Noted}
use Rattle.fr_tables.specs.declared.hop.Hop.{Hop}
use Rattle.fr_tables.specs.declared.hop.Hop.TheVariants.{CutOff}
use Rattle.fr_route.proofs.Determined.{one_hop}
use Rattle.fr_route.proofs.SettledHops.{outside_cut}

module _ (s : State) (after : IsAfterRound s) (hops : List Hop) (are : AreHops s s.nodes hops) where
  hop_is : (x : ℕ) → IsHop s x (hop_in (slice_get hops x))
  hop_is x = ⊎_elim
      (λ low. let is = slice_get-get_or hops x CutOff low in
      subst (λ (o : Option Hop). IsHop s x (hop_in o)) (sym is) (are.each x (get_or hops x CutOff) is))
      (λ out. subst (λ (o : Option Hop). IsHop s x (hop_in o)) (sym (slice_get_past hops x out))
      (outside_cut s after x (omega (arith, out, are.one_each))))
      (cases_lt x (length hops))

  these_are : (numbers : List ℕ) → map (λ (change : ℕ × Hop). change.0) (changes_of hops numbers) ≡ numbers
  these_are [] = refl
  these_are (x ∷ xs) = ap (λ (rest : List ℕ). x ∷ rest) (these_are xs)

  hops_are : (numbers : List ℕ)
      → AllByRecursion (λ (change : ℕ × Hop). IsHop s change.0 change.1) (changes_of hops numbers)
  hops_are [] = tt
  hops_are (x ∷ xs) = (hop_is x, hops_are xs)

  pub changes_are : (numbers : List ℕ) → AreChanges s numbers (changes_of hops numbers)
  changes_are numbers = record { these = these_are numbers; hops = hops_are numbers }

-- the numbers and the state determine the hops
same_changes : (s : State) (some other : List (ℕ × Hop))
    → map (λ (change : ℕ × Hop). change.0) some ≡ map (λ (change : ℕ × Hop). change.0) other
    → AllByRecursion (λ (change : ℕ × Hop). IsHop s change.0 change.1) some
    → AllByRecursion (λ (change : ℕ × Hop). IsHop s change.0 change.1) other → some ≡ other
same_changes s [] [] e h k = refl
same_changes s [] (y ∷ ys) e h k = cc
same_changes s (x ∷ xs) [] e h k = cc
same_changes s (x ∷ xs) (y ∷ ys) e h k =
    let number : x.0 ≡ y.0 = cc in
    let rest : map (λ (change : ℕ × Hop). change.0) xs ≡ map (λ (change : ℕ × Hop). change.0) ys = cc in
    let hop : x.1 ≡ y.1 = one_hop s y.0 x.1 y.1 (subst (λ (n : ℕ). IsHop s n x.1) number h.0) k.0 in
    let first : x ≡ y = (λ i. (number i, hop i)) in
    (λ i. first i ∷ same_changes s xs ys rest h.1 k.1 i)

pub changes_unique : (s : State) (numbers : List ℕ) (some other : List (ℕ × Hop)) → AreChanges s numbers some
    → AreChanges s numbers other → some ≡ other
changes_unique s numbers some other h k = same_changes s some other (h.these ∙ sym k.these) h.hops k.hops

-- the report of a round in each form
pub report_is : (form : Form) (Lists : List ℕ → Type 0) (s : Option State) (new : State) → IsAfterRound new
    → (report : Report) → IsReport new report.turned report.cut → (hops : List Hop) → AreHops new new.nodes hops
    → (numbers : List ℕ) → (form ≢ Text → Lists numbers)
    → (noted : Noted) → (form ≡ JsonWithWays → AreReplacedWays s new noted.shrink noted.grow)
    → (text : List ℕ) → text ≡ report_in form report numbers hops noted → IsReportIn form Lists s new text
report_is Text Lists s new after report is hops are numbers lists noted ways text e = (report.turned, report.cut, is, e)
report_is Json Lists s new after report is hops are numbers lists noted ways text e = (
  report.turned,
  report.cut,
  numbers,
  changes_of hops numbers,
  no_more_json,
  is,
  lists (λ same. absurd cc),
  changes_are new after hops are numbers,
  refl,
  e,
)
report_is JsonWithWays Lists s new after report is hops are numbers lists noted ways text e = (
  report.turned,
  report.cut,
  numbers,
  changes_of hops numbers,
  more_json noted.shrink noted.grow,
  is,
  lists (λ same. absurd cc),
  changes_are new after hops are numbers,
  (noted.shrink, noted.grow, ways refl, refl),
  e,
)
