use Rattle.std.proofs.Common.{List, [], ap, arith, drop, get_or, length, length-drop, sym, take, ℕ, ◌++◌, ◌-◌, ◌<◌, ◌∙◌}
use Rattle.std.proofs.Common.{◌∷◌, ◌≡◌}
use Rattle.std.proofs.lemmas.List.{drop-map, map_more, take_all}
use Rattle.fr_search.specs.Search.{nodes_of}
use Rattle.fr_search.specs.declared.search.Step.{Step}
use Rattle.fr_search.proofs.search.cycle_closed_at.Goals as goal

abbrev no_step : Step
no_step = record { node = 0; next = 0 }

pub loop-step-init : goal.loop-step-init
loop-step-init c = c.in_ok-walk.ensures.items

pub loop-step-preserved : goal.loop-step-preserved
loop-step-preserved c =
    let path = c.args.path.now in
    let at = c.place_on_path-at.result in
    let i = c.loop-step.step-index in
    let rest = drop at path in
    let read = take (length path - at) rest in
    let inside : i < length rest = omega (arith, c.loop-step-test.true, length-drop at path) in
    let same : read ≡ rest = take_all (length path - at) rest (omega (arith, length-drop at path)) in
    c.in_ok-push.ensures.items ∙ ap (λ (ns : List ℕ). ns ++ (get_or read i no_step).node ∷ []) c.loop-step.invariant
    ∙ ap (λ (steps : List Step). nodes_of (take i rest) ++ (get_or steps i no_step).node ∷ []) same
    ∙ sym (map_more (λ (s : Step). s.node) rest i no_step inside)

pub returns : goal.returns
returns c =
    let path = c.args.path.now in
    let at = c.place_on_path-at.result in
    let rest = drop at path in
    let whole : c.loop-step.walk.items ≡ drop at (nodes_of path) = c.loop-step.invariant
    ∙ ap nodes_of (take_all c.loop-step.step-index rest (omega (arith, c.loop-step-test.false, length-drop at path)))
    ∙ sym (drop-map (λ (s : Step). s.node) at path) in (
      at,
      c.place_on_path-at.ensures.inside,
      c.place_on_path-at.ensures.is,
      c.in_ok-push-2.ensures.items ∙ ap (λ ns. ns ++ c.args.node ∷ []) whole,
    )
