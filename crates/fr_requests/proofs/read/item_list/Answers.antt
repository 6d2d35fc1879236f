use Rattle.std.proofs.Common.{None, ap, get_or, option_and_then, option_map, refl, sym, ◌++◌, ◌∙◌, ◌≡◌}
use Rattle.fr_requests.specs.Values.{view}
use Rattle.fr_requests.specs.Returned.{IsReadNext}
use Rattle.fr_requests.specs.Requests.{read_all}
use Rattle.fr_requests.proofs.HandedOn.{handed_on}
use Rattle.fr_requests.proofs.Items.{reading_begins, reading_ends, reading_goes_on, reading_stops}
use Rattle.fr_requests.proofs.read.item_list.Goals as goal

pub loop-item-init : goal.loop-item-init
loop-item-init g c = reading_begins g.T.OfValue.in_data _ _ c.new-items.ensures.items

pub loop-item-preserved : goal.loop-item-preserved
loop-item-preserved g c =
    let l = c.loop-item in
    let next : IsReadNext g.T.OfValue.in_data l.items.items
    (view (get_or c.in-Some.values.now l.item-index c.item-item.result)) c.push_item.new.items.items =
    rw (← c.item-item.is) c.in_ok-push_item.ensures.ok in
    l.invariant ∙ reading_goes_on g.T.OfValue.in_data _ _ _ _ _ c.loop-item-test.true next

pub returns-in_default-clause-refused : goal.returns-in_default-clause-refused
returns-in_default-clause-refused g c _ =
    (refl, ap (option_and_then (read_all g.T.OfValue.in_data)) (sym c.in_default.ensures))

pub returns-in_err-push_item-clause-refused : goal.returns-in_err-push_item-clause-refused
returns-in_err-push_item-clause-refused g c =
    let l = c.loop-item in
    handed_on _ _ _ _ c.from_residual.ensures.1 (λ other.
    let why = c.in_err-push_item.ensures.refused other in
    let none : g.T.OfValue.in_data (view (get_or c.in-Some.values.now l.item-index c.item-item.result)) ≡ None =
    rw (← c.item-item.is) why.1 in
    let stops = reading_stops g.T.OfValue.in_data _ _ _ c.loop-item-test.true none in (
      why.0,
      ap (option_and_then (read_all g.T.OfValue.in_data)) (sym c.in-Some.ensures) ∙ l.invariant
          ∙ ap (option_map (λ more. l.items.items ++ more)) stops,
    ))

pub returns-clause-ok : goal.returns-clause-ok
returns-clause-ok g c =
    ap (option_and_then (read_all g.T.OfValue.in_data)) (sym c.in-Some.ensures) ∙ c.loop-item.invariant
    ∙ reading_ends g.T.OfValue.in_data _ _ _ c.loop-item-test.false
