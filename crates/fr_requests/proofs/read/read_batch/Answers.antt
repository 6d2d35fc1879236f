use Rattle.std.proofs.Common.{List, [], ap, arith, get_or, length, map, ok_or, option_map, ◌<◌, ◌∙◌, ◌∷◌, ◌≡◌, ◌≤◌}
use Rattle.fr_requests.specs.Values.{view}
use Rattle.fr_requests.specs.Values.{Value}
use Rattle.fr_requests.specs.Requests.{batch_request, make_edits}
use Rattle.fr_requests.specs.declared.requests.LineFault.TheVariants.{NotRequest}
use Rattle.fr_requests.proofs.read.read_batch.Goals as goal

lone_item : (items : List Value) (v : Value) → 1 ≤ length items → length items < 2 → v ≡ get_or items 0 v
    → items ≡ v ∷ []
lone_item [] v some few first = absurd (omega arith)
lone_item (x ∷ []) v some few first = cc
lone_item (x ∷ y ∷ rest) v some few first = absurd (omega arith)

pub returns : goal.returns
returns c =
    let whole =
    lone_item c.args.rest.now c.edits-item.result c.in-len1.len_at_least c.in-len1.len_below c.edits-item.is in (
      ap (λ items. ok_or (batch_request (map view items)) NotRequest) whole
          ∙ ap (λ o. ok_or (option_map make_edits o) NotRequest) c.in_ok-edits.ensures.ok,
      tt,
    )
