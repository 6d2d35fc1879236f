use Rattle.std.proofs.Common.{Some, ap, map, ◌∙◌}
use Rattle.fr_requests.specs.Values.{view}
use Rattle.fr_requests.proofs.Items.{items_viewed}
use Rattle.fr_requests.proofs.read.items_of.Goals as goal

pub returns-in-Array : goal.returns-in-Array
returns-in-Array c =
    ap (λ vs. Some (map view vs)) c.deref.ensures.value ∙ items_viewed c.args.value.now c.in-Array.items c.in-Array.is
