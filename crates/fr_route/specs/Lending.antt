-- The value of a session after its router was lent for changes. This project's own.
use Rattle.std.specs.Prelude.{Option, Some}
use Rattle.std.specs.Borrow.{Fml, MutBor, LendsIf}
use Rattle.fr_route.specs.States.{State}
use Rattle.fr_route.specs.contracts.router.Router.{the_row as router_row}
use Rattle.fr_route.specs.contracts.session.Session.{the_row}

-- the session ends with the last value of the lent router, and unchanged if there was none
abbrev pub LendsRouter : MutBor (Option State) → Option (MutBor State) → Fml
LendsRouter s r = LendsIf the_row router_row s r (λ router. Some router) s.now
