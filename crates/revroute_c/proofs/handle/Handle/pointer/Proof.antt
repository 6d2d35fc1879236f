-- `pointer` lends the handle's own place.
use Rattle.std.proofs.Common.{refl}
use Rattle.revroute_c.specs.Lending.{handle_of, held_by, session_pointer}
use Rattle.revroute_c.specs.contracts.handle.Handle.{the_row}
use Rattle.revroute_c.specs.contracts.handle.Handle.pointer.Key.{name}
use Rattle.revroute_c.proofs.Places.{lends_place}
use Rattle.revroute_c.proofs.handle.Handle.pointer.Statement.{statement}
use Rattle.revroute_c.proofs.handle.Handle.pointer.Code as code

pub pointer_spec : {M : Type 1} → statement M
pointer_spec 𝓤 𝓛 𝓜 𝓡 wired =
    lends_place the_row session_pointer handle_of (λ h. record { at = h.at; value = held_by h }) refl (λ p vs. refl) (λ h. refl)
    𝓛 𝓜 𝓡 name (code.unfolded 𝓤 𝓛.H 𝓜 𝓡 wired)
