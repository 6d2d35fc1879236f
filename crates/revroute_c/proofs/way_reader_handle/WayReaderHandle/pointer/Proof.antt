-- `pointer` lends the handle's own place.
use Rattle.std.proofs.Common.{refl}
use Rattle.revroute_c.specs.WayReaderLending.{handle_of, way_reader_pointer}
use Rattle.revroute_c.specs.contracts.way_reader_handle.WayReaderHandle.{the_row}
use Rattle.revroute_c.specs.contracts.way_reader_handle.WayReaderHandle.pointer.Key.{name}
use Rattle.revroute_c.proofs.Places.{lends_place}
use Rattle.revroute_c.proofs.way_reader_handle.WayReaderHandle.pointer.Statement.{statement}
use Rattle.revroute_c.proofs.way_reader_handle.WayReaderHandle.pointer.Code as code

pub pointer_spec : {M : Type 1} → statement M
pointer_spec 𝓤 𝓛 𝓜 𝓡 wired =
    lends_place the_row way_reader_pointer handle_of (λ h. record { at = h.at; value = h.reading }) refl (λ p vs. refl) (λ h. refl)
    𝓛 𝓜 𝓡 name (code.unfolded 𝓤 𝓛.H 𝓜 𝓡 wired)
