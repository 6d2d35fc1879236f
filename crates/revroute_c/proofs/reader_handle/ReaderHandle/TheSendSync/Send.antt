-- A reader's handle may go to another thread, because a reader may.
use denote.Param.Send.{IsSend, owning_send, sendable}
use Rattle.fr_tables.specs.contracts.hop.Hop as hop
use Rattle.fr_shared.proofs.reader.Reader.TheSendSync as reader
use Rattle.fr_shared.specs.contracts.hops.HopItem.TheImpl as item
use Rattle.revroute_c.proofs.Owned.{owned_keyless}
use Rattle.revroute_c.specs.ReaderRows.{hop_reader as S}
use Rattle.revroute_c.specs.Readers.{no_reader}
use Rattle.revroute_c.specs.contracts.reader_handle.ReaderHandle.{the_row, the_type}

pub send : IsSend the_row
send =
    owning_send the_type (search sendable, tt)
    (λ d. owned_keyless S no_reader (reader.the_send hop.the_row item.ghosts) d.at d.reading)
    (λ k x w. tt)
