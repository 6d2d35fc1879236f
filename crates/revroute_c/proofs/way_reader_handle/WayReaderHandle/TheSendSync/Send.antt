-- The handle of a reader of ways may go to another thread, because such a reader may.
use denote.Param.Send.{IsSend, owning_send, sendable}
use Rattle.fr_shared.proofs.reader.Reader.TheSendSync as reader
use Rattle.fr_shared.specs.contracts.ways.LinkedListU32Item.TheImpl as item
use Rattle.revroute_c.proofs.Owned.{owned_keyless}
use Rattle.revroute_c.specs.ReaderRows.{way_reader as S, ways_row}
use Rattle.revroute_c.specs.WayReaders.{no_way_reader}
use Rattle.revroute_c.specs.contracts.way_reader_handle.WayReaderHandle.{the_row, the_type}

pub send : IsSend the_row
send =
    owning_send the_type (search sendable, tt)
    (λ d. owned_keyless S no_way_reader (reader.the_send ways_row item.ghosts) d.at d.reading)
    (λ k x w. tt)
