-- What is known of a connection that keeps a log. This project's own.
use Rattle.std.specs.Prelude.{ℕ, List, Some, map}
use Rattle.fr_bytes.specs.Streams.{Moment, Traffic}
use Rattle.test_callers.specs.declared.connections.Mark.{Mark}

-- the moment of a mark: what was flushed was delivered
abbrev pub moment_of : Mark → Moment
moment_of mark = record { read = mark.read.items; written = mark.written.items; flushed = mark.delivered.items }

-- the traffic of a connection with these bytes left to read, at this moment, whose reads began at these marks
abbrev pub traffic_in : List ℕ → Mark → List Mark → Traffic
traffic_in rest done reads = record {
  left = Some rest;
  written = Some done.written.items;
  log = Some (record { now = moment_of done; reads = map moment_of reads });
}
