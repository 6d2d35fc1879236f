use Rattle.std.proofs.Common.{vec_len, length, ◌+◌, ◌-◌, ◌<◌, ◌≤◌}
use Rattle.std.specs.Io.KnownBytes.{Consumes}
use Rattle.fr_bytes.specs.declared.input.TheConstants.{MAX_BYTES}
use Rattle.fr_bytes.proofs.input.read_by_pieces.Given as goal

abbrev pub invariant-reads : goal.invariant-reads
invariant-reads g l = record {
  within : vec_len l.input ≤ MAX_BYTES + 1;
  some : 0 < length l.piece;
  taken : Consumes (g.R.Read.remaining l.fn.reader) (g.R.Read.remaining l.reader) l.input.items;
}

abbrev pub decreases-reads : goal.decreases-reads
decreases-reads g l = MAX_BYTES + 1 - vec_len l.input
