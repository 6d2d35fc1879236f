-- What has been written when a play ends, all or a part.
use Rattle.std.proofs.Common.{ℕ, List, Option}
use Rattle.std.specs.Io.KnownBytes.{Appends}
use Rattle.fr_bytes.specs.Bytes.{IsBeginning}
use Rattle.fr_command.specs.Plays.{IsPlayOutput, WritesPlay, WritesPlayBeginning}
use Rattle.fr_cli.specs.declared.draws.Draw.{Draw}
use Rattle.fr_command.proofs.OnePlay.{play_output_unique}

module _ (draw : Draw) (bytes out : List ℕ) (count : ℕ) (output : IsPlayOutput draw bytes out count)
    (old new : Option (List ℕ)) where
  pub play_written : Appends old new out → WritesPlay draw bytes old new count
  play_written whole = record {
    out = out;
    output = output;
    only = λ other number is. play_output_unique draw bytes other out number count is output;
    writes = whole;
  }

  pub play_begun : (front : List ℕ) → IsBeginning front out → Appends old new front
      → WritesPlayBeginning draw bytes old new
  play_begun front begins part = record {
    whole = out;
    count = count;
    out = front;
    output = output;
    only = λ other number is. play_output_unique draw bytes other out number count is output;
    begins = begins;
    writes = part;
  }
