-- The fields of a recorder. For proofs only.
use Rattle.std.specs.Prelude.{◌≡◌, ◌-◌, vec_capacity, vec_len}
use Rattle.fr_core.specs.History.{part}
use Rattle.fr_logs.specs.declared.recorder.Recorder.TheInside.{Inside}
use Rattle.fr_logs.specs.Recording.{Recording}

abbrev pub recording_of : Inside → Recording
recording_of r = record { worker = r.worker; room = vec_capacity r.log - vec_len r.log }

-- the log is the worker's own part of what it knows
abbrev pub IsSoundRecorder : Inside → Type 0
IsSoundRecorder r = r.log.items ≡ part r.worker.number r.worker.known
