-- How many workers there may be. This project's own.
use Rattle.std.specs.Prelude.{ℕ}

-- the greatest number of workers that may turn the nodes of one network at once
abbrev pub most_workers : ℕ
most_workers = 16
