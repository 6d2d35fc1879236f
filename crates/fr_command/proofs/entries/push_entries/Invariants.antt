use Rattle.std.proofs.Common.{◌≡◌, ◌++◌, drop, string_bytes}
use Rattle.fr_command.specs.Plays.{entries_text}
use Rattle.fr_command.proofs.entries.push_entries.Given as goal

abbrev pub invariant-loop-entry : goal.invariant-loop-entry
invariant-loop-entry l = string_bytes l.text ++ entries_text (drop l.entry-index l.entries)
    ≡ string_bytes l.fn.text ++ entries_text l.entries
