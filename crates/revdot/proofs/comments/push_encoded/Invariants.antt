use Rattle.std.proofs.Common.{◌≡◌, ◌++◌, drop, string_bytes}
use Rattle.std.specs.List.{flat_map}
use Rattle.revdot.specs.Comments.{encoded_byte}
use Rattle.revdot.proofs.comments.push_encoded.Given as goal

abbrev pub invariant-loop-byte : goal.invariant-loop-byte
invariant-loop-byte l =
    string_bytes l.story ++ flat_map encoded_byte (drop l.byte-index l.line) ≡ string_bytes l.fn.story
    ++ flat_map encoded_byte l.line
