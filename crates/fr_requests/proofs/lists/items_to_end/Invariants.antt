use Rattle.std.proofs.Common.{length}
use Rattle.json.specs.Lex.{between, lex}
use Rattle.fr_requests.specs.LineLexemes.{Begins, Each}
use Rattle.fr_requests.proofs.ByteLines.{each_before_comma}
use Rattle.fr_requests.proofs.lists.items_to_end.Given as goal

-- the items so far are before the rest, each with its comma
abbrev pub invariant-items : goal.invariant-items
invariant-items g l =
    Begins l.text (each_before_comma g.T.Item.lexemes l.items.items) l.rest × Each g.T.Item.IsSmall l.items.items

abbrev pub decreases-items : goal.decreases-items
decreases-items g l = length (lex between l.rest)
