use Rattle.std.proofs.Common.{[], arith, ◌++◌, ◌<◌, ◌∷◌, ◌^◌}
use Rattle.json.specs.Lex.{token}
use Rattle.json.specs.Token.{end_array}
use Rattle.fr_requests.specs.LineLexemes.{AreSmall, Begins, Each, link_lexemes, list_lexemes}
use Rattle.fr_requests.proofs.ByteLines.{network_reads}
use Rattle.fr_requests.proofs.word_lines.network_request.Goals as goal

pub returns-in-Some-2-clause-ok : goal.returns-in-Some-2-clause-ok
returns-in-Some-2-clause-ok c =
    let head = c.in-Some in
    let n : head.nodes < 2 ^ 32 = grind arith in
    let d : head.dest < 2 ^ 32 = grind arith in
    let links = c.in-Some-2.links.items in
    let closes : Begins head.items.now (list_lexemes link_lexemes links ++ token end_array ∷ []) []
    × Each AreSmall links = rw c.in-Some-2.is at c.in_ok-links.ensures.ok in
    network_reads _ _ head.nodes head.dest links n d head.ensures closes.0 closes.1
