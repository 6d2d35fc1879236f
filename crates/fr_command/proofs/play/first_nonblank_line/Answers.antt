use Rattle.std.proofs.Common.{not, rules}
use Rattle.std.proofs.lemmas.Iterator.Consumers.{YieldsList-from_first}
use Rattle.std.proofs.lemmas.Iterator.Search.{find_from_yields_List}
use Rattle.fr_bytes.specs.Lines.{lines_left, lines_of}
use Rattle.fr_route.specs.Blank.{is_blank}
use Rattle.fr_command.proofs.play.first_nonblank_line.Goals as goal

pub returns : goal.returns
returns c =
    let yields = YieldsList-from_first (λ line. line.now) lines_left (lines_of c.args.input.now) c.new.ensures in
    find_from_yields_List (λ line. not (is_blank line)) c.find.new.self _ _ c.find.ensures.ran yields
    (λ x b q k. search rules)
