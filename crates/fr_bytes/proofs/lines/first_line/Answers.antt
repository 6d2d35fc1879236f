use Rattle.std.proofs.Common.{◌+◌, ◌-◌, length, drop, sym, arith}
use Rattle.std.proofs.Common.{length-drop}
use Rattle.std.proofs.lemmas.List.{take_all}
use Rattle.fr_bytes.proofs.Cutting.{lines_of-Some, lines_of-None}
use Rattle.fr_bytes.proofs.lines.first_line.Goals as goal

pub returns-in-Some-clause-first : goal.returns-in-Some-clause-first
returns-in-Some-clause-first c =
    let whole = take_all (length c.args.text.now - (c.in-Some.end + 1)) (drop (c.in-Some.end + 1) c.args.text.now)
    (omega (arith, length-drop (c.in-Some.end + 1) c.args.text.now)) in
    rw whole (lines_of-Some _ _ (sym c.in-Some.ensures))

pub returns-in-None-clause-first : goal.returns-in-None-clause-first
returns-in-None-clause-first c = lines_of-None _ (sym c.in-None.ensures)
