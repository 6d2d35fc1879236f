use Rattle.std.proofs.Common.{sym, ◌∙◌}
use Rattle.fr_bytes.proofs.Ending.{end_or_all}
use Rattle.fr_bytes.proofs.lines.front_size.Goals as goal

pub returns : goal.returns
returns c = c.unwrap_or.ensures ∙ end_or_all c.args.text.now c.line_end.result (sym c.line_end.ensures)
