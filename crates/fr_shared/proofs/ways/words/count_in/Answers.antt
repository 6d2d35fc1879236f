use Rattle.std.proofs.Common.{sym, ◌/◌, ◌%◌}
use Rattle.fr_shared.proofs.WayWords.{length-digits_in}
use Rattle.fr_shared.proofs.ways.words.count_in.Goals as goal

pub returns : goal.returns
returns c = sym (length-digits_in (c.args.word % 16) (c.args.word / 16))
