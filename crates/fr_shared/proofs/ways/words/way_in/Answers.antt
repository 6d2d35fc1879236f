use Rattle.fr_shared.proofs.WayWords.{way_at}
use Rattle.fr_shared.proofs.ways.words.way_in.Goals as goal

pub returns : goal.returns
returns c = way_at c.args.word c.args.k c.requires.place
