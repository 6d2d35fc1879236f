use Rattle.std.proofs.Common.{refl}
use Rattle.revdot.specs.Graphs.{opening}
use Rattle.revdot.proofs.graphs.opening_text.Goals as goal

pub returns : goal.returns
unfolding opening
returns c = refl
