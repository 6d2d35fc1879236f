use Rattle.std.proofs.Common.{refl}
use Rattle.fr_route.proofs.space.AnswerSpace.take_with_notes.Goals as goal

pub returns : goal.returns
returns c = (_, refl)
