use Rattle.fr_core.proofs.Settling.{settled_from_none}
use Rattle.fr_core.proofs.Away.{lawful_at_most}
use Rattle.fr_core.proofs.Unique.{lawful_le_settled, settled_lawful, none_at_settled, settled_unique}
use Rattle.fr_core.proofs.laws.settled_law.Goals as goal

pub returns-clause-bound : goal.returns-clause-bound
returns-clause-bound c = λ n d first counts x away lawful walk. lawful_at_most n d first counts lawful x away walk

pub returns-clause-settled : goal.returns-clause-settled
returns-clause-settled c =
    λ n d first counts net below lawful none_left. settled_from_none n d first net below counts lawful none_left

pub returns-clause-last : goal.returns-clause-last
returns-clause-last c = λ n d first counts net below settled. (
  settled_lawful n d first net below counts settled,
  none_at_settled n d first net below counts settled,
)

pub returns-clause-unique : goal.returns-clause-unique
returns-clause-unique c = settled_unique

pub returns-clause-most : goal.returns-clause-most
returns-clause-most c = λ n d first counts settled x lawful h l. lawful_le_settled n d first counts settled lawful h x l
