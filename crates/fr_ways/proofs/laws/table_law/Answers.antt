use Rattle.std.proofs.Common.{Contains}
use Rattle.fr_ways.proofs.Parts.{arrives, failover, links_free, part_has, walks_short}
use Rattle.fr_ways.proofs.laws.table_law.Goals as goal

pub returns-clause-parts : goal.returns-clause-parts
returns-clause-parts c = part_has

pub returns-clause-links : goal.returns-clause-links
returns-clause-links c = λ links. links_free (λ x y. Contains links (x, y))

pub returns-clause-short : goal.returns-clause-short
returns-clause-short c = walks_short

pub returns-clause-arrives : goal.returns-clause-arrives
returns-clause-arrives c = arrives

pub returns-clause-failover : goal.returns-clause-failover
returns-clause-failover c = failover
