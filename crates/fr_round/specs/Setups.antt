-- The setup of a round, from its terms. For proofs only.
use Rattle.fr_round.specs.declared.view.Setup.{Setup}
use Rattle.fr_round.specs.declared.round_setup.RoundSetup.{RoundSetup}

abbrev pub setup_of : RoundSetup → Setup
setup_of k = record { nodes = k.net.nodes; dest = k.dest; links = k.net.links; workers = k.workers }
