-- The value of a `Net` in contracts. For proofs only.
use Rattle.fr_graph.specs.Graph.{IsGraph, shown}
use Rattle.fr_graph.specs.Network.{Network}
use Rattle.fr_graph.specs.declared.network.Net.TheInside.{Inside}

abbrev pub network_of : Inside → Network
network_of s = shown s.graph

abbrev pub IsNetwork : Inside → Type 0
IsNetwork s = IsGraph s.graph
