-- How faults of the layers below become faults of a router, and those of a router become faults of a session. For
-- proofs only.
use Rattle.std.specs.Prelude.{Option, Some, None}
use Rattle.fr_graph.specs.declared.fault.NetFault.{NetFault}
use Rattle.fr_graph.specs.declared.fault.NetFault.TheVariants as net
use Rattle.fr_graph.specs.declared.fault.NotEdited.{NotEdited}
use Rattle.fr_graph.specs.declared.fault.NotEdited.TheVariants.{Refused, Fault}
use Rattle.fr_crew.specs.declared.fault.CrewFault.{CrewFault}
use Rattle.fr_crew.specs.declared.fault.CrewFault.TheVariants as crew
use Rattle.fr_route.specs.declared.fault.AnswerFault.{AnswerFault}
use Rattle.fr_route.specs.declared.fault.AnswerFault.TheVariants as answer
use Rattle.fr_route.specs.declared.fault.NotMade.{NotMade}
use Rattle.fr_route.specs.declared.fault.RouteFault.{RouteFault}
use Rattle.fr_route.specs.declared.fault.RouteFault.TheVariants.{Net, Range, Start, Memory}

-- `Memory` is not a fault of links
abbrev pub of_net_fault : NetFault → RouteFault
of_net_fault net.Memory = Memory
of_net_fault fault = Net fault

abbrev pub of_crew_fault : CrewFault → RouteFault
of_crew_fault crew.Range = Range
of_crew_fault crew.Start = Start
of_crew_fault crew.Memory = Memory

-- with the place of the refused edit, if one is refused
abbrev pub of_not_edited : NotEdited RouteFault → NotMade
of_not_edited (Refused refused) = record { at = refused.at; fault = of_net_fault refused.fault }
of_not_edited (Fault fault) = record { at = 0; fault = fault }

-- a missing thread or missing memory stays a fault; any other fault is a refusal, and not a fault of a session
abbrev pub of_route_fault : RouteFault → Option AnswerFault
of_route_fault (Net net.Memory) = Some answer.Memory
of_route_fault (Net fault) = None
of_route_fault Range = None
of_route_fault Start = Some answer.Start
of_route_fault Memory = Some answer.Memory
