use Rattle.std.proofs.Common.{ap, arith, codes, sym, ◌++◌, ◌+◌, ◌<◌, ◌∙◌, ◌∷◌, ◌≡◌, []}
use Rattle.std.proofs.lemmas.Fmt.{decimal_digit}
use Rattle.fr_route.specs.Refusals.{number_of}
use Rattle.fr_route.specs.Texts.{refusal_text}
use Rattle.fr_route.specs.declared.refusals.Reason.{Reason}
use Rattle.fr_route.specs.declared.refusals.Reason.TheVariants.{NotJson, NotRequest, NoNetwork, NoNode}
use Rattle.fr_route.specs.declared.refusals.Reason.TheVariants.{SelfLink, Twice, Cycle, NoLink, TooMany}
use Rattle.fr_route.proofs.refusals.Reason.answer.Goals as goal

-- a number of one digit at the end
digit : (reason this : Reason) → reason ≡ this → number_of this < 10
    → codes "refused " ++ (48 + number_of this) ∷ [] ≡ refusal_text (number_of reason)
digit reason this is low =
    let one = decimal_digit (number_of this) low in
    sym (ap (λ r. refusal_text (number_of r)) is ∙ ap (λ digits. codes "refused " ++ digits) one)

pub returns-in-NotJson : goal.returns-in-NotJson
returns-in-NotJson c = digit c.args.self NotJson c.in-NotJson.is (omega arith)

pub returns-in-NotRequest : goal.returns-in-NotRequest
returns-in-NotRequest c = digit c.args.self NotRequest c.in-NotRequest.is (omega arith)

pub returns-in-NoNetwork : goal.returns-in-NoNetwork
returns-in-NoNetwork c = digit c.args.self NoNetwork c.in-NoNetwork.is (omega arith)

pub returns-in-NoNode : goal.returns-in-NoNode
returns-in-NoNode c = digit c.args.self NoNode c.in-NoNode.is (omega arith)

pub returns-in-SelfLink : goal.returns-in-SelfLink
returns-in-SelfLink c = digit c.args.self SelfLink c.in-SelfLink.is (omega arith)

pub returns-in-Twice : goal.returns-in-Twice
returns-in-Twice c = digit c.args.self Twice c.in-Twice.is (omega arith)

pub returns-in-Cycle : goal.returns-in-Cycle
returns-in-Cycle c = digit c.args.self Cycle c.in-Cycle.is (omega arith)

pub returns-in-NoLink : goal.returns-in-NoLink
returns-in-NoLink c = digit c.args.self NoLink c.in-NoLink.is (omega arith)

pub returns-in-TooMany : goal.returns-in-TooMany
returns-in-TooMany c = digit c.args.self TooMany c.in-TooMany.is (omega arith)
