use Rattle.std.proofs.Common.{arith, sym, ◌<◌, ◌^◌, ◌∙◌}
use Rattle.fr_requests.proofs.FrontTexts.{number_begins}
use Rattle.fr_requests.proofs.fronts.number_before.Goals as goal

pub returns : goal.returns
returns c =
    let n = c.in_ok-n.n in
    let small : n < 2 ^ 64 = grind arith in
    number_begins n c.args.mark c.args.text.now c.in_ok-n.rest.now c.in_ok-behind.behind.now small c.requires
    (sym c.skip_space.ensures ∙ c.in_ok-n.ensures) c.in_ok-behind.ensures.bytes
