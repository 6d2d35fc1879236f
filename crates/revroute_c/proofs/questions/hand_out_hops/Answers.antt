use Rattle.std.proofs.Common.{rules, map, sym}
use Rattle.std.proofs.lemmas.List.{length-map}
use Rattle.revroute_c.specs.Questions.{number_of}
use Rattle.revroute_c.proofs.HopNumbers.{hop_numbers, numbers_written}
use Rattle.revroute_c.proofs.questions.hand_out_hops.Goals as goal

pub returns-then-hops-place-clause-gives : goal.returns-then-hops-place-clause-gives
returns-then-hops-place-clause-gives c =
    let numbers = map number_of c.hops-hops.result.now in
    let are = hop_numbers c.args.router.now c.hops-hops.result.now c.hops-hops.ensures in
    record {
      written = search rules;
      too_short = λ _. (c.if-hops-place.true, (numbers, are.one_each, search rules));
      unchanged = search rules;
      none = search rules;
    }

pub returns-clause-gives : goal.returns-clause-gives
returns-clause-gives c =
    let hops = c.hops-hops.result.now in
    let are = hop_numbers c.args.router.now hops c.hops-hops.ensures in
    let written =
    numbers_written hops c.args.place.now c.fill_hops.new.place c.fill_hops.ensures c.if-hops-place.false in
    record {
      written = λ _. (map number_of hops, are.one_each, written, sym (length-map hops number_of));
      too_short = search rules;
      unchanged = search rules;
      none = search rules;
    }

pub returns-clause-hops : goal.returns-clause-hops
returns-clause-hops c = λ _.
    let hops = c.hops-hops.result.now in (
      map number_of hops,
      (
        hop_numbers c.args.router.now hops c.hops-hops.ensures,
        numbers_written hops c.args.place.now c.fill_hops.new.place c.fill_hops.ensures c.if-hops-place.false,
      ),
    )
