use Rattle.std.proofs.Common.{◌≡◌, ◌∙◌, ◌++◌, List, Ok, [], append-nil, codes, eqb, false, refl, rules, string_bytes}
use Rattle.std.proofs.Common.{subst, sym, true, ℕ}
use Rattle.std.proofs.lemmas.Result.{on_ok_weaker}
use Rattle.std.specs.List.{starts_with}
use Rattle.fr_requests.specs.Requests.{plain, reading}
use Rattle.fr_route.specs.Json.{EndsHere, IsJsonLineAnswer}
use Rattle.fr_route.specs.Telling.{IsTold}
use Rattle.revdot.specs.Stories.{IsRoundStory, makes_round, net_before, refusal_line}
use Rattle.revdot.proofs.Telling.{answered_told, refused_told, round_follows}
use Rattle.revdot.proofs.story.push_answered_line.Goals as goal

pub returns-then-starts_with : goal.returns-then-starts_with
returns-then-starts_with c =
    let next = c.answer_telling_alone.new.self in
    let last = c.push_refusal.new.session in
    let two = string_bytes c.push_asked.new.story in
    let new = string_bytes c.push_refusal.new.story in
    let tells : IsTold c.args.session.now (plain c.args.request.now) next [] c.answer_telling_alone.new.rerouted.items =
    rw c.new-rerouted.ensures.items at c.in-Ok.ensures.told in
    let starts : starts_with eqb (string_bytes c.in-Ok.answer) (codes "refused") ≡ true = search rules in
    on_ok_weaker c.push_refusal.result
    (λ (refusal : (text : List ℕ)
    × IsJsonLineAnswer EndsHere c.args.line.number next (reading c.args.line.bytes.now) text last
    × (new ≡ two ++ refusal_line text)).
    refused_told _ next last c.args.line.number _ _ _ refusal.0 (string_bytes c.args.story.now) _ two new
    c.in-Ok.ensures.text tells
    starts (rw c.requires at refusal.1) c.in_ok-writeln.ensures.bytes c.in_ok-push_asked.ensures refusal.2)
    c.push_refusal.ensures

pub returns-then-makes_round : goal.returns-then-makes_round
returns-then-makes_round c =
    let s = c.args.session.now in
    let request = plain c.args.request.now in
    let next = c.answer_telling_alone.new.self in
    let rerouted = c.answer_telling_alone.new.rerouted.items in
    let two = string_bytes c.push_asked.new.story in
    let new = string_bytes c.push_round.new.story in
    let tells : IsTold s request next [] rerouted = rw c.new-rerouted.ensures.items at c.in-Ok.ensures.told in
    let starts : starts_with eqb (string_bytes c.in-Ok.answer) (codes "refused") ≡ false =
    search (rules, c.if-starts_with.ensures, c.deref.ensures) in
    let makes : true ≡ makes_round request = search rules in
    let before = c.in_ok-before.before in
    on_ok_weaker c.push_round.result
    (λ (round : (told : List ℕ) × IsRoundStory true before.net before.ways next
    c.deref-then-makes_round.result.now told × (new ≡ two ++ told)).
    answered_told s next c.args.line.number request _ rerouted round.0 (string_bytes c.args.story.now) _ two new
    c.in-Ok.ensures.text tells
    (round_follows s next c.args.line.number request _ rerouted round.0 before.ways c.in-Ok.ensures.text starts
    c.in_ok-before.ensures.ways
    (rw (← makes, ← c.in_ok-before.ensures.net, ← c.deref-then-makes_round.ensures.value) round.1))
    c.in_ok-writeln.ensures.bytes c.in_ok-push_asked.ensures round.2)
    c.push_round.ensures

pub returns : goal.returns
returns c =
    let s = c.args.session.now in
    let request = plain c.args.request.now in
    let next = c.answer_telling_alone.new.self in
    let rerouted = c.answer_telling_alone.new.rerouted.items in
    let two = string_bytes c.push_asked.new.story in
    let tells : IsTold s request next [] rerouted = rw c.new-rerouted.ensures.items at c.in-Ok.ensures.told in
    let starts : starts_with eqb (string_bytes c.in-Ok.answer) (codes "refused") ≡ false =
    search (rules, c.if-starts_with.ensures, c.deref.ensures) in
    let none : makes_round request ≡ false = search rules in
    let before = c.in_ok-before.before in
    let nothing : IsRoundStory (makes_round request) (net_before s request) before.ways next rerouted [] =
    rw none refl in
    answered_told s next c.args.line.number request _ rerouted [] (string_bytes c.args.story.now) _ two two
    c.in-Ok.ensures.text tells
    (round_follows s next c.args.line.number request _ rerouted [] before.ways c.in-Ok.ensures.text starts
    c.in_ok-before.ensures.ways nothing)
    c.in_ok-writeln.ensures.bytes c.in_ok-push_asked.ensures (sym (append-nil two))
