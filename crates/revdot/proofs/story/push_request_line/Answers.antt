use Rattle.std.proofs.Common.{◌≡◌, ◌++◌, refl, rules, string_bytes}
use Rattle.std.proofs.lemmas.Result.{on_ok_weaker}
use Rattle.fr_requests.specs.declared.requests.LineFault.TheVariants.{NotJson, NotRequest}
use Rattle.fr_route.specs.Texts.{refusal_text}
use Rattle.revdot.specs.Stories.{answer_text}
use Rattle.revdot.proofs.Telling.{unread_told}
use Rattle.revdot.proofs.story.push_request_line.Goals as goal

pub returns-in-Err-NotJson : goal.returns-in-Err-NotJson
returns-in-Err-NotJson c =
    let told =
    unread_told c.args.session.now NotJson 1 c.args.number c.args.line.now (search rules) (search rules) (refl, refl) in
    on_ok_weaker c.push_unreadable_line.result
    (λ (text : string_bytes c.push_unreadable_line.new.story ≡ string_bytes c.args.story.now
    ++ answer_text c.args.number
    (refusal_text 1)). (_, told, text)) c.push_unreadable_line.ensures

pub returns-in-Err-NotRequest : goal.returns-in-Err-NotRequest
returns-in-Err-NotRequest c =
    let told =
    unread_told c.args.session.now NotRequest 2 c.args.number c.args.line.now (search rules) (search rules) (
      refl,
      refl,
    ) in
    on_ok_weaker c.push_unreadable_line-in-Err-NotRequest.result
    (λ (text : string_bytes c.push_unreadable_line-in-Err-NotRequest.new.story ≡ string_bytes c.args.story.now
    ++ answer_text
    c.args.number (refusal_text 2)). (_, told, text)) c.push_unreadable_line-in-Err-NotRequest.ensures
