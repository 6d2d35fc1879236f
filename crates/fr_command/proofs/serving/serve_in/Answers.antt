use Rattle.std.proofs.Common.{IfErr, ap, subst}
use Rattle.fr_route.specs.declared.form.Form.{Form}
use Rattle.fr_command.specs.Conversations.{Talk}
use Rattle.fr_command.specs.Faults.{IsServeFaultIn}
use Rattle.fr_command.proofs.serving.serve_in.Goals as goal

pub returns-clause-fault : goal.returns-clause-fault
returns-clause-fault g c =
    let old = g.S.Stream.traffic c.args.stream.now in
    let new = g.S.Stream.traffic c.serve_conversation.new.stream in
    subst (λ (form : Form). IfErr c.serve_conversation.result (IsServeFaultIn form old new))
    (ap (λ (talk : Talk). talk.form) c.with_form-conversation.ensures) c.serve_conversation.ensures.fault
