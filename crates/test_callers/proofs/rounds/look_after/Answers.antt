use Rattle.std.proofs.Common.{◌≡◌, ℕ, [], ◌∷◌, ◌++◌, append_assoc, append-nil, ap, sym, ◌∙◌}
use Rattle.std.specs.Prelude.{IfErr, IfOk, Result, Ok, Err}
use Rattle.fr_core.specs.declared.entry.Reply.{Reply}
use Rattle.fr_round.specs.declared.faults.Refusal.{Refusal}
use Rattle.fr_round.specs.declared.view.Setup.{Setup}
use Rattle.fr_round.specs.Histories.{StartsWith, entry}
use Rattle.fr_round.specs.Knowledge.{Knowledge, LearnsReply, RefusesLook}
use Rattle.test_callers.proofs.rounds.look_after.Goals as goal

-- a look forgets nothing, decided or refused
known_after : (b : Setup) (before after : Knowledge) (x : ℕ) (result : Result Reply Refusal)
    → IfOk result (λ reply. LearnsReply before x reply after)
    → IfErr result (λ refusal. RefusesLook b x refusal × (after ≡ before)) → StartsWith after.known before.known
known_after b before after x (Ok reply) learns refused =
    let h = learns.history in
    let e = entry before.number x reply in
    (h.between ++ e ∷ [], h.begins ∙ append_assoc before.known h.between (e ∷ []))
known_after b before after x (Err refusal) learns refused =
    ([], ap (λ (k : Knowledge). k.known) refused.1 ∙ sym (append-nil before.known))

pub returns : goal.returns
returns c =
    let l = c.look.ensures in
    let more =
    known_after c.args.round.now.setup c.learn.new.worker c.look.new.worker c.args.x c.look.result l.learns l.refused in
    let learned = c.learn.ensures.learns in
    let past = ap (λ p. p.known) c.past-past.ensures.past in (
      learned.0 ++ more.0,
      more.1 ∙ (ap (λ l. l ++ more.0) (learned.1 ∙ ap (λ l. l ++ learned.0) past)
          ∙ append_assoc c.args.first.now.known learned.0 more.0),
    )
