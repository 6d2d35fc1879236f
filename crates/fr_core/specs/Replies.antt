-- Which replies a call can have, and which call a target asks for. This project's own.
use Rattle.std.specs.Prelude.{◌≡◌, ℕ, List, [], ◌∷◌}
use Rattle.fr_core.specs.declared.entry.Reply.{Reply}
use Rattle.fr_core.specs.declared.entry.Reply.TheVariants.{Turned, Held, Moved, Cut, Sink}
use Rattle.fr_core.specs.declared.targets.Target.{Target}
use Rattle.fr_core.specs.declared.targets.Target.TheVariants.{Turn, Look}

-- the kinds of reply that a call to turn a node has
abbrev pub IsReplyToTurn : Reply → Type 0
IsReplyToTurn (Turned k) = Unit {0}
IsReplyToTurn (Held w) = Unit {0}
IsReplyToTurn (Moved had k) = Unit {0}
IsReplyToTurn Cut = Unit {0}
IsReplyToTurn Sink = ⊥

-- the kinds of reply that a look at a node has
abbrev pub IsReplyToLook : Reply → Type 0
IsReplyToLook (Turned k) = ⊥
IsReplyToLook (Held w) = Unit {0}
IsReplyToLook (Moved had k) = Unit {0}
IsReplyToLook Cut = ⊥
IsReplyToLook Sink = Unit {0}

-- the node and the reply of a call that the target asked for
abbrev pub IsAnswerTo : Target → ℕ × Reply → Type 0
IsAnswerTo (Turn x) answer = (answer.0 ≡ x) × IsReplyToTurn answer.1
IsAnswerTo (Look x) answer = (answer.0 ≡ x) × IsReplyToLook answer.1

-- one answer to each target, in order
abbrev pub AreAnswersTo : List Target → List (ℕ × Reply) → Type 0
AreAnswersTo [] [] = Unit {0}
AreAnswersTo [] (a ∷ answers) = ⊥
AreAnswersTo (t ∷ ts) [] = ⊥
AreAnswersTo (t ∷ ts) (a ∷ answers) = IsAnswerTo t a × AreAnswersTo ts answers
