-- Why a line is not answered.
use Rattle.std.proofs.Common.{◌≡◌, ◌↔◌, false, List, ℕ, Option, refl, sym, subst}
use Rattle.std.specs.Io.KnownBytes.{Keeps}
use Rattle.fr_requests.specs.Requests.{reading}
use Rattle.fr_route.specs.Answers.{MayStartForLine}
use Rattle.fr_route.specs.Blank.{is_blank}
use Rattle.fr_route.specs.declared.fault.AnswerFault.{AnswerFault}
use Rattle.fr_route.specs.declared.fault.AnswerFault.TheVariants.{Start as StartAnswer, Memory as MemoryAnswer}
use Rattle.fr_route.specs.declared.form.Form.{Form}
use Rattle.fr_bytes.specs.declared.fault.RunFault.{RunFault}
use Rattle.fr_bytes.specs.declared.fault.RunFault.TheVariants.{Start, Memory}
use Rattle.fr_command.specs.Faults.{IsFinishFault}
use Rattle.fr_command.specs.InLines.{IsLineFault, IsUnanswered}
use Rattle.fr_command.specs.Points.{Point}

pub unanswered : (point : Point) (line : List ℕ) (fault : AnswerFault) → is_blank line ≡ false
    → (fault ≡ StartAnswer → MayStartForLine point.state (reading line)) → IsUnanswered point line fault
unanswered point line StartAnswer asks may = (asks, may refl)
unanswered point line MemoryAnswer asks may = asks

module _ (point : Point) (line : List ℕ) (fault : AnswerFault) (end : RunFault)
    (start : (end ≡ Start) ↔ (fault ≡ StartAnswer)) (memory : (end ≡ Memory) ↔ (fault ≡ MemoryAnswer)) where
  -- a run ends with the fault of its session
  pub line_fault : (form : Form) (before after : Option (List ℕ)) → IsUnanswered point line fault → Keeps before after
      → IsLineFault form point line before after end
  line_fault form before after why kept = go fault start memory why
    where
      go : (f : AnswerFault) → (end ≡ Start) ↔ (f ≡ StartAnswer) → (end ≡ Memory) ↔ (f ≡ MemoryAnswer)
          → IsUnanswered point line f → IsLineFault form point line before after end
      go StartAnswer s m w = subst (IsLineFault form point line before after) (sym (s.1 refl)) (w, kept)
      go MemoryAnswer s m w = subst (IsLineFault form point line before after) (sym (m.1 refl)) (w, kept)

  -- and so does a conversation
  pub finish_fault : IsUnanswered point line fault → IsFinishFault point line end
  finish_fault why = go fault start memory why
    where
      go : (f : AnswerFault) → (end ≡ Start) ↔ (f ≡ StartAnswer) → (end ≡ Memory) ↔ (f ≡ MemoryAnswer)
          → IsUnanswered point line f → IsFinishFault point line end
      go StartAnswer s m w = subst (IsFinishFault point line) (sym (s.1 refl)) w
      go MemoryAnswer s m w = subst (IsFinishFault point line) (sym (m.1 refl)) w
