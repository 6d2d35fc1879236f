-- An input has only one output, and the answers to its first lines are a prefix of it.
use Rattle.std.proofs.Common.{◌≡◌, ◌∙◌, ◌↔◌, ℕ, ◌++◌, List, take, drop, append_assoc, sym, ap, subst, Option, None}
use Rattle.std.proofs.lemmas.List.{take-append-drop}
use Rattle.fr_route.specs.Answers.{AreAnswers}
use Rattle.fr_route.specs.States.{State}
use Rattle.fr_route.specs.declared.form.Form.{Form}
use Rattle.fr_route.specs.declared.form.Form.TheVariants.{Text}
use Rattle.fr_route.proofs.Determined.{answers_unique as texts_unique}
use Rattle.fr_bytes.specs.Lines.{lines_of}
use Rattle.fr_bytes.specs.Bytes.{IsBeginning}
use Rattle.fr_command.specs.Outputs.{IsOutput, IsOutputIn}
use Rattle.fr_command.specs.Points.{Point, AreAnswersIn, first_point}
use Rattle.fr_command.proofs.AnswersIn.{answers_begin, answers_unique, each_answers, text_answers}

-- an input has one output
pub output_unique : (form : Form) (bytes a b : List ℕ) → IsOutputIn form bytes a → IsOutputIn form bytes b → a ≡ b
output_unique form bytes a b h k = (answers_unique form first_point (lines_of bytes) a b h.0 k.0 h.1 k.1).0

-- each input has an output
pub each_output : (form : Form) (bytes : List ℕ) → (out : List ℕ) × IsOutputIn form bytes out
each_output form bytes = let all = each_answers form first_point tt (lines_of bytes) in (all.0, (all.1, all.2))

-- the output text has the text answers
pub text_output : (bytes out : List ℕ)
    → IsOutput bytes out ↔ ((last : Option State) × AreAnswers None (lines_of bytes) out last)
text_output bytes out = (
  λ h. (h.0.state, text_answers first_point (lines_of bytes) out h.0 h.1),
  λ h. let all = each_output Text bytes in
      let texts = text_answers first_point (lines_of bytes) all.0 all.1.0 all.1.1 in
      subst (λ (o : List ℕ). IsOutput bytes o)
      (texts_unique None (lines_of bytes) all.0 out all.1.0.state h.0 texts h.1).0 all.1,
)

-- the answers to the first lines are a prefix of the output
pub output_begins_with : (form : Form) (bytes a b : List ℕ) (lines : ℕ) (p : Point)
    → AreAnswersIn form first_point (take lines (lines_of bytes)) a p → IsOutputIn form bytes b → IsBeginning a b
output_begins_with form bytes a b lines p h k =
    let all : lines_of bytes
    ≡ take lines (lines_of bytes) ++ drop lines (lines_of bytes) = sym (take-append-drop lines (lines_of bytes)) in
    answers_begin form first_point (take lines (lines_of bytes)) (drop lines (lines_of bytes)) a b p k.0 h
    (subst (λ (ls : List (List ℕ)). AreAnswersIn form first_point ls b k.0) all k.1)

-- a prefix of a prefix
pub begins-trans : (a b c : List ℕ) → IsBeginning a b → IsBeginning b c → IsBeginning a c
begins-trans a b c h k = (h.0 ++ k.0, k.1 ∙ (ap (λ (o : List ℕ). o ++ k.0) h.1 ∙ append_assoc a h.0 k.0))

-- a prefix of what follows
pub begins_behind : (front out whole : List ℕ) → IsBeginning out whole → IsBeginning (front ++ out) (front ++ whole)
begins_behind front out whole h = (h.0, ap (λ (l : List ℕ). front ++ l) h.1 ∙ sym (append_assoc front out h.0))
