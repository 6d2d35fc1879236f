-- The laws of outputs and of conversations. Each one is a clause of a function of src/laws.rt. This project's own.
use Rattle.std.specs.Prelude.{◌≡◌, ◌↔◌, ℕ, List, ◌++◌, Option, None}
use Rattle.fr_route.specs.Answers.{AreAnswers}
use Rattle.fr_route.specs.States.{State}
use Rattle.fr_route.specs.declared.form.Form.{Form}
use Rattle.fr_bytes.specs.Lines.{lines_of}
use Rattle.fr_bytes.specs.Bytes.{IsBeginning}
use Rattle.fr_command.specs.Outputs.{IsOutput, IsOutputIn}
use Rattle.fr_command.specs.Conversations.{Talk, Takes, Ends, silence_in}

-- In each form each input has an output.
abbrev pub EachInputHasAnOutput : Type 0
EachInputHasAnOutput = (form : Form) (bytes : List ℕ) → (out : List ℕ) × IsOutputIn form bytes out

-- In no form has an input two outputs.
abbrev pub OutputIsUnique : Type 0
OutputIsUnique = (form : Form) (bytes some other : List ℕ) → IsOutputIn form bytes some → IsOutputIn form bytes other
    → some ≡ other

-- The output text consists of the text answers to the lines.
abbrev pub TextHasTheAnswers : Type 0
TextHasTheAnswers = (bytes out : List ℕ)
    → IsOutput bytes out ↔ ((last : Option State) × AreAnswers None (lines_of bytes) out last)

-- In each form any bytes have an answer.
abbrev pub AllBytesAreTaken : Type 0
AllBytesAreTaken = (form : Form) (bytes : List ℕ)
    → (text : List ℕ) × (talk : Talk) × Takes (silence_in form) bytes text talk

-- No bytes have two answers.
abbrev pub AnswerIsUnique : Type 0
AnswerIsUnique = (old : Talk) (bytes some other : List ℕ) (new last : Talk) → Takes old bytes some new
    → Takes old bytes other last → (some ≡ other) × (new ≡ last)

-- Wherever the bytes are cut, the answers to the pieces, one after the other, are the answer to the whole.
abbrev pub CutsDoNotMatter : Type 0
CutsDoNotMatter = (old mid new : Talk) (front rest text more : List ℕ) → Takes old front text mid
    → Takes mid rest more new → Takes old (front ++ rest) (text ++ more) new

-- Whatever bytes follow, the answer to the bytes so far is a prefix of the output.
abbrev pub AnswerStands : Type 0
AnswerStands = (form : Form) (bytes rest text whole : List ℕ) (talk : Talk) → Takes (silence_in form) bytes text talk
    → IsOutputIn form (bytes ++ rest) whole → IsBeginning text whole

-- With the answer to the line that ends with the input, it is the whole output.
abbrev pub EndsWithTheOutput : Type 0
EndsWithTheOutput = (form : Form) (bytes text more : List ℕ) (talk last : Talk)
    → Takes (silence_in form) bytes text talk → Ends talk more last → IsOutputIn form bytes (text ++ more)
