-- What a conversation has taken, and its answers.
use Rattle.std.proofs.Common.{◌≡◌, ◌∙◌, ℕ, List, [], ◌∷◌, ◌++◌, append_assoc, refl, sym, ap, subst, true}
use Rattle.std.proofs.lemmas.List.{same_from_push}
use Rattle.fr_route.specs.Blank.{is_blank}
use Rattle.fr_route.specs.declared.form.Form.{Form}
use Rattle.fr_bytes.specs.Lines.{lines_of}
use Rattle.fr_bytes.specs.Bytes.{IsBeginning}
use Rattle.fr_bytes.proofs.Ending.{parted, lines_go_on, line_goes_on}
use Rattle.fr_command.specs.Outputs.{IsOutputIn}
use Rattle.fr_command.specs.Points.{Point, AreAnswersIn, after_blank, first_point}
use Rattle.fr_command.specs.Conversations.{Talk, Takes, Ends, point_of, silence_in, talk_at}
use Rattle.fr_command.proofs.AnswersIn.{answers_append, answers_begin, answers_unique, blank_line, each_answers}

-- some bytes, and then others
pub takes_on : (first mid last : Talk) (xs ys p q : List ℕ) → Takes first xs p mid → Takes mid ys q last
    → Takes first (xs ++ ys) (p ++ q) last
takes_on first mid last xs ys p q h k =
    let onward : lines_of (first.begun ++ xs ++ ys) ≡ h.ended ++ (k.ended ++ last.begun ∷ []) =
    lines_go_on (first.begun ++ xs) mid.begun h.ended h.cut ys ∙ ap (λ (ls : List (List ℕ)). h.ended ++ ls) k.cut in
    let more = subst (λ (f : Form). AreAnswersIn f (point_of mid) k.ended q
    (point_of last)) h.same_form k.are_answers in
    record {
      ended = h.ended ++ k.ended;
      cut = ap lines_of (sym (append_assoc first.begun xs ys)) ∙
          (onward ∙ sym (append_assoc h.ended k.ended (last.begun ∷ [])));
      are_answers = answers_append first.form (point_of first) (point_of mid)
          (point_of last) h.ended k.ended p q h.are_answers more;
      same_form = k.same_form ∙ h.same_form;
    }

pub takes_unique : (old : Talk) (bytes p q : List ℕ) (a b : Talk) → Takes old bytes p a → Takes old bytes q b
    → (p ≡ q) × (a ≡ b)
takes_unique old bytes p q a b h k =
    let same = same_from_push h.ended k.ended a.begun b.begun (sym h.cut ∙ k.cut) in
    let answers = answers_unique old.form (point_of old) h.ended p q (point_of a) (point_of b) h.are_answers
    (subst (λ (ls : List (List ℕ)). AreAnswersIn old.form (point_of old) ls q (point_of b))
    (sym same.0) k.are_answers) in
    let form = h.same_form ∙ sym k.same_form in
    (answers.0, λ i. talk_at (form i) (answers.1 i) (same.1 i))

pub each_taken : (form : Form) (bytes : List ℕ)
    → (text : List ℕ) × (talk : Talk) × Takes (silence_in form) bytes text talk
each_taken form bytes =
    let parts = parted bytes in
    let answers = each_answers form first_point tt parts.ended in
    let talk : Talk = talk_at form answers.1 parts.begun in
    let taken : Takes (silence_in form) bytes answers.0 talk =
    record { ended = parts.ended; cut = parts.cut; are_answers = answers.2; same_form = refl } in
    (answers.0, talk, taken)

-- whatever follows, the answer to some bytes is a prefix of the output
pub answer_stands : (form : Form) (bytes more text whole : List ℕ) (talk : Talk)
    → Takes (silence_in form) bytes text talk
    → IsOutputIn form (bytes ++ more) whole → IsBeginning text whole
answer_stands form bytes more text whole talk h output =
    let all : AreAnswersIn form first_point (h.ended ++ lines_of (talk.begun ++ more)) whole output.0 =
    subst (λ (ls : List (List ℕ)). AreAnswersIn form first_point ls whole output.0)
    (lines_go_on bytes talk.begun h.ended h.cut more) output.1 in
    answers_begin form first_point h.ended (lines_of (talk.begun ++ more)) text whole
    (point_of talk) output.0 h.are_answers all

-- with the answers to the line that ends with the input, these are the answers to all lines
pub lines_end : (form : Form) (bytes text more : List ℕ) (talk : Talk) (last : Point)
    → Takes (silence_in form) bytes text talk
    → AreAnswersIn form (point_of talk) (talk.begun ∷ []) more last
    → AreAnswersIn form first_point (lines_of bytes) (text ++ more) last
lines_end form bytes text more talk last h end =
    let all = answers_append form first_point (point_of talk) last h.ended
    (talk.begun ∷ []) text more h.are_answers end in
    subst (λ (ls : List (List ℕ)). AreAnswersIn form first_point ls (text ++ more) last) (sym h.cut) all

-- the form in which a conversation answers the line that ends with the input
pub ends_in : (form : Form) (bytes text more : List ℕ) (talk last : Talk) → Takes (silence_in form) bytes text talk
    → Ends talk more last
    → AreAnswersIn form (point_of talk) (talk.begun ∷ []) more (point_of last)
ends_in form bytes text more talk last h end =
    subst (λ (f : Form). AreAnswersIn f (point_of talk) (talk.begun ∷ []) more (point_of last)) h.same_form end.0

-- with the answer to that line, it is the whole output
pub output_ends : (form : Form) (bytes text more : List ℕ) (talk last : Talk)
    → Takes (silence_in form) bytes text talk → Ends talk more last
    → IsOutputIn form bytes (text ++ more)
output_ends form bytes text more talk last h end = (
  point_of last,
  lines_end form bytes text more talk (point_of last) h
      (ends_in form bytes text more talk last h end),
)

-- bytes without a newline are added to the line that has begun
pub takes_none : (old new : Talk) (bytes : List ℕ) → lines_of old.begun ≡ old.begun ∷ [] → lines_of bytes ≡ bytes ∷ []
    → new.begun ≡ old.begun ++ bytes → point_of new ≡ point_of old → new.form ≡ old.form → Takes old bytes [] new
takes_none old new bytes alone one begun point form = record {
  ended = [];
  cut = line_goes_on old.begun bytes bytes [] alone one ∙ ap (λ (l : List ℕ). l ∷ []) (sym begun);
  are_answers = (refl, point);
  same_form = form;
}

-- bytes that end the line have its answer
pub takes_line : (old held new : Talk) (bytes front text : List ℕ) → lines_of old.begun ≡ old.begun ∷ []
    → lines_of bytes ≡ front ∷ [] ∷ [] → held.begun ≡ old.begun ++ front → point_of held ≡ point_of old
    → held.form ≡ old.form
    → Ends held text new → Takes old bytes text new
takes_line old held new bytes front text alone ended begun point form end = record {
  ended = held.begun ∷ [];
  cut = line_goes_on old.begun bytes front ([] ∷ []) alone ended ∙ (λ i. sym begun i ∷ sym end.1 i ∷ []);
  are_answers = subst (λ (f : Form). AreAnswersIn f (point_of old) (held.begun ∷ []) text (point_of new)) form
      (subst (λ (p : Point). AreAnswersIn held.form p (held.begun ∷ []) text (point_of new)) point end.0);
  same_form = end.2 ∙ form;
}

-- a blank line that ends has no answer
pub blank_ends : (held new : Talk) → is_blank held.begun ≡ true → point_of new ≡ after_blank (point_of held)
    → new.begun ≡ []
    → new.form ≡ held.form → Ends held [] new
blank_ends held new blank point begun form =
    (blank_line held.form held.begun (point_of held) (point_of new) blank point, begun, form)
