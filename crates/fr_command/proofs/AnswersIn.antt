-- The answers to lines, in each form: there are answers, only one for each line, and those to the first lines begin
-- those to all.
use Rattle.std.proofs.Common.{◌≡◌, ◌∙◌, ◌↔◌, ℕ, Bool, true, false, List, [], ◌∷◌, ◌++◌, MatchBool, Option}
use Rattle.std.proofs.Common.{Result, Ok, Err, inl, inr, append_assoc, append-nil, refl, sym, ap, subst}
use Rattle.std.specs.Prelude.{IsTrue}
use Rattle.fr_requests.specs.Requests.{PlainRequest, reading}
use Rattle.fr_requests.specs.declared.requests.LineFault.{LineFault}
use Rattle.fr_requests.specs.declared.requests.LineFault.TheVariants.{NotJson, NotRequest, Memory}
use Rattle.fr_route.specs.Answers.{AreAnswers, IsLineAnswer}
use Rattle.fr_route.specs.Blank.{is_blank}
use Rattle.fr_route.specs.Forms.{IsLineRefused}
use Rattle.fr_route.specs.States.{State}
use Rattle.fr_route.specs.declared.form.Form.{Form}
use Rattle.fr_route.specs.declared.form.Form.TheVariants.{Text}
use Rattle.fr_route.proofs.Determined.{Answered as TextAnswered, asked_not_refused, by_blank, not_both}
use Rattle.fr_route.proofs.EachAnswer.{IsReached, each_line}
use Rattle.fr_route.proofs.AnsweredIn.{answer_in_unique}
use Rattle.fr_route.proofs.EachIn.{each_line_in}
use Rattle.fr_bytes.specs.Bytes.{IsBeginning}
use Rattle.fr_command.specs.Points.{Point, AreAnswersIn, IsAnswerAt, after_answer, after_blank, one_more}

-- the answer to a line that is not blank and to those after it
abbrev pub Answered : Form → Point → List ℕ → List (List ℕ) → List ℕ → Point → Type 0
Answered form old line rest out new =
    (text : List ℕ) × (is_refused : Bool) × (next : Option State) × (more : List ℕ)
    × IsAnswerAt form old line text is_refused next
    × AreAnswersIn form (after_answer old is_refused next) rest more new × (out ≡ (text ++ 10 ∷ []) ++ more)

either_way : (b : Bool) (P Q R S : Type 0) → (P → R) → (Q → S) → MatchBool b P Q → MatchBool b R S
either_way true P Q R S f g h = f h
either_way false P Q R S f g h = g h

-- a truth value for a fact is the only one
truth_unique : (P : Type 0) (a b : Bool) → (IsTrue a ↔ P) → (IsTrue b ↔ P) → a ≡ b
truth_unique P true b h k = sym (k.1 (h.0 refl))
truth_unique P false true h k = h.1 (k.0 refl)
truth_unique P false false h k = refl

-- a blank line has no answer
pub blank_line : (form : Form) (line : List ℕ) (old new : Point) → is_blank line ≡ true → new ≡ after_blank old
    → AreAnswersIn form old (line ∷ []) [] new
blank_line form line old new blank same = of (is_blank line) blank
  where
    of : (b : Bool) → b ≡ true
        → MatchBool b (AreAnswersIn form (after_blank old) [] [] new) (Answered form old line [] [] new)
    of true e = (refl, same)
    of false e = cc

-- the answer to any other line, with byte 10 after it
pub answered_line : (form : Form) (line text : List ℕ) (is_refused : Bool) (next : Option State) (old new : Point)
    → is_blank line ≡ false → IsAnswerAt form old line text is_refused next → new ≡ after_answer old is_refused next
    → AreAnswersIn form old (line ∷ []) (text ++ 10 ∷ []) new
answered_line form line text is_refused next old new asks is same = of (is_blank line) asks
  where
    of : (b : Bool) → b ≡ false
        → MatchBool b (AreAnswersIn form (after_blank old) [] (text ++ 10 ∷ []) new)
        (Answered form old line [] (text ++ 10 ∷ []) new)
    of true e = cc
    of false e = (text, is_refused, next, [], is, (refl, same), sym (append-nil (text ++ 10 ∷ [])))

-- the answers to some lines and then to others
pub answers_append : (form : Form) (old mid new : Point) (xs ys : List (List ℕ)) (out more : List ℕ)
    → AreAnswersIn form old xs out mid
    → AreAnswersIn form mid ys more new → AreAnswersIn form old (xs ++ ys) (out ++ more) new
answers_append form old mid new [] ys out more a b =
    let nothing : out ++ more ≡ more = ap (λ (o : List ℕ). o ++ more) a.0 in
    subst (λ (o : List ℕ). AreAnswersIn form old ys o new) (sym nothing)
    (subst (λ (t : Point). AreAnswersIn form t ys more new) a.1 b)
answers_append form old mid new (x ∷ xs) ys out more a b =
    either_way (is_blank x) (AreAnswersIn form (after_blank old) xs out mid) (Answered form old x xs out mid)
    (AreAnswersIn form (after_blank old) (xs ++ ys) (out ++ more) new)
    (Answered form old x (xs ++ ys) (out ++ more) new)
    (λ h. answers_append form (after_blank old) mid new xs ys out more h b)
    (λ h. (
      h.0,
      h.1,
      h.2,
      h.3 ++ more,
      h.4,
      answers_append form (after_answer old h.1 h.2) mid new xs ys h.3 more h.5 b,
      ap (λ (o : List ℕ). o ++ more) h.6 ∙ append_assoc (h.0 ++ 10 ∷ []) h.3 more,
    ))
    a

-- the same line, asked twice, is answered and counted alike
answer_unique : (form : Form) (old : Point) (line t u : List ℕ) (a b : Bool) (p q : Option State)
    → IsAnswerAt form old line t a p
    → IsAnswerAt form old line u b q → (t ≡ u) × (after_answer old a p ≡ after_answer old b q)
answer_unique form old line t u a b p q h k =
    let one = answer_in_unique form (one_more old.ended) old.state (reading line) t u p q h.0 k.0 in
    let same = truth_unique (IsLineRefused old.state (reading line)) a b h.1 k.1 in
    (one.0, λ i. after_answer old (same i) (one.1 i))

-- the lines determine the answers and the point after them
pub answers_unique : (form : Form) (old : Point) (lines : List (List ℕ)) (a b : List ℕ) (p q : Point)
    → AreAnswersIn form old lines a p
    → AreAnswersIn form old lines b q → (a ≡ b) × (p ≡ q)
answers_unique form old [] a b p q h k = (h.0 ∙ sym k.0, h.1 ∙ sym k.1)
answers_unique form old (line ∷ rest) a b p q h k =
    by_blank (is_blank line) (AreAnswersIn form (after_blank old) rest a p) (Answered form old line rest a p)
    (AreAnswersIn form (after_blank old) rest b q) (Answered form old line rest b q) ((a ≡ b) × (p ≡ q))
    (answers_unique form (after_blank old) rest a b p q)
    (λ h k.
    let one = answer_unique form old line h.0 k.0 h.1 k.1 h.2 k.2 h.4 k.4 in
    let more = answers_unique form (after_answer old k.1 k.2) rest h.3 k.3 p q
    (subst (λ (t : Point). AreAnswersIn form t rest h.3 p) one.1 h.5) k.5 in
    let texts : (h.0 ++ 10 ∷ []) ++ h.3 ≡ (k.0 ++ 10 ∷ []) ++ k.3 = (λ i. (one.0 i ++ 10 ∷ []) ++ more.0 i) in
    (h.6 ∙ (texts ∙ sym k.6), more.1))
    h k

-- the answers to some lines are a prefix of the answers to these and more lines
pub answers_begin : (form : Form) (old : Point) (xs ys : List (List ℕ)) (a b : List ℕ) (p q : Point)
    → AreAnswersIn form old xs a p
    → AreAnswersIn form old (xs ++ ys) b q → IsBeginning a b
answers_begin form old [] ys a b p q h k = (b, ap (λ (o : List ℕ). o ++ b) (sym h.0))
answers_begin form old (line ∷ rest) ys a b p q h k =
    by_blank (is_blank line) (AreAnswersIn form (after_blank old) rest a p) (Answered form old line rest a p)
    (AreAnswersIn form (after_blank old) (rest ++ ys) b q) (Answered form old line (rest ++ ys) b q) (IsBeginning a b)
    (answers_begin form (after_blank old) rest ys a b p q)
    (λ h k.
    let one = answer_unique form old line k.0 h.0 k.1 h.1 k.2 h.2 k.4 h.4 in
    let more = answers_begin form (after_answer old h.1 h.2) rest ys h.3 k.3 p q h.5
    (subst (λ (t : Point). AreAnswersIn form t (rest ++ ys) k.3 q) one.1 k.5) in
    let texts : (k.0 ++ 10 ∷ []) ++ k.3
    ≡ (h.0 ++ 10 ∷ []) ++ (h.3 ++ more.0) = (λ i. (one.0 i ++ 10 ∷ []) ++ more.1 i) in
    let parted : (h.0 ++ 10 ∷ []) ++ (h.3 ++ more.0) ≡ a ++ more.0 = sym (append_assoc (h.0 ++ 10 ∷ []) h.3 more.0)
    ∙ ap (λ (o : List ℕ). o ++ more.0) (sym h.6) in
    (more.0, k.6 ∙ (texts ∙ parted)))
    h k

-- a line that has an answer is refused or not
refused_or_not : (s : Option State) (asked : Result PlainRequest LineFault) (text : List ℕ) (next : Option State)
    → IsLineAnswer s asked text next → (is_refused : Bool) × (IsTrue is_refused ↔ IsLineRefused s asked)
refused_or_not s (Ok request) text next (inl h) = (true, (λ _. (h.0, h.1), λ _. refl))
refused_or_not s (Ok request) text next (inr (inl h)) =
    (false, (λ bad. cc, λ r. absurd (not_both s request r.0 h.0 r.1 h.1)))
refused_or_not s (Ok request) text next (inr (inr h)) =
    (false, (λ bad. cc, λ r. absurd (asked_not_refused s request h.0 r.0 h.1 r.1)))
refused_or_not s (Err NotJson) text next h = (true, (λ _. tt, λ _. refl))
refused_or_not s (Err NotRequest) text next h = (true, (λ _. tt, λ _. refl))
refused_or_not s (Err Memory) text next h = absurd h

either : (b : Bool) (P Q : List ℕ → Point → Type 0) → (out : List ℕ) × (last : Point) × P out last
    → (out : List ℕ) × (last : Point) × Q out last
    → (out : List ℕ) × (last : Point) × MatchBool b (P out last) (Q out last)
either true P Q p q = p
either false P Q p q = q

-- lines have answers, in a state that a session reaches
pub each_answers : (form : Form) (old : Point) → IsReached old.state → (lines : List (List ℕ))
    → (out : List ℕ) × (last : Point) × AreAnswersIn form old lines out last
each_answers form old reached [] = ([], old, (refl, refl))
each_answers form old reached (line ∷ rest) =
    let answer = each_line_in form (one_more old.ended) old.state reached line in
    let told = each_line old.state reached line in
    let refused = refused_or_not old.state (reading line) told.0 told.1 told.2 in
    let more = each_answers form (after_answer old refused.0 answer.1) answer.3 rest in
    either (is_blank line) (AreAnswersIn form (after_blank old) rest) (Answered form old line rest)
    (each_answers form (after_blank old) reached rest) (
      (answer.0 ++ 10 ∷ [])
          ++ more.0,
      more.1,
      (answer.0, refused.0, answer.1, more.0, (answer.2, refused.1), more.2, refl),
    )

-- the text answers to lines are those of a session that does not count them
pub text_answers : (old : Point) (lines : List (List ℕ)) (out : List ℕ) (new : Point)
    → AreAnswersIn Text old lines out new
    → AreAnswers old.state lines out new.state
text_answers old [] out new h = (h.0, ap (λ (t : Point). t.state) h.1)
text_answers old (line ∷ rest) out new h =
    either_way (is_blank line) (AreAnswersIn Text (after_blank old) rest out new) (Answered Text old line rest out new)
    (AreAnswers old.state rest out new.state) (TextAnswered old.state line rest out new.state)
    (text_answers (after_blank old) rest out new)
    (λ h. (h.0, h.2, h.3, h.4.0, text_answers (after_answer old h.1 h.2) rest h.3 new h.5, h.6))
    h
