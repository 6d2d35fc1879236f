-- How far a session has answered lines.
use Rattle.std.proofs.Common.{◌≡◌, ◌∙◌, ℕ, Bool, true, false, List, [], ◌∷◌, ◌++◌, Option, None, append_assoc}
use Rattle.std.proofs.Common.{append-nil, refl, sym, ap, subst, MatchBool}
use Rattle.fr_requests.specs.Requests.{reading}
use Rattle.fr_route.specs.Answers.{AreAnswers, IsLineAnswer}
use Rattle.fr_route.specs.Blank.{is_blank}
use Rattle.fr_route.specs.States.{State}
use Rattle.fr_route.proofs.Determined.{Answered}

-- a session has answered the lines up to those that are left, with these answers
pub record HasAsked (lines : List (List ℕ)) (left : List (List ℕ)) (now : Option State) (answers : List ℕ) : Type 0
  where
    pub done : List (List ℕ)
    pub cut : lines ≡ done ++ left
    pub are_answers : AreAnswers None done answers now

-- a blank line changes nothing and has no answer
pub blank_line : (line : List ℕ) (now next : Option State) → is_blank line ≡ true → next ≡ now
    → AreAnswers now (line ∷ []) [] next
blank_line line now next blank same = of (is_blank line) blank
  where
    of : (b : Bool) → b ≡ true → MatchBool b (AreAnswers now [] [] next) (Answered now line [] [] next)
    of true e = (refl, same)
    of false e = cc

-- the answer to any other line, with byte 10 after it
pub answered_line : (line text : List ℕ) (now next : Option State) → is_blank line ≡ false
    → IsLineAnswer now (reading line) text next → AreAnswers now (line ∷ []) (text ++ 10 ∷ []) next
answered_line line text now next asks is = of (is_blank line) asks
  where
    of : (b : Bool) → b ≡ false
        → MatchBool b (AreAnswers now [] (text ++ 10 ∷ []) next) (Answered now line [] (text ++ 10 ∷ []) next)
    of true e = cc
    of false e = (text, next, [], is, (refl, refl), sym (append-nil (text ++ 10 ∷ [])))

-- a line that is not blank, and those after it
either_way : (b : Bool) (P Q R S : Type 0) → (P → R) → (Q → S) → MatchBool b P Q → MatchBool b R S
either_way true P Q R S f g h = f h
either_way false P Q R S f g h = g h

-- the answers to some lines and then to others
pub answers_append : (s mid last : Option State) (xs ys : List (List ℕ)) (out more : List ℕ) → AreAnswers s xs out mid
    → AreAnswers mid ys more last → AreAnswers s (xs ++ ys) (out ++ more) last
answers_append s mid last [] ys out more a b =
    let nothing : out ++ more ≡ more = ap (λ (o : List ℕ). o ++ more) a.0 in
    subst (λ (o : List ℕ). AreAnswers s ys o last) (sym nothing)
    (subst (λ (t : Option State). AreAnswers t ys more last) a.1 b)
answers_append s mid last (x ∷ xs) ys out more a b =
    either_way (is_blank x) (AreAnswers s xs out mid) (Answered s x xs out mid) (AreAnswers s (xs ++ ys) (out
    ++ more) last)
    (Answered s x (xs ++ ys) (out ++ more) last)
    (λ h. answers_append s mid last xs ys out more h b)
    (λ h. (
      h.0,
      h.1,
      h.2 ++ more,
      h.3,
      answers_append h.1 mid last xs ys h.2 more h.4 b,
      ap (λ (o : List ℕ). o ++ more) h.5
          ∙ append_assoc (h.0 ++ 10 ∷ []) h.2 more,
    ))
    a

unfoldable pub none_asked : (lines : List (List ℕ)) → HasAsked lines lines None []
none_asked lines = record {
  done = [];
  cut = refl;
  are_answers = (refl, refl);
}

-- one more line is answered
unfoldable pub asked_more : (lines : List (List ℕ)) (line : List ℕ) (left : List (List ℕ)) (now next : Option State)
    (answers more : List ℕ) → HasAsked lines (line ∷ left) now answers
    → AreAnswers now (line ∷ []) more next → HasAsked lines left next (answers ++ more)
asked_more lines line left now next answers more h are = record {
  done = h.done ++ line ∷ [];
  cut = h.cut ∙ sym (append_assoc h.done (line ∷ []) left);
  are_answers = answers_append None now next h.done (line ∷ []) answers more h.are_answers are;
}
