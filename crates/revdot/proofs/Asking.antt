-- How many lines of an input a session has answered. Comments are none of them.
use Rattle.std.proofs.Common.{◌≡◌, ℕ, true, false, List, [], ◌∷◌, ◌++◌, Option, Some, None, Global, String}
use Rattle.std.proofs.Common.{string_bytes, IfSome, IfNone, append-nil}
use Rattle.std.proofs.Common.{Bool, ap, cond, not, refl, subst, sym, ◌∙◌}
use Rattle.fr_requests.specs.Requests.{reading}
use Rattle.fr_route.specs.Answers.{IsLineAnswer, AreAnswers}
use Rattle.fr_route.specs.Blank.{is_blank}
use Rattle.fr_route.specs.States.{State}
use Rattle.fr_bytes.specs.Lines.{lines_of}
use Rattle.fr_route.proofs.Asking.{HasAsked, none_asked, asked_more, blank_line, answered_line}
use Rattle.revdot.specs.Comments.{is_comment, without_comments}
use Rattle.revdot.specs.Drawings.{IsLeftBy}

-- the session has answered the lines up to those that are left
abbrev pub IsAsked : List ℕ → List (List ℕ) → Option State → Type 0
IsAsked whole left now =
    (answers : List ℕ) × HasAsked (without_comments (lines_of whole)) (without_comments left) now answers

pub at_start : (whole : List ℕ) (left : List (List ℕ)) (now : Option State) → left ≡ lines_of whole → now ≡ None
    → IsAsked whole left now
at_start whole left now all none = rw (all, none) ([], none_asked (without_comments (lines_of whole)))

-- a comment is not answered
pub comment_of : (line : List ℕ) (now next : Option State) → is_comment line ≡ true → next ≡ now
    → (text : List ℕ) × AreAnswers now (without_comments (line ∷ [])) text next
comment_of line now next is same = ([], of (is_comment line) is)
  where
    of : (b : Bool) → b ≡ true → AreAnswers now (cond (not b) (line ∷ []) []) [] next
    of true e = (refl, same)
    of false e = cc

-- what a session answers to a line that is not a comment
pub answer_of : (line : List ℕ) (now next : Option State) (answer : Option (String Global)) → is_comment line ≡ false
    → IfNone answer ((is_blank line ≡ true) × (next ≡ now))
    → IfSome answer (λ text. (is_blank line ≡ false) × IsLineAnswer now (reading line) (string_bytes text) next)
    → (text : List ℕ) × AreAnswers now (without_comments (line ∷ [])) text next
answer_of line now next answer asks blank told = of (is_comment line) asks (any answer blank told)
  where
    any : (answer : Option (String Global)) → IfNone answer ((is_blank line ≡ true) × (next ≡ now))
        → IfSome answer (λ text. (is_blank line ≡ false) × IsLineAnswer now (reading line) (string_bytes text) next)
        → (text : List ℕ) × AreAnswers now (line ∷ []) text next
    any None blank told = ([], blank_line line now next blank.0 blank.1)
    any (Some text) blank told =
        (string_bytes text ++ 10 ∷ [], answered_line line (string_bytes text) now next told.0 told.1)

    of : (b : Bool) → b ≡ false → (text : List ℕ) × AreAnswers now (line ∷ []) text next
        → (text : List ℕ) × AreAnswers now (cond (not b) (line ∷ []) []) text next
    of true e is = cc
    of false e is = is

-- one more line
pub one_line_more : (whole line : List ℕ) (all left : List (List ℕ)) (now next : Option State) → all ≡ line ∷ left
    → IsAsked whole all now
    → ((text : List ℕ) × AreAnswers now (without_comments (line ∷ [])) text next) → IsAsked whole left next
one_line_more whole line all left now next first h is = (
  h.0 ++ is.0,
  of (not (is_comment line)) is.1
      (subst (λ (ls : List (List ℕ)). HasAsked lines (without_comments ls) now h.0) first h.1),
)
  where
    lines : List (List ℕ)
    lines = without_comments (lines_of whole)

    of : (b : Bool) → AreAnswers now (cond b (line ∷ []) []) is.0 next
        → HasAsked lines (cond b (line ∷ without_comments left) (without_comments left)) now h.0
        → HasAsked lines (without_comments left) next (h.0 ++ is.0)
    of true are asked = asked_more lines line (without_comments left) now next h.0 is.0 asked are
    of false are asked =
        let none : h.0 ++ is.0 ≡ h.0 = ap (λ (t : List ℕ). h.0 ++ t) are.0 ∙ append-nil h.0 in
        subst (λ (t : Option State). HasAsked lines (without_comments left) t (h.0 ++ is.0)) (sym are.1)
        (subst (λ (t : List ℕ). HasAsked lines (without_comments left) now t) (sym none) asked)

-- no line is left
pub all_asked : (whole : List ℕ) (left : List (List ℕ)) (last : Option State) → left ≡ [] → IsAsked whole left last
    → IsLeftBy whole last
all_asked whole left last none h =
    let lines = without_comments (lines_of whole) in
    let asked : HasAsked lines [] last h.0 =
    subst (λ (ls : List (List ℕ)). HasAsked lines (without_comments ls) last h.0) none h.1 in
    let all : asked.done ≡ lines = sym (asked.cut ∙ append-nil asked.done) in
    (h.0, subst (λ (ls : List (List ℕ)). AreAnswers None ls h.0 last) all asked.are_answers)
