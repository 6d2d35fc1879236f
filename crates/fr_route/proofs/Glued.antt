-- Texts that are appended one after the other.
use Rattle.std.proofs.Common.{◌≡◌, ◌∙◌, ℕ, List, ◌++◌, ap, append_assoc}

pub glued3 : (a b c d x y z : List ℕ) → b ≡ a ++ x → c ≡ b ++ y → d ≡ c ++ z → d ≡ a ++ (x ++ (y ++ z))
glued3 a b c d x y z e f g =
    g ∙ (ap (λ (t : List ℕ). t ++ z) (f ∙ ap (λ (t : List ℕ). t ++ y) e)
    ∙ (append_assoc (a ++ x) y z ∙ append_assoc a x (y ++ z)))

pub glued4 : (a b c d e x y z w : List ℕ) → b ≡ a ++ x → c ≡ b ++ y → d ≡ c ++ z → e ≡ d ++ w
    → e ≡ a ++ (x ++ (y ++ (z ++ w)))
glued4 a b c d e x y z w f g h k =
    k ∙ (ap (λ (t : List ℕ). t ++ w) (glued3 a b c d x y z f g h) ∙ (append_assoc a (x ++ (y ++ z)) w
    ∙ ap (λ (t : List ℕ). a ++ t) (append_assoc x (y ++ z) w ∙ ap (λ (t : List ℕ). x ++ t) (append_assoc y z w))))

-- the next item before the rest
pub glued_rest : (a b x y rest all : List ℕ) → b ≡ a ++ (x ++ y) → a ++ (x ++ (y ++ rest)) ≡ all → b ++ rest ≡ all
glued_rest a b x y rest all e f =
    ap (λ (t : List ℕ). t ++ rest) e
    ∙ (append_assoc a (x ++ y) rest ∙ (ap (λ (t : List ℕ). a ++ t) (append_assoc x y rest) ∙ f))
