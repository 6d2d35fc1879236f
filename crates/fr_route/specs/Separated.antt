-- Texts of items with commas between them. This project's own.
use Rattle.std.specs.Prelude.{Bool, true, false, ℕ, List, [], ◌∷◌, ◌++◌, codes}

-- nothing before the first item, and a comma before each other one
abbrev pub comma_before : Bool → List ℕ
comma_before true = []
comma_before false = codes ","

-- the texts of the items, with commas between them. `first` says whether no item comes before these
abbrev pub separated : {X : Type 0} → (X → List ℕ) → Bool → List X → List ℕ
separated text first [] = []
separated text first (x ∷ xs) = comma_before first ++ (text x ++ separated text false xs)

abbrev pub listed : {X : Type 0} → (X → List ℕ) → List X → List ℕ
listed text xs = separated text true xs
