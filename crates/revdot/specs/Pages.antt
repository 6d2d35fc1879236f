-- The page of an input. This project's own.
use Rattle.std.specs.Prelude.{◌≡◌, ℕ, List, ◌++◌}
use Rattle.revdot.specs.Stories.{IsStory}

-- the story of the input between the two parts of the viewer
abbrev pub IsPage : List ℕ → List ℕ → List ℕ → List ℕ → Type 0
IsPage first last bytes out = (story : List ℕ) × IsStory bytes story × (out ≡ first ++ (story ++ last))
