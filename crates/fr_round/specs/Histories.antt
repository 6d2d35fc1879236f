-- Histories on the network of a round, from the counts 0. Histories are those of Herlihy and Wing (1990).
use Rattle.std.specs.Prelude.{◌≡◌, ◌≢◌, ℕ, List, [], ◌∷◌, ◌++◌, replicate}
use Rattle.std.specs.List.{AllByRecursion as Each}
use Rattle.fr_core.specs.History.{Moment, moment_of, after_all, count_at}
use Rattle.fr_core.specs.Legal.{IsRun}
use Rattle.fr_core.specs.declared.entry.Entry.{Entry}
use Rattle.fr_core.specs.declared.entry.Reply.{Reply}
use Rattle.fr_round.specs.declared.view.Setup.{Setup}

-- the first links with the counts 0
abbrev pub start : Setup → Moment
start b = moment_of b.links (replicate b.nodes 0)

-- the links and the counts after a history
abbrev pub moment : Setup → List Entry → Moment
moment b h = after_all (start b) h

-- the history is a run of full reversal on one thread
abbrev pub IsHistory : Setup → List Entry → Type 0
IsHistory b h = IsRun b.nodes b.dest (start b) h

-- the count of x after a history
abbrev pub reached : Setup → List Entry → ℕ → ℕ
reached b h x = count_at (moment b h) x

-- no number occurs twice
abbrev pub AreApart : List ℕ → Type 0
AreApart [] = Unit {0}
AreApart (k ∷ ks) = Each (λ (j : ℕ). j ≢ k) ks × AreApart ks

-- the known history is a prefix of the whole one
abbrev pub StartsWith : List Entry → List Entry → Type 0
StartsWith whole known = (rest : List Entry) × (whole ≡ known ++ rest)

-- the entry of worker k's call on x
abbrev pub entry : ℕ → ℕ → Reply → Entry
entry k x r = record { worker = k; node = x; reply = r }
