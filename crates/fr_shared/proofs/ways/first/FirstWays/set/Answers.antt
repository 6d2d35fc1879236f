use Rattle.std.proofs.Common.{List, ap, length, set, sym, take, ℕ, ◌<◌, ◌∙◌, ◌≡◌}
use Rattle.std.proofs.lemmas.List.{map-set}
use Rattle.fr_shared.specs.WayParts.{AreWords, held_table}
use Rattle.fr_shared.specs.WayTables.{Fit, word_of}
use Rattle.fr_shared.proofs.WayWords.{are_words, first_fit, set_fit}
use Rattle.fr_shared.proofs.ways.first.FirstWays.set.Goals as goal

pub word-requires : goal.word-requires
word-requires c = rw c.first_five.ensures (first_fit c.args.ways.now c.requires.low)

set_words : (words : List ℕ) (x : ℕ) (ys : List ℕ) → AreWords words → x < length (held_table words) → Fit ys
    → (held_table (set words x (word_of ys)) ≡ set (held_table words) x ys) × AreWords (set words x (word_of ys))
set_words words x ys are low fit =
    let table = held_table words in
    are_words (set table x ys) (set words x (word_of ys)) (set_fit table x ys low fit are.fit)
    (ap (λ (l : List ℕ). set l x (word_of ys)) are.again ∙ sym (map-set word_of table x ys))

pub invariant_of-self : goal.invariant_of-self
invariant_of-self c =
    let f = c.self.inside in
    let ys : List ℕ = take 5 c.args.ways.now in
    let low : c.args.x < length (held_table f.words.items) = rw c.self.view_is c.requires.node in
    rw (c.word.ensures.word, c.first_five.ensures)
    (set_words f.words.items c.args.x ys c.self.invariant low (first_fit c.args.ways.now c.requires.low)).1

pub returns : goal.returns
returns c =
    let f = c.self.inside in
    let ys : List ℕ = take 5 c.args.ways.now in
    let low : c.args.x < length (held_table f.words.items) = rw c.self.view_is c.requires.node in
    rw (c.word.ensures.word, c.first_five.ensures)
    ((set_words f.words.items c.args.x ys c.self.invariant low (first_fit c.args.ways.now c.requires.low)).0
    ∙ ap (λ (t : List (List ℕ)). set t c.args.x ys) c.self.view_is)
