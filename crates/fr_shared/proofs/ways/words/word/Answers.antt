use Rattle.std.proofs.Common.{ap, arith, drop, length, ℕ, ◌*◌, ◌+◌, ◌-◌, ◌∙◌, ◌≡◌}
use Rattle.fr_shared.specs.WayTables.{digits_of, ways_of, word_of}
use Rattle.fr_shared.proofs.WayWords.{digits_from, word_again}
use Rattle.fr_shared.proofs.ways.words.word.Goals as goal

pub overflow_mul-digits : goal.overflow_mul-digits
overflow_mul-digits c =
    let before = c.loop-k.invariant in
    let low = digits_from 4 c.args.ways.now c.loop-k.k c.requires (omega (arith, c.requires.few, c.loop-k-test.true)) in
    omega (arith, low, before.digits)

pub overflow_add-digits : goal.overflow_add-digits
overflow_add-digits c =
    let before = c.loop-k.invariant in
    let low = digits_from 4 c.args.ways.now c.loop-k.k c.requires (omega (arith, c.requires.few, c.loop-k-test.true)) in
    let way = c.requires.low (c.loop-k.k - 1) (omega (arith, before.low, c.loop-k-test.true)) in
    omega (arith, low, before.digits, way, c.from.ensures)

pub overflow_mul-result : goal.overflow_mul-result
overflow_mul-result c =
    let low = digits_from 5 c.args.ways.now c.loop-k.k c.requires (omega (arith, c.requires.few)) in
    omega (arith, low, c.loop-k.invariant.digits)

pub overflow_add-result : goal.overflow_add-result
overflow_add-result c =
    let low = digits_from 5 c.args.ways.now c.loop-k.k c.requires (omega (arith, c.requires.few)) in
    omega (arith, low, c.loop-k.invariant.digits, c.requires.few)

pub returns-clause-held : goal.returns-clause-held
returns-clause-held c =
    let ys = c.args.ways.now in
    let none : c.loop-k.k ≡ 0 = omega (arith, c.loop-k-test.false) in
    let digits : c.loop-k.digits ≡ digits_of ys =
    c.loop-k.invariant.digits ∙ ap (λ (k : ℕ). digits_of (drop k ys)) none in
    let word : c.loop-k.digits * 16 + length ys ≡ word_of ys = omega (arith, digits) in
    ap ways_of word ∙ word_again ys c.requires
