use Rattle.std.proofs.Common.{Err, List, Ok, OnOk, Result, ap, arith, if◌then◌else◌}
use Rattle.std.proofs.Common.{ℕ, ◌++◌, ◌∙◌, ◌∷◌, ◌≡◌, [], string_bytes}
use Rattle.std.specs.Result.{is_ok}
use Rattle.revdot.proofs.comments.push_ascii.Goals as goal

pub returns : goal.returns
returns c =
    let byte : ℕ = c.args.character in
    let glyph : c.from.result ≡ byte = grind arith in
    let one = c.push.ensures.ascii (omega (arith, c.requires, glyph)) ∙ ap (λ (x : ℕ). x ∷ []) glyph in
    go (string_bytes c.args.story.now) (byte ∷ []) c.push.result one c.push.ensures.bytes
  where
    go : {E : Type 0} {said now : List ℕ} (old one : List ℕ) (r : Result (Unit {0}) E) → said ≡ one
        → now ≡ (if is_ok r then old ++ said else old) → OnOk r (now ≡ old ++ one)
    go old one (Ok u) is told = told ∙ ap (λ bytes. old ++ bytes) is
    go old one (Err e) is told = tt
