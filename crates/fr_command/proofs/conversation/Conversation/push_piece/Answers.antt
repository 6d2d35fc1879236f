use Rattle.std.proofs.Common.{◌≡◌, ◌≢◌, ◌∙◌, ◌+◌, ◌<◌, ◌≤◌, ◌++◌, ◌∷◌, [], Bool}
use Rattle.std.proofs.Common.{List, ℕ, false, true, length, length-append}
use Rattle.std.proofs.Common.{not, take, refl, ap, sym, subst, arith, ⊎_elim}
use Rattle.std.proofs.lemmas.Bool.{cases_lt}
use Rattle.std.proofs.lemmas.List.Sums.{prefix_len-le-length}
use Rattle.std.specs.List.{before_first, position_or_len}
use Rattle.fr_route.specs.Blank.{is_blank}
use Rattle.fr_bytes.specs.Bytes.{most_bytes}
use Rattle.fr_bytes.specs.Lines.{lines_of}
use Rattle.fr_bytes.specs.declared.fault.RunFault.{RunFault}
use Rattle.fr_bytes.specs.declared.fault.RunFault.TheVariants.{Read, Write, TooLong, Start, Memory}
use Rattle.fr_bytes.proofs.Ending.{ends_line, first_line_ends, front_alone, one_line}
use Rattle.fr_bytes.proofs.Results.{handed_on}
use Rattle.fr_command.specs.Conversations.{Talk, carried, line_size, point_of, talk_at, text_of}
use Rattle.fr_command.specs.Faults.{IsTakeFault}
use Rattle.fr_command.specs.InPieces.{IsHoldFault}
use Rattle.fr_command.specs.Points.{Point, after_blank}
use Rattle.fr_command.proofs.Taking.{blank_ends, takes_none, takes_line}
use Rattle.fr_command.proofs.conversation.Conversation.push_piece.Goals as goal

nothing_behind : (xs ys : List ℕ) → xs ++ ys ≡ [] → ys ≡ []
nothing_behind [] ys nothing = nothing
nothing_behind (x ∷ xs) ys nothing = cc

-- if a blank line was not found to end in the piece, and fits, it goes on after the piece
blank_goes_on : (begun piece : List ℕ) (end : ℕ) (found : Bool) → end ≡ position_or_len ends_line piece → found ≡ false
    → ((end < length piece) × (is_blank (begun ++ take end piece) ≡ true)
    × (length (begun ++ take end piece) ≤ most_bytes) → found ≡ true)
    → length begun + length (take end piece) ≤ most_bytes → is_blank (begun ++ before_first ends_line piece) ≡ true
    → lines_of piece ≡ piece ∷ []
blank_goes_on begun piece end found is missed all short blank = ⊎_elim
    (λ some. let yes = all (
      some,
      subst (λ (n : ℕ). is_blank (begun ++ take n piece) ≡ true) (sym is) blank,
      omega (arith, short, length-append begun (take end piece)),
    ) in
    let bad : false ≡ true = sym missed ∙ yes in cc)
    (λ none. one_line piece (omega (arith, is, none)))
    (cases_lt end (length piece))

-- a line that could not be kept was not taken
not_held : (point : Point) (begun piece : List ℕ) (end : ℕ) (found : Bool) (fault : RunFault)
    → end ≡ position_or_len ends_line piece
    → found ≡ false
    → ((end < length piece) × (is_blank (begun ++ take end piece) ≡ true)
    × (length (begun ++ take end piece) ≤ most_bytes) → found ≡ true)
    → IsHoldFault begun (take end piece) fault → IsTakeFault point (begun ++ before_first ends_line piece) piece fault
not_held point begun piece end found Read is missed all why = why
not_held point begun piece end found Write is missed all why = why
not_held point begun piece end found TooLong is missed all why =
    subst (λ (l : List ℕ). most_bytes < length l) (ap (λ (n : ℕ). begun ++ take n piece) is)
    (omega (arith, why, length-append begun (take end piece)))
not_held point begun piece end found Start is missed all why = absurd why
not_held point begun piece end found Memory is missed all why = (
  λ nothing. why.0 (ap (λ (n : ℕ). take n piece) is ∙ nothing_behind begun (before_first ends_line piece) nothing),
  blank_goes_on begun piece end found is missed all why.1,
)

-- bytes before the end of a line go no further than the piece
end_within : (piece : List ℕ) (end : ℕ) → end ≡ position_or_len ends_line piece → end ≤ length piece
end_within piece end is = omega (arith, is, prefix_len-le-length (λ x. not (ends_line x)) piece)

-- with the byte that ends the line they are its size
size_with_end : (piece : List ℕ) (end : ℕ) → end ≡ position_or_len ends_line piece → end ≢ length piece
    → end + 1 ≡ line_size piece
size_with_end piece end is more = omega (arith, is, more, end_within piece end is)

-- what is held is the line as the piece carries it on
held_within : (begun piece : List ℕ) (end : ℕ) → end ≡ position_or_len ends_line piece
    → length begun + length (take end piece) ≤ most_bytes → length (begun ++ before_first ends_line piece) ≤ most_bytes
held_within begun piece end is short = subst (λ (n : ℕ). length (begun ++ take n piece) ≤ most_bytes) is
    (omega (arith, short, length-append begun (take end piece)))

pub keep_unfinished_line-requires : goal.keep_unfinished_line-requires
keep_unfinished_line-requires g c = subst (λ (n : ℕ). lines_of (take n c.args.piece.now) ≡ take n c.args.piece.now ∷ [])
    (sym c.front_size-end.ensures) (front_alone c.args.piece.now)

pub ends_blank-requires : goal.ends_blank-requires
ends_blank-requires g c = end_within c.args.piece.now c.front_size-end.result c.front_size-end.ensures

pub overflow_add-result-in-Ok : goal.overflow_add-result-in-Ok
overflow_add-result-in-Ok g c =
    let size = size_with_end c.args.piece.now c.front_size-end.result c.front_size-end.ensures c.if-end-piece.false in
    omega (arith, size)

pub returns-then-ends_blank-clause-takes : goal.returns-then-ends_blank-clause-takes
returns-then-ends_blank-clause-takes g c =
    let piece : List ℕ = c.args.piece.now in
    let end : ℕ = c.front_size-end.result in
    let old : Talk = c.args.self.now in
    let held : Talk = talk_at old.form (point_of old) (old.begun ++ take end piece) in
    let new : Talk = talk_at c.self.inside.form c.count_blank_line.new.self c.clear.new.self.items in
    let blank = c.ends_blank.ensures.0 c.if-ends_blank.true in
    let alone = subst (λ (t : Talk). lines_of t.begun ≡ t.begun ∷ []) c.self.view_is c.self.invariant.0 in
    let ended = subst (λ (n : ℕ). lines_of (take (n + 1) piece) ≡ take n piece ∷ [] ∷ []) (sym c.front_size-end.ensures)
    (first_line_ends piece (omega (arith, blank.0, c.front_size-end.ensures))) in
    let point = c.count_blank_line.ensures ∙ ap (λ (t : Talk). after_blank (point_of t)) c.self.view_is in
    takes_line old held new (take (end + 1) piece) (take end piece) [] alone ended refl refl refl
    (blank_ends held new blank.1 point c.clear.ensures.items (ap (λ (t : Talk). t.form) c.self.view_is))

pub returns-in_err-keep_unfinished_line-clause-fault : goal.returns-in_err-keep_unfinished_line-clause-fault
returns-in_err-keep_unfinished_line-clause-fault g c =
    let old : Talk = c.args.self.now in
    let piece : List ℕ = c.args.piece.now in
    let fault = c.in_err-keep_unfinished_line.field-0.0 in
    handed_on c.from_residual.result fault (IsTakeFault (point_of old) (carried old piece) piece)
    c.from_residual.ensures.1
    (not_held (point_of old) old.begun piece c.front_size-end.result c.ends_blank.result fault c.front_size-end.ensures
    c.if-ends_blank.false c.ends_blank.ensures.1 c.in_err-keep_unfinished_line.ensures.fault)

pub returns-then-end-piece-clause-takes : goal.returns-then-end-piece-clause-takes
returns-then-end-piece-clause-takes g c =
    let piece : List ℕ = c.args.piece.now in
    let end : ℕ = c.front_size-end.result in
    let alone = subst (λ (t : Talk). lines_of t.begun ≡ t.begun ∷ []) c.self.view_is c.self.invariant.0 in
    let one = subst (λ (n : ℕ). lines_of (take n piece) ≡ take n piece ∷ []) (sym c.front_size-end.ensures)
    (front_alone piece) in
    let held = c.in_ok-keep_unfinished_line.ensures.ok in
    takes_none c.args.self.now c.keep_unfinished_line.new.self (take end piece) alone one held.0 held.1 held.2

pub returns-in-Ok-clause-takes : goal.returns-in-Ok-clause-takes
returns-in-Ok-clause-takes g c =
    let piece : List ℕ = c.args.piece.now in
    let end : ℕ = c.front_size-end.result in
    let alone = subst (λ (t : Talk). lines_of t.begun ≡ t.begun ∷ []) c.self.view_is c.self.invariant.0 in
    let ended = subst (λ (n : ℕ). lines_of (take (n + 1) piece) ≡ take n piece ∷ [] ∷ []) (sym c.front_size-end.ensures)
    (first_line_ends piece (omega (arith, prefix_len-le-length (λ x. not (ends_line x)) piece))) in
    let held = c.in_ok-keep_unfinished_line.ensures.ok in
    takes_line c.args.self.now c.keep_unfinished_line.new.self c.end_line.new.self (take (end + 1) piece) (take end piece)
    (text_of c.in-Ok.answer) alone ended held.0 held.1 held.2 c.in-Ok.ensures.ends

pub returns-in-Ok-clause-count : goal.returns-in-Ok-clause-count
returns-in-Ok-clause-count g c =
    size_with_end c.args.piece.now c.front_size-end.result c.front_size-end.ensures c.if-end-piece.false

pub returns-in-Ok-clause-within : goal.returns-in-Ok-clause-within
returns-in-Ok-clause-within g c =
    held_within c.args.self.now.begun c.args.piece.now c.front_size-end.result c.front_size-end.ensures
    c.in_ok-keep_unfinished_line.ensures.within
