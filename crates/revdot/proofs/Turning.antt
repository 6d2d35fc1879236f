-- How many turns of a round have been made.
use Rattle.std.proofs.Common.{Err, IfOk, IfSome, MatchOption, None, Ok, Option, Result, Some, ◌^◌, ◌≤◌, ◌⊎◌, ◌≡◌, ◌∙◌}
use Rattle.std.proofs.Common.{ℕ, ◌+◌, ◌<◌, List, [], ◌∷◌}
use Rattle.std.proofs.Common.{◌++◌, drop, length, map, slice_index, ap, append_assoc, append-nil, length-append, eq-eqb}
use Rattle.std.proofs.Common.{ne_eqb, ◌==◌, Bool, true}
use Rattle.std.proofs.Common.{false, cond, refl, subst, sym, take, arith, inl, inr}
use Rattle.std.proofs.lemmas.List.{length-map}
use Rattle.std.proofs.lemmas.List.Elements.{All-map, All-weaker}
use Rattle.std.proofs.lemmas.Bool.{cases_eq, cond-false, cond-true}
use Rattle.std.proofs.Math.Seq.{take-append_seam}
use Rattle.fr_graph.specs.Links.{AreBelow}
use Rattle.fr_graph.specs.Turn.{turn, turned_link}
use Rattle.fr_core.specs.History.{Moment}
use Rattle.fr_core.specs.Legal.{NoneCanTurn}
use Rattle.fr_route.specs.States.{State}
use Rattle.revdot.specs.Replays.{IsReplay, moment_of}
use Rattle.revdot.specs.Strips.{beginning, first_link, after_turn, after_turns, IsNext, AreAllTurns, AreTurns}
use Rattle.revdot.specs.Strips.{turn_text, turns_text}
use Rattle.revdot.specs.declared.graphs.Direction.{Direction}
use Rattle.revdot.specs.declared.turns.Replay.{Replay}

-- these nodes have turned in the round
pub record HaveTurned (s : State) (number : ℕ) (turns : List ℕ) (replay : Replay) : Type 0 where
  pub is_replay : IsReplay s replay
  pub are_turns : AreTurns s.nodes s.dest (beginning s) turns
  pub now : after_turns (beginning s) turns ≡ moment_of replay
  pub counted : length turns ≡ number

-- the same, with each turn drawn
pub record HasTurned (towards : Direction) (s : State) (number : ℕ) (replay : Replay) (old new : List ℕ) : Type 0 where
  pub turns : List ℕ
  pub have : HaveTurned s number turns replay
  pub text : new ≡ old ++ turns_text towards s (beginning s) 1 turns

turns_more : (n d : ℕ) (m : Moment) (xs : List ℕ) (x : ℕ) → AreTurns n d m xs → IsNext n d (after_turns m xs) x
    → AreTurns n d m (xs ++ x ∷ [])
turns_more n d m [] x are next = (next, tt)
turns_more n d m (y ∷ ys) x are next = (are.0, turns_more n d (after_turn m y) ys x are.1 next)

after_more : (m : Moment) (xs : List ℕ) (x : ℕ) → after_turns m (xs ++ x ∷ []) ≡ after_turn (after_turns m xs) x
after_more m [] x = refl
after_more m (y ∷ ys) x = after_more (after_turn m y) ys x

text_more : (towards : Direction) (s : State) (m : Moment) (k : ℕ) (xs : List ℕ) (x : ℕ)
    → turns_text towards s m k (xs ++ x ∷ []) ≡ turns_text towards s m k xs
    ++ turn_text towards s (after_turns m xs) (k + length xs) x
text_more towards s m k [] x =
    append-nil (turn_text towards s m k x) ∙ ap (λ (j : ℕ). turn_text towards s m j x) (omega arith)
text_more towards s m k (y ∷ ys) x =
    let later : k + 1 + length ys ≡ k + length (y ∷ ys) = omega arith in
    ap (λ (t : List ℕ). turn_text towards s m k y ++ t) (text_more towards s (after_turn m y) (k + 1) ys x
    ∙ ap (λ (j : ℕ). turns_text towards s (after_turn m y) (k + 1) ys
    ++ turn_text towards s (after_turns (after_turn m y) ys) j x) later)
    ∙ sym (append_assoc (turn_text towards s m k y) (turns_text towards s (after_turn m y) (k
    + 1) ys) (turn_text towards s (after_turns (after_turn m y) ys) (k + length (y ∷ ys)) x))

turned-below : (n x : ℕ) (l : ℕ × ℕ) → (l.0 < n) × (l.1 < n) → ((turned_link x l).0 < n) × ((turned_link x l).1 < n)
turned-below n x l h =
    let P : ℕ × ℕ → Type 0 = λ m. (m.0 < n) × (m.1 < n) in
    elim (cases_eq l.1 x) [
      | inl e ↦ subst P (sym (cond-true _ _ _ (eq-eqb l.1 x e))) (subst (λ (y : ℕ). y < n) e h.1, h.0)
      | inr ne ↦ subst P (sym (cond-false _ _ _ (ne_eqb l.1 x ne))) h
    ]

first-below : (n : ℕ) (counts : List ℕ) (l : ℕ × ℕ) → (l.0 < n) × (l.1 < n)
    → ((first_link counts l).0 < n) × ((first_link counts l).1 < n)
first-below n counts l h = by (slice_index counts l.0 == slice_index counts l.1)
  where
    by : (b : Bool) → ((cond b l (l.1, l.0)).0 < n) × ((cond b l (l.1, l.0)).1 < n)
    by true = h
    by false = (h.1, h.0)

below_map : (n : ℕ) (f : ℕ × ℕ → ℕ × ℕ) → ((l : ℕ × ℕ) → (l.0 < n) × (l.1 < n) → ((f l).0 < n) × ((f l).1 < n))
    → (links : List (ℕ × ℕ)) → AreBelow n links → AreBelow n (map f links)
below_map n f each links below =
    All-map (λ (l : ℕ × ℕ). (l.0 < n) × (l.1 < n)) f links
    (All-weaker (λ (l : ℕ × ℕ). (l.0 < n) × (l.1 < n)) (λ (l : ℕ × ℕ). ((f l).0 < n) × ((f l).1 < n)) each links below)

pub first_below : (s : State) → AreBelow s.nodes s.links → AreBelow s.nodes (map (first_link s.counts) s.links)
first_below s below = below_map s.nodes (first_link s.counts) (first-below s.nodes s.counts) s.links below

pub turn_below : (n x : ℕ) (links : List (ℕ × ℕ)) → AreBelow n links → AreBelow n (turn x links)
turn_below n x links below = below_map n (turned_link x) (turned-below n x) links below

pub none_turned : (s : State) (replay : Replay) → IsReplay s replay → moment_of replay ≡ beginning s
    → HaveTurned s 0 [] replay
none_turned s replay is first = record {
  is_replay = is;
  are_turns = tt;
  now = sym first;
  counted = refl;
}

pub at_start : (towards : Direction) (s : State) (replay : Replay) (old : List ℕ) → IsReplay s replay
    → moment_of replay ≡ beginning s
    → HasTurned towards s 0 replay old old
at_start towards s replay old is first = record {
  turns = [];
  have = none_turned s replay is first;
  text = sym (append-nil old);
}

-- one more turn
module _ (s : State) (number : ℕ) (replay after : Replay) (x : ℕ) (next : IsNext s.nodes s.dest (moment_of replay) x)
    (turned : moment_of after ≡ after_turn (moment_of replay) x)
    (kept : (s : State) → IsReplay s replay → IsReplay s after) where
  pub one_more_turned : (turns : List ℕ) → HaveTurned s number turns replay
      → HaveTurned s (number + 1) (turns ++ x ∷ []) after
  one_more_turned turns h = record {
    is_replay = kept s h.is_replay;
    are_turns =
        turns_more s.nodes s.dest (beginning s) turns x h.are_turns
        (subst (λ (m : Moment). IsNext s.nodes s.dest m x) (sym h.now) next);
    now = after_more (beginning s) turns x ∙ ap (λ (m : Moment). after_turn m x) h.now ∙ sym turned;
    counted = length-append turns (x ∷ []) ∙ ap (λ (k : ℕ). k + 1) h.counted;
  }

  -- it is drawn, too
  pub one_turn_more : (towards : Direction) (old new more : List ℕ) → HasTurned towards s number replay old new
      → more ≡ new ++ turn_text towards s (moment_of replay) (number + 1) x
      → HasTurned towards s (number + 1) after old more
  one_turn_more towards old new more h text = record {
    turns = h.turns ++ x ∷ [];
    have = one_more_turned h.turns h.have;
    text =
        let place : 1 + length h.turns ≡ number + 1 = let counted = h.have.counted in omega arith in
        let last : turn_text towards s (after_turns (beginning s) h.turns) (1 + length h.turns) x
        ≡ turn_text towards s (moment_of replay) (number + 1) x =
        ap (λ (m : Moment). turn_text towards s m (1 + length h.turns) x) h.have.now
        ∙ ap (λ (k : ℕ). turn_text towards s (moment_of replay) k x) place in
        text ∙ (ap (λ (t : List ℕ). t ++ turn_text towards s (moment_of replay) (number + 1) x) h.text
        ∙ (append_assoc old (turns_text towards s (beginning s) 1 h.turns)
        (turn_text towards s (moment_of replay) (number + 1) x)
        ∙ ap (λ (t : List ℕ). old
        ++ t) (ap (λ (t : List ℕ). turns_text towards s (beginning s) 1 h.turns ++ t) (sym last)
        ∙ sym (text_more towards s (beginning s) 1 h.turns x))));
  }

-- no turn is left, or the limit is reached
pub all_turned : (most : ℕ) (s : State) (number : ℕ) (turns : List ℕ) (replay : Replay)
    → HaveTurned s number turns replay → number ≤ most
    → (number ≡ most) ⊎ NoneCanTurn s.nodes s.dest (moment_of replay)
    → AreAllTurns most s.nodes s.dest (beginning s) turns
all_turned most s number turns replay h few end = record {
  turns = h.are_turns;
  few = let counted = h.counted in omega arith;
  all = elim end [
    | inl all ↦ inl (h.counted ∙ all)
    | inr none ↦ inr (subst (NoneCanTurn s.nodes s.dest) (sym h.now) none)
  ];
}

-- the next node to turn has not turned too often
pub next_is_few : {E : Type 0} (n d : ℕ) (m : Moment) (r : Result (Option ℕ) E) → n < 2 ^ 32
    → IfOk r (λ next. MatchOption next (NoneCanTurn n d m) (IsNext n d m))
    → IfOk r (λ next. IfSome next (λ x. slice_index m.counts x < 2 ^ 32))
next_is_few n d m (Ok None) small is = tt
next_is_few n d m (Ok (Some x)) small is = let cap = is.can.below_cap in omega arith
next_is_few n d m (Err e) small is = tt

-- the links after they are written back
pub written_back : (x len : ℕ) (links new : List (ℕ × ℕ)) → new ≡ turn x links → len ≡ length links
    → take len (new ++ drop (length new) links) ≡ turn x links
written_back x len links new is long =
    let same : length (turn x links) ≡ length links = length-map links (turned_link x) in
    rw (is, long, ← same) (take-append_seam (turn x links) (drop (length (turn x links)) links))
