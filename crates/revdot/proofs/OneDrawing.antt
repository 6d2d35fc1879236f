-- The input determines its picture.
use Rattle.std.proofs.Common.{◌≡◌, ◌∙◌, ℕ, ◌-◌, ◌≤◌, ◌⊎◌, List, [], ◌∷◌, ◌++◌, Option, None, Some, length, map, sum, ap}
use Rattle.std.proofs.Common.{arith, inl, inr, refl, subst, sym}
use Rattle.std.specs.List.{range_with_len}
use Rattle.std.proofs.lemmas.Bool.{cases_lt}
use Rattle.fr_core.specs.History.{Moment}
use Rattle.fr_core.specs.Legal.{NoneCanTurn}
use Rattle.fr_route.specs.States.{State}
use Rattle.fr_tables.specs.declared.hop.Hop.{Hop}
use Rattle.fr_route.proofs.Determined.{hops_unique, answers_unique}
use Rattle.fr_route.proofs.NodeWays.{ways_below_unique}
use Rattle.fr_bytes.specs.Lines.{lines_of}
use Rattle.revdot.specs.Drawings.{IsDrawing, IsPictureOf}
use Rattle.revdot.specs.Graphs.{graph_text}
use Rattle.revdot.specs.Settled.{IsGraphOf, IsWaysGraphOf, settled_node, settled_link, way_link}
use Rattle.revdot.specs.Strips.{IsNext, IsStripOf, AreAllTurns, AreTurns, after_turn, after_turns, beginning}
use Rattle.revdot.specs.Strips.{last_label, most_turns, turns_text}
use Rattle.revdot.specs.Comments.{without_comments}
use Rattle.revdot.specs.declared.graphs.Direction.{Direction}
use Rattle.revdot.specs.declared.graphs.Label.{Label}
use Rattle.revdot.specs.declared.graphs.Label.TheVariants.{Plain}
use Rattle.revdot.specs.declared.drawing.Picture.{Picture}
use Rattle.revdot.specs.declared.drawing.Picture.TheVariants.{Network, Ways, Turns}

graph_unique : (towards : Direction) (said : Label) (s : State) (a b : List ℕ) → IsGraphOf towards said s a
    → IsGraphOf towards said s b → a ≡ b
graph_unique towards said s a b p q =
    let hops : p.hops ≡ q.hops = hops_unique s s.nodes p.hops q.hops p.are_hops q.are_hops in
    p.text
    ∙ (ap (λ (hs : List Hop). graph_text towards said s.dest
    (map (settled_node s.counts hs) (range_with_len 0 s.nodes)) (map (settled_link hs) s.links)) hops
    ∙ sym q.text)

ways_graph_unique : (towards : Direction) (s : State) (a b : List ℕ) → IsWaysGraphOf towards s a
    → IsWaysGraphOf towards s b → a ≡ b
ways_graph_unique towards s a b p q =
    let hops : p.hops ≡ q.hops = hops_unique s s.nodes p.hops q.hops p.are_hops q.are_hops in
    let table : p.table ≡ q.table = ways_below_unique s s.nodes p.table q.table p.are_ways q.are_ways in
    let text = λ (hs : List Hop) (ws : List (List ℕ)).
    graph_text towards Plain s.dest (map (settled_node s.counts hs) (range_with_len 0 s.nodes))
    (map (way_link hs ws) s.links) in
    let texts : text p.hops p.table ≡ text q.hops q.table = λ i. text (hops i) (table i) in
    p.text ∙ (texts ∙ sym q.text)

next_unique : (n d : ℕ) (m : Moment) (x y : ℕ) → IsNext n d m x → IsNext n d m y → x ≡ y
next_unique n d m x y p q =
    elim (cases_lt x y) [
      | inl less ↦ absurd (q.least x less p.can)
      | inr ge ↦
          elim (cases_lt y x) [
            | inl more ↦ absurd (p.least y more q.can)
            | inr le ↦ omega (arith, ge, le)
          ]
    ]

-- at most k turns, and fewer only if no node can turn
record AreMost (n d k : ℕ) (m : Moment) (xs : List ℕ) : Type 0 where
  few : length xs ≤ k
  all : (length xs ≡ k) ⊎ NoneCanTurn n d (after_turns m xs)

one_less : (n d k x : ℕ) (m : Moment) (xs : List ℕ) → AreMost n d k m (x ∷ xs) → AreMost n d (k - 1) (after_turn m x) xs
one_less n d k x m xs h = record {
  few = let few = h.few in omega arith;
  all = elim h.all [
    | inl most ↦ inl (omega (arith, most))
    | inr none ↦ inr none
  ];
}

not_more : (n d k y : ℕ) (m : Moment) (ys : List ℕ) → AreMost n d k m [] → AreMost n d k m (y ∷ ys) → IsNext n d m y → ⊥
not_more n d k y m ys h more next =
    elim h.all [
      | inl most ↦ (let few = more.few in omega (arith, most, few))
      | inr none ↦ none y next.can
    ]

turns_unique : (n d k : ℕ) (m : Moment) (xs ys : List ℕ) → AreTurns n d m xs → AreTurns n d m ys → AreMost n d k m xs
    → AreMost n d k m ys → xs ≡ ys
turns_unique n d k m [] [] p q g h = refl
turns_unique n d k m [] (y ∷ ys) p q g h = absurd (not_more n d k y m ys g h q.0)
turns_unique n d k m (x ∷ xs) [] p q g h = absurd (not_more n d k x m xs h g p.0)
turns_unique n d k m (x ∷ xs) (y ∷ ys) p q g h =
    let e : y ≡ x = next_unique n d m y x q.0 p.0 in
    let turns : AreTurns n d (after_turn m x) ys = subst (λ (z : ℕ). AreTurns n d (after_turn m z) ys) e q.1 in
    let most : AreMost n d (k - 1) (after_turn m x) ys =
    subst (λ (z : ℕ). AreMost n d (k - 1) (after_turn m z) ys) e (one_less n d k y m ys h) in
    let rest = turns_unique n d (k - 1) (after_turn m x) xs ys p.1 turns (one_less n d k x m xs g) most in
    ap (λ (z : ℕ). z ∷ xs) (sym e) ∙ ap (λ (zs : List ℕ). y ∷ zs) rest

pub all_turns_unique : (most n d : ℕ) (m : Moment) (xs ys : List ℕ) → AreAllTurns most n d m xs
    → AreAllTurns most n d m ys → xs ≡ ys
all_turns_unique most n d m xs ys p q =
    turns_unique n d most m xs ys p.turns q.turns (record { few = p.few; all = p.all })
    (record { few = q.few; all = q.all })

strip_unique : (towards : Direction) (s : State) (a b : List ℕ) → IsStripOf towards s a → IsStripOf towards s b → a ≡ b
strip_unique towards s a b p q =
    let turns : p.turns ≡ q.turns =
    all_turns_unique most_turns s.nodes s.dest (beginning s) p.turns q.turns p.are_all q.are_all in
    let last : p.last ≡ q.last =
    graph_unique towards (last_label (sum s.counts - most_turns)) s p.last q.last p.settled q.settled in
    let texts : turns_text towards s (beginning s) 1 p.turns ++ p.last ≡ turns_text towards s (beginning s) 1 q.turns
    ++ q.last =
    (λ i. turns_text towards s (beginning s) 1 (turns i) ++ last i) in
    p.text ∙ (texts ∙ sym q.text)

picture_unique : (picture : Picture) (towards : Direction) (last : Option State) (a b : List ℕ)
    → IsPictureOf picture towards last a
    → IsPictureOf picture towards last b → a ≡ b
picture_unique picture towards None a b p q = p ∙ sym q
picture_unique Network towards (Some s) a b p q = graph_unique towards Plain s a b p q
picture_unique Ways towards (Some s) a b p q = ways_graph_unique towards s a b p q
picture_unique Turns towards (Some s) a b p q = strip_unique towards s a b p q

-- an input has only one picture in a direction
pub drawing_unique : (picture : Picture) (towards : Direction) (bytes a b : List ℕ) → IsDrawing picture towards bytes a
    → IsDrawing picture towards bytes b → a ≡ b
drawing_unique picture towards bytes a b p q =
    let last : q.last ≡ p.last =
    (answers_unique None (without_comments (lines_of bytes)) q.is_left.0 p.is_left.0 q.last p.last q.is_left.1
    p.is_left.1).1 in
    picture_unique picture towards p.last a b p.is_picture
    (subst (λ (s : Option State). IsPictureOf picture towards s b) last q.is_picture)
