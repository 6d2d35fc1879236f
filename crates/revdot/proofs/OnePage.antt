-- The input determines its page.
use Rattle.std.proofs.Common.{◌≡◌, ◌∙◌, ℕ, ◌+◌, Bool, true, false, List, [], ◌∷◌, ◌++◌, Option, None, Some, MatchBool}
use Rattle.std.proofs.Common.{ap, inl, inr, subst, sym}
use Rattle.std.specs.Prelude.{Result, Ok, Err, codes}
use Rattle.fr_requests.specs.Requests.{PlainRequest, ask, reading}
use Rattle.fr_requests.specs.declared.requests.LineFault.{LineFault}
use Rattle.fr_requests.specs.declared.requests.Question.{Question}
use Rattle.fr_requests.specs.declared.requests.Question.TheVariants.{Links, Counts, Hops, Ways}
use Rattle.fr_route.specs.Blank.{is_blank}
use Rattle.fr_route.specs.States.{State}
use Rattle.fr_graph.specs.Network.{Network}
use Rattle.fr_route.proofs.AnsweredIn.{refusal_unique}
use Rattle.fr_route.proofs.Determined.{answer_unique, asked_not_accepted, asked_not_refused, hops_unique, line_unique}
use Rattle.fr_route.proofs.Determined.{not_both}
use Rattle.fr_route.proofs.NodeWays.{ways_below_unique}
use Rattle.fr_route.proofs.OneTelling.{line_told_unique}
use Rattle.fr_route.proofs.Replying.{refused_by}
use Rattle.fr_route.specs.Json.{PlainRefusal, refusal_json}
use Rattle.fr_route.specs.Telling.{IsLineTold}
use Rattle.fr_bytes.specs.Lines.{lines_of}
use Rattle.revdot.specs.Pages.{IsPage}
use Rattle.revdot.specs.Asked.{asked_text}
use Rattle.revdot.specs.Comments.{comment_text, is_comment}
use Rattle.revdot.specs.Changes.{changes_text, listed_line, pushes_line}
use Rattle.revdot.specs.Stories.{AreBlocks, AreListed, AreSettledLines, AreWaysBefore, IsAnswerLine, IsAnsweredBlock}
use Rattle.revdot.specs.Stories.{IsBlock, IsLineSequel, IsMark}
use Rattle.revdot.specs.Stories.{IsRefusalLine, IsRequestBlock, IsResult, IsRoundStory, IsSequel, IsStep, IsToldRound}
use Rattle.revdot.specs.Stories.{IsTurnByTurn, answer_text}
use Rattle.revdot.specs.Stories.{is_marked, is_told, makes_round, most_told_turns, net_before, net_text, refusal_line}
use Rattle.revdot.specs.Stories.{turns_line}
use Rattle.revdot.specs.Strips.{beginning}
use Rattle.revdot.proofs.OneDrawing.{all_turns_unique}

line_text_unique : (s : Option State) (question : Question) (a b : List ℕ) → IsAnswerLine s question a
    → IsAnswerLine s question b → a ≡ b
line_text_unique s question a b h k =
    h.2 ∙ (ap (λ (t : List ℕ). t ++ codes "\n") (answer_unique s (ask question) h.0 k.0 s s h.1 k.1).0 ∙ sym k.2)

settled_unique : (s : Option State) (a b : List ℕ) → AreSettledLines s a → AreSettledLines s b → a ≡ b
settled_unique s a b h k =
    let links : h.links ≡ k.links = line_text_unique s Links h.links k.links h.are_links k.are_links in
    let counts : h.counts ≡ k.counts = line_text_unique s Counts h.counts k.counts h.are_counts k.are_counts in
    let hops : h.hops ≡ k.hops = line_text_unique s Hops h.hops k.hops h.are_hops k.are_hops in
    let ways : h.ways ≡ k.ways = line_text_unique s Ways h.ways k.ways h.are_ways k.are_ways in
    let texts : h.links ++ (h.counts ++ (h.hops ++ h.ways)) ≡ k.links ++ (k.counts ++ (k.hops ++ k.ways)) =
    (λ i. links i ++ (counts i ++ (hops i ++ ways i))) in
    h.text ∙ (texts ∙ sym k.text)

listed_unique : (old : List (List ℕ)) (s : State) (a b : List ℕ) → AreListed old s a → AreListed old s b → a ≡ b
listed_unique old s a b h k =
    h.2 ∙ (ap (listed_line s.nodes old) (ways_below_unique s s.nodes h.0 k.0 h.1 k.1) ∙ sym k.2)

result_unique : (before : Option Network) (old : List (List ℕ)) (s : State) (a b : List ℕ) → IsResult before old s a
    → IsResult before old s b → a ≡ b
result_unique None old s a b h k = settled_unique (Some s) a b h k
result_unique (Some net) old s a b h k =
    let listed : h.1 ≡ k.1 = listed_unique old s h.1 k.1 h.2 k.2 in
    h.3 ∙ (ap (λ (t : List ℕ). changes_text net.links s.links s.counts ++ t) listed ∙ sym k.3)

-- the ways before a round
before_unique : (s : Option State) (before : Option Network) (a b : List (List ℕ)) → AreWaysBefore s before a
    → AreWaysBefore s before b → a ≡ b
before_unique None before a b h k = h ∙ sym k
before_unique (Some s) None a b h k = h ∙ sym k
before_unique (Some s) (Some net) a b h k = ways_below_unique s s.nodes a b h k

turn_by_turn_unique : (before : Option Network) (old : List (List ℕ)) (s : State) (rerouted a b : List ℕ)
    → IsTurnByTurn before old s rerouted a → IsTurnByTurn before old s rerouted b → a ≡ b
turn_by_turn_unique before old s rerouted a b h k =
    let turns : h.turns ≡ k.turns =
    all_turns_unique most_told_turns s.nodes s.dest (beginning s) h.turns k.turns h.are_all k.are_all in
    let left : h.left ≡ k.left = result_unique before old s h.left k.left h.is_result k.is_result in
    let hops : h.hops ≡ k.hops = hops_unique s s.nodes h.hops k.hops h.are_hops k.are_hops in
    let texts : turns_line h.turns ++ (h.left ++ pushes_line h.hops rerouted)
    ≡ turns_line k.turns ++ (k.left ++ pushes_line k.hops rerouted) =
    (λ i. turns_line (turns i) ++ (left i ++ pushes_line (hops i) rerouted)) in
    h.text ∙ (texts ∙ sym k.text)

told_round_unique : (before : Option Network) (old : List (List ℕ)) (s : State) (rerouted a b : List ℕ)
    → IsToldRound before old s rerouted a → IsToldRound before old s rerouted b → a ≡ b
told_round_unique before old s rerouted a b h k = of (is_told s) h k
  where
    of : (told : Bool) → MatchBool told (IsTurnByTurn before old s rerouted a) (a ≡ codes "omitted\n")
        → MatchBool told (IsTurnByTurn before old s rerouted b) (b ≡ codes "omitted\n") → a ≡ b
    of true h k = turn_by_turn_unique before old s rerouted a b h k
    of false h k = h ∙ sym k

round_story_unique : (began : Bool) (before : Option Network) (old : List (List ℕ)) (s : Option State)
    (rerouted a b : List ℕ)
    → IsRoundStory began before old s rerouted a → IsRoundStory began before old s rerouted b → a ≡ b
round_story_unique true before old (Some s) rerouted a b h k =
    let one = told_round_unique before old s rerouted h.0 k.0 h.1 k.1 in
    h.2 ∙ (ap (λ (t : List ℕ). net_text s.nodes s.dest ++ t) one ∙ sym k.2)
round_story_unique true before old None rerouted a b h k = h ∙ sym k
round_story_unique false before old s rerouted a b h k = h ∙ sym k

refusal_line_unique : (s : Option State) (number : ℕ) (request : PlainRequest) (a b : List ℕ)
    → IsRefusalLine s number request a
    → IsRefusalLine s number request b → a ≡ b
refusal_line_unique s number request a b h k =
    let same : h.0 ≡ k.0 = refusal_unique s request h.0 k.0 h.1 k.1 in
    h.2 ∙ (ap (λ (refusal : PlainRefusal). refusal_line (refusal_json refusal number)) same ∙ sym k.2)

sequel_unique : (s : Option State) (number : ℕ) (request : PlainRequest) (next : Option State) (rerouted a b : List ℕ)
    → IsSequel s number request next rerouted a → IsSequel s number request next rerouted b → a ≡ b
sequel_unique s number request next rerouted a b (inl h) (inl k) = refusal_line_unique s number request a b h k
sequel_unique s number request next rerouted a b (inl h) (inr (inl (n, g, v, x, f))) =
    absurd (not_both s request h.0.number n (refused_by s request h.0 h.1) g)
sequel_unique s number request next rerouted a b (inl h) (inr (inr (n, g, f))) =
    absurd (asked_not_refused s request n h.0.number g (refused_by s request h.0 h.1))
sequel_unique s number request next rerouted a b (inr (inl (m, h, u, w, e))) (inl k) =
    absurd (not_both s request k.0.number m (refused_by s request k.0 k.1) h)
sequel_unique s number request next rerouted a b (inr (inl (m, h, u, w, e))) (inr (inl (n, g, v, x, f))) =
    let same : u ≡ v = before_unique s (net_before s request) u v w x in
    let at : IsRoundStory (makes_round request) (net_before s request) v next rerouted a =
    subst (λ (t : List (List ℕ)). IsRoundStory (makes_round request) (net_before s request) t next rerouted a) same e in
    round_story_unique (makes_round request) (net_before s request) v next rerouted a b at f
sequel_unique s number request next rerouted a b (inr (inl (m, h, u, w, e))) (inr (inr (n, g, f))) =
    absurd (asked_not_accepted s request n m g h)
sequel_unique s number request next rerouted a b (inr (inr (m, h, e))) (inl k) =
    absurd (asked_not_refused s request m k.0.number h (refused_by s request k.0 k.1))
sequel_unique s number request next rerouted a b (inr (inr (m, h, e))) (inr (inl (n, g, v, x, f))) =
    absurd (asked_not_accepted s request m n h g)
sequel_unique s number request next rerouted a b (inr (inr (m, h, e))) (inr (inr (n, g, f))) = e ∙ sym f

line_sequel_unique : (s : Option State) (number : ℕ) (asked : Result PlainRequest LineFault) (next : Option State)
    (rerouted a b : List ℕ)
    → IsLineSequel s number asked next rerouted a → IsLineSequel s number asked next rerouted b → a ≡ b
line_sequel_unique s number (Ok request) next rerouted a b h k = sequel_unique s number request next rerouted a b h k
line_sequel_unique s number (Err fault) next rerouted a b h k = h ∙ sym k

answered_unique : (s : Option State) (number : ℕ) (asked : Result PlainRequest LineFault) (a b : List ℕ)
    (p q : Option State)
    → IsAnsweredBlock s number asked a p → IsAnsweredBlock s number asked b q → (a ≡ b) × (p ≡ q)
answered_unique s number asked a b p q h k =
    let one = line_unique s asked h.answer k.answer p q h.is_answer k.is_answer in
    let are_rerouted = subst (λ (t : Option State). IsLineTold s asked t [] h.rerouted) one.1 h.are_rerouted in
    let same : h.rerouted ≡ k.rerouted =
    line_told_unique s asked q [] h.rerouted k.rerouted are_rerouted k.are_rerouted in
    let is_sequel : IsLineSequel s number asked q k.rerouted h.told = rw (← one.1, ← same) h.is_sequel in
    let told : h.told ≡ k.told = line_sequel_unique s number asked q k.rerouted h.told k.told is_sequel k.is_sequel in
    let texts : answer_text number h.answer ++ (asked_text asked ++ h.told) ≡ answer_text number k.answer
    ++ (asked_text asked ++ k.told) =
    (λ i. answer_text number (one.0 i) ++ (asked_text asked ++ told i)) in
    (h.text ∙ (texts ∙ sym k.text), one.1)

request_block_unique : (s : Option State) (number : ℕ) (line a b : List ℕ) (p q : Option State)
    → IsRequestBlock s number line a p
    → IsRequestBlock s number line b q → (a ≡ b) × (p ≡ q)
request_block_unique s number line a b p q h k = of (is_blank line) h k
  where
    IsOf : Bool → List ℕ → Option State → Type 0
    IsOf blank out next = MatchBool blank ((out ≡ []) × (next ≡ s)) (IsAnsweredBlock s number (reading line) out next)

    of : (blank : Bool) → IsOf blank a p → IsOf blank b q → (a ≡ b) × (p ≡ q)
    of true h k = (h.0 ∙ sym k.0, h.1 ∙ sym k.1)
    of false h k = answered_unique s number (reading line) a b p q h k

block_unique : (s : Option State) (number : ℕ) (line a b : List ℕ) (p q : Option State) → IsBlock s number line a p
    → IsBlock s number line b q → (a ≡ b) × (p ≡ q)
block_unique s number line a b p q h k = of (is_comment line) h k
  where
    IsOf : Bool → List ℕ → Option State → Type 0
    IsOf comment out next =
        MatchBool comment ((out ≡ comment_text line) × (next ≡ s)) (IsRequestBlock s number line out next)

    of : (comment : Bool) → IsOf comment a p → IsOf comment b q → (a ≡ b) × (p ≡ q)
    of true h k = (h.0 ∙ sym k.0, h.1 ∙ sym k.1)
    of false h k = request_block_unique s number line a b p q h k

mark_unique : (number : ℕ) (s : Option State) (a b : List ℕ) → IsMark number s a → IsMark number s b → a ≡ b
mark_unique number s a b h k = of (is_marked number s) h k
  where
    IsOf : Bool → List ℕ → Type 0
    IsOf marked out =
        MatchBool marked ((lines : List ℕ) × AreSettledLines s lines × (out ≡ codes "state\n" ++ lines)) (out ≡ [])

    of : (marked : Bool) → IsOf marked a → IsOf marked b → a ≡ b
    of true h k =
        let one = settled_unique s h.0 k.0 h.1 k.1 in
        h.2 ∙ (ap (λ (t : List ℕ). codes "state\n" ++ t) one ∙ sym k.2)
    of false h k = h ∙ sym k

step_unique : (s : Option State) (number : ℕ) (line a b : List ℕ) (p q : Option State) → IsStep s number line p a
    → IsStep s number line q b → (a ≡ b) × (p ≡ q)
step_unique s number line a b p q h k =
    let one = block_unique s number line h.block k.block p q h.is_block k.is_block in
    let at : IsMark number q h.mark = subst (λ (t : Option State). IsMark number t h.mark) one.1 h.is_mark in
    let mark = mark_unique number q h.mark k.mark at k.is_mark in
    let texts : h.block ++ h.mark ≡ k.block ++ k.mark = (λ i. one.0 i ++ mark i) in
    (h.text ∙ (texts ∙ sym k.text), one.1)

blocks_unique : (s : Option State) (number : ℕ) (lines : List (List ℕ)) (a b : List ℕ) → AreBlocks s number lines a
    → AreBlocks s number lines b → a ≡ b
blocks_unique s number [] a b h k = h ∙ sym k
blocks_unique s number (line ∷ rest) a b h k =
    let one = step_unique s number line h.0 k.0 h.1 k.1 h.3 k.3 in
    let left : AreBlocks k.1 (number + 1) rest h.2 =
    subst (λ (t : Option State). AreBlocks t (number + 1) rest h.2) one.1 h.4 in
    let more = blocks_unique k.1 (number + 1) rest h.2 k.2 left k.4 in
    let texts : h.0 ++ h.2 ≡ k.0 ++ k.2 = (λ i. one.0 i ++ more i) in
    h.5 ∙ (texts ∙ sym k.5)

-- an input has only one page
pub page_unique : (first last bytes a b : List ℕ) → IsPage first last bytes a → IsPage first last bytes b → a ≡ b
page_unique first last bytes a b h k =
    h.2 ∙ (ap (λ (t : List ℕ). first ++ (t ++ last)) (blocks_unique None 1 (lines_of bytes) h.0 k.0 h.1 k.1) ∙ sym k.2)
