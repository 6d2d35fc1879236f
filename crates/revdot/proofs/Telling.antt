-- How many lines of an input the story has.
use Rattle.std.proofs.Common.{◌≡◌, ◌∙◌, ℕ, ◌+◌, ◌≤◌, List, [], ◌∷◌, ◌++◌, length, ap, append_assoc, append-nil, arith}
use Rattle.std.proofs.Common.{Option, None, Some, true}
use Rattle.std.proofs.Common.{Bool, false, inl, inr, not, refl, rules, subst, sym, ◌&&◌}
use Rattle.std.specs.List.{starts_with}
use Rattle.std.proofs.lemmas.Bool.{both_ways}
use Rattle.fr_graph.specs.Network.{Network}
use Rattle.fr_route.specs.Pushing.{AreAsked}
use Rattle.fr_route.specs.Routes.{AreHops}
use Rattle.fr_route.specs.States.{State}
use Rattle.fr_tables.specs.declared.hop.Hop.{Hop}
use Rattle.fr_bytes.specs.Lines.{lines_of}
use Rattle.fr_bytes.proofs.Ending.{few_lines}
use Rattle.std.specs.Prelude.{Err, Ok, codes, eqb}
use Rattle.fr_requests.specs.declared.requests.Question.TheVariants.{Links, Counts, Hops, Ways}
use Rattle.fr_requests.specs.declared.requests.NodeQuestion.TheVariants as node
use Rattle.fr_requests.specs.declared.requests.LineFault.{LineFault}
use Rattle.fr_requests.specs.Requests.{PlainRequest, new_network, cut_link, add_link, join_nodes, make_edits, move_dest}
use Rattle.fr_requests.specs.Requests.{walk_from, ask, ask_node, order_pushes, push_ways, reading}
use Rattle.fr_route.specs.Answers.{IsAnswer, IsLineAnswer, IsText}
use Rattle.fr_route.specs.Blank.{is_blank}
use Rattle.fr_route.specs.Json.{EndsHere, IsJsonAnswer}
use Rattle.fr_route.specs.Texts.{refusal_text}
use Rattle.fr_route.specs.Telling.{IsTold}
use Rattle.revdot.specs.Asked.{asked_text}
use Rattle.revdot.specs.Changes.{pushes_line}
use Rattle.revdot.specs.Stories.{AreBlocks, AreSettledLines, AreWaysBefore, IsAnswerLine, IsAnsweredBlock, IsBlock}
use Rattle.revdot.specs.Stories.{IsMark, IsRefusalLine, IsResult}
use Rattle.revdot.specs.Stories.{IsRequestBlock, IsRoundStory, IsSequel, IsStep, IsStory, IsTurnByTurn, answer_text}
use Rattle.revdot.specs.Stories.{is_told, makes_round}
use Rattle.revdot.specs.Stories.{most_told_turns, net_before, net_text, refusal_line, turns_line}
use Rattle.revdot.specs.Strips.{AreAllTurns, beginning}
use Rattle.fr_route.proofs.Determined.{asked_not_refused, not_both}
use Rattle.revdot.proofs.Beginnings.{begins}

-- three texts that were added one by one
three : (old a b c one two new : List ℕ) → one ≡ old ++ a → two ≡ one ++ b → new ≡ two ++ c
    → new ≡ old ++ (a ++ (b ++ c))
three old a b c one two new e f g =
    g ∙ (ap (λ (t : List ℕ). t ++ c) (f ∙ (ap (λ (t : List ℕ). t ++ b) e ∙ append_assoc old a b))
    ∙ (append_assoc old (a ++ b) c ∙ ap (λ (t : List ℕ). old ++ t) (append_assoc a b c)))

-- this is the story of so many lines, and the whole story is this and that of the lines that are left
pub record HasTold (whole : List ℕ) (left : List (List ℕ)) (now : Option State) (number : ℕ) (old new : List ℕ) : Type
    0 where
  pub told : List ℕ
  pub text : new ≡ old ++ told
  pub rest : (more : List ℕ) → AreBlocks now (number + 1) left more → IsStory whole (told ++ more)
  pub within : number + length left ≤ length whole + 1

pub at_start : (whole : List ℕ) (left : List (List ℕ)) (now : Option State) (old : List ℕ) → left ≡ lines_of whole
    → now ≡ None → HasTold whole left now 0 old old
at_start whole left now old all none = rw (all, none) record {
  told = [];
  text = sym (append-nil old);
  rest = λ more are. are;
  within = omega (arith, few_lines whole);
}

-- the next line is the first of those that are left
pub next_line : (whole line : List ℕ) (all left : List (List ℕ)) (now : Option State) (number : ℕ) (old new : List ℕ)
    → all ≡ line ∷ left → HasTold whole all now number old new
    → HasTold whole (line ∷ left) now number old new
next_line whole line all left now number old new is h =
    subst (λ (ls : List (List ℕ)). HasTold whole ls now number old new) is h

-- the story has one more line
pub one_line_more : (whole line : List ℕ) (left : List (List ℕ)) (now next : Option State) (number : ℕ)
    (old new newer step : List ℕ) → HasTold whole (line ∷ left) now number old new
    → IsStep now (number + 1) line next step → newer ≡ new ++ step → HasTold whole left next (number + 1) old newer
one_line_more whole line left now next number old new newer step h is text = record {
  told = h.told ++ step;
  text = text ∙ (ap (λ (t : List ℕ). t ++ step) h.text ∙ append_assoc old h.told step);
  rest =
      λ more are. subst (IsStory whole) (sym (append_assoc h.told step more)) (h.rest (step ++ more) (
        step,
        next,
        more,
        is,
        are,
        refl,
      ));
  within = let within = h.within in omega (arith, within);
}

-- a line, and what follows it
pub step_told : (s next : Option State) (number : ℕ) (line block mark old one new : List ℕ)
    → IsBlock s number line block next
    → IsMark number next mark → one ≡ old ++ block → new ≡ one ++ mark
    → (step : List ℕ) × IsStep s number line next step × (new ≡ old ++ step)
step_told s next number line block mark old one new is_block is_mark e f =
    let step : IsStep s number line next (block ++ mark) = record {
      block = block;
      is_block = is_block;
      mark = mark;
      is_mark = is_mark;
      text = refl;
    } in
    (block ++ mark, step, f ∙ (ap (λ (t : List ℕ). t ++ mark) e ∙ append_assoc old block mark))

-- no line is left
pub all_told : (whole : List ℕ) (left : List (List ℕ)) (now : Option State) (number : ℕ) (old new : List ℕ) → left ≡ []
    → HasTold whole left now number old new
    → (story : List ℕ) × IsStory whole story × (new ≡ old ++ story)
all_told whole left now number old new none h =
    let last : AreBlocks now (number + 1) left [] = rw none refl in
    (h.told ++ [], h.rest [] last, h.text ∙ ap (λ (t : List ℕ). old ++ t) (sym (append-nil h.told)))

-- the four answers, one after the other
pub settled_told : (s : Option State) (links counts hops ways old one two more new : List ℕ)
    → IsAnswerLine s Links links
    → IsAnswerLine s Counts counts → IsAnswerLine s Hops hops → IsAnswerLine s Ways ways
    → one ≡ old ++ links → two ≡ one ++ counts → more ≡ two ++ hops → new ≡ more ++ ways
    → (out : List ℕ) × AreSettledLines s out × (new ≡ old ++ out)
settled_told s links counts hops ways old one two more new are_links are_counts are_hops are_ways e f g k =
    let lines : AreSettledLines s (links ++ (counts ++ (hops ++ ways))) = record {
      links = links;
      counts = counts;
      hops = hops;
      ways = ways;
      are_links = are_links;
      are_counts = are_counts;
      are_hops = are_hops;
      are_ways = are_ways;
      text = refl;
    } in
    let end : new ≡ two ++ (hops ++ ways) = k ∙ (ap (λ (t : List ℕ). t ++ ways) g ∙ append_assoc two hops ways) in
    (links ++ (counts ++ (hops ++ ways)), lines, three old links counts (hops ++ ways) one two new e f end)

-- a round: its nodes and destination, its turns, its result, and the nodes that it reroutes
pub round_told : (before : Option Network) (ways : List (List ℕ)) (s : State) (session : Option State)
    (turns left rerouted : List ℕ) (hops : List Hop)
    (old one two more new : List ℕ) → Some s ≡ session → is_told s ≡ true
    → AreAllTurns most_told_turns s.nodes s.dest (beginning s) turns → IsResult before ways s left
    → AreHops s s.nodes hops
    → one ≡ old ++ net_text s.nodes s.dest → two ≡ one ++ turns_line turns → more ≡ two ++ left
    → new ≡ more ++ pushes_line hops rerouted
    → (out : List ℕ) × IsRoundStory true before ways session rerouted out × (new ≡ old ++ out)
round_told before ways s session turns left rerouted hops old one two more new some small are_all is_result are_hops e
    f g k =
    let net = net_text s.nodes s.dest in
    let pushes = pushes_line hops rerouted in
    let end : new ≡ two ++ (left ++ pushes) = k ∙ (ap (λ (t : List ℕ). t ++ pushes) g ∙ append_assoc two left pushes) in
    let rest = turns_line turns ++ (left ++ pushes) in
    let told : IsTurnByTurn before ways s rerouted rest = record {
      begins = λ first net below round. begins s.nodes s.dest first s net below round;
      turns = turns;
      are_all = are_all;
      left = left;
      is_result = is_result;
      hops = hops;
      are_hops = are_hops;
      text = refl;
    } in
    let story : IsRoundStory true before ways (Some s) rerouted (net ++ rest) = (rest, rw small told, refl) in
    let in_session = subst (λ (t : Option State). IsRoundStory true before ways t rerouted (net ++ rest)) some story in
    (net ++ rest, in_session, three old net (turns_line turns) (left ++ pushes) one two new e f end)

-- the answer to an accepted request is not a refusal
no_refusal : (s : State) (request : PlainRequest) (answer : List ℕ) → IsText s request answer
    → starts_with eqb answer (codes "refused") ≡ false
no_refusal s (new_network n d links) answer is = rw is.3 refl
no_refusal s (cut_link u v) answer is = rw is.3 refl
no_refusal s (add_link u v) answer is = rw is.3 refl
no_refusal s (join_nodes u v) answer is = rw is.3 refl
no_refusal s (make_edits edits) answer is = rw is.3 refl
no_refusal s (move_dest d) answer is = rw is.3 refl
no_refusal s (walk_from x) answer (inl is) = rw is.2 refl
no_refusal s (walk_from x) answer (inr is) = rw is.1 refl
no_refusal s (ask Links) answer is = rw is refl
no_refusal s (ask Counts) answer is = rw is refl
no_refusal s (ask Hops) answer is = rw is.2 refl
no_refusal s (ask Ways) answer is = rw is.2 refl
no_refusal s (ask_node node.Ways x) answer is = rw is.2 refl
no_refusal s (ask_node node.Nearest x) answer (inl is) = rw is.2 refl
no_refusal s (ask_node node.Nearest x) answer (inr is) = rw is.1 refl
no_refusal s (order_pushes table wanted) answer is = absurd is
no_refusal s (push_ways table) answer is = rw is.2 refl

-- pushes between tables begin no round
asked_no_round : (s : Option State) (request : PlainRequest) (pushes : List (ℕ × Hop)) → AreAsked s request pushes
    → makes_round request ≡ false
asked_no_round s (new_network n d links) pushes asked = absurd asked
asked_no_round s (cut_link u v) pushes asked = absurd asked
asked_no_round s (add_link u v) pushes asked = absurd asked
asked_no_round s (join_nodes u v) pushes asked = absurd asked
asked_no_round s (make_edits edits) pushes asked = absurd asked
asked_no_round s (move_dest d) pushes asked = absurd asked
asked_no_round s (walk_from x) pushes asked = absurd asked
asked_no_round s (ask question) pushes asked = absurd asked
asked_no_round s (ask_node question x) pushes asked = absurd asked
asked_no_round s (order_pushes table wanted) pushes asked = refl
asked_no_round s (push_ways table) pushes asked = absurd asked

-- what follows an answer that is not a refusal: the round, if the request makes one
pub round_follows : (s next : Option State) (number : ℕ) (request : PlainRequest) (answer rerouted told : List ℕ)
    (old : List (List ℕ))
    → IsAnswer s request answer next → starts_with eqb answer (codes "refused") ≡ false
    → AreWaysBefore s (net_before s request) old
    → IsRoundStory (makes_round request) (net_before s request) old next rerouted told
    → IsSequel s number request next rerouted told
round_follows s next number request answer rerouted told old (inl (why, refused, is, same)) e ways round =
    absurd (both_ways (starts_with eqb answer (codes "refused")) e (rw is refl))
round_follows s next number request answer rerouted told old (inr (inl (new, accepted, is, same))) e ways round =
    inr (inl (new, accepted, old, ways, round))
round_follows s next number request answer rerouted told old (inr (inr (pushes, asked, is, same))) e ways round =
    inr (inr (pushes, asked, rw (asked_no_round s request pushes asked) at round))

-- the answer to a request, what it asks, and what follows
pub answered_told : (s next : Option State) (number : ℕ) (request : PlainRequest)
    (answer rerouted told old one two new : List ℕ)
    → IsAnswer s request answer next → IsTold s request next [] rerouted → IsSequel s number request next rerouted told
    → one ≡ old ++ answer_text number answer → two ≡ one ++ asked_text (Ok request) → new ≡ two ++ told
    → (block : List ℕ) × IsAnsweredBlock s number (Ok request) block next × (new ≡ old ++ block)
answered_told s next number request answer rerouted told old one two new is_answer are_rerouted is_sequel e f g =
    let answered : IsAnsweredBlock s number (Ok request) (answer_text number answer
    ++ (asked_text (Ok request) ++ told)) next = record {
      answer = answer;
      is_answer = is_answer;
      rerouted = rerouted;
      are_rerouted = are_rerouted;
      told = told;
      is_sequel = is_sequel;
      text = refl;
    } in
    (_, answered, three old (answer_text number answer) (asked_text (Ok request)) told one two new e f g)

-- the same for a refused request, whose answer in JSON changes nothing
pub refused_told : (s next last : Option State) (number : ℕ) (request : PlainRequest)
    (answer rerouted text old one two new : List ℕ)
    → IsAnswer s request answer next → IsTold s request next [] rerouted
    → starts_with eqb answer (codes "refused") ≡ true
    → IsJsonAnswer EndsHere number next request text last
    → one ≡ old ++ answer_text number answer → two ≡ one ++ asked_text (Ok request) → new ≡ two ++ refusal_line text
    → (block : List ℕ) × IsAnsweredBlock s number (Ok request) block last × (new ≡ old ++ block)
refused_told s next last number request answer rerouted text old one two new (inl (why, refused, is, same)) tells
    starts json e f g =
    elim json_here [
      | inl (refusal, is_refusal, is_text, unchanged) ↦
          (let line : IsRefusalLine s number request (refusal_line text) = (
            refusal,
            is_refusal,
            ap refusal_line is_text,
          ) in
          let back : last ≡ next = unchanged ∙ sym same in
          let tells_last = subst (λ (t : Option State). IsTold s request t [] rerouted) (sym back) tells in
          answered_told s last number request answer rerouted (refusal_line text) old one two new (inl (
            why,
            refused,
            is,
            unchanged,
          )) tells_last
          (inl line) e f g)
      | inr (inl (new, accepted, _, _)) ↦ absurd (not_both s request why new refused accepted)
      | inr (inr (pushes, asked, _, _)) ↦ absurd (asked_not_refused s request pushes why asked refused)
    ]
  where
    json_here : IsJsonAnswer EndsHere number s request text last
    json_here = subst (λ (t : Option State). IsJsonAnswer EndsHere number t request text last) same json
refused_told s next last number request answer rerouted text old one two new (inr (inl (state, accepted, is, same)))
    tells starts json e f g =
    absurd (both_ways (starts_with eqb answer (codes "refused")) (no_refusal state request answer is) starts)
refused_told s next last number request answer rerouted text old one two new (inr (inr (pushes, asked, is, same)))
    tells starts json e f g =
    absurd (both_ways (starts_with eqb answer (codes "refused")) (rw is refl) starts)

-- the answer to a line that is not a request
pub unread_told : (s : Option State) (fault : LineFault) (why number : ℕ) (line : List ℕ) → is_blank line ≡ false
    → reading line ≡ Err fault
    → IsLineAnswer s (Err fault) (refusal_text why) s
    → IsRequestBlock s number line (answer_text number (refusal_text why)) s
unread_told s fault why number line asks reads is_answer = rw (asks, reads) record {
  answer = refusal_text why;
  is_answer = is_answer;
  rerouted = [];
  are_rerouted = (refl, refl);
  told = [];
  is_sequel = refl;
  text = sym (append-nil (answer_text number (refusal_text why)));
}
