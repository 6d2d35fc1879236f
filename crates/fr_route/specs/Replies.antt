-- What a session does with a request in each form, by any way to settle networks. For proofs only.
use Rattle.std.specs.Prelude.{◌≡◌, ◌≢◌, ℕ, ◌≤◌, ◌⊎◌, ◌↔◌, IsTrue, Bool, true, false, length, List, Option, None, Some}
use Rattle.std.specs.Prelude.{Result, Ok, Err, String, IfOk, IfErr, IfSome, IfNone, OnErr, string_bytes}
use Rattle.std.specs.declared.alloc.Global.{Global}
use Rattle.fr_requests.specs.Requests.{PlainRequest, reading, cut_link, add_link, join_nodes}
use Rattle.fr_requests.specs.declared.requests.LineFault.{LineFault}
use Rattle.fr_requests.specs.declared.requests.LineFault.TheVariants.{NotJson, NotRequest, Memory}
use Rattle.fr_graph.specs.declared.edit.Edit.{Edit}
use Rattle.fr_graph.specs.declared.edit.Edit.TheVariants.{Cut, Add, Join}
use Rattle.fr_route.specs.Answers.{IsAccepted, IsReportLine, IsText, MayStartForLine}
use Rattle.fr_route.specs.Blank.{is_blank}
use Rattle.fr_route.specs.Changes.{IsPlaced}
use Rattle.fr_route.specs.Forms.{IsAnswerIn, IsLineRefused}
use Rattle.fr_route.specs.Json.{EndsHere, EndsWithWays, IsJsonReport, IsJsonText, IsRefusal}
use Rattle.fr_route.specs.Json.{PlainRefusal, bare_refusal, pushes_json, refusal_json}
use Rattle.fr_route.specs.Listing.{AsksWays, IsListing, nodes_told}
use Rattle.fr_route.specs.Outcomes.{IsEdited}
use Rattle.fr_route.specs.Pushing.{AreAsked, IsFaultFrom, LeadFrom}
use Rattle.fr_route.specs.Reroutes.{AreRerouted}
use Rattle.fr_route.specs.States.{State}
use Rattle.fr_route.specs.Texts.{longest_report, pushes_text, refusal_text}
use Rattle.fr_route.specs.Telling.{TellsOf}
use Rattle.fr_route.specs.declared.fault.AnswerFault.{AnswerFault}
use Rattle.fr_route.specs.declared.fault.AnswerFault.TheVariants.{Start}
use Rattle.fr_route.specs.declared.fault.NotMade.{NotMade}
use Rattle.fr_route.specs.declared.fault.RouteFault.TheVariants as route
use Rattle.fr_route.specs.declared.form.Answer.{Answer}
use Rattle.fr_route.specs.declared.form.Draft.{Draft}
use Rattle.fr_route.specs.declared.form.Form.{Form}
use Rattle.fr_route.specs.declared.form.Form.TheVariants.{Text, Json, JsonWithWays}
use Rattle.fr_route.specs.declared.revision.Revision.{Revision}
use Rattle.fr_route.specs.declared.changed_nodes.ChangedNodes.{ChangedNodes}
use Rattle.fr_tables.specs.declared.hop.Hop.{Hop}

-- how a line is answered: in which form, and as which line of its input
pub record AnswerForm : Type 0 where
  pub form : Form
  pub number : ℕ

abbrev pub answer_form : Draft → AnswerForm
answer_form draft = record { form = draft.form; number = draft.number }

-- the answer that was written in a draft
abbrev pub written : Draft → Bool → Answer
written draft refused = record { text = draft.text; refused = refused }

-- what a call returns that writes the answer to a line in a draft
abbrev pub answered : Result (Option Bool) AnswerFault → Draft → Result (Option Answer) AnswerFault
answered (Ok (Some refused)) draft = Ok (Some (written draft refused))
answered (Ok None) draft = Ok None
answered (Err fault) draft = Err fault

-- the list that JSON needs is there, and the notes that JSON with ways needs
pub record HasList (form : Form) (told : ChangedNodes) : Type 0 where
  pub list : form ≢ Text → IsListing told
  pub notes : form ≡ JsonWithWays → AsksWays told

-- the text of a refusal in this form
abbrev pub refused_in : Form → ℕ → PlainRefusal → List ℕ
refused_in Text line refusal = refusal_text refusal.number
refused_in Json line refusal = refusal_json refusal line
refused_in JsonWithWays line refusal = refusal_json refusal line

-- the answer refuses the line so
abbrev pub RefusesBy : AnswerForm → PlainRefusal → Answer → Type 0
RefusesBy manner refusal answer = (string_bytes answer.text ≡ refused_in manner.form manner.number refusal)
    × (answer.refused ≡ true)

-- the report of a round in this form, from the states before and after it
abbrev pub IsReportIn : Form → (List ℕ → Type 0) → Option State → State → List ℕ → Type 0
IsReportIn Text Lists s new text = IsReportLine new text
IsReportIn Json Lists s new text = IsJsonReport Lists (EndsHere s new) new text
IsReportIn JsonWithWays Lists s new text = IsJsonReport Lists (EndsWithWays s new) new text

-- the text for an accepted request in this form
abbrev pub IsTextIn : Form → Option State → PlainRequest → State → List ℕ → Type 0
IsTextIn Text s request new text = IsText new request text
IsTextIn Json s request new text = IsJsonText EndsHere s request new text
IsTextIn JsonWithWays s request new text = IsJsonText EndsWithWays s request new text

-- the text for pushes between tables in this form
abbrev pub pushes_in : Form → List (ℕ × Hop) → List ℕ
pushes_in Text pushes = pushes_text pushes
pushes_in Json pushes = pushes_json pushes
pushes_in JsonWithWays pushes = pushes_json pushes

-- the request for an edit
abbrev pub request_of_edit : Edit → PlainRequest
request_of_edit (Cut u v) = cut_link u v
request_of_edit (Add u v) = add_link u v
request_of_edit (Join u v) = join_nodes u v

-- why a line is refused
abbrev pub IsLineRefusal : Option State → Result PlainRequest LineFault → PlainRefusal → Type 0
IsLineRefusal s (Ok request) refusal = IsRefusal s request refusal
IsLineRefusal s (Err NotJson) refusal = refusal ≡ bare_refusal 1
IsLineRefusal s (Err NotRequest) refusal = refusal ≡ bare_refusal 2
IsLineRefusal s (Err Memory) refusal = ⊥

-- the answer refuses what was read, and nothing changes
pub record Refuses (manner : AnswerForm) (s : Option State) (asked : Result PlainRequest LineFault) (told : ChangedNodes)
    (answer : Answer) (next : Option State) (more : ChangedNodes) : Type 0 where
  pub refusal : PlainRefusal
  pub why : IsLineRefusal s asked refusal
  pub by : RefusesBy manner refusal answer
  pub same : next ≡ s
  pub untold : nodes_told more ≡ nodes_told told

-- the answer is that to an accepted request
pub record Accepts (manner : AnswerForm) (s : Option State) (request : PlainRequest) (told : ChangedNodes) (answer : Answer)
    (next : Option State) (more : ChangedNodes) : Type 0 where
  pub new : State
  pub accepted : IsAccepted s request new
  pub text : HasList manner.form told → IsTextIn manner.form s request new (string_bytes answer.text)
  pub by : answer.refused ≡ false
  pub next_is : next ≡ Some new
  pub tells : IsListing told → TellsOf s request new (nodes_told told) (nodes_told more)
  pub short : manner.form ≡ Text
      → ((next ≡ s) × (nodes_told more ≡ nodes_told told)) ⊎ (length (string_bytes answer.text) ≤ longest_report)

-- the answer is that to a request for pushes between tables, and nothing changes
pub record Orders (manner : AnswerForm) (s : Option State) (request : PlainRequest) (told : ChangedNodes) (answer : Answer)
    (next : Option State) (more : ChangedNodes) : Type 0 where
  pub pushes : List (ℕ × Hop)
  pub asked : AreAsked s request pushes
  pub text : string_bytes answer.text ≡ pushes_in manner.form pushes
  pub by : answer.refused ≡ false
  pub same : next ≡ s
  pub untold : nodes_told more ≡ nodes_told told

abbrev pub IsReply : AnswerForm → Option State → Result PlainRequest LineFault → ChangedNodes → Answer → Option State → ChangedNodes
    → Type 0
IsReply manner s (Ok request) told answer next more = Refuses manner s (Ok request) told answer next more
    ⊎ (Accepts manner s request told answer next more ⊎ Orders manner s request told answer next more)
IsReply manner s (Err fault) told answer next more = Refuses manner s (Err fault) told answer next more

-- the answer to a request that changes nothing, in this state
abbrev pub IsStillReply : AnswerForm → Option State → PlainRequest → Answer → Type 0
IsStillReply manner s request answer =
    ((refusal : PlainRefusal) × IsRefusal s request refusal × RefusesBy manner refusal answer)
    ⊎ (((new : State) × IsAccepted s request new × IsTextIn manner.form s request new (string_bytes answer.text)
    × (answer.refused ≡ false) × (s ≡ Some new))
    ⊎ ((pushes : List (ℕ × Hop)) × AreAsked s request pushes
    × (string_bytes answer.text ≡ pushes_in manner.form pushes) × (answer.refused ≡ false)))

-- the answer to a request for the pushes from a table to these hops
abbrev pub IsFromReply : AnswerForm → List Hop → List Hop → Answer → Type 0
IsFromReply manner table hops answer =
    ((number : ℕ) × (nodes : List ℕ) × IsFaultFrom table hops number nodes
    × RefusesBy manner (record { number = number; nodes = nodes; edit = None }) answer)
    ⊎ ((pushes : List (ℕ × Hop)) × LeadFrom table hops pushes
    × (string_bytes answer.text ≡ pushes_in manner.form pushes) × (answer.refused ≡ false))

-- The answer to what was read of a line, as it is written in a draft, the state after it, and the list of rerouted nodes.
-- With `never`, the way to settle starts no thread.
pub record IsReplied (never : Type 0) (manner : AnswerForm) (s : Option State) (asked : Result PlainRequest LineFault)
    (told : ChangedNodes) (answer : Result Bool AnswerFault) (draft : Draft) (next : Option State) (more : ChangedNodes)
    : Type 0 where
  pub reply : IfOk answer (λ refused. IsReply manner s asked told (written draft refused) next more)
  pub unchanged : OnErr answer ((next ≡ s) × (nodes_told more ≡ nodes_told told))
  pub start : IfErr answer (λ fault. fault ≡ Start → MayStartForLine s asked)
  pub no_start : never → IfErr answer (λ fault. fault ≢ Start)

-- the same for a line. A blank line has no answer and changes nothing
pub record IsLineReplied (never : Type 0) (manner : AnswerForm) (s : Option State) (line : List ℕ) (told : ChangedNodes)
    (answer : Result (Option Bool) AnswerFault) (draft : Draft) (next : Option State) (more : ChangedNodes) : Type 0 where
  pub blank : IfOk answer (λ a. IfNone a ((is_blank line ≡ true) × (next ≡ s) × (nodes_told more ≡ nodes_told told)))
  pub reply : IfOk answer
      (λ a. IfSome a (λ refused. (is_blank line ≡ false)
      × IsReply manner s (reading line) told (written draft refused) next more))
  pub unchanged : OnErr answer ((is_blank line ≡ false) × (next ≡ s) × (nodes_told more ≡ nodes_told told))
  pub start : IfErr answer (λ fault. fault ≡ Start → MayStartForLine s (reading line))
  pub no_start : never → IfErr answer (λ fault. fault ≢ Start)

-- the same in this form, for the line with this number
pub record IsLineAnsweredIn (never : Type 0) (form : Form) (number : ℕ) (s : Option State) (line : List ℕ)
    (answer : Result (Option Answer) AnswerFault) (next : Option State) : Type 0 where
  pub blank : IfOk answer (λ a. IfNone a ((is_blank line ≡ true) × (next ≡ s)))
  pub text : IfOk answer
      (λ a. IfSome a (λ it. (is_blank line ≡ false)
      × IsAnswerIn form number s (reading line) (string_bytes it.text) next))
  pub refused : IfOk answer (λ a. IfSome a (λ it. IsTrue it.refused ↔ IsLineRefused s (reading line)))
  pub unchanged : OnErr answer ((is_blank line ≡ false) × (next ≡ s))
  pub start : IfErr answer (λ fault. fault ≡ Start → MayStartForLine s (reading line))
  pub no_start : never → IfErr answer (λ fault. fault ≢ Start)

-- edits, and the report of the round after them, which becomes this text
pub record IsRevised (never : Type 0) (form : Form) (s : State) (revision : Revision) (told : ChangedNodes)
    (answer : Result (Unit {0}) NotMade) (text : String Global) (next : State) (more : ChangedNodes) : Type 0 where
  pub made : IfOk answer (λ _. IsEdited s revision.edits.now revision.dest next)
  pub report : HasList form told
      → IfOk answer (λ _. IsReportIn form (AreRerouted s next) (Some s) next (string_bytes text))
  pub short : form ≡ Text → IfOk answer (λ _. length (string_bytes text) ≤ longest_report)
  pub rerouted : IsListing told → IfOk answer (λ _. AreRerouted s next (nodes_told more))
  pub fault : IfErr answer (IsPlaced s revision.edits.now revision.dest)
  pub unchanged : OnErr answer ((next ≡ s) × (nodes_told more ≡ nodes_told told))
  pub no_start : never → IfErr answer (λ undone. undone.fault ≢ route.Start)
