-- What a session replies to a request, from the result of the call below.
use Rattle.std.proofs.Common.{Err, IfErr, IfOk, List, [], ◌∷◌, None, Ok, Option, Result, Some, ap, arith, get_or, inl}
use Rattle.std.proofs.Common.{inr, length, max, refl, slice_get, string_bytes, subst, sym}
use Rattle.std.proofs.Common.{ℕ, ◌∙◌, ◌≡◌, ◌≢◌, ◌<◌, ◌≤◌, ◌↔◌, ◌⊎◌, ◌+◌, ◌*◌, IfSome, Bool, true, false, IsTrue, rules}
use Rattle.std.proofs.lemmas.Option.{slice_get-get_or}
use Rattle.fr_requests.specs.Requests.{PlainRequest, reading, ask, ask_node, cut_link, add_link, join_nodes, make_edits}
use Rattle.fr_requests.specs.Requests.{move_dest, new_network, order_pushes, push_ways, walk_from}
use Rattle.fr_requests.specs.declared.requests.LineFault.{LineFault}
use Rattle.fr_requests.specs.declared.requests.LineFault.TheVariants.{NotJson, NotRequest, Memory as LineMemory}
use Rattle.fr_requests.specs.declared.requests.Question.{Question}
use Rattle.fr_requests.specs.declared.requests.NodeQuestion.{NodeQuestion}
use Rattle.fr_graph.specs.Batches.{IsBatchFault}
use Rattle.fr_graph.specs.declared.edit.Edit.{Edit}
use Rattle.fr_graph.specs.declared.edit.Edit.TheVariants as edit
use Rattle.fr_graph.specs.declared.fault.NetFault.{NetFault}
use Rattle.fr_graph.specs.declared.fault.NetFault.TheVariants as net
use Rattle.fr_route.specs.Blank.{is_blank}
use Rattle.fr_route.specs.Answers.{IsAccepted, IsRefused, MayStartFor, MayStartForLine, fault_number}
use Rattle.fr_route.specs.Forms.{IsAnswerIn, IsLineRefused}
use Rattle.fr_route.specs.Json.{IsBatchRefusal, IsEditRefusal, IsNewRefusal, IsRefusal, PlainRefusal, bare_refusal}
use Rattle.fr_route.specs.Json.{ends, ends_in, phases_json, refusal_for, refusal_json}
use Rattle.fr_route.specs.Listing.{AsksWays, IsListing, nodes_told}
use Rattle.fr_route.specs.Changes.{IsPlacedFault}
use Rattle.fr_route.specs.Outcomes.{IsEdited}
use Rattle.fr_route.specs.Pushing.{IsPushesRefused, padded}
use Rattle.fr_route.specs.Refusals.{IsNewFault, IsRefusalOf}
use Rattle.fr_route.specs.Replies.{HasList, answered, written, IsFromReply, IsLineRefusal, IsLineAnsweredIn}
use Rattle.fr_route.specs.Replies.{IsLineReplied, IsReplied, IsReply, IsReportIn, IsRevised, IsStillReply, IsTextIn}
use Rattle.fr_route.specs.Replies.{Refuses, RefusesBy, request_of_edit}
use Rattle.fr_route.specs.Reroutes.{AreRerouted}
use Rattle.fr_route.specs.Rooms.{lists_size, report_room, report_size}
use Rattle.fr_route.specs.Sessions.{IsAnswered, IsLineAnswered}
use Rattle.fr_route.specs.States.{State, net_at}
use Rattle.fr_route.specs.Texts.{longest_report, refusal_text}
use Rattle.fr_route.specs.Telling.{IsLineTold, TellsOf}
use Rattle.fr_route.specs.declared.fault.AnswerFault.{AnswerFault}
use Rattle.fr_route.specs.declared.fault.AnswerFault.TheVariants.{Memory, Start}
use Rattle.fr_route.specs.declared.fault.RouteFault.{RouteFault}
use Rattle.fr_route.specs.declared.fault.RouteFault.TheVariants as route
use Rattle.fr_route.specs.declared.form.Answer.{Answer}
use Rattle.fr_route.specs.declared.form.Draft.{Draft}
use Rattle.fr_route.specs.declared.form.Form.{Form}
use Rattle.fr_route.specs.declared.form.Form.TheVariants.{Text, Json, JsonWithWays}
use Rattle.fr_route.specs.Replies.{AnswerForm}
use Rattle.fr_route.specs.declared.revision.Revision.{Revision}
use Rattle.fr_route.specs.declared.changed_nodes.ChangedNodes.{ChangedNodes}
use Rattle.fr_route.specs.declared.changed_nodes.ChangedNodes.TheVariants.{InList, Unlisted}
use Rattle.fr_ways.specs.Changes.{Noted}
use Rattle.fr_tables.specs.declared.hop.Hop.{Hop}
use Rattle.fr_route.proofs.Changing.{add_by, cut_by, join_by, named_edit, refused_edit}
use Rattle.fr_route.proofs.Determined.{asked_not_refused, not_both}
use Rattle.fr_route.specs.WayPushes.{AreWayPushesRefused, IsPhasesText}

-- a refusal is a reply
refused_reply : (manner : AnswerForm) (s : Option State) (asked : Result PlainRequest LineFault) (told : ChangedNodes)
    (a : Answer) (next : Option State) (more : ChangedNodes)
    → Refuses manner s asked told a next more → IsReply manner s asked told a next more
refused_reply manner s (Ok r) told a next more is = inl is
refused_reply manner s (Err fault) told a next more is = is

module _ (never : Type 0) (manner : AnswerForm) (s : Option State) (asked : Result PlainRequest LineFault)
    (told : ChangedNodes) where
  -- missing memory changes nothing
  pub no_memory : (fault : AnswerFault) (d : Draft) (next : Option State) (more : ChangedNodes) → fault ≡ Memory
      → next ≡ s
      → nodes_told more ≡ nodes_told told → IsReplied never manner s asked told (Err fault) d next more
  no_memory fault d next more memory n t =
      record { reply = tt; unchanged = (n, t); start = λ e. absurd cc; no_start = λ h e. absurd cc }

  -- so does a refusal
  pub refusing : (refusal : PlainRefusal) (answer : Result Bool AnswerFault) (d : Draft) (next : Option State)
      (more : ChangedNodes)
      → IsLineRefusal s asked refusal → next ≡ s → nodes_told more ≡ nodes_told told
      → IfOk answer (λ b. RefusesBy manner refusal (written d b))
      → IfErr answer (λ fault. fault ≡ Memory) → IsReplied never manner s asked told answer d next more
  refusing refusal (Ok b) d next more why n t by memory = record {
    reply =
        refused_reply manner s asked told (written d b) next more (record {
          refusal = refusal;
          why = why;
          by = by;
          same = n;
          untold = t;
        });
    unchanged = tt;
    start = tt;
    no_start = λ h. tt;
  }
  refusing refusal (Err fault) d next more why n t by memory = no_memory fault d next more memory n t

  -- the refusal for a fault
  pub faulty : (fault : RouteFault) (named : List ℕ) (place : Option ℕ) (answer : Result Bool AnswerFault) (d : Draft)
      (next : Option State) (more : ChangedNodes)
      → ((refusal : PlainRefusal) → IsRefusalOf fault named place refusal → IsLineRefusal s asked refusal)
      → (fault ≡ route.Start → MayStartForLine s asked) → (never → fault ≢ route.Start) → next ≡ s
      → nodes_told more ≡ nodes_told told
      → IfOk answer (λ b. (refusal : PlainRefusal) × IsRefusalOf fault named place refusal
      × RefusesBy manner refusal (written d b))
      → IfErr answer (λ why. (why ≡ Start) ↔ (fault ≡ route.Start))
      → IsReplied never manner s asked told answer d next more
  faulty fault named place (Ok b) d next more refuses may starts n t by why = record {
    reply =
        refused_reply manner s asked told (written d b) next more (record {
          refusal = by.0;
          why = refuses by.0 by.1;
          by = by.2;
          same = n;
          untold = t;
        });
    unchanged = tt;
    start = tt;
    no_start = λ h. tt;
  }
  faulty fault named place (Err reason) d next more refuses may starts n t by why =
      record { reply = tt; unchanged = (n, t); start = λ e. may (why.0 e); no_start = λ h e. starts h (why.0 e) }

-- the answer to an accepted request that begins a round
pub done : (never : Type 0) (manner : AnswerForm) (s : Option State) (request : PlainRequest) (told : ChangedNodes)
    (new : State)
    (d : Draft) (next : Option State) (more : ChangedNodes) → IsAccepted s request new
    → (HasList manner.form told → IsTextIn manner.form s request new (string_bytes d.text))
    → next ≡ Some new → (IsListing told → TellsOf s request new (nodes_told told) (nodes_told more))
    → (manner.form ≡ Text → length (string_bytes d.text) ≤ longest_report)
    → IsReplied never manner s (Ok request) told (Ok false) d next more
done never manner s request told new d next more accepted text n tells short = record {
  reply = inr (inl (record {
    new = new;
    accepted = accepted;
    text = text;
    by = refl;
    next_is = n;
    tells = tells;
    short = λ is. inr (short is);
  }));
  unchanged = tt;
  start = tt;
  no_start = λ h. tt;
}

-- the answer to edits that are made
pub revised : (never : Type 0) (manner : AnswerForm) (s : State) (request : PlainRequest) (revision : Revision)
    (told : ChangedNodes) (d : Draft)
    (new : State) (more : ChangedNodes) → IsRevised never manner.form s revision told (Ok tt) d.text new more
    → (IsEdited s revision.edits.now revision.dest new → IsAccepted (Some s) request new)
    → ((bytes : List ℕ) → IsReportIn manner.form (AreRerouted s new) (Some s) new bytes
    → IsTextIn manner.form (Some s) request new bytes)
    → ((after : List ℕ) → AreRerouted s new after → TellsOf (Some s) request new (nodes_told told) after)
    → IsReplied never manner (Some s) (Ok request) told (Ok false) d (Some new) more
revised never manner s request revision told d new more made accepted texts tells =
    done never manner (Some s) request told new d (Some new) more (accepted made.made)
    (λ list. texts (string_bytes d.text) (made.report list)) refl
    (λ listing. tells (nodes_told more) (made.rerouted listing)) made.short

-- a request that needs a network is refused while there is none
pub none_yet : (never : Type 0) (manner : AnswerForm) (s : Option State) (request : PlainRequest) (told : ChangedNodes)
    (answer : Result Bool AnswerFault) (d : Draft)
    (next : Option State) → s ≡ None → next ≡ None → IsRefusal None request (bare_refusal 3)
    → IfOk answer (λ b. RefusesBy manner (bare_refusal 3) (written d b))
    → IfErr answer (λ fault. fault ≡ Memory) → IsReplied never manner s (Ok request) told answer d next told
none_yet never manner s request told answer d next here n refused by memory =
    refusing never manner s (Ok request) told (bare_refusal 3) answer d next told
    (subst (λ (z : Option State). IsRefusal z request (bare_refusal 3)) (sym here) refused) (n
    ∙ sym here) refl by memory

-- what changes nothing leaves the list unchanged
pub still : (never : Type 0) (manner : AnswerForm) (s : Option State) (request : PlainRequest) (told : ChangedNodes)
    (answer : Result Bool AnswerFault)
    (d : Draft)
    → ((new : State) → IsAccepted s request new → s ≡ Some new
    → TellsOf s request new (nodes_told told) (nodes_told told))
    → IfOk answer (λ b. IsStillReply manner s request (written d b)) → IfErr answer (λ fault. fault ≡ Memory)
    → IsReplied never manner s (Ok request) told answer d s told
still never manner s request told (Ok b) d tells (inl is) memory = record {
  reply = inl (record { refusal = is.0; why = is.1; by = is.2; same = refl; untold = refl });
  unchanged = tt;
  start = tt;
  no_start = λ h. tt;
}
still never manner s request told (Ok b) d tells (inr (inl (new, accepted, text, by, here))) memory = record {
  reply = inr (inl (record {
    new = new;
    accepted = accepted;
    text = λ list. text;
    by = by;
    next_is = here;
    tells = λ list. tells new accepted here;
    short = λ is. inl (refl, refl);
  }));
  unchanged = tt;
  start = tt;
  no_start = λ h. tt;
}
still never manner s request told (Ok b) d tells (inr (inr (pushes, asked, text, by))) memory = record {
  reply = inr (inr (record { pushes = pushes; asked = asked; text = text; by = by; same = refl; untold = refl }));
  unchanged = tt;
  start = tt;
  no_start = λ h. tt;
}
still never manner s request told (Err fault) d tells is memory =
    no_memory never manner s (Ok request) told fault d s told memory refl refl

-- the answer to a request for pushes, from that for two tables
pub between_reply : (manner : AnswerForm) (table wanted : List Hop) (a : Answer) (s : Option State)
    → IsFromReply manner table (padded (max (length table) (length wanted)) wanted) a
    → IsStillReply manner s (order_pushes table (Some wanted)) a
between_reply manner table wanted a s (inl (k, nodes, fault, by)) =
    inl (record { number = k; nodes = nodes; edit = None }, (k, nodes, fault, refl), by)
between_reply manner table wanted a s (inr (pushes, lead, text, by)) = inr (inr (pushes, lead, text, by))

-- a new network is refused for this fault
pub new_refusal : (n d : ℕ) (links : List (ℕ × ℕ)) (fault : RouteFault) → IsNewFault n d links fault
    → (refusal : PlainRefusal) → IsRefusalOf fault (d ∷ []) None refusal → IsNewRefusal n d links refusal
new_refusal n d links (route.Net net.TooMany) why refusal is = inl (net.TooMany, why.0, why.1, is)
new_refusal n d links (route.Net (net.Range x)) why refusal is = inl (net.Range x, why.0, why.1, is)
new_refusal n d links (route.Net (net.SelfLink x)) why refusal is = inl (net.SelfLink x, why.0, why.1, is)
new_refusal n d links (route.Net (net.Twice x y)) why refusal is = inl (net.Twice x y, why.0, why.1, is)
new_refusal n d links (route.Net (net.Cycle walk)) why refusal is = inl (net.Cycle walk, why.0, why.1, is)
new_refusal n d links (route.Net net.NoLink) why refusal is = absurd why.0
new_refusal n d links (route.Net net.Memory) why refusal is = absurd why.0
new_refusal n d links route.Range why refusal is = inr (why.0, why.1, is)
new_refusal n d links route.Start why refusal is = absurd is
new_refusal n d links route.Memory why refusal is = absurd is

-- an edit is refused for this fault
pub edit_refusal : (s : State) (e : Edit) (d at : ℕ) (fault : RouteFault) → IsPlacedFault s (e ∷ []) d at fault
    → (named : List ℕ) → named ≡ ends e
    → (refusal : PlainRefusal) → IsRefusalOf fault named None refusal → IsEditRefusal (net_at s) e refusal
edit_refusal s e d at (route.Net fault) why named here refusal is = (
  fault,
  refused_edit s e (record { at = at; fault = fault }) why.0,
  named_edit s e (record { at = at; fault = fault }) why.0 why.1,
  is ∙ ap (λ (nodes : List ℕ). refusal_for fault nodes None) here,
)
edit_refusal s e d at route.Range why named here refusal is = absurd why
edit_refusal s e d at route.Start why named here refusal is = absurd is
edit_refusal s e d at route.Memory why named here refusal is = absurd is

-- the text of a route does not depend on the state before it
pub walk_text_in : (form : Form) (s : Option State) (x : ℕ) (new : State) (text : List ℕ)
    → IsTextIn form None (walk_from x) new text → IsTextIn form s (walk_from x) new text
walk_text_in Text s x new text h = h
walk_text_in Json s x new text h = h
walk_text_in JsonWithWays s x new text h = h

-- the same refusal, by a draft of the same answer
pub refuses_again : (form other : AnswerForm) (fault : RouteFault) (named : List ℕ) (place : Option ℕ)
    (answer : Result Bool AnswerFault) (d : Draft)
    → form ≡ other
    → IfOk answer (λ b. (r : PlainRefusal) × IsRefusalOf fault named place r × RefusesBy form r (written d b))
    → IfOk answer (λ b. (r : PlainRefusal) × IsRefusalOf fault named place r × RefusesBy other r (written d b))
refuses_again form other fault named place answer d same =
    subst (λ (f : AnswerForm). IfOk answer (λ b. (r : PlainRefusal) × IsRefusalOf fault named place r
    × RefusesBy f r (written d b))) same

-- the place of a refused edit is within the batch
place_inside : (s : State) (edits : List Edit) (at : ℕ) (fault : NetFault)
    → IsBatchFault (net_at s) edits (record { at = at; fault = fault }) → at < length edits
place_inside s edits at fault (inl many) = omega (arith, many.0, many.1)
place_inside s edits at fault (inr few) = few.1.inside

ends_inside : (edits : List Edit) (at : ℕ) (named : List ℕ) → at < length edits
    → IfSome (slice_get edits at) (λ e. named ≡ ends e)
    → named ≡ ends_in (slice_get edits at)
ends_inside edits at named low here =
    let is = slice_get-get_or edits at (edit.Cut 0 0) low in
    let same : named ≡ ends (get_or edits at (edit.Cut 0 0)) =
    subst (λ (o : Option Edit). IfSome o (λ e. named ≡ ends e)) is here in
    same ∙ ap ends_in (sym is)

-- a batch is refused for this fault
pub batch_refusal : (s : State) (edits : List Edit) (d at : ℕ) (fault : RouteFault) → IsPlacedFault s edits d at fault
    → (named : List ℕ) → IfSome (slice_get edits at) (λ e. named ≡ ends e)
    → (refusal : PlainRefusal) → IsRefusalOf fault named (Some at) refusal → IsBatchRefusal (net_at s) edits refusal
batch_refusal s edits d at (route.Net fault) why named here refusal is =
    let low = place_inside s edits at fault why.0 in (
      record { at = at; fault = fault },
      why.0,
      why.1,
      is ∙ ap (λ (nodes : List ℕ). refusal_for fault nodes (Some at)) (ends_inside edits at named low here),
    )
batch_refusal s edits d at route.Range why named here refusal is = absurd why
batch_refusal s edits d at route.Start why named here refusal is = absurd is
batch_refusal s edits d at route.Memory why named here refusal is = absurd is

-- without an edit none is refused
pub no_refusal : (s : State) (d at : ℕ) (fault : RouteFault) → IsPlacedFault s [] d at fault
    → (named : List ℕ) (place : Option ℕ)
    (refusal : PlainRefusal) → IsRefusalOf fault named place refusal → ⊥
no_refusal s d at (route.Net fault) why named at_edit refusal is =
    let low = place_inside s [] at fault why.0 in omega (arith, low)
no_refusal s d at route.Range why named at_edit refusal is = why
no_refusal s d at route.Start why named at_edit refusal is = is
no_refusal s d at route.Memory why named at_edit refusal is = is

-- a request for an edit is refused as the edit is
pub edit_is_refused : (s : State) (e : Edit) (refusal : PlainRefusal) → IsEditRefusal (net_at s) e refusal
    → IsRefusal (Some s) (request_of_edit e) refusal
edit_is_refused s (edit.Cut u v) refusal is = is
edit_is_refused s (edit.Add u v) refusal is = is
edit_is_refused s (edit.Join u v) refusal is = is

-- and is accepted with what the edit makes
pub edit_accepted : (s : State) (e : Edit) (new : State) → IsEdited s (e ∷ []) s.dest new
    → IsAccepted (Some s) (request_of_edit e) new
edit_accepted s (edit.Cut u v) new made = (cut_by s u v).done new made
edit_accepted s (edit.Add u v) new made = (add_by s u v).done new made
edit_accepted s (edit.Join u v) new made = (join_by s u v).done new made

pub edit_text : (form : Form) (s : State) (e : Edit) (new : State) (text : List ℕ)
    → IsReportIn form (AreRerouted s new) (Some s) new text
    → IsTextIn form (Some s) (request_of_edit e) new text
edit_text Text s (edit.Cut u v) new text is = is
edit_text Text s (edit.Add u v) new text is = is
edit_text Text s (edit.Join u v) new text is = is
edit_text Json s (edit.Cut u v) new text is = is
edit_text Json s (edit.Add u v) new text is = is
edit_text Json s (edit.Join u v) new text is = is
edit_text JsonWithWays s (edit.Cut u v) new text is = is
edit_text JsonWithWays s (edit.Add u v) new text is = is
edit_text JsonWithWays s (edit.Join u v) new text is = is

pub batch_text : (form : Form) (s : State) (edits : List Edit) (new : State) (text : List ℕ)
    → IsReportIn form (AreRerouted s new) (Some s) new text
    → IsTextIn form (Some s) (make_edits edits) new text
batch_text Text s edits new text is = is
batch_text Json s edits new text is = is
batch_text JsonWithWays s edits new text is = is

pub move_text : (form : Form) (s : State) (d : ℕ) (new : State) (text : List ℕ)
    → IsReportIn form (AreRerouted s new) (Some s) new text
    → IsTextIn form (Some s) (move_dest d) new text
move_text Text s d new text is = is
move_text Json s d new text is = is
move_text JsonWithWays s d new text is = is

-- JSON has one text for pushes
pub json_phases : (form : Form) → ¬ (form ≡ Text) → (s : State) (table : List (List ℕ)) (text : List ℕ)
    → IsPhasesText phases_json s table text → IsTextIn form None (push_ways table) s text
json_phases Text other s table text is = absurd (other refl)
json_phases Json other s table text is = is
json_phases JsonWithWays other s table text is = is

pub edit_tells : (s : State) (e : Edit) (new : State) (before after : List ℕ) → AreRerouted s new after
    → TellsOf (Some s) (request_of_edit e) new before after
edit_tells s (edit.Cut u v) new before after is = is
edit_tells s (edit.Add u v) new before after is = is
edit_tells s (edit.Join u v) new before after is = is

pub edit_may_start : (s : State) (e : Edit) (at : ℕ) → IsPlacedFault s (e ∷ []) s.dest at route.Start
    → MayStartFor (Some s) (request_of_edit e)
edit_may_start s (edit.Cut u v) at may = may
edit_may_start s (edit.Add u v) at may = may
edit_may_start s (edit.Join u v) at may = may

-- an edit needs a network
pub edit_wants : (e : Edit) → IsRefusal None (request_of_edit e) (bare_refusal 3)
edit_wants (edit.Cut u v) = refl
edit_wants (edit.Add u v) = refl
edit_wants (edit.Join u v) = refl

-- walks and questions leave the list unchanged
pub walk_tells : (s : Option State) (x : ℕ) (nodes : List ℕ) (new : State) → s ≡ Some new
    → TellsOf s (walk_from x) new nodes nodes
walk_tells None x nodes new e = let no : ⊥ = cc in absurd no
walk_tells (Some s) x nodes new e = refl

pub ask_tells : (s : Option State) (question : Question) (nodes : List ℕ) (new : State) → s ≡ Some new
    → TellsOf s (ask question) new nodes nodes
ask_tells None question nodes new e = let no : ⊥ = cc in absurd no
ask_tells (Some s) question nodes new e = refl

pub push_ways_tells : (s : Option State) (table : List (List ℕ)) (nodes : List ℕ) (new : State) → s ≡ Some new
    → TellsOf s (push_ways table) new nodes nodes
push_ways_tells None table nodes new e = let no : ⊥ = cc in absurd no
push_ways_tells (Some s) table nodes new e = refl

pub ask_node_tells : (s : Option State) (question : NodeQuestion) (x : ℕ) (nodes : List ℕ) (new : State) → s ≡ Some new
    → TellsOf s (ask_node question x) new nodes nodes
ask_node_tells None question x nodes new e = let no : ⊥ = cc in absurd no
ask_node_tells (Some s) question x nodes new e = refl

-- Answers in each form, from replies

-- the number of a refusal
numbered : (fault : NetFault) (named : List ℕ) (place : Option ℕ)
    → (refusal_for fault named place).number ≡ fault_number fault
numbered net.TooMany named place = refl
numbered (net.Range x) named place = refl
numbered (net.SelfLink x) named place = refl
numbered (net.Twice x y) named place = refl
numbered (net.Cycle walk) named place = refl
numbered net.NoLink named place = refl
numbered net.Memory named place = refl

number_is : (refusal : PlainRefusal) (fault : NetFault) (named : List ℕ) (place : Option ℕ)
    → refusal ≡ refusal_for fault named place
    → refusal.number ≡ fault_number fault
number_is refusal fault named place is = ap (λ (r : PlainRefusal). r.number) is ∙ numbered fault named place

pub refused_by : (s : Option State) (r : PlainRequest) (refusal : PlainRefusal) → IsRefusal s r refusal
    → IsRefused s r refusal.number
refused_by s (new_network n d links) refusal (inl h) = inl (h.0, h.1, number_is refusal h.0 [] None h.3)
refused_by s (new_network n d links) refusal (inr h) = inr (h.0, h.1, ap (λ (r : PlainRefusal). r.number) h.2)
refused_by s (order_pushes table wanted) refusal h =
    (h.1, subst (λ (k : ℕ). IsPushesRefused s table wanted k h.1) (sym (ap (λ (r : PlainRefusal). r.number) h.3)) h.2)
refused_by None (cut_link u v) refusal h = ap (λ (r : PlainRefusal). r.number) h
refused_by None (add_link u v) refusal h = ap (λ (r : PlainRefusal). r.number) h
refused_by None (join_nodes u v) refusal h = ap (λ (r : PlainRefusal). r.number) h
refused_by None (make_edits edits) refusal h = ap (λ (r : PlainRefusal). r.number) h
refused_by None (move_dest d) refusal h = ap (λ (r : PlainRefusal). r.number) h
refused_by None (walk_from x) refusal h = ap (λ (r : PlainRefusal). r.number) h
refused_by None (ask question) refusal h = ap (λ (r : PlainRefusal). r.number) h
refused_by None (ask_node question x) refusal h = ap (λ (r : PlainRefusal). r.number) h
refused_by None (push_ways table) refusal h = ap (λ (r : PlainRefusal). r.number) h
refused_by (Some s) (cut_link u v) refusal h = (h.0, h.1, number_is refusal h.0 (u ∷ v ∷ []) None h.3)
refused_by (Some s) (add_link u v) refusal h = (h.0, h.1, number_is refusal h.0 (u ∷ v ∷ []) None h.3)
refused_by (Some s) (join_nodes u v) refusal h = (h.0, h.1, number_is refusal h.0 (u ∷ v ∷ []) None h.3)
refused_by (Some s) (make_edits edits) refusal h =
    (h.0, h.1, number_is refusal h.0.fault (ends_in (slice_get edits h.0.at)) (Some h.0.at) h.3)
refused_by (Some s) (move_dest d) refusal h = (h.0, ap (λ (r : PlainRefusal). r.number) h.1)
refused_by (Some s) (walk_from x) refusal h = (h.0, ap (λ (r : PlainRefusal). r.number) h.1)
refused_by (Some s) (ask question) refusal h = h
refused_by (Some s) (ask_node question x) refusal h = (h.0, ap (λ (r : PlainRefusal). r.number) h.1)
refused_by (Some s) (push_ways table) refusal h =
    (h.1, subst (λ (k : ℕ). AreWayPushesRefused s table k h.1) (sym (ap (λ (r : PlainRefusal). r.number) h.3)) h.2)

is_true : (b : Bool) → b ≡ true → IsTrue b
is_true b e = search rules

not_true : (b : Bool) → b ≡ false → ¬ IsTrue b
not_true b e t = search rules

module _ (number : ℕ) (s : Option State) (told : ChangedNodes) (a : Answer) (next : Option State) (more : ChangedNodes)
  where
    -- the answer in a form
    pub answer_in : (form : Form) (asked : Result PlainRequest LineFault) → HasList form told
        → IsReply (record { form = form; number = number }) s asked told a next more
        → IsAnswerIn form number s asked (string_bytes a.text) next
    answer_in Text (Ok r) list (inl h) = inl (h.refusal.number, refused_by s r h.refusal h.why, h.by.0, h.same)
    answer_in Text (Ok r) list (inr (inl h)) = inr (inl (h.new, h.accepted, h.text list, h.next_is))
    answer_in Text (Ok r) list (inr (inr h)) = inr (inr (h.pushes, h.asked, h.text, h.same))
    answer_in Text (Err NotJson) list h = (h.by.0 ∙ ap (λ (r : PlainRefusal). refusal_text r.number) h.why, h.same)
    answer_in Text (Err NotRequest) list h = (h.by.0 ∙ ap (λ (r : PlainRefusal). refusal_text r.number) h.why, h.same)
    answer_in Text (Err LineMemory) list h = absurd h.why
    answer_in Json (Ok r) list (inl h) = inl (h.refusal, h.why, h.by.0, h.same)
    answer_in Json (Ok r) list (inr (inl h)) = inr (inl (h.new, h.accepted, h.text list, h.next_is))
    answer_in Json (Ok r) list (inr (inr h)) = inr (inr (h.pushes, h.asked, h.text, h.same))
    answer_in Json (Err NotJson) list h = (h.by.0 ∙ ap (λ (r : PlainRefusal). refusal_json r number) h.why, h.same)
    answer_in Json (Err NotRequest) list h = (h.by.0 ∙ ap (λ (r : PlainRefusal). refusal_json r number) h.why, h.same)
    answer_in Json (Err LineMemory) list h = absurd h.why
    answer_in JsonWithWays (Ok r) list (inl h) = inl (h.refusal, h.why, h.by.0, h.same)
    answer_in JsonWithWays (Ok r) list (inr (inl h)) = inr (inl (h.new, h.accepted, h.text list, h.next_is))
    answer_in JsonWithWays (Ok r) list (inr (inr h)) = inr (inr (h.pushes, h.asked, h.text, h.same))
    answer_in JsonWithWays (Err NotJson) list h =
        (h.by.0 ∙ ap (λ (r : PlainRefusal). refusal_json r number) h.why, h.same)
    answer_in JsonWithWays (Err NotRequest) list h =
        (h.by.0 ∙ ap (λ (r : PlainRefusal). refusal_json r number) h.why, h.same)
    answer_in JsonWithWays (Err LineMemory) list h = absurd h.why

    module _ (form : Form) where
      -- whether it refuses the line
      pub flag_is : (asked : Result PlainRequest LineFault)
          → IsReply (record { form = form; number = number }) s asked told a next more
          → IsTrue a.refused ↔ IsLineRefused s asked
      flag_is (Ok r) (inl h) = (λ _. (h.refusal.number, refused_by s r h.refusal h.why), λ _. is_true a.refused h.by.1)
      flag_is (Ok r) (inr (inl h)) = (
        λ t. absurd (not_true a.refused h.by t),
        λ refused. absurd (not_both s r refused.0 h.new refused.1 h.accepted),
      )
      flag_is (Ok r) (inr (inr h)) = (
        λ t. absurd (not_true a.refused h.by t),
        λ refused. absurd (asked_not_refused s r h.pushes refused.0 h.asked refused.1),
      )
      flag_is (Err NotJson) h = (λ _. tt, λ _. is_true a.refused h.by.1)
      flag_is (Err NotRequest) h = (λ _. tt, λ _. is_true a.refused h.by.1)
      flag_is (Err LineMemory) h = absurd h.why

      -- the list of rerouted nodes
      pub told_is : (asked : Result PlainRequest LineFault) → IsListing told
          → IsReply (record { form = form; number = number }) s asked told a next more
          → IsLineTold s asked next (nodes_told told) (nodes_told more)
      told_is (Ok r) listing (inl h) = inl (h.refusal.number, refused_by s r h.refusal h.why, h.same, h.untold)
      told_is (Ok r) listing (inr (inl h)) = inr (inl (h.new, h.accepted, h.next_is, h.tells listing))
      told_is (Ok r) listing (inr (inr h)) = inr (inr (h.pushes, h.asked, h.same, h.untold))
      told_is (Err fault) listing h = (h.same, h.untold)

    pub short_is : (asked : Result PlainRequest LineFault)
        → IsReply (record { form = Text; number = number }) s asked told a next more
        → ((next ≡ s) × (nodes_told more ≡ nodes_told told)) ⊎ (length (string_bytes a.text) ≤ longest_report)
    short_is (Ok r) (inl h) = inl (h.same, h.untold)
    short_is (Ok r) (inr (inl h)) = h.short refl
    short_is (Ok r) (inr (inr h)) = inl (h.same, h.untold)
    short_is (Err fault) h = inl (h.same, h.untold)

pub no_list : (told : ChangedNodes) → HasList Text told
no_list told = record { list = λ other. absurd (other refl); notes = λ e. absurd cc }

pub list_alone : (told : ChangedNodes) → IsListing told → HasList Json told
list_alone told listing = record { list = λ other. listing; notes = λ e. absurd cc }

-- notes are beside a list
asked_listing : (told : ChangedNodes) → AsksWays told → IsListing told
asked_listing Unlisted (notes, is) = absurd cc
asked_listing (InList list notes) asks = tt

pub list_with_notes : (told : ChangedNodes) → AsksWays told → HasList JsonWithWays told
list_with_notes told asks = record { list = λ other. asked_listing told asks; notes = λ e. asks }

-- the answers in text
module _ (never : Type 0) (number : ℕ) (s : Option State) where
  pub text_answered : (asked : Result PlainRequest LineFault) (told : ChangedNodes) (a : Answer) (next : Option State)
      (more : ChangedNodes)
      → IsReply (record { form = Text; number = number }) s asked told a next more
      → IsAnswered never s asked told (Ok a.text) next more
  text_answered asked told a next more is = record {
    text = answer_in number s told a next more Text asked (no_list told) is;
    tells = λ listing. told_is number s told a next more Text asked listing is;
    unchanged = tt;
    short = short_is number s told a next more asked is;
    start = tt;
    no_start = λ h. tt;
  }

  pub text_line_answered : (line : List ℕ) (told : ChangedNodes) (a : Answer) (next : Option State)
      (more : ChangedNodes)
      → is_blank line ≡ false
      → IsReply (record { form = Text; number = number }) s (reading line) told a next more
      → IsLineAnswered never s line told (Ok (Some a.text)) next more
  text_line_answered line told a next more asks is = record {
    blank = tt;
    text = (asks, answer_in number s told a next more Text (reading line) (no_list told) is);
    tells = λ listing. told_is number s told a next more Text (reading line) listing is;
    unchanged = tt;
    short = short_is number s told a next more (reading line) is;
    start = tt;
    no_start = λ h. tt;
  }

-- the answer to a line in a form
pub line_in : (never : Type 0) (form : Form) (number : ℕ) (s : Option State) (line : List ℕ) (told : ChangedNodes)
    (answer : Result (Option Bool) AnswerFault) (d : Draft) (next : Option State) (more : ChangedNodes)
    → HasList form told
    → IsLineReplied never (record { form = form; number = number }) s line told answer d next more
    → IsLineAnsweredIn never form number s line (answered answer d) next
line_in never form number s line told (Ok None) d next more list is =
    record { blank = (is.blank.0, is.blank.1); text = tt; refused = tt; unchanged = tt; start = tt; no_start = λ h. tt }
line_in never form number s line told (Ok (Some b)) d next more list is = record {
  blank = tt;
  text = (is.reply.0, answer_in number s told (written d b) next more form (reading line) list is.reply.1);
  refused = flag_is number s told (written d b) next more form (reading line) is.reply.1;
  unchanged = tt;
  start = tt;
  no_start = λ h. tt;
}
line_in never form number s line told (Err fault) d next more list is =
    record {
      blank = tt;
      text = tt;
      refused = tt;
      unchanged = (is.unchanged.0, is.unchanged.1);
      start = is.start;
      no_start = is.no_start;
    }

-- a report fits in the room for it
pub report_fits : (form : Form) (nodes links changed : ℕ) (noted : Noted) → (form ≢ Text → changed ≤ nodes)
    → (form ≡ JsonWithWays → lists_size noted.shrink + lists_size noted.grow ≤ 32 * nodes + 22 * links)
    → report_size form changed noted ≤ report_room form nodes links
report_fits Text nodes links changed noted less more = omega arith
report_fits Json nodes links changed noted less more =
    let few : changed ≤ nodes = less (λ e. absurd cc) in
    omega (arith, few)
report_fits JsonWithWays nodes links changed noted less more =
    let few : changed ≤ nodes = less (λ e. absurd cc) in
    let short : lists_size noted.shrink + lists_size noted.grow ≤ 32 * nodes + 22 * links = more refl in
    omega (arith, few, short)

pub text_size : (form : Form) (n : ℕ) (noted : Noted) → form ≡ Text → report_size form n noted ≡ longest_report
text_size Text n noted e = refl
text_size Json n noted e = cc
text_size JsonWithWays n noted e = cc
