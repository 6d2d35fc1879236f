-- When a line leaves the session unchanged, and when it leads to other hops.
use Rattle.std.proofs.Common.{List, Option, Some, None, Result, Ok, Err, IfErr, IfNone, IfOk, IfSome, OnErr, String, ap}
use Rattle.std.proofs.Common.{false, inl, inr, length, slice_get}
use Rattle.std.proofs.Common.{refl, string_bytes, subst, sym, true, ℕ, ⊎_elim, ◌∙◌, ◌≡◌, ◌≢◌, ◌≤◌, ◌⊎◌}
use Rattle.std.specs.Prelude.{MatchBool, is_ok}
use Rattle.std.specs.declared.alloc.Global.{Global}
use Rattle.fr_requests.specs.Requests.{PlainRequest, new_network, cut_link, add_link, join_nodes, make_edits, move_dest}
use Rattle.fr_requests.specs.Requests.{walk_from, ask, ask_node, order_pushes, push_ways, reading}
use Rattle.fr_requests.specs.declared.requests.LineFault.{LineFault}
use Rattle.fr_requests.specs.declared.requests.LineFault.TheVariants.{NotJson, NotRequest, Memory as LineMemory}
use Rattle.fr_route.specs.Answers.{IsAccepted, IsLineAnswer, IsReportLine, IsText}
use Rattle.fr_route.specs.Blank.{is_blank}
use Rattle.fr_route.specs.Changes.{IsChanged, IsUndone}
use Rattle.fr_route.specs.Reroutes.{TellsRerouted}
use Rattle.fr_route.specs.States.{State, IsReport, net_at}
use Rattle.fr_route.specs.Texts.{longest_report, report_text}
use Rattle.fr_route.specs.Telling.{IsLineTold, TellsOf, TellsOfLine}
use Rattle.fr_route.specs.WayPushes.{AreWayChanges}
use Rattle.fr_route.specs.declared.change.Change.{Change}
use Rattle.fr_route.specs.declared.change.Change.TheVariants.{Cut, Add, Join, Destination}
use Rattle.fr_route.specs.declared.change.Report.{Report}
use Rattle.fr_route.specs.declared.fault.AnswerFault.{AnswerFault}
use Rattle.fr_route.specs.declared.fault.AnswerFault.TheVariants.{Start}
use Rattle.fr_route.specs.declared.fault.NotMade.{NotMade}
use Rattle.fr_route.specs.declared.fault.RouteFault.TheVariants.{Start as RouteStart}
use Rattle.fr_route.proofs.Changing.{made_nodes}
use Rattle.fr_shared.specs.HopTables.{HopKnowledge}
use Rattle.fr_shared.specs.WayTables.{WayKnowledge, last_ways}
use Rattle.fr_readers.specs.Answers.{AnswersLine, ChangesRouter, MakesChange, Notes}
use Rattle.fr_readers.specs.Published.{HasHopsOf, HasWaysOf, Published, WayPushes, published}
use Rattle.fr_readers.specs.Publishing.{AlterWays, IsSettled, IsSettledSession, PublishesIn, PublishesWaysIn}
use Rattle.fr_readers.proofs.Bringing.{left_in}
use Rattle.fr_readers.proofs.FirstWays.{ways_left_in}
use Rattle.fr_readers.proofs.Leading.{Leads, changed_nodes, replaced_leads, rerouted_leads}

-- an accepted request that is not a question leads from the session to the new state
module _ (s : State) (settled : IsSettled s) (new : State) (before after : List ℕ) where
  told_of_one : (request : PlainRequest) → IsSettled new → IsAccepted (Some s) request new
      → TellsOf (Some s) request new before after
      → (Some new ≡ Some s) ⊎ Leads (Some s) (Some new) after
  told_of_one (new_network n d links) is acc told = inr (replaced_leads (Some s) new after settled is told)
  told_of_one (cut_link u v) is acc told =
      inr (rerouted_leads s new after settled (changed_nodes s (Cut u v) new acc) told)
  told_of_one (add_link u v) is acc told =
      inr (rerouted_leads s new after settled (changed_nodes s (Add u v) new acc) told)
  told_of_one (join_nodes u v) is acc told =
      inr (rerouted_leads s new after settled (changed_nodes s (Join u v) new acc) told)
  told_of_one (make_edits edits) is acc told =
      inr (rerouted_leads s new after settled (acc.1.1.1.nodes ∙ made_nodes (net_at s) edits acc.1.0 acc.1.1.0) told)
  told_of_one (move_dest d) is acc told =
      inr (rerouted_leads s new after settled (changed_nodes s (Destination d) new acc) told)
  told_of_one (walk_from x) is acc told = inl (ap Some acc.1)
  told_of_one (ask question) is acc told = inl (ap Some acc)
  told_of_one (ask_node question x) is acc told = inl (ap Some acc.1)
  told_of_one (push_ways table) is acc told = inl (ap Some acc.2)
  told_of_one (order_pushes table wanted) is acc told = absurd acc

told_of : (s : Option State) → IsSettledSession s → (request : PlainRequest) (new : State) → IsSettled new
    → IsAccepted s request new
    → (before after : List ℕ) → TellsOf s request new before after → (Some new ≡ s) ⊎ Leads s (Some new) after
told_of None settled (new_network n d links) new is acc before after told =
    inr (replaced_leads None new after settled is told)
told_of None settled (cut_link u v) new is acc before after told = absurd acc
told_of None settled (add_link u v) new is acc before after told = absurd acc
told_of None settled (join_nodes u v) new is acc before after told = absurd acc
told_of None settled (make_edits edits) new is acc before after told = absurd acc
told_of None settled (move_dest d) new is acc before after told = absurd acc
told_of None settled (walk_from x) new is acc before after told = absurd acc
told_of None settled (ask question) new is acc before after told = absurd acc
told_of None settled (ask_node question x) new is acc before after told = absurd acc
told_of None settled (push_ways table) new is acc before after told = absurd acc
told_of None settled (order_pushes table wanted) new is acc before after told = absurd acc
told_of (Some s) settled request new is acc before after told =
    told_of_one s settled new before after request is acc told

pub line_leads : (s next : Option State) → IsSettledSession s → IsSettledSession next
    → (asked : Result PlainRequest LineFault)
    → (before after : List ℕ) → IsLineTold s asked next before after → (next ≡ s) ⊎ Leads s next after
line_leads s next settled settled' (Ok request) before after told = ⊎_elim
    (λ refused. inl refused.2)
    (λ other. ⊎_elim
    (λ a.
    let is : IsSettled a.0 = subst IsSettledSession a.2 settled' in
    ⊎_elim (λ same. inl (a.2 ∙ same)) (λ l. inr (subst (λ (t : Option State). Leads s t after) (sym a.2) l))
    (told_of s settled request a.0 is a.1 before after a.3))
    (λ pushes. inl pushes.2)
    other)
    told
line_leads s next settled settled' (Err fault) before after told = inl told.0

-- an answer to a line leaves the session unchanged, or leads to other hops
pub answer_leads : (s next : Option State) → IsSettledSession s → IsSettledSession next → (line : List ℕ)
    → (answer : Result (Option (String Global)) AnswerFault) (before after : List ℕ)
    → IfOk answer (λ a. IfNone a ((is_blank line ≡ true) × (next ≡ s)))
    → OnErr answer ((is_blank line ≡ false) × (next ≡ s))
    → TellsOfLine s (reading line) answer next before after → (next ≡ s) ⊎ Leads s next after
answer_leads s next settled settled' line (Ok None) before after blank fault told = inl blank.1
answer_leads s next settled settled' line (Ok (Some text)) before after blank fault told =
    line_leads s next settled settled' (reading line) before after told.answered
answer_leads s next settled settled' line (Err why) before after blank fault told = inl fault.1

-- an answer that does not begin as a report leaves the session unchanged

reported : (turned cut : ℕ) (text : List ℕ) → text ≡ report_text turned cut → slice_get text 0 ≡ Some 116
reported turned cut text is = ap (λ (xs : List ℕ). slice_get xs 0) is

module _ (text : List ℕ) (other : slice_get text 0 ≢ Some 116) where
  no_report : (new : State) {T : Type 0} → IsReportLine new text → T
  no_report new line = absurd (other (reported line.0 line.1 text line.3))

  accepted_keeps : (s new : State) (request : PlainRequest) → IsAccepted (Some s) request new → IsText new request text
      → new ≡ s
  accepted_keeps s new (new_network n d links) is line = no_report new line
  accepted_keeps s new (cut_link u v) is line = no_report new line
  accepted_keeps s new (add_link u v) is line = no_report new line
  accepted_keeps s new (join_nodes u v) is line = no_report new line
  accepted_keeps s new (make_edits edits) is line = no_report new line
  accepted_keeps s new (move_dest d) is line = no_report new line
  accepted_keeps s new (walk_from x) is line = is.1
  accepted_keeps s new (ask question) is line = is
  accepted_keeps s new (ask_node question x) is line = is.1
  accepted_keeps s new (push_ways table) is line = is.2
  accepted_keeps s new (order_pushes table wanted) is line = absurd is

  first_keeps : (new : State) (request : PlainRequest) → IsAccepted None request new → IsText new request text → ⊥
  first_keeps new (new_network n d links) is line = no_report new line
  first_keeps new (cut_link u v) is line = is
  first_keeps new (add_link u v) is line = is
  first_keeps new (join_nodes u v) is line = is
  first_keeps new (make_edits edits) is line = is
  first_keeps new (move_dest d) is line = is
  first_keeps new (walk_from x) is line = is
  first_keeps new (ask question) is line = is
  first_keeps new (ask_node question x) is line = is
  first_keeps new (push_ways table) is line = is
  first_keeps new (order_pushes table wanted) is line = is

  keeps_in : (s : Option State) (new : State) (request : PlainRequest) → IsAccepted s request new
      → IsText new request text
      → Some new ≡ s
  keeps_in None new request is line = absurd (first_keeps new request is line)
  keeps_in (Some s) new request is line = ap Some (accepted_keeps s new request is line)

  line_keeps : (s next : Option State) (asked : Result PlainRequest LineFault) → IsLineAnswer s asked text next
      → next ≡ s
  line_keeps s next (Ok request) is = ⊎_elim
      (λ refused. refused.3)
      (λ others. ⊎_elim (λ a. a.3 ∙ keeps_in s a.0 request a.1 a.2) (λ pushes. pushes.3) others)
      is
  line_keeps s next (Err NotJson) is = is.1
  line_keeps s next (Err NotRequest) is = is.1
  line_keeps s next (Err LineMemory) is = absurd is

pub answer_keeps : (s next : Option State) (line : List ℕ) (answer : Result (Option (String Global)) AnswerFault)
    → IfOk answer (λ a. IfNone a ((is_blank line ≡ true) × (next ≡ s)))
    → IfOk answer (λ a. IfSome a (λ text. (is_blank line ≡ false)
    × IsLineAnswer s (reading line) (string_bytes text) next))
    → OnErr answer ((is_blank line ≡ false) × (next ≡ s))
    → IfOk answer (λ a. IfSome a (λ text. slice_get (string_bytes text) 0 ≢ Some 116)) → next ≡ s
answer_keeps s next line (Ok None) blank text fault other = blank.1
answer_keeps s next line (Ok (Some answer)) blank text fault other =
    line_keeps (string_bytes answer) other s next (reading line) text.1
answer_keeps s next line (Err why) blank text fault other = fault.1

-- the clauses of a call that changes a router
pub router_changed : {s next : State} {change : Change} {answer : Result Report NotMade}
    → IfOk answer (λ _. IsChanged s change next) → IfOk answer (λ report. IsReport next report.turned report.cut)
    → IfErr answer (IsUndone s change) → OnErr answer (next ≡ s) → IfErr answer (λ undone. undone.fault ≢ RouteStart)
    → ChangesRouter s change answer next
router_changed changed report fault unchanged no_start =
    record { changed = changed; report = report; fault = fault; unchanged = unchanged; no_start = no_start }

pub same_pushes : (answer : Result Report NotMade) (ps : WayPushes) → OnErr answer (ps ≡ ps)
same_pushes (Ok report) ps = tt
same_pushes (Err why) ps = refl

-- so does a change
pub change_leads : (s next : State) → IsSettled s
    → (change : Change) (answer : Result Report NotMade) (before after : List ℕ)
    → ChangesRouter s change answer next → TellsRerouted s answer next before after
    → (Some next ≡ Some s) ⊎ Leads (Some s) (Some next) after
change_leads s next settled change (Ok report) before after changes told =
    inr (rerouted_leads s next after settled (changed_nodes s change next changes.changed) told.rerouted)
change_leads s next settled change (Err why) before after changes told = inl (ap Some changes.unchanged)

-- a change alters the ways, or leaves them
pub change_alters : (s next : State) (change : Change) (answer : Result Report NotMade) (p : WayPushes)
    (k : WayKnowledge)
    → HasWaysOf (Some s) k → ChangesRouter s change answer next
    → IfOk answer (λ _. AreWayChanges s next p.shrink p.grow)
    → MatchBool (is_ok answer) (AlterWays (last_ways k) next p) (HasWaysOf (Some next) k)
change_alters s next change (Ok report) p k has changes ways =
    record { before = s; had = has.are; nodes = changed_nodes s change next changes.changed; changes = ways }
change_alters s next change (Err why) p k has changes ways =
    subst (λ (t : State). HasWaysOf (Some t) k) (sym changes.unchanged) has

-- and its pushes are noted, or those before are kept
pub change_notes : (s next : State) (answer : Result Report NotMade) (ps ps' : WayPushes)
    → IfOk answer (λ _. AreWayChanges s next ps'.shrink ps'.grow) → OnErr answer (ps' ≡ ps)
    → Notes (Some s) (Some answer) (Some next) ps ps'
change_notes s next (Ok report) ps ps' ways left = record {
  made = record { before = s; after = next; was = refl; is = refl; changes = ways };
  fault = tt;
  none = tt;
}
change_notes s next (Err why) ps ps' ways left = record { made = tt; fault = left; none = tt }

-- The answers of a session and its router, with publishing

module _ (s s' : Option State) (nodes nodes' : List ℕ) (t t' : Option HopKnowledge) (w w' : Option WayKnowledge) where
  -- what leaves the session, the list and the pushes unchanged leaves the tables unchanged
  all_left : (ps ps' : WayPushes) → ps' ≡ ps → IfSome t (HasHopsOf s) → PublishesIn t s' nodes' t'
      → IfSome w (HasWaysOf s) → PublishesWaysIn w s' w'
      → s' ≡ s → nodes' ≡ nodes → published s' nodes' t' w' ps' ≡ published s nodes t w ps
  all_left ps ps' left has p had q same list =
      let kept : t' ≡ t =
      left_in t s' nodes' t' (subst (λ (u : Option State). IfSome t (HasHopsOf u)) (sym same) has) p in
      let kept_ways : w' ≡ w =
      ways_left_in w s' w' (subst (λ (u : Option State). IfSome w (HasWaysOf u)) (sym same) had) q in
      λ i. record { session = same i; rerouted = list i; table = kept i; ways = kept_ways i; pushes = left i }

  pub line_answered : (ps : WayPushes) → IfSome t (HasHopsOf s) → PublishesIn t s' nodes' t' → IfSome w (HasWaysOf s)
      → PublishesWaysIn w s' w'
      → (line : List ℕ) (answer : Result (Option (String Global)) AnswerFault)
      → IfOk answer (λ a. IfNone a ((is_blank line ≡ true) × (s' ≡ s)))
      → IfOk answer (λ a. IfSome a (λ text. (is_blank line ≡ false)
      × IsLineAnswer s (reading line) (string_bytes text) s'))
      → TellsOfLine s (reading line) answer s' nodes nodes' → OnErr answer ((is_blank line ≡ false) × (s' ≡ s))
      → IfOk answer (λ a. IfSome a (λ text. ((s' ≡ s) × (nodes' ≡ nodes))
      ⊎ (length (string_bytes text) ≤ longest_report)))
      → IfErr answer (λ fault. fault ≢ Start)
      → AnswersLine (published s nodes t w ps) line answer (published s' nodes' t' w' ps)
  line_answered ps has p had q line (Ok None) blank text told fault short no_start = record {
    blank = (blank.0, all_left ps ps refl has p had q blank.1 told.blank);
    text = tt;
    told = told;
    published = p;
    ways = q;
    pushes = refl;
    short = tt;
    unchanged = tt;
    no_start = tt;
  }
  line_answered ps has p had q line (Ok (Some answer)) blank text told fault short no_start = record {
    blank = tt;
    text = text;
    told = told;
    published = p;
    ways = q;
    pushes = refl;
    short = ⊎_elim (λ same. inl (all_left ps ps refl has p had q same.0 same.1)) (λ few. inr few) short;
    unchanged = tt;
    no_start = tt;
  }
  line_answered ps has p had q line (Err why) blank text told fault short no_start = record {
    blank = tt;
    text = tt;
    told = told;
    published = p;
    ways = q;
    pushes = refl;
    short = tt;
    unchanged = (fault.0, all_left ps ps refl has p had q fault.1 told.fault);
    no_start = no_start;
  }

module _ (s s' : State) (nodes nodes' : List ℕ) (t t' : Option HopKnowledge) (w w' : Option WayKnowledge) where
  pub change_made : (ps ps' : WayPushes) → IfSome t (HasHopsOf (Some s)) → PublishesIn t (Some s') nodes' t'
      → IfSome w (HasWaysOf (Some s))
      → PublishesWaysIn w (Some s') w' → (change : Change) (answer : Result Report NotMade)
      → ChangesRouter s change answer s' → TellsRerouted s answer s' nodes nodes' → OnErr answer (ps' ≡ ps)
      → MakesChange (published (Some s) nodes t w ps) change (Some answer) (published (Some s') nodes' t' w' ps')
  change_made ps ps' has p had q change (Ok report) changes told left = record {
    none = tt;
    made = record {
      before = s;
      after = s';
      was = refl;
      is = refl;
      changed = changes.changed;
      report_is = changes.report;
      rerouted = told.rerouted;
    };
    fault = tt;
    unchanged = tt;
    published = p;
    ways = q;
  }
  change_made ps ps' has p had q change (Err why) changes told left = record {
    none = tt;
    made = tt;
    fault = record { before = s; was = refl; refused = changes.fault; no_start = changes.no_start };
    unchanged =
        all_left (Some s) (Some s') nodes nodes' t t' w w' ps ps' left has p had q (ap Some changes.unchanged)
        told.untold;
    published = p;
    ways = q;
  }

-- the same change, for a session with other pushes
pub with_pushes : (old new : Published) (change : Change) (answer : Option (Result Report NotMade)) (ps ps' : WayPushes)
    → MakesChange old change answer new → IfNone answer (ps' ≡ ps) → IfSome answer (λ a. OnErr a (ps' ≡ ps))
    → MakesChange (record old { pushes = ps }) change answer (record new { pushes = ps' })
with_pushes old new change None ps ps' m none fault = record {
  none = (m.none.0, λ i. record (m.none.1 i) { pushes = none i });
  made = tt;
  fault = tt;
  unchanged = tt;
  published = m.published;
  ways = m.ways;
}
with_pushes old new change (Some (Ok report)) ps ps' m none fault = record {
  none = tt;
  made = record {
    before = m.made.before;
    after = m.made.after;
    was = m.made.was;
    is = m.made.is;
    changed = m.made.changed;
    report_is = m.made.report_is;
    rerouted = m.made.rerouted;
  };
  fault = tt;
  unchanged = tt;
  published = m.published;
  ways = m.ways;
}
with_pushes old new change (Some (Err why)) ps ps' m none fault = record {
  none = tt;
  made = tt;
  fault = record {
    before = m.fault.before;
    was = m.fault.was;
    refused = m.fault.refused;
    no_start = m.fault.no_start;
  };
  unchanged = λ i. record (m.unchanged i) { pushes = fault i };
  published = m.published;
  ways = m.ways;
}
