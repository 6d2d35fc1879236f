-- What shows that no node can turn, and that none will.
use Rattle.std.proofs.Common.{◌≡◌, ℕ, zero, suc, ◌+◌, ◌<◌, ◌⊎◌, inl, inr, ⊎_elim, List, []}
use Rattle.std.proofs.Common.{◌∷◌, ◌++◌, refl, sym, ap, subst, arith, ◌∙◌, cond}
use Rattle.std.proofs.Common.{Contains, replicate, slice_index}
use Rattle.std.proofs.lemmas.Bool.{cases_eq, cases_lt}
use Rattle.std.proofs.lemmas.List.Sums.{sum_by-cons}
use Rattle.std.specs.List.{AllByRecursion as Each}
use Rattle.fr_graph.proofs.Linking.{joined_below}
use Rattle.fr_graph.proofs.Members.{Contains-cases, Contains-head, Contains-none, Contains-tail}
use Rattle.fr_graph.specs.Counts.{links_at}
use Rattle.fr_graph.specs.Links.{IsAlone, IsNet, Joins, Points}
use Rattle.fr_graph.specs.Turn.{IsSink}
use Rattle.fr_core.proofs.Finishing.{settled_at_end, zeros_lawful}
use Rattle.fr_core.proofs.Rounds.{after_all-append, run_append, run_parts}
use Rattle.fr_core.proofs.Settling.{cases_linked, cases_out}
use Rattle.fr_core.proofs.Sinks.{sink_from_none_out}
use Rattle.fr_core.proofs.Turning.{IsLawfulAt, can_turn-links_at, run_keeps, sink_linked}
use Rattle.fr_core.proofs.Unique.{none_at_settled}
use Rattle.fr_core.specs.History.{Moment, after, after_all, after_reply, count_at, is_turned, moment_of, turn_count}
use Rattle.fr_core.specs.Legal.{CanTurn, IsLegal, IsLegalReply, IsRun, NoneCanTurn}
use Rattle.fr_core.specs.Settled.{AreSettled}
use Rattle.fr_core.specs.declared.entry.Entry.{Entry}
use Rattle.fr_core.specs.declared.entry.Reply.{Reply}
use Rattle.fr_core.specs.declared.entry.Reply.TheVariants.{Cut, Held, Moved, Sink, Turned}
use Rattle.fr_round.proofs.Standing.{one_history}
use Rattle.fr_round.specs.Laws.{KnowsPartOf, workers_of}
use Rattle.fr_laws.specs.Quiet.{IsBlocked, IsQuiet, ShowsBlocked}
use Rattle.fr_laws.specs.Quiet.{QuietIsForGood, QuietIsSettled, QuietRoundIsSettled, SettledCanBeQuiet}
use Rattle.fr_laws.specs.Quiet.{WorkerKnowsQuiet}

-- Entries that turn nothing

abbrev turns_of : Reply → ℕ
turns_of r = cond (is_turned r) 1 0

pub turns-cons : (e : Entry) (es : List Entry) → turn_count (e ∷ es) ≡ turns_of e.reply + turn_count es
turns-cons e es = sum_by-cons (λ (f : Entry). turns_of f.reply) e es

still_reply : (m : Moment) (x : ℕ) (r : Reply) → turns_of r ≡ 0 → after_reply m x r ≡ m
still_reply m x (Turned k) none = absurd (omega (arith, none))
still_reply m x (Held by) none = refl
still_reply m x (Moved had k) none = refl
still_reply m x Cut none = refl
still_reply m x Sink none = refl

still_head : (e : Entry) (es : List Entry) → turn_count (e ∷ es) ≡ 0 → turns_of e.reply ≡ 0
still_head e es none = omega (arith, none, turns-cons e es)

still_tail : (e : Entry) (es : List Entry) → turn_count (e ∷ es) ≡ 0 → turn_count es ≡ 0
still_tail e es none = omega (arith, none, turns-cons e es)

still_all : (m : Moment) (es : List Entry) → turn_count es ≡ 0 → after_all m es ≡ m
still_all m [] none = refl
still_all m (e ∷ es) none =
    still_all (after m e) es (still_tail e es none) ∙ still_reply m e.node e.reply (still_head e es none)

-- so each of them is legal where they begin
pub legal_there : (n d : ℕ) (m : Moment) (es : List Entry) (e : Entry) → turn_count es ≡ 0 → IsRun n d m es
    → Contains es e → IsLegal n d m e
legal_there n d m [] e none run found = absurd (Contains-none e found)
legal_there n d m (f ∷ es) e none run found = ⊎_elim
    (λ same. subst (IsLegal n d m) same run.0)
    (λ later. subst (λ (at : Moment). IsLegal n d at e) (still_reply m f.node f.reply (still_head f es none))
    (legal_there n d (after m f) es e (still_tail f es none) run.1 later))
    (Contains-cases e f es found)

-- Where no node can turn

blocked_stays : (n d : ℕ) (m : Moment) (x : ℕ) (r : Reply) → IsLegalReply n d m x r → IsBlocked r → ¬ CanTurn n d m x
blocked_stays n d m x (Turned k) legal blocked can = blocked
blocked_stays n d m x (Held by) legal blocked can = can.sink.1 by legal
blocked_stays n d m x (Moved had k) legal blocked can = blocked
blocked_stays n d m x Cut legal blocked can = omega (arith, can.below_cap, legal)
blocked_stays n d m x Sink legal blocked can = blocked

blocked_turns : (r : Reply) → IsBlocked r → turns_of r ≡ 0
blocked_turns (Turned k) blocked = absurd blocked
blocked_turns (Held by) blocked = refl
blocked_turns (Moved had k) blocked = refl
blocked_turns Cut blocked = refl
blocked_turns Sink blocked = refl

no_turn_reply : (n d : ℕ) (m : Moment) (x : ℕ) (r : Reply) → NoneCanTurn n d m → IsLegalReply n d m x r → turns_of r ≡ 0
no_turn_reply n d m x (Turned k) none legal = absurd (none x legal.0)
no_turn_reply n d m x (Held by) none legal = refl
no_turn_reply n d m x (Moved had k) none legal = refl
no_turn_reply n d m x Cut none legal = refl
no_turn_reply n d m x Sink none legal = refl

no_turns : (n d : ℕ) (m : Moment) (es : List Entry) → NoneCanTurn n d m → IsRun n d m es → turn_count es ≡ 0
no_turns n d m [] none run = refl
no_turns n d m (e ∷ es) none run =
    let still = no_turn_reply n d m e.node e.reply none run.0.1 in
    let stays : after m e ≡ m = still_reply m e.node e.reply still in
    omega (arith, still, turns-cons e es, no_turns n d (after m e) es (subst (NoneCanTurn n d) (sym stays) none) run.1)

pub quiet_leaves_none : (n d : ℕ) (first : List (ℕ × ℕ)) (m : Moment) → m.links ≡ links_at first m.counts
    → (quiet : List Entry) → IsRun n d m quiet → IsQuiet d first quiet → NoneCanTurn n d m
quiet_leaves_none n d first m links quiet run q x can =
    let linked = sink_linked first m.counts x (can_turn-links_at n d first m x links can).sink in
    let shows = q.blocked x can.not_destination linked in
    let legal = legal_there n d m quiet shows.entry q.no_turn run shows.among in
    let there = subst (λ (z : ℕ). IsLegalReply n d m z shows.entry.reply) shows.node legal.1 in
    blocked_stays n d m x shows.entry.reply there shows.blocked can

-- Runs that end quiet

module _ (n d : ℕ) (first : List (ℕ × ℕ)) (net : IsNet n first) (below : d < n)
    (m : Moment) (at : IsLawfulAt n d first m) where
  none_after : (h quiet : List Entry) → IsRun n d m (h ++ quiet) → IsQuiet d first quiet
      → NoneCanTurn n d (after_all m (h ++ quiet))
  none_after h quiet run q =
      let parts = run_parts n d m h quiet run in
      let there = run_keeps n d first net m at h parts.0 in
      let none = quiet_leaves_none n d first (after_all m h) there.links quiet parts.1 q in
      let same : after_all m (h ++ quiet) ≡ after_all m h =
      after_all-append m h quiet ∙ still_all (after_all m h) quiet q.no_turn in
      subst (NoneCanTurn n d) (sym same) none

  settled_after : (h : List Entry) → IsRun n d m h → NoneCanTurn n d (after_all m h)
      → AreSettled n d first (after_all m h).counts
  settled_after h run none =
      settled_at_end n d first net below (after_all m h) (run_keeps n d first net m at h run) none

  quiet_settles : (h quiet : List Entry) → IsRun n d m (h ++ quiet) → IsQuiet d first quiet
      → AreSettled n d first (after_all m (h ++ quiet)).counts
  quiet_settles h quiet run q = settled_after (h ++ quiet) run (none_after h quiet run q)

  quiet_lasts : (h quiet more : List Entry) → IsRun n d m ((h ++ quiet) ++ more) → IsQuiet d first quiet
      → (turn_count more ≡ 0) × AreSettled n d first (after_all m ((h ++ quiet) ++ more)).counts
  quiet_lasts h quiet more run q =
      let parts = run_parts n d m (h ++ quiet) more run in
      let none = none_after h quiet parts.0 q in
      let still = no_turns n d (after_all m (h ++ quiet)) more none parts.1 in
      let same : after_all m ((h ++ quiet) ++ more) ≡ after_all m (h ++ quiet) =
      after_all-append m (h ++ quiet) more ∙ still_all (after_all m (h ++ quiet)) more still in
      (still, settled_after ((h ++ quiet) ++ more) run (subst (NoneCanTurn n d) (sym same) none))

pub quiet_is_settled : QuietIsSettled
quiet_is_settled n d first counts h quiet net below lawful =
    quiet_settles n d first net below (moment_of first counts) (record { links = refl; lawful = lawful }) h quiet

pub quiet_is_for_good : QuietIsForGood
quiet_is_for_good n d first counts h quiet more net below lawful =
    quiet_lasts n d first net below (moment_of first counts) (record { links = refl; lawful = lawful }) h quiet more

-- Quiet entries where no node can turn

more_shown : (e : Entry) (es : List Entry) (x : ℕ) → ShowsBlocked es x → ShowsBlocked (e ∷ es) x
more_shown e es x s = record {
  entry = s.entry;
  among = Contains-tail s.entry e es s.among;
  node = s.node;
  blocked = s.blocked;
}

at_most : (x k : ℕ) → x < suc k → (x < k) ⊎ (x ≡ k)
at_most x k l = ⊎_elim (λ low. inl low) (λ high. inr (omega (arith, l, high))) (cases_lt x k)

module _ (n d : ℕ) (first : List (ℕ × ℕ)) (net : IsNet n first)
    (m : Moment) (at : IsLawfulAt n d first m) (none : NoneCanTurn n d m) where
  -- no link points away from x, so its count is the cap
  full_there : (x w : ℕ) → Joins first x w → ¬ (x ≡ d)
      → ((y : ℕ) → ¬ Points (links_at first m.counts) x y) → count_at m x ≡ n
  full_there x w linked apart out = ⊎_elim
      (λ low. absurd (none x (record {
        not_destination = apart;
        below_cap = low;
        sink = subst (λ (ls : List (ℕ × ℕ)). IsSink ls x) (sym at.links)
            (sink_from_none_out first m.counts at.lawful.kept x w linked out);
      })))
      (λ high. omega (arith, high, at.lawful.capped x))
      (cases_lt (slice_index m.counts x) n)

  abbrev Blocks : ℕ → Type 0
  Blocks x = (r : Reply) × IsLegalReply n d m x r × IsBlocked r

  blocks : (x w : ℕ) → Joins first x w → ¬ (x ≡ d) → Blocks x
  blocks x w linked apart = ⊎_elim {C = Blocks x}
      (λ o. (Held o.0, subst (λ (ls : List (ℕ × ℕ)). Points ls x o.0) (sym at.links) o.1, tt))
      (λ out. (Cut, full_there x w linked apart out, tt))
      (cases_out (links_at first m.counts) x)

  -- quiet entries for the nodes below k
  record QuietBelow (k : ℕ) : Type 0 where
    entries : List Entry
    run : IsRun n d m entries
    no_turn : turn_count entries ≡ 0
    blocked : (x : ℕ) → x < k → ¬ (x ≡ d) → ((w : ℕ) × Joins first x w) → ShowsBlocked entries x

  skip : (k : ℕ) → QuietBelow k → (¬ (k ≡ d) → ((w : ℕ) × Joins first k w) → ⊥) → QuietBelow (suc k)
  skip k q out = record {
    entries = q.entries;
    run = q.run;
    no_turn = q.no_turn;
    blocked = λ x l apart linked. ⊎_elim
        (λ low. q.blocked x low apart linked)
        (λ same. absurd (out (λ e. apart (same ∙ e)) (
          linked.0,
          subst (λ (z : ℕ). Joins first z linked.0) same linked.1,
        )))
        (at_most x k l);
  }

  add : (k : ℕ) → QuietBelow k → k < n → Blocks k → QuietBelow (suc k)
  add k q low (r, legal, blocked) =
      let e : Entry = record { worker = 0; node = k; reply = r } in
      let still = blocked_turns r blocked in
      record {
        entries = e ∷ q.entries;
        run =
            ((low, legal), subst (λ (there : Moment). IsRun n d there q.entries) (sym (still_reply m k r still)) q.run);
        no_turn = omega (arith, turns-cons e q.entries, still, q.no_turn);
        blocked = λ x l apart linked. ⊎_elim
            (λ l. more_shown e q.entries x (q.blocked x l apart linked))
            (λ same. record { entry = e; among = Contains-head e q.entries; node = sym same; blocked = blocked })
            (at_most x k l);
      }

  one_more : (k : ℕ) → ((w : ℕ) × Joins first k w) ⊎ IsAlone first k
      → (k ≡ d) ⊎ ¬ (k ≡ d) → QuietBelow k → QuietBelow (suc k)
  one_more k (inr alone) is q = skip k q (λ apart linked. alone linked.0 linked.1)
  one_more k (inl linked) (inl is) q = skip k q (λ apart linked. apart is)
  one_more k (inl linked) (inr apart) q =
      add k q (joined_below n first k linked.0 net linked.1).0 (blocks k linked.0 linked.1 apart)

  quiet_below : (k : ℕ) → QuietBelow k
  quiet_below zero = record { entries = []; run = tt; no_turn = refl; blocked = λ x l. absurd (omega (arith, l)) }
  quiet_below (suc k) = one_more k (cases_linked first k) (cases_eq k d) (quiet_below k)

  quiet_there : (quiet : List Entry) × IsQuiet d first quiet × IsRun n d m quiet
  quiet_there = let q = quiet_below n in (
    q.entries,
    record {
      no_turn = q.no_turn;
      blocked = λ x apart linked. q.blocked x (joined_below n first x linked.0 net linked.1).0 apart linked;
    },
    q.run,
  )

pub settled_can_be_quiet : SettledCanBeQuiet
settled_can_be_quiet n d first counts h net below lawful run settled =
    let start : Moment = moment_of first counts in
    let end : Moment = after_all start h in
    let at = run_keeps n d first net start (record { links = refl; lawful = lawful }) h run in
    let none : NoneCanTurn n d end =
    λ x can. none_at_settled n d first net below end.counts settled x (can_turn-links_at n d first end x at.links can)
    in
    let (quiet, q, more) = quiet_there n d first net end at none in
    (quiet, q, run_append n d start h quiet run more)

-- Rounds

pub quiet_round_is_settled : QuietRoundIsSettled
quiet_round_is_settled b s history h quiet below rule behind (rest, is) q =
    let start : Moment = moment_of b.links (replicate b.nodes 0) in
    let run : IsRun b.nodes b.dest start ((h ++ quiet) ++ rest) =
    subst (IsRun b.nodes b.dest start) is behind.run.run in
    let lasts = quiet_is_for_good b.nodes b.dest b.links (replicate b.nodes 0) h quiet rest rule.net below
    (zeros_lawful b.nodes b.dest b.links) run q in
    let words : (after_all start ((h ++ quiet) ++ rest)).counts ≡ s.words =
    ap (λ (g : List Entry). (after_all start g).counts) (sym is) ∙ ap (λ (m : Moment). m.counts) behind.run.ends in
    subst (AreSettled b.nodes b.dest b.links) words lasts.1

pub each_at : {X : Type 0} (P : X → Type 0) (xs : List X) (x : X) → Each P xs → Contains xs x → P x
each_at P [] x each found = absurd (Contains-none x found)
each_at P (y ∷ xs) x each found = ⊎_elim
    (λ same. subst P same each.0)
    (λ later. each_at P xs x each.1 later)
    (Contains-cases x y xs found)

pub worker_knows_quiet : WorkerKnowsQuiet
worker_knows_quiet b s number h quiet below rule found q =
    let behind = one_history b s rule in
    let knows = each_at (KnowsPartOf rule.history) (workers_of s.views) (number, h ++ quiet) behind.parts found in
    quiet_round_is_settled b s rule.history h quiet below rule behind knows.begins q
