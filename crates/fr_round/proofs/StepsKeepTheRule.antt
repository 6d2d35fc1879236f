-- Each step of a worker keeps the rule, and tells what `specs/Steps.antt` says of it.
use Rattle.std.proofs.Common.{◌≡◌, ◌≢◌, ℕ, ◌+◌, ◌<◌, ◌≤◌, true, eqb, List, [], ◌∷◌, ◌++◌, length, map, set, refl, sym}
use Rattle.std.proofs.Common.{ap, ◌∙◌, subst, ⊎_elim, inl, inr, arith}
use Rattle.std.proofs.Common.{le_refl, length-set, get_or-set_same, append-nil, append_assoc, true≢false}
use Rattle.std.specs.Prelude.{slice_index, slice_set}
use Rattle.std.proofs.lemmas.List.{set-get_or}
use Rattle.std.specs.List.{AllByRecursion as Each, Contains}
use mathlib.Core.Option.{some, none}
use mathlib.Core.Logic.{dite}
use native.Mathlib.Decide.{ℕ_discrete, dec_lt}
use lib.ListN.{get_elem?}
use prog.Atomic.{either}
use Rattle.atomic_table.specs.Table.{State, Me, step, keeps, Allows}
use Rattle.atomic_table.proofs.Lists.{at_set, exchanged}
use Rattle.fr_graph.specs.Links.{Points, Joins}
use Rattle.fr_core.specs.History.{Moment, after, count_at, part}
use Rattle.fr_core.specs.Legal.{CanTurn, IsLegal}
use Rattle.fr_core.specs.Targets.{IsLookable, IsTurnable}
use Rattle.fr_core.specs.declared.entry.Entry.{Entry}
use Rattle.fr_core.specs.declared.entry.Reply.{Reply}
use Rattle.fr_core.specs.declared.entry.Reply.TheVariants.{Turned, Held, Moved, Cut, Sink}
use Rattle.fr_round.specs.declared.view.Setup.{Setup}
use Rattle.fr_round.specs.declared.view.View.{View}
use Rattle.fr_round.specs.Histories.{IsHistory, moment, start, StartsWith, entry, reached}
use Rattle.fr_round.specs.Rule.{HasList, KeepsRule, ViewFits, IsTaken}
use Rattle.fr_round.specs.Calls.{AllMeet, IsInCall, IsWorker}
use Rattle.fr_round.specs.Steps.{EndsCall, noted, begun, caught_up, own_loaded, neighbour_loaded, exchange_made}
use Rattle.fr_round.specs.Steps.{look_begun, look_ended}
use Rattle.fr_round.specs.Laws.{Grows, IsGrown}
use Rattle.fr_round.proofs.Entries.{lawful_after, set_up, set_below, part_mine, part_other}
use Rattle.fr_core.proofs.Loads.{held_along, held_against, sink_from_seen}
use Rattle.fr_core.proofs.Rounds.{after_all-append, run_append}
use Rattle.fr_core.proofs.Turning.{IsLawfulAt}
use Rattle.fr_graph.specs.Turn.{IsSink}

pub each_weaker : {X : Type 0} (P Q : X → Type 0) → ((x : X) → P x → Q x) → (xs : List X) → Each P xs → Each Q xs
each_weaker P Q f [] a = a
each_weaker P Q f (x ∷ xs) a = (f x a.0, each_weaker P Q f xs a.1)

pub each_append : {X : Type 0} (P : X → Type 0) (xs ys : List X) → Each P xs → Each P ys → Each P (xs ++ ys)
each_append P [] ys a c = c
each_append P (x ∷ xs) ys a c = (a.0, each_append P xs ys a.1 c)

pub each_snoc : {X : Type 0} (P : X → Type 0) (xs : List X) (x : X) → Each P xs → P x → Each P (xs ++ x ∷ [])
each_snoc P xs x a p = each_append P xs (x ∷ []) a (p, tt)

pub each_mapped : {X Y : Type 0} (P : X → Type 0) (Q : Y → Type 0) (f : X → Y) → ((x : X) → P x → Q (f x))
    → (xs : List X) → Each P xs → Each Q (map f xs)
each_mapped P Q f g [] a = tt
each_mapped P Q f g (x ∷ xs) a = (g x a.0, each_mapped P Q f g xs a.1)

-- a history goes on by calls of one worker
pub record GoesOn (k : ℕ) (h h' : List Entry) : Type 0 where
  pub rest : List Entry
  pub is : h' ≡ h ++ rest
  pub others : (i : ℕ) → i ≢ k → part i h' ≡ part i h

grows_same : (k : ℕ) (h : List Entry) → GoesOn k h h
grows_same k h = record { rest = []; is = sym (append-nil h); others = λ i _. refl }

grows_by : (k x : ℕ) (r : Reply) (h : List Entry) → GoesOn k h (h ++ entry k x r ∷ [])
grows_by k x r h =
    record { rest = entry k x r ∷ []; is = refl; others = λ i apart. part_other i h (entry k x r) (λ e. apart (sym e)) }

pub starts_on : (k : ℕ) (h h' known : List Entry) → GoesOn k h h' → StartsWith h known → StartsWith h' known
starts_on k h h' known g s = (s.0 ++ g.rest, g.is ∙ (ap (λ l. l ++ g.rest) s.1 ∙ append_assoc known s.0 g.rest))

-- what the rule says of the other seats goes on to hold
others_stay : (b : Setup) (next : ℕ) (seat_of : ℕ → ℕ) (at : ℕ) (h h' : List Entry) (words words' : List ℕ) (k : ℕ)
    → GoesOn k h h' → ((y : ℕ) → slice_index words y ≤ slice_index words' y)
    → (j : ℕ) (u : View) → seat_of k ≢ j → ViewFits b next seat_of at h words j u
    → ViewFits b next seat_of at h' words' j u
others_stay b next seat_of at h h' words words' k g up j u apart f = record {
  begins = starts_on k h h' u.known g f.begins;
  received = starts_on k h h' u.received g f.received;
  worker = λ works. let w = f.worker works in record {
    setup = w.setup;
    own = g.others u.number (λ e. apart (sym (ap seat_of e) ∙ w.placed)) ∙ w.own;
    below = λ y. let a = w.below y in let c = up y in omega arith;
    long = w.long;
    numbered = w.numbered;
    placed = w.placed;
    not_opening = w.not_opening;
    not_closing = w.not_closing;
  };
  opening = λ opens. let o = f.opening opens in record { setup = o.setup; here = o.here; counts = o.counts };
  closing = λ closes. let o = f.closing closes in record {
    setup = o.setup;
    apart = o.apart;
    taken = each_weaker (IsTaken next seat_of j h) (IsTaken next seat_of j h')
        (λ t was. record {
          begins = starts_on k h h' t.1 g was.begins;
          own = g.others t.0 (λ e. apart (sym (ap seat_of e) ∙ was.placed)) ∙ was.own;
          placed = was.placed;
          numbered = was.numbered;
        })
        u.taken o.taken;
  };
}

abbrev marked : View → ℕ → ℕ → ℕ → ℕ → View
marked v y c node count = record v { seen = slice_set v.seen y c; node = node; count = count }

abbrev decided_view : View → List Entry → ℕ → ℕ → View
decided_view v h y c = record v { seen = slice_set v.seen y c; known = h }

module _ {S : Type 0} where
  -- a worker's seat has a new view, after a history that its calls made longer
  keeps_step : (b : Setup) (s : State S View) (r : KeepsRule b s) (id : ℕ) (v w : View) (h' : List Entry)
      (words' : List ℕ)
      → get_elem? s.views id ≡ some v → v.works ≡ true
      → GoesOn v.number r.history h' → IsHistory b h' → words' ≡ (moment b h').counts
      → Each (λ (e : Entry). e.worker < r.next) h' → ((y : ℕ) → slice_index s.words y ≤ slice_index words' y)
      → ViewFits b r.next r.seat_of r.at h' words' id w
      → HasList b h' (record { words = words'; homes = s.homes; views = set s.views id w })
  keeps_step b s r id v w h' words' here works g run same given up fit =
      let mine = (r.views id v here).worker works in (
        record {
          net = r.net;
          history = h';
          next = r.next;
          seat_of = r.seat_of;
          at = r.at;
          most = r.most;
          run = run;
          words = same;
          given_out = given;
          views = λ j u e. ⊎_elim
              (λ (t : (j ≡ id)
              × (w ≡ u)). subst (λ (p : ℕ × View). ViewFits b r.next r.seat_of r.at h' words' p.0 p.1) (λ i. (
                sym t.0 i,
                t.1 i,
              )) fit)
              (λ (t : (j ≢ id) × (get_elem? s.views j ≡ some u)).
              others_stay b r.next r.seat_of r.at r.history h' s.words words' v.number g up j u (λ e. t.0 (sym e
              ∙ mine.placed)) (r.views j u t.1))
              (at_set s.views id j w u e);
        },
        refl,
      )

  lawful_here : (b : Setup) (s : State S View) (r : KeepsRule b s)
      → IsLawfulAt b.nodes b.dest b.links (moment b r.history)
  lawful_here b s r = lawful_after b r.history r.net r.run

  word_is : (b : Setup) (s : State S View) (r : KeepsRule b s) (y : ℕ) → slice_index s.words y ≡ reached b r.history y
  word_is b s r y = ap (λ l. slice_index l y) r.words

  -- a count that a word has reached is noted
  notes : (s : State S View) (id : ℕ) (v : View) (r : KeepsRule v.setup s) (y c node count : ℕ)
      → get_elem? s.views id ≡ some v → v.works ≡ true → c ≤ slice_index s.words y
      → HasList v.setup r.history (record {
        words = s.words;
        homes = s.homes;
        views = set s.views id (marked v y c node count);
      })
  notes s id v r y c node count here works le =
      let f = r.views id v here in let mine = f.worker works in
      keeps_step v.setup s r id v (marked v y c node count) r.history s.words here works (grows_same v.number r.history)
      r.run r.words r.given_out (λ z. le_refl _) (record {
        begins = f.begins;
        received = f.received;
        worker = λ _. record {
          setup = refl;
          own = mine.own;
          below = set_below v.seen s.words y c mine.below le;
          long = length-set v.seen y c ∙ mine.long;
          numbered = mine.numbered;
          placed = mine.placed;
          not_opening = mine.not_opening;
          not_closing = mine.not_closing;
        };
        opening = λ opens. absurd (true≢false (sym opens ∙ mine.not_opening));
        closing = λ closes. absurd (true≢false (sym closes ∙ mine.not_closing));
      })

  -- a call is decided by an entry that is legal after the history
  call_ended : (s : State S View) (id : ℕ) (v : View) (r : KeepsRule v.setup s) (x : ℕ) (reply : Reply) (y c : ℕ)
      (words' : List ℕ) → get_elem? s.views id ≡ some v → v.works ≡ true
      → IsLegal v.setup.nodes v.setup.dest (moment v.setup r.history) (entry v.number x reply)
      → words' ≡ (after (moment v.setup r.history) (entry v.number x reply)).counts
      → ((z : ℕ) → slice_index s.words z ≤ slice_index words' z) → c ≤ slice_index words' y
      → HasList v.setup (r.history ++ entry v.number x reply ∷ []) (record {
        words = words';
        homes = s.homes;
        views = set s.views id (decided_view v (r.history ++ entry v.number x reply ∷ []) y c);
      })
      × EndsCall v x reply y c (decided_view v (r.history ++ entry v.number x reply ∷ []) y c)
  call_ended s id v r x reply y c words' here works legal same up le =
      let f = r.views id v here in let mine = f.worker works in
      let e : Entry = entry v.number x reply in
      let h' : List Entry = r.history ++ e ∷ [] in
      let run : IsHistory v.setup h' =
      run_append v.setup.nodes v.setup.dest (start v.setup) r.history (e ∷ []) r.run (legal, tt) in
      let counts : words' ≡ (moment v.setup h').counts =
      same ∙ ap (λ (m : Moment). m.counts) (sym (after_all-append (start v.setup) r.history (e ∷ []))) in
      let below : (z : ℕ) → slice_index (slice_set v.seen y c) z ≤ slice_index words' z =
      set_below v.seen words' y c (λ z. let p = mine.below z in let q = up z in omega arith) le in (
        keeps_step v.setup s r id v (decided_view v h' y c) h' words' here works (grows_by v.number x reply r.history)
            run counts (each_snoc (λ (e : Entry). e.worker < r.next) r.history e r.given_out mine.numbered) up (record {
              begins = ([], sym (append-nil h'));
              received = starts_on v.number r.history h' v.received (grows_by v.number x reply r.history) f.received;
              worker = λ _. record {
                setup = refl;
                own = refl;
                below = below;
                long = length-set v.seen y c ∙ mine.long;
                numbered = mine.numbered;
                placed = mine.placed;
                not_opening = mine.not_opening;
                not_closing = mine.not_closing;
              };
              opening = λ opens. absurd (true≢false (sym opens ∙ mine.not_opening));
              closing = λ closes. absurd (true≢false (sym closes ∙ mine.not_closing));
            }),
        record {
          same = refl;
          extends = record {
            between = f.begins.0;
            begins = ap (λ l. l ++ e ∷ []) f.begins.1;
            run = run;
            own = part_mine v.number r.history e refl ∙ ap (λ l. l ++ e ∷ []) mine.own;
          };
          below =
              λ z. let p =
              below z in let q : slice_index words' z ≡ reached v.setup h' z =
              ap (λ l. slice_index l z) counts in omega arith;
        },
      )

  -- what a step at a known setup shows, at the setup of the rule
  abbrev Outcome : (s : State S View) → ℕ → Me S View → List ℕ → (Me S View → Type 0) → (b : Setup) → KeepsRule b s
      → Type 0
  Outcome s id me words' then b r =
      (w : View) × (after : List Entry) × HasList b after (record {
        words = words';
        homes = s.homes;
        views = slice_set s.views id w;
      })
      × then (w, me.1) × IsGrown r.history me.0 w after

  rebase : (s : State S View) (id : ℕ) (me : Me S View) (words' : List ℕ) (then : Me S View → Type 0) (b : Setup)
      (r : KeepsRule b s) → get_elem? s.views id ≡ some me.0 → me.0.works ≡ true
      → ((r : KeepsRule me.0.setup s) → Outcome s id me words' then me.0.setup r) → Outcome s id me words' then b r
  rebase s id me words' then b r here works main =
      subst (λ (z : Setup). (r : KeepsRule z s) → Outcome s id me words' then z r)
      ((r.views id me.0 here).worker works).setup main r

  load_at : (s : State S View) (id i : ℕ) (me : Me S View) (then : Me S View → Type 0) (b : Setup) (r : KeepsRule b s)
      → Outcome s id me s.words then b r → Outcome s id me (slice_set s.words i (slice_index s.words i)) then b r
  load_at s id i me then b r out = subst (λ ws. Outcome s id me ws then b r) (sym (set-get_or s.words i 0)) out

  -- a load shows what it shows where the setup of the rule is the worker's own
  loads : (b : Setup) (slots id : ℕ) (me : Me S View) (i : ℕ) (then : ℕ → Me S View → Type 0) → me.0.works ≡ true
      → ((s : State S View) → get_elem? s.views id ≡ some me.0 → (r : KeepsRule me.0.setup s)
      → Outcome s id me s.words (then (slice_index s.words i)) me.0.setup r)
      → Grows b slots id me i (λ n. n) then
  loads b slots id me i then works main s r0 _ here _ =
      let found : ℕ = slice_index s.words i in
      rebase s id me (slice_set s.words i found) (then found) b r0 here works
      (λ r. load_at s id i me (then found) me.0.setup r (main s here r))

  -- a word is the count of its node, which the cap bounds
  word_low : (b : Setup) (s : State S View) (r : KeepsRule b s) (y : ℕ) → slice_index s.words y ≤ b.nodes
  word_low b s r y = omega (arith, word_is b s r y, (lawful_here b s r).lawful.capped y)

  -- a node whose neighbours were all seen to meet their bounds is a sink
  sink_here : (s : State S View) (id : ℕ) (v : View) (r : KeepsRule v.setup s) → get_elem? s.views id ≡ some v
      → v.works ≡ true → (x c : ℕ) → slice_index s.words x ≡ c → (w : ℕ) × Joins v.setup.links x w
      → AllMeet v.setup.links v.seen x c → IsSink (moment v.setup r.history).links x
  sink_here s id v r here works x c hit linked met =
      let st = lawful_here v.setup s r in
      let mine = (r.views id v here).worker works in
      let own : count_at (moment v.setup r.history) x ≡ c = sym (word_is v.setup s r x) ∙ hit in
      subst (λ (ls : List (ℕ × ℕ)). IsSink ls x) (sym st.links)
      (sink_from_seen v.setup.links (moment v.setup r.history).counts st.lawful.kept x (slice_index v.seen)
      (λ y. let q = mine.below y in let e = word_is v.setup s r y in omega arith) linked
      (λ y l. let p = met.along y l in
      omega arith) (λ y l. let p = met.against y l in omega arith))

  pub loads_own : (b : Setup) (slots id : ℕ) (me : Me S View) (i : ℕ) → me.0.works ≡ true → i < me.0.setup.nodes
      → Grows b slots id me i (λ n. n) (own_loaded (step slots i 0 0 none) me)
  loads_own b slots id me i works inside =
      loads b slots id me i (own_loaded (step slots i 0 0 none) me) works (λ s here r.
      let found : ℕ = slice_index s.words i in
      let v = me.0 in
      let mine = (r.views id v here).worker works in
      let is : found ≡ reached v.setup r.history i = word_is v.setup s r i in
      let most : found ≤ v.setup.nodes = word_low v.setup s r i in
      dite (ℕ_discrete found v.setup.nodes)
      (λ (full : found ≡ v.setup.nodes).
      let d =
      call_ended s id v r i Cut i found s.words here works (
        inside,
        sym is
            ∙ full,
      ) r.words (λ z. le_refl _) (le_refl found) in (
        decided_view v (r.history ++ entry v.number i Cut ∷ []) i found,
        (r.history ++ entry v.number i Cut ∷ []),
        d.0,
        (mine.below i, most, (λ other. absurd (other full)), (λ _. d.1), refl),
        inr (entry v.number i Cut, refl, refl, refl, d.1.extends.own),
      ))
      (λ (other : found ≢ v.setup.nodes). (
        begun v i found,
        r.history,
        notes s id v r i found i found here works (le_refl found),
        (mine.below i, most, (λ _. refl), (λ full. absurd (other full)), refl),
        inl (refl, refl),
      )))

  loads_neighbour : (b : Setup) (slots id more : ℕ) (me : Me S View) (i : ℕ) → me.0.works ≡ true
      → me.0.node < me.0.setup.nodes → me.0.count ≤ slice_index me.0.seen me.0.node
      → ((m : Moment) → IsLawfulAt me.0.setup.nodes me.0.setup.dest me.0.setup.links m → me.0.count
      ≤ count_at m me.0.node
      → count_at m i < me.0.count + more → Points m.links me.0.node i)
      → Grows b slots id me i (λ n. n) (neighbour_loaded more (step slots i 0 0 none) me)
  loads_neighbour b slots id more me i works inside begun_at points =
      loads b slots id me i (neighbour_loaded more (step slots i 0 0 none) me) works (λ s here r.
      let found : ℕ = slice_index s.words i in
      let v = me.0 in
      let mine = (r.views id v here).worker works in
      let is : found ≡ reached v.setup r.history i = word_is v.setup s r i in
      let most : found ≤ v.setup.nodes = word_low v.setup s r i in
      let own : v.count ≤ reached v.setup r.history v.node = let p = mine.below v.node in
      let q = word_is v.setup s r v.node in omega arith in
      dite (dec_lt found (v.count + more))
      (λ (miss : found < v.count + more).
      let low : reached v.setup r.history i < v.count + more = omega arith in
      let d = call_ended s id v r v.node (Held i) i found s.words here works
      (inside, points (moment v.setup r.history) (lawful_here v.setup s r) own low) r.words (λ z. le_refl _)
      (le_refl found) in (
        decided_view v (r.history ++ entry v.number v.node (Held i) ∷ []) i found,
        (r.history ++ entry v.number v.node (Held i) ∷ []),
        d.0,
        (mine.below i, most, (λ meets. absurd (omega arith)), (λ _. d.1), refl),
        inr (entry v.number v.node (Held i), refl, refl, refl, d.1.extends.own),
      ))
      (λ (meets : ¬ (found < v.count + more)). (
        noted v i found,
        r.history,
        notes s id v r i found v.node v.count here works (le_refl found),
        (mine.below i, most, (λ _. refl), (λ miss. absurd (meets miss)), refl),
        inl (refl, refl),
      )))

  exchanges : (b : Setup) (slots id : ℕ) (me : Me S View) (x c new : ℕ) → new ≡ c + 1 → me.0.works ≡ true
      → c < me.0.setup.nodes → c ≤ slice_index me.0.seen x
      → IsTurnable me.0.setup.nodes me.0.setup.dest me.0.setup.links x
      → AllMeet me.0.setup.links me.0.seen x c
      → Grows b slots id me x (λ n. either (eqb n c) new n) (exchange_made (step slots x c new none) me)
  exchanges b slots id me x c new up works room had may met s r0 _ here _ =
      let found : ℕ = slice_index s.words x in
      rebase s id me (slice_set s.words x (either (eqb found c) new found))
      (exchange_made (step slots x c new none) me found) b r0 here works (λ r. main s here r)
    where
      main : (s : State S View) → get_elem? s.views id ≡ some me.0 → (r : KeepsRule me.0.setup s)
          → Outcome s id me (slice_set s.words x (either (eqb (slice_index s.words x) c) new (slice_index s.words x)))
          (exchange_made (step slots x c new none) me (slice_index s.words x)) me.0.setup r
      main s here r =
          let found : ℕ = slice_index s.words x in
          let v = me.0 in
          let b = v.setup in
          let m : Moment = moment b r.history in
          let mine = (r.views id v here).worker works in
          let is : found ≡ count_at m x = word_is b s r x in
          let most : found ≤ b.nodes = word_low b s r x in
          exchanged found c new
          (λ z. Outcome s id me (slice_set s.words x z) (exchange_made (step slots x c new none) me found) b r)
          (λ (hit : found ≡ c).
          let own : count_at m x ≡ c = sym is ∙ hit in
          let can : CanTurn b.nodes b.dest m x = record {
            not_destination = may.not_destination;
            below_cap = omega arith;
            sink = sink_here s id v r here works x c hit may.linked met;
          } in
          let words' : List ℕ = slice_set s.words x new in
          let one_each = (lawful_here b s r).lawful.one_each in
          let long : x < length s.words = omega (arith, one_each, may.inside, ap (λ (l : List ℕ). length l) r.words) in
          let new_is : new ≡ count_at m x + 1 = omega arith in
          let same : words' ≡ slice_set m.counts x (count_at m x + 1) = λ i. slice_set (r.words i) x (new_is i) in
          let here_now : slice_index words' x ≡ new = get_or-set_same s.words x new 0 long in
          let t = call_ended s id v r x (Turned (c + 1)) x (c + 1) words' here works (
            may.inside,
            (
              can,
              ap (λ (z : ℕ). z
                  + 1) (sym own),
            ),
          ) same (set_up s.words x new (omega arith)) (omega arith) in (
            decided_view v (r.history ++ entry v.number x (Turned (c + 1)) ∷ []) x (c + 1),
            (r.history ++ entry v.number x (Turned (c + 1)) ∷ []),
            t.0,
            (mine.below x, most, (λ _. t.1), (λ other. absurd (other hit)), refl),
            inr (entry v.number x (Turned (c + 1)), refl, refl, refl, t.1.extends.own),
          ))
          (λ (miss : found ≢ c).
          let above : c < found = let p = mine.below x in omega arith in
          let t =
          call_ended s id v r x (Moved c found) x found s.words here works (may.inside, (is, above)) r.words
          (λ z. le_refl _) (le_refl found) in
          subst (λ ws. Outcome s id me ws (exchange_made (step slots x c new none) me found) b r)
          (sym (set-get_or s.words x 0)) (
            decided_view v (r.history ++ entry v.number x (Moved c found) ∷ []) x found,
            (r.history ++ entry v.number x (Moved c found) ∷ []),
            t.0,
            (mine.below x, most, (λ hit. absurd (miss hit)), (λ _. t.1), refl),
            inr (entry v.number x (Moved c found), refl, refl, refl, t.1.extends.own),
          ))

  pub begins_look : (b : Setup) (slots id : ℕ) (me : Me S View) (i : ℕ) → me.0.works ≡ true
      → Grows b slots id me i (λ n. n) (look_begun (step slots i 0 0 none) me)
  begins_look b slots id me i works = loads b slots id me i (look_begun (step slots i 0 0 none) me) works (λ s here r.
      let found : ℕ = slice_index s.words i in
      let mine = (r.views id me.0 here).worker works in (
        begun me.0 i found,
        r.history,
        notes s id me.0 r i found i found here works (le_refl found),
        (mine.below i, word_low me.0.setup s r i, refl, refl),
        inl (refl, refl),
      ))

  -- a worker that catches up knows the whole list
  pub catches_up : (b : Setup) (slots id : ℕ) (me : Me S View) (i : ℕ) → me.0.works ≡ true
      → Grows b slots id me i (λ n. n) (caught_up (step slots i 0 0 none) me)
  catches_up b slots id me i works = loads b slots id me i (caught_up (step slots i 0 0 none) me) works (λ s here r.
      let v = me.0 in
      let h = r.history in
      let f = r.views id v here in
      let mine = f.worker works in
      let all : StartsWith h h = ([], sym (append-nil h)) in (
        record v { known = h },
        h,
        keeps_step v.setup s r id v (record v { known = h }) h s.words here works (grows_same v.number h)
            r.run r.words r.given_out (λ z. le_refl _) (record {
              begins = all;
              received = f.received;
              worker = λ _. record {
                setup = refl;
                own = refl;
                below = mine.below;
                long = mine.long;
                numbered = mine.numbered;
                placed = mine.placed;
                not_opening = mine.not_opening;
                not_closing = mine.not_closing;
              };
              opening = λ opens. absurd (true≢false (sym opens ∙ mine.not_opening));
              closing = λ closes. absurd (true≢false (sym closes ∙ mine.not_closing));
            }),
        (
          refl,
          record {
            begins = f.begins;
            received = f.received;
            run = r.run;
            own = mine.own;
            below = λ z. omega (arith, mine.below z, word_is v.setup s r z);
          },
          refl,
        ),
        inl (refl, mine.own),
      ))

  -- what grows the list keeps the rule
  pub allowed : (b : Setup) (slots id : ℕ) (me : Me S View) (i : ℕ) (f : ℕ → ℕ) (then : ℕ → Me S View → Type 0)
      → Grows b slots id me i f then → Allows (KeepsRule b) slots id me i f then
  allowed b slots id me i f then grows s r homes here fits =
      let t = grows s r homes here fits in (t.0, keeps, tt, t.2.0, t.3)

  ends_look : (b : Setup) (slots id : ℕ) (me : Me S View) (x : ℕ) → me.0.works ≡ true
      → me.0.count ≤ slice_index me.0.seen x
      → IsLookable me.0.setup.nodes me.0.setup.links x → AllMeet me.0.setup.links me.0.seen x me.0.count
      → Grows b slots id me x (λ n. n) (look_ended (step slots x 0 0 none) me)
  ends_look b slots id me x works had may met =
      loads b slots id me x (look_ended (step slots x 0 0 none) me) works (λ s here r.
      let found : ℕ = slice_index s.words x in
      let v = me.0 in
      let c : ℕ = v.count in
      let mine = (r.views id v here).worker works in
      let is : found ≡ reached v.setup r.history x = word_is v.setup s r x in
      let most : found ≤ v.setup.nodes = word_low v.setup s r x in
      dite (ℕ_discrete found c)
      (λ (hit : found ≡ c).
      let t = call_ended s id v r x Sink x found s.words here works
      (may.inside, sink_here s id v r here works x c hit may.linked met) r.words (λ z. le_refl _) (le_refl found) in (
        decided_view v (r.history ++ entry v.number x Sink ∷ []) x found,
        (r.history ++ entry v.number x Sink ∷ []),
        t.0,
        (mine.below x, most, (λ _. t.1), (λ other. absurd (other hit)), refl),
        inr (entry v.number x Sink, refl, refl, refl, t.1.extends.own),
      ))
      (λ (miss : found ≢ c).
      let above : c < found = let p = mine.below x in omega arith in
      let t =
      call_ended s id v r x (Moved c found) x found s.words here works (may.inside, (is, above)) r.words
      (λ z. le_refl _) (le_refl found) in (
        decided_view v (r.history ++ entry v.number x (Moved c found) ∷ []) x found,
        (r.history ++ entry v.number x (Moved c found) ∷ []),
        t.0,
        (mine.below x, most, (λ hit. absurd (miss hit)), (λ _. t.1), refl),
        inr (entry v.number x (Moved c found), refl, refl, refl, t.1.extends.own),
      )))

-- the same, by what the contracts of the steps say: the setup of the rule needs no name there, since it is that of each worker
module _ {S : Type 0} (b own : Setup) (slots id : ℕ) (me : Me S View) (x c w : ℕ) (call : IsInCall own x c me.0) where
  here_begun : me.0.count ≤ slice_index me.0.seen me.0.node
  here_begun =
      let e : slice_index me.0.seen me.0.node ≡ slice_index me.0.seen x = ap (slice_index me.0.seen) call.node in
      omega (arith, e, call.own, call.count)

  here_inside : me.0.node < me.0.setup.nodes
  here_inside =
      let e : me.0.setup.nodes ≡ own.nodes = ap (λ (z : Setup). z.nodes) call.worker.setup in
      omega (arith, e, call.node, call.in_range)

  pub loads_along_at : Contains own.links (x, w)
      → Grows b slots id me w (λ n. n) (neighbour_loaded 1 (step slots w 0 0 none) me)
  loads_along_at link =
      let here =
      subst (λ (p : List (ℕ × ℕ)
      × ℕ). Contains p.0 (p.1, w)) (λ i. ((sym call.worker.setup i).links, sym call.node i)) link in
      loads_neighbour b slots id 1 me w call.worker.works here_inside here_begun
      (λ m st up miss. subst (λ (ls : List (ℕ × ℕ)). Points ls me.0.node w) (sym st.links)
      (held_along me.0.setup.links m.counts st.lawful.kept me.0.node w me.0.count up here miss))

  pub loads_against_at : Contains own.links (w, x)
      → Grows b slots id me w (λ n. n) (neighbour_loaded 0 (step slots w 0 0 none) me)
  loads_against_at link =
      let here =
      subst (λ (p : List (ℕ × ℕ)
      × ℕ). Contains p.0 (w, p.1)) (λ i. ((sym call.worker.setup i).links, sym call.node i)) link in
      loads_neighbour b slots id 0 me w call.worker.works here_inside here_begun
      (λ m st up miss. subst (λ (ls : List (ℕ × ℕ)). Points ls me.0.node w) (sym st.links)
      (held_against me.0.setup.links m.counts st.lawful.kept me.0.node w me.0.count up here (omega arith)))

pub exchanges_at : {S : Type 0} (b own : Setup) (slots id : ℕ) (me : Me S View) (x c new : ℕ) → new ≡ c + 1
    → c < own.nodes
    → c ≤ slice_index me.0.seen x → IsWorker own me.0 → IsTurnable own.nodes own.dest own.links x
    → AllMeet own.links me.0.seen x c
    → Grows b slots id me x (λ n. either (eqb n c) new n) (exchange_made (step slots x c new none) me)
exchanges_at b own slots id me x c new up room had worker may met =
    let back = sym worker.setup in
    exchanges b slots id me x c new up worker.works (subst (λ (z : Setup). c < z.nodes) back room) had
    (subst (λ (z : Setup). IsTurnable z.nodes z.dest z.links x) back may)
    (subst (λ (z : Setup). AllMeet z.links me.0.seen x c) back met)

pub ends_look_at : {S : Type 0} (b own : Setup) (slots id : ℕ) (me : Me S View) (x c : ℕ) → IsInCall own x c me.0
    → IsLookable own.nodes own.links x → AllMeet own.links me.0.seen x c
    → Grows b slots id me x (λ n. n) (look_ended (step slots x 0 0 none) me)
ends_look_at b own slots id me x c call may met =
    let back = sym call.worker.setup in
    ends_look b slots id me x call.worker.works (omega (arith, call.own, call.count))
    (subst (λ (z : Setup). IsLookable z.nodes z.links x) back may)
    (subst (λ (p : Setup × ℕ). AllMeet p.0.links me.0.seen x p.1) (λ i. (back i, sym call.count i)) met)
