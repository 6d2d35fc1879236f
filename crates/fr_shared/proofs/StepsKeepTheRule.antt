-- Each step keeps the rule, and shows what `specs/Steps.antt` says of it.
use Rattle.std.proofs.Common.{Bool, List, Some, [], ap, arith, false, length, map, refl, replicate, set}
use Rattle.std.proofs.Common.{slice_get, slice_index, subst}
use Rattle.std.proofs.Common.{suc, sym, true, true≢false, zero, ℕ, ⊎_elim, ◌++◌, ◌<◌, ◌≤◌, ◌∙◌, ◌∷◌, ◌≡◌, ◌≢◌}
use Rattle.std.proofs.lemmas.List.{get_or-set_same, length-set, map-set, set-get_or}
use Rattle.std.proofs.lemmas.Option.{slice_get-get_or}
use mathlib.Core.Option.{none, some, some-injective, some-ne-none}
use lib.ListN.{get_elem?}
use Rattle.atomic_table.specs.declared.shared.Seat.{Seat}
use Rattle.atomic_table.specs.Table.{Allows, Joins, Me, Splits, State, keeps, opening, step}
use Rattle.atomic_table.proofs.Lists.{at_set, at_snoc}
use Rattle.fr_shared.specs.declared.view.Push.{Push}
use Rattle.fr_shared.specs.declared.view.View.{View}
use Rattle.fr_shared.specs.Codec.{Codec, IsSound}
use Rattle.fr_shared.specs.Histories.{IsHistory, StartsWith, blank, push, table_of}
use Rattle.fr_shared.specs.Rule.{AllFit, KeepsRule, ViewFits, first_view, reader_view, spent_view, with_met}
use Rattle.fr_shared.specs.Steps.{looked, written}
use Rattle.fr_shared.specs.Inside.{IsSoundPlace, Words}
use Rattle.fr_shared.specs.Laws.{Explains, LearnedIsRead, StepsKeepTheRule}
use Rattle.fr_shared.proofs.Histories.{AreHeld, after_append, all_known, blank_words, item_held, last_is_table}
use Rattle.fr_shared.proofs.Histories.{length_table, starts_after, starts_more, table_held, tables_more, word_held}

reads : false ≡ true → ⊥
reads e = true≢false (sym e)

module _ {A : Type 0} where
  -- one view changes, and the other views still fit
  fit_set : (h : List (Push A)) (at : ℕ) (views : List (View A)) (id : ℕ) (w : View A) → ViewFits h at id w
      → ((j : ℕ) (v : View A) → j ≢ id → get_elem? views j ≡ some v → ViewFits h at j v)
      → AllFit h at (set views id w)
  fit_set h at views id w fits others j v e = ⊎_elim
      (λ (t : (j ≡ id) × (w ≡ v)). subst (λ (p : ℕ × View A). ViewFits h at p.0 p.1) (λ i. (sym t.0 i, t.1 i)) fits)
      (λ (t : (j ≢ id) × (get_elem? views j ≡ some v)). others j v t.0 t.1)
      (at_set views id j w v e)

  fit_more : (h : List (Push A)) (at : ℕ) (views : List (View A)) (w : View A) → AllFit h at views
      → ((j : ℕ) → ViewFits h at j w) → AllFit h at (views ++ w ∷ [])
  fit_more h at views w all fits j v e = ⊎_elim
      (λ (old : get_elem? views j ≡ some v). all j v old)
      (λ (new : w ≡ v). subst (ViewFits h at j) new (fits j))
      (at_snoc views w v j e)

  -- a seat that reads, and has met nobody
  reader_fits : (h : List (Push A)) (at j : ℕ) (v : View A) → StartsWith h v.known → v.met ≡ [] → v.writes ≡ false
      → ViewFits h at j v
  reader_fits h at j v begins empty is = record {
    begins = begins;
    met = (h, sym (ap (λ (k : List (Push A)). k ++ h) empty));
    writer = λ writes. absurd (reads (sym is ∙ writes));
  }

  -- a seat then knows the whole history
  knows_all : (h : List (Push A)) (at id : ℕ) (v : View A) → ViewFits h at id v
      → ViewFits h at id (record v { known = h })
  knows_all h at id v mine =
      record { begins = all_known h; met = mine.met; writer = λ writes. ((mine.writer writes).0, refl) }

-- each item comes back from its word
held : {A : Type 0} (c : Codec A) → IsSound c → (n : ℕ) (h : List (Push A)) → n ≤ c.most → IsHistory c n h
    → AreHeld c (table_of c n h)
held c sound n h few are x a is = sound.again n (table_of c n h) x a few (last_is_table c n h are) is

-- the words are those of the table after one more push
words_more : {A : Type 0} (c : Codec A) (n : ℕ) (h : List (Push A)) (x : ℕ) (a : A) (words : List ℕ)
    → words ≡ map c.word_of (table_of c n h)
    → set words x (c.word_of a) ≡ map c.word_of (table_of c n (h ++ push x a ∷ []))
words_more c n h x a words same =
    ap (λ (l : List ℕ). set l x (c.word_of a)) same
    ∙ (sym (map-set c.word_of (table_of c n h) x a)
    ∙ ap (map c.word_of) (sym (after_append (blank c n) h (push x a ∷ []))))

module _ {A : Type 0} (c : Codec A) (sound : IsSound c) {S : Type 0} where
  -- the words and the history are unchanged
  stays : (n : ℕ) (s t : State S (View A)) (r : KeepsRule c n s) → t.words ≡ s.words → AllFit r.history r.at t.views
      → KeepsRule c n t
  stays n s t r words views =
      record { history = r.history; at = r.at; few = r.few; tables = r.tables; words = words ∙ r.words; views = views }

  -- a load after which the seat has a view that fits
  loads : (n : ℕ) (s : State S (View A)) (id x : ℕ) (w : View A) (r : KeepsRule c n s) → ViewFits r.history r.at id w
      → KeepsRule c n (record {
        words = set s.words x (slice_index s.words x);
        homes = s.homes;
        views = set s.views id w;
      })
  loads n s id x w r fits =
      stays n s (record { words = set s.words x (slice_index s.words x); homes = s.homes; views = set s.views id w }) r
      (set-get_or s.words x 0) (fit_set r.history r.at s.views id w fits (λ j v _ old. r.views j v old))

  pub first_keeps : (n : ℕ) → n ≤ c.most
      → KeepsRule c n (opening {S = S} (replicate n (c.word_of c.blank)) [] (first_view n))
  first_keeps n few = record {
    history = [];
    at = 0;
    few = few;
    tables = sound.first n;
    words = blank_words c n;
    views = first_fits;
  }
    where
      first_fits : AllFit {A = A} [] 0 (first_view n ∷ [])
      first_fits zero v e = subst (ViewFits [] 0 0) (some-injective (first_view n) v e)
          (record { begins = ([], refl); met = ([], refl); writer = λ _. (refl, refl) })
      first_fits (suc j) v e = absurd (some-ne-none v (sym e))

  looks : (slots id : ℕ) (me : Me S (View A)) (x : ℕ) → x < me.0.nodes
      → Allows {S = S} (KeepsRule c me.0.nodes) slots id me x (λ word. word) (looked c (step slots x 0 0 none) me)
  looks slots id me x inside s r _ here _ =
      let n : ℕ = me.0.nodes in
      let table : List A = table_of c n r.history in
      let mine = r.views id me.0 here in
      let low : x < length table = omega (arith, length_table c n r.history, inside) in
      let all = held c sound n r.history r.few r.tables in (
        record me.0 { known = r.history },
        keeps,
        tt,
        loads n s id x (record me.0 { known = r.history }) r (knows_all r.history r.at id me.0 mine),
        (
          refl,
          mine.begins,
          mine.met,
          λ works. sym (mine.writer works).1,
          r.tables,
          rw r.words (item_held c table x all low),
          rw r.words (word_held c table x all low),
          refl,
        ),
      )

  pub looks_at : (n slots id : ℕ) (me : Me S (View A)) (x : ℕ) → me.0.nodes ≡ n → x < n
      → Allows {S = S} (KeepsRule c n) slots id me x (λ word. word) (looked c (step slots x 0 0 none) me)
  looks_at n slots id me x nodes inside =
      subst (λ (k : ℕ). Allows {S = S} (KeepsRule c k) slots id me x (λ word. word)
      (looked c (step slots x 0 0 none) me))
      nodes (looks slots id me x (omega arith))

  writes : (slots id : ℕ) (me : Me S (View A)) (x : ℕ) (a : A) → me.0.writes ≡ true → x < me.0.nodes
      → c.IsTable me.0.nodes (set (table_of c me.0.nodes me.0.known) x a)
      → Allows {S = S} (KeepsRule c me.0.nodes) slots id me x (λ _. c.word_of a)
      (λ _. written c (step slots x (c.word_of a) 0 none) me (c.word_of a))
  writes slots id me x a works inside table s r _ here _ =
      let n : ℕ = me.0.nodes in
      let old : List A = table_of c n me.0.known in
      let mine = r.views id me.0 here in
      let known : me.0.known ≡ r.history = (mine.writer works).1 in
      let low : x < length old = omega (arith, length_table c n me.0.known, inside) in
      let set_here : slice_get (set old x a) x ≡ Some a =
      slice_get-get_or (set old x a) x a (omega (arith, low, length-set old x a))
      ∙ ap Some (get_or-set_same old x a a low) in
      let again : c.item_of (c.word_of a) ≡ a = sound.again n (set old x a) x a r.few table set_here in
      let p : Push A = push x (c.item_of (c.word_of a)) in
      let same : p ≡ push x a = ap (push x) again in
      let w : View A = record me.0 { known = me.0.known ++ p ∷ [] } in
      let begins : (k : List (Push A)) → StartsWith r.history k → StartsWith w.known k =
      λ k b. starts_more me.0.known k p (subst (λ (h : List (Push A)). StartsWith h k) (sym known) b) in
      let tables : IsHistory c n w.known =
      tables_more c n (blank c n) me.0.known p (subst (IsHistory c n) (sym known) r.tables)
      (subst (λ (q : Push A). c.IsTable n (set old q.node q.item)) (sym same) table) in
      let words : set s.words x (c.word_of a) ≡ map c.word_of (table_of c n w.known) =
      words_more c n me.0.known x a s.words
      (r.words ∙ ap (λ (h : List (Push A)). map c.word_of (table_of c n h)) (sym known))
      ∙ ap (λ (q : Push A). map c.word_of (table_of c n (me.0.known ++ q ∷ []))) (sym same) in
      let fits : ViewFits w.known r.at id w = record {
        begins = all_known w.known;
        met = begins me.0.met mine.met;
        writer = λ _. ((mine.writer works).0, refl);
      } in (
        w,
        keeps,
        tt,
        record {
          history = w.known;
          at = r.at;
          few = r.few;
          tables = tables;
          words = words;
          views = fit_set w.known r.at s.views id w fits (λ j v apart old. let f = r.views j v old in record {
            begins = begins v.known f.begins;
            met = begins v.met f.met;
            writer = λ other. absurd (apart ((f.writer other).0 ∙ sym (mine.writer works).0));
          });
        },
        (refl, after_append (blank c n) me.0.known (p ∷ []), tables, refl),
      )

  pub writes_at : (n slots id : ℕ) (me : Me S (View A)) (x : ℕ) (a : A) → me.0.nodes ≡ n → me.0.writes ≡ true → x < n
      → c.IsTable n (set (table_of c n me.0.known) x a)
      → Allows {S = S} (KeepsRule c n) slots id me x (λ _. c.word_of a)
      (λ _. written c (step slots x (c.word_of a) 0 none) me (c.word_of a))
  writes_at n slots id me x a nodes works inside table =
      subst (λ (k : ℕ). Allows {S = S} (KeepsRule c k) slots id me x (λ _. c.word_of a)
      (λ _. written c (step slots x (c.word_of a) 0 none) me (c.word_of a))) nodes
      (writes slots id me x a works (omega arith)
      (subst (λ (k : ℕ). c.IsTable k (set (table_of c k me.0.known) x a)) (sym nodes) table))

  pub splits : (n id : ℕ) (v : View A) → Splits {S = S} (KeepsRule c n) id v v (reader_view v)
  splits n id v s r here =
      let mine = r.views id v here in
      stays n s (record { words = s.words; homes = s.homes; views = set s.views id v ++ reader_view v ∷ [] }) r refl
      (fit_more r.history r.at (set s.views id v) (reader_view v)
      (fit_set r.history r.at s.views id v mine (λ j u _ old. r.views j u old))
      (λ j. reader_fits r.history r.at j (reader_view v) mine.begins refl refl))

  pub joins : (n id : ℕ) (v : View A) (other : ℕ) (w : View A)
      → Joins {S = S} (KeepsRule c n) id v other w (with_met v w) spent_view
  joins n id v other w s r here apart there =
      let mine = r.views id v here in
      let both = with_met v w in
      let was : get_elem? s.views other ≡ some w = ⊎_elim
      (λ (t : (other ≡ id) × (both ≡ w)). absurd (apart t.0))
      (λ (t : (other ≢ id) × (get_elem? s.views other ≡ some w)). t.1)
      (at_set s.views id other both w there) in
      let theirs = r.views other w was in
      let met : AllFit r.history r.at (set s.views id both) = fit_set r.history r.at s.views id both
      (record { begins = mine.begins; met = theirs.begins; writer = mine.writer }) (λ j u _ old. r.views j u old) in
      stays n s (record { words = s.words; homes = s.homes; views = set (set s.views id both) other spent_view }) r refl
      (fit_set r.history r.at (set s.views id both) other spent_view
      (reader_fits r.history r.at other spent_view (r.history, refl) refl refl) (λ j u _ old. met j u old))

-- what the steps of a seat at a table require

module _ {A : Type 0} (c : Codec A) {b : Bool} {n : ℕ} {t : Words A} {p : Seat (Unit {0}) (View A)}
    (place : IsSoundPlace c b n t p) where
  pub seat_loads : {x : ℕ} → x < n → (p.table_id ≡ t.shared.table_id) × (x < t.shared.table_id.words)
      × Allows (KeepsRule c t.shared.key) t.shared.table_id.slots p.id p.me x (λ word. word)
      (looked c (step t.shared.table_id.slots x 0 0 none) p.me)
  seat_loads {x} inside = (
    place.table,
    omega (arith, place.words, inside),
    looks_at c place.sound t.shared.key t.shared.table_id.slots p.id p.me x (place.nodes ∙ sym place.key)
        (omega (arith, place.key, inside)),
  )

  pub seat_splits : (p.table_id ≡ t.shared.table_id) × (0 < t.shared.table_id.words)
      × Splits {S = Unit {0}} (KeepsRule c t.shared.key) p.id p.me.0 p.me.0 (reader_view p.me.0)
  seat_splits = (
    place.table,
    omega (arith, place.words, place.some),
    splits c place.sound t.shared.key p.id p.me.0,
  )

-- The laws

module _ {A : Type 0} (c : Codec A) (sound : IsSound c) where
  pub steps_keep : (n : ℕ) → StepsKeepTheRule c n
  steps_keep n = record {
    load = looks_at c sound n;
    store = writes_at c sound n;
    adds = splits c sound n;
    meets = joins c sound n;
  }

  pub only_first : (n : ℕ) (words : List ℕ) → KeepsRule {S = Unit {0}} c n (opening words [] (first_view n))
      → words ≡ replicate n (c.word_of c.blank)
  only_first n words r =
      let none_yet : [] ≡ r.history = ((r.views 0 (first_view n) refl).writer refl).1 in
      r.words ∙ (ap (λ (h : List (Push A)). map c.word_of (table_of c n h)) (sym none_yet) ∙ sym (blank_words c n))

  pub explains : (n : ℕ) (s : State (Unit {0}) (View A)) (r : KeepsRule c n s) → Explains c n s r.history
  explains n s r = record {
    tables = r.tables;
    words = ap (map c.item_of) r.words ∙ table_held c (table_of c n r.history)
        (held c sound n r.history r.few r.tables);
    begins = λ j v at. (r.views j v at).begins;
    all = λ j v at writes. ((r.views j v at).writer writes).1;
  }

  pub table_now : (n : ℕ) (s : State (Unit {0}) (View A)) → KeepsRule c n s → c.IsTable n (map c.item_of s.words)
  table_now n s r = subst (c.IsTable n) (sym (explains n s r).words) (last_is_table c n r.history r.tables)

pub learned_is_read : {A : Type 0} (c : Codec A) → LearnedIsRead c
learned_is_read c past old known new x a learns read =
    starts_after new.known known.known past.known read.grows learns.learns
