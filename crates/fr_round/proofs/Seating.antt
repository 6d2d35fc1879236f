-- The opening seat gives out numbers, and a closing seat takes workers back.
use Rattle.std.proofs.Common.{◌≡◌, ◌≢◌, ◌⊎◌, ℕ, zero, suc, ◌+◌, ◌<◌, Bool, true, false, cond, eqb, List, [], ◌∷◌, ◌++◌}
use Rattle.std.proofs.Common.{map, length, set, replicate}
use Rattle.std.proofs.Common.{refl, sym, ap, ◌∙◌, subst, ⊎_elim, inl, inr, arith, eq-eqb, ne_eqb, length-set}
use Rattle.std.proofs.Common.{true≢false}
use Rattle.std.specs.List.{AllByRecursion as Each}
use Rattle.std.proofs.lemmas.List.{length-replicate}
use mathlib.Core.Option.{some, some-injective, some-ne-none}
use mathlib.Core.List.{map-append}
use mathlib.Core.Logic.{dite}
use native.Mathlib.Decide.{ℕ_discrete}
use lib.ListN.{get_elem?}
use Rattle.atomic_table.specs.Table.{State, opening, Splits, Joins, Enters}
use Rattle.atomic_table.proofs.Lists.{at_set}
use Rattle.fr_graph.specs.Links.{IsNet}
use Rattle.fr_core.specs.declared.entry.Entry.{Entry}
use Rattle.fr_round.specs.declared.view.Setup.{Setup}
use Rattle.fr_round.specs.declared.view.View.{View}
use Rattle.fr_core.specs.History.{part}
use Rattle.fr_round.specs.Histories.{AreApart}
use Rattle.fr_round.specs.Rule.{HasList, KeepsRule, ViewFits, IsTaken, opening_view, numbered_next, worker_view}
use Rattle.fr_round.specs.Rule.{closing_view, past_view, with_received, with_taken, spent_view}
use Rattle.fr_round.proofs.Entries.{part_same, zeros}
use Rattle.fr_round.proofs.StepsKeepTheRule.{each_append, each_mapped, each_snoc, each_weaker}

off : false ≡ true → ⊥
off e = true≢false (sym e)

at_end : {A : Type 0} (l : List A) (a b : A) (j : ℕ) → get_elem? (l ++ a ∷ []) j ≡ some b
    → (get_elem? l j ≡ some b) ⊎ ((j ≡ length l) × (a ≡ b))
at_end [] a b zero e = inr (refl, some-injective a b e)
at_end [] a b (suc j) e = absurd (some-ne-none b (sym e))
at_end (x ∷ xs) a b zero e = inl e
at_end (x ∷ xs) a b (suc j) e =
    ⊎_elim (λ here. inl here) (λ (t : (j ≡ length xs) × (a ≡ b)). inr (ap suc t.0, t.1)) (at_end xs a b j e)

-- a number that was not given out has no entries
none_of : (k : ℕ) (h : List Entry) → Each (λ (e : Entry). e.worker < k) h → part k h ≡ []
none_of k [] a = refl
none_of k (e ∷ es) a =
    let low : e.worker < k = a.0 in
    part_same k e es (λ (i : e.worker ≡ k). omega arith) ∙ none_of k es a.1

-- the seats by number, with one number at another place
abbrev moved : (ℕ → ℕ) → ℕ → ℕ → ℕ → ℕ
moved seat_of k j i = cond (eqb i k) j (seat_of i)

moved_here : (seat_of : ℕ → ℕ) (k j : ℕ) → moved seat_of k j k ≡ j
moved_here seat_of k j = ap (λ (b : Bool). cond b j (seat_of k)) (eq-eqb k k refl)

moved_else : (seat_of : ℕ → ℕ) (k j i : ℕ) → i ≢ k → moved seat_of k j i ≡ seat_of i
moved_else seat_of k j i other = ap (λ (b : Bool). cond b j (seat_of i)) (ne_eqb i k other)

pub apart_append : (ks js : List ℕ) → AreApart ks → AreApart js → Each (λ (k : ℕ). Each (λ (j : ℕ). j ≢ k) js) ks
    → AreApart (ks ++ js)
apart_append [] js a c other = c
apart_append (k ∷ ks) js a c other =
    (each_append (λ (j : ℕ). j ≢ k) ks js a.0 other.0, apart_append ks js a.1 c other.1)

module _ {S : Type 0} where
  pub first_keeps : (b : Setup) (xs : List S) → IsNet b.nodes b.links
      → HasList b [] (opening (replicate b.nodes 0) xs (opening_view b))
  first_keeps b xs net = (
    record {
      net = net;
      history = [];
      next = 0;
      seat_of = λ _. 0;
      at = 0;
      most = omega arith;
      run = tt;
      words = refl;
      given_out = tt;
      views = one;
    },
    refl,
  )
    where
      one : (j : ℕ) (v : View) → get_elem? (opening_view b ∷ []) j ≡ some v
          → ViewFits b 0 (λ _. 0) 0 [] (replicate b.nodes 0) j v
      one zero v e =
          subst (ViewFits b 0 (λ _. 0) 0 [] (replicate b.nodes 0) 0) (some-injective (opening_view b) v e) (record {
            begins = ([], refl);
            received = ([], refl);
            worker = λ works. absurd (off works);
            opening = λ _. record { setup = refl; here = refl; counts = refl };
            closing = λ closes. absurd (off closes);
          })
      one (suc j) v e = absurd (some-ne-none v (sym e))

  pub splits : (b : Setup) (list : List Entry) (id : ℕ) (v : View) → v.opens ≡ true → v.works ≡ false
      → v.closes ≡ false → v.next < b.workers
      → Splits {S = S} (HasList b list) id v (numbered_next v) (worker_view v)
  splits b list id v opens idle not_closing more s l here =
      let r = l.0 in
      let my = r.views id v here in
      let mine = my.opening opens in
      let last : ℕ = length s.views in
      let seat_of' = moved r.seat_of r.next last in
      let left = numbered_next v in
      let right = worker_view v in
      let long : length (set s.views id left) ≡ last = length-set s.views id left in (
        record {
          net = r.net;
          history = r.history;
          next = r.next + 1;
          seat_of = seat_of';
          at = r.at;
          most = let c = mine.counts in omega arith;
          run = r.run;
          words = r.words;
          given_out =
              each_weaker (λ (e : Entry). e.worker < r.next) (λ (e : Entry). e.worker < r.next
              + 1) (λ e lt. omega arith) r.history r.given_out;
          views = λ j u e. ⊎_elim
              (λ (old : get_elem? (set s.views id left) j ≡ some u). ⊎_elim
              (λ (t : (j ≡ id) × (left ≡ u)). subst
              (λ (p : ℕ × View). ViewFits b (r.next + 1) seat_of' r.at r.history s.words p.0 p.1) (λ i. (
                sym t.0 i,
                t.1 i,
              )) (record {
                begins = my.begins;
                received = my.received;
                worker = λ works. absurd (off (sym idle ∙ works));
                opening =
                    λ _. record { setup = mine.setup; here = mine.here; counts = ap (λ (k : ℕ). k + 1) mine.counts };
                closing = λ closes. absurd (off (sym not_closing ∙ closes));
              }))
              (λ (t : (j ≢ id) × (get_elem? s.views j ≡ some u)). let f = r.views j u t.1 in record {
                begins = f.begins;
                received = f.received;
                worker = λ works. let w = f.worker works in record {
                  setup = w.setup;
                  own = w.own;
                  below = w.below;
                  long = w.long;
                  numbered = let lt = w.numbered in omega arith;
                  placed =
                      moved_else r.seat_of r.next last u.number (λ (k : u.number
                      ≡ r.next). let lt = w.numbered in absurd (omega arith)) ∙ w.placed;
                  not_opening = w.not_opening;
                  not_closing = w.not_closing;
                };
                opening = λ opens'. let o = f.opening opens' in absurd (t.0 (o.here ∙ sym mine.here));
                closing = λ closes. let o = f.closing closes in record {
                  setup = o.setup;
                  apart = o.apart;
                  taken = each_weaker (IsTaken r.next r.seat_of j r.history) (IsTaken (r.next + 1) seat_of' j r.history)
                      (λ k was. record {
                        begins = was.begins;
                        own = was.own;
                        placed =
                            moved_else r.seat_of r.next last k.0 (λ (e : k.0
                            ≡ r.next). let lt = was.numbered in absurd (omega arith)) ∙ was.placed;
                        numbered = let lt = was.numbered in omega arith;
                      })
                      u.taken o.taken;
                };
              })
              (at_set s.views id j left u old))
              (λ (t : (j ≡ length (set s.views id left)) × (right ≡ u)). subst
              (λ (p : ℕ × View). ViewFits b (r.next + 1) seat_of' r.at r.history s.words p.0 p.1) (λ i. (
                sym t.0 i,
                t.1 i,
              )) (record {
                begins = (r.history, refl);
                received = (r.history, refl);
                worker = λ _. record {
                  setup = mine.setup;
                  own = ap (λ (k : ℕ). part k r.history) mine.counts ∙ none_of r.next r.history r.given_out;
                  below = λ y. let z = zeros v.setup.nodes y in omega arith;
                  long = length-replicate v.setup.nodes 0 ∙ ap (λ (z : Setup). z.nodes) mine.setup;
                  numbered = let c = mine.counts in omega arith;
                  placed = ap seat_of' mine.counts ∙ (moved_here r.seat_of r.next last ∙ sym long);
                  not_opening = refl;
                  not_closing = refl;
                };
                opening = λ bad. absurd (off bad);
                closing = λ bad. absurd (off bad);
              }))
              (at_end (set s.views id left) right u j e);
        },
        l.1,
      )

  -- the rule with other seats, which fit the same history
  abbrev with_views : (b : Setup) (s : State S View) (r : KeepsRule b s) (views : List View)
      → ((j : ℕ) (u : View) → get_elem? views j ≡ some u → ViewFits b r.next r.seat_of r.at r.history s.words j u)
      → KeepsRule b (record { words = s.words; homes = s.homes; views = views })
  with_views b s r views fits = record {
    net = r.net;
    history = r.history;
    next = r.next;
    seat_of = r.seat_of;
    at = r.at;
    most = r.most;
    run = r.run;
    words = r.words;
    given_out = r.given_out;
    views = fits;
  }

  -- what a worker knows gets a seat of its own
  pub hands_on : (b : Setup) (list : List Entry) (id : ℕ) (v : View)
      → Splits {S = S} (HasList b list) id v v (past_view v)
  hands_on b list id v s l here =
      let r = l.0 in
      let my = r.views id v here in (
        with_views b s r (set s.views id v ++ past_view v ∷ []) (λ j u e. ⊎_elim
            (λ (old : get_elem? (set s.views id v) j ≡ some u). ⊎_elim
            (λ (t : (j ≡ id) × (v ≡ u)). subst
            (λ (p : ℕ × View). ViewFits b r.next r.seat_of r.at r.history s.words p.0 p.1) (λ i. (sym t.0 i, t.1 i)) my)
            (λ (t : (j ≢ id) × (get_elem? s.views j ≡ some u)). r.views j u t.1)
            (at_set s.views id j v u old))
            (λ (t : (j ≡ length (set s.views id v)) × (past_view v ≡ u)).
            subst (λ (z : View). ViewFits b r.next r.seat_of r.at r.history s.words j z) t.1 (record {
              begins = my.begins;
              received = (r.history, refl);
              worker = λ bad. absurd (off bad);
              opening = λ bad. absurd (off bad);
              closing = λ bad. absurd (off bad);
            }))
            (at_end (set s.views id v) (past_view v) u j e)),
        l.1,
      )

  -- a seat takes in what another one knows
  pub receives : (b : Setup) (list : List Entry) (id : ℕ) (v : View) (other : ℕ) (w : View)
      → Joins {S = S} (HasList b list) id v other w (with_received v w) spent_view
  receives b list id v other w s l here apart there =
      let r = l.0 in
      let my = r.views id v here in
      let both = with_received v w in
      let was : get_elem? s.views other ≡ some w =
      ⊎_elim (λ (t : (other ≡ id) × (both ≡ w)). absurd (apart t.0))
      (λ (t : (other ≢ id) × (get_elem? s.views other ≡ some w)). t.1) (at_set s.views id other both w there) in (
        with_views b s r (set (set s.views id both) other spent_view) (λ j u e. ⊎_elim
            (λ (t : (j ≡ other)
            × (spent_view
            ≡ u)). subst (λ (z : View). ViewFits b r.next r.seat_of r.at r.history s.words j z) t.1 (record {
              begins = (r.history, refl);
              received = (r.history, refl);
              worker = λ bad. absurd (off bad);
              opening = λ bad. absurd (off bad);
              closing = λ bad. absurd (off bad);
            }))
            (λ (t : (j ≢ other) × (get_elem? (set s.views id both) j ≡ some u)). ⊎_elim
            (λ (q : (j ≡ id) × (both ≡ u)). subst
            (λ (p : ℕ
            × View). ViewFits b r.next r.seat_of r.at r.history s.words p.0 p.1) (λ i. (sym q.0 i, q.1 i)) (record {
              begins = my.begins;
              received = (r.views other w was).begins;
              worker = λ works. let m = my.worker works in record {
                setup = m.setup;
                own = m.own;
                below = m.below;
                long = m.long;
                numbered = m.numbered;
                placed = m.placed;
                not_opening = m.not_opening;
                not_closing = m.not_closing;
              };
              opening =
                  λ opens. let o = my.opening opens in record { setup = o.setup; here = o.here; counts = o.counts };
              closing =
                  λ closes. let o = my.closing closes in record { setup = o.setup; taken = o.taken; apart = o.apart };
            }))
            (λ (q : (j ≢ id) × (get_elem? s.views j ≡ some u)). r.views j u q.1)
            (at_set s.views id j both u t.1))
            (at_set (set s.views id both) other j spent_view u e)),
        l.1,
      )

  -- a closing seat comes
  pub enters : (b : Setup) (list : List Entry) (slots i : ℕ) (v : View) → v.setup ≡ b
      → Enters {S = S} (HasList b list) slots i (λ n w. w ≡ closing_view v.setup)
  enters b list slots i v setup s l _ _ = let r = l.0 in (
    closing_view v.setup,
    (
      with_views b s r (s.views ++ closing_view v.setup ∷ []) (λ j u e. ⊎_elim
          (λ (old : get_elem? s.views j ≡ some u). r.views j u old)
          (λ (t : (j ≡ length s.views)
          × (closing_view v.setup
          ≡ u)). subst (λ (z : View). ViewFits b r.next r.seat_of r.at r.history s.words j z) t.1 (record {
            begins = (r.history, refl);
            received = (r.history, refl);
            worker = λ bad. absurd (off bad);
            opening = λ bad. absurd (off bad);
            closing = λ _. record { setup = setup; taken = tt; apart = tt };
          }))
          (at_end s.views (closing_view v.setup) u j e)),
      l.1,
    ),
    refl,
  )

  pub joins : (b : Setup) (list : List Entry) (id : ℕ) (v : View) (other : ℕ) (w : View) → v.closes ≡ true
      → v.works ≡ false → v.opens ≡ false
      → w.works ≡ true → Joins {S = S} (HasList b list) id v other w (with_taken v w) spent_view
  joins b list id v other w closes idle not_opening works s l here apart there =
      let r = l.0 in
      let my = r.views id v here in
      let mine = my.closing closes in
      let both = with_taken v w in
      let was : get_elem? s.views other ≡ some w =
      ⊎_elim (λ (t : (other ≡ id) × (both ≡ w)). absurd (apart t.0))
      (λ (t : (other ≢ id) × (get_elem? s.views other ≡ some w)). t.1) (at_set s.views id other both w there) in
      let their = r.views other w was in
      let theirs = their.worker works in
      let other_seat : other ≢ id = apart in
      let seat_of' = moved r.seat_of w.number id in (
        record {
          net = r.net;
          history = r.history;
          next = r.next;
          seat_of = seat_of';
          at = r.at;
          most = r.most;
          run = r.run;
          words = r.words;
          given_out = r.given_out;
          views = λ j u e. ⊎_elim
              (λ (t : (j ≡ other) × (spent_view ≡ u)). subst
              (λ (p : ℕ
              × View). ViewFits b r.next seat_of' r.at r.history s.words p.0 p.1) (λ i. (sym t.0 i, t.1 i)) (record {
                begins = (r.history, refl);
                received = (r.history, refl);
                worker = λ bad. absurd (off bad);
                opening = λ bad. absurd (off bad);
                closing = λ bad. absurd (off bad);
              }))
              (λ (t : (j ≢ other) × (get_elem? (set s.views id both) j ≡ some u)). ⊎_elim
              (λ (q : (j ≡ id) × (both ≡ u)). subst
              (λ (p : ℕ
              × View). ViewFits b r.next seat_of' r.at r.history s.words p.0 p.1) (λ i. (sym q.0 i, q.1 i)) (record {
                begins = my.begins;
                received = my.received;
                worker = λ bad. absurd (off (sym idle ∙ bad));
                opening = λ bad. absurd (off (sym not_opening ∙ bad));
                closing = λ _. record {
                  setup = mine.setup;
                  apart =
                      subst AreApart (sym (map-append (λ (t : ℕ × List Entry). t.0) v.taken ((w.number, w.known) ∷ [])))
                      (apart_append (map (λ (t : ℕ × List Entry). t.0) v.taken) (w.number ∷ []) mine.apart (tt, tt)
                      (each_mapped (IsTaken r.next r.seat_of id r.history) (λ (k : ℕ). (w.number ≢ k)
                      × Unit {0}) (λ (t : ℕ × List Entry). t.0)
                      (λ t known. (
                        (λ e. other_seat (sym (sym known.placed ∙ (ap r.seat_of (sym e) ∙ theirs.placed)))),
                        tt,
                      )) v.taken mine.taken));
                  taken = each_snoc (IsTaken r.next seat_of' id r.history) v.taken (w.number, w.known)
                      (each_weaker (IsTaken r.next r.seat_of id r.history) (IsTaken r.next seat_of' id r.history)
                      (λ k known. record {
                        begins = known.begins;
                        own = known.own;
                        placed = dite (ℕ_discrete k.0 w.number)
                            (λ (same : k.0 ≡ w.number). ap seat_of' same ∙ moved_here r.seat_of w.number id)
                            (λ (differs : k.0 ≢ w.number). moved_else r.seat_of w.number id k.0 differs ∙ known.placed);
                        numbered = known.numbered;
                      })
                      v.taken mine.taken)
                      (record {
                        begins = their.begins;
                        own = theirs.own;
                        placed = moved_here r.seat_of w.number id;
                        numbered = theirs.numbered;
                      });
                };
              }))
              (λ (q : (j ≢ id) × (get_elem? s.views j ≡ some u)). let f = r.views j u q.1 in record {
                begins = f.begins;
                received = f.received;
                worker = λ works'. let x = f.worker works' in record {
                  setup = x.setup;
                  own = x.own;
                  below = x.below;
                  long = x.long;
                  numbered = x.numbered;
                  placed = moved_else r.seat_of w.number id u.number
                      (λ (k : u.number ≡ w.number). t.0 (sym x.placed ∙ (ap r.seat_of k ∙ theirs.placed))) ∙ x.placed;
                  not_opening = x.not_opening;
                  not_closing = x.not_closing;
                };
                opening =
                    λ opens'. let o = f.opening opens' in record { setup = o.setup; here = o.here; counts = o.counts };
                closing = λ closes'. let o = f.closing closes' in record {
                  setup = o.setup;
                  apart = o.apart;
                  taken = each_weaker (IsTaken r.next r.seat_of j r.history) (IsTaken r.next seat_of' j r.history)
                      (λ k known. record {
                        begins = known.begins;
                        own = known.own;
                        placed = moved_else r.seat_of w.number id k.0
                            (λ (e : k.0 ≡ w.number). t.0 (sym known.placed ∙ (ap r.seat_of e ∙ theirs.placed)))
                            ∙ known.placed;
                        numbered = known.numbered;
                      })
                      u.taken o.taken;
                };
              })
              (at_set s.views id j both u t.1))
              (at_set (set s.views id both) other j spent_view u e);
        },
        l.1,
      )

-- what keeps each list of calls keeps the rule
module _ {S : Type 0} (b : Setup) where
  pub kept_split : (id : ℕ) (v left right : View)
      → ((list : List Entry) → Splits {S = S} (HasList b list) id v left right)
      → Splits {S = S} (KeepsRule b) id v left right
  kept_split id v left right f s r here = (f r.history s (r, refl) here).0

  pub kept_join : (id : ℕ) (v : View) (other : ℕ) (w both spent : View)
      → ((list : List Entry) → Joins {S = S} (HasList b list) id v other w both spent)
      → Joins {S = S} (KeepsRule b) id v other w both spent
  kept_join id v other w both spent f s r here apart there = (f r.history s (r, refl) here apart there).0

  pub kept_enter : (slots i : ℕ) (tells : ℕ → View → Type 0)
      → ((list : List Entry) → Enters {S = S} (HasList b list) slots i tells)
      → Enters {S = S} (KeepsRule b) slots i tells
  kept_enter slots i tells f s r homes fits = let t = f r.history s (r, refl) homes fits in (t.0, t.1.0, t.2)
