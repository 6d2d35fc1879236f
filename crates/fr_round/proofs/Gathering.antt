-- The closing of a round.
use Rattle.std.proofs.Common.{◌≡◌, ◌≢◌, ℕ, zero, suc, ◌+◌, ◌<◌, ◌≤◌, true, List, [], ◌∷◌, ◌++◌, map, length, get_or}
use Rattle.std.proofs.Common.{set, refl, sym, ap, ◌∙◌, subst}
use Rattle.std.proofs.Common.{arith, append_assoc, append-nil, length-append, get_or-set_same, get_or-set_other}
use Rattle.std.proofs.Common.{ext_get_or, sum_by}
use mathlib.Core.List.{map-append}
use Rattle.std.proofs.lemmas.List.{length-map, nil_from_length}
use Rattle.std.proofs.lemmas.Simd.{map-map}
use Rattle.std.specs.List.{AllByRecursion as Each}
use mathlib.Core.Option.{some, some-ne-none, some-injective}
use mathlib.Core.Logic.{dite}
use native.Mathlib.Decide.{ℕ_discrete}
use lib.ListN.{get_elem?}
use Rattle.atomic_table.specs.Table.{Final, Seen, State}
use Rattle.fr_graph.specs.Counts.{AreLawful, links_at}
use Rattle.fr_core.proofs.Runs.{run_to}
use Rattle.fr_core.specs.History.{moment_of}
use Rattle.fr_core.specs.Runs.{IsRunTo}
use Rattle.fr_core.specs.declared.entry.Entry.{Entry}
use Rattle.fr_round.specs.declared.view.Setup.{Setup}
use Rattle.fr_round.specs.declared.view.View.{View}
use Rattle.fr_round.specs.Histories.{moment, AreApart}
use Rattle.fr_round.specs.Rule.{KeepsRule, IsTaken, with_taken}
use Rattle.fr_round.specs.Calls.{RoundSeat, IsSameSeat}
use Rattle.fr_round.specs.Knowledge.{Knowledge, OpenRound}
use Rattle.fr_round.specs.Closing.{Closes, IsPartOf, number_and_known, number_and_turns}
use Rattle.fr_round.proofs.StepsKeepTheRule.{each_weaker}
use Rattle.fr_round.proofs.Entries.{lawful_after}
use Rattle.fr_round.proofs.Totals.{all_handed_back}

-- so many workers were taken over
pub record IsPartGathered (p q : RoundSeat) (first turned : List (ℕ
    × ℕ)) (done rest all : List Knowledge) : Type 0 where
  pub parted : done ++ rest ≡ all
  pub seat : IsSameSeat p q
  pub taken : q.me.0 ≡ record p.me.0 { taken = p.me.0.taken ++ map number_and_known done }
  pub scores : turned ≡ first ++ map number_and_turns done

pub taking_none : (p : RoundSeat) (first : List (ℕ × ℕ)) (rest all : List Knowledge) → rest ≡ all
    → IsPartGathered p p first first [] rest all
taking_none p first rest all same = record {
  parted = same;
  seat = (refl, refl, refl);
  taken = λ i. record p.me.0 { taken = sym (append-nil p.me.0.taken) i };
  scores = sym (append-nil first);
}

snoc_map : {A B : Type 0} (f : A → B) (xs : List B) (ys : List A) (y : A)
    → (xs ++ map f ys) ++ f y ∷ [] ≡ xs ++ map f (ys ++ y ∷ [])
snoc_map f xs ys y = append_assoc xs (map f ys) (f y ∷ []) ∙ ap (λ l. xs ++ l) (sym (map-append f ys (y ∷ [])))

pub taking_more : (p q r : RoundSeat) (first turned turned' : List (ℕ × ℕ)) (done rest rest' all : List Knowledge)
    (x : Knowledge) (w : View) → IsPartGathered p q first turned done rest all → rest ≡ x ∷ rest'
    → IsSameSeat q r → r.me.0 ≡ with_taken q.me.0 w → (w.number, w.known) ≡ number_and_known x
    → turned' ≡ turned ++ number_and_turns x ∷ [] → IsPartGathered p r first turned' (done ++ x ∷ []) rest' all
taking_more p q r first turned turned' done rest rest' all x w t cut same new left score = record {
  parted = append_assoc done (x ∷ []) rest' ∙ (ap (λ l. done ++ l) (sym cut) ∙ t.parted);
  seat = (same.0 ∙ t.seat.0, same.1 ∙ t.seat.1, same.2 ∙ t.seat.2);
  taken = new ∙ (ap (λ (u : View). with_taken u w) t.taken
      ∙ (λ i. record p.me.0 {
        taken = ((λ j. (p.me.0.taken ++ map number_and_known done) ++ left j ∷ [])
            ∙ snoc_map number_and_known p.me.0.taken done x) i;
      }));
  scores = score ∙ (ap (λ l. l ++ number_and_turns x ∷ []) t.scores ∙ snoc_map number_and_turns first done x);
}

pub taking_room : (p q : RoundSeat) (first turned : List (ℕ × ℕ)) (done rest rest' all : List Knowledge) (x : Knowledge)
    → IsPartGathered p q first turned done rest all → rest ≡ x ∷ rest' → length turned < length first + length all
taking_room p q first turned done rest rest' all x t cut =
    let a : length turned ≡ length first + length done = ap (λ (l : List (ℕ × ℕ)). length l) t.scores
    ∙ (length-append first (map number_and_turns done)
    ∙ ap (λ (n : ℕ). length first + n) (length-map done number_and_turns)) in
    let b : length done + length rest ≡ length all =
    sym (length-append done rest) ∙ ap (λ (l : List Knowledge). length l) t.parted in
    let c : length rest ≡ suc (length rest') = ap (λ (l : List Knowledge). length l) cut in
    omega arith

pub each_in : {X : Type 0} (P : X → Type 0) (xs : List X) (x : X) (ys : List X) → Each P (xs ++ x ∷ ys) → P x
each_in P [] x ys a = a.0
each_in P (z ∷ xs) x ys a = each_in P xs x ys a.1

each_map : {X Y : Type 0} (P : Y → Type 0) (f : X → Y) (xs : List X) → Each P (map f xs) → Each (λ x. P (f x)) xs
each_map P f [] a = a
each_map P f (x ∷ xs) a = (a.0, each_map P f xs a.1)

-- behind the words of a state that the rule allows stands a run
pub some_run : {S : Type 0} (b : Setup) (s : State S View) (r : KeepsRule b s)
    → IsRunTo b.nodes b.dest b.links r.history s.words
some_run b s r =
    let at = lawful_after b r.history r.net r.run in
    let ends : moment b r.history ≡ moment_of b.links s.words =
    (λ i. record { links = (at.links ∙ ap (links_at b.links) (sym r.words)) i; counts = sym r.words i }) in
    run_to b.nodes b.dest b.links r.net r.history s.words r.run ends
    (subst (λ (l : List ℕ). AreLawful b.nodes b.dest b.links l) (sym r.words) at.lawful)

-- what the last state shows
pub closes : (r : OpenRound) (workers : List Knowledge) (words : List ℕ) (xs : List (Unit {0})) (id : ℕ) (v : View)
    (turned : List (ℕ × ℕ))
    → Final (Seen (KeepsRule {S = Unit {0}} r.setup) id v) words xs → v.closes ≡ true
    → v.taken ≡ map number_and_known workers → turned ≡ map number_and_turns workers → Closes r workers words turned
closes r workers words xs id v turned final closes' taken pairs =
    let s = final.0 in
    let k = final.1.0 in
    let mine = (k.views id v final.1.1).closing closes' in
    let all = each_map (IsTaken k.next k.seat_of id k.history) number_and_known workers
    (subst (λ l. Each (IsTaken k.next k.seat_of id k.history) l) taken mine.taken) in
    let run : IsRunTo r.setup.nodes r.setup.dest r.setup.links k.history words =
    subst (λ (l : List ℕ). IsRunTo r.setup.nodes r.setup.dest r.setup.links k.history l) final.2 (some_run r.setup s k)
    in
    let opened : Each (λ (e : Entry). e.worker < r.setup.workers) k.history =
    each_weaker (λ (e : Entry). e.worker < k.next) (λ (e : Entry). e.worker
    < r.setup.workers) (λ e lt. let m = k.most in omega arith) k.history k.given_out in
    let parts : Each (IsPartOf k.history) workers =
    each_weaker (λ (x : Knowledge). IsTaken k.next k.seat_of id k.history (number_and_known x)) (IsPartOf k.history)
    (λ x t. record { begins = t.begins; own = t.own }) workers all in
    let apart : AreApart (map (λ (x : Knowledge). x.number) workers) =
    subst AreApart (ap (map (λ (t : ℕ × List Entry). t.0)) taken
    ∙ map-map (λ (t : ℕ × List Entry). t.0) number_and_known workers) mine.apart in
    let numbered : Each (λ (x : Knowledge). x.number < r.setup.workers) workers =
    each_weaker (λ (x : Knowledge). IsTaken k.next k.seat_of id k.history (number_and_known x))
    (λ (x : Knowledge). x.number
    < r.setup.workers) (λ x t. let m = k.most in let l = t.numbered in omega arith) workers all in
    record {
      history = k.history;
      run = run;
      opened = opened;
      parts = parts;
      apart = apart;
      numbered = numbered;
      pairs = pairs;
      all_back =
          λ whole. ap (sum_by (λ (p : ℕ × ℕ). p.1)) pairs
          ∙ all_handed_back r.setup k.history words workers run opened parts apart numbered whole;
      state = s;
      ruled = k;
      same = refl;
      words = final.2;
    }

pub taking_all : (p q : RoundSeat) (first turned : List (ℕ × ℕ)) (done rest all : List Knowledge)
    → IsPartGathered p q first turned done rest all → length rest ≡ 0 → done ≡ all
taking_all p q first turned done rest all t none =
    sym (ap (λ l. done ++ l) (nil_from_length rest none) ∙ append-nil done) ∙ t.parted

at_get : (l : List ℕ) (i a : ℕ) → get_elem? l i ≡ some a → get_or l i 0 ≡ a
at_get [] i a e = absurd (some-ne-none a (sym e))
at_get (x ∷ xs) zero a e = some-injective x a e
at_get (x ∷ xs) (suc i) a e = at_get xs i a e

pub copied_more : (counts items : List ℕ) (i v : ℕ) → i < length counts → get_elem? items i ≡ some v
    → ((k : ℕ) → k < i → get_or counts k 0 ≡ get_or items k 0)
    → (k : ℕ) → k < i + 1 → get_or (set counts i v) k 0 ≡ get_or items k 0
copied_more counts items i v inside at same k below =
    dite (ℕ_discrete k i)
    (λ (e : k ≡ i). subst (λ (j : ℕ). get_or (set counts i v) j 0
    ≡ get_or items j 0) (sym e) (get_or-set_same counts i v 0 inside ∙ sym (at_get items i v at)))
    (λ (other : k ≢ i). get_or-set_other counts i k v 0 other ∙ same k (lower k i below other))
  where
    lower : (k i : ℕ) → k < i + 1 → k ≢ i → k < i
    lower k i h other = grind arith

pub copied_all : (counts items : List ℕ) (i : ℕ) → length items ≡ length counts → length counts ≤ i
    → ((k : ℕ) → k < i → get_or counts k 0 ≡ get_or items k 0) → counts ≡ items
copied_all counts items i long end same = ext_get_or 0 counts items (sym long) (λ k lt. same k (omega arith))
