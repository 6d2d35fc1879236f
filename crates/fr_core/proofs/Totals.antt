-- Settled counts have no gap, so that their sum is bounded by the number of bad nodes.
use Rattle.std.proofs.Common.{Bool, List, [], ap, arith, count_by, false, inr, length, map, mul-le-mul, refl}
use Rattle.std.proofs.Common.{slice_index, slice_set, sum, suc, sym, true, zero, ℕ, ⊎_elim, ◌*◌, ◌+◌, ◌-◌, ◌<◌, ◌==◌}
use Rattle.std.proofs.Common.{◌↔◌, ◌∙◌, ◌≡◌, ◌≤◌, IsTrue}
use Rattle.std.proofs.Math.Nat.{add-mul, mul_comm}
use Rattle.std.proofs.lemmas.Bool.{cases_lt, false≢true}
use Rattle.std.proofs.lemmas.Bool.Decides.{Decides-eqb, Decides-not}
use Rattle.std.proofs.lemmas.List.{get_or-map, get_or_past, length-map, length-set}
use Rattle.std.proofs.lemmas.List.FromFn.{fill_by_all}
use Rattle.std.proofs.lemmas.List.Sums.{count_by-le-length, sum_by-set}
use Rattle.std.specs.List.{range_with_len}
use Rattle.fr_core.proofs.Finishing.{settled_exists}
use Rattle.fr_core.proofs.Joining.{joined_from_counts, walk_linked}
use Rattle.fr_core.proofs.Paths.{path_gives_zero, zero_gives_path}
use Rattle.fr_core.proofs.Runs.{run_sum}
use Rattle.fr_core.proofs.SettledRuns.{run_to_settled}
use Rattle.fr_core.proofs.Settling.{cases_linked, walk_takes}
use Rattle.fr_core.proofs.Turning.{run_keeps}
use Rattle.fr_core.proofs.Unique.{cap_from_not_joined, joined_count_below, not_joined_from_cap}
use Rattle.fr_core.proofs.Unique.{settled_climbs, settled_destination, settled_lawful}
use Rattle.fr_core.specs.History.{after_all, moment_of, turn_count}
use Rattle.fr_core.specs.Legal.{IsRun}
use Rattle.fr_core.specs.Settled.{AreSettled}
use Rattle.fr_core.specs.Walks.{IsConnected}
use Rattle.fr_core.specs.declared.entry.Entry.{Entry}
use Rattle.fr_graph.proofs.Counting.{count-range_agree, count_by-map, none_pass}
use Rattle.fr_graph.proofs.Linking.{joined_below}
use Rattle.fr_graph.specs.Counts.{AreLawful}
use Rattle.fr_graph.specs.Links.{HasPath, IsAlone, IsNet, Joins}
use Rattle.fr_core.proofs.Gaps.{AreFew, HasNoGap, few_without_gap, is_some, split_counts, split_sum, weight}
use Rattle.fr_core.proofs.Gaps.{uncap, uncap-n, uncap-other}
use Rattle.fr_core.specs.Work.{AreCounted, IsNumberOf, IsBad, IsConnectedNet, IsStranded, IsWithinWork}

same_bool : (a b : Bool) → (IsTrue a ↔ IsTrue b) → a ≡ b
same_bool true true e = refl
same_bool true false e = sym (e.0 refl)
same_bool false true e = e.1 refl
same_bool false false e = refl

-- there are no two numbers of one kind
many_unique : (n : ℕ) (P : ℕ → Type 0) (k l : ℕ) → IsNumberOf n P k → IsNumberOf n P l → k ≡ l
many_unique n P k l a b =
    let same : (x : ℕ) → x < 0 + n → a.test x ≡ b.test x =
    λ x low.
    let below : x < n = omega arith in
    let here = a.just x below in
    let there = b.just x below in
    same_bool (a.test x) (b.test x) ((λ e. there.1 (here.0 e)), (λ e. here.1 (there.0 e))) in
    a.number ∙ (count-range_agree a.test b.test 0 n same ∙ sym b.number)

count_listed : (p : ℕ → Bool) (xs : List ℕ) (n : ℕ) → length xs ≡ n
    → count_by p xs ≡ count_by (λ x. p (slice_index xs x)) (range_with_len 0 n)
count_listed p xs n long =
    let at : ℕ → ℕ = λ x. slice_index xs x in
    ap (count_by p) (fill_by_all at xs n 0 long (λ k l. refl)) ∙ count_by-map p at (range_with_len 0 n)

-- b and c are n - 1 at most together
both_below : (b c n : ℕ) → b + c < n → b * (b + 1) + 2 * (c * n) ≤ 2 * (n * (n - 1))
both_below b c n l =
    let up : b * (b + 1) ≤ b * n =
    mul-le-mul {n₁ = b} {m₁ = b + 1} {n₂ = b} {m₂ = n} (omega arith) (omega (arith, l)) in
    let both : (b + c) * n ≤ (n - 1) * n =
    mul-le-mul {n₁ = b + c} {m₁ = n} {n₂ = n - 1} {m₂ = n} (omega (arith, l)) (omega arith) in
    omega (arith, up, both, add-mul b c n, mul_comm (n - 1) n)

module _ (n d : ℕ) (first : List (ℕ × ℕ)) (net : IsNet n first) (below : d < n) (c : List ℕ)
    (settled : AreSettled n d first c) where
  at_destination : slice_index c d ≡ 0
  at_destination = settled_destination n d first net below c settled

  lawful : AreLawful n d first c
  lawful = settled_lawful n d first net below c settled

  high : (x : ℕ) → IsConnected first d x → slice_index c x < n
  high x joined = joined_count_below n d first net below c settled x joined

  -- a node with a count from 1 to n - 1 is connected to the destination
  joined_by_count : (x : ℕ) → ¬ (slice_index c x ≡ 0) → slice_index c x < n → IsConnected first d x
  joined_by_count x some l = ⊎_elim
      (λ linked. joined_from_counts n d first net below c settled x (inr (linked, l)))
      (λ alone. absurd (some (lawful.alone x alone)))
      (cases_linked first x)

  pub level_below : (x k : ℕ) → IsConnected first d x → slice_index c x ≡ k + 1
      → (y : ℕ) × (y < n) × IsConnected first d y × (slice_index c y ≡ k)
  level_below x zero joined e = (d, below, (0, ([], (refl, refl))), at_destination)
  level_below x (suc k) joined e =
      let climbs = settled_climbs n d first net below c settled in
      let in_range : (u w : ℕ) → Joins first u w → u < n = λ u w h. (joined_below n first u w net h).0 in
      let at = walk_takes n first in_range c climbs d below joined.1.0 joined.0 x joined.1.1 (suc k)
      (omega (arith, at_destination)) (omega (arith, e)) in
      (at.0, at.1, joined_by_count at.0 (λ z. omega (arith, z, at.2)) (omega (arith, e, at.2, high x joined)), at.2)

  -- a connected node with the count 0 has a path
  path_at_zero : (x : ℕ) → x < n → IsConnected first d x → slice_index c x ≡ 0 → HasPath first x d
  path_at_zero x l joined e = ⊎_elim
      (λ same. ([], (tt, same)))
      (λ linked.
      let not_alone : ¬ IsAlone first x = λ alone. alone linked.0 linked.1 in
      zero_gives_path n d first x (slice_index c x) l not_alone (settled.settled x l) e)
      (walk_linked first d joined.1.0 joined.0 x joined.1.1)

  -- the counts, with 0 in place of the cap
  low : List ℕ
  low = map (uncap n) c

  low_long : length low ≡ n
  unfolding low
  low_long = length-map c (uncap n) ∙ settled.one_each

  low_at : (x : ℕ) → x < n → slice_index low x ≡ uncap n (slice_index c x)
  unfolding low
  low_at x l = get_or-map (uncap n) c x 0 0 (omega (arith, l, settled.one_each))

  low_below : (x : ℕ) → x < n → slice_index c x < n → slice_index low x ≡ slice_index c x
  low_below x l under = low_at x l ∙ uncap-other n (slice_index c x) (λ e. omega (arith, e, under))

  below_cap : (x : ℕ) → x < n → ¬ (slice_index low x ≡ 0) → slice_index c x < n
  below_cap x l some =
      let ne : ¬ (slice_index c x ≡ n) = λ e. some (low_at x l ∙ uncap-n n (slice_index c x) e) in
      omega (arith, ne, lawful.capped x)

  joined_by_low : (x : ℕ) → x < n → ¬ (slice_index low x ≡ 0) → IsConnected first d x
  joined_by_low x l some =
      let under = below_cap x l some in
      joined_by_count x (λ e. some (low_below x l under ∙ e)) under

  bad_there : (x : ℕ) → x < n → IsTrue (is_some (slice_index low x)) ↔ IsBad d first x
  bad_there x l =
      let decides = Decides-not (slice_index low x == 0) (Decides-eqb (slice_index low x) 0) in (
        λ e.
            let some = decides.0 e in
            let same = low_below x l (below_cap x l some) in
            let zero_at = path_gives_zero n d first x (slice_index c x) (settled.settled x l) in
            (joined_by_low x l some, λ path. some (same ∙ zero_at path)),
        λ bad. decides.1 (λ e. bad.1 (path_at_zero x l bad.0 (sym (low_below x l (high x bad.0)) ∙ e))),
      )

  stranded_there : (x : ℕ) → x < n → IsTrue (slice_index c x == n) ↔ IsStranded d first x
  stranded_there x l =
      let decides = Decides-eqb (slice_index c x) n in (
        λ e.
            let cap = decides.0 e in
            let linked : ¬ IsAlone first x = λ alone. omega (arith, cap, lawful.alone x alone, below) in
            (linked, not_joined_from_cap n d first net below c settled x cap),
        λ stranded. decides.1 (cap_from_not_joined n d first net below c settled x l stranded.0 stranded.1),
      )

  bad_number : ℕ
  bad_number = count_by is_some low

  stranded_number : ℕ
  stranded_number = count_by (λ v. v == n) c

  counted : AreCounted n d first bad_number stranded_number
  unfolding bad_number stranded_number
  counted = record {
    bad = record {
      test = λ x. is_some (slice_index low x);
      just = bad_there;
      number = count_listed is_some low n low_long;
    };
    stranded = record {
      test = λ x. slice_index c x == n;
      just = stranded_there;
      number = count_listed (λ v. v == n) c n settled.one_each;
    };
  }

  -- the destination is neither
  counted_below : bad_number + stranded_number < n
  unfolding bad_number stranded_number low
  counted_below =
      let none : weight (slice_index c d) ≡ 0 = ap weight at_destination in
      let long = settled.one_each in
      omega (
        arith,
        none,
        sum_by-set weight c d 1 0 (omega (arith, below, long)),
        count_by-le-length is_some (slice_set c d 1),
        length-set c d 1,
        long,
        split_counts n (omega (arith, below)) c,
      )

  no_gap : HasNoGap low
  no_gap x k l e =
      let within : x < n = omega (arith, l, low_long) in
      let some : ¬ (slice_index low x ≡ 0) = λ z. omega (arith, z, e) in
      let same = low_below x within (below_cap x within some) in
      let under = level_below x k (joined_by_low x within some) (sym same ∙ e) in
      (under.0, omega (arith, under.1, low_long), low_below under.0 under.1 (high under.0 under.2) ∙ under.3)

  module _ (b k : ℕ) (are : AreCounted n d first b k) where
    few : AreFew b low
    unfolding bad_number
    few = few_without_gap b low no_gap (many_unique n (IsBad d first) bad_number b counted.bad are.bad)

    pub each_few : (x : ℕ) → IsConnected first d x → slice_index c x ≤ b
    each_few x joined = ⊎_elim
        (λ l. omega (arith, few.0 x (omega (arith, l, low_long)), low_below x l (high x joined)))
        (λ past. omega (arith, get_or_past c x 0 (omega (arith, past, settled.one_each))))
        (cases_lt x n)

    total_few : 2 * sum c ≤ b * (b + 1) + 2 * (k * n)
    unfolding stranded_number low
    total_few =
        let same : stranded_number * n ≡ k * n =
        ap (λ (m : ℕ). m * n) (many_unique n (IsStranded d first) stranded_number k counted.stranded are.stranded) in
        omega (arith, few.1, split_sum n c, same)

  -- these counts together are within the work of their first links
  pub settled_within : IsWithinWork n d first (sum c)
  settled_within = record {
    bad = bad_number;
    stranded = stranded_number;
    counted = counted;
    most = total_few bad_number stranded_number counted;
    below = omega (
      arith,
      total_few bad_number stranded_number counted,
      both_below bad_number stranded_number n counted_below,
    );
  }

-- a run adds up to no more than the settled counts
run_below : (n d : ℕ) (first : List (ℕ × ℕ)) (before settled : List ℕ) (h : List Entry) → IsNet n first → d < n
    → AreLawful n d first before → AreSettled n d first settled → IsRun n d (moment_of first before) h
    → sum before + turn_count h ≤ sum settled
run_below n d first before settled h net below lawful ends run =
    let at = run_keeps n d first net (moment_of first before) (record { links = refl; lawful = lawful }) h run in
    let adds = run_sum n d (moment_of first before) h lawful.one_each run in
    let after : List ℕ = (after_all (moment_of first before) h).counts in
    omega (arith, adds, (run_to_settled n d first after settled net below at.lawful ends).0)

-- b is at most n - 1
triangle_below : (b n : ℕ) → b < n → b * (b + 1) ≤ n * (n - 1)
triangle_below b n l =
    let up : b * (b + 1) ≤ (n - 1) * n =
    mul-le-mul {n₁ = b} {m₁ = b + 1} {n₂ = n - 1} {m₂ = n} (omega (arith, l)) (omega (arith, l)) in
    omega (arith, up, mul_comm (n - 1) n)

module _ (n d : ℕ) (first : List (ℕ × ℕ)) (net : IsNet n first) (below : d < n) where
  abbrev end : List ℕ
  end = (settled_exists n d first net below).0

  ends : AreSettled n d first end
  ends = (settled_exists n d first net below).1

  pub all_counted : (b c : ℕ) × AreCounted n d first b c × (b + c < n)
      × ((k l : ℕ) → AreCounted n d first k l → (k ≡ b) × (l ≡ c))
  all_counted =
      let b = bad_number n d first net below end ends in
      let c = stranded_number n d first net below end ends in
      let are = counted n d first net below end ends in (
        b,
        c,
        are,
        counted_below n d first net below end ends,
        λ k l others. (
          many_unique n (IsBad d first) k b others.bad are.bad,
          many_unique n (IsStranded d first) l c others.stranded are.stranded,
        ),
      )

  pub run_few : (before : List ℕ) (h : List Entry) (b c : ℕ) → AreCounted n d first b c → AreLawful n d first before
      → IsRun n d (moment_of first before) h → 2 * (sum before + turn_count h) ≤ b * (b + 1) + 2 * (c * n)
  run_few before h b c are lawful run =
      let most = total_few n d first net below end ends b c are in
      omega (arith, run_below n d first before end h net below lawful ends run, most)

-- no node of a connected network is cut off
pub none_stranded : (n d : ℕ) (first : List (ℕ × ℕ)) → IsConnectedNet n d first → IsNumberOf n (IsStranded d first) 0
none_stranded n d first whole = record {
  test = λ x. false;
  just = λ x l. ((λ e. absurd (false≢true e)), (λ stranded. absurd (stranded.1 (whole.joined x l))));
  number = sym (none_pass (λ x. false) (range_with_len 0 n) (λ j e l yes. false≢true yes));
}

pub connected_few : (n d : ℕ) (first : List (ℕ × ℕ)) (before : List ℕ) (h : List Entry) → IsConnectedNet n d first
    → AreLawful n d first before → IsRun n d (moment_of first before) h → 2 * (sum before + turn_count h) ≤ n * (n - 1)
connected_few n d first before h whole lawful run =
    let all = all_counted n d first whole.is_net whole.dest in
    let are : AreCounted n d first all.0 0 = record { bad = all.2.bad; stranded = none_stranded n d first whole } in
    omega (
      arith,
      run_few n d first whole.is_net whole.dest before h all.0 0 are lawful run,
      triangle_below all.0 n (omega (arith, all.3)),
    )
