-- Walks hop by hop, while hops are pushed.
use Rattle.std.proofs.Common.{List, Some, [], ap, arith, length, refl, set, slice_get, subst, sym, take}
use Rattle.std.proofs.Common.{ℕ}
use Rattle.std.proofs.Common.{◌++◌, ◌+◌, ◌<◌, ◌≤◌, ◌∙◌, ◌∷◌, ◌≡◌}
use Rattle.std.proofs.lemmas.List.{take_more_set}
use Rattle.fr_tables.specs.Tables.{SendsOn, end_of}
use Rattle.fr_tables.specs.declared.hop.Hop.{Hop}
use Rattle.fr_tables.specs.declared.hop.Hop.TheVariants.{CutOff, Here, To}
use Rattle.fr_shared.specs.declared.view.Push.{Push}
use Rattle.fr_shared.specs.declared.hops.walks.Walk.{Walk}
use Rattle.fr_shared.specs.declared.hops.walks.WalkEnd.TheVariants.{Longer}
use Rattle.fr_shared.specs.Histories.{IsHistory, StartsWith, table_of}
use Rattle.fr_shared.specs.HopWalks.{HasWalked, IsEnd, end_by}
use Rattle.fr_shared.specs.HopTables.{hop_codec, last_hops}
use Rattle.fr_shared.specs.Knowledge.{Knowledge}
use Rattle.fr_shared.specs.Reading.{GoesBy, HasRead}
use Rattle.fr_shared.proofs.Histories.{all_known, last_is_table, starts_after}

-- the last node sends on to one more
goes_more : (n : ℕ) (known : List (Push Hop)) (x : ℕ) (ys : List ℕ) (after : List (Push Hop)) (y : ℕ)
    → GoesBy hop_codec n known x ys after
    → SendsOn (table_of hop_codec n after) (end_of x ys) y → GoesBy hop_codec n known x (ys ++ y ∷ []) after
goes_more n known x [] after y goes sends = (after, goes.0, goes.1, sends, (all_known after, goes.1))
goes_more n known x (z ∷ zs) after y goes sends =
    (goes.0, goes.1, goes.2, goes.3, goes_more n goes.0 z zs after y goes.4 sends)

-- the last node is read again, in a later table
goes_on : (n : ℕ) (known : List (Push Hop)) (x : ℕ) (ys : List ℕ) (mid after : List (Push Hop))
    → GoesBy hop_codec n known x ys mid
    → StartsWith after mid → IsHistory hop_codec n after → GoesBy hop_codec n known x ys after
goes_on n known x [] mid after goes on are = (starts_after after mid known on goes.0, are)
goes_on n known x (z ∷ zs) mid after goes on are =
    (goes.0, goes.1, goes.2, goes.3, goes_on n goes.0 z zs mid after goes.4 on are)

end_of-push : (x : ℕ) (ys : List ℕ) (y : ℕ) → end_of x (ys ++ y ∷ []) ≡ y
end_of-push x [] y = refl
end_of-push x (z ∷ zs) y = end_of-push z zs y

-- a walk of so many nodes, which are at the front of `room`; the last one has this hop
pub record IsUnderWay (old now : Knowledge Hop) (x : ℕ) (room : List ℕ) (count : ℕ) (hop : Hop) : Type 0 where
  pub same : now ≡ record old { known = now.known }
  pub grows : StartsWith now.known old.known
  pub goes : GoesBy hop_codec old.nodes old.known x (take count room) now.known
  pub loop_free : IsHistory hop_codec old.nodes now.known
  pub read : slice_get (table_of hop_codec old.nodes now.known) (end_of x (take count room)) ≡ Some hop

same_nodes : (old now : Knowledge Hop) → now ≡ record old { known = now.known } → now.nodes ≡ old.nodes
same_nodes old now same = ap (λ (k : Knowledge Hop). k.nodes) same

pub walk_begins : {old now : Knowledge Hop} {x : ℕ} {hop : Hop} (room : List ℕ) → HasRead hop_codec old now x hop
    → IsUnderWay old now x room 0 hop
walk_begins {old} {now} {x} {hop} room read =
    let nodes = same_nodes old now read.same in
    let are : IsHistory hop_codec old.nodes now.known =
    subst (λ (n : ℕ). IsHistory hop_codec n now.known) nodes read.loop_free in
    record {
      same = read.same;
      grows = read.grows;
      goes = (read.grows, are);
      loop_free = are;
      read = subst (λ (n : ℕ). slice_get (table_of hop_codec n now.known) x ≡ Some hop) nodes read.answer;
    }

module _ {old now : Knowledge Hop} {x count : ℕ} {room : List ℕ} {hop : Hop} (way : IsUnderWay old now x room count hop)
  where
    -- the next node is in the table
    pub next_inside : {y : ℕ} → hop ≡ To y → y < now.nodes
    next_inside {y} is =
        let last = last_is_table hop_codec old.nodes now.known way.loop_free in
        let low = last.in_range (end_of x (take count room)) y (way.read ∙ ap Some is) in
        omega (arith, low, last.one_each, same_nodes old now way.same)

    pub walk_goes_on : {after : Knowledge Hop} {y : ℕ} {next : Hop} → hop ≡ To y → count < length room
        → HasRead hop_codec now after y next
        → IsUnderWay old after x (set room count y) (count + 1) next
    walk_goes_on {after} {y} {next} is low read =
        let same : after ≡ record old { known = after.known } =
        read.same ∙ ap (λ (k : Knowledge Hop). record k { known = after.known }) way.same in
        let nodes = same_nodes old after same in
        let are : IsHistory hop_codec old.nodes after.known =
        subst (λ (n : ℕ). IsHistory hop_codec n after.known) nodes read.loop_free in
        let sends : SendsOn (table_of hop_codec old.nodes now.known) (end_of x (take count room)) y =
        way.read ∙ ap Some is in
        let longer : GoesBy hop_codec old.nodes old.known x (take count room ++ y ∷ []) now.known =
        goes_more old.nodes old.known x (take count room) now.known y way.goes sends in
        let front : take (count + 1) (set room count y) ≡ take count room ++ y ∷ [] = take_more_set room count y low in
        let answer : slice_get (table_of hop_codec old.nodes after.known) y ≡ Some next =
        subst (λ (n : ℕ). slice_get (table_of hop_codec n after.known) y ≡ Some next) nodes read.answer in
        record {
          same = same;
          grows = starts_after after.known now.known old.known read.grows way.grows;
          goes = rw front
              (goes_on old.nodes old.known x (take count room ++ y ∷ []) now.known after.known longer read.grows are);
          loop_free = are;
          read = rw (front, end_of-push x (take count room) y) answer;
        }

-- what the last load found ends the walk
is_end : (table : List Hop) (x : ℕ) (hop : Hop) → slice_get table x ≡ Some hop → IsEnd (end_by hop) table x
is_end table x Here is = is
is_end table x (To y) is = (y, is)
is_end table x CutOff is = is

pub not_longer : (hop : Hop) → ((y : ℕ) → ¬ (hop ≡ To y)) → ¬ (end_by hop ≡ Longer)
not_longer Here rests is = cc
not_longer (To y) rests is = rests y refl
not_longer CutOff rests is = cc

pub walk_ends : {old now : Knowledge Hop} {x count : ℕ} {room : List ℕ} {hop : Hop} (walk : Walk)
    → IsUnderWay old now x room count hop → walk.count ≡ count → walk.end ≡ end_by hop → count ≤ length room
    → (walk.end ≡ Longer → count ≡ length room) → HasWalked old now x room walk
walk_ends {old} {now} {x} {count} {room} {hop} walk way counted end low full =
    let read : slice_get (last_hops now) (end_of x (take count room)) ≡ Some hop =
    subst (λ (n : ℕ). slice_get (table_of hop_codec n now.known) (end_of x (take count room)) ≡ Some hop)
    (sym (same_nodes old now way.same)) way.read in
    record {
      few = omega (arith, counted, low);
      goes = rw counted way.goes;
      ends = rw (counted, end) (is_end (last_hops now) (end_of x (take count room)) hop read);
      full = λ longer. counted ∙ full longer;
    }
