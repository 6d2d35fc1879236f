-- Walks while the hops of one push order are pushed.
use Rattle.std.proofs.Common.{Contains, List, [], add-one, ap, arith, eqb, get_or, length}
use Rattle.std.proofs.Common.{subst, suc, sym, take, zero, ℕ, ◌++◌, ◌+◌, ◌-◌, ◌≤◌, ◌∙◌, ◌∷◌, ◌≡◌}
use Rattle.std.specs.List.{count_by}
use Rattle.std.proofs.lemmas.List.{take-map, take-take}
use Rattle.fr_tables.proofs.Pushing.{comes_twice}
use Rattle.fr_tables.specs.Pushes.{IsPushed, Moves, SendsOnPushed}
use Rattle.fr_tables.specs.Tables.{SendsOn}
use Rattle.fr_tables.specs.declared.hop.Hop.{Hop}
use Rattle.fr_tables.specs.declared.hop.Hop.TheVariants.{Here}
use Rattle.fr_shared.specs.declared.view.Push.{Push}
use Rattle.fr_shared.specs.Histories.{StartsWith, blank, push, table_after, table_of}
use Rattle.fr_shared.specs.HopLaws.{AreOfOneOrder}
use Rattle.fr_shared.specs.HopTables.{hop_codec, pushes_of}
use Rattle.fr_shared.specs.Reading.{GoesBy}
use Rattle.fr_shared.proofs.Histories.{after_append, first_known, goes_starts, last_is_table, starts_after, starts_long}
use Rattle.fr_shared.proofs.HopPushing.{first_closed, first_pushed, take_within}

take_longer : (a b : ℕ) (nodes : List ℕ) (x : ℕ) → a ≤ b → Contains (take a nodes) x → Contains (take b nodes) x
take_longer a b nodes x low found =
    take_within a (take b nodes) x (subst (λ (l : List ℕ). Contains l x) (sym (take-take a b nodes low)) found)

module _ {n : ℕ} {before : List (Push Hop)} {new : List Hop} {order : List ℕ} {first after : List (Push Hop)}
    (one : AreOfOneOrder n before new order first after) where
  -- the nodes of the order that are pushed in a history
  abbrev pushed : List (Push Hop) → List ℕ
  pushed h = take (length h - length before) order

  history_is : (h : List (Push Hop)) → StartsWith h before → StartsWith after h
      → h ≡ before ++ pushes_of new (pushed h)
  history_is h begins ends =
      first_known before (pushes_of new order) h after one.ends ends begins
      ∙ ap (λ (l : List (Push Hop)). before ++ l)
      (take-map (λ (x : ℕ). push x (get_or new x Here)) (length h - length before) order)

  -- in its table, x sends on as it does once these nodes are pushed
  sends_pushed : (h : List (Push Hop)) (x y : ℕ) → StartsWith h before → StartsWith after h
      → SendsOn (table_of hop_codec n h) x y
      → SendsOnPushed (table_of hop_codec n before) new (pushed h) x y
  sends_pushed h x y begins ends sends =
      let old : List Hop = table_of hop_codec n before in
      let long : length old ≡ length new =
      (last_is_table hop_codec n before one.tables).one_each ∙ sym one.new_table.one_each in
      let table : table_after old (pushes_of new (pushed h)) ≡ table_of hop_codec n h =
      sym (ap (table_of hop_codec n) (history_is h begins ends)
      ∙ after_append (blank hop_codec n) before (pushes_of new (pushed h))) in
      let is : IsPushed old new (pushed h) (table_of hop_codec n h) =
      subst (IsPushed old new (pushed h)) table
      (first_pushed old new order (length h - length before) long one.is_order) in
      record { pushed = λ found. sym (is.these x found) ∙ sends; other = λ out. sym (is.others x out) ∙ sends }

  -- the histories in which a walk read its hops; each extends the one before
  record IsMoved (known : List (Push Hop)) (x : ℕ) (ys : List ℕ) (histories : List (List (Push Hop))) : Type 0 where
    moves : Moves (table_of hop_codec n before) new (λ k. pushed (get_or histories k after)) x ys
    grows : (k : ℕ) → length (get_or histories k after) ≤ length (get_or histories (suc k) after)
    begins : length known ≤ length (get_or histories 0 after)

  grows_more : (h : List (Push Hop)) (hs : List (List (Push Hop))) → length h ≤ length (get_or hs 0 after)
      → ((k : ℕ) → length (get_or hs k after) ≤ length (get_or hs (suc k) after))
      → (k : ℕ) → length (get_or (h ∷ hs) k after) ≤ length (get_or (h ∷ hs) (suc k) after)
  grows_more h hs here more zero = here
  grows_more h hs here more (suc k) = more k

  moved : (known : List (Push Hop)) (x : ℕ) (ys : List ℕ) → StartsWith known before
      → GoesBy hop_codec n known x ys after
      → (hs : List (List (Push Hop))) × IsMoved known x ys hs
  moved known x [] begins goes =
      ([], record { moves = tt; grows = λ k. omega arith; begins = starts_long after known goes.0 })
  moved known x (y ∷ ys) begins goes =
      let h : List (Push Hop) = goes.0 in
      let from : StartsWith h before = starts_after h known before goes.1 begins in
      let (hs, more) = moved h y ys from goes.4 in (
        h ∷ hs,
        record {
          moves = (
            sends_pushed h x y from (goes_starts hop_codec n h y ys after goes.4) goes.3,
            subst (λ (f : ℕ → List ℕ). Moves (table_of hop_codec n before) new f y ys)
                (λ i k. pushed (get_or (h ∷ hs) (sym (add-one k) i) after)) more.moves,
          );
          grows = grows_more h hs more.begins more.grows;
          begins = starts_long h known goes.1;
        },
      )

  pub twice_at_most : (x : ℕ) (ys : List ℕ) (z : ℕ) → GoesBy hop_codec n first x ys after
      → count_by (eqb z) (x ∷ ys) ≤ 2
  twice_at_most x ys z goes =
      let old : List Hop = table_of hop_codec n before in
      let (hs, way) = moved first x ys one.begins goes in
      let old_free = (last_is_table hop_codec n before one.tables).loop_free in
      let longer : (k : ℕ) → length (get_or hs k after) ≤ length (get_or hs (k + 1) after) =
      λ k. subst (λ (m : ℕ). length (get_or hs k after) ≤ length (get_or hs m after)) (sym (add-one k)) (way.grows k) in
      comes_twice old new (λ k. pushed (get_or hs k after)) x ys z old_free one.new_table.loop_free
      (λ k. first_closed old new order (length (get_or hs k after) - length before) one.is_order)
      (λ k w found. take_longer (length (get_or hs k after) - length before)
      (length (get_or hs (k + 1) after) - length before) order w
      (let more = longer k in omega (arith, more)) found)
      way.moves
