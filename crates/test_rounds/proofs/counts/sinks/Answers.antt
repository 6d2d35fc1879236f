use Rattle.std.proofs.Common.{[], ap, arith, subst, sym, ◌∷◌, ◌++◌, ◌+◌, ◌<◌, ◌≡◌, ◌≤◌, ⊎_elim, List, ℕ, IsTrue}
use Rattle.std.specs.List.{All, Contains}
use Rattle.std.proofs.lemmas.List.Elements.{All-push, Contains-append_left, Contains-append_right}
use Rattle.std.proofs.lemmas.Bool.{cases_lt, false≢true}
use Rattle.fr_graph.proofs.Members.{Contains-head}
use Rattle.fr_graph.specs.Turn.{IsSink}
use Rattle.test_rounds.proofs.counts.sinks.Goals as goal
use Rattle.test_rounds.proofs.counts.sinks.Goals.{then-is_first_sink+in_ok-push, else-is_first_sink}

-- the nodes found are below n, and include each sink below x
abbrev HoldBelow : ℕ → List (ℕ × ℕ) → ℕ → List ℕ → Type 0
HoldBelow n links x found = All (λ (y : ℕ). y < n) found × ((y : ℕ) → y < x → IsSink links y → Contains found y)

hold_one_more : (n : ℕ) (links : List (ℕ × ℕ)) (x : ℕ) (found after : List ℕ) → HoldBelow n links x found → x < n
    → after ≡ found ++ x ∷ [] → HoldBelow n links (x + 1) after
hold_one_more n links x found after hold below is = rw is (
  All-push (λ (y : ℕ). y < n) found x hold.0 below,
  λ y less sink. ⊎_elim (λ l. Contains-append_left found (x ∷ []) y (hold.1 y l sink))
      (λ h. subst (Contains (found ++ x ∷ [])) (the_same y less h) (Contains-append_right found (x
      ∷ []) x (Contains-head x [])))
      (cases_lt y x),
)
  where
    the_same : (y : ℕ) → y < x + 1 → x ≤ y → x ≡ y
    the_same y less h = omega arith

hold_no_more : (n : ℕ) (links : List (ℕ × ℕ)) (x : ℕ) (found after : List ℕ) → HoldBelow n links x found
    → ¬ IsSink links x → after ≡ found → HoldBelow n links (x + 1) after
hold_no_more n links x found after hold no_sink is = rw is (
  hold.0,
  λ y less sink. ⊎_elim (λ l. hold.1 y l sink) (λ h. absurd (no_sink (subst (IsSink links) (the_same y less h) sink)))
      (cases_lt y x),
)
  where
    the_same : (y : ℕ) → y < x + 1 → x ≤ y → y ≡ x
    the_same y less h = omega arith

pub loop-x-preserved : goal.loop-x-preserved
loop-x-preserved c =
    let below : c.loop-x.x < c.args.net.now.nodes = omega (arith, c.loop-x-test.true, c.nodes-x-end.ensures.value) in
    let held : HoldBelow c.args.net.now.nodes c.args.net.now.links c.loop-x.x c.loop-x.sinks.items =
    (c.loop-x.invariant.nodes, c.loop-x.invariant.found) in
    let holds : HoldBelow c.args.net.now.nodes c.args.net.now.links (c.loop-x.x + 1) c.if-is_first_sink.sinks.items =
    elim c.if-is_first_sink.branch [
      | then-is_first_sink+in_ok-push w ↦
          hold_one_more c.args.net.now.nodes c.args.net.now.links c.loop-x.x c.loop-x.sinks.items
          c.if-is_first_sink.sinks.items
          held below (cc (w.sinks-is, w.in_ok-push.ensures.items))
      | else-is_first_sink w ↦
          hold_no_more c.args.net.now.nodes c.args.net.now.links c.loop-x.x c.loop-x.sinks.items
          c.if-is_first_sink.sinks.items held
          (λ sink. false≢true (subst IsTrue w.if-is_first_sink.false (c.is_first_sink.ensures.1 sink))) (cc w.sinks-is)
    ] in
    record { nodes = holds.0; found = holds.1 }
