-- The tables of routers never have a loop.
use Rattle.std.proofs.Common.{Bool, Contains, List, [], ap, arith, false, inl, inr, refl, subst, sym, true, ℕ, ⊎_elim}
use Rattle.std.proofs.Common.{◌∷◌, ◌≡◌, ◌≤◌, ◌∙◌}
use Rattle.fr_node.specs.declared.message.Message.{Message}
use Rattle.fr_node.specs.Routers.{GoesOn, IsBelow, IsSaidBy, Net, Router}
use Rattle.fr_node.specs.Tables.{Forwarder, HasNoTableLoop, IsMet, IsPlaneRun, IsPlaneStart, IsPlaneStep, IsTableWalk}
use Rattle.fr_node.specs.Tables.{Plane, TablesHaveNoLoop, last_plane}
use Rattle.fr_node.proofs.Going.{goes_nowhere}
use Rattle.fr_node.proofs.Rule.{KeepsRule, at_start, step_kept}
use Rattle.fr_node.proofs.Descent.{below_after, heard_is_met}
use Rattle.fr_node.proofs.Forwarders.{Advances, Holds, IsBetween, IsSafe, advances, only}
use Rattle.fr_node.proofs.Walks.{no_return}

-- the bases and the messages are a network that keeps the rule of routers
pub record IsBacked (s : Plane Router) : Type 0 where
  base : ℕ → Router
  rule : KeepsRule (record { router = base; pool = s.pool })
  holds : (y : ℕ) → Holds s.pool y (base y) (s.forwarder y)

pub backed_start : (s : Plane Router) → IsPlaneStart s → IsBacked s
backed_start s b = record {
  base = λ y. (s.forwarder y).state;
  rule = at_start (record { router = λ y. (s.forwarder y).state; pool = s.pool })
      (record { silent = b.silent.pool; peer = b.peer; heard = b.heard; acked = b.acked });
  holds = λ y. record {
    said = λ t. refl;
    now = inl (goes_nowhere s.pool y (s.forwarder y).state);
    since = λ r at. inl (subst (λ (q : Router). GoesOn s.pool y (s.forwarder y).state q)
        (only (s.forwarder y).state r (subst (λ rs. Contains rs r) (b.silent.since y) at))
        (goes_nowhere s.pool y (s.forwarder y).state));
    table = inl (λ w t. false_true (sym (b.silent.ways y w) ∙ t));
  };
}
  where
    false_true : false ≡ true → ⊥
    false_true e = cc

pub backed_step : (s t : Plane Router) → IsBacked s → IsPlaneStep s t → IsBacked t
backed_step s t b step = record {
  base = λ y. (moved y).next;
  rule = step_kept (net (λ y. (moved y).mid) t.pool) (net (λ y. (moved y).next) t.pool)
      (step_kept (net b.base s.pool) (net (λ y. (moved y).mid) t.pool) b.rule (record {
        routers = λ y. (moved y).first;
        kept = step.kept;
        new = λ m at. ⊎_elim (λ old. inl old) (λ e. inr (subst (λ r. IsSaidBy r m) ((b.holds m.from).said e.0) e.1))
            (step.new m at);
      })) (record { routers = λ y. inl (moved y).second; kept = λ m at. at; new = λ m at. inl at });
  holds = λ y. (moved y).holds;
}
  where
    net : (ℕ → Router) → List Message → Net
    net router pool = record { router = router; pool = pool }

    moved : (y : ℕ) → Advances s.pool t.pool y (b.base y) (t.forwarder y)
    moved y = advances s.pool t.pool step.kept y (b.base y) (s.forwarder y) (t.forwarder y) (b.holds y)
        (λ m at to. omega (arith, (b.rule.boots m at).1, ap (λ (y : ℕ). (b.base y).boot) to)) (step.moves y)

backed_run : (s : Plane Router) (ts : List (Plane Router)) → IsBacked s → IsPlaneRun IsPlaneStep s ts
    → IsBacked (last_plane s ts)
backed_run s [] b run = b
backed_run s (t ∷ ts) b run = backed_run t ts (backed_step s t b run.0) run.1

-- the height of a table: 0 if it has no ways or no gates
top_of : (pool : List Message) (y : ℕ) (base : Router) (f : Forwarder Router) → IsSafe pool y base f → ℕ
top_of pool y base f (inl none) = 0
top_of pool y base f (inr (inl none)) = 0
top_of pool y base f (inr (inr between)) = between.top

-- a table with a way and a gate is between them
between : (pool : List Message) (y : ℕ) (base : Router) (f : Forwarder Router) (safe : IsSafe pool y base f) (a b : ℕ)
    → f.gates a ≡ true → f.ways b ≡ true → (is : IsBetween pool y base f) × (is.top ≡ top_of pool y base f safe)
unfolding top_of
between pool y base f (inl none) a b gate way = absurd (none b way)
between pool y base f (inr (inl none)) a b gate way = absurd (none a gate)
between pool y base f (inr (inr is)) a b gate way = (is, refl)

below_before : (a w b c x : ℕ) → IsBelow a w b x → b ≤ c → IsBelow a w c x
below_before a w b c x (inl l) least = inl (omega (arith, l, least))
below_before a w b c x (inr e) least = grind (arith, e, least)

pub loop_free : (s : Plane Router) → IsBacked s → HasNoTableLoop s
loop_free s b = no_return (IsMet ways gates) (IsTableWalk ways gates) (λ u v vs walk. walk) top down
  where
    ways : ℕ → ℕ → Bool
    ways y = (s.forwarder y).ways

    gates : ℕ → ℕ → Bool
    gates y = (s.forwarder y).gates

    top : ℕ → ℕ
    top y = top_of s.pool y (b.base y) (s.forwarder y) (b.holds y).table

    down : (a x w c : ℕ) → IsMet ways gates a x → IsMet ways gates x w → IsMet ways gates w c
        → IsBelow (top w) w (top x) x
    down a x w c to link on =
        let upper = between s.pool x (b.base x) (s.forwarder x) (b.holds x).table a w to.gate link.way in
        let lower = between s.pool w (b.base w) (s.forwarder w) (b.holds w).table x c link.gate on.way in
        let way = upper.0.ways w link.way in
        let gate = lower.0.gates x link.gate in
        let met = heard_is_met (record { router = b.base; pool = s.pool }) b.rule x w way.state gate.state way.goes
        gate.goes way.way.known gate.gate in
        below_before (top w) w way.state.height (top x) x
        (below_after (top w) (way.state.seen w) w way.state.height x (omega (arith, lower.1, gate.high, met))
        way.way.below)
        (omega (arith, upper.1, way.low))

pub tables_have_no_loop : TablesHaveNoLoop
tables_have_no_loop s ts begins run = loop_free (last_plane s ts) (backed_run s ts (backed_start s begins) run)
