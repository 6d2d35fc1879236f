-- What a neighbour has acknowledged it has heard, so that used links lead down.
use Rattle.std.proofs.Common.{IsTrue, List, [], arith, inl, inr, subst, sym, ℕ, ⊎_elim, ◌∷◌, ◌≡◌, ◌<◌, ◌≤◌, ◌⊎◌, ◌∙◌}
use Rattle.fr_node.proofs.Going.{goes_nowhere}
use Rattle.fr_node.proofs.Rule.{HasAnswer, HasHeard, KeepsRule, acked_on, at_start, heard_on, step_kept}
use Rattle.fr_node.proofs.Walks.{no_return}
use Rattle.fr_node.specs.Laws.{NeverALoop}
use Rattle.fr_node.specs.declared.message.Message.{Message}
use Rattle.fr_node.specs.Routers.{GoesOn, HasNoLoop, IsBelow, IsFrom, IsRun, IsUsed, IsWalk, LetsIn, Net, Router, last}

less_or_same : (a b : ℕ) → a ≤ b → (a < b) ⊎ (a ≡ b)
less_or_same a b l = grind (arith, l)

-- what the rule says of a message from router a to router b
record IsKept (s : Net) (a b : ℕ) (m : Message) : Type 0 where
  boots : (m.boot ≤ (s.router a).boot) × (m.echo ≤ (s.router b).boot)
  told : m.boot ≡ (s.router a).boot → m.echo ≡ (s.router a).peer b → m.heard ≤ (s.router a).heard b
  knew : m.boot ≡ (s.router a).boot → m.echo ≤ (s.router a).peer b
  numbers : m.boot ≡ (s.router a).boot
      → (m.number ≤ (s.router a).number) × (m.height ≡ (s.router a).announced m.number)

is_kept : (s : Net) → KeepsRule s → (b a : ℕ) (m : Message) → IsFrom s.pool b a m → IsKept s a b m
is_kept s rule b a m f = subst (λ c. IsKept s c b m) f.from (subst (λ c. IsKept s m.from c m) f.to (record {
  boots = rule.boots m f.said;
  told = rule.told m f.said;
  knew = rule.knew m f.said;
  numbers = rule.numbers m f.said;
}))

-- the heart: if x and w go on to r and q and have said nothing since, and q lets x in, then the height of q is no
-- greater than the last that r has heard of w
pub heard_is_met : (s : Net) → KeepsRule s → (x w : ℕ) (r q : Router) → GoesOn s.pool x (s.router x) r
    → GoesOn s.pool w (s.router w) q → 0 < r.heard w → LetsIn q x
    → q.height ≤ r.seen w
heard_is_met s rule x w r q g h known gate = ⊎_elim over now (less_or_same k.boot ((s.router x).boot) kept_k.boots.0)
  where
    a : HasAnswer s.pool w x q
    a = acked_on s.pool w x (s.router w) q h (rule.acked_by w x) gate.acked

    k : Message
    k = a.message

    kept_k : IsKept s x w k
    kept_k = is_kept s rule w x k a.from

    b : HasHeard s.pool x w r
    b = heard_on s.pool x w (s.router x) r g (rule.heard_by x w) known

    m : Message
    m = b.message

    kept_m : IsKept s w x m
    kept_m = is_kept s rule x w m b.from

    now : k.boot ≡ (s.router x).boot → q.height ≤ r.seen w
    now e = omega (arith, b.height, numbers.1, h.announced m.number numbers.0, high)
      where
        start : (s.router x).peer w ≡ (s.router w).boot
        start = omega (arith, kept_k.knew e, rule.peers x w, a.echo, h.boot)

        same : r.peer w ≡ (s.router w).boot
        same = omega (arith, start, (g.start w).0, b.boot, kept_m.boots.0)

        heard : (s.router x).heard w ≤ r.heard w
        heard = ⊎_elim (λ e. omega (arith, e.1)) (⊎_elim (λ e. omega (arith, e.0, same, start))
            (λ e. omega (arith, e.4, e.6 (omega (arith, same, start))))) (g.height w)

        told : k.heard ≤ r.heard w
        told = omega (arith, heard, kept_k.told e (omega (arith, a.echo, h.boot, start)))

        numbers : (m.number ≤ (s.router w).number) × (m.height ≡ (s.router w).announced m.number)
        numbers = kept_m.numbers (omega (arith, b.boot, same))

        high : q.height ≤ q.announced m.number
        high = gate.high m.number (omega (arith, a.most, told, b.number)) (omega (arith, numbers.0, h.number))

    over : k.boot < (s.router x).boot → q.height ≤ r.seen w
    over l = absurd (⊎_elim earlier same (less_or_same m.boot ((s.router w).boot) kept_m.boots.0))
      where
        echo_m : m.echo ≡ (s.router x).boot
        echo_m = omega (arith, b.echo, g.boot)

        earlier : m.boot < (s.router w).boot → ⊥
        earlier less = rule.apart m k b.from.said a.from.said (b.from.from ∙ sym a.from.to)
            (b.from.to ∙ sym a.from.from)
            (subst (λ y. m.boot < (s.router y).boot) (sym b.from.from) less)
            (subst (λ y. k.boot < (s.router y).boot) (sym a.from.from) l)
            (subst (λ y. m.echo ≡ (s.router y).boot) (sym b.from.to) echo_m)
            (subst (λ y. k.echo ≡ (s.router y).boot) (sym a.from.to) (omega (arith, a.echo, h.boot)))

        same : m.boot ≡ (s.router w).boot → ⊥
        same e = omega (arith, kept_m.knew e, echo_m, a.boot, l, (h.start x).0)

-- the first number is less than the second, or as great, so a height below the second is below the third
pub below_after : (a b : ℕ) (w : ℕ) (c x : ℕ) → a ≤ b → IsBelow b w c x → IsBelow a w c x
below_after a b w c x met (inl l) = inl (omega (arith, met, l))
below_after a b w c x met (inr e) = ⊎_elim (λ l. inl (omega (arith, l, e.0))) (λ l. inr (omega (arith, l, e.0), e.1))
    (less_or_same a b met)

step_down : (s : Net) → KeepsRule s → (x w : ℕ) → IsUsed s x w → ¬ IsTrue (s.router w).gateway
    → IsBelow (s.router w).height w (s.router x).height x
step_down s rule x w u forwards = below_after (s.router w).height ((s.router x).seen w) w (s.router x).height x
    (heard_is_met s rule x w (s.router x) (s.router w) (goes_nowhere s.pool x (s.router x))
    (goes_nowhere s.pool w (s.router w)) u.way.known (⊎_elim (λ g. absurd (forwards g)) (λ l. l) u.gate)) u.way.below

no_loop : (s : Net) → KeepsRule s → HasNoLoop s
no_loop s rule u v vs walk = no_return (IsUsed s) (IsWalk s) (λ a b bs h. h) (λ y. (s.router y).height)
    (λ a x w b to link on. step_down s rule x w link on.way.forwards) u v vs walk

run_kept : (s : Net) (ts : List Net) → KeepsRule s → IsRun s ts → KeepsRule (last s ts)
run_kept s [] rule run = rule
run_kept s (t ∷ ts) rule run = run_kept t ts (step_kept s t rule run.0) run.1

pub never_a_loop : NeverALoop
never_a_loop s ts begins run = no_loop (last s ts) (run_kept s ts (at_start s begins) run)
