-- How many heights routers announce beside links that stay up, in a run.
use Rattle.std.proofs.Common.{Bool, Contains, List, [], ap, arith, cond, inl, length, refl, ℕ, ◌∷◌, ◌*◌, ◌+◌, ◌<◌, ◌≡◌}
use Rattle.std.proofs.Common.{◌≤◌}
use Rattle.fr_node.specs.declared.message.Message.{Message}
use Rattle.fr_node.specs.Lowerings.{KeepsLinkOrFalls, KeepsPathOrFalls, LinkBoundsWithFalls, PathBoundsWithFalls}
use Rattle.fr_node.specs.Lowerings.{falls, falls_on}
use Rattle.fr_node.specs.Paths.{DownPathIsQuiet, IsDown, KeepsLink, KeepsPath, LinkBoundsAnnouncements}
use Rattle.fr_node.specs.Paths.{PathBoundsAnnouncements, due, due_on, times, unheard, unheard_of, unheard_on}
use Rattle.fr_node.specs.Routers.{IsRun, IsStart, Net, last}
use Rattle.fr_node.proofs.LinkSteps.{fall, free, free_most, listed_still, no_fall, same_start, step_bound}
use Rattle.fr_node.proofs.Moments.{Holds, heard_most, held, holds_after, numbers_grow}
use Rattle.fr_node.proofs.Unheard.{counts_all, more_by, present, unheard_by}

neighbour_grows : (x w : ℕ) (s : Net) (ts : List Net) → IsRun s ts → KeepsLinkOrFalls x w s ts
    → (s.router w).number ≤ ((last s ts).router w).number
neighbour_grows x w s [] run keeps = omega arith
neighbour_grows x w s (t ∷ ts) run keeps = omega (
  arith,
  numbers_grow w s t run.0 keeps.1,
  neighbour_grows x w t ts run.1 keeps.2,
)

itself_grows : (x w : ℕ) (s : Net) (ts : List Net) → IsRun s ts → KeepsLinkOrFalls x w s ts
    → (s.router x).number ≤ ((last s ts).router x).number
itself_grows x w s [] run keeps = omega arith
itself_grows x w s (t ∷ ts) run keeps = omega (
  arith,
  numbers_grow x s t run.0 (same_start x w (s.router x) (t.router x) keeps.0),
  itself_grows x w t ts run.1 keeps.2,
)

run_bound : (x w : ℕ) (s : Net) (ts : List Net) → Holds s → IsRun s ts → KeepsLinkOrFalls x w s ts
    → (pool : List Message) (number : ℕ)
    → ((m : Message) → Contains s.pool m → m.from ≡ w → m.boot < (s.router w).boot → Contains pool m)
    → ((last s ts).router w).number ≤ number
    → ((last s ts).router x).number ≤ (s.router x).number + free x w (s.router x)
    + unheard_of (s.router w).boot number pool x w (s.router x) + 2 * falls x s ts
run_bound x w s [] holds run keeps pool number listed enough = omega arith
run_bound x w s (t ∷ ts) holds run keeps pool number listed enough =
    let enough_now = le_after (neighbour_grows x w t ts run.1 keeps.2) enough in
    let rest = run_bound x w t ts (holds_after s (t ∷ []) holds (run.0, tt)) run.1 keeps.2 pool number
    (listed_still w s t run.0 keeps.1 pool listed) enough in
    add rest (step_bound x w s t holds run.0 keeps.0 keeps.1 pool number listed enough_now)
  where
    le_after : (t.router w).number ≤ ((last t ts).router w).number → ((last t ts).router w).number ≤ number
        → (t.router w).number ≤ number
    le_after a b = omega (arith, a, b)

    add : ((last t ts).router x).number ≤ (t.router x).number + free x w (t.router x)
        + unheard_of (t.router w).boot number pool x w (t.router x) + 2 * falls x t ts
        → (t.router x).number + free x w (t.router x) + unheard_of (s.router w).boot number pool x w (t.router x)
        ≤ (s.router x).number + free x w (s.router x) + unheard_of (s.router w).boot number pool x w (s.router x)
        + 2 * fall (s.router x) (t.router x)
        → ((last t ts).router x).number ≤ (s.router x).number + free x w (s.router x)
        + unheard_of (s.router w).boot number pool x w (s.router x) + 2 * falls x s (t ∷ ts)
    add a b = omega (
      arith,
      a,
      b,
      ap (λ (start : ℕ). unheard_of start number pool x w (t.router x)) keeps.1,
    )

-- beside a link that stays up
link_bounds : (x w : ℕ) (s : Net) (ts : List Net) → Holds s → IsRun s ts → KeepsLinkOrFalls x w s ts
    → times s (last s ts) x ≤ due s x w + times s (last s ts) w + 2 * falls x s ts
unfolding unheard_by present
link_bounds x w s ts holds run keeps =
    let end = ((last s ts).router w).number in
    let more : unheard_of (s.router w).boot end s.pool x w (s.router x) ≤ unheard s x w + times s (last s ts) w
    = more_by (λ n. n) counts_all (s.router w).boot (s.router w).number end s.pool x w (s.router x)
    (neighbour_grows x w s ts run keeps) (heard_most x w s holds.rule) in
    omega (
      arith,
      run_bound x w s ts holds run keeps s.pool end (λ m h _ _. h) (omega arith),
      more,
      itself_grows x w s ts run keeps,
    )

path_bounds : (s : Net) (ts : List Net) → Holds s → IsRun s ts → (x : ℕ) (ws : List ℕ) → KeepsPathOrFalls x ws s ts
    → times s (last s ts) x ≤ due_on s x ws + 2 * falls_on x ws s ts
path_bounds s ts holds run x [] keeps = omega (arith, keeps)
path_bounds s ts holds run x (w ∷ ws) keeps = omega (
  arith,
  link_bounds x w s ts holds run keeps.0,
  path_bounds s ts holds run w ws keeps.1,
)

-- if no router falls

keeps_link : (x w : ℕ) (s : Net) (ts : List Net) → KeepsLink x w s ts → KeepsLinkOrFalls x w s ts
keeps_link x w s [] keeps = tt
keeps_link x w s (t ∷ ts) keeps = (inl keeps.0, keeps.1, keeps_link x w t ts keeps.2)

no_falls : (x w : ℕ) (s : Net) (ts : List Net) → IsRun s ts → KeepsLink x w s ts → falls x s ts ≡ 0
no_falls x w s [] run keeps = refl
no_falls x w s (t ∷ ts) run keeps = omega (
  arith,
  no_fall x w s t run.0 keeps.0,
  no_falls x w t ts run.1 keeps.2,
)

keeps_path : (s : Net) (ts : List Net) (x : ℕ) (ws : List ℕ) → KeepsPath x ws s ts → KeepsPathOrFalls x ws s ts
keeps_path s ts x [] keeps = keeps
keeps_path s ts x (w ∷ ws) keeps = (keeps_link x w s ts keeps.0, keeps_path s ts w ws keeps.1)

no_falls_on : (s : Net) (ts : List Net) (x : ℕ) (ws : List ℕ) → IsRun s ts → KeepsPath x ws s ts
    → falls_on x ws s ts ≡ 0
no_falls_on s ts x [] run keeps = refl
no_falls_on s ts x (w ∷ ws) run keeps = omega (
  arith,
  no_falls x w s ts run keeps.0,
  no_falls_on s ts w ws run keeps.1,
)

due_most : (s : Net) (x : ℕ) (ws : List ℕ) → due_on s x ws ≤ length ws + unheard_on s x ws
due_most s x [] = omega arith
due_most s x (w ∷ ws) = omega (arith, free_most x w (s.router x), due_most s w ws)

due_none : (s : Net) (x : ℕ) (ws : List ℕ) → IsDown s x ws → due_on s x ws ≡ 0
due_none s x [] down = refl
due_none s x (w ∷ ws) down = omega (
  arith,
  ap {B = ℕ} (λ (b : Bool). cond b 1 0) down.0,
  down.1,
  due_none s w ws down.2,
)

-- The laws

pub link_bounds_with_falls : LinkBoundsWithFalls
link_bounds_with_falls s past future x w begins ran runs keeps = link_bounds x w (last s past) future
    (held s past begins ran) runs keeps

pub path_bounds_with_falls : PathBoundsWithFalls
path_bounds_with_falls s past future x ws begins ran runs keeps = path_bounds (last s past) future
    (held s past begins ran) runs x ws keeps

pub link_bounds_announcements : LinkBoundsAnnouncements
link_bounds_announcements s past future x w begins ran runs keeps = omega (
  arith,
  link_bounds_with_falls s past future x w begins ran runs (keeps_link x w (last s past) future keeps),
  no_falls x w (last s past) future runs keeps,
)

most_on : (s : Net) (past future : List Net) (x : ℕ) (ws : List ℕ) → IsStart s → IsRun s past
    → IsRun (last s past) future → KeepsPath x ws (last s past) future
    → times (last s past) (last (last s past) future) x ≤ due_on (last s past) x ws
most_on s past future x ws begins ran runs keeps = omega (
  arith,
  path_bounds_with_falls s past future x ws begins ran runs (keeps_path (last s past) future x ws keeps),
  no_falls_on (last s past) future x ws runs keeps,
)

pub path_bounds_announcements : PathBoundsAnnouncements
path_bounds_announcements s past future x ws begins ran runs keeps =
    let most = most_on s past future x ws begins ran runs keeps in
    (most, omega (arith, most, due_most (last s past) x ws))

pub down_path_is_quiet : DownPathIsQuiet
down_path_is_quiet s past future x ws begins ran runs keeps down = omega (
  arith,
  most_on s past future x ws begins ran runs keeps,
  due_none (last s past) x ws down,
)
