-- What holds at every moment of a run.
use Rattle.std.proofs.Common.{Contains, List, [], ap, arith, subst, sym, ℕ, ⊎_elim, ◌∷◌, ◌<◌, ◌≡◌, ◌≤◌, ◌∙◌}
use Rattle.std.proofs.lemmas.Bool.{cases_lt}
use Rattle.fr_node.specs.declared.message.Message.{Message}
use Rattle.fr_node.specs.Routers.{GoesOn, IsFrom, IsRun, IsSaidBy, IsStart, IsStep, Net, Restarts, last}
use Rattle.fr_node.proofs.Members.{Contains-none}
use Rattle.fr_node.proofs.Rule.{KeepsRule, at_start, step_kept}

-- an announcement has one height
pub HasOneHeight : List Message → Type 0
HasOneHeight pool = (m k : Message) → Contains pool m → Contains pool k → m.from ≡ k.from → m.boot ≡ k.boot
    → m.number ≡ k.number → m.height ≡ k.height

heights_kept : (s t : Net) → KeepsRule s → IsStep s t → HasOneHeight s.pool → HasOneHeight t.pool
unfolding HasOneHeight
heights_kept s t rule step one m k hm hk from boot number = ⊎_elim
    (λ old. ⊎_elim
    (λ older. one m k old older from boot number)
    (λ (new : IsSaidBy (s.router k.from) k). said m k (rule.numbers m old
    (omega (arith, boot, new.boot, ap (λ (y : ℕ). (s.router y).boot) from))).1 new.height from number)
    (step.new k hk))
    (λ (new : IsSaidBy (s.router m.from) m). ⊎_elim
    (λ older. said m k new.height (rule.numbers k older
    (omega (arith, boot, new.boot, ap (λ (y : ℕ). (s.router y).boot) from))).1 from number)
    (λ (newer : IsSaidBy (s.router k.from) k). said m k new.height newer.height from number)
    (step.new k hk))
    (step.new m hm)
  where
    said : (m k : Message) → m.height ≡ (s.router m.from).announced m.number
        → k.height ≡ (s.router k.from).announced k.number → m.from ≡ k.from → m.number ≡ k.number
        → m.height ≡ k.height
    said m k a b from number = a ∙ ap (λ (y : ℕ). (s.router y).announced m.number) from
        ∙ ap (λ (i : ℕ). (s.router k.from).announced i) number ∙ sym b

-- what holds at every moment
pub record Holds (s : Net) : Type 0 where
  pub rule : KeepsRule s
  pub heights : HasOneHeight s.pool

pub holds_after : (s : Net) (ts : List Net) → Holds s → IsRun s ts → Holds (last s ts)
holds_after s [] h run = h
holds_after s (t ∷ ts) h run = holds_after t ts
    (record { rule = step_kept s t h.rule run.0; heights = heights_kept s t h.rule run.0 h.heights }) run.1

holds_at_start : (s : Net) → IsStart s → Holds s
unfolding HasOneHeight
holds_at_start s begins = record {
  rule = at_start s begins;
  heights = λ m k hm. absurd (Contains-none m (subst (λ (ms : List Message). Contains ms m) begins.silent hm));
}

-- what was heard has the height that it had
pub same_height : (x w : ℕ) (s t : Net) → Holds s → GoesOn s.pool x (s.router x) (t.router x)
    → (t.router x).peer w ≡ (s.router x).peer w → (t.router x).heard w ≡ (s.router x).heard w
    → 0 < (s.router x).heard w → (t.router x).seen w ≡ (s.router x).seen w
unfolding HasOneHeight
same_height x w s t holds goes p h some = ⊎_elim (λ a. a.2)
    (⊎_elim (λ a. absurd (omega (arith, a.0, p))) (λ a. took a.0 a.1 a.3 a.4 a.5))
    (goes.height w)
  where
    took : (m : Message) → IsFrom s.pool x w m → (t.router x).peer w ≡ m.boot → (t.router x).heard w ≡ m.number
        → (t.router x).seen w ≡ m.height → (t.router x).seen w ≡ (s.router x).seen w
    took m f b n v = let old = holds.rule.heard_by x w some in v
        ∙ holds.heights m old.message f.said old.from.said (f.from ∙ sym old.from.from)
        (omega (arith, b, p, old.boot)) (omega (arith, n, h, old.number))
        ∙ old.height

-- what was heard of the present start was announced
pub heard_most : (x w : ℕ) (s : Net) → KeepsRule s → (s.router x).peer w ≡ (s.router w).boot
    → (s.router x).heard w ≤ (s.router w).number
heard_most x w s rule knows = ⊎_elim
    (λ some. let h = rule.heard_by x w some in omega (
      arith,
      h.number,
      (rule.numbers h.message h.from.said
          (omega (arith, h.boot, knows, ap (λ (y : ℕ). (s.router y).boot) h.from.from))).0,
      ap (λ (y : ℕ). (s.router y).number) h.from.from,
    ))
    (λ none. omega (arith, none))
    (cases_lt 0 ((s.router x).heard w))

pub goes_on : (y : ℕ) (s t : Net) → IsStep s t → (t.router y).boot ≡ (s.router y).boot
    → GoesOn s.pool y (s.router y) (t.router y)
goes_on y s t step boot = ⊎_elim (λ g. g)
    (λ (r : Restarts (s.router y) (t.router y)). absurd (omega (arith, r.boot, boot))) (step.routers y)

pub numbers_grow : (y : ℕ) (s t : Net) → IsStep s t → (t.router y).boot ≡ (s.router y).boot
    → (s.router y).number ≤ (t.router y).number
numbers_grow y s t step boot = (goes_on y s t step boot).number

pub held : (s : Net) (past : List Net) → IsStart s → IsRun s past → Holds (last s past)
held s past begins ran = holds_after s past (holds_at_start s begins) ran
