-- What holds at every moment, and that each step keeps it.
use Rattle.std.proofs.Common.{Contains, List, [], ap, arith, subst, sym, ℕ, ⊎_elim, ◌≡◌, ◌<◌, ◌≤◌}
use Rattle.fr_node.specs.declared.message.Message.{Message}
use Rattle.fr_node.specs.Routers.{GoesOn, IsFrom, IsSaidBy, IsStart, IsStep, Net, Restarts, Router}

-- router x, in this state, has heard a message of w of the start that it knows of w, for its own present start
pub record HasHeard (pool : List Message) (x w : ℕ) (r : Router) : Type 0 where
  pub message : Message
  pub from : IsFrom pool x w message
  pub echo : message.echo ≡ r.boot
  pub boot : message.boot ≡ r.peer w
  pub number : message.number ≡ r.heard w
  pub height : message.height ≡ r.seen w

-- w, at the start that x knows of it, has said for the present start of x that it heard what x takes for acknowledged
pub record HasAnswer (pool : List Message) (x w : ℕ) (r : Router) : Type 0 where
  pub message : Message
  pub from : IsFrom pool x w message
  pub echo : message.echo ≡ r.boot
  pub boot : message.boot ≡ r.peer w
  pub most : r.acked w ≤ message.heard

pub record KeepsRule (s : Net) : Type 0 where
  pub boots : (m : Message) → Contains s.pool m → (m.boot ≤ (s.router m.from).boot) × (m.echo ≤ (s.router m.to).boot)
  pub peers : (x w : ℕ) → (s.router x).peer w ≤ (s.router w).boot
  pub told : (m : Message) → Contains s.pool m → m.boot ≡ (s.router m.from).boot
      → m.echo ≡ (s.router m.from).peer m.to → m.heard ≤ (s.router m.from).heard m.to
  pub knew : (m : Message) → Contains s.pool m → m.boot ≡ (s.router m.from).boot → m.echo ≤ (s.router m.from).peer m.to
  pub numbers : (m : Message) → Contains s.pool m → m.boot ≡ (s.router m.from).boot
      → (m.number ≤ (s.router m.from).number) × (m.height ≡ (s.router m.from).announced m.number)
  -- of two routers not each has said for the other's present start what it said at a start of its own that is over
  pub apart : (m k : Message) → Contains s.pool m → Contains s.pool k → m.from ≡ k.to → m.to ≡ k.from
      → m.boot < (s.router m.from).boot → k.boot < (s.router k.from).boot → m.echo ≡ (s.router m.to).boot
      → k.echo ≡ (s.router k.to).boot → ⊥
  pub heard_by : (x w : ℕ) → 0 < (s.router x).heard w → HasHeard s.pool x w (s.router x)
  pub acked_by : (x w : ℕ) → 0 < (s.router x).acked w → HasAnswer s.pool x w (s.router x)

none : {X : Type 0} (xs : List X) (x : X) → xs ≡ [] → ¬ Contains xs x
none xs x e h = empty (subst (λ ys. Contains ys x) e h)
  where
    empty : ¬ Contains [] x
    empty c = omega (arith, c.1)

pub at_start : (s : Net) → IsStart s → KeepsRule s
at_start s b = record {
  boots = λ m h. absurd (none s.pool m b.silent h);
  peers = λ x w. omega (arith, b.peer x w);
  told = λ m h e f. absurd (none s.pool m b.silent h);
  knew = λ m h e. absurd (none s.pool m b.silent h);
  numbers = λ m h e. absurd (none s.pool m b.silent h);
  apart = λ m k h. absurd (none s.pool m b.silent h);
  heard_by = λ x w p. absurd (omega (arith, p, b.heard x w));
  acked_by = λ x w p. absurd (omega (arith, p, b.acked x w));
}

-- starts never fall
rises : (s t : Net) → IsStep s t → (y : ℕ) → (s.router y).boot ≤ (t.router y).boot
rises s t step y = ⊎_elim (λ g. omega (arith, g.boot)) (λ r. omega (arith, r.boot)) (step.routers y)

-- after a step the messages still know no start that was not there before it
bounded : (s t : Net) → KeepsRule s → IsStep s t → (m : Message) → Contains t.pool m
    → (m.boot ≤ (s.router m.from).boot) × (m.echo ≤ (s.router m.to).boot)
bounded s t rule step m h = ⊎_elim (λ old. rule.boots m old)
    (λ (new : IsSaidBy (s.router m.from) m). (
      omega (arith, new.boot),
      omega
          (arith, new.echo, rule.peers m.from m.to),
    )) (step.new m h)

peers_kept : (s t : Net) → KeepsRule s → IsStep s t → (x w : ℕ) → (t.router x).peer w ≤ (t.router w).boot
peers_kept s t rule step x w = ⊎_elim goes (λ (r : Restarts (s.router x) (t.router x)). omega (arith, r.peer w))
    (step.routers x)
  where
    up : (s.router w).boot ≤ (t.router w).boot
    up = rises s t step w

    goes : GoesOn s.pool x (s.router x) (t.router x) → (t.router x).peer w ≤ (t.router w).boot
    goes g = ⊎_elim (λ e. omega (arith, e, up, rule.peers x w)) taken ((g.start w).1)
      where
        taken : (m : Message) × IsFrom s.pool x w m × ((t.router x).peer w ≡ m.boot)
            → (t.router x).peer w ≤ (t.router w).boot
        taken (m, f, e) = omega (arith, e, up, (rule.boots m f.said).0, ap (λ (y : ℕ). (s.router y).boot) f.from)

told_kept : (s t : Net) → KeepsRule s → IsStep s t → (m : Message) → Contains t.pool m
    → m.boot ≡ (t.router m.from).boot → m.echo ≡ (t.router m.from).peer m.to → m.heard ≤ (t.router m.from).heard m.to
told_kept s t rule step m h now echo = ⊎_elim goes restarts (step.routers m.from)
  where
    restarts : Restarts (s.router m.from) (t.router m.from) → m.heard ≤ (t.router m.from).heard m.to
    restarts r = absurd (omega (arith, now, r.boot, (bounded s t rule step m h).0))

    goes : GoesOn s.pool m.from (s.router m.from) (t.router m.from) → m.heard ≤ (t.router m.from).heard m.to
    goes g = ⊎_elim same (⊎_elim (λ e. absurd (omega (arith, e.0, echo, known))) taken) (g.height m.to)
      where
        known : m.echo ≤ (s.router m.from).peer m.to
        known = ⊎_elim (λ old. rule.knew m old (omega (arith, now, g.boot))) (λ (new : IsSaidBy
            (s.router m.from) m). omega (arith, new.echo)) (step.new m h)

        before : (t.router m.from).peer m.to ≡ (s.router m.from).peer m.to → m.heard ≤ (s.router m.from).heard m.to
        before e = ⊎_elim (λ old. rule.told m old (omega (arith, now, g.boot)) (omega (arith, e, echo))) (λ
            (new : IsSaidBy (s.router m.from) m). omega (arith, new.heard)) (step.new m h)

        same : ((t.router m.from).peer m.to ≡ (s.router m.from).peer m.to)
            × ((t.router m.from).heard m.to ≡ (s.router m.from).heard m.to)
            × ((t.router m.from).seen m.to ≡ (s.router m.from).seen m.to) → m.heard ≤ (t.router m.from).heard m.to
        same e = omega (arith, e.1, before e.0)

        taken : (k : Message) × IsFrom s.pool m.from m.to k × (k.echo ≡ (s.router m.from).boot)
            × ((t.router m.from).peer m.to ≡ k.boot) × ((t.router m.from).heard m.to ≡ k.number)
            × ((t.router m.from).seen m.to ≡ k.height)
            × ((t.router m.from).peer m.to ≡ (s.router m.from).peer m.to
            → (s.router m.from).heard m.to ≤ k.number) → m.heard ≤ (t.router m.from).heard m.to
        taken (k, f, e, b, n, v, up) =
            let peers : (t.router m.from).peer m.to ≡ (s.router m.from).peer m.to = omega (
              arith,
              known,
              echo,
              (g.start m.to).0,
            ) in
            omega (arith, n, up peers, before peers)

numbers_kept : (s t : Net) → KeepsRule s → IsStep s t → (m : Message) → Contains t.pool m
    → m.boot ≡ (t.router m.from).boot → (m.number ≤ (t.router m.from).number)
    × (m.height ≡ (t.router m.from).announced m.number)
numbers_kept s t rule step m h now = ⊎_elim goes (λ (r : Restarts (s.router m.from) (t.router m.from)). absurd
    (omega (arith, now, r.boot, (bounded s t rule step m h).0))) (step.routers m.from)
  where
    goes : GoesOn s.pool m.from (s.router m.from) (t.router m.from) → (m.number ≤ (t.router m.from).number)
        × (m.height ≡ (t.router m.from).announced m.number)
    goes g = ⊎_elim (λ old. from (rule.numbers m old (omega (arith, now, g.boot)))) (λ (new : IsSaidBy
        (s.router m.from) m). from (new.number, new.height)) (step.new m h)
      where
        from : (m.number ≤ (s.router m.from).number) × (m.height ≡ (s.router m.from).announced m.number)
            → (m.number ≤ (t.router m.from).number) × (m.height ≡ (t.router m.from).announced m.number)
        from p = (omega (arith, p.0, g.number), omega (arith, p.1, g.announced m.number p.0))

knew_kept : (s t : Net) → KeepsRule s → IsStep s t → (m : Message) → Contains t.pool m
    → m.boot ≡ (t.router m.from).boot → m.echo ≤ (t.router m.from).peer m.to
knew_kept s t rule step m h now = ⊎_elim goes restarts (step.routers m.from)
  where
    restarts : Restarts (s.router m.from) (t.router m.from) → m.echo ≤ (t.router m.from).peer m.to
    restarts r = absurd (omega (arith, now, r.boot, (bounded s t rule step m h).0))

    goes : GoesOn s.pool m.from (s.router m.from) (t.router m.from) → m.echo ≤ (t.router m.from).peer m.to
    goes g = ⊎_elim (λ old. omega (arith, (g.start m.to).0, rule.knew m old (omega (arith, now, g.boot))))
        (λ (new : IsSaidBy (s.router m.from) m). omega (arith, (g.start m.to).0, new.echo)) (step.new m h)

-- a router whose new start some message knows has not restarted in this step
same_start : (s t : Net) → KeepsRule s → IsStep s t → (m : Message) → Contains t.pool m
    → m.echo ≡ (t.router m.to).boot → (t.router m.to).boot ≡ (s.router m.to).boot
same_start s t rule step m h e = ⊎_elim (λ (g : GoesOn s.pool m.to (s.router m.to) (t.router m.to)). g.boot)
    (λ (r : Restarts (s.router m.to) (t.router m.to)). absurd (omega (
      arith,
      e,
      r.boot,
      (bounded s t rule step m h).1,
    ))) (step.routers m.to)

-- a message of a start that was over is not new
is_old : (s t : Net) → IsStep s t → (m : Message) → Contains t.pool m → m.boot < (s.router m.from).boot
    → Contains s.pool m
is_old s t step m h l = ⊎_elim (λ old. old) (λ (new : IsSaidBy (s.router m.from) m). absurd (omega
    (arith, l, new.boot))) (step.new m h)

-- a start of m's router that is over was over before, if the router has not restarted
was_over : (s t : Net) (m k : Message) → m.from ≡ k.to → m.boot < (t.router m.from).boot
    → (t.router k.to).boot ≡ (s.router k.to).boot → m.boot < (s.router m.from).boot
was_over s t m k e l same = omega (
  arith,
  l,
  same,
  ap (λ (y : ℕ). (s.router y).boot) e,
  ap (λ (y : ℕ). (t.router y).boot) e,
)

apart_kept : (s t : Net) → KeepsRule s → IsStep s t → (m k : Message) → Contains t.pool m → Contains t.pool k
    → m.from ≡ k.to → m.to ≡ k.from
    → m.boot < (t.router m.from).boot → k.boot < (t.router k.from).boot → m.echo ≡ (t.router m.to).boot
    → k.echo ≡ (t.router k.to).boot → ⊥
apart_kept s t rule step m k hm hk a b lm lk em ek =
    let to_m = same_start s t rule step m hm em in
    let to_k = same_start s t rule step k hk ek in
    let before_m = was_over s t m k a lm to_k in
    let before_k = was_over s t k m (sym b) lk to_m in
    rule.apart m k (is_old s t step m hm before_m) (is_old s t step k hk before_k) a b before_m before_k
    (omega (arith, em, to_m)) (omega (arith, ek, to_k))

-- the same with a router that goes on by messages of the pool
pub heard_on : (pool : List Message) (x w : ℕ) (r t : Router) → GoesOn pool x r t
    → (0 < r.heard w → HasHeard pool x w r)
    → 0 < t.heard w
    → HasHeard pool x w t
heard_on pool x w r t g before p = ⊎_elim same (⊎_elim (λ e. absurd (omega (arith, p, e.1))) taken) (g.height w)
  where
    same : (t.peer w ≡ r.peer w) × (t.heard w ≡ r.heard w) × (t.seen w ≡ r.seen w) → HasHeard pool x w t
    same e = let b = before (omega (arith, p, e.1)) in record {
      message = b.message;
      from = b.from;
      echo = omega (arith, b.echo, g.boot);
      boot = omega (arith, b.boot, e.0);
      number = omega (arith, b.number, e.1);
      height = omega (arith, b.height, e.2);
    }

    taken : (m : Message) × IsFrom pool x w m × (m.echo ≡ r.boot) × (t.peer w ≡ m.boot) × (t.heard w ≡ m.number)
        × (t.seen w ≡ m.height) × (t.peer w ≡ r.peer w → r.heard w ≤ m.number) → HasHeard pool x w t
    taken (m, f, e, b, n, v, up) = record {
      message = m;
      from = f;
      echo = omega (arith, e, g.boot);
      boot = omega (arith, b);
      number = omega (arith, n);
      height = omega (arith, v);
    }

pub acked_on : (pool : List Message) (x w : ℕ) (r t : Router) → GoesOn pool x r t
    → (0 < r.acked w → HasAnswer pool x w r)
    → 0 < t.acked w
    → HasAnswer pool x w t
acked_on pool x w r t g before p = ⊎_elim same (⊎_elim (λ e. absurd (omega (arith, p, e))) taken) (g.answer w)
  where
    same : (t.peer w ≡ r.peer w) × (t.acked w ≡ r.acked w) → HasAnswer pool x w t
    same e = let b = before (omega (arith, p, e.1)) in record {
      message = b.message;
      from = b.from;
      echo = omega (arith, b.echo, g.boot);
      boot = omega (arith, b.boot, e.0);
      most = omega (arith, b.most, e.1);
    }

    taken : (m : Message) × IsFrom pool x w m × (m.echo ≡ r.boot) × (t.peer w ≡ m.boot) × (t.acked w ≡ m.heard)
        → HasAnswer pool x w t
    taken (m, f, e, b, v) = record {
      message = m;
      from = f;
      echo = omega (arith, e, g.boot);
      boot = omega (arith, b);
      most = omega (arith, v);
    }

still : (s t : Net) → IsStep s t → (x w : ℕ) (m : Message) → IsFrom s.pool x w m → IsFrom t.pool x w m
still s t step x w m f = record { said = step.kept m f.said; from = f.from; to = f.to }

heard_kept : (s t : Net) → KeepsRule s → IsStep s t → (x w : ℕ) → 0 < (t.router x).heard w
    → HasHeard t.pool x w (t.router x)
heard_kept s t rule step x w p = ⊎_elim goes (λ (r : Restarts (s.router x) (t.router x)). absurd (omega
    (arith, p, r.heard w))) (step.routers x)
  where
    goes : GoesOn s.pool x (s.router x) (t.router x) → HasHeard t.pool x w (t.router x)
    goes g = let b = heard_on s.pool x w (s.router x) (t.router x) g (rule.heard_by x w) p in record {
      message = b.message;
      from = still s t step x w b.message b.from;
      echo = b.echo;
      boot = b.boot;
      number = b.number;
      height = b.height;
    }

acked_kept : (s t : Net) → KeepsRule s → IsStep s t → (x w : ℕ) → 0 < (t.router x).acked w
    → HasAnswer t.pool x w (t.router x)
acked_kept s t rule step x w p = ⊎_elim goes (λ (r : Restarts (s.router x) (t.router x)). absurd (omega
    (arith, p, r.acked w))) (step.routers x)
  where
    goes : GoesOn s.pool x (s.router x) (t.router x) → HasAnswer t.pool x w (t.router x)
    goes g = let b = acked_on s.pool x w (s.router x) (t.router x) g (rule.acked_by x w) p in record {
      message = b.message;
      from = still s t step x w b.message b.from;
      echo = b.echo;
      boot = b.boot;
      most = b.most;
    }

pub step_kept : (s t : Net) → KeepsRule s → IsStep s t → KeepsRule t
step_kept s t rule step = record {
  boots = λ m h. (
    omega (arith, (bounded s t rule step m h).0, rises s t step m.from),
    omega (arith, (bounded s t rule step m h).1, rises s t step m.to),
  );
  peers = peers_kept s t rule step;
  told = told_kept s t rule step;
  knew = knew_kept s t rule step;
  numbers = numbers_kept s t rule step;
  apart = apart_kept s t rule step;
  heard_by = heard_kept s t rule step;
  acked_by = acked_kept s t rule step;
}
