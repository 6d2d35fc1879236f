-- What a node has announced, after it has announced more or uses another height.
use Rattle.std.proofs.Common.{arith, cond, ltb, refl, ℕ, ⊎_elim, ◌+◌, ◌<◌, ◌≡◌, ◌≤◌}
use Rattle.std.proofs.lemmas.Bool.{cases_lt, le-ltb, lt-ltb}
use Rattle.fr_node.specs.declared.own.Own.{Own}
use Rattle.fr_node.specs.Histories.{Announces}

-- h up to number n, and v under later numbers
abbrev followed_by : (ℕ → ℕ) → ℕ → ℕ → ℕ → ℕ
followed_by h n v m = cond (ltb n m) v (h m)

followed_by-before : (h : ℕ → ℕ) (n v m : ℕ) → m ≤ n → followed_by h n v m ≡ h m
followed_by-before h n v m l = rw (le-ltb n m l) refl

followed_by-after : (h : ℕ → ℕ) (n v m : ℕ) → n < m → followed_by h n v m ≡ v
followed_by-after h n v m l = rw (lt-ltb n m l) refl

-- if the heights under some numbers are at least `low`, and v is too, then they are with v under the next number
still_at_least : (h : ℕ → ℕ) (last v low since : ℕ) → low ≤ v → ((n : ℕ) → since ≤ n → n ≤ last → low ≤ h n)
    → (n : ℕ) → since ≤ n → n ≤ last + 1 → low ≤ followed_by h last v n
still_at_least h last v low since here before n from upto = ⊎_elim
    (λ l. omega (arith, followed_by-after h last v n l, here))
    (λ l. omega (arith, followed_by-before h last v n l, before n from l))
    (cases_lt last n)

pub Announces-raised : (own : Own) (v : ℕ) → own.announced < v
    → Announces own (record own { announced = v; number = own.number + 1; announced_since = own.number + 1 })
Announces-raised own v higher = record {
  me = refl;
  boot = refl;
  number = omega arith;
  history = λ h b. (
    followed_by h own.number v,
    record {
      last = followed_by-after h own.number v (own.number + 1) (omega arith);
      used = still_at_least h own.number v own.used own.used_since (omega (arith, b.order)) b.used;
      announced = λ n since upto. omega (arith, followed_by-after h own.number v n (omega arith));
      order = omega (arith, b.order);
      begins = (b.begins.0, omega arith);
      ends = (omega (arith, b.ends.0), omega arith);
    },
    λ n l. followed_by-before h own.number v n l,
  );
}

pub Announces-lowered : (own : Own) (v : ℕ) → v ≤ own.used
    → Announces own (record own { used = v; announced = v; number = own.number + 1 })
Announces-lowered own v lower = record {
  me = refl;
  boot = refl;
  number = omega arith;
  history = λ h b. (
    followed_by h own.number v,
    record {
      last = followed_by-after h own.number v (own.number + 1) (omega arith);
      used = still_at_least h own.number v v own.used_since (omega arith)
          (λ n since upto. omega (arith, b.used n since upto));
      announced = still_at_least h own.number v v own.announced_since (omega arith)
          (λ n since upto. omega (arith, b.announced n since upto, b.order));
      order = omega arith;
      begins = b.begins;
      ends = (omega (arith, b.ends.0), omega (arith, b.ends.1));
    },
    λ n l. followed_by-before h own.number v n l,
  );
}

pub Announces-settled : (own : Own)
    → Announces own (record own { used = own.announced; used_since = own.announced_since })
Announces-settled own = record {
  me = refl;
  boot = refl;
  number = omega arith;
  history = λ h b. (
    h,
    record {
      last = b.last;
      used = b.announced;
      announced = b.announced;
      order = omega arith;
      begins = (b.begins.1, b.begins.1);
      ends = (b.ends.1, b.ends.1);
    },
    λ n l. refl,
  );
}

pub Announces-none : (own : Own) → Announces own own
Announces-none own = record { me = refl; boot = refl; number = omega arith; history = λ h b. (h, b, λ n l. refl) }

pub Announces-then : (a b c : Own) → Announces a b → Announces b c → Announces a c
Announces-then a b c first second = record {
  me = omega (arith, first.me, second.me);
  boot = omega (arith, first.boot, second.boot);
  number = omega (arith, first.number, second.number);
  history = λ h known. let one = first.history h known in let two = second.history one.0 one.1 in (
    two.0,
    two.1,
    λ n l. omega (arith, two.2 n (omega (arith, l, first.number)), one.2 n l),
  );
}
