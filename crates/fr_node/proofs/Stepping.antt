-- What a node does is a step of the laws.
use Rattle.std.proofs.Common.{[], Bool, IsTrue, List, Some, ap, arith, false, inl, inr, length, refl, true, subst, sym}
use Rattle.std.proofs.Common.{ℕ, ⊎_elim, ◌%◌, ◌+◌, ◌^◌, ◌∷◌, ◌<◌, ◌≡◌, ◌≢◌, ◌≤◌, ◌⊎◌, ◌∙◌}
use Rattle.std.proofs.lemmas.Bool.{cases_Bool, cases_lt}
use Rattle.std.proofs.Math.Nat.{eq-or-lt_of_le}
use Rattle.std.proofs.lemmas.Bool.Decides.{nat_tests}
use Rattle.fr_node.specs.declared.link.Link.{Link}
use Rattle.fr_node.specs.declared.message.Message.{Message}
use Rattle.fr_node.specs.declared.node.Node.{Node}
use Rattle.fr_node.specs.declared.own.Own.{Own}
use Rattle.fr_node.specs.Events.{IsAfterEvent, unstamped}
use Rattle.fr_node.specs.Histories.{Announces, IsHistory}
use Rattle.fr_node.specs.Links.{Hears, IsHeard, IsNewer, IsTaken, Says, echo_of, is_way, link_to, place_of}
use Rattle.fr_node.specs.Links.{Changes, with_carrier, with_cost}
use Rattle.fr_node.specs.Nodes.{IsMessageTo, Steps, lets_in, router, sends_to}
use Rattle.fr_node.specs.Policies.{Acts}
use Rattle.fr_node.specs.Routers.{IsBelow, IsFrom, IsOpen, IsSaidBy, IsWay}
use Rattle.fr_node.proofs.Histories.{Announces-none}
use Rattle.fr_node.proofs.Linking.{IsAt, found_at, up_leads}

pub same_or_not : (a b : ℕ) → (a ≡ b) ⊎ (a ≢ b)
same_or_not a b = grind arith

newer_or_not : (boot stamp : ℕ) (m : Message) → IsNewer boot stamp m ⊎ ¬ IsNewer boot stamp m
newer_or_not boot stamp m = ⊎_elim
    (λ less. inl (inl less))
    (λ most. ⊎_elim
    (λ even. ⊎_elim
    (λ later. inl (inr (even, later)))
    (λ old. inr (λ n. ⊎_elim (λ a. omega (arith, a, most)) (λ b. omega (arith, b.1, old)) n))
    (cases_lt stamp m.stamp))
    (λ other. inr (λ n. ⊎_elim (λ a. omega (arith, a, most)) (λ b. other b.0) n))
    (same_or_not boot m.boot))
    (cases_lt boot m.boot)

-- router y, of this start, keeps what it knows of w, or takes it from messages of the pool
record Takes (pool : List Message) (y boot w : ℕ) (l k : Link) : Type 0 where
  start : (l.peer ≤ k.peer) × ((k.peer ≡ l.peer) ⊎ ((m : Message) × IsFrom pool y w m × (k.peer ≡ m.boot)))
  height : ((k.peer ≡ l.peer) × (k.heard ≡ l.heard) × (k.seen ≡ l.seen))
      ⊎ ((l.peer < k.peer) × (k.heard ≡ 0))
      ⊎ ((m : Message) × IsFrom pool y w m × (m.echo ≡ boot) × (k.peer ≡ m.boot) × (k.heard ≡ m.number)
      × (k.seen ≡ m.height) × (k.peer ≡ l.peer → l.heard ≤ m.number))
  answer : ((k.peer ≡ l.peer) × (k.acked ≡ l.acked))
      ⊎ (k.acked ≡ 0)
      ⊎ ((m : Message) × IsFrom pool y w m × (m.echo ≡ boot) × (k.peer ≡ m.boot) × (k.acked ≡ m.heard))

-- whether a message is taken
pub taken_or_not : (own : Own) (m : Message) (ls : List Link) → IsTaken own m ls ⊎ ¬ IsTaken own m ls
taken_or_not own m ls = ⊎_elim
    (λ to. ⊎_elim
    (λ known. ⊎_elim
    (λ newer. inl (record { to = to; from = known; newer = newer }))
    (λ none. inr (λ t. none t.newer))
    (newer_or_not (link_to ls m.from).peer (link_to ls m.from).stamp m))
    (λ past. inr (λ t. omega (arith, past, t.from)))
    (cases_lt (place_of ls m.from) (length ls)))
    (λ away. inr (λ t. away t.to))
    (same_or_not m.to own.me)

-- the same is known
pub record KnowsSame (l k : Link) : Type 0 where
  pub peer : k.peer ≡ l.peer
  pub stamp : k.stamp ≡ l.stamp
  pub heard : k.heard ≡ l.heard
  pub seen : k.seen ≡ l.seen
  pub acked : k.acked ≡ l.acked

takes_none : (pool : List Message) (y boot w : ℕ) (l k : Link) → KnowsSame l k → Takes pool y boot w l k
takes_none pool y boot w l k s = record {
  start = (omega (arith, s.peer), inl s.peer);
  height = inl (s.peer, s.heard, s.seen);
  answer = inl (s.peer, s.acked);
}

pub same : (l k : Link) → k ≡ l → KnowsSame l k
same l k e = record {
  peer = ap (λ (j : Link). j.peer) e;
  stamp = ap (λ (j : Link). j.stamp) e;
  heard = ap (λ (j : Link). j.heard) e;
  seen = ap (λ (j : Link). j.seen) e;
  acked = ap (λ (j : Link). j.acked) e;
}

-- the two halves of taking a message m, which is of no earlier start
Height : Own → Message → Link → Link → Type 0
Height own m l k = ((k.peer ≡ l.peer) × (k.heard ≡ l.heard) × (k.seen ≡ l.seen))
    ⊎ ((l.peer < k.peer) × (k.heard ≡ 0))
    ⊎ ((n : Message) × IsFrom (m ∷ []) own.me m.from n × (n.echo ≡ own.boot) × (k.peer ≡ n.boot) × (k.heard ≡ n.number)
    × (k.seen ≡ n.height) × (k.peer ≡ l.peer → l.heard ≤ n.number))

Answer : Own → Message → Link → Link → Type 0
Answer own m l k = ((k.peer ≡ l.peer) × (k.acked ≡ l.acked))
    ⊎ (k.acked ≡ 0)
    ⊎ ((n : Message) × IsFrom (m ∷ []) own.me m.from n × (n.echo ≡ own.boot) × (k.peer ≡ n.boot) × (k.acked ≡ n.heard))

height_heard : (own : Own) (m : Message) (l k : Link) → IsHeard own m l k → IsFrom (m ∷ []) own.me m.from m
    → l.peer ≤ m.boot
    → Height own m l k
unfolding Height
height_heard own m l k h from now = ⊎_elim
    (λ echo. ⊎_elim
    (λ even. ⊎_elim
    (λ later. let e = h.uninformed even (inr later) in inl (omega (arith, h.start, even), e.0, e.1))
    (λ good. took echo (λ _. good))
    (cases_lt m.number l.heard))
    (λ less. took echo (λ e. absurd (omega (arith, e, less))))
    (eq-or-lt_of_le now))
    (λ other. ⊎_elim
    (λ even. let e = h.uninformed even (inl other) in inl (omega (arith, h.start, even), e.0, e.1))
    (λ less. inr (inl (omega (arith, less, h.start), (h.forgotten less other).0)))
    (eq-or-lt_of_le now))
    (same_or_not m.echo own.boot)
  where
    took : m.echo ≡ own.boot → (l.peer ≡ m.boot → l.heard ≤ m.number) → Height own m l k
    took echo good = let e = h.informed echo good in
        inr (inr (m, from, echo, h.start, e.0, e.1, λ s. good (omega (arith, s, h.start))))

answer_heard : (own : Own) (m : Message) (l k : Link) → IsHeard own m l k → IsFrom (m ∷ []) own.me m.from m
    → l.peer ≤ m.boot
    → Answer own m l k
unfolding Answer
answer_heard own m l k h from now = ⊎_elim
    (λ echo. ⊎_elim
    (λ many. kept (inr many))
    (λ few. ⊎_elim
    (λ even. ⊎_elim
    (λ more. given echo few (λ _. more))
    (λ old. inl (omega (arith, h.start, even), h.unanswered even (inr (inr old))))
    (cases_lt l.acked m.heard))
    (λ less. given echo few (λ e. absurd (omega (arith, e, less))))
    (eq-or-lt_of_le now))
    (cases_lt own.number m.heard))
    (λ other. kept (inl other))
    (same_or_not m.echo own.boot)
  where
    given : m.echo ≡ own.boot → m.heard ≤ own.number → (l.peer ≡ m.boot → l.acked < m.heard) → Answer own m l k
    given echo few more = inr (inr (m, from, echo, h.start, h.answered echo few more))

    kept : (m.echo ≢ own.boot) ⊎ (own.number < m.heard) → Answer own m l k
    kept why = ⊎_elim
        (λ even. inl (omega (arith, h.start, even), h.unanswered even (⊎_elim (λ a. inl a) (λ b. inr (inl b)) why)))
        (λ less. inr (inl (h.unacked less why)))
        (eq-or-lt_of_le now)

takes_heard : (own : Own) (m : Message) (l k : Link) → IsHeard own m l k → m.to ≡ own.me → l.peer ≤ m.boot
    → Takes (m ∷ []) own.me own.boot m.from l k
unfolding Height Answer
takes_heard own m l k h to now = record {
  start = (omega (arith, now, h.start), inr (m, from, h.start));
  height = height_heard own m l k h from now;
  answer = answer_heard own m l k h from now;
}
  where
    from : IsFrom (m ∷ []) own.me m.from m
    from = record { said = (0, omega arith, refl); from = refl; to = to }

no_less : (boot stamp : ℕ) (m : Message) → IsNewer boot stamp m → boot ≤ m.boot
no_less boot stamp m (inl less) = omega (arith, less)
no_less boot stamp m (inr even) = omega (arith, even.0)

takes_hears : (own : Own) (m : Message) (ls ks : List Link) → Hears own m ls ks
    → (w : ℕ) → Takes (m ∷ []) own.me own.boot w (link_to ls w) (link_to ks w)
takes_hears own m ls ks h w = ⊎_elim
    (λ here. subst (λ v. Takes (m ∷ []) own.me own.boot v (link_to ls v) (link_to ks v)) (sym here) from_it)
    (λ other. takes_none (m ∷ []) own.me own.boot w (link_to ls w) (link_to ks w)
    (same (link_to ls w) (link_to ks w) (h.others w other)))
    (same_or_not w m.from)
  where
    from_it : Takes (m ∷ []) own.me own.boot m.from (link_to ls m.from) (link_to ks m.from)
    from_it = ⊎_elim
        (λ t. takes_heard own m (link_to ls m.from) (link_to ks m.from) (h.taken t) t.to
        (no_less (link_to ls m.from).peer (link_to ls m.from).stamp m t.newer))
        (λ none. takes_none (m ∷ []) own.me own.boot m.from (link_to ls m.from) (link_to ks m.from)
        (same (link_to ls m.from) (link_to ks m.from)
        (ap (λ (js : List Link). link_to js m.from) (h.ignored none))))
        (taken_or_not own m ls)

-- what was heard stays, whether the link is up, and whatever it costs
pub carrier_same : (up : Bool) (l : Link) → KnowsSame l (with_carrier up l)
carrier_same up l = record { peer = refl; stamp = refl; heard = refl; seen = refl; acked = refl }

pub cost_same : (cost : ℕ) (l : Link) → KnowsSame l (with_cost cost l)
cost_same cost l = record { peer = refl; stamp = refl; heard = refl; seen = refl; acked = refl }

pub changed_same : (to : Link → Link) → ((l : Link) → KnowsSame l (to l)) → (w : ℕ) (ls ks : List Link)
    → Changes to w ls ks → (v : ℕ) → KnowsSame (link_to ls v) (link_to ks v)
changed_same to keeps w ls ks s v = ⊎_elim
    (λ here. ⊎_elim
    (λ known. subst (λ u. KnowsSame (link_to ls u) (link_to ks u)) (sym here)
    (subst (KnowsSame (link_to ls w)) (sym (s.itself known)) (keeps (link_to ls w))))
    (λ past. same (link_to ls v) (link_to ks v)
    (ap (λ (js : List Link). link_to js v) (s.stranger (λ known. omega (arith, past, known)))))
    (cases_lt (place_of ls w) (length ls)))
    (λ other. same (link_to ls v) (link_to ks v) (s.others v other))
    (same_or_not v w)

steps : (pool : List Message) (old new : Node) → Announces old.own new.own
    → ((w : ℕ) → Takes pool old.own.me old.own.boot w (link_to old.links.items w) (link_to new.links.items w))
    → Steps pool old new
steps pool old new says takes = record {
  me = says.me;
  goes_on = λ h known. let after = says.history h known in (
    after.0,
    after.1,
    record {
      boot = says.boot;
      number = says.number;
      announced = after.2;
      start = λ w. (takes w).start;
      height = λ w. (takes w).height;
      answer = λ w. (takes w).answer;
    },
  );
}

-- the links of a node change first, and then what it knows of itself. Its table has to be written
pub record InTurn (old mid new : Node) : Type 0 where
  pub links : mid ≡ record old { links = mid.links }
  pub own : new ≡ record mid { own = new.own; events = (mid.events + 1) % 2 ^ 64; is_written = false }
  pub announces : Announces mid.own new.own
  pub acts : Acts mid new.own

in_turn : (pool : List Message) (old mid new : Node) → InTurn old mid new
    → ((w : ℕ) → Takes pool old.own.me old.own.boot w (link_to old.links.items w) (link_to mid.links.items w))
    → IsAfterEvent pool old new
in_turn pool old mid new turn takes = record {
  same = (
    ap (λ (n : Node). n.gateway) turn.own ∙ ap (λ (n : Node). n.gateway) turn.links,
    ap (λ (n : Node). n.policy) turn.own ∙ ap (λ (n : Node). n.policy) turn.links,
  );
  policy = subst (λ (n : Node). Acts n new.own)
      (turn.links ∙ ap (λ ls. record old { links = ls }) (sym (ap (λ (n : Node). n.links) turn.own))) turn.acts;
  step = steps pool old new
      (subst (λ (o : Own). Announces o new.own) (ap (λ (n : Node). n.own) turn.links) turn.announces)
      (λ w. subst (λ (ks : List Link). Takes pool old.own.me old.own.boot w (link_to old.links.items w) (link_to ks w))
      (sym (ap (λ (n : Node). n.links.items) turn.own)) (takes w));
  events = ap (λ (n : Node). n.events) turn.own
      ∙ ap (λ (n : Node). (n.events + 1) % 2 ^ 64) turn.links;
  unwritten = ap (λ (n : Node). n.is_written) turn.own;
}

pub after_hearing : (m : Message) (old mid new : Node) → InTurn old mid new
    → Hears old.own m old.links.items mid.links.items → IsAfterEvent (m ∷ []) old new
after_hearing m old mid new turn hears = in_turn (m ∷ []) old mid new turn
    (takes_hears old.own m old.links.items mid.links.items hears)

-- an event in which the same stays known
pub after_keeping : (old mid new : Node) → InTurn old mid new
    → ((w : ℕ) → KnowsSame (link_to old.links.items w) (link_to mid.links.items w)) → IsAfterEvent [] old new
after_keeping old mid new turn knows = in_turn [] old mid new turn
    (λ w. takes_none [] old.own.me old.own.boot w (link_to old.links.items w) (link_to mid.links.items w) (knows w))

pub after_changing : (to : Link → Link) → ((l : Link) → KnowsSame l (to l)) → (w : ℕ) (old mid new : Node)
    → InTurn old mid new → Changes to w old.links.items mid.links.items → IsAfterEvent [] old new
after_changing to keeps w old mid new turn changes = after_keeping old mid new turn
    (changed_same to keeps w old.links.items mid.links.items changes)

-- the policy has acted once more
pub after_acting : (old mid new : Node) → mid ≡ record old { own = mid.own }
    → new ≡ record mid { events = (mid.events + 1) % 2 ^ 64; is_written = false } → Announces old.own mid.own
    → Acts old mid.own → IsAfterEvent [] old new
after_acting old mid new acted counted announces acts = in_turn [] old old new
    (record {
      links = refl;
      own = counted
          ∙ ap (λ (n : Node). record n { events = (n.events + 1) % 2 ^ 64; is_written = false }) acted
          ∙ ap (λ (o : Own). record old { own = o; events = (old.events + 1) % 2 ^ 64; is_written = false }) (sym own);
      announces = subst (Announces old.own) (sym own) announces;
      acts = subst (Acts old) (sym own) acts;
    })
    (λ w. takes_none [] old.own.me old.own.boot w (link_to old.links.items w) (link_to old.links.items w)
    (same (link_to old.links.items w) (link_to old.links.items w) refl))
  where
    own : new.own ≡ mid.own
    own = ap (λ (n : Node). n.own) counted

-- what is said does not depend on the stamp
pub with_stamp : (n : Node) (w stamp : ℕ) (m : Message) → IsMessageTo n w m
    → IsMessageTo n w (record m { stamp = stamp })
with_stamp n w stamp m is = record {
  from = is.from;
  to = is.to;
  boot = is.boot;
  echo = is.echo;
  number = is.number;
  height = is.height;
  heard = is.heard;
  distance = is.distance;
}

echo_most : (l : Link) → echo_of l ≤ l.peer
echo_most l = ⊎_elim (λ heard. rw heard (omega arith)) (λ silent. rw silent (omega arith)) (cases_Bool l.is_heard)

-- what is said is true of the router, whatever it had announced
pub is_said_by : (n : Node) (w : ℕ) (m : Message) → IsMessageTo n w m → (h : ℕ → ℕ) → IsHistory n.own h
    → IsSaidBy (router n h) m
is_said_by n w m is h known = record {
  boot = is.boot;
  echo = omega (
    arith,
    is.echo,
    echo_most (link_to n.links.items w),
    ap (λ (v : ℕ). (link_to n.links.items v).peer) is.to,
  );
  number = omega (arith, is.number);
  height = is.height ∙ sym known.last ∙ ap h (sym is.number);
  heard = is.heard ∙ sym (ap (λ (v : ℕ). (link_to n.links.items v).heard) is.to);
}

pub unstamped_same : (m : Message) → m.stamp ≡ 0 → unstamped m ≡ m
unstamped_same m none = ap (λ (s : ℕ). record m { stamp = s }) (sym none)

pub says_unstamped : (w : ℕ) (m : Message) (ls ks : List Link) → m.stamp ≡ 0 → Says w m ls ks
    → Says w (unstamped m) ls ks
says_unstamped w m ls ks none says = subst (λ (k : Message). Says w k ls ks) (sym (unstamped_same m none)) says

pub said_same : (w : ℕ) (m : Message) (ls ks : List Link) → Says w m ls ks → (v : ℕ)
    → KnowsSame (link_to ls v) (link_to ks v)
said_same w m ls ks says v = ⊎_elim
    (λ here. told (subst (λ u. link_to ks u ≡ record (link_to ls u) { said = Some m }) (sym here) says.itself))
    (λ other. same (link_to ls v) (link_to ks v) (says.others v other))
    (same_or_not v w)
  where
    told : link_to ks v ≡ record (link_to ls v) { said = Some m } → KnowsSame (link_to ls v) (link_to ks v)
    told e = record {
      peer = ap (λ (l : Link). l.peer) e;
      stamp = ap (λ (l : Link). l.stamp) e;
      heard = ap (λ (l : Link). l.heard) e;
      seen = ap (λ (l : Link). l.seen) e;
      acked = ap (λ (l : Link). l.acked) e;
    }

-- a call after which the same is known
pub steps_kept : (old new : Node) → new.own ≡ old.own
    → ((w : ℕ) → KnowsSame (link_to old.links.items w) (link_to new.links.items w)) → Steps [] old new
steps_kept old new own knows = steps [] old new (subst (Announces old.own) (sym own) (Announces-none old.own))
    (λ w. takes_none [] old.own.me old.own.boot w (link_to old.links.items w) (link_to new.links.items w) (knows w))

pub steps_said : (w : ℕ) (m : Message) (old new : Node) → new.own ≡ old.own → Says w m old.links.items new.links.items
    → Steps [] old new
steps_said w m old new own says = steps_kept old new own (said_same w m old.links.items new.links.items says)

is_lower_fact : (own : Own) (l : Link) → IsTrue (is_way own l) → (0 < l.heard)
    × IsBelow l.seen l.neighbour own.used own.me
is_lower_fact own l t = grind (arith, nat_tests)

pub way_at : (n : Node) (w i : ℕ) (x : Link) → IsAt n.links.items w i x → n.gateway ≡ false → IsTrue (is_way n.own x)
    → (h : ℕ → ℕ) → IsWay (router n h) n.own.me w
way_at n w i x at router_is t h = record {
  forwards = λ g. true_false (sym router_is ∙ g);
  known = omega (arith, ap (λ (l : Link). l.heard) found, fact.0);
  below = subst (λ v. IsBelow (link_to n.links.items w).seen v n.own.used n.own.me) at.neighbour
      (subst (λ v. IsBelow v x.neighbour n.own.used n.own.me) (sym (ap (λ (l : Link). l.seen) found)) fact.1);
}
  where
    found : link_to n.links.items w ≡ x
    found = found_at n.links.items w i x at

    fact : (0 < x.heard) × IsBelow x.seen x.neighbour n.own.used n.own.me
    fact = is_lower_fact n.own x t

    true_false : false ≡ true → ⊥
    true_false e = cc

pub way_to : (n : Node) (w : ℕ) → sends_to n w ≡ true → (h : ℕ → ℕ) → IsWay (router n h) n.own.me w
way_to n w t h = record {
  forwards = λ g. true_false (parts.0 ∙ g);
  known = fact.0;
  below = subst (λ v. IsBelow (link_to n.links.items w).seen v n.own.used n.own.me)
      (up_leads n.links.items w parts.1) fact.1;
}
  where
    parts : (false ≡ n.gateway) × ((link_to n.links.items w).up ≡ true)
        × IsTrue (is_way n.own (link_to n.links.items w))
    parts = grind (arith, nat_tests, t)

    fact : (0 < (link_to n.links.items w).heard) × IsBelow (link_to n.links.items w).seen
        (link_to n.links.items w).neighbour n.own.used n.own.me
    fact = is_lower_fact n.own (link_to n.links.items w) parts.2

    true_false : false ≡ true → ⊥
    true_false e = cc

pub gate_to : (n : Node) (w : ℕ) → lets_in n w ≡ true → (h : ℕ → ℕ) → IsHistory n.own h → IsOpen (router n h) w
gate_to n w t h known = ⊎_elim (λ g. inl g) (λ answered. inr (record {
  acked = omega (arith, answered, known.begins.0);
  high = λ k since upto. known.used k (omega (arith, answered, since)) upto;
})) parts
  where
    parts : IsTrue n.gateway ⊎ (n.own.used_since ≤ (link_to n.links.items w).acked)
    parts = grind (arith, nat_tests, t)
