-- For how long a neighbour may be silent or seem deaf.
use Rattle.std.proofs.Common.{[], Bool, List, Some, ap, arith, false, inl, inr, length, map, refl, subst, sym, true, ℕ}
use Rattle.std.proofs.Common.{⊎_elim, ◌+◌, ◌^◌}
use Rattle.std.proofs.Common.{◌∷◌, ◌<◌, ◌∙◌, ◌≡◌, ◌≤◌, ◌⊎◌}
use Rattle.std.specs.List.{Contains}
use Rattle.std.proofs.lemmas.Bool.{cases_lt}
use Rattle.std.proofs.lemmas.Bool.Decides.{nat_tests}
use Rattle.std.proofs.lemmas.List.Elements.{All-contains_itself, All-weaker}
use Rattle.fr_node.specs.declared.link.Link.{Link}
use Rattle.fr_node.specs.declared.message.Message.{Message}
use Rattle.fr_node.specs.declared.node.Node.{Node}
use Rattle.fr_node.specs.Daemons.{KeepsLinks}
use Rattle.fr_node.specs.Links.{Hears, IsTaken, SetsCost, SetsUp, after_tick, echo_of, is_lower, lasts, link_to, one_more}
use Rattle.fr_node.specs.Links.{place_of, with_carrier}
use Rattle.fr_node.specs.OneWay.{DeafLinksAreLost, DeafLinksHoldNothingBack, HasTicks, IsDeafCall, IsForAnotherStart}
use Rattle.fr_node.specs.OneWay.{IsSilentCall, LastsFor, SilenceIsTold}
use Rattle.fr_node.specs.Repeats.{last_node}
use Rattle.fr_node.proofs.Announcing.{true_false}
use Rattle.fr_node.proofs.Daemons.{known_alike, nameless}
use Rattle.fr_node.proofs.Stepping.{same_or_not, taken_or_not}
use Rattle.fr_node.proofs.Ticking.{link_to-ticked}

-- it is not so, or it has lasted for c ticks at least, which are fewer than the patience
Waits : (patience c : ℕ) → Bool → ℕ → Type 0
Waits patience c is_so ticks = (is_so ≡ false) ⊎ ((c < patience) × (c ≤ ticks))

waits_on : (patience c : ℕ) (is_so was : Bool) (ticks before : ℕ) → is_so ≡ was → ticks ≡ before
    → Waits patience c was before → Waits patience c is_so ticks
unfolding Waits
waits_on patience c is_so was ticks before same even (inl over) = inl (same ∙ over)
waits_on patience c is_so was ticks before same even (inr waits) = inr (waits.0, omega (arith, even, waits.1))

-- one tick more, with this patience, and one with any
longer : (patience c : ℕ) (is_so : Bool) (ticks : ℕ) → patience < 2 ^ 32 → Waits patience c is_so ticks
    → Waits patience (c + 1) (lasts is_so ticks patience) (one_more is_so ticks)
unfolding Waits
longer patience c false ticks fits was = inl refl
longer patience c true ticks fits (inl over) = absurd (true_false (sym over))
longer patience c true ticks fits (inr waits) = ⊎_elim
    (λ more. inr (omega (arith, waits.1, more), omega (arith, waits.1, more, fits)))
    (λ past. inl (grind (arith, nat_tests, past)))
    (cases_lt (ticks + 1) patience)

longer_too : (patience other c : ℕ) (is_so : Bool) (ticks : ℕ) → patience < 2 ^ 32 → Waits patience c is_so ticks
    → Waits patience c (lasts is_so ticks other) (one_more is_so ticks)
unfolding Waits
longer_too patience other c false ticks fits was = inl refl
longer_too patience other c true ticks fits (inl over) = absurd (true_false (sym over))
longer_too patience other c true ticks fits (inr waits) = inr (waits.0, omega (arith, fits, waits.0, waits.1))

-- what a tick ends, and its ticks
record IsCounted (flag : Link → Bool) (count : Link → ℕ) : Type 0 where
  flag_tick : (patience : ℕ) (l : Link) → flag (after_tick patience l) ≡ lasts (flag l) (count l) patience
  count_tick : (patience : ℕ) (l : Link) → count (after_tick patience l) ≡ one_more (flag l) (count l)
  flag_said : (m : Message) (l : Link) → flag (record l { said = Some m }) ≡ flag l
  count_said : (m : Message) (l : Link) → count (record l { said = Some m }) ≡ count l
  flag_nameless : (l : Link) → flag (nameless l) ≡ flag l
  count_nameless : (l : Link) → count (nameless l) ≡ count l

deafness : IsCounted (λ l. l.up) (λ l. l.deaf)
deafness = record {
  flag_tick = λ patience l. refl;
  count_tick = λ patience l. refl;
  flag_said = λ m l. refl;
  count_said = λ m l. refl;
  flag_nameless = λ l. refl;
  count_nameless = λ l. refl;
}

silence : IsCounted (λ l. l.is_heard) (λ l. l.silent)
silence = record {
  flag_tick = λ patience l. refl;
  count_tick = λ patience l. refl;
  flag_said = λ m l. refl;
  count_said = λ m l. refl;
  flag_nameless = λ l. refl;
  count_nameless = λ l. refl;
}

module _ (flag : Link → Bool) (count : Link → ℕ) (is : IsCounted flag count) (patience w : ℕ)
    (fits : patience < 2 ^ 32) where
  HasWaited : ℕ → List Link → Type 0
  HasWaited c ls = Waits patience c (flag (link_to ls w)) (count (link_to ls w))

  alike : (c : ℕ) (ls ks : List Link) → flag (link_to ks w) ≡ flag (link_to ls w)
      → count (link_to ks w) ≡ count (link_to ls w) → HasWaited c ls → HasWaited c ks
  unfolding HasWaited
  alike c ls ks f n = waits_on patience c (flag (link_to ks w)) (flag (link_to ls w)) (count (link_to ks w))
      (count (link_to ls w)) f n

  equal : (c : ℕ) (ls ks : List Link) → link_to ks w ≡ link_to ls w → HasWaited c ls → HasWaited c ks
  equal c ls ks e = alike c ls ks (ap flag e) (ap count e)

  ticks : (c : ℕ) (ls ks : List Link) → ks ≡ map (after_tick patience) ls → HasWaited c ls → HasWaited (c + 1) ks
  unfolding HasWaited
  ticks c ls ks e was =
      waits_on patience (c + 1) (flag (link_to ks w)) (lasts (flag (link_to ls w)) (count (link_to ls w)) patience)
      (count (link_to ks w)) (one_more (flag (link_to ls w)) (count (link_to ls w)))
      (ap flag there ∙ is.flag_tick patience (link_to ls w)) (ap count there ∙ is.count_tick patience (link_to ls w))
      (longer patience c (flag (link_to ls w)) (count (link_to ls w)) fits was)
    where
      there : link_to ks w ≡ after_tick patience (link_to ls w)
      there = ap (λ js. link_to js w) e ∙ link_to-ticked patience ls w

  ticks_too : (other c : ℕ) (ls ks : List Link) → ks ≡ map (after_tick other) ls → HasWaited c ls → HasWaited c ks
  unfolding HasWaited
  ticks_too other c ls ks e was =
      waits_on patience c (flag (link_to ks w)) (lasts (flag (link_to ls w)) (count (link_to ls w)) other)
      (count (link_to ks w)) (one_more (flag (link_to ls w)) (count (link_to ls w)))
      (ap flag there ∙ is.flag_tick other (link_to ls w)) (ap count there ∙ is.count_tick other (link_to ls w))
      (longer_too patience other c (flag (link_to ls w)) (count (link_to ls w)) fits was)
    where
      there : link_to ks w ≡ after_tick other (link_to ls w)
      there = ap (λ js. link_to js w) e ∙ link_to-ticked other ls w

  kept : (c : ℕ) (n k : Node) → KeepsLinks n k → HasWaited c n.links.items → HasWaited c k.links.items
  kept c n k (inl all) = equal c n.links.items k.links.items (ap (λ ls. link_to ls w) all)
  kept c n k (inr (inl (v, m, says))) = ⊎_elim
      (λ here. said (subst (λ u. link_to k.links.items u
      ≡ record (link_to n.links.items u) { said = Some m }) (sym here)
      says.itself))
      (λ other. equal c n.links.items k.links.items (says.others w other))
      (same_or_not w v)
    where
      said : link_to k.links.items w ≡ record (link_to n.links.items w) { said = Some m }
          → HasWaited c n.links.items → HasWaited c k.links.items
      said e = alike c n.links.items k.links.items (ap flag e ∙ is.flag_said m (link_to n.links.items w))
          (ap count e ∙ is.count_said m (link_to n.links.items w))
  kept c n k (inr (inr (inl (v, cost, more)))) = alike c n.links.items k.links.items
      (sym (is.flag_nameless (link_to k.links.items w)) ∙ ap flag same ∙ is.flag_nameless (link_to n.links.items w))
      (sym (is.count_nameless (link_to k.links.items w)) ∙ ap count same ∙ is.count_nameless (link_to n.links.items w))
    where
      same : nameless (link_to k.links.items w) ≡ nameless (link_to n.links.items w)
      same = ap (λ ls. nameless (link_to ls w)) more ∙ known_alike n.links.items v cost w
  kept c n k (inr (inr (inr (other, ticked)))) = ticks_too other c n.links.items k.links.items ticked

  costs : (c v cost : ℕ) (ls ks : List Link) → SetsCost v cost ls ks → HasWaited c ls → HasWaited c ks
  costs c v cost ls ks s = alike c ls ks
      (sym (is.flag_nameless (link_to ks w)) ∙ ap flag same ∙ is.flag_nameless (link_to ls w))
      (sym (is.count_nameless (link_to ks w)) ∙ ap count same ∙ is.count_nameless (link_to ls w))
    where
      same : nameless (link_to ks w) ≡ nameless (link_to ls w)
      same = ⊎_elim
          (λ here. ⊎_elim
          (λ known. subst (λ u. nameless (link_to ks u) ≡ nameless (link_to ls u)) (sym here) (ap nameless (s.itself known)))
          (λ past. ap (λ js. nameless (link_to js w)) (s.stranger (λ known. omega (arith, past, known))))
          (cases_lt (place_of ls v) (length ls)))
          (λ other. ap nameless (s.others w other))
          (same_or_not w v)

  module _ (Call : Node → Node → Type 0)
      (called : (c : ℕ) (n k : Node) → Call n k → HasWaited c n.links.items → HasWaited c k.links.items) where
    calls : (c more : ℕ) (n : Node) (ks : List Node) → HasTicks Call patience more n ks → HasWaited c n.links.items
        → HasWaited (c + more) (last_node n ks).links.items
    calls c more n [] none was = subst (λ d. HasWaited d n.links.items) (omega (arith, none)) was
    calls c more n (k ∷ ks) (inl (call, rest)) was = calls c more k ks rest (called c n k call was)
    calls c more n (k ∷ ks) (inr (ticked, counted)) was =
        subst (λ d. HasWaited d (last_node k ks).links.items) (omega (arith, counted.1))
        (calls (c + 1) counted.0 k ks counted.2 (ticks c n.links.items k.links.items ticked was))

    ends : (n : Node) (ks : List Node) → LastsFor Call patience n ks
        → flag (link_to (last_node n ks).links.items w) ≡ false
    unfolding HasWaited Waits
    ends n ks s = ⊎_elim (λ over. over) (λ waits. absurd (omega (arith, waits.0, s.enough)))
        (calls 0 s.ticks n ks s.calls (inr (s.some.0, omega arith)))

module _ (patience w : ℕ) (fits : patience < 2 ^ 32) where
  Seems : ℕ → List Link → Type 0
  Seems = HasWaited (λ l. l.up) (λ l. l.deaf) deafness patience w fits

  Silent : ℕ → List Link → Type 0
  Silent = HasWaited (λ l. l.is_heard) (λ l. l.silent) silence patience w fits

  heard_deaf : (c : ℕ) (n : Node) (m : Message) (ks : List Link) → Hears n.own m n.links.items ks
      → (m.from ≡ w → IsTaken n.own m n.links.items → IsForAnotherStart n m) → Seems c n.links.items → Seems c ks
  unfolding Seems
  heard_deaf c n m ks h nothing = ⊎_elim
      (λ here. ⊎_elim
      (λ t. let says = nothing (sym here) t in
      alike (λ l. l.up) (λ l. l.deaf) deafness patience w fits c n.links.items ks
      (subst (λ v. (link_to ks v).up ≡ (link_to n.links.items v).up) (sym here) ((h.taken t).one_way says.0))
      (subst (λ v. (link_to ks v).deaf ≡ (link_to n.links.items v).deaf) (sym here)
      ((h.taken t).deaf says.0 (sym says.1))))
      (λ none. same (ap (λ ls. link_to ls w) (h.ignored none)))
      (taken_or_not n.own m n.links.items))
      (λ other. same (h.others w other))
      (same_or_not w m.from)
    where
      same : link_to ks w ≡ link_to n.links.items w
          → HasWaited (λ l. l.up) (λ l. l.deaf) deafness patience w fits c n.links.items
          → HasWaited (λ l. l.up) (λ l. l.deaf) deafness patience w fits c ks
      same = equal (λ l. l.up) (λ l. l.deaf) deafness patience w fits c n.links.items ks

  set_deaf : (c v : ℕ) (up : Bool) (ls ks : List Link) → SetsUp v up ls ks → (v ≡ w → up ≡ false) → Seems c ls
      → Seems c ks
  unfolding Seems HasWaited Waits
  set_deaf c v up ls ks s down = ⊎_elim
      (λ here. ⊎_elim
      (λ known _. inl (ap (λ (l : Link). l.up) (subst (λ u. link_to ks u ≡ with_carrier up (link_to ls u)) (sym here)
      (s.itself known)) ∙ down (sym here)))
      (λ past. same (ap (λ js. link_to js w) (s.stranger (λ known. omega (arith, past, known)))))
      (cases_lt (place_of ls v) (length ls)))
      (λ other. same (s.others w other))
      (same_or_not w v)
    where
      same : link_to ks w ≡ link_to ls w → HasWaited (λ l. l.up) (λ l. l.deaf) deafness patience w fits c ls
          → HasWaited (λ l. l.up) (λ l. l.deaf) deafness patience w fits c ks
      same = equal (λ l. l.up) (λ l. l.deaf) deafness patience w fits c ls ks

  deaf_call : (c : ℕ) (n k : Node) → IsDeafCall w n k → Seems c n.links.items → Seems c k.links.items
  unfolding Seems
  deaf_call c n k (inl keeps) = kept (λ l. l.up) (λ l. l.deaf) deafness patience w fits c n k keeps
  deaf_call c n k (inr (inl (m, hears, nothing))) = heard_deaf c n m k.links.items hears nothing
  deaf_call c n k (inr (inr (inl (v, up, sets, down)))) = set_deaf c v up n.links.items k.links.items sets down
  deaf_call c n k (inr (inr (inr (v, cost, sets)))) =
      costs (λ l. l.up) (λ l. l.deaf) deafness patience w fits c v cost n.links.items k.links.items sets

  silent_call : (c : ℕ) (n k : Node) → IsSilentCall w n k → Silent c n.links.items → Silent c k.links.items
  unfolding Silent
  silent_call c n k (inl keeps) = kept (λ l. l.is_heard) (λ l. l.silent) silence patience w fits c n k keeps
  silent_call c n k (inr (inl (m, h, nothing))) = equal (λ l. l.is_heard) (λ l. l.silent) silence patience w fits c
      n.links.items k.links.items (⊎_elim
      (λ here. ap (λ ls. link_to ls w) (h.ignored (nothing (sym here))))
      (λ other. h.others w other)
      (same_or_not w m.from))
  silent_call c n k (inr (inr (inr (v, cost, sets)))) =
      costs (λ l. l.is_heard) (λ l. l.silent) silence patience w fits c v cost n.links.items k.links.items sets
  silent_call c n k (inr (inr (inl (v, up, s)))) = ⊎_elim
      (λ here. ⊎_elim
      (λ known. let e = subst (λ u. link_to k.links.items u ≡ with_carrier up (link_to n.links.items u)) (sym here)
      (s.itself known) in
      alike (λ l. l.is_heard) (λ l. l.silent) silence patience w fits c n.links.items k.links.items
      (ap (λ (l : Link). l.is_heard) e) (ap (λ (l : Link). l.silent) e))
      (λ past. same (ap (λ js. link_to js w) (s.stranger (λ known. omega (arith, past, known)))))
      (cases_lt (place_of n.links.items v) (length n.links.items)))
      (λ other. same (s.others w other))
      (same_or_not w v)
    where
      same : link_to k.links.items w ≡ link_to n.links.items w
          → HasWaited (λ l. l.is_heard) (λ l. l.silent) silence patience w fits c n.links.items
          → HasWaited (λ l. l.is_heard) (λ l. l.silent) silence patience w fits c k.links.items
      same = equal (λ l. l.is_heard) (λ l. l.silent) silence patience w fits c n.links.items k.links.items

pub deaf_links_are_lost : DeafLinksAreLost
unfolding Seems
deaf_links_are_lost patience w n ks s = ends (λ l. l.up) (λ l. l.deaf) deafness patience w s.some.1 (IsDeafCall w)
    (deaf_call patience w s.some.1) n ks s

pub deaf_links_hold_nothing_back : DeafLinksHoldNothingBack
deaf_links_hold_nothing_back patience n ks holds = All-weaker (Contains ls)
    (λ l. l.up ≡ true → (0 < l.heard) × (is_lower (last_node n ks).own l ≡ false))
    (λ l listed up. let it = holds l listed in ⊎_elim (λ heard. heard)
    (λ deaf. absurd (true_false (sym (deaf_links_are_lost patience l.neighbour n ks deaf)
    ∙ ap (λ (j : Link). j.up) it.once ∙ up)))
    it.why)
    ls (All-contains_itself ls)
  where
    ls : List Link
    ls = (last_node n ks).links.items

pub silence_is_told : SilenceIsTold
unfolding Silent
silence_is_told patience w n ks s m says = says.echo ∙ none (link_to (last_node n ks).links.items w)
    (ends (λ l. l.is_heard) (λ l. l.silent) silence patience w s.some.1 (IsSilentCall w)
    (silent_call patience w s.some.1) n ks s)
  where
    none : (l : Link) → l.is_heard ≡ false → echo_of l ≡ 0
    none l over = rw over refl
