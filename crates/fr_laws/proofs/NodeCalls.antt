-- What the calls of a node ensure makes them calls of the laws.
use Rattle.std.proofs.Common.{Bool, List, None, Some, [], ap, arith, cond, eq-eqb, eqb, false, get_or, inl, inr}
use Rattle.std.proofs.Common.{length, length-append, map, ne_eqb, not, refl, subst, suc, sym, true, zero, ℕ, ⊎_elim}
use Rattle.std.proofs.Common.{◌++◌, ◌+◌, ◌<◌, ◌∙◌, ◌∷◌, ◌≡◌}
use Rattle.std.specs.List.{list_any}
use Rattle.std.proofs.Math.Seq.{get_or-append_seam}
use Rattle.std.specs.Global.{Vec}
use Rattle.std.proofs.lemmas.Bool.{cases_eq, cases_lt, cond-false, cond-true}
use Rattle.std.proofs.lemmas.Bool.Decides.{nat_tests}
use Rattle.std.proofs.lemmas.List.{get_or_append_left, get_or_past}
use Rattle.std.proofs.lemmas.List.Folds.{position_or_len_push}
use Rattle.std.proofs.lemmas.List.Sums.{prefix_len-le-length}
use Rattle.fr_node.specs.Events.{IsAfterEvent, unstamped}
use Rattle.fr_node.specs.Links.{Hears, IsKnown, Says, SetsUp, after_tick, is_lost, leads_to, link_to, place_of, unknown}
use Rattle.fr_node.specs.Nodes.{Steps}
use Rattle.fr_node.proofs.Announcing.{true_false}
use Rattle.fr_node.proofs.Stepping.{taken_or_not}
use Rattle.fr_node.proofs.Ticking.{link_to-ticked, steps_ticked}
use Rattle.fr_laws.proofs.ListedOnce.{once_kept}
use Rattle.fr_node.specs.declared.link.Link.{Link}
use Rattle.fr_node.specs.declared.message.Message.{Message}
use Rattle.fr_node.specs.declared.node.Node.{Node}
use Rattle.fr_node.specs.declared.own.Own.{Own}
use Rattle.fr_laws.specs.Announcements.{ActingIsACall, AreListedOnce, HearingIsACall, IsAsSaid, IsCall, KnowingIsACall}
use Rattle.fr_laws.specs.Announcements.{LinksStayAsSaid, RepeatingIsACall, SayingIsACall, TickingIsACall}
use Rattle.fr_laws.specs.Announcements.{WritingIsACall}

-- the same links are known
alike : (ls ks : List Link) (w : ℕ) → ks ≡ ls → (link_to ks w).up ≡ (link_to ls w).up
alike ls ks w e = ap (λ (js : List Link). (link_to js w).up) e

hearing_up : (own : Own) (m : Message) (ls ks : List Link) → (link_to ls m.from).up ≡ (link_to ls m.from).carrier
    → Hears own m ls ks → (w : ℕ) → (link_to ks w).up ≡ (link_to ls w).up
hearing_up own m ls ks said h w = ⊎_elim
    (λ e. subst (λ (v : ℕ). (link_to ks v).up ≡ (link_to ls v).up) (sym e) here)
    (λ other. ap (λ (l : Link). l.up) (h.others w other))
    (cases_eq w m.from)
  where
    here : (link_to ks m.from).up ≡ (link_to ls m.from).up
    here = ⊎_elim
        (λ taken. ⊎_elim
        (λ both. ((h.taken taken).both_ways both).0 ∙ sym said)
        (λ one. (h.taken taken).one_way one)
        (cases_eq m.echo own.boot))
        (λ none. alike ls ks m.from (h.ignored none))
        (taken_or_not own m ls)

repeating_up : (w : ℕ) (up : Bool) (ls ks : List Link) → (IsKnown ls w → up ≡ (link_to ls w).up)
    → SetsUp w up ls ks → (v : ℕ) → (link_to ks v).up ≡ (link_to ls v).up
repeating_up w up ls ks same sets v = ⊎_elim
    (λ e. subst (λ (u : ℕ). (link_to ks u).up ≡ (link_to ls u).up) (sym e) here)
    (λ other. ap (λ (l : Link). l.up) (sets.others v other))
    (cases_eq v w)
  where
    here : (link_to ks w).up ≡ (link_to ls w).up
    here = ⊎_elim
        (λ known. ap (λ (l : Link). l.up) (sets.itself known) ∙ same known)
        (λ past. alike ls ks w (sets.stranger (λ known. omega (arith, past, known))))
        (cases_lt (place_of ls w) (length ls))

saying_up : (w : ℕ) (m : Message) (ls ks : List Link) → Says w m ls ks
    → (v : ℕ) → (link_to ks v).up ≡ (link_to ls v).up
saying_up w m ls ks says v = ⊎_elim
    (λ e. subst (λ (u : ℕ). (link_to ks u).up ≡ (link_to ls u).up) (sym e) (ap (λ (l : Link). l.up) says.itself))
    (λ other. ap (λ (l : Link). l.up) (says.others v other))
    (cases_eq v w)

-- a new link to router w, which is down
abbrev added : (w cost : ℕ) → Link
added w cost = record unknown { neighbour = w; cost = cost }

-- a link to a stranger is added
module _ (ls : List Link) (w cost : ℕ) (stranger : ¬ IsKnown ls w) where
  long : length (ls ++ added w cost ∷ []) ≡ length ls + 1
  long = simp length-append (omega arith)

  place : (v : ℕ) → place_of (ls ++ added w cost ∷ []) v
      ≡ cond (eqb (place_of ls v) (length ls)) (length ls + cond (eqb w v) 0 1) (place_of ls v)
  place v = position_or_len_push (leads_to v) ls (added w cost)

  place_before : (v : ℕ) → place_of ls v < length ls
      → place_of (ls ++ added w cost ∷ []) v ≡ place_of ls v
  place_before v known = place v ∙ cond-false _ _ _ (ne_eqb (place_of ls v) (length ls) (λ e. omega (arith, e, known)))

  -- what was listed stays where it is, and the new link comes last
  place_there : (v : ℕ) → ¬ (place_of ls v < length ls)
      → place_of (ls ++ added w cost ∷ []) v ≡ length ls + cond (eqb w v) 0 1
  place_there v out = place v ∙ cond-true _ _ _ (eq-eqb (place_of ls v) (length ls) (omega (
    arith,
    prefix_len-le-length (λ (l : Link). not (leads_to v l)) ls,
    ⊎_elim (λ known. absurd (out known)) (λ past. past) (cases_lt (place_of ls v) (length ls)),
  )))

  knowing_once : AreListedOnce ls → AreListedOnce (ls ++ added w cost ∷ [])
  knowing_once once i within = ⊎_elim
      (λ old. subst (λ (l : Link). place_of (ls ++ added w cost ∷ []) l.neighbour ≡ i)
      (sym (get_or_append_left ls (added w cost ∷ []) unknown i old))
      (place_before (get_or ls i unknown).neighbour (omega (arith, once i old, old)) ∙ once i old))
      (λ past. let here : i ≡ length ls = omega (arith, past, within, long) in
      subst (λ (k : ℕ). place_of (ls ++ added w cost ∷ [])
      (get_or (ls ++ added w cost ∷ []) k unknown).neighbour ≡ k) (sym here)
      (subst (λ (l : Link). place_of (ls ++ added w cost ∷ []) l.neighbour ≡ length ls)
      (sym (get_or-append_seam ls (added w cost) [] unknown))
      (omega (arith, place_there w stranger, ap {B = ℕ} (λ (b : Bool). cond b 0 1) (eq-eqb w w refl)))))
      (cases_lt i (length ls))

  -- what is false of a link of which nothing is known
  module _ (of : Link → Bool) (fresh : of unknown ≡ false) (named : of (added w cost) ≡ false) where
    knowing_keeps : (v : ℕ) → of (link_to (ls ++ added w cost ∷ []) v) ≡ of (link_to ls v)
    knowing_keeps v = ⊎_elim
        (λ known. ap of (ap (λ (k : ℕ). get_or (ls ++ added w cost ∷ []) k unknown)
        (place_before v known)
        ∙ get_or_append_left ls (added w cost ∷ []) unknown (place_of ls v) known))
        (λ past. not_new (λ known. omega (arith, known, past))
        ∙ sym (ap of (get_or_past ls (place_of ls v) unknown past) ∙ fresh))
        (cases_lt (place_of ls v) (length ls))
      where
        at : (k : ℕ) (l : Link) → get_or (ls ++ added w cost ∷ []) k unknown ≡ l → of l ≡ false
            → place_of (ls ++ added w cost ∷ []) v ≡ k
            → of (link_to (ls ++ added w cost ∷ []) v) ≡ false
        at k l is absent e = ap of (ap (λ (j : ℕ). get_or (ls ++ added w cost ∷ []) j unknown) e ∙ is)
            ∙ absent

        not_new : ¬ (place_of ls v < length ls) → of (link_to (ls ++ added w cost ∷ []) v) ≡ false
        not_new out = ⊎_elim
            (λ e. at (length ls) (added w cost)
            (get_or-append_seam ls (added w cost) [] unknown) named
            (omega (arith, place_there v out, ap {B = ℕ} (λ (b : Bool). cond b 0 1) (eq-eqb w v e))))
            (λ other. at (length ls + 1) unknown
            (get_or_past (ls ++ added w cost ∷ []) (length ls + 1) unknown (omega (arith, long)))
            fresh
            (omega (arith, place_there v out, ap {B = ℕ} (λ (b : Bool). cond b 0 1) (ne_eqb w v other))))
            (cases_eq w v)

  knowing_up : (v : ℕ) → (link_to (ls ++ added w cost ∷ []) v).up ≡ (link_to ls v).up
  knowing_up = knowing_keeps (λ l. l.up) refl refl

  knowing_carrier : (v : ℕ) → (link_to (ls ++ added w cost ∷ []) v).carrier ≡ (link_to ls v).carrier
  knowing_carrier = knowing_keeps (λ l. l.carrier) refl refl

pub taking_is_a_call : (m : Message) (old new : Node) → IsAsSaid old m.from
    → Hears old.own m old.links.items new.links.items → IsAfterEvent (m ∷ []) old new → IsCall (m ∷ []) old new
taking_is_a_call m old new said hears event = record {
  same = event.same;
  once = once_kept old.links.items new.links.items hears.neighbours;
  up = hearing_up old.own m old.links.items new.links.items said hears;
  step = event.step;
  acts = inl event.policy;
}

pub repeating_is_a_call : RepeatingIsACall
repeating_is_a_call w up old new repeats sets event = record {
  same = event.same;
  once = once_kept old.links.items new.links.items sets.neighbours;
  up = repeating_up w up old.links.items new.links.items repeats sets;
  step = event.step;
  acts = inl event.policy;
}

-- a call after which the node knows what it knew
pub rests : (messages : List Message) (n : Node) (written : Bool)
    → IsCall messages n (record n { is_written = written })
rests messages n written = record {
  same = (refl, refl);
  once = λ once. once;
  up = λ w. refl;
  step = record {
    me = refl;
    goes_on = λ h known. (
      h,
      known,
      record {
        boot = refl;
        number = omega arith;
        announced = λ k l. refl;
        start = λ w. (omega arith, inl refl);
        height = λ w. inl (refl, refl, refl);
        answer = λ w. inl (refl, refl);
      },
    );
  };
  acts = inr refl;
}

pub writing_is_a_call : WritingIsACall
writing_is_a_call old new e = subst (IsCall [] old) (sym e) (rests [] old true)

-- a call that changes nothing
unchanged : (messages : List Message) (old new : Node) → new ≡ old → IsCall messages old new
unchanged messages old new e = subst (IsCall messages old) (sym e) (rests messages old old.is_written)

pub hearing_is_a_call : HearingIsACall
hearing_is_a_call m old new said hears taken ignored = ⊎_elim
    (λ is. taking_is_a_call m old new said hears (taken is))
    (λ none. unchanged (m ∷ []) old new (ignored none))
    (taken_or_not old.own m old.links.items)

pub acting_is_a_call : ActingIsACall
acting_is_a_call true old new links event same = record {
  same = (event refl).same;
  once = subst (λ (ls : Vec Link). AreListedOnce old.links.items → AreListedOnce ls.items) (sym links) (λ once. once);
  up = λ w. ap (λ (ls : Vec Link). (link_to ls.items w).up) links;
  step = (event refl).step;
  acts = inl (event refl).policy;
}
acting_is_a_call false old new links event same = unchanged [] old new (same true_false)

-- a call after which the node knows of itself what it knew
only_links : (old new : Node) → new ≡ record old { links = new.links; stamp = new.stamp }
    → (AreListedOnce old.links.items → AreListedOnce new.links.items)
    → ((w : ℕ) → (link_to new.links.items w).up ≡ (link_to old.links.items w).up) → Steps [] old new
    → IsCall [] old new
only_links old new rest once up step = record {
  same = (ap (λ (a : Node). a.gateway) rest, ap (λ (a : Node). a.policy) rest);
  once = once;
  up = up;
  step = step;
  acts = inr (ap (λ (a : Node). a.own) rest);
}

pub saying_is_a_call : SayingIsACall
saying_is_a_call w None old new says = unchanged [] old new says.none
saying_is_a_call w (Some m) old new says = only_links old new
    (says.none
    ∙ ap (λ (s : ℕ). record old { links = new.links; stamp = s }) (sym (ap (λ (n : Node). n.stamp) says.none)))
    (once_kept old.links.items new.links.items says.message.said.neighbours)
    (saying_up w (unstamped m) old.links.items new.links.items says.message.said) says.step

-- the stamp stays too
stamp_kept : (old new : Node) → new ≡ record old { links = new.links }
    → new ≡ record old { links = new.links; stamp = new.stamp }
stamp_kept old new rest = rest
    ∙ ap (λ (s : ℕ). record old { links = new.links; stamp = s }) (sym (ap (λ (n : Node). n.stamp) rest))

pub knowing_is_a_call : KnowingIsACall
knowing_is_a_call w cost old new (inl e) rest step = only_links old new (stamp_kept old new rest)
    (subst AreListedOnce (sym e)) (λ v. alike old.links.items new.links.items v e) step
knowing_is_a_call w cost old new (inr (stranger, e)) rest step = only_links old new (stamp_kept old new rest)
    (λ once. subst AreListedOnce (sym e) (knowing_once old.links.items w cost stranger once))
    (λ v. alike _ new.links.items v e ∙ knowing_up old.links.items w cost stranger v) step

-- a tick that ends for none of these links that it counts as up
ticking_up : (patience : ℕ) (ls : List Link) → list_any (is_lost patience) ls ≡ false
    → (w : ℕ) → (link_to (map (after_tick patience) ls) w).up ≡ (link_to ls w).up
ticking_up patience ls none w = ap (λ (l : Link). l.up) (link_to-ticked patience ls w) ∙ lasts_up (link_to ls w) kept
  where
    lasts_up : (l : Link) → is_lost patience l ≡ false → (after_tick patience l).up ≡ l.up
    lasts_up l lost = grind (arith, nat_tests, lost)

    all : (ks : List Link) → list_any (is_lost patience) ks ≡ false → (i : ℕ) → i < length ks
        → is_lost patience (get_or ks i unknown) ≡ false
    all [] over i within = absurd (omega (arith, within))
    all (k ∷ ks) over zero within = grind (arith, over)
    all (k ∷ ks) over (suc i) within = all ks (grind (arith, over)) i (omega (arith, within))

    kept : is_lost patience (link_to ls w) ≡ false
    kept = ⊎_elim
        (λ known. all ls none (place_of ls w) known)
        (λ past. subst (λ (l : Link). is_lost patience l ≡ false) (sym (get_or_past ls (place_of ls w) unknown past))
        refl)
        (cases_lt (place_of ls w) (length ls))

neighbours_ticked : (patience : ℕ) (ls : List Link)
    → map (λ (l : Link). l.neighbour) (map (after_tick patience) ls) ≡ map (λ (l : Link). l.neighbour) ls
neighbours_ticked patience [] = refl
neighbours_ticked patience (l ∷ ls) = rw (neighbours_ticked patience ls) refl

pub ticking_is_a_call : TickingIsACall
ticking_is_a_call patience old new ticked none rest = only_links old new (stamp_kept old new rest)
    (subst (λ ls. AreListedOnce old.links.items → AreListedOnce ls) (sym ticked)
    (once_kept old.links.items (map (after_tick patience) old.links.items)
    (neighbours_ticked patience old.links.items)))
    (λ w. ap (λ ls. (link_to ls w).up) ticked ∙ ticking_up patience old.links.items none w)
    (steps_ticked patience old new (ap (λ (n : Node). n.own) rest) ticked)

-- the link to w counts as up exactly if the caller has said so
AsSaid : List Link → ℕ → Type 0
AsSaid ls w = (link_to ls w).up ≡ (link_to ls w).carrier

equal_said : (ls ks : List Link) (w : ℕ) → link_to ks w ≡ link_to ls w → AsSaid ls w → AsSaid ks w
unfolding AsSaid
equal_said ls ks w e = subst (λ (l : Link). l.up ≡ l.carrier) (sym e)

hearing_said : (own : Own) (m : Message) (ls ks : List Link) → Hears own m ls ks → (w : ℕ) → AsSaid ls w → AsSaid ks w
unfolding AsSaid
hearing_said own m ls ks h w was = ⊎_elim
    (λ here. subst (AsSaid ks) (sym here) (at_from (subst (AsSaid ls) here was)))
    (λ other. equal_said ls ks w (h.others w other) was)
    (cases_eq w m.from)
  where
    at_from : AsSaid ls m.from → AsSaid ks m.from
    at_from said = ⊎_elim
        (λ taken. let is = h.taken taken in ⊎_elim
        (λ both. (is.both_ways both).0 ∙ sym is.carrier)
        (λ one. is.one_way one ∙ said ∙ sym is.carrier)
        (cases_eq m.echo own.boot))
        (λ none. equal_said ls ks m.from (ap (λ (js : List Link). link_to js m.from) (h.ignored none)) said)
        (taken_or_not own m ls)

saying_said : (v : ℕ) (m : Message) (ls ks : List Link) → Says v m ls ks → (w : ℕ) → AsSaid ls w → AsSaid ks w
unfolding AsSaid
saying_said v m ls ks says w was = ⊎_elim
    (λ here. subst (AsSaid ks) (sym here)
    (subst (λ (l : Link). l.up ≡ l.carrier) (sym says.itself) (subst (AsSaid ls) here was)))
    (λ other. equal_said ls ks w (says.others w other) was)
    (cases_eq w v)

setting_said : (v : ℕ) (up : Bool) (ls ks : List Link) → SetsUp v up ls ks → (w : ℕ) → AsSaid ls w → AsSaid ks w
unfolding AsSaid
setting_said v up ls ks sets w was = ⊎_elim
    (λ here. ⊎_elim
    (λ known. subst (AsSaid ks) (sym here) (subst (λ (l : Link). l.up ≡ l.carrier) (sym (sets.itself known)) refl))
    (λ past. equal_said ls ks w
    (ap (λ (js : List Link). link_to js w) (sets.stranger (λ known. omega (arith, past, known)))) was)
    (cases_lt (place_of ls v) (length ls)))
    (λ other. equal_said ls ks w (sets.others w other) was)
    (cases_eq w v)

pub links_stay_as_said : LinksStayAsSaid
unfolding AsSaid
links_stay_as_said n k w (inl kept) was =
    equal_said n.links.items k.links.items w (ap (λ (ls : List Link). link_to ls w) kept) was
links_stay_as_said n k w (inr (inl (v, m, says))) was = saying_said v m n.links.items k.links.items says w was
links_stay_as_said n k w (inr (inr (inl (v, cost, stranger, more)))) was =
    ap (λ (ls : List Link). (link_to ls w).up) more ∙ knowing_up n.links.items v cost stranger w ∙ was
    ∙ sym (ap (λ (ls : List Link). (link_to ls w).carrier) more ∙ knowing_carrier n.links.items v cost stranger w)
links_stay_as_said n k w (inr (inr (inr (inl (patience, ticked, none))))) was =
    ap (λ (ls : List Link). (link_to ls w).up) ticked ∙ ticking_up patience n.links.items none w ∙ was
    ∙ sym (ap (λ (ls : List Link). (link_to ls w).carrier) ticked
    ∙ ap (λ (l : Link). l.carrier) (link_to-ticked patience n.links.items w))
links_stay_as_said n k w (inr (inr (inr (inr (inl (m, hears)))))) was =
    hearing_said n.own m n.links.items k.links.items hears w was
links_stay_as_said n k w (inr (inr (inr (inr (inr (v, up, sets)))))) was =
    setting_said v up n.links.items k.links.items sets w was
