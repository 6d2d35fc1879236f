-- What one call of a node announces.
use Rattle.std.proofs.Common.{ap, arith, false, inl, inr, refl, subst, sym, true, ℕ, ⊎_elim, ◌+◌, ◌<◌, ◌≡◌, ◌⊎◌}
use Rattle.std.proofs.Common.{◌∙◌}
use Rattle.std.specs.List.{Contains}
use Rattle.std.proofs.lemmas.Bool.{cases_eq}
use Rattle.std.proofs.lemmas.Bool.Decides.{nat_tests}
use Rattle.std.proofs.lemmas.List.Elements.{All-contains}
use Rattle.fr_node.specs.declared.link.Link.{Link}
use Rattle.fr_node.specs.declared.node.Node.{Node}
use Rattle.fr_node.specs.declared.own.Own.{Own}
use Rattle.fr_node.specs.declared.policy.Rise.{Rise}
use Rattle.fr_node.specs.declared.message.TheConstants.{CUT_OFF}
use Rattle.fr_node.specs.declared.policy.Rise.TheVariants.{Full, Top}
use Rattle.fr_node.specs.Links.{is_lower, is_offer, is_way, offer_of}
use Rattle.fr_node.specs.Policies.{Acts, Announcement, IsAboveAll, IsAtDistance, IsAtOffer, IsAtTop, Lowers, Raises}
use Rattle.fr_node.specs.Policies.{Settles, falls_to, is_higher, is_up, rises_to}
use Rattle.fr_node.specs.Routers.{IsBelow}
use Rattle.fr_node.proofs.Least.{least_link}

-- the node has announced a greater height, which is above all that it has heard at links that are up, and none of the
-- neighbours there was lower
pub record HasRaised (old new : Node) : Type 0 where
  pub number : new.own.number ≡ old.own.number + 1
  pub forwards : old.gateway ≡ false
  pub greater : old.own.announced < new.own.announced
  pub some : (l : Link) × Contains new.links.items l × (l.up ≡ true)
  pub heard : (l : Link) → Contains new.links.items l → l.up ≡ true → 0 < l.heard
  pub not_lower : (l : Link) → Contains new.links.items l → l.up ≡ true
      → ¬ IsBelow l.seen l.neighbour old.own.announced old.own.me
  pub above : (l : Link) → Contains new.links.items l → l.up ≡ true → l.seen < new.own.announced

-- the node has announced the top, and no neighbour offered its height
pub record HasLost (ceiling : ℕ) (old new : Node) : Type 0 where
  pub number : new.own.number ≡ old.own.number + 1
  pub greater : old.own.announced < new.own.announced
  pub top : new.own.announced ≡ CUT_OFF
  pub none : (l : Link) → Contains new.links.items l → is_offer ceiling l ≡ true → old.own.announced < offer_of l

-- the node has announced a lower height, and a neighbour offers it
pub record HasFound (ceiling : ℕ) (old new : Node) : Type 0 where
  pub number : new.own.number ≡ old.own.number + 1
  pub lower : new.own.announced < old.own.announced
  pub offer : (l : Link) × Contains new.links.items l × (is_offer ceiling l ≡ true) × (offer_of l ≡ new.own.announced)

-- the node has announced nothing
pub record HasKept (old new : Node) : Type 0 where
  pub number : new.own.number ≡ old.own.number
  pub announced : new.own.announced ≡ old.own.announced

-- the node has announced a lower height, and a way stays a way
pub record HasFallen (old new : Node) : Type 0 where
  pub number : new.own.number ≡ old.own.number + 1
  pub wanted : old.policy.lower ≡ true
  pub forwards : old.gateway ≡ false
  pub lower : new.own.announced < old.own.announced
  pub way : (l : Link) × Contains new.links.items l × (is_way (record old.own { used = new.own.announced }) l ≡ true)

pub true_false : false ≡ true → ⊥
true_false e = cc

-- what does not depend on the height in use stays when it settles
settles_field : (f : Own → ℕ) (n : Node) (new : Own) → Settles n new
    → f (record n.own { used = n.own.announced; used_since = n.own.announced_since }) ≡ f n.own → f new ≡ f n.own
settles_field f n new s same = ⊎_elim (λ e. e)
    (λ other. absurd (other (ap f (s.waits (λ may. other (ap f (s.used may) ∙ same))))))
    (cases_eq (f new) (f n.own))

-- as the number and the height of the last announcement
settles_same : (n : Node) (new : Own) → Settles n new
    → (new.number ≡ n.own.number) × (new.announced ≡ n.own.announced)
settles_same n new s = (
  settles_field (λ (o : Own). o.number) n new s refl,
  settles_field (λ (o : Own). o.announced) n new s refl,
)

not_below : (own : Own) (l : Link) → is_lower own l ≡ false → 0 < l.heard
    → ¬ IsBelow l.seen l.neighbour own.used own.me
not_below own l f heard (inl less) = grind (arith, nat_tests)
not_below own l f heard (inr even) = grind (arith, nat_tests)

not_higher : (l x : Link) → is_higher l x ≡ false → l.seen < x.seen + 1
not_higher l x f = grind (arith, nat_tests)

-- after a raise
module _ (old new : Node) (said : Own) (r : Raises (record old { links = new.links }) said)
    (settles : Settles (record old { links = new.links; own = said }) new.own) where
  same : (new.own.number ≡ said.number) × (new.own.announced ≡ said.announced)
  same = settles_same (record old { links = new.links; own = said }) new.own settles

  number : new.own.number ≡ old.own.number + 1
  number = same.0 ∙ ap (λ (o : Own). o.number) r.own

  height : new.own.announced ≡ r.height
  height = same.1 ∙ ap (λ (o : Own). o.announced) r.own

  raised : old.policy.rise ≡ Full → HasRaised old new
  raised full = record {
    number = number;
    forwards = r.may.forwards;
    greater = omega (arith, r.greater, height);
    some = (above.highest.0, above.highest.1.listed, above.highest.1.good);
    heard = λ l listed up. (over l listed up).0;
    not_lower = λ l listed up. subst (λ (h : ℕ). ¬ IsBelow l.seen l.neighbour h old.own.me) r.may.settled
        (not_below old.own l (over l listed up).1 (over l listed up).0);
    above = λ l listed up. omega (
      arith,
      height,
      above.highest.2,
      not_higher l above.highest.0
          (All-contains (λ k. is_up k ≡ true → is_higher k above.highest.0 ≡ false) new.links.items l
          above.highest.1.best listed up),
    );
  }
    where
      above : IsAboveAll (record old { links = new.links }) r.height
      above = subst (λ (rise : Rise). rises_to rise (record old { links = new.links }) r.height) full r.rises

      over : (l : Link) → Contains new.links.items l → l.up ≡ true → (0 < l.heard) × (is_lower old.own l ≡ false)
      over l listed up = All-contains (λ k. k.up ≡ true → (0 < k.heard) × (is_lower old.own k ≡ false))
          new.links.items l above.sink listed up

  lost : (ceiling : ℕ) → old.policy.rise ≡ Top ceiling → HasLost ceiling old new
  lost ceiling rise = record {
    number = number;
    greater = omega (arith, r.greater, height);
    top = height ∙ top.top;
    none = λ l listed passes. All-contains (λ k. is_offer ceiling k ≡ true → old.own.announced < offer_of k)
        new.links.items l top.none listed passes;
  }
    where
      top : IsAtTop (record old { links = new.links }) ceiling r.height
      top = subst (λ (kind : Rise). rises_to kind (record old { links = new.links }) r.height) rise r.rises

-- after a fall
module _ (old new : Node) (said : Own) (f : Lowers (record old { links = new.links }) said)
    (settles : Settles (record old { links = new.links; own = said }) new.own) where
  same_low : (new.own.number ≡ said.number) × (new.own.announced ≡ said.announced)
  same_low = settles_same (record old { links = new.links; own = said }) new.own settles

  number_low : new.own.number ≡ old.own.number + 1
  number_low = same_low.0 ∙ ap (λ (o : Own). o.number) f.own

  height_low : new.own.announced ≡ f.height
  height_low = same_low.1 ∙ ap (λ (o : Own). o.announced) f.own

  fallen : old.policy.rise ≡ Full → HasFallen old new
  fallen full = record {
    number = number_low;
    wanted = at.wanted;
    forwards = f.may.forwards;
    lower = omega (arith, height_low, at.lower, f.may.settled);
    way = (
      at.stays.0,
      at.stays.1,
      subst (λ (v : ℕ). is_way (record old.own { used = v }) at.stays.0 ≡ true) (sym height_low) at.stays.2,
    );
  }
    where
      at : IsAtDistance (record old { links = new.links }) f.height
      at = subst (λ (kind : Rise). falls_to kind (record old { links = new.links }) f.height) full f.falls

  found : (ceiling : ℕ) → old.policy.rise ≡ Top ceiling → HasFound ceiling old new
  found ceiling rise = record {
    number = number_low;
    lower = omega (arith, height_low, at.lower, f.may.settled);
    offer = let best = least_link (is_offer ceiling) offer_of new.links.items f.height at.best in
        (best.0, best.1, best.2, best.3 ∙ sym height_low);
  }
    where
      at : IsAtOffer (record old { links = new.links }) ceiling f.height
      at = subst (λ (kind : Rise). falls_to kind (record old { links = new.links }) f.height) rise f.falls

-- a node that acts by its policy, or keeps what it knows of itself
module _ (old new : Node) (acts : Acts (record old { links = new.links }) new.own ⊎ (new.own ≡ old.own)) where
  -- what is so after each raise, after each fall, or else
  after : (Raised Fallen : Type 0) → ((said : Own) → Raises (record old { links = new.links }) said
      → Settles (record old { links = new.links; own = said }) new.own → Raised)
      → ((said : Own) → Lowers (record old { links = new.links }) said
      → Settles (record old { links = new.links; own = said }) new.own → Fallen)
      → Raised ⊎ Fallen ⊎ HasKept old new
  after Raised Fallen raise fall = ⊎_elim (λ a. by a.said a.announces a.settles) (λ own. inr (inr (record {
    number = ap (λ (o : Own). o.number) own;
    announced = ap (λ (o : Own). o.announced) own;
  }))) acts
    where
      by : (said : Own) → Announcement (record old { links = new.links }) said
          → Settles (record old { links = new.links; own = said }) new.own
          → Raised ⊎ Fallen ⊎ HasKept old new
      by said (inl falls) settles = inr (inl (fall said falls settles))
      by said (inr (inl rises)) settles = inl (raise said rises settles)
      by said (inr (inr keeps)) settles =
          let same = settles_same (record old { links = new.links; own = said }) new.own settles in inr (inr (record {
            number = same.0 ∙ ap (λ (o : Own). o.number) keeps.own;
            announced = same.1 ∙ ap (λ (o : Own). o.announced) keeps.own;
          }))

  -- if the policy is to rise to the top
  pub announced_top : (ceiling : ℕ) → (old.gateway ≡ false → old.policy.rise ≡ Top ceiling)
      → HasLost ceiling old new ⊎ HasFound ceiling old new ⊎ HasKept old new
  announced_top ceiling top = after (HasLost ceiling old new) (HasFound ceiling old new)
      (λ said (rises : Raises (record old { links = new.links }) said) settles.
      lost old new said rises settles ceiling (top rises.may.forwards))
      (λ said (falls : Lowers (record old { links = new.links }) said) settles.
      found old new said falls settles ceiling (top falls.may.forwards))

  -- below a ceiling, or at the top
  pub stays_below : (ceiling : ℕ) → (old.gateway ≡ false → old.policy.rise ≡ Top ceiling)
      → (old.own.announced < ceiling) ⊎ (old.own.announced ≡ CUT_OFF)
      → (new.own.announced < ceiling) ⊎ (new.own.announced ≡ CUT_OFF)
  stays_below ceiling top low = ⊎_elim
      (λ (r : HasLost ceiling old new). inr r.top)
      (⊎_elim
      (λ (f : HasFound ceiling old new). inl (below f.offer.0 f.offer.2 f.offer.3))
      (λ (k : HasKept old new). subst (λ (v : ℕ). (v < ceiling) ⊎ (v ≡ CUT_OFF)) (sym k.announced) low))
      (announced_top ceiling top)
    where
      below : (l : Link) → is_offer ceiling l ≡ true → offer_of l ≡ new.own.announced → new.own.announced < ceiling
      below l passes e = grind (arith, nat_tests, passes, e)

-- if the policy is full reversal, unless it is a gateway
pub announced : (old new : Node) → (old.gateway ≡ false → old.policy.rise ≡ Full)
    → Acts (record old { links = new.links }) new.own ⊎ (new.own ≡ old.own)
    → HasRaised old new ⊎ HasFallen old new ⊎ HasKept old new
announced old new full acts = after old new acts (HasRaised old new) (HasFallen old new)
    (λ said (rises : Raises (record old { links = new.links }) said) settles.
    raised old new said rises settles (full rises.may.forwards))
    (λ said (falls : Lowers (record old { links = new.links }) said) settles.
    fallen old new said falls settles (full falls.may.forwards))
