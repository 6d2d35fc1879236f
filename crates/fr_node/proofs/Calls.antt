-- What a call of a node announces, beside each neighbour whose link is up.
use Rattle.std.proofs.Common.{IsTrue, List, arith, false, inl, inr, nat_lt, refl, subst, sym, true, ℕ, ⊎_elim, ◌&&◌}
use Rattle.std.proofs.Common.{◌<◌, ◌≡◌, ◌≤◌, ◌⊎◌, ◌∙◌}
use Rattle.std.specs.List.{Contains}
use Rattle.std.proofs.lemmas.Bool.{cases_Bool}
use Rattle.std.proofs.lemmas.Bool.Decides.{nat_tests}
use Rattle.fr_node.specs.declared.link.Link.{Link}
use Rattle.fr_node.specs.declared.node.Node.{Node}
use Rattle.fr_node.specs.declared.policy.Rise.{Rise}
use Rattle.fr_node.specs.declared.message.TheConstants.{CUT_OFF}
use Rattle.fr_node.specs.declared.policy.Rise.TheVariants.{Full, Top}
use Rattle.fr_node.specs.Heights.{ActsBeside, AreUp, CallsActBeside, FallsBeside, RisesBeside, is_within, knows_low}
use Rattle.fr_node.specs.Heights.{test_of}
use Rattle.fr_node.specs.Histories.{IsHistory}
use Rattle.fr_node.specs.Links.{is_offer, link_to, offer_of}
use Rattle.fr_node.specs.Lowerings.{CallsKeepLinksOrFall, Falls}
use Rattle.fr_node.specs.Nodes.{router}
use Rattle.fr_node.specs.Paths.{CallsKeepLinks, IsFull, Stays, is_below}
use Rattle.fr_node.specs.Rests.{CallsStayBelow}
use Rattle.fr_node.specs.Routers.{IsBelow, Router}
use Rattle.fr_node.proofs.Announcing.{HasFallen, HasFound, HasKept, HasLost, HasRaised, announced, announced_top}
use Rattle.fr_node.proofs.Announcing.{stays_below, true_false}
use Rattle.fr_node.proofs.Heights.{is_below_only}
use Rattle.fr_node.proofs.Linking.{up_leads, up_listed}

-- if the node has announced a greater height, the neighbour at a link that is up was not lower
not_lower : (old new : Node) (h : ℕ → ℕ) (w : ℕ)
    → ((l : Link) → Contains new.links.items l → l.up ≡ true
    → ¬ IsBelow l.seen l.neighbour old.own.announced old.own.me)
    → IsHistory old.own h → (link_to new.links.items w).up ≡ true
    → ¬ IsBelow (link_to new.links.items w).seen w (h old.own.number) old.own.me
not_lower old new h w none was up = subst (λ (v : ℕ). ¬ IsBelow (link_to new.links.items w).seen w v old.own.me)
    (sym was.last) (subst (λ (v : ℕ). ¬ IsBelow (link_to new.links.items w).seen v old.own.announced old.own.me)
    (up_leads new.links.items w up) (none (link_to new.links.items w) (up_listed new.links.items w up) up))

none_low : (x e w : ℕ) (r : Router) → ¬ IsBelow (r.seen w) w e x → knows_low (is_below x) e w r ≡ false
none_low x e w r none = ⊎_elim
    (λ y. absurd (none (is_below_only x e w (r.seen w) (below y))))
    (λ f. f)
    (cases_Bool (knows_low (is_below x) e w r))
  where
    below : knows_low (is_below x) e w r ≡ true → is_below x e w (r.seen w) ≡ true
    below y = grind (arith, nat_tests, y)

module _ (old new : Node) (h k : ℕ → ℕ) (was : IsHistory old.own h) (now : IsHistory new.own k) where
  module _ (w : ℕ) (boot : new.own.boot ≡ old.own.boot) where
    kept : HasKept old new → Stays old.own.me w (router old h) (router new k)
    kept k = record { boot = boot; rises = inl k.number }

    raised : HasRaised old new → (link_to new.links.items w).up ≡ true
        → Stays old.own.me w (router old h) (router new k)
    raised r up = record {
      boot = boot;
      rises = inr (record {
        number = r.number;
        heard = r.heard (link_to new.links.items w) (up_listed new.links.items w up) up;
        not_lower = not_lower old new h w r.not_lower was up;
        above = omega (arith, now.last, r.above (link_to new.links.items w) (up_listed new.links.items w up) up);
      });
    }

    fallen : HasFallen old new → Falls (router old h) (router new k)
    fallen f = record { boot = boot; number = f.number; lower = omega (arith, f.lower, was.last, now.last) }

  module _ (ws : List ℕ) (are : AreUp new ws) where
    rises_beside : HasRaised old new → RisesBeside (is_below old.own.me) ws (router old h) (router new k)
    rises_beside r = record {
      number = r.number;
      greater = omega (arith, was.last, now.last, r.greater);
      none_low = λ w at. none_low old.own.me (h old.own.number) w (router new k)
          (not_lower old new h w r.not_lower was (are.up w at));
    }

    falls_beside : HasFallen old new → FallsBeside (is_below old.own.me) ws (router old h) (router new k)
    falls_beside f = record {
      number = f.number;
      lower = omega (arith, f.lower, was.last, now.last);
      one_low = (link.neighbour, (are.listed link f.way.1 up).0, low);
    }
      where
        link : Link
        link = f.way.0

        up : link.up ≡ true
        up = let way = f.way.2 in grind (arith, nat_tests, way)

        low_there : knows_low (is_below old.own.me) new.own.announced link.neighbour (record (router new k) {
          heard = λ _. link.heard;
          seen = λ _. link.seen;
        }) ≡ true
        low_there = let way = f.way.2 in grind (arith, nat_tests, way)

        low : knows_low (is_below old.own.me) (k new.own.number) link.neighbour (router new k) ≡ true
        low = rw now.last (rw (are.listed link f.way.1 up).1 low_there)

  -- with the policy top. These are the costs of the links
  module _ (ceiling : ℕ) (cost : ℕ → ℕ) (ws : List ℕ) (are : AreUp new ws)
      (costs : (w : ℕ) → Contains ws w → (link_to new.links.items w).cost ≡ cost w) where
    -- a neighbour that is near enough offers the height
    none_within : (e w : ℕ) → Contains ws w → (is_offer ceiling (link_to new.links.items w) ≡ true
        → e < offer_of (link_to new.links.items w)) → knows_low (is_within ceiling cost) e w (router new k) ≡ false
    none_within e w at above = ⊎_elim (λ y. absurd (by (costs w at) (are.up w at) y)) (λ f. f)
        (cases_Bool (knows_low (is_within ceiling cost) e w (router new k)))
      where
        by : (link_to new.links.items w).cost ≡ cost w → (link_to new.links.items w).up ≡ true
            → knows_low (is_within ceiling cost) e w (router new k) ≡ true → ⊥
        by same up y = omega (arith, above (offers same up y), small same y)
          where
            offers : (link_to new.links.items w).cost ≡ cost w → (link_to new.links.items w).up ≡ true
                → knows_low (is_within ceiling cost) e w (router new k) ≡ true
                → is_offer ceiling (link_to new.links.items w) ≡ true
            offers same up y = grind (arith, nat_tests, same, up, y)

            small : (link_to new.links.items w).cost ≡ cost w
                → knows_low (is_within ceiling cost) e w (router new k) ≡ true
                → offer_of (link_to new.links.items w) ≤ e
            small same y = grind (arith, nat_tests, same, y)

    lost_beside : HasLost ceiling old new → RisesBeside (is_within ceiling cost) ws (router old h) (router new k)
    lost_beside r = record {
      number = r.number;
      greater = omega (arith, was.last, now.last, r.greater);
      none_low = λ w at. none_within (h old.own.number) w at (λ offers. omega (
        arith,
        was.last,
        r.none (link_to new.links.items w) (up_listed new.links.items w (are.up w at)) offers,
      ));
    }

    found_beside : HasFound ceiling old new → FallsBeside (is_within ceiling cost) ws (router old h) (router new k)
    found_beside f = record {
      number = f.number;
      lower = omega (arith, f.lower, was.last, now.last);
      one_low = (link.neighbour, (are.listed link f.offer.1 up).0, low (are.listed link f.offer.1 up).1);
    }
      where
        link : Link
        link = f.offer.0

        up : link.up ≡ true
        up = let passes = f.offer.2 in grind (arith, nat_tests, passes)

        -- the offer is that of the link by which the neighbour is known
        offered : (l : Link) → l ≡ link → l.cost ≡ cost link.neighbour → (nat_lt 0 l.heard
            && is_within ceiling cost (k new.own.number) link.neighbour l.seen) ≡ true
        offered l same costs = let passes = f.offer.2 in let height = f.offer.3 in let last = now.last in
            subst (λ (j : Link). j.cost ≡ cost link.neighbour → (nat_lt 0 j.heard
            && is_within ceiling cost (k new.own.number) link.neighbour j.seen) ≡ true) (sym same)
            (λ cost_there. by cost_there passes height last) costs
          where
            by : link.cost ≡ cost link.neighbour → is_offer ceiling link ≡ true → offer_of link ≡ new.own.announced
                → k new.own.number ≡ new.own.announced → (nat_lt 0 link.heard
                && is_within ceiling cost (k new.own.number) link.neighbour link.seen) ≡ true
            by cost_there passes height last = grind (arith, nat_tests, cost_there, passes, height, last)

        low : link_to new.links.items link.neighbour ≡ link
            → knows_low (is_within ceiling cost) (k new.own.number) link.neighbour (router new k) ≡ true
        low same = offered (link_to new.links.items link.neighbour) same
            (costs link.neighbour (are.listed link f.offer.1 up).0)

forwards : (n : Node) (rise : Rise) → IsTrue n.gateway ⊎ (n.policy.rise ≡ rise) → n.gateway ≡ false
    → n.policy.rise ≡ rise
forwards n rise is router = ⊎_elim (λ g. absurd (true_false (sym router ∙ g))) (λ p. p) is

-- a node without `lower` never falls
never_falls : (old new : Node) → IsFull old → HasFallen old new → ⊥
never_falls old new is f = ⊎_elim (λ g. true_false (sym f.forwards ∙ g)) (λ p. true_false (sym p.1 ∙ f.wanted)) is

is_full : (n : Node) → IsFull n → IsTrue n.gateway ⊎ (n.policy.rise ≡ Full)
is_full n is = ⊎_elim (λ g. inl g) (λ p. inr p.0) is

pub calls_keep_links : CallsKeepLinks
calls_keep_links messages old new is step acts h was = let after = step.goes_on h was in
    let did = announced old new (forwards old Full (is_full old is)) acts in (
      after.0,
      after.1,
      after.2,
      λ w up. ⊎_elim (λ r. raised old new h after.0 was after.1 w after.2.boot r up) (⊎_elim
          (λ f. absurd (never_falls old new is f))
          (kept old new h after.0 was after.1 w after.2.boot)) did,
      λ g. ⊎_elim (λ (r : HasRaised old new). absurd (true_false (sym r.forwards ∙ g))) (⊎_elim
          (λ (f : HasFallen old new). absurd (true_false (sym f.forwards ∙ g)))
          (λ (k : HasKept old new). k.number)) did,
    )

pub calls_keep_links_or_fall : CallsKeepLinksOrFall
calls_keep_links_or_fall messages old new is step acts h was = let after = step.goes_on h was in (
  after.0,
  after.1,
  after.2,
  λ w up. ⊎_elim (λ r. inl (raised old new h after.0 was after.1 w after.2.boot r up)) (⊎_elim
      (λ f. inr (fallen old new h after.0 was after.1 w after.2.boot f))
      (λ k. inl (kept old new h after.0 was after.1 w after.2.boot k)))
      (announced old new (forwards old Full is) acts),
)

pub calls_act_beside : CallsActBeside
calls_act_beside messages old new ws cost are costs step acts h was = let after = step.goes_on h was in (
  after.0,
  after.1,
  after.2,
  by after.0 after.1 old.policy.rise refl,
)
  where
    by : (k : ℕ → ℕ) → IsHistory new.own k → (rise : Rise) → old.policy.rise ≡ rise
        → ActsBeside (test_of rise old.own.me cost) ws (router old h) (router new k)
    by k now Full rise = ⊎_elim (λ r. inr (inl (rises_beside old new h k was now ws are r))) (⊎_elim
        (λ f. inr (inr (falls_beside old new h k was now ws are f)))
        (λ (kept : HasKept old new). inl kept.number))
        (announced old new (λ _. rise) acts)
    by k now (Top ceiling) rise = ⊎_elim
        (λ r. inr (inl (lost_beside old new h k was now ceiling cost ws are costs r)))
        (⊎_elim
        (λ f. inr (inr (found_beside old new h k was now ceiling cost ws are costs f)))
        (λ (kept : HasKept old new). inl kept.number))
        (announced_top old new acts ceiling (λ _. rise))

pub calls_stay_below : CallsStayBelow
calls_stay_below ceiling old new is acts h k was now low = subst (λ (v : ℕ). (v < ceiling) ⊎ (v ≡ CUT_OFF))
    (sym now.last) (stays_below old new acts ceiling (forwards old (Top ceiling) is)
    (subst (λ (v : ℕ). (v < ceiling) ⊎ (v ≡ CUT_OFF)) was.last low))
