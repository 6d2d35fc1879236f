-- What one call of a node announces, if it acts by full reversal and never lowers its height.
use Rattle.std.proofs.Common.{ap, false, inl, inr, subst, sym, true, ⊎_elim, ◌≡◌, ◌⊎◌}
use Rattle.std.proofs.Common.{◌↔◌, ◌∙◌, IsTrue, List, ℕ}
use Rattle.std.proofs.lemmas.Bool.{cases_eq}
use Rattle.fr_node.proofs.Announcing.{HasFallen, HasKept, HasRaised, announced, true_false}
use Rattle.fr_node.specs.Policies.{Acts, Announcement, Settles}
use Rattle.fr_node.specs.declared.message.Message.{Message}
use Rattle.fr_node.specs.declared.node.Node.{Node}
use Rattle.fr_node.specs.declared.own.Own.{Own}
use Rattle.fr_node.specs.declared.policy.Rise.TheVariants.{Full}
use Rattle.fr_laws.specs.Announcements.{IsCall, IsRouter}

module _ (d x : ℕ) (old new : Node) (is : IsRouter d x old) (messages : List Message)
    (call : IsCall messages old new) where
  policy : old.gateway ≡ false → (old.policy.rise ≡ Full) × (old.policy.lower ≡ false)
  policy forwards = is.full (λ e. true_false (sym forwards ∙ is.gateway.1 e))

  pub raised_or_kept : HasRaised old new ⊎ HasKept old new
  raised_or_kept = ⊎_elim (λ r. inl r) (⊎_elim
      (λ (f : HasFallen old new). absurd (true_false (sym (policy f.forwards).1 ∙ f.wanted)))
      (λ k. inr k))
      (announced old new (λ forwards. (policy forwards).0) call.acts)

  -- a gateway goes on using the height that it has announced
  gateway_used : x ≡ d → new.own.used ≡ new.own.announced
  gateway_used e = ⊎_elim acts stays call.acts
    where
      stays : new.own ≡ old.own → new.own.used ≡ new.own.announced
      stays p = ap (λ (o : Own). o.used) p ∙ is.used e ∙ ap (λ (o : Own). o.announced) (sym p)

      gate : old.gateway ≡ true
      gate = is.gateway.1 e

      even : (said : Own) → said ≡ old.own → Settles (record old { links = new.links; own = said }) new.own
          → new.own.used ≡ new.own.announced
      even said same s = ⊎_elim (λ e. e)
          (λ other. absurd (other (stays (s.waits (λ may. other (settles (s.used may))) ∙ same))))
          (cases_eq new.own.used new.own.announced)
        where
          settles : new.own ≡ record said { used = said.announced; used_since = said.announced_since }
              → new.own.used ≡ new.own.announced
          settles p = ap (λ (o : Own). o.used) p ∙ ap (λ (o : Own). o.announced) (sym p)

      by : (said : Own) → Announcement (record old { links = new.links }) said
          → Settles (record old { links = new.links; own = said }) new.own → new.own.used ≡ new.own.announced
      by said (inl falls) s = absurd (true_false (sym falls.may.forwards ∙ gate))
      by said (inr (inl rises)) s = absurd (true_false (sym rises.may.forwards ∙ gate))
      by said (inr (inr keeps)) s = even said keeps.own s

      acts : Acts (record old { links = new.links }) new.own → new.own.used ≡ new.own.announced
      acts a = by a.said a.announces a.settles

  pub router_kept : IsRouter d x new
  router_kept = record {
    me = call.step.me ∙ is.me;
    once = call.once is.once;
    announced = let after = call.step.goes_on is.announced.0 is.announced.1 in (after.0, after.1);
    gateway = subst (λ (g : _). IsTrue g ↔ (x ≡ d)) (sym call.same.0) is.gateway;
    used = gateway_used;
    full = λ other. subst (λ (p : _). (p.rise ≡ Full) × (p.lower ≡ false)) (sym call.same.1) (is.full other);
  }
