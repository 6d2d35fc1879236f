use Rattle.std.proofs.Common.{List, arith, subst}
use Rattle.std.proofs.lemmas.List.Elements.{Contains-get_or}
use Rattle.fr_node.specs.declared.link.Link.{Link}
use Rattle.fr_node.specs.Distances.{IsLeast, NonePasses}
use Rattle.fr_node.specs.Links.{is_offer, offer_of}
use Rattle.fr_node.proofs.Least.{least_listed, none_listed}
use Rattle.fr_node.proofs.Policies.{false_true}
use Rattle.fr_node.proofs.node.Node.height_at_top.Goals as goal
use Rattle.fr_node.proofs.node.Node.height_at_top.Goals.{in_default-via-in-Some+else-from-self, in_default-via-in_default}

pub returns-in_default : goal.returns-in_default
returns-in_default c =
    let ls = c.args.self.now.links.items in
    let passes = is_offer c.args.ceiling in
    record {
      none = elim c.in_default.branch [
        | in_default-via-in-Some+else-from-self w ↦
            let best : IsLeast passes offer_of ls w.in-Some.offer = subst
            (λ (ks : List Link). IsLeast passes offer_of ks w.in-Some.offer) c.deref.ensures.value w.in-Some.ensures in
            λ k d within passed. omega (
              arith,
              least_listed passes offer_of ls w.in-Some.offer _ best (Contains-get_or ls k d within) passed,
              w.from.ensures,
              w.if-from-self.false,
            )
        | in_default-via-in_default w ↦
            let nothing : NonePasses passes ls = subst (λ (ks : List Link). NonePasses passes ks) c.deref.ensures.value
            w.in_default.ensures in
            λ k d within passed. absurd
            (false_true _ (none_listed passes offer_of ls _ nothing (Contains-get_or ls k d within)) passed)
      ];
      top = c.from-in_default.ensures;
    }
