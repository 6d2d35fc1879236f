use Rattle.std.proofs.Common.{Bool, Some, ap, false, not, refl, sym, true, ◌≡◌, ◌∙◌}
use Rattle.fr_node.specs.declared.link.Link.{Link}
use Rattle.fr_node.proofs.Linking.{found_at, is_at}
use Rattle.fr_node.proofs.Stepping.{unstamped_same}
use Rattle.fr_node.proofs.node.Node.has_other_message.Goals as goal

not_both : (b : Bool) → not b ≡ true → b ≡ true → ⊥
not_both true n t = cc
not_both false n t = cc

not_at : (b : Bool) → (b ≡ true → ⊥) → not b ≡ true
not_at true never = absurd (never refl)
not_at false never = refl

pub returns-then-index : goal.returns-then-index
returns-then-index c =
    let at =
    is_at c.args.self.now.links.items c.args.neighbour c.in-Some.i c.index-then-index.result.now c.in-Some.ensures
    c.index-then-index.ensures in
    let said = ap (λ (l : Link). l.said) (found_at _ _ _ _ at) in
    let same = unstamped_same c.message_at.result c.message_at.ensures.stamp in record {
      down =
          λ no _. no (ap (λ (l : Link). l.carrier) (found_at _ _ _ _ (is_at c.args.self.now.links.items c.args.neighbour
          c.in-Some.i c.index.result.now c.in-Some.ensures c.index.ensures)) ∙ c.if-index.true);
      up = λ up. (
        c.message_at.result,
        c.message_at.ensures.content c.args.neighbour (sym c.in-Some.ensures),
        (
          λ new old. not_both c.was_last_said.result new (c.was_last_said.ensures.1 (sym said ∙ old ∙ ap Some same)),
          λ other. not_at c.was_last_said.result (λ old. other (said ∙ c.was_last_said.ensures.0 old
              ∙ sym (ap Some same))),
        ),
      );
    }
