use Rattle.std.proofs.Common.{ap, refl, sym, ◌∙◌}
use Rattle.fr_node.specs.declared.link.Link.{Link}
use Rattle.fr_node.proofs.Linking.{found_at, is_at, says_at}
use Rattle.fr_node.proofs.Stepping.{is_said_by, says_unstamped, steps_said, with_stamp}
use Rattle.fr_node.proofs.node.Node.say_written.Goals as goal

pub returns : goal.returns
returns c =
    let says = says_at _ _ _ _ _ (is_at _ _ _ _ c.in-Some.ensures c.index_mut.ensures.value) in
    let content = with_stamp c.args.self.now c.args.neighbour (c.saturating_add-self.result) c.message_at-message.result
    (c.message_at-message.ensures.content _ (sym c.in-Some.ensures)) in
    record {
      carrier = (
        λ _. ap (λ (l : Link). l.carrier) (found_at _ _ _ _ (is_at c.args.self.now.links.items c.args.neighbour
            c.in-Some.i c.index.result.now c.in-Some.ensures c.index.ensures)) ∙ c.if-not-index.false,
        λ _. refl,
      );
      message = record {
        content = content;
        stamp = c.saturating_add-self.ensures;
        said = says_unstamped _ _ _ _ c.message_at-message.ensures.stamp says;
        safe = is_said_by _ _ _ content;
      };
      none = refl;
      step = steps_said _ _ _ _ refl says;
    }
