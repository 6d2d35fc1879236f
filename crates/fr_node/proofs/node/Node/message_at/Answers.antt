use Rattle.std.proofs.Common.{ap, refl, sym, ◌∙◌}
use Rattle.fr_node.specs.declared.link.Link.{Link}
use Rattle.fr_node.specs.Links.{echo_of}
use Rattle.fr_node.proofs.Linking.{found_at, is_at}
use Rattle.fr_node.proofs.node.Node.message_at.Goals as goal

pub returns-clause-content : goal.returns-clause-content
returns-clause-content c = λ w e.
    let at = is_at c.args.self.now.links.items w c.args.i c.index-link.result.now (sym e) c.index-link.ensures in
    let found = found_at _ _ _ _ at in
    record {
      from = refl;
      to = at.neighbour;
      boot = refl;
      echo = c.echo.ensures ∙ sym (ap echo_of found);
      number = refl;
      height = refl;
      heard = sym (ap (λ (l : Link). l.heard) found);
      distance = c.distance.ensures;
    }
