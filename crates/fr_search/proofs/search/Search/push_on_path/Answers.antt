use Rattle.std.proofs.Common.{arith}
use Rattle.std.proofs.lemmas.List.{get_or-set_same, length_push}
use Rattle.fr_search.proofs.Marks.{fewer_fresh, kept_set}
use Rattle.fr_search.proofs.Opening.{opened}
use Rattle.fr_search.specs.declared.search.Mark.TheVariants.{Fresh, Open}
use Rattle.fr_search.specs.declared.search.Step.{Step}
use Rattle.fr_search.proofs.search.Search.push_on_path.Goals as goal

pub returns : goal.returns
returns c =
    let marks = c.args.self.now.marks.items in
    let node = c.args.node in
    let new : Step = record { node = node; next = 0 } in
    let path = c.in_ok-push.ensures.items in
    record {
      search = λ rows s goes. rw path (opened rows marks c.args.self.now.path.items c.args.self.now.order.items node s
          c.requires.below c.requires.fresh goes);
      met = λ is. cc (get_or-set_same marks node Open Fresh c.requires.below, is);
      kept = kept_set marks node Open (λ is. cc is) c.requires.below;
      fewer = rw path (omega (
        arith,
        fewer_fresh marks node c.requires.below c.requires.fresh,
        length_push c.args.self.now.path.items new,
      ));
    }
