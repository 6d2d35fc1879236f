use Rattle.std.proofs.Common.{ap, arith, length, sym, ◌+◌, ◌-◌, ◌<◌, ◌≡◌}
use Rattle.std.proofs.lemmas.List.{get_or_read, length-take-le}
use Rattle.fr_search.proofs.Leaving.{left}
use Rattle.fr_search.proofs.Marks.{kept_set, no_more_fresh}
use Rattle.fr_search.specs.Search.{top_of}
use Rattle.fr_search.specs.declared.search.Mark.TheVariants.{Done}
use Rattle.fr_search.specs.declared.search.Step.{Step}
use Rattle.fr_search.proofs.search.Search.pop_finished.Goals as goal

pub returns : goal.returns
returns c =
    let s = c.args.self.now in
    let marks = s.marks.items in
    let last = s.path.len - 1 in
    let top : Step = c.index.result.now in
    let full : last + 1 ≡ length s.path.items = omega (arith, c.requires.full, s.path.ok.0) in
    let is : top_of s ≡ top.node = ap (λ (t : Step). t.node)
    (sym (get_or_read s.path.items last top (omega (arith, full)) (rw c.len.ensures at c.index.ensures)
    (record { node = 0; next = 0 }))) in
    let below : top.node < length marks = rw is at c.requires.below in
    record {
      search = λ rows search leads. rw (c.pop-last.ensures.rest, c.in_ok-push.ensures.items)
          (left rows marks s.path.items s.order.items top.node last search full (sym is) (rw is at leads));
      kept = kept_set marks top.node Done (λ is. cc is) below;
      fewer = rw c.pop-last.ensures.rest (omega (
        arith,
        no_more_fresh marks top.node below,
        length-take-le last s.path.items (omega (arith, full)),
        full,
      ));
    }
