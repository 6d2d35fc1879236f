use Rattle.std.proofs.Common.{ap, sym, arith, length, length-append, ℕ, List, ◌++◌, ◌+◌, ◌∷◌, ◌∙◌, ◌≡◌, append-nil, []}
use Rattle.std.specs.List.{filter}
use Rattle.std.proofs.lemmas.List.{nil_from_length}
use Rattle.fr_ways.specs.Held.{Held}
use Rattle.fr_ways.specs.Phases.{is_way}
use Rattle.fr_ways.proofs.Holding.{held_as, held_pushed, none_pushed, some_pushed}
use Rattle.fr_ways.proofs.reserved_rows.Rows.push_kept.Goals as goal
use Rattle.fr_ways.proofs.reserved_rows.Rows.push_kept.Goals.{then-start-end, else-start-end}

pub copy_kept-requires-clause-room : goal.copy_kept-requires-clause-room
copy_kept-requires-clause-room c =
    let held = held_as c.self.inside c.args.self.now c.self.invariant c.self.view_is in
    omega (arith, c.requires.place.ways, held.total, held.ways, c.self.inside.list.ok.0, c.self.inside.list.ok.1)

pub push_reserved-requires : goal.push_reserved-requires
push_reserved-requires c =
    let held = held_as c.self.inside c.args.self.now c.self.invariant c.self.view_is in
    omega (arith, c.requires.place.nodes, held.count, held.places, c.self.inside.nodes.ok.0)

pub push_reserved-requires-then-start-end : goal.push_reserved-requires-then-start-end
push_reserved-requires-then-start-end c =
    let held = held_as c.self.inside c.args.self.now c.self.invariant c.self.view_is in
    omega (arith, c.requires.place.nodes, held.more, held.places, c.self.inside.starts.ok.0)

pub invariant_of-self : goal.invariant_of-self
invariant_of-self c =
    (held_pushed c.self.inside (record {
      nodes = c.push_reserved.new.self;
      starts = c.push_reserved-then-start-end.new.self;
      list = c.copy_kept.new.list;
    }) c.args.self.now c.args.x c.len-end.result (filter (is_way c.args.old.now) c.args.new.now) c.self.invariant
    c.self.view_is (record {
      nodes = c.push_reserved.ensures.items;
      starts = c.push_reserved-then-start-end.ensures.items;
      list = c.copy_kept.ensures.kept;
      last = omega (arith, c.len-end.ensures, c.copy_kept.new.list.ok.0);
    })).0

pub returns-clause-kept : goal.returns-clause-kept
returns-clause-kept c =
    let kept = filter (is_way c.args.old.now) c.args.new.now in
    let value = c.args.self.now in
    let count : c.len-end.result ≡ c.len-start.result + length kept = omega (
      arith,
      c.len-start.ensures,
      c.len-end.ensures,
      c.self.inside.list.ok.0,
      c.copy_kept.new.list.ok.0,
      ap length c.copy_kept.ensures.kept,
      length-append c.self.inside.list.items kept,
    ) in
    let push : List (ℕ × List ℕ) = (c.args.x, kept) ∷ [] in (
      omega (arith, count),
      elim c.if-start-end.branch [
        | then-start-end w ↦
            rw w.self-is ((held_pushed c.self.inside (record {
              nodes = w.push_reserved.new.self;
              starts = w.push_reserved-then-start-end.new.self;
              list = c.copy_kept.new.list;
            }) value c.args.x c.len-end.result kept c.self.invariant c.self.view_is (record {
              nodes = w.push_reserved.ensures.items;
              starts = w.push_reserved-then-start-end.ensures.items;
              list = c.copy_kept.ensures.kept;
              last = omega (arith, c.len-end.ensures, c.copy_kept.new.list.ok.0);
            })).1 ∙ ap (λ (more : List (ℕ × List ℕ)). value.pairs ++ more)
            (sym (some_pushed kept push (omega (arith, count, w.if-start-end)))))
        | else-start-end w ↦
            let none : length kept ≡ 0 = omega (arith, count, w.if-start-end.false) in
            let same : c.copy_kept.new.list.items ≡ c.self.inside.list.items =
            c.copy_kept.ensures.kept
            ∙ (ap (λ (ys : List ℕ). c.self.inside.list.items ++ ys) (nil_from_length kept none)
            ∙ append-nil c.self.inside.list.items) in
            rw (w.self-is, same, none_pushed kept push none, append-nil value.pairs)
            (ap (λ (held : Held). held.pairs) c.self.view_is)
      ],
    )
