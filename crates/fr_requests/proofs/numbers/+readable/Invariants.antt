use Rattle.std.proofs.Common.{drop, ◌≡◌}
use Rattle.json.specs.Value.{items_view, members_view}
use Rattle.fr_requests.specs.Values.{are_items_readable, are_members_readable}
use Rattle.fr_requests.proofs.numbers.+readable.Given as goal

-- the items so far are readable, so all are if those ahead are
abbrev pub invariant-are_readable-loop-item : goal.invariant-are_readable-loop-item
invariant-are_readable-loop-item l =
    are_items_readable (items_view (drop l.item-index l.items)) ≡ are_items_readable (items_view l.items)

-- the same for members
abbrev pub invariant-have_readable_values-loop-member : goal.invariant-have_readable_values-loop-member
invariant-have_readable_values-loop-member l =
    are_members_readable (members_view (drop l.member-index l.members)) ≡ are_members_readable (members_view l.members)
