-- The links and edits of C as those of a network. This project's own.
use Rattle.std.specs.Prelude.{◌≡◌, ◌==◌, ℕ, List, Bool, None, nat_lt, position, if◌then◌else◌}
use Rattle.fr_graph.specs.declared.edit.Edit.{Edit}
use Rattle.fr_graph.specs.declared.edit.Edit.TheVariants.{Cut, Add, Join}
use Rattle.revroute_c.specs.declared.records.Link.{Link}
use Rattle.revroute_c.specs.declared.records.LinkEdit.{LinkEdit}

-- a link as the pair of its tail and its head
abbrev pub link_of : Link → ℕ × ℕ
link_of l = (l.tail, l.head)

-- the kind is not one of the three: 0 removes a link, 1 adds it and 2 joins its nodes
abbrev pub is_unknown : LinkEdit → Bool
is_unknown e = nat_lt 2 e.kind

-- no edit has an unknown kind
abbrev pub AreKnown : List LinkEdit → Type 0
AreKnown edits = position is_unknown edits ≡ None

-- the edit of a network, if the kind is known
abbrev pub edit_of : LinkEdit → Edit
edit_of e = if e.kind == 0 then Cut e.u e.v else (if e.kind == 1 then Add e.u e.v else Join e.u e.v)
