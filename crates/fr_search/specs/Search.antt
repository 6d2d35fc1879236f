-- The state of the search for a cycle. For proofs only.
use Rattle.std.specs.Prelude.{◌≡◌, ◌≢◌, ℕ, ◌<◌, ◌+◌, ◌-◌, ◌*◌, ◌↔◌, List, [], length, map, slice_index_or}
use Rattle.std.specs.Prelude.{vec_len, Option, Some, Bool, true, false, count_by, IfNone, IfSome}
use Rattle.std.specs.List.{Contains}
use Rattle.fr_search.specs.Heads.{AreRowsOf, AreHeadsFirst, HeadRows, Leads, head_at}
use Rattle.fr_search.specs.declared.search.Mark.{Mark}
use Rattle.fr_search.specs.declared.search.Mark.TheVariants.{Fresh, Open, Done}
use Rattle.fr_search.specs.declared.search.Search.{Search}
use Rattle.fr_search.specs.declared.search.Step.{Step}

abbrev pub mark_of : List Mark → ℕ → Mark
mark_of marks x = slice_index_or marks x Fresh

-- the node is done
abbrev pub IsDone : List Mark → ℕ → Type 0
IsDone marks x = mark_of marks x ≡ Done

abbrev pub is_done : Mark → Bool
is_done Fresh = false
is_done Open = false
is_done Done = true

abbrev pub is_fresh : Mark → Bool
is_fresh Fresh = true
is_fresh Open = false
is_fresh Done = false

-- the step at this place of the path, its node, and all nodes of the path
abbrev pub step_at : List Step → ℕ → Step
step_at path k = slice_index_or path k (record { node = 0; next = 0 })

abbrev pub node_at : List Step → ℕ → ℕ
node_at path k = (step_at path k).node

abbrev pub nodes_of : List Step → List ℕ
nodes_of path = map (λ (step : Step). step.node) path

-- the last node of the path
abbrev pub top_of : Search → ℕ
top_of search = node_at search.path.items (vec_len search.path - 1)

-- x is on the path
abbrev pub IsOnPath : List Step → ℕ → Type 0
IsOnPath path x = (k : ℕ) × (k < length path) × (node_at path k ≡ x)

-- the heads before the next place of the step are done
abbrev pub IsRead : HeadRows → List Mark → Step → Type 0
IsRead rows marks step = (k y : ℕ) → k < step.next → head_at rows step.node k ≡ Some y → IsDone marks y

-- each head of x is done
abbrev pub LeadsToDone : HeadRows → List Mark → ℕ → Type 0
LeadsToDone rows marks x = (y : ℕ) → Leads rows x y → IsDone marks y

-- the entry of x at this place is the first one whose head is not done
pub record IsNext (rows : HeadRows) (marks : List Mark) (x : ℕ) (next : ℕ × ℕ) : Type 0 where
  pub leads : head_at rows x next.0 ≡ Some next.1
  pub other : mark_of marks next.1 ≢ Done
  pub read : IsRead rows marks (record { node = x; next = next.0 })

-- the search at any moment: its marks, its path, how far it has read the rows of the path, and the order of the done
-- nodes
pub record IsSearchAt (rows : HeadRows) (marks : List Mark) (path : List Step) (order : List ℕ) : Type 0 where
  pub below : AreRowsOf (length marks) rows
  pub are_done : (x : ℕ) → IsDone marks x ↔ Contains order x
  pub counted : length order ≡ count_by is_done marks
  pub heads_first : AreHeadsFirst rows order
  pub are_open : (x : ℕ) → (mark_of marks x ≡ Open) ↔ IsOnPath path x
  pub once : (i j : ℕ) → i < j → j < length path → node_at path i ≢ node_at path j
  pub begins : (w : ℕ) → 0 < length path → w < node_at path 0 → IsDone marks w
  pub follows : (k : ℕ) → k + 1 < length path
      → head_at rows (node_at path k) (step_at path k).next ≡ Some (node_at path (k + 1))
  pub read : (k : ℕ) → k < length path → IsRead rows marks (step_at path k)

abbrev pub IsSearch : HeadRows → Search → Type 0
IsSearch rows search = IsSearchAt rows search.marks.items search.path.items search.order.items

-- the search while its path is empty: before it starts from a node
pub record IsAtRest (rows : HeadRows) (state : Search) : Type 0 where
  pub search : IsSearch rows state
  pub empty : state.path.items ≡ []

-- nodes that were met stay met, and there is a mark for each node
pub record KeepsSeen (old new : List Mark) : Type 0 where
  pub seen : (x : ℕ) → mark_of old x ≢ Fresh → mark_of new x ≢ Fresh
  pub one_each : length new ≡ length old

-- the path can go on to x: by the next entry of its last node, or from there on if all lower nodes are done
pub record CanGoOn (rows : HeadRows) (marks : List Mark) (path : List Step) (x : ℕ) : Type 0 where
  pub leads : (k : ℕ) → k + 1 ≡ length path → head_at rows (node_at path k) (step_at path k).next ≡ Some x
  pub begins : (w : ℕ) → 0 ≡ length path → w < x → IsDone marks w

-- how far the search is from its end: this number falls with each step
abbrev pub left_count : Search → ℕ
left_count search = 2 * count_by is_fresh search.marks.items + length search.path.items

-- the path can go on to x, which is on the path
pub record LeadsBack (rows : HeadRows) (search : Search) (x : ℕ) : Type 0 where
  pub on_path : IsOnPath search.path.items x
  pub leads : CanGoOn rows search.marks.items search.path.items x

-- the search went on from one state to another. If `node` is given, the path leads back to it
pub record GoesOn (rows : HeadRows) (before after : Search) (node : Option ℕ) : Type 0 where
  pub search : IsSearch rows after
  pub kept : KeepsSeen before.marks.items after.marks.items
  pub back : IfSome node (LeadsBack rows after)

-- the search has put x at the end of its path
pub record HasOpened (x : ℕ) (before after : Search) : Type 0 where
  pub search : (rows : HeadRows) → IsSearch rows before
      → CanGoOn rows before.marks.items before.path.items x → IsSearch rows after
  pub met : mark_of after.marks.items x ≢ Fresh
  pub kept : KeepsSeen before.marks.items after.marks.items
  pub fewer : left_count after < left_count before

-- the search has removed the last node from the path
pub record HasLeft (before after : Search) : Type 0 where
  pub search : (rows : HeadRows) → IsSearch rows before
      → LeadsToDone rows before.marks.items (top_of before) → IsSearch rows after
  pub kept : KeepsSeen before.marks.items after.marks.items
  pub fewer : left_count after < left_count before

-- the row of the last node was read up to an entry whose head is not done, or to its end
pub record HasReadOn (rows : HeadRows) (before after : Search) (head : Option ℕ) : Type 0 where
  pub search : IsSearch rows after
  pub marks : after.marks ≡ before.marks
  pub long : vec_len after.path ≡ vec_len before.path
  pub some : IfSome head (λ x. CanGoOn rows after.marks.items after.path.items x × (mark_of after.marks.items x ≢ Done))
  pub none : IfNone head (LeadsToDone rows after.marks.items (top_of after))
