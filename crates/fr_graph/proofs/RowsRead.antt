-- How far the search for the lowest path has read the rows of its path.
use Rattle.std.proofs.Common.{All, List, ap, arith, get_or, inl, inr, length, refl, set, subst, sym, ℕ, ◌+◌, ◌<◌, ◌∙◌}
use Rattle.std.proofs.Common.{◌≡◌, ◌≤◌}
use Rattle.std.proofs.lemmas.Bool.{cases_eq, cases_lt}
use Rattle.std.proofs.lemmas.List.{get_or-map, get_or-set_other, get_or-set_same, length-set}
use Rattle.std.proofs.Math.Seq.{map-set_same}
use Rattle.fr_graph.proofs.ShownLinks.{row_of_points}
use Rattle.fr_graph.specs.Descents.{HasRead, LeadsOnlyTo, nodes_of}
use Rattle.fr_graph.specs.Heads.{AreRowsRising}
use Rattle.fr_graph.specs.KeptRows.{net_in}
use Rattle.fr_graph.specs.Links.{Points}
use Rattle.fr_graph.specs.Tables.{Table, row_of}
use Rattle.fr_graph.specs.declared.first.First.{First}
use Rattle.fr_graph.specs.declared.first.First.TheVariants.{Outward}
use Rattle.fr_graph.specs.declared.lowest_cycle.Step.{Step}

-- after more of the row of the last node is read
pub reads_on : (rows : Table) (P : ℕ → Type 0) (path : List Step) (last next : ℕ) (top : Step) → last + 1 ≡ length path
    → top ≡ get_or path last top → All (HasRead rows P) path → next ≤ length (row_of rows top.node)
    → ((k : ℕ) (d : ℕ × First) → top.next ≤ k → k < next → LeadsOnlyTo P (get_or (row_of rows top.node) k d))
    → All (HasRead rows P) (set path last (record { node = top.node; next = next }))
reads_on rows P path last next top full is read inside passes k d l =
    let moved : Step = record { node = top.node; next = next } in
    let was : HasRead rows P top = rw (← is) at (read last top (omega (arith, full))) in
    elim (cases_eq k last) [
      | inl e ↦ rw (e, get_or-set_same path last moved d (omega (arith, full))) record {
        inside = inside;
        passed =
            λ j e lt. elim (cases_lt j top.next) [ inl less ↦ was.passed j e less | inr more ↦ passes j e more lt ];
      }
      | inr ne ↦ rw (get_or-set_other path last k moved d ne) (read k d (omega (arith, l, length-set path last moved)))
    ]

-- the path then has the same nodes
pub same_nodes : (path : List Step) (last next : ℕ) (top : Step) → top ≡ get_or path last top
    → nodes_of (set path last (record { node = top.node; next = next })) ≡ nodes_of path
same_nodes path last next top is =
    map-set_same (λ (s : Step). s.node) path last (record { node = top.node; next = next }) top
    (ap (λ (s : Step). s.node) is)

-- the last node of the path and its links, after its row was read to the end
pub top_is : (path : List Step) (last : ℕ) (top : Step) → last + 1 ≡ length path → top ≡ get_or path last top
    → get_or (nodes_of path) last 0 ≡ top.node
top_is path last top full is =
    get_or-map (λ (s : Step). s.node) path last top 0 (omega (arith, full)) ∙ ap (λ (s : Step). s.node) (sym is)

read_before : (rows : Table) (P : ℕ → Type 0) (top : Step) (next v k : ℕ) → HasRead rows P top
    → ((k : ℕ) (d : ℕ × First) → top.next ≤ k → k < next → LeadsOnlyTo P (get_or (row_of rows top.node) k d))
    → k < next → get_or (row_of rows top.node) k (v, Outward) ≡ (v, Outward) → P v
read_before rows P top next v k read passes less entry =
    let here : LeadsOnlyTo P (get_or (row_of rows top.node) k (v, Outward)) = elim (cases_lt k top.next) [
      | inl less ↦ read.passed k (v, Outward) less
      | inr more ↦ passes k (v, Outward) more less
    ] in
    let there : LeadsOnlyTo P (v, Outward) = subst (LeadsOnlyTo P) entry here in
    there refl

pub read_through : (rows : Table) (P : ℕ → Type 0) (top : Step) (next : ℕ) → HasRead rows P top
    → ((k : ℕ) (d : ℕ × First) → top.next ≤ k → k < next → LeadsOnlyTo P (get_or (row_of rows top.node) k d))
    → length (row_of rows top.node) ≤ next → (v : ℕ) → Points (net_in rows).links top.node v → P v
read_through rows P top next read passes all v points =
    let at = (row_of_points rows top.node v points).1 in
    read_before rows P top next v at.0 read passes (omega (arith, at.1, all)) at.2

-- and after it was read up to the entry of `head`: links to lower nodes lead to nodes with the property
pub read_up_to : (rows : Table) (P : ℕ → Type 0) (top : Step) (next head : ℕ) → AreRowsRising rows → HasRead rows P top
    → ((k : ℕ) (d : ℕ × First) → top.next ≤ k → k < next → LeadsOnlyTo P (get_or (row_of rows top.node) k d))
    → next < length (row_of rows top.node) → ((d : ℕ × First) → (get_or (row_of rows top.node) next d).0 ≡ head)
    → (v : ℕ) → Points (net_in rows).links top.node v → v < head → P v
read_up_to rows P top next head rising read passes inside here v points below =
    let at = (row_of_points rows top.node v points).1 in
    let d : ℕ × First = (v, Outward) in
    let entry : get_or (row_of rows top.node) at.0 d ≡ d = at.2 in
    let node : (get_or (row_of rows top.node) at.0 d).0 ≡ v = ap (λ (e : ℕ × First). e.0) entry in
    elim (cases_lt at.0 next) [
      | inl less ↦ read_before rows P top next v at.0 read passes less entry
      | inr more ↦ elim (cases_lt next at.0) [
        | inl past ↦ absurd (omega (arith, rising top.node next at.0 d past at.1, here d, node))
        | inr same ↦ let e : at.0 ≡ next = omega arith in absurd (omega (arith, rw e at node, here d))
      ]
    ]
