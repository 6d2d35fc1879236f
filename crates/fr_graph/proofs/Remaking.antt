-- A graph from the rows of its nodes.
use Rattle.std.proofs.Common.{List, [], ap, arith, get_or, inl, inr, length, refl, subst, suc, sym, true, zero, ℕ, ◌<◌}
use Rattle.std.proofs.Common.{◌∙◌, ◌≡◌}
use Rattle.std.proofs.lemmas.Bool.{cases_Bool}
use Rattle.std.proofs.lemmas.List.Sorted.{IsPermutation-sym, length_permutation}
use Rattle.fr_graph.proofs.Building.{acyclic_listed, faultless_sorted}
use Rattle.fr_graph.proofs.Neighbours.{Points-has_link, has_link_true}
use Rattle.fr_graph.proofs.Ordering.{in_order_order, in_order_permutes, into_order, out_of_order}
use Rattle.fr_graph.proofs.TurnedRows.{links_of_rows, out_rows}
use Rattle.fr_graph.specs.Faults.{IsFaultless, IsNetworkOf}
use Rattle.fr_graph.specs.Graph.{IsGraph, IsSame, shown}
use Rattle.fr_graph.specs.Heights.{AreFalling, Fit, Levels}
use Rattle.fr_graph.specs.KeptRows.{AreRows, ShowsNet, links_in, net_in}
use Rattle.fr_graph.specs.Links.{IsNet, Points}
use Rattle.fr_graph.specs.Network.{Network}
use Rattle.fr_graph.specs.Order.{in_order}
use Rattle.fr_graph.specs.PathSearch.{AreFallingRows}
use Rattle.fr_graph.specs.RowLists.{out_links, rows_below}
use Rattle.fr_graph.specs.Rows.{has_link, row, row_entry}
use Rattle.fr_graph.specs.Tables.{KeepsRooms, Table, row_of}
use Rattle.fr_graph.specs.declared.graph.Graph.{Graph}
use Rattle.fr_graph.specs.declared.first.First.{First}

-- rows depend only on the set of links
same_test : (a b : List (ℕ × ℕ)) (u v : ℕ) → (Points a u v → Points b u v) → (Points b u v → Points a u v)
    → has_link a u v ≡ has_link b u v
same_test a b u v to from =
    elim (cases_Bool (has_link a u v)) [
      | inl e ↦ e ∙ sym (has_link_true b u v (to (Points-has_link a u v e)))
      | inr e ↦ elim (cases_Bool (has_link b u v)) [
        | inl f ↦ cc (e, has_link_true a u v (from (Points-has_link b u v f)))
        | inr f ↦ e ∙ sym f
      ]
    ]

pub row_entry_same : (a b : List (ℕ × ℕ)) (x w : ℕ) → (Points a x w → Points b x w) → (Points b x w → Points a x w)
    → (Points a w x → Points b w x) → (Points b w x → Points a w x) → row_entry a x w ≡ row_entry b x w
row_entry_same a b x w out_to out_from back_to back_from =
    rw (same_test a b x w out_to out_from, same_test a b w x back_to back_from) refl

pub row_same : (k : ℕ) (a b : List (ℕ × ℕ)) (x : ℕ) → ((u v : ℕ) → Points a u v → Points b u v)
    → ((u v : ℕ) → Points b u v → Points a u v) → row k a x ≡ row k b x
row_same zero a b x to from = refl
row_same (suc w) a b x to from =
    rw (row_same w a b x to from, row_entry_same a b x w (to x w) (from x w) (to w x) (from w x)) refl

in_order_faultless : (n : ℕ) (listed : List (ℕ × ℕ)) → IsFaultless n listed → IsFaultless n (in_order listed)
in_order_faultless n listed clear =
    let same = in_order_permutes listed in
    faultless_sorted n listed (in_order listed) same
    (acyclic_listed (in_order listed) listed (IsPermutation-sym listed (in_order listed) same) clear.is_net.acyclic)
    clear

pub in_order_row : (n : ℕ) (listed : List (ℕ × ℕ)) (x : ℕ) → row n listed x ≡ row n (in_order listed) x
in_order_row n listed x =
    row_same n listed (in_order listed) x (λ u v. into_order listed (u, v)) (λ u v. out_of_order listed (u, v))

-- rows contain their links in order
rows_alike : {X : Type 0} (k : ℕ) (some other : ℕ → List X) → ((x : ℕ) → x < k → some x ≡ other x)
    → rows_below k some ≡ rows_below k other
rows_alike zero some other same = refl
rows_alike (suc k) some other same =
    rw (rows_alike k some other (λ x l. same x (omega arith)), same k (omega arith)) refl

pub links_shown : (n : ℕ) (listed : List (ℕ × ℕ)) (table : Table) → IsNet n listed → AreRows n listed table
    → links_in n table ≡ in_order listed
links_shown n listed table net rows =
    rows_alike n (λ x. out_links x (row_of table x)) (out_rows n listed)
    (λ x less. ap (out_links x) (rows.shown x less)) ∙ links_of_rows n listed net

-- heights along which links fall are heights for fewer links
pub fewer_fall : (links fewer : List (ℕ × ℕ)) (heights : Levels) → ((u v : ℕ) → Points fewer u v → Points links u v)
    → Fit links heights → Fit fewer heights
fewer_fall links fewer heights among fit known u v stands = fit known u v (among u v stands)

-- so a graph with the rows of links without a fault, their number, and heights along which they fall, has their network
pub graph_with_order : (g : Graph) (listed : List (ℕ × ℕ)) → IsFaultless g.nodes listed → g.link_count ≡ length listed
    → AreRows g.nodes listed g.rows → length g.heights.heights ≡ g.nodes → Fit listed g.heights → IsGraph g
graph_with_order g listed clear count rows height_each fit =
    let n = g.nodes in
    let is = links_shown n listed g.rows clear.is_net rows in
    record {
      faultless = rw is (in_order_faultless n listed clear);
      sorted = rw is (in_order_order listed);
      counted =
          count ∙ sym (length_permutation listed (in_order listed) (in_order_permutes listed)) ∙ sym (ap length is);
      rows = record {
        one_each = rows.one_each;
        shown = λ x less. rows.shown x less ∙ in_order_row n listed x
            ∙ ap (λ (ls : List (ℕ × ℕ)). row n ls x) (sym is);
      };
      height_each = height_each;
      fit = rw is (fewer_fall listed (in_order listed) g.heights (λ u v. out_of_order listed (u, v)) fit);
    }

abbrev pub with_links : ℕ → List (ℕ × ℕ) → Network
with_links n links = record { nodes = n; links = links }

pub made_of : (n : ℕ) (listed made : List (ℕ × ℕ)) → IsFaultless n listed → made ≡ in_order listed
    → IsNetworkOf n listed (with_links n made)
made_of n listed made clear is = record {
  is = ap (with_links n) is;
  same_links = rw is (in_order_permutes listed);
  faultless = clear;
}

pub network_of_rows : (n : ℕ) (listed : List (ℕ × ℕ)) (table : Table) → IsFaultless n listed → AreRows n listed table
    → IsNetworkOf n listed (with_links n (links_in n table))
network_of_rows n listed table clear rows =
    made_of n listed (links_in n table) clear (links_shown n listed table clear.is_net rows)

-- a graph with the same rows and any room
pub graph_of_rows : (g : Graph) (table : Table) → table.rows ≡ g.rows.rows → IsGraph g
    → IsGraph (record g { rows = table })
graph_of_rows g table same graph =
    let of_rows : (rows : List (List (ℕ × First))) → Graph =
    λ rows. record g { rows = record { rows = rows; rooms = table.rooms } } in
    let moved : IsGraph (of_rows g.rows.rows) = record {
      faultless = graph.faultless;
      sorted = graph.sorted;
      counted = graph.counted;
      rows = record { one_each = graph.rows.one_each; shown = graph.rows.shown };
      height_each = graph.height_each;
      fit = graph.fit;
    } in
    subst (λ (rows : List (List (ℕ × First))). IsGraph (of_rows rows)) (sym same) moved

pub shown_of_rows : (g : Graph) (table : Table) → table.rows ≡ g.rows.rows
    → links_in g.nodes table ≡ links_in g.nodes g.rows
shown_of_rows g table same =
    ap (λ (rows : List (List (ℕ × First))). rows_below g.nodes (λ x. out_links x (get_or rows x []))) same

pub same_of_rows : (g : Graph) (table : Table) → table.rows ≡ g.rows.rows → KeepsRooms g.rows table → IsGraph g
    → IsSame g (record g { rows = table })
same_of_rows g table same kept graph = record {
  graph = graph_of_rows g table same graph;
  same = ap (with_links g.nodes) (shown_of_rows g table same);
  rooms = kept;
}

-- the same graph with other heights along which its links fall
pub same_of_heights : (g : Graph) (heights : Levels) → length heights.heights ≡ g.nodes → Fit (shown g).links heights
    → IsGraph g → IsSame g (record g { heights = heights })
same_of_heights g heights height_each fit graph = record {
  graph = record {
    faultless = graph.faultless;
    sorted = graph.sorted;
    counted = graph.counted;
    rows = graph.rows;
    height_each = height_each;
    fit = fit;
  };
  same = refl;
  rooms = λ x. omega arith;
}

-- the network is unchanged over two changes if it is over each of them
pub same_through : (before mid after : Graph) → IsSame before mid → IsSame mid after → IsSame before after
same_through before mid after first next = record {
  graph = next.graph;
  same = next.same ∙ first.same;
  rooms = λ x. omega (arith, first.rooms x, next.rooms x);
}

-- the rows of a graph contain its network
pub net_shown : (g : Graph) → IsGraph g → net_in g.rows ≡ shown g
net_shown g is = let at : ℕ → Network = λ n. record { nodes = n; links = links_in n g.rows } in ap at is.rows.one_each

pub shows_net : (g : Graph) → IsGraph g → ShowsNet g.rows
shows_net g is = record { is_net = rw is.rows.one_each is.faultless.is_net; rows = rw is.rows.one_each is.rows }

-- and its links fall once the heights are known
pub falling_rows : (g : Graph) → IsGraph g → g.heights.known ≡ true → AreFallingRows g.rows g.heights.heights
falling_rows g is known = record {
  shown = shows_net g is;
  one_each = is.height_each ∙ sym is.rows.one_each;
  falling = subst (λ (m : Network). AreFalling g.heights.heights m.links) (sym (net_shown g is)) (is.fit known);
}
