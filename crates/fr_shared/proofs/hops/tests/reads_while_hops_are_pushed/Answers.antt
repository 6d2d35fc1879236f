use Rattle.std.proofs.Common.{List, [], ap, arith, refl, subst, sym, ℕ, ◌≤◌, ◌∙◌, ◌∷◌, ◌≡◌}
use Rattle.fr_tables.specs.Faults.{IsOrdered}
use Rattle.fr_tables.specs.Pushes.{IsPushOrder}
use Rattle.fr_tables.specs.declared.hop.Hop.{Hop}
use Rattle.fr_tables.specs.declared.hop.Hop.TheVariants.{Here, To}
use Rattle.fr_shared.specs.declared.view.Push.{Push}
use Rattle.fr_shared.specs.Histories.{blank, table_of}
use Rattle.fr_shared.specs.HopTables.{IsTable, hop_codec, last_hops, padded}
use Rattle.fr_shared.specs.Knowledge.{IsOpened, Knowledge}
use Rattle.fr_shared.proofs.HopPadding.{padded_again, padded_none, padded_order, padded_table}
use Rattle.fr_shared.proofs.hops.tests.reads_while_hops_are_pushed.Goals as goal

-- the table of the test
abbrev new_hops : List Hop
new_hops = Here ∷ To 0 ∷ To 1 ∷ []

opened_table : (n : ℕ) (order : List ℕ) → 3 ≤ n → IsOrdered (blank hop_codec 3) new_hops order
    → IsTable n (padded n new_hops)
opened_table n order low is =
    padded_table 3 n new_hops (record { one_each = refl; in_range = is.tables.new_range; loop_free = is.loop_free }) low

opened_order : (publisher reader : Knowledge Hop) (order : List ℕ) → IsOpened 5 publisher reader
    → IsOrdered (blank hop_codec 3) new_hops order
    → IsPushOrder (last_hops publisher) (padded publisher.nodes new_hops) order
opened_order publisher reader order opened is =
    let n : ℕ = publisher.nodes in
    let last : padded n (blank hop_codec 3) ≡ table_of hop_codec n publisher.known =
    padded_again 3 n [] (omega (arith, opened.nodes))
    ∙ (padded_none n ∙ ap (λ (h : List (Push Hop)). table_of hop_codec n h) (sym opened.none_yet)) in
    subst (λ (old : List Hop). IsPushOrder old (padded n new_hops) order) last
    (padded_order n (blank hop_codec 3) new_hops order refl is.is_order)

pub read_beside-publisher-requires-clause-table : goal.read_beside-publisher-requires-clause-table
read_beside-publisher-requires-clause-table g c κs =
    let opened = c.in_ok-publisher.ensures in
    opened_table c.in_ok-publisher.publisher.nodes c.expect-order.result.items (omega (arith, opened.nodes))
    (rw c.expect-order.ensures at c.push_order.ensures.order)

pub read_beside-publisher-requires-clause-order : goal.read_beside-publisher-requires-clause-order
read_beside-publisher-requires-clause-order g c κs =
    let o = c.in_ok-publisher in
    rw c.as_slice.ensures.value
    (opened_order o.publisher o.reader c.expect-order.result.items o.ensures
    (rw c.expect-order.ensures at c.push_order.ensures.order))
