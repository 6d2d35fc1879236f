-- Tables of next hops. The word of a hop is the number of a node, 2^32 for the destination, and 2^32 + 1 for a node
-- that is cut off. This project's own; tables and loops are those of fr_tables.
use Rattle.std.specs.Prelude.{◌≡◌, ℕ, List, ◌++◌, ◌-◌, cond, length, map, nat_eq, nat_lt, replicate, slice_index_or}
use Rattle.fr_tables.specs.Tables.{IsInRange, IsLoopFree, SendsOn}
use Rattle.fr_tables.specs.declared.hop.Hop.{Hop}
use Rattle.fr_tables.specs.declared.hop.Hop.TheVariants.{CutOff, Here, To}
use Rattle.fr_shared.specs.declared.view.Push.{Push}
use Rattle.fr_shared.specs.Codec.{Codec}
use Rattle.fr_shared.specs.Histories.{push}
use Rattle.fr_shared.specs.Knowledge.{Knowledge, last_table}

abbrev pub word_of : Hop → ℕ
word_of Here = 4294967296
word_of (To y) = y
word_of CutOff = 4294967297

-- the hop that a word holds
abbrev pub hop_of : ℕ → Hop
hop_of word = cond (nat_lt word 4294967296) (To word) (cond (nat_eq word 4294967296) Here CutOff)

-- a hop for each of n nodes, to a node or nowhere, and no loop
pub record IsTable (n : ℕ) (table : List Hop) : Type 0 where
  pub one_each : length table ≡ n
  pub in_range : IsInRange table
  pub loop_free : IsLoopFree table

-- every node is cut off at first
abbrev pub hop_codec : Codec Hop
hop_codec = record {
  word_of = word_of;
  item_of = hop_of;
  blank = CutOff;
  most = 4294967295;
  IsTable = IsTable;
  Sends = SendsOn;
}

-- the table extended to n nodes, where the nodes past its end are cut off
abbrev pub padded : ℕ → List Hop → List Hop
padded n table = table ++ replicate (n - length table) CutOff

-- the pushes of the hops that these nodes have in the new table, in this order. The nodes of a push order are in the
-- table, so the default `Here` is never used
abbrev pub pushes_of : List Hop → List ℕ → List (Push Hop)
pushes_of new order = map (λ (x : ℕ). push x (slice_index_or new x Here)) order

-- what is known of a table of hops, and the table after the last known push
abbrev pub HopKnowledge : Type 0
HopKnowledge = Knowledge Hop

abbrev pub last_hops : HopKnowledge → List Hop
last_hops k = last_table hop_codec k
