-- What an update leaves.
use Rattle.std.proofs.Common.{List, arith, length, refl, subst, ℕ, ◌∙◌, ◌≡◌}
use Rattle.std.proofs.lemmas.List.{with_items_is}
use Rattle.std.specs.Vec.{with_items}
use Rattle.std.specs.declared.alloc.Global.{Global}
use Rattle.std.specs.declared.vec.Vec.{Vec}
use Rattle.fr_graph.specs.Network.{Network}
use Rattle.fr_nearest.specs.Changes.{AreAllNoted}
use Rattle.fr_nearest.specs.Distances.{AreDistances, IsRenewed, Measured}
use Rattle.fr_nearest.specs.declared.distance_changes.DistanceChanges.{DistanceChanges}
use Rattle.fr_nearest.proofs.NotedNodes.{changed_of}

-- The vector has got the distances `now` as its elements, and the changes are noted of what is read from it
pub renewed : (net : Network) (d : ℕ) (old : Measured) (of : Vec ℕ Global) {first now read : List ℕ}
    {changes : DistanceChanges}
    → first ≡ old.table → length now ≡ length of.items → AreDistances net.nodes net.links d now
    → read ≡ (with_items of now).items → AreAllNoted read changes → changes.before.items ≡ first
    → IsRenewed net d old
    (record {
      dest = d;
      table = (with_items of now).items;
      before = changes.before.items;
      changed = changes.nodes.items;
    })
renewed net d old of {first} {now} {read} {changes} was long are read_is noted before =
    rw table_is (record {
      dest = refl;
      table = are;
      before = before ∙ was;
      changed = changed_of (subst (λ (xs : List ℕ). AreAllNoted xs changes) (read_is ∙ table_is) noted);
    })
  where
    table_is : (with_items of now).items ≡ now
    table_is = with_items_is of now (omega (arith, long, of.ok.0))
