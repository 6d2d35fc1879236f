-- What is said of links does not depend on their order in the list.
use Rattle.std.proofs.Common.{IsPermutation, List, [], inl, inr, slice_index, ℕ, ◌∷◌}
use Rattle.std.proofs.lemmas.List.Elements.{All-contains}
use Rattle.std.proofs.lemmas.List.Sorted.{Contains-permutation, IsPermutation-sym}
use Rattle.fr_core.proofs.Turning.{All-from_Contains}
use Rattle.fr_core.specs.Settled.{AreSettled, IsSettledCount}
use Rattle.fr_core.specs.Walks.{HasUndirectedWalk, IsConnected, IsLeastAway, IsUndirectedWalk}
use Rattle.fr_graph.proofs.Giving.{ComesFrom, Points-links_at_back, Points-links_at_from}
use Rattle.fr_graph.specs.Counts.{AreLawful, IsKept, links_at}
use Rattle.fr_graph.specs.Links.{HaveSameLinks, IsAcyclic, IsAlone, IsPath, Joins, Points}
use Rattle.fr_graph.specs.Turn.{IsSink}

pub same_sym : (a b : List (ℕ × ℕ)) → HaveSameLinks a b → HaveSameLinks b a
same_sym a b same = λ u v. ((same u v).1, (same u v).0)

same_joins : (a b : List (ℕ × ℕ)) → HaveSameLinks a b → (u v : ℕ) → Joins a u v → Joins b u v
same_joins a b same u v (inl h) = inl ((same u v).0 h)
same_joins a b same u v (inr h) = inr ((same v u).0 h)

same_alone : (a b : List (ℕ × ℕ)) → HaveSameLinks a b → (x : ℕ) → IsAlone a x → IsAlone b x
same_alone a b same x alone w h = alone w (same_joins b a (same_sym a b same) x w h)

pub same_path : (a b : List (ℕ × ℕ)) → HaveSameLinks a b → (u : ℕ) (vs : List ℕ) → IsPath a u vs → IsPath b u vs
same_path a b same u [] path = tt
same_path a b same u (v ∷ vs) path = ((same u v).0 path.0, same_path a b same v vs path.1)

pub same_acyclic : (a b : List (ℕ × ℕ)) → HaveSameLinks a b → IsAcyclic a → IsAcyclic b
same_acyclic a b same acyclic u [] h = h
same_acyclic a b same acyclic u (v ∷ vs) h = acyclic u (v ∷ vs) (same_path b a (same_sym a b same) u (v ∷ vs) h.0, h.1)

same_walk : (a b : List (ℕ × ℕ)) → HaveSameLinks a b → (u : ℕ) (vs : List ℕ) (k x : ℕ) → IsUndirectedWalk a u vs k x
    → IsUndirectedWalk b u vs k x
same_walk a b same u [] k x w = w
same_walk a b same u (v ∷ vs) k x (inl w) =
    inl ((same u v).0 w.0, (w.1.0, w.1.1, same_walk a b same v vs w.1.0 x w.1.2))
same_walk a b same u (v ∷ vs) k x (inr w) = inr ((same v u).0 w.0, same_walk a b same v vs k x w.1)

same_has_walk : (a b : List (ℕ × ℕ)) → HaveSameLinks a b → (d x k : ℕ) → HasUndirectedWalk a d x k
    → HasUndirectedWalk b d x k
same_has_walk a b same d x k w = (w.0, same_walk a b same d w.0 k x w.1)

pub same_joined : (a b : List (ℕ × ℕ)) → HaveSameLinks a b → (d x : ℕ) → IsConnected a d x → IsConnected b d x
same_joined a b same d x j = (j.0, same_has_walk a b same d x j.0 j.1)

same_least : (a b : List (ℕ × ℕ)) → HaveSameLinks a b → (d x k : ℕ) → IsLeastAway a d x k → IsLeastAway b d x k
same_least a b same d x k h = record {
  reached = same_has_walk a b same d x k h.reached;
  least =
      λ away w. h.least away (same_has_walk b a (same_sym a b same) d x away w);
}

same_count : (a b : List (ℕ × ℕ)) → HaveSameLinks a b → (n d x k : ℕ) → IsSettledCount n d a x k
    → IsSettledCount n d b x k
same_count a b same n d x k (inl h) = inl (same_alone a b same x h.0, h.1)
same_count a b same n d x k (inr (inl h)) =
    inr (inl (λ alone. h.0 (same_alone b a (same_sym a b same) x alone), same_least a b same d x k h.1))
same_count a b same n d x k (inr (inr h)) =
    inr (inr (
      λ alone. h.0 (same_alone b a (same_sym a b same) x alone),
      (λ j. h.1 (same_joined b a (same_sym a b same) d x j)),
      h.2,
    ))

pub same_settled : (a b : List (ℕ × ℕ)) → HaveSameLinks a b → (n d : ℕ) (c : List ℕ) → AreSettled n d a c
    → AreSettled n d b c
same_settled a b same n d c h =
    record { one_each = h.one_each; settled = λ x l. same_count a b same n d x (slice_index c x) (h.settled x l) }

same_comes : (a b : List (ℕ × ℕ)) → HaveSameLinks a b → (c : List ℕ) (u v : ℕ) → ComesFrom a c u v → ComesFrom b c u v
same_comes a b same c u v (inl h) = inl ((same u v).0 h.0, h.1)
same_comes a b same c u v (inr h) = inr ((same v u).0 h.0, h.1)

same_links_at_from : (a b : List (ℕ × ℕ)) → HaveSameLinks a b → (c : List ℕ) (u v : ℕ) → Points (links_at a c) u v
    → Points (links_at b c) u v
same_links_at_from a b same c u v h =
    Points-links_at_back b c u v (same_comes a b same c u v (Points-links_at_from a c u v h))

pub same_links_at : (a b : List (ℕ × ℕ)) → HaveSameLinks a b → (c : List ℕ)
    → HaveSameLinks (links_at a c) (links_at b c)
same_links_at a b same c = λ u v. (same_links_at_from a b same c u v, same_links_at_from b a (same_sym a b same) c u v)

pub same_lawful : (a b : List (ℕ × ℕ)) → HaveSameLinks a b → (n d : ℕ) (c : List ℕ) → AreLawful n d a c
    → AreLawful n d b c
same_lawful a b same n d c h = record {
  one_each = h.one_each;
  destination = h.destination;
  alone = λ x alone. h.alone x (same_alone b a (same_sym a b same) x alone);
  capped = h.capped;
  kept = All-from_Contains (IsKept c) b (λ l g. All-contains (IsKept c) a l h.kept ((same l.0 l.1).1 g));
}

pub same_sink : (a b : List (ℕ × ℕ)) → HaveSameLinks a b → (x : ℕ) → IsSink a x → IsSink b x
same_sink a b same x h = ((h.0.0, (same h.0.0 x).0 h.0.1), λ w g. h.1 w ((same x w).1 g))

pub same_from_permutation : (a b : List (ℕ × ℕ)) → IsPermutation a b → HaveSameLinks a b
same_from_permutation a b p =
    λ u v. (Contains-permutation a b (u, v) p, Contains-permutation b a (u, v) (IsPermutation-sym a b p))
