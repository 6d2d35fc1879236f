-- Along a walk of a packet the longest prefix does not get shorter. So a walk that comes back uses one prefix alone.
use Rattle.std.proofs.Common.{Bool, List, [], arith, refl, subst, sym, true, ℕ, ◌∷◌, ◌&&◌, ◌==◌, ◌||◌, ◌≡◌, ◌≤◌}
use Rattle.std.proofs.lemmas.Bool.Decides.{nat_tests}
use Rattle.fr_node.specs.Prefixes.{IsForwarded, IsLongest, IsPacketWalk, KnowsWhatComes, PrefixTables}
use Rattle.fr_node.specs.Prefixes.{PrefixesHaveNoLoop, SomePrefixIsLonger}
use Rattle.fr_node.specs.Routers.{end_of}
use Rattle.fr_node.specs.Tables.{IsMet, IsTableWalk}

module _ (t : PrefixTables) (knows : KnowsWhatComes t) where
  once : (x p q : ℕ) → IsLongest t x p → IsLongest t x q → p ≡ q
  once x p q a b = omega (arith, a.longest q b.known, b.longest p a.known)

  -- one step to a prefix that is as long
  longer : (u v : ℕ) (it : IsForwarded t u v) → it.out ≤ it.into
  longer u v it = it.at.longest it.out (knows it.out it.into u v it.way it.gate)

  -- the walk to a router with longest prefix r
  grows : (u : ℕ) (vs : List ℕ) (p r : ℕ) → IsPacketWalk t u vs → IsLongest t u p → IsLongest t (end_of u vs) r → p ≤ r
  grows u [] p r walk at end = omega (arith, once u p r at end)
  grows u (v ∷ vs) p r walk at end = omega (
    arith,
    once u p walk.0.out at walk.0.by,
    longer u v walk.0,
    grows v vs walk.0.into r walk.1 walk.0.at end,
  )

  -- a walk whose end has the longest prefix of its beginning uses this prefix alone
  alone : (u : ℕ) (vs : List ℕ) (p : ℕ) → IsPacketWalk t u vs → IsLongest t u p → IsLongest t (end_of u vs) p
      → IsTableWalk (t.ways p) (t.gates p) u vs
  alone u [] p walk at end = record {}
  alone u (v ∷ vs) p walk at end =
      let out : walk.0.out ≡ p = once u walk.0.out p walk.0.by at in
      let most = grows v vs walk.0.into p walk.1 walk.0.at end in
      let into : walk.0.into ≡ p = omega (arith, out, longer u v walk.0, most) in (
        record {
          way = subst (λ k. t.ways k u v ≡ true) out walk.0.way;
          gate = subst (λ k. t.gates k v u ≡ true) into walk.0.gate;
        },
        alone v vs p walk.1 (subst (IsLongest t v) into walk.0.at) end,
      )

pub prefixes_have_no_loop : PrefixesHaveNoLoop
prefixes_have_no_loop t knows none u v vs walk back = none walk.0.out u v vs
    (alone t knows u (v
    ∷ vs) walk.0.out walk walk.0.by (subst (λ y. IsLongest t y walk.0.out) (sym back) walk.0.by)) back

-- An example: each router knows prefix 0, and router 0 also prefix 1

abbrev two_prefixes : PrefixTables
two_prefixes = record {
  known = λ x p. (p == 0) || ((p == 1) && (x == 0));
  ways = λ p x w. (p == 0) && ((x == 1) && (w == 0));
  gates = λ q w x. (q == 1) && ((x == 1) && (w == 0));
}

all_known : KnowsWhatComes two_prefixes
all_known p q x w way gate = grind (arith, nat_tests)

-- no packet stays in one prefix
nowhere : (p u v : ℕ) → ¬ IsMet (two_prefixes.ways p) (two_prefixes.gates p) u v
nowhere p u v met = differ p ((u == 1) && (v == 0)) met.way met.gate
  where
    differ : (p : ℕ) (b : Bool) → ((p == 0) && b) ≡ true → ((p == 1) && b) ≡ true → ⊥
    differ p b way gate = grind (arith, nat_tests)

longest_of_1 : IsLongest two_prefixes 1 0
longest_of_1 = record { known = refl; longest = λ q known. grind (arith, nat_tests) }

longest_of_0 : IsLongest two_prefixes 0 1
longest_of_0 = record { known = refl; longest = λ q known. grind (arith, nat_tests) }

pub some_prefix_is_longer : SomePrefixIsLonger
some_prefix_is_longer = (
  two_prefixes,
  all_known,
  λ p u v vs walk back. nowhere p u v walk.0,
  (record { out = 0; by = longest_of_1; way = refl; into = 1; at = longest_of_0; gate = refl }, omega arith),
)
