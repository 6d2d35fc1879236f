-- A line and the states before and after it determine the list of rerouted nodes.
use Rattle.std.proofs.Common.{◌≡◌, ◌∙◌, ℕ, List, max, Option, Some, None, Result, Ok, Err, inl, inr, subst, sym}
use Rattle.fr_requests.specs.Requests.{PlainRequest, new_network, cut_link, add_link, join_nodes, make_edits, move_dest}
use Rattle.fr_requests.specs.Requests.{walk_from, ask, ask_node, order_pushes, push_ways}
use Rattle.fr_requests.specs.declared.requests.LineFault.{LineFault}
use Rattle.fr_tables.specs.declared.hop.Hop.{Hop}
use Rattle.fr_tables.specs.Pushes.{IsPushOrder}
use Rattle.fr_tables.proofs.Orders.{order_unique}
use Rattle.fr_route.specs.Reroutes.{AreHopsIn, AreReplaced, AreReplacedWays, AreRerouted, AreWaysIn, nodes_in}
use Rattle.fr_route.specs.Routes.{AreHops}
use Rattle.fr_route.specs.States.{State}
use Rattle.fr_route.specs.Telling.{IsLineTold, IsTold, TellsOf}
use Rattle.fr_ways.specs.Phases.{growths, shrinks}
use Rattle.fr_route.proofs.NodeWays.{ways_below_unique}
use Rattle.fr_route.proofs.Determined.{asked_not_accepted, hops_unique, not_both}

-- equal tables have the same push order
same_order : (old new before after : List Hop) (a b : List ℕ) → old ≡ before → new ≡ after
    → IsPushOrder old new a → IsPushOrder before after b → a ≡ b
same_order old new before after a b e f h k =
    let order : IsPushOrder before after a =
    subst (λ (hops : List Hop). IsPushOrder hops after a) e (subst (λ (hops : List Hop). IsPushOrder old hops a) f h) in
    order_unique before after a b order k

pub rerouted_unique : (old new : State) (a b : List ℕ) → AreRerouted old new a → AreRerouted old new b → a ≡ b
rerouted_unique old new a b h k =
    let before : h.before ≡ k.before = hops_unique old old.nodes h.before k.before h.were k.were in
    let after : h.after ≡ k.after = hops_unique new new.nodes h.after k.after h.are k.are in
    same_order h.before h.after k.before k.after a b before after h.order k.order

hops_in_unique : (s : Option State) (n : ℕ) (a b : List Hop) → AreHopsIn s n a → AreHopsIn s n b → a ≡ b
hops_in_unique None n a b h k = h ∙ sym k
hops_in_unique (Some s) n a b h k = hops_unique s n a b h k

pub replaced_unique : (old : Option State) (new : State) (a b : List ℕ) → AreReplaced old new a → AreReplaced old new b
    → a ≡ b
replaced_unique old new a b h k =
    let count : h.count ≡ k.count = h.all ∙ sym k.all in
    let were : AreHopsIn old k.count h.before = subst (λ (n : ℕ). AreHopsIn old n h.before) count h.were in
    let are : AreHops new k.count h.after = subst (λ (n : ℕ). AreHops new n h.after) count h.are in
    let before : h.before ≡ k.before = hops_in_unique old k.count h.before k.before were k.were in
    let after : h.after ≡ k.after = hops_unique new k.count h.after k.after are k.are in
    same_order h.before h.after k.before k.after a b before after h.order k.order

ways_in_unique : (s : Option State) (a b : List (List ℕ)) → AreWaysIn s a → AreWaysIn s b → a ≡ b
ways_in_unique None a b h k = h ∙ sym k
ways_in_unique (Some s) a b h k = ways_below_unique s s.nodes a b h k

pub replaced_ways_unique : (old : Option State) (new : State) (some others these those : List (ℕ × List ℕ))
    → AreReplacedWays old new some others → AreReplacedWays old new these those → (some ≡ these) × (others ≡ those)
replaced_ways_unique old new some others these those h k =
    let before : h.before ≡ k.before = ways_in_unique old h.before k.before h.were k.were in
    let after : h.after ≡ k.after =
    ways_below_unique new (max new.nodes (nodes_in old)) h.after k.after h.are k.are in (
      h.shrinks ∙ ((λ i. shrinks (before i) (after i)) ∙ sym k.shrinks),
      h.grows ∙ ((λ i. growths (before i) (after i)) ∙ sym k.grows),
    )

tells_unique : (s : Option State) (r : PlainRequest) (new : State) (old a b : List ℕ)
    → TellsOf s r new old a → TellsOf s r new old b → a ≡ b
tells_unique s (new_network n d links) new old a b h k = replaced_unique s new a b h k
tells_unique s (order_pushes table wanted) new old a b h k = absurd h
tells_unique None (cut_link u v) new old a b h k = absurd h
tells_unique None (add_link u v) new old a b h k = absurd h
tells_unique None (join_nodes u v) new old a b h k = absurd h
tells_unique None (make_edits edits) new old a b h k = absurd h
tells_unique None (move_dest d) new old a b h k = absurd h
tells_unique None (walk_from x) new old a b h k = absurd h
tells_unique None (ask question) new old a b h k = absurd h
tells_unique None (ask_node question x) new old a b h k = absurd h
tells_unique None (push_ways table) new old a b h k = absurd h
tells_unique (Some s) (cut_link u v) new old a b h k = rerouted_unique s new a b h k
tells_unique (Some s) (add_link u v) new old a b h k = rerouted_unique s new a b h k
tells_unique (Some s) (join_nodes u v) new old a b h k = rerouted_unique s new a b h k
tells_unique (Some s) (make_edits edits) new old a b h k = rerouted_unique s new a b h k
tells_unique (Some s) (move_dest d) new old a b h k = rerouted_unique s new a b h k
tells_unique (Some s) (walk_from x) new old a b h k = h ∙ sym k
tells_unique (Some s) (ask question) new old a b h k = h ∙ sym k
tells_unique (Some s) (ask_node question x) new old a b h k = h ∙ sym k
tells_unique (Some s) (push_ways table) new old a b h k = h ∙ sym k

told_unique : (s : Option State) (r : PlainRequest) (next : Option State) (old a b : List ℕ)
    → IsTold s r next old a → IsTold s r next old b → a ≡ b
told_unique s r next old a b (inl (j, h, e, same)) (inl (k, g, f, too)) = same ∙ sym too
told_unique s r next old a b (inl (j, h, e, same)) (inr (inl (n, g, f, tells))) = absurd (not_both s r j n h g)
told_unique s r next old a b (inl (j, h, e, same)) (inr (inr (n, g, f, too))) = same ∙ sym too
told_unique s r next old a b (inr (inl (m, h, e, tells))) (inl (k, g, f, same)) = absurd (not_both s r k m g h)
told_unique s r next old a b (inr (inl (m, h, e, tells))) (inr (inr (n, g, f, same))) =
    absurd (asked_not_accepted s r n m g h)
told_unique s r next old a b (inr (inr (m, h, e, same))) (inl (k, g, f, too)) = same ∙ sym too
told_unique s r next old a b (inr (inr (m, h, e, same))) (inr (inl (n, g, f, tells))) =
    absurd (asked_not_accepted s r m n h g)
told_unique s r next old a b (inr (inr (m, h, e, same))) (inr (inr (n, g, f, too))) = same ∙ sym too
told_unique s r next old a b (inr (inl (m, h, e, tells))) (inr (inl (n, g, f, too))) =
    let one : m ≡ n = cc (e, f) in
    tells_unique s r n old a b (subst (λ (z : State). TellsOf s r z old a) one tells) too

pub line_told_unique : (s : Option State) (r : Result PlainRequest LineFault) (next : Option State) (old a b : List ℕ)
    → IsLineTold s r next old a → IsLineTold s r next old b → a ≡ b
line_told_unique s (Ok r) next old a b h k = told_unique s r next old a b h k
line_told_unique s (Err fault) next old a b h k = h.1 ∙ sym k.1
