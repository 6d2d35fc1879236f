-- What is known of each neighbour stays at a tick.
use Rattle.std.proofs.Common.{[], List, ap, get_or, map, refl, subst, sym, ℕ, ◌∷◌, ◌≡◌, ◌∙◌}
use Rattle.std.proofs.Math.ListN.{get_or-map}
use Rattle.fr_node.specs.declared.link.Link.{Link}
use Rattle.fr_node.specs.declared.node.Node.{Node}
use Rattle.fr_node.specs.Events.{IsAfterEvent}
use Rattle.fr_node.specs.Links.{after_tick, link_to, place_of, unknown}
use Rattle.fr_node.specs.Nodes.{Steps}
use Rattle.fr_node.proofs.Stepping.{InTurn, KnowsSame, after_keeping, steps_kept}

pub place_ticked : (patience : ℕ) (ls : List Link) (w : ℕ) → place_of (map (after_tick patience) ls) w ≡ place_of ls w
place_ticked patience [] w = refl
place_ticked patience (l ∷ ls) w = rw (place_ticked patience ls w) refl

pub link_to-ticked : (patience : ℕ) (ls : List Link) (w : ℕ)
    → link_to (map (after_tick patience) ls) w ≡ after_tick patience (link_to ls w)
link_to-ticked patience ls w =
    ap (λ (n : ℕ). get_or (map (after_tick patience) ls) n unknown) (place_ticked patience ls w)
    ∙ get_or-map (after_tick patience) ls (place_of ls w) unknown

knows_tick : (patience : ℕ) (l : Link) → KnowsSame l (after_tick patience l)
knows_tick patience l = record { peer = refl; stamp = refl; heard = refl; seen = refl; acked = refl }

pub ticked_same : (patience : ℕ) (ls ks : List Link) → ks ≡ map (after_tick patience) ls → (w : ℕ)
    → KnowsSame (link_to ls w) (link_to ks w)
ticked_same patience ls ks e w = subst (KnowsSame (link_to ls w))
    (sym (ap (λ (js : List Link). link_to js w) e ∙ link_to-ticked patience ls w)) (knows_tick patience (link_to ls w))

pub after_ticking : (patience : ℕ) (old mid new : Node) → InTurn old mid new
    → mid.links.items ≡ map (after_tick patience) old.links.items → IsAfterEvent [] old new
after_ticking patience old mid new turn e = after_keeping old mid new turn
    (ticked_same patience old.links.items mid.links.items e)

pub steps_ticked : (patience : ℕ) (old new : Node) → new.own ≡ old.own
    → new.links.items ≡ map (after_tick patience) old.links.items → Steps [] old new
steps_ticked patience old new own e = steps_kept old new own
    (ticked_same patience old.links.items new.links.items e)
