-- Two routers in which nothing more happens: a gateway, and a router with a route to it.
use Rattle.std.proofs.Common.{None, [], arith, false, get_or, inl, inr, refl, subst, suc, sym, true, zero, ℕ, ⊎_elim}
use Rattle.std.proofs.Common.{◌<◌, ◌∷◌, ◌≡◌, ◌≤◌, ◌⊎◌}
use Rattle.std.specs.Global.{Global, Vec}
use Rattle.std.specs.List.{Contains}
use denote.RawPtr.{null_ptr}
use Rattle.fr_node.specs.Arrivals.{IsTold}
use Rattle.fr_node.specs.Distances.{IsDistance, IsLeast, IsNearest, distance_over}
use Rattle.fr_node.specs.Shortest.{IsGateway, IsStillBelow, SomeRouteIsShortest}
use Rattle.fr_node.specs.Histories.{IsHistory}
use Rattle.fr_node.specs.Links.{is_offer, offer_of, unknown}
use Rattle.fr_node.specs.Policies.{IsAtTop}
use Rattle.fr_node.specs.declared.link.Link.{Link}
use Rattle.fr_node.specs.declared.node.Node.{Node}
use Rattle.fr_node.specs.declared.own.Own.{Own}
use Rattle.fr_node.specs.declared.policy.Policy.{Policy}
use Rattle.fr_node.specs.declared.policy.Rise.TheVariants.{Top}
use Rattle.fr_node.proofs.Announcing.{true_false}
use Rattle.fr_node.proofs.Members.{Contains-cases, Contains-head, Contains-none}

-- a link that is up, on which the height and the distance h were heard
abbrev link : ℕ → ℕ → Link
link neighbour h = record {
  neighbour = neighbour;
  cost = 1;
  carrier = true;
  up = true;
  deaf = 0;
  is_heard = true;
  silent = 0;
  peer = 1;
  stamp = 1;
  heard = 1;
  seen = h;
  distance = h;
  acked = 1;
  said = None;
}

-- router `me` with its number as its height
abbrev own : ℕ → Own
own me = record {
  me = me;
  boot = 1;
  used = me;
  announced = me;
  number = 1;
  used_since = 1;
  announced_since = 1;
}

abbrev policy : Policy
policy = record { rise = Top 2; lower = false; wait = false }

only : (l k : Link) → Contains (l ∷ []) k → l ≡ k
only l k h = ⊎_elim (λ e. e) (λ none. absurd (Contains-none k none)) (Contains-cases k l [] h)

head : (l : Link) → Contains (l ∷ []) l
head l = Contains-head l []

-- its one announcement
announced : (me : ℕ) → (h : ℕ → ℕ) × IsHistory (own me) h
announced me = (
  λ _. me,
  record {
    last = refl;
    used = λ n _ _. omega arith;
    announced = λ n _ _. omega arith;
    order = omega arith;
    begins = (omega arith, omega arith);
    ends = (omega arith, omega arith);
  },
)

near : (k : ℕ) → IsNearest (own 1) (link 0 0 ∷ []) k → 1 ≡ k
near k nearest = at nearest.some.0 nearest.some.1 nearest.some.3
  where
    at : (j : ℕ) → j < 1 → distance_over (get_or (link 0 0 ∷ []) j unknown) ≡ k → 1 ≡ k
    at zero l e = omega (arith, e)
    at (suc j) l e = absurd (omega (arith, l))

-- what the gateway offers
best : (v : ℕ) → IsLeast (is_offer 2) offer_of (link 0 0 ∷ []) v → 1 ≡ v
best v least = at least.some.0 least.some.1 least.some.3
  where
    at : (j : ℕ) → j < 1 → offer_of (get_or (link 0 0 ∷ []) j unknown) ≡ v → 1 ≡ v
    at zero l e = omega (arith, e)
    at (suc j) l e = absurd (omega (arith, l))

module _ (alloc : Global) where
  abbrev links : Link → Vec Link
  links l = record {
    ptr = null_ptr;
    len = 1;
    cap = 1;
    alloc = alloc;
    items = l ∷ [];
    ok = (refl, omega arith);
    small = omega arith;
  }

  abbrev gate : Node
  gate = record {
    own = own 0;
    gateway = true;
    policy = policy;
    links = links (link 1 1);
    events = 0;
    is_written = true;
    stamp = 1;
  }

  abbrev router : Node
  router = record {
    own = own 1;
    gateway = false;
    policy = policy;
    links = links (link 0 0);
    events = 0;
    is_written = true;
    stamp = 1;
  }

  abbrev nodes : ℕ → Node
  nodes zero = gate
  nodes (suc x) = router

  gate_distance : IsDistance gate 0
  gate_distance = record {
    gateway = λ _. refl;
    near = λ forwards. absurd (forwards refl);
    far = λ forwards. absurd (forwards refl);
  }

  router_distance : IsDistance router 1
  router_distance = record {
    gateway = λ g. absurd (true_false g);
    near = λ _ k at. omega (arith, near k at);
    far = λ _ none. absurd (true_false (sym (none 0 (omega arith))));
  }

  not_top : (v : ℕ) → IsAtTop router 2 v → ⊥
  not_top v top = omega (arith, top.none 0 unknown (omega arith) refl)

  still : IsStillBelow 2 router
  still = record {
    rise = refl;
    height = omega arith;
    may = record { forwards = refl; settled = refl; number = omega arith };
    keeps = record {
      stays = λ may v. (
        λ falls. omega (arith, falls.lower, best v falls.best),
        λ rises. absurd (not_top v rises),
      );
      own = refl;
    };
  }

  cost : (x : ℕ) (l : Link) → Contains (nodes x).links.items l → 1 ≤ l.cost
  cost zero l h = subst (λ (k : Link). 1 ≤ k.cost) (only (link 1 1) l h) (omega arith)
  cost (suc x) l h = subst (λ (k : Link). 1 ≤ k.cost) (only (link 0 0) l h) (omega arith)

  me : (x : ℕ) → x < 2 → (nodes x).own.me ≡ x
  me zero l = refl
  me (suc zero) l = refl
  me (suc (suc x)) l = absurd (omega (arith, l))

  has_announced : (x : ℕ) → (h : ℕ → ℕ) × IsHistory (nodes x).own h
  has_announced zero = announced 0
  has_announced (suc x) = announced 1

  told : (x : ℕ) (l : Link) → x < 2 → Contains (nodes x).links.items l → IsTold 2 nodes x l
  told zero l inside h = subst (IsTold 2 nodes 0) (only (link 1 1) l h) (record {
    within = omega arith;
    linked = refl;
    heard = omega arith;
    seen = refl;
    acked = refl;
  })
  told (suc zero) l inside h = subst (IsTold 2 nodes 1) (only (link 0 0) l h) (record {
    within = omega arith;
    linked = refl;
    heard = omega arith;
    seen = refl;
    acked = refl;
  })
  told (suc (suc x)) l inside h = absurd (omega (arith, inside))

  distance : (x : ℕ) (l : Link) → Contains (nodes x).links.items l → IsDistance (nodes l.neighbour) l.distance
  distance zero l h = subst (λ (k : Link). IsDistance (nodes k.neighbour) k.distance) (only (link 1 1) l h)
      router_distance
  distance (suc x) l h = subst (λ (k : Link). IsDistance (nodes k.neighbour) k.distance) (only (link 0 0) l h)
      gate_distance

  stills : (x : ℕ) → IsGateway (nodes x) ⊎ IsStillBelow 2 (nodes x)
  stills zero = inl (record { gateway = refl; height = refl })
  stills (suc x) = inr still

pub some_route_is_shortest : SomeRouteIsShortest
some_route_is_shortest alloc = (
  2,
  λ _. 2,
  nodes alloc,
  1,
  link 0 0 ∷ [],
  record {
    bits = λ x _. omega arith;
    me = me alloc;
    announced = λ x _. has_announced alloc x;
    cost = λ x l _ h. cost alloc x l h;
    told = λ x l inside h _. told alloc x l inside h;
    distance = λ x l _ h _. distance alloc x l h;
    still = λ x _. stills alloc x;
  },
  omega arith,
  record { path = (head (link 0 0), refl, refl); within = (omega arith, tt) },
  refl,
)
