use Rattle.std.specs.declared.alloc.Global.{Global}
use Rattle.std.specs.declared.vec.Vec.{Vec}
use Rattle.std.proofs.Common.{Option, vec_capacity, ◌⊎◌, All, Contains, List, Some, [], ap, arith, inl, inr, length}
use Rattle.std.proofs.Common.{subst, ℕ, ⊎_elim, ◌++◌, ◌<◌, ◌∷◌, ◌≡◌, ◌≤◌}
use Rattle.std.proofs.lemmas.List.{length_push, same_from_push}
use Rattle.std.proofs.lemmas.List.Elements.{All-push, Contains-append_left, Contains-push}
use Rattle.fr_tables.specs.Inside.{IsEnd, IsFollowed, IsTrail, IsWalking, mark_of}
use Rattle.fr_tables.specs.Tables.{SendsOn}
use Rattle.fr_tables.specs.declared.hop.Hop.{Hop}
use Rattle.fr_tables.specs.declared.waves.Group.{Group}
use Rattle.fr_tables.proofs.Relations.{trail_front, trail_last, trail_push, trail_short}
use Rattle.fr_tables.proofs.Walks.{end_cut_off, end_here, sends_read}
use Rattle.fr_tables.proofs.waves.follow_to_known_group.Goals as goal

pushed_met : (walk : List ℕ) (at x : ℕ) → Contains walk x ⊎ (at ≡ x) → Contains (walk ++ at ∷ []) x
pushed_met walk at x met =
    ⊎_elim (Contains-append_left walk (at
    ∷ []) x) (λ e. subst (Contains (walk ++ at ∷ [])) e (Contains-push walk at)) met

walking_of : {new : List Hop} {first walk : Vec ℕ Global} (at : ℕ) → IsWalking new first
    → length new ≤ vec_capacity walk
    → IsTrail new (walk.items ++ at ∷ []) → All (λ (x : ℕ). x < length new) walk.items → IsWalking new walk
walking_of {new = new} {walk = walk} at first room trail inside = record {
  range = first.range;
  free = first.free;
  room = room;
  trail = trail_front (SendsOn new) walk.items at trail;
  inside = inside;
}

pub returns-in-Some : goal.returns-in-Some
returns-in-Some c =
    let new = c.args.new.now in
    let at : ℕ = c.loop-at.at in
    let group : Group = c.in-Some.group in
    let before = c.loop-at.invariant in
    record {
      walking = walking_of {walk = c.loop-at.walk} at c.requires.walking before.room before.trail before.inside;
      met =
          ⊎_elim (λ was. inl was) (λ e. inr (
            group,
            subst (λ (z : ℕ). mark_of c.args.marks.now z ≡ Some group) e c.in-Some.is,
          )) before.met;
      is_stop =
          λ rest y e. inl (
            at,
            trail_last (SendsOn new) rest y at (subst (λ (ws : List ℕ). IsTrail new (ws ++ at ∷ [])) e before.trail),
            c.in-Some.is,
          );
    }

pub push_reserved-requires : goal.push_reserved-requires
push_reserved-requires c =
    let new = c.args.new.now in
    let walk = c.loop-at.walk.items in
    let at : ℕ = c.loop-at.at in
    let before = c.loop-at.invariant in
    let walking = c.requires.walking in
    let short = trail_short (SendsOn new) (length new) walking.range (walk ++ at ∷ []) walking.free before.trail
    (All-push (λ (x : ℕ). x < length new) walk at before.inside before.low) in
    omega (arith, length_push walk at, short, before.room)

pub loop-at-smaller : goal.loop-at-smaller
loop-at-smaller c =
    let new = c.args.new.now in
    let walk = c.loop-at.walk.items in
    let at : ℕ = c.loop-at.at in
    let before = c.loop-at.invariant in
    let walking = c.requires.walking in
    let short = trail_short (SendsOn new) (length new) walking.range (walk ++ at ∷ []) walking.free before.trail
    (All-push (λ (x : ℕ). x < length new) walk at before.inside before.low) in
    let items : c.push_reserved.new.self.items ≡ walk ++ at ∷ [] = c.push_reserved.ensures.items in
    omega (arith, ap length items, length_push walk at, short)

pub loop-at-preserved : goal.loop-at-preserved
loop-at-preserved c =
    let new = c.args.new.now in
    let walk = c.loop-at.walk.items in
    let at : ℕ = c.loop-at.at in
    let next : ℕ = c.in-To.next in
    let before = c.loop-at.invariant in
    let items : c.push_reserved.new.self.items ≡ walk ++ at ∷ [] = c.push_reserved.ensures.items in
    let sends : SendsOn new at next = sends_read new at next c.in-To.is in
    rw items (record {
      room = omega (arith, before.room, c.push_reserved.ensures.capacity);
      trail = trail_push (SendsOn new) walk at next before.trail sends;
      inside = All-push (λ (x : ℕ). x < length new) walk at before.inside before.low;
      low = c.requires.walking.range at next sends;
      met = inl (pushed_met walk at c.args.x before.met);
    })

module _ {new : List Hop} {marks : List (Option Group)} {before after : Vec ℕ Global} {x at : ℕ} {g : Group} where
  -- the walk ends at its last node
  ended : IsWalking new before → IsTrail new (before.items ++ at ∷ []) → at < length new
      → length new ≤ vec_capacity after
      → after.items ≡ before.items ++ at ∷ [] → Contains before.items x ⊎ (at ≡ x) → IsEnd new at g
      → IsFollowed new marks after x g
  ended walking trail low room items met end = record {
    walking = record {
      range = walking.range;
      free = walking.free;
      room = room;
      trail = rw items trail;
      inside = rw items (All-push (λ (y : ℕ). y < length new) before.items at walking.inside low);
    };
    met = inl (rw items (pushed_met before.items at x met));
    is_stop = rw items (λ rest y e.
        let (_, same) = same_from_push before.items rest at y e in
        inr (subst (λ (z : ℕ). IsEnd new z g) same end));
  }

pub returns-in-Here : goal.returns-in-Here
returns-in-Here c =
    let new = c.args.new.now in
    let at : ℕ = c.loop-at.at in
    let before = c.loop-at.invariant in
    let end = end_here new at before.low c.in-Here.is in
    ended (walking_of {walk = c.loop-at.walk} at c.requires.walking before.room before.trail before.inside)
    before.trail before.low
    (omega (arith, before.room, c.push_reserved.ensures.capacity)) c.push_reserved.ensures.items before.met
    (record { last = end.last; route = rw c.group_past_end.ensures.0 end.route; none = c.group_past_end.ensures.1 })

pub returns-in-CutOff : goal.returns-in-CutOff
returns-in-CutOff c =
    let new = c.args.new.now in
    let at : ℕ = c.loop-at.at in
    let before = c.loop-at.invariant in
    let end = end_cut_off new at before.low c.in-CutOff.is in
    ended (walking_of {walk = c.loop-at.walk} at c.requires.walking before.room before.trail before.inside)
    before.trail before.low
    (omega (arith, before.room, c.push_reserved.ensures.capacity)) c.push_reserved.ensures.items before.met
    (record {
      last = end.last;
      route = rw c.group_past_end-in-CutOff.ensures.0 end.route;
      none = c.group_past_end-in-CutOff.ensures.1;
    })
