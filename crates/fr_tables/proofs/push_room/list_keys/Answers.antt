use Rattle.std.proofs.Common.{Some, ap, ◌≤◌, List, arith, get_or, length, length-set, refl, set, subst, sym, take, ℕ}
use Rattle.std.proofs.Common.{◌+◌, ◌<◌, ◌∙◌, ◌≡◌, Contains}
use Rattle.std.proofs.lemmas.List.{take_more}
use Rattle.fr_tables.specs.Inside.{AreListed, key_of}
use Rattle.fr_tables.proofs.Listing.{fresh, listed_few, listed_more}
use Rattle.fr_tables.proofs.push_room.list_keys.Goals as goal

pub loop-x-init : goal.loop-x-init
loop-x-init c = record {
  one_each = refl;
  listed = c.requires.none;
}

pub key_of-key-requires : goal.key_of-key-requires
key_of-key-requires c = λ group is.
    let changed = c.args.changed.now in
    let (inside, up) = c.requires.groups c.loop-x.x-index 0 c.loop-x-test.true in
    let same : group ≡ up.group = let e : Some group ≡ Some up.group = sym is ∙ (c.mark_at.ensures ∙ up.marked) in cc in
    let low : key_of c.args.last up.group ≤ length c.args.keys.now = up.low in
    omega (arith, ap (key_of c.args.last) same, low, c.requires.few)

pub overflow_add-places-in-loop-x : goal.overflow_add-places-in-loop-x
overflow_add-places-in-loop-x c =
    let changed = c.args.changed.now in
    let keys = c.loop-x.keys in
    let i : ℕ = c.loop-x.x-index in
    let x : ℕ = get_or changed i 0 in
    let k : ℕ = c.key_of-key.result in
    let before = c.loop-x.invariant in
    let (inside, up) = c.requires.groups i 0 c.loop-x-test.true in
    let is : k ≡ key_of c.args.last up.group = c.key_of-key.ensures up.group (c.mark_at.ensures ∙ up.marked) in
    let low : x < length keys = omega (arith, inside, before.one_each) in
    let out : ¬ Contains (take i changed) x = fresh changed i c.requires.once c.loop-x-test.true in
    let more = listed_few c.args.marks.now c.args.last (take i changed) keys c.loop-x.places x k before.listed low out
    (omega (arith, up.some, is)) (omega (arith, up.low, is, before.one_each)) in
    omega (arith, more, before.one_each, c.requires.few)

pub loop-x-preserved : goal.loop-x-preserved
loop-x-preserved c =
    let changed = c.args.changed.now in
    let keys = c.loop-x.keys in
    let places = c.loop-x.places in
    let i : ℕ = c.loop-x.x-index in
    let x : ℕ = get_or changed i 0 in
    let k : ℕ = c.key_of-key.result in
    let before = c.loop-x.invariant in
    let (inside, up) = c.requires.groups i 0 c.loop-x-test.true in
    let is : k ≡ key_of c.args.last up.group = c.key_of-key.ensures up.group (c.mark_at.ensures ∙ up.marked) in
    let low : x < length keys = omega (arith, inside, before.one_each) in
    let out : ¬ Contains (take i changed) x = fresh changed i c.requires.once c.loop-x-test.true in
    record {
      one_each = length-set keys x k ∙ before.one_each;
      listed = subst (λ (xs : List ℕ). AreListed c.args.marks.now c.args.last xs (set keys x k)
          (set places (k + 1) (get_or places (k + 1) 0 + 1))) (sym (take_more changed i 0 c.loop-x-test.true))
          (listed_more c.args.marks.now c.args.last (take i changed) keys places x k before.listed low out (omega (
            arith,
            up.some,
            is,
          ))
          (omega (arith, up.low, is, before.one_each)) up.group up.marked is);
    }
