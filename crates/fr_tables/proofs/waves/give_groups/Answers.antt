use Rattle.std.proofs.Common.{All, List, Some, [], ap, arith, length, length-set, subst, ℕ, ◌++◌, ◌+◌, ◌<◌, ◌∙◌, ◌∷◌}
use Rattle.std.proofs.Common.{◌≡◌}
use Rattle.std.proofs.lemmas.List.{append-nil}
use Rattle.std.proofs.lemmas.List.Elements.{All-contains, Contains-push}
use Rattle.fr_tables.specs.Inside.{IsGroup, IsMet, IsStop, IsTrail, changed_at}
use Rattle.fr_tables.specs.declared.waves.Group.{Group}
use Rattle.fr_tables.proofs.Changes.{marked_differs, marked_step}
use Rattle.fr_tables.specs.Tables.{SendsOn}
use Rattle.fr_tables.proofs.Counts.{after, step, step_differs, wave_low}
use Rattle.fr_tables.proofs.Marks.{given_known, given_met, given_stop, top_group}
use Rattle.fr_tables.proofs.Members.{all_front}
use Rattle.fr_tables.proofs.Relations.{trail_front}
use Rattle.fr_tables.proofs.waves.give_groups.Goals as goal

popped_low : (n : ℕ) (walk rest : List ℕ) (x : ℕ) → All (λ (y : ℕ). y < n) walk → walk ≡ rest ++ x ∷ [] → x < n
popped_low n walk rest x inside is =
    All-contains (λ (y : ℕ). y < n) (rest ++ x ∷ []) x (subst (All (λ (y : ℕ). y < n)) is inside) (Contains-push rest x)

pub bounds-differ-x : goal.bounds-differ-x
bounds-differ-x c =
    let before = c.loop-x.invariant.sound in
    omega (
      arith,
      popped_low (length c.args._new.now) c.loop-x.walk.items c.pop.new.self.items c.in-Some.x before.walking.inside
          c.in-Some.ensures.items,
      before.table.one_each,
    )

pub bounds-marks-x : goal.bounds-marks-x
bounds-marks-x c =
    let before = c.loop-x.invariant.sound in
    omega (
      arith,
      popped_low (length c.args._new.now) c.loop-x.walk.items c.pop.new.self.items c.in-Some.x before.walking.inside
          c.in-Some.ensures.items,
      before.one_each,
    )

pub wave_after-wave-requires : goal.wave_after-wave-requires
wave_after-wave-requires c = λ differs.
    let new = c.args._new.now in
    let differ = c.args.differ.now in
    let old = changed_at differ new in
    let rest = c.pop.new.self.items in
    let x : ℕ = c.in-Some.x in
    let k : Group = record { arrives = c.args.below.arrives; wave = c.loop-x.wave } in
    let before = c.loop-x.invariant in
    let items : c.loop-x.walk.items ≡ rest ++ x ∷ [] = c.in-Some.ensures.items in
    let low : x < length new = popped_low (length new) c.loop-x.walk.items rest x before.sound.walking.inside items in
    let group : IsGroup old new x (after k (step old new x)) =
    top_group old new c.loop-x.marks rest x k (omega (arith, low, before.sound.one_each))
    before.sound.known (subst (λ (walk : List ℕ). IsStop new c.loop-x.marks walk k) items before.stop) in
    let is : step old new x ≡ 1 = step_differs old new x (marked_differs differ new x low differs) in
    omega (
      arith,
      is,
      wave_low old new x (k.wave + step old new x) before.sound.walking.range low group.wave,
      before.sound.table.few,
    )

pub loop-x-preserved : goal.loop-x-preserved
loop-x-preserved c =
    let new = c.args._new.now in
    let differ = c.args.differ.now in
    let old = changed_at differ new in
    let marks = c.loop-x.marks in
    let rest = c.pop.new.self.items in
    let x : ℕ = c.in-Some.x in
    let k : Group = record { arrives = c.args.below.arrives; wave = c.loop-x.wave } in
    let l : Group = record { arrives = c.args.below.arrives; wave = c.wave_after-wave.result } in
    let before = c.loop-x.invariant in
    let walking = before.sound.walking in
    let known = before.sound.known in
    let items : c.loop-x.walk.items ≡ rest ++ x ∷ [] = c.in-Some.ensures.items in
    let low : x < length new = popped_low (length new) c.loop-x.walk.items rest x walking.inside items in
    let inside : x < length marks = omega (arith, low, before.sound.one_each) in
    let stop : IsStop new marks (rest ++ x ∷ []) k =
    subst (λ (walk : List ℕ). IsStop new marks walk k) items before.stop in
    let trail : IsTrail new (rest ++ x ∷ []) = subst (IsTrail new) items walking.trail in
    let number =
    marked_step differ new x low l.wave k.wave c.wave_after-wave.ensures.differ c.wave_after-wave.ensures.same in
    let is : l ≡ after k (step old new x) = ap (λ (w : ℕ). record { arrives = k.arrives; wave = w }) number in
    record {
      sound = record {
        table = before.sound.table;
        one_each = length-set marks x (Some l) ∙ before.sound.one_each;
        walking = record {
          range = walking.range;
          free = walking.free;
          room = omega (arith, walking.room, c.in-Some.ensures.capacity);
          trail = trail_front (SendsOn new) rest x trail;
          inside =
              all_front (λ (y : ℕ). y
              < length new) rest x (subst (All (λ (y : ℕ). y < length new)) items walking.inside);
        };
        known = given_known old new marks rest x k inside known stop l is;
      };
      stop = given_stop old new marks rest x k inside known stop l is trail;
      met =
          λ y was. given_met old new marks rest x k inside known stop l is y
          (subst (λ (walk : List ℕ). IsMet marks walk y) items (before.met y was));
    }

pub returns-clause-met : goal.returns-clause-met
returns-clause-met c = λ x was.
    let rest = c.pop.new.self.items in
    let items : c.loop-x.walk.items ≡ rest = c.in_default.ensures.items ∙ append-nil rest in
    subst (λ (walk : List ℕ). IsMet c.loop-x.marks walk x) items (c.loop-x.invariant.met x was)
