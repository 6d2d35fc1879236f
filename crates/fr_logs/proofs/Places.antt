-- An entry of a log in the run.
use Rattle.std.proofs.Common.{◌≡◌, ◌≢◌, ◌∙◌, ◌++◌, ◌∷◌, [], ℕ, List, ap, arith, length, length-append, refl, subst}
use Rattle.std.proofs.Common.{sym, ⊎_elim}
use Rattle.std.proofs.lemmas.Bool.{cases_eq}
use Rattle.fr_core.specs.History.{moment_of, part}
use Rattle.fr_core.specs.Legal.{IsRun}
use Rattle.fr_core.specs.declared.entry.Entry.{Entry}
use Rattle.fr_core.proofs.Rounds.{run_parts}
use Rattle.fr_round.proofs.Entries.{part_more, part_same}
use Rattle.fr_logs.specs.Laws.{EachHasPlace}
use Rattle.std.specs.Prelude.{replicate}

-- an entry of a part in the whole
record IsAt (h : List Entry) (k : ℕ) (before : List Entry) (e : Entry) (after : List Entry) : Type 0 where
  front : List Entry
  back : List Entry
  parted : h ≡ front ++ e ∷ back
  before_it : part k front ≡ before
  after_it : part k back ≡ after

-- one entry more before it
at_other : (x : Entry) (h : List Entry) (k : ℕ) (before : List Entry) (e : Entry) (after : List Entry) → x.worker ≢ k
    → IsAt h k before e after → IsAt (x ∷ h) k before e after
at_other x h k before e after other i = record {
  front = x ∷ i.front;
  back = i.back;
  parted = ap (λ (l : List Entry). x ∷ l) i.parted;
  before_it = part_same k x i.front other ∙ i.before_it;
  after_it = i.after_it;
}

at_more : (x y : Entry) (h : List Entry) (k : ℕ) (before : List Entry) (e : Entry) (after : List Entry)
    → x.worker ≡ k → x ≡ y
    → IsAt h k before e after → IsAt (x ∷ h) k (y ∷ before) e after
at_more x y h k before e after own is i = record {
  front = x ∷ i.front;
  back = i.back;
  parted = ap (λ (l : List Entry). x ∷ l) i.parted;
  before_it = part_more k x i.front own ∙ (λ j. is j ∷ i.before_it j);
  after_it = i.after_it;
}

at_own : (x : Entry) (h : List Entry) (k : ℕ) (before : List Entry) (e : Entry) (after : List Entry) → x.worker ≡ k
    → ((before : List Entry) → part k h ≡ before ++ e ∷ after → IsAt h k before e after)
    → x ∷ part k h ≡ before ++ e ∷ after → IsAt (x ∷ h) k before e after
at_own x h k [] e after own later is =
    let first : x ≡ e = cc in record {
      front = [];
      back = h;
      parted = ap (λ (y : Entry). y ∷ h) first;
      before_it = refl;
      after_it = cc;
    }
at_own x h k (y ∷ before) e after own later is =
    let first : x ≡ y = cc in
    let rest : part k h ≡ before ++ e ∷ after = cc in
    at_more x y h k before e after own first (later before rest)

part_split : (h : List Entry) (k : ℕ) (before : List Entry) (e : Entry) (after : List Entry)
    → part k h ≡ before ++ e ∷ after → IsAt h k before e after
part_split [] k before e after is = absurd (omega (arith, ap length is, length-append before (e ∷ after)))
part_split (x ∷ h) k before e after is = ⊎_elim
    (λ own. at_own x h k before e after own (λ b. part_split h k b e after) (sym (part_more k x h own) ∙ is))
    (λ other. at_other x h k before e after other (part_split h k before e after (sym (part_same k x h other) ∙ is)))
    (cases_eq x.worker k)

pub each_has_place : EachHasPlace
each_has_place n d first counts logs r k before e after stands =
    let i = part_split r.history k before e after (sym (r.parts k (before ++ e ∷ after) stands)) in
    record {
      front = i.front;
      back = i.back;
      parted = i.parted;
      before_it = i.before_it;
      after_it = i.after_it;
      legal = (run_parts n d (moment_of first (replicate n 0)) i.front (e ∷ i.back)
          (subst (IsRun n d (moment_of first (replicate n 0))) i.parted r.run.run)).1.0;
    }
