-- Entries checked one by one.
use Rattle.std.proofs.Common.{List, [], ap, arith, drop, length, refl, replicate, slice_index_or, subst, sym, take, ℕ}
use Rattle.std.proofs.Common.{◌++◌, ◌+◌, ◌<◌, ◌∙◌, ◌∷◌, ◌≡◌}
use Rattle.std.proofs.lemmas.List.{drop_more, length-take-le, take-append-drop, take_more}
use Rattle.fr_core.proofs.Finishing.{moment_path}
use Rattle.fr_core.proofs.Rounds.{after_all-append, run_append}
use Rattle.fr_core.proofs.Runs.{run_to}
use Rattle.fr_core.proofs.Turning.{run_keeps}
use Rattle.fr_core.specs.Checks.{Fails, IsBadAt}
use Rattle.fr_core.specs.Runs.{IsRunTo}
use Rattle.fr_core.specs.History.{Moment, after, after_reply, moment_of}
use Rattle.fr_core.specs.Legal.{IsLegal, IsRun}
use Rattle.fr_core.specs.declared.check.fault.Why.{Why}
use Rattle.fr_core.specs.declared.entry.Entry.{Entry}
use Rattle.fr_core.specs.declared.entry.Reply.{Reply}
use Rattle.fr_core.specs.declared.entry.Reply.TheVariants.{Cut, Held, Moved, Sink, Turned}
use Rattle.fr_graph.specs.Counts.{AreLawful, links_at}
use Rattle.fr_graph.specs.Links.{IsNet}

-- a reply that is no turn leaves the counts as they were
pub same_after : (m : Moment) (x : ℕ) (r : Reply) → ((k : ℕ) → r ≡ Turned k → ⊥) → m.counts ≡ (after_reply m x r).counts
same_after m x (Turned k) no_turn = absurd (no_turn k refl)
same_after m x (Held by) no_turn = refl
same_after m x (Moved had k) no_turn = refl
same_after m x Cut no_turn = refl
same_after m x Sink no_turn = refl

module _ (n d : ℕ) (first : List (ℕ × ℕ)) where
  -- one more legal entry
  pub one_more : (entries : List Entry) (i : ℕ) (none : Entry) (counts now : List ℕ) → IsNet n first
      → IsRunTo n d first (take i entries) counts → i < length entries
      → IsLegal n d (moment_of first counts) (slice_index_or entries i none)
      → now ≡ (after (moment_of first counts) (slice_index_or entries i none)).counts
      → IsRunTo n d first (take (i + 1) entries) now
  one_more entries i none counts now net old l legal same =
      let e : Entry = slice_index_or entries i none in
      let kept =
      run_keeps n d first net (moment_of first counts) (record { links = refl; lawful = old.lawful }) (e ∷ []) (
        legal,
        tt,
      ) in
      let here : after (moment_of first counts) e ≡ moment_of first now = moment_path (after (moment_of first counts) e)
      (moment_of first now) (kept.links ∙ ap (links_at first) (sym same)) (sym same) in
      subst (λ (es : List Entry). IsRunTo n d first es now) (sym (take_more entries i none l))
      (run_to n d first net (take i entries ++ e ∷ []) now
      (run_append n d (moment_of first (replicate n 0)) (take i entries) (e ∷ []) old.run
      (subst (λ (m : Moment). IsRun n d m (e ∷ [])) (sym old.ends) (legal, tt)))
      (after_all-append (moment_of first (replicate n 0)) (take i entries) (e ∷ [])
      ∙ ap (λ (m : Moment). after m e) old.ends ∙ here)
      (subst (AreLawful n d first) (sym same) kept.lawful))

  -- the first entry that is not legal
  pub bad_at : (entries : List Entry) (i : ℕ) (none : Entry) (counts : List ℕ) (why : Why)
      → IsRunTo n d first (take i entries) counts → i < length entries
      → Fails n d (moment_of first counts) (slice_index_or entries i none) why
      → IsBadAt n d (moment_of first (replicate n 0)) entries i why
  bad_at entries i none counts why old l fails = record {
    front = take i entries;
    bad = slice_index_or entries i none;
    back = drop (i + 1) entries;
    parted =
        sym (take-append-drop i entries) ∙ ap (λ (r : List Entry). take i entries ++ r) (drop_more entries i none l);
    place = length-take-le i entries (omega (arith, l));
    run = old.run;
    fails = subst (λ (m : Moment). Fails n d m (slice_index_or entries i none) why) (sym old.ends) fails;
  }
