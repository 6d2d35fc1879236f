use Rattle.std.proofs.Common.{◌≡◌, ◌∙◌, ◌++◌, List, ap, append_assoc, refl, string_bytes, subst, ℕ}
use Rattle.std.proofs.lemmas.Result.{on_ok_weaker}
use Rattle.revdot.specs.Changes.{LinksFollow, changes_text}
use Rattle.revdot.specs.Stories.{AreListed}
use Rattle.revdot.proofs.rounds.push_result.Goals as goal

pub returns-in_ok-push_changes-in-Some : goal.returns-in_ok-push_changes-in-Some
returns-in_ok-push_changes-in-Some c =
    let s = c.args.router.now in
    let before = c.in-Some.net in
    let first = string_bytes c.args.story.now in
    let middle = string_bytes c.push_changes.new.story in
    let last = string_bytes c.push_changed_ways.new.story in
    let follow : LinksFollow before.links s.links = rw c.net-after.ensures.links at c.follow_law.ensures in
    let told : List (ℕ × ℕ) → List ℕ → Type 0 =
    λ after counts. middle ≡ first ++ changes_text before.links after counts in
    let text : told s.links s.counts = subst (λ (after : List (ℕ × ℕ)). told after s.counts) c.net-after.ensures.links
    (subst (told c.net-after.result.now.links) c.counts.ensures.value c.in_ok-push_changes-in-Some.ensures) in
    let changes = changes_text before.links s.links s.counts in
    rw c.in-Some.is (on_ok_weaker c.push_changed_ways.result
    (λ (listed : (out : List ℕ) × AreListed c.args.before.now.ways s out × (last ≡ middle ++ out)). (
      changes ++ listed.0,
      (follow, listed.0, listed.1, refl),
      listed.2 ∙ (ap (λ (t : List ℕ). t ++ listed.0) text ∙ append_assoc first changes listed.0),
    ))
    c.push_changed_ways.ensures)
