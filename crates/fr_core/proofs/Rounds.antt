-- How a run is cut in two.
use Rattle.std.proofs.Common.{List, [], ap, if◌then◌else◌, refl, ℕ, ◌++◌, ◌∙◌, ◌∷◌, ◌≡◌}
use Rattle.fr_core.specs.History.{Moment, after, after_all, after_reply, is_turned, links_after}
use Rattle.fr_core.specs.Legal.{IsRun}
use Rattle.fr_core.specs.declared.entry.Entry.{Entry}
use Rattle.fr_core.specs.declared.entry.Reply.{Reply}
use Rattle.fr_core.specs.declared.entry.Reply.TheVariants.{Cut, Held, Moved, Sink, Turned}
use Rattle.fr_graph.specs.Turn.{turn}

pub after_all-append : (m : Moment) (a b : List Entry) → after_all m (a ++ b) ≡ after_all (after_all m a) b
after_all-append m [] b = refl
after_all-append m (e ∷ a) b = after_all-append (after m e) a b

pub run_append : (n d : ℕ) (m : Moment) (a b : List Entry) → IsRun n d m a → IsRun n d (after_all m a) b
    → IsRun n d m (a ++ b)
run_append n d m [] b r s = s
run_append n d m (e ∷ a) b r s = (r.0, run_append n d (after m e) a b r.1 s)

pub run_parts : (n d : ℕ) (m : Moment) (a b : List Entry) → IsRun n d m (a ++ b)
    → IsRun n d m a × IsRun n d (after_all m a) b
run_parts n d m [] b r = (tt, r)
run_parts n d m (e ∷ a) b r = let rest = run_parts n d (after m e) a b r.1 in ((r.0, rest.0), rest.1)

-- the moment after a history has the links after it
pub links-after_all : (m : Moment) (h : List Entry) → (after_all m h).links ≡ links_after m.links h
links-after_all m [] = refl
links-after_all m (e ∷ h) =
    links-after_all (after m e) h ∙ ap (λ (links : List (ℕ × ℕ)). links_after links h) (one m e.node e.reply)
  where
    one : (m : Moment) (x : ℕ) (r : Reply)
        → (after_reply m x r).links ≡ (if is_turned r then turn x m.links else m.links)
    one m x (Turned k) = refl
    one m x (Held by) = refl
    one m x (Moved had k) = refl
    one m x Cut = refl
    one m x Sink = refl
