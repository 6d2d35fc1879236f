-- The input and the draw determine the output text of a play.
use Rattle.std.proofs.Common.{◌≡◌, ◌∙◌, ℕ, ◌<◌, List, length, refl, sym, ap, subst}
use Rattle.std.proofs.Common.{inl, inr, arith, Option, Some, None, Result, Ok, Err}
use Rattle.std.specs.Prelude.{option_map}
use Rattle.fr_graph.specs.Faults.{IsFaultless}
use Rattle.fr_graph.specs.Order.{in_order}
use Rattle.fr_requests.specs.Requests.{PlainRequest, new_network, reading}
use Rattle.fr_requests.specs.declared.requests.LineFault.{LineFault}
use Rattle.fr_requests.specs.declared.requests.LineFault.TheVariants.{NotJson, NotRequest, Memory}
use Rattle.fr_graph.proofs.Refusing.{no_first_fault}
use Rattle.fr_core.specs.History.{Moment}
use Rattle.fr_core.specs.Runs.{IsRunTo}
use Rattle.fr_core.specs.declared.entry.Entry.{Entry}
use Rattle.fr_route.specs.Answers.{IsRefused}
use Rattle.fr_route.specs.Texts.{refusal_text}
use Rattle.fr_command.specs.Plays.{line_of, end_text, first_asking, IsPlayText, IsRefusal}
use Rattle.fr_command.specs.Plays.{IsPlayOf, IsPlayOfReading, IsPlayOutput}
use Rattle.fr_cli.specs.declared.draws.Draw.{Draw}
use Rattle.fr_route.proofs.Determined.{answer_unique}

-- the same entries lead to the same counts
same_counts : (n d : ℕ) (first : List (ℕ × ℕ)) (entries : List Entry) (a b : List ℕ) → IsRunTo n d first entries a
    → IsRunTo n d first entries b → a ≡ b
same_counts n d first entries a b h k = ap (λ (m : Moment). m.counts) (sym h.ends ∙ k.ends)

play_unique : (draw : Draw) (n d : ℕ) (first : List (ℕ × ℕ)) (a b : List ℕ) (j k : ℕ) → IsPlayText draw n d first a j
    → IsPlayText draw n d first b k → (a ≡ b) × (j ≡ k)
play_unique draw n d first a b j k p q =
    let entries : p.entries ≡ q.entries = p.play.decided ∙ sym q.play.decided in
    let counts : p.counts ≡ q.counts = same_counts n d first q.entries p.counts q.counts
    (subst (λ (es : List Entry). IsRunTo n d first es p.counts) entries p.run) q.run in
    let texts : end_text first p.entries p.counts
    ≡ end_text first q.entries q.counts = (λ i. end_text first (entries i) (counts i)) in
    (p.text ∙ (texts ∙ sym q.text), p.number ∙ (ap length entries ∙ sym q.number))

-- a network that is refused is not accepted
not_both : (n d : ℕ) (links : List (ℕ × ℕ)) (number : ℕ) → IsRefused None (new_network n d links) number
    → IsFaultless n links → d < n → ⊥
not_both n d links number (inl a) faultless below = no_first_fault n links a.0 faultless a.1
not_both n d links number (inr a) faultless below = let past = a.1 in omega arith

refusal_unique : (number other : ℕ) (a b : List ℕ) (j k : ℕ) → refusal_text number ≡ refusal_text other
    → IsRefusal number a j → IsRefusal other b k → (a ≡ b) × (j ≡ k)
refusal_unique number other a b j k same p q = (p.0 ∙ (ap line_of same ∙ sym q.0), p.1 ∙ sym q.1)

of_unique : (draw : Draw) (r : PlainRequest) (a b : List ℕ) (j k : ℕ) → IsPlayOf draw r a j → IsPlayOf draw r b k
    → (a ≡ b) × (j ≡ k)
of_unique draw (new_network n d links) a b j k (inl (x, p, refused)) (inl (y, q, also)) =
    let r = new_network n d links in
    refusal_unique x y a b j k
    (answer_unique None r (refusal_text x) (refusal_text y) None None (inl (x, p, refl, refl))
    (inl (y, q, refl, refl))).0 refused also
of_unique draw (new_network n d links) a b j k (inl (x, p, refused)) (inr h) =
    absurd (not_both n d links x p h.faultless h.destination)
of_unique draw (new_network n d links) a b j k (inr h) (inl (x, p, refused)) =
    absurd (not_both n d links x p h.faultless h.destination)
of_unique draw (new_network n d links) a b j k (inr h) (inr g) =
    play_unique draw n d (in_order links) a b j k h.play g.play
of_unique draw r a b j k p q = refusal_unique 3 3 a b j k refl p q

reading_unique : (draw : Draw) (line : Option (Result PlainRequest LineFault)) (a b : List ℕ) (j k : ℕ)
    → IsPlayOfReading draw line a j → IsPlayOfReading draw line b k → (a ≡ b) × (j ≡ k)
reading_unique draw (Some (Ok request)) a b j k p q = of_unique draw request a b j k p q
reading_unique draw (Some (Err NotJson)) a b j k p q = refusal_unique 1 1 a b j k refl p q
reading_unique draw (Some (Err NotRequest)) a b j k p q = refusal_unique 2 2 a b j k refl p q
reading_unique draw (Some (Err Memory)) a b j k p q = absurd p
reading_unique draw None a b j k p q = refusal_unique 3 3 a b j k refl p q

-- the play of an input has only one output text
pub play_output_unique : (draw : Draw) (bytes a b : List ℕ) (j k : ℕ) → IsPlayOutput draw bytes a j
    → IsPlayOutput draw bytes b k → (a ≡ b) × (j ≡ k)
play_output_unique draw bytes a b j k p q = reading_unique draw (option_map reading (first_asking bytes)) a b j k p q
