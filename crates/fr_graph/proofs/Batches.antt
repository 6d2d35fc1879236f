-- Edits made one after the other: a list of edits makes exactly one network, or has exactly one first edit that is
-- refused.
use Rattle.std.proofs.Common.{List, [], ap, arith, get_or, inl, inr, length, refl, subst, suc, sym, take, zero, ℕ, ◌++◌}
use Rattle.std.proofs.Common.{◌<◌, ◌∙◌, ◌∷◌, ◌≡◌, ◌≤◌}
use Rattle.fr_graph.proofs.Joining.{join_fault_place, join_not_refused, joined_one}
use Rattle.fr_graph.proofs.Refusing.{fault_place, first_fault_place, no_first_fault}
use Rattle.fr_graph.specs.Batches.{AreMade, IsBatchFault, IsEditFault, IsMade, IsRefusedAt}
use Rattle.fr_graph.specs.Edits.{IsCutFault}
use Rattle.fr_graph.specs.Limits.{most_edits}
use Rattle.fr_graph.specs.Links.{Joins}
use Rattle.fr_graph.specs.Network.{Network}
use Rattle.fr_graph.specs.declared.fault.EditFault.{EditFault}
use Rattle.fr_graph.specs.declared.fault.NetFault.{NetFault}
use Rattle.fr_graph.specs.declared.fault.NetFault.TheVariants.{Cycle, Memory, NoLink, Range, SelfLink, TooMany, Twice}
use Rattle.fr_graph.specs.declared.edit.Edit.{Edit}
use Rattle.fr_graph.specs.declared.edit.Edit.TheVariants.{Add, Cut, Join}

-- one more edit
pub made_next : (net : Network) (edits : List Edit) (k : ℕ) (mid next : Network) (d : Edit) → k < length edits
    → AreMade net (take k edits) mid → IsMade mid (get_or edits k d) next → AreMade net (take (suc k) edits) next
made_next net [] k mid next d l made h = absurd (omega (arith, l))
made_next net (e ∷ es) zero mid next d l made h = (next, (subst (λ (m : Network). IsMade m e next) made h, refl))
made_next net (e ∷ es) (suc k) mid next d l made h =
    (made.0, (made.1.0, made_next made.0 es k mid next d (omega (arith, l)) made.1.1 h))

-- an edit makes only one network
made_one : (net : Network) (e : Edit) (a b : Network) → IsMade net e a → IsMade net e b → a ≡ b
made_one net (Cut u v) a b h g = h.1.is ∙ sym g.1.is
made_one net (Add u v) a b h g = h.is ∙ sym g.is
made_one net (Join u v) a b h g = joined_one net.nodes net.links u v a b h g

pub all_made_one : (net : Network) (edits : List Edit) (a b : Network) → AreMade net edits a → AreMade net edits b
    → a ≡ b
all_made_one net [] a b h g = h ∙ sym g
all_made_one net (e ∷ es) a b h g =
    all_made_one g.0 es a b (subst (λ (m : Network). AreMade m es a) (made_one net e h.0 g.0 h.1.0 g.1.0) h.1.1) g.1.1

-- why a link cannot be cut: there is none
pub cut_fault_is : (links : List (ℕ × ℕ)) (u v : ℕ) (f : NetFault) → IsCutFault links u v f
    → (f ≡ NoLink) × ¬ Joins links u v
cut_fault_is links u v TooMany h = absurd h
cut_fault_is links u v (Range x) h = absurd h
cut_fault_is links u v (SelfLink x) h = absurd h
cut_fault_is links u v (Twice x y) h = absurd h
cut_fault_is links u v (Cycle walk) h = absurd h
cut_fault_is links u v NoLink h = (refl, h)
cut_fault_is links u v Memory h = absurd h

-- an edit that is made is not refused, and the faults of a refused edit are of one kind
not_refused : (net : Network) (e : Edit) (f : NetFault) (after : Network) → IsEditFault net e f → ¬ IsMade net e after
not_refused net (Cut u v) f after refused made = (cut_fault_is net.links u v f refused).1 made.0
not_refused net (Add u v) f after refused made =
    no_first_fault net.nodes (net.links ++ (u, v) ∷ []) f made.faultless refused
not_refused net (Join u v) f after refused made = join_not_refused net.nodes net.links u v f after refused made

pub edit_fault_place : (net : Network) (e : Edit) (f g : NetFault) → IsEditFault net e f → IsEditFault net e g
    → fault_place f ≡ fault_place g
edit_fault_place net (Cut u v) f g hf hg =
    subst (λ (x : NetFault). fault_place x ≡ fault_place g) (sym (cut_fault_is net.links u v f hf).0)
    (subst (λ (x : NetFault). fault_place NoLink ≡ fault_place x) (sym (cut_fault_is net.links u v g hg).0) refl)
edit_fault_place net (Add u v) f g hf hg = first_fault_place net.nodes (net.links ++ (u, v) ∷ []) f g hf hg
edit_fault_place net (Join u v) f g hf hg = join_fault_place net.nodes net.links u v f g hf hg

at_first : (net mid : Network) (e : Edit) (f : NetFault) → mid ≡ net → IsEditFault mid e f → IsEditFault net e f
at_first net mid e f same h = subst (λ (m : Network). IsEditFault m e f) same h

-- if one edit is refused, the edits are not all made
refused_not_made : (net : Network) (edits : List Edit) (i : ℕ) (mid : Network) (f : NetFault) (after : Network)
    → i < length edits → AreMade net (take i edits) mid → ((d : Edit) → IsEditFault mid (get_or edits i d) f)
    → ¬ AreMade net edits after
refused_not_made net [] i mid f after l made refused all = omega (arith, l)
refused_not_made net (e ∷ es) zero mid f after l made refused all =
    not_refused net e f all.0 (at_first net mid e f made (refused e)) all.1.0
refused_not_made net (e ∷ es) (suc i) mid f after l made refused all =
    refused_not_made all.0 es i mid f after (omega (arith, l))
    (subst (λ (m : Network). AreMade m (take i es) mid) (made_one net e made.0 all.0 made.1.0 all.1.0) made.1.1)
    refused all.1.1

-- there is one first edit that is refused
first_refused : (net : Network) (edits : List Edit) (i j : ℕ) (a b : Network) (f g : NetFault) → i < length edits
    → j < length edits → AreMade net (take i edits) a → AreMade net (take j edits) b
    → ((d : Edit) → IsEditFault a (get_or edits i d) f) → ((d : Edit) → IsEditFault b (get_or edits j d) g) → i ≡ j
first_refused net [] i j a b f g li lj ma mb hf hg = absurd (omega (arith, li))
first_refused net (e ∷ es) zero zero a b f g li lj ma mb hf hg = refl
first_refused net (e ∷ es) zero (suc j) a b f g li lj ma mb hf hg =
    absurd (not_refused net e f mb.0 (at_first net a e f ma (hf e)) mb.1.0)
first_refused net (e ∷ es) (suc i) zero a b f g li lj ma mb hf hg =
    absurd (not_refused net e g ma.0 (at_first net b e g mb (hg e)) ma.1.0)
first_refused net (e ∷ es) (suc i) (suc j) a b f g li lj ma mb hf hg =
    ap suc (first_refused mb.0 es i j a b f g (omega (arith, li)) (omega (arith, lj))
    (subst (λ (m : Network). AreMade m (take i es) a) (made_one net e ma.0 mb.0 ma.1.0 mb.1.0) ma.1.1) mb.1.1 hf hg)

-- on one network, so what holds of the edit and the network at one place does at the other
pub refused_alike : (net : Network) (edits : List Edit) (f g : EditFault) (a : IsRefusedAt net edits f.at f.fault)
    (b : IsRefusedAt net edits g.at g.fault) → (f.at ≡ g.at) × (a.before ≡ b.before)
refused_alike net edits f g a b =
    let at =
    first_refused net edits f.at g.at a.before b.before f.fault g.fault a.inside b.inside a.made b.made a.refused
    b.refused in (
      at,
      all_made_one net (take g.at edits) a.before b.before
          (subst (λ (k : ℕ). AreMade net (take k edits) a.before) at a.made) b.made,
    )

-- the fault of one of them, at the place of the other
pub moved_fault : (net : Network) (edits : List Edit) (f g : EditFault) (a : IsRefusedAt net edits f.at f.fault)
    (b : IsRefusedAt net edits g.at g.fault) (d : Edit) → IsEditFault b.before (get_or edits g.at d) f.fault
moved_fault net edits f g a b d =
    let alike = refused_alike net edits f g a b in
    subst (λ (m : Network). IsEditFault m (get_or edits g.at d) f.fault) alike.1
    (subst (λ (k : ℕ). IsEditFault a.before (get_or edits k d) f.fault) alike.0 (a.refused d))

pub batch_fault_place : (net : Network) (edits : List Edit) (f g : EditFault) → IsBatchFault net edits f
    → IsBatchFault net edits g → fault_place f.fault ≡ fault_place g.fault
batch_fault_place net edits f g (inl a) (inl b) =
    subst (λ (x : NetFault). fault_place x
    ≡ fault_place g.fault) (sym a.2) (subst (λ (x : NetFault). fault_place TooMany ≡ fault_place x) (sym b.2) refl)
batch_fault_place net edits f g (inl a) (inr b) = absurd (omega (arith, a.0, b.0))
batch_fault_place net edits f g (inr a) (inl b) = absurd (omega (arith, a.0, b.0))
batch_fault_place net edits f g (inr a) (inr b) =
    edit_fault_place b.1.before (get_or edits g.at (Cut 0 0)) f.fault g.fault
    (moved_fault net edits f g a.1 b.1 (Cut 0 0)) (b.1.refused (Cut 0 0))

-- a batch that is refused is not made
pub batch_not_made : (net : Network) (edits : List Edit) (f : EditFault) (after : Network) → IsBatchFault net edits f
    → length edits ≤ most_edits → ¬ AreMade net edits after
batch_not_made net edits f after (inl a) few all = omega (arith, a.0, few)
batch_not_made net edits f after (inr a) few all =
    refused_not_made net edits f.at a.1.before f.fault after a.1.inside a.1.made a.1.refused all
