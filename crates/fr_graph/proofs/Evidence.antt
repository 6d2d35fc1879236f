-- A fault has one evidence: links and edits determine its kind and the nodes that it names.
use Rattle.std.proofs.Common.{List, [], ap, arith, get_or, inl, inr, refl, subst, sym, take, ℕ, ⊎_elim, ◌<◌, ◌∙◌, ◌≡◌}
use Rattle.std.proofs.Common.{◌⊎◌}
use Rattle.std.specs.declared.alloc.Global.{Global}
use Rattle.std.specs.declared.vec.Vec.{Vec}
use Rattle.fr_graph.proofs.Batches.{cut_fault_is, edit_fault_place, moved_fault, refused_alike}
use Rattle.fr_graph.proofs.LowestCycles.{cycle_by_one, cycle_one, lowest_one}
use Rattle.fr_graph.proofs.Refusing.{first_fault_place}
use Rattle.fr_graph.specs.Batches.{AreMade}
use Rattle.fr_graph.specs.Evidence.{AreJoinedTwice, IsLowest, NamesFirst, NamesOfEdit, NamesOfLink, evidence}
use Rattle.fr_graph.specs.Faults.{fault_place}
use Rattle.fr_graph.specs.Laws.{BatchesHaveOneFault, EditsHaveOneFault, LinksHaveOneFault}
use Rattle.fr_graph.specs.Network.{Network}
use Rattle.fr_graph.specs.declared.fault.NetFault.{NetFault}
use Rattle.fr_graph.specs.declared.fault.NetFault.TheVariants.{Cycle, Memory, NoLink, Range, SelfLink, TooMany, Twice}
use Rattle.fr_graph.specs.declared.edit.Edit.TheVariants.{Add, Cut, Join}

-- the faults without evidence
shows_none : (g : NetFault) → (fault_place g ≡ 0) ⊎ (4 < fault_place g) → [] ≡ evidence g
shows_none TooMany h = refl
shows_none (Range x) h = absurd (⊎_elim (λ e. omega arith) (λ l. omega arith) h)
shows_none (SelfLink x) h = absurd (⊎_elim (λ e. omega arith) (λ l. omega arith) h)
shows_none (Twice x y) h = absurd (⊎_elim (λ e. omega arith) (λ l. omega arith) h)
shows_none (Cycle walk) h = absurd (⊎_elim (λ e. omega arith) (λ l. omega arith) h)
shows_none NoLink h = refl
shows_none Memory h = refl

-- two faults of one kind have the same evidence if a rule determines what each kind names
module _ (Names : NetFault → Type 0)
    (ranges : (x w : ℕ) → Names (Range x) → Names (Range w) → x ≡ w)
    (selves : (x w : ℕ) → Names (SelfLink x) → Names (SelfLink w) → x ≡ w)
    (twices : (x y w z : ℕ) → Names (Twice x y) → Names (Twice w z) → (x ≡ w) × (y ≡ z))
    (cycles : (walk round : Vec ℕ Global) → Names (Cycle walk) → Names (Cycle round) → walk.items ≡ round.items) where
  shown_same : (f g : NetFault) → fault_place f ≡ fault_place g → Names f → Names g → evidence f ≡ evidence g
  shown_same TooMany g one nf ng = shows_none g (inl (sym one))
  shown_same (Range x) TooMany one nf ng = absurd (omega arith)
  shown_same (Range x) (Range w) one nf ng = let e = ranges x w nf ng in cc
  shown_same (Range x) (SelfLink w) one nf ng = absurd (omega arith)
  shown_same (Range x) (Twice w z) one nf ng = absurd (omega arith)
  shown_same (Range x) (Cycle round) one nf ng = absurd (omega arith)
  shown_same (Range x) NoLink one nf ng = absurd (omega arith)
  shown_same (Range x) Memory one nf ng = absurd (omega arith)
  shown_same (SelfLink x) TooMany one nf ng = absurd (omega arith)
  shown_same (SelfLink x) (Range w) one nf ng = absurd (omega arith)
  shown_same (SelfLink x) (SelfLink w) one nf ng = let e = selves x w nf ng in cc
  shown_same (SelfLink x) (Twice w z) one nf ng = absurd (omega arith)
  shown_same (SelfLink x) (Cycle round) one nf ng = absurd (omega arith)
  shown_same (SelfLink x) NoLink one nf ng = absurd (omega arith)
  shown_same (SelfLink x) Memory one nf ng = absurd (omega arith)
  shown_same (Twice x y) TooMany one nf ng = absurd (omega arith)
  shown_same (Twice x y) (Range w) one nf ng = absurd (omega arith)
  shown_same (Twice x y) (SelfLink w) one nf ng = absurd (omega arith)
  shown_same (Twice x y) (Twice w z) one nf ng = let e = twices x y w z nf ng in cc (e.0, e.1)
  shown_same (Twice x y) (Cycle round) one nf ng = absurd (omega arith)
  shown_same (Twice x y) NoLink one nf ng = absurd (omega arith)
  shown_same (Twice x y) Memory one nf ng = absurd (omega arith)
  shown_same (Cycle walk) TooMany one nf ng = absurd (omega arith)
  shown_same (Cycle walk) (Range w) one nf ng = absurd (omega arith)
  shown_same (Cycle walk) (SelfLink w) one nf ng = absurd (omega arith)
  shown_same (Cycle walk) (Twice w z) one nf ng = absurd (omega arith)
  shown_same (Cycle walk) (Cycle round) one nf ng = cycles walk round nf ng
  shown_same (Cycle walk) NoLink one nf ng = absurd (omega arith)
  shown_same (Cycle walk) Memory one nf ng = absurd (omega arith)
  shown_same NoLink g one nf ng = shows_none g (inr (omega arith))
  shown_same Memory g one nf ng = shows_none g (inr (omega arith))

-- the rule for links
one_end : (n : ℕ) (links : List (ℕ × ℕ)) (x w : ℕ) → NamesFirst n links (Range x) → NamesFirst n links (Range w) → x ≡ w
one_end n links x w (inl a) (inl b) = a.1 ∙ sym b.1
one_end n links x w (inl a) (inr b) = absurd (omega (arith, a.0, b.0))
one_end n links x w (inr a) (inl b) = absurd (omega (arith, a.0, b.0))
one_end n links x w (inr a) (inr b) = let both = sym a.1 ∙ b.1 in cc

one_self : (n : ℕ) (links : List (ℕ × ℕ)) (x w : ℕ) → NamesFirst n links (SelfLink x) → NamesFirst n links (SelfLink w)
    → x ≡ w
one_self n links x w a b = let both : (x, x) ≡ (w, w) = cc in ap (λ (l : ℕ × ℕ). l.0) both

one_pair : (n : ℕ) (links : List (ℕ × ℕ)) (x y w z : ℕ) → NamesFirst n links (Twice x y)
    → NamesFirst n links (Twice w z) → (x ≡ w) × (y ≡ z)
one_pair n links x y w z a b =
    let first = lowest_one a.0 b.0 in
    (first, lowest_one (subst (λ (u : ℕ). IsLowest (AreJoinedTwice links u) y) first a.1) b.1)

pub links_alike : LinksHaveOneFault
links_alike n links f g hf nf hg ng =
    let kind = first_fault_place n links f g hf hg in
    record {
      kind = kind;
      shown =
          shown_same (NamesFirst n links) (one_end n links) (one_self n links) (one_pair n links)
          (λ walk round. cycle_one links) f g kind nf ng;
    }

-- the rule for an added link
one_link_end : (net : Network) (u v x w : ℕ) → NamesOfLink net u v (Range x) → NamesOfLink net u v (Range w) → x ≡ w
one_link_end net u v x w (inl a) (inl b) = a.1 ∙ sym b.1
one_link_end net u v x w (inl a) (inr b) = absurd (omega (arith, a.0, b.0))
one_link_end net u v x w (inr a) (inl b) = absurd (omega (arith, a.0, b.0))
one_link_end net u v x w (inr a) (inr b) = a.1 ∙ sym b.1

link_shown : (net : Network) (u v : ℕ) (f g : NetFault) → fault_place f ≡ fault_place g → NamesOfLink net u v f
    → NamesOfLink net u v g → evidence f ≡ evidence g
link_shown net u v =
    shown_same (NamesOfLink net u v) (one_link_end net u v) (λ x w a b. a ∙ sym b) (λ x y w z a b. (
      a.0 ∙ sym b.0,
      a.1 ∙ sym b.1,
    ))
    (λ walk round. cycle_by_one net.links u v)

pub edits_alike : EditsHaveOneFault
edits_alike net (Cut u v) f g hf nf hg ng = record {
  kind = edit_fault_place net (Cut u v) f g hf hg;
  shown = ap evidence ((cut_fault_is net.links u v f hf).0 ∙ sym (cut_fault_is net.links u v g hg).0);
}
edits_alike net (Add u v) f g hf nf hg ng =
    let kind = edit_fault_place net (Add u v) f g hf hg in
    record { kind = kind; shown = link_shown net u v f g kind nf ng }
edits_alike net (Join u v) f g hf nf hg ng =
    let kind = edit_fault_place net (Join u v) f g hf hg in
    record { kind = kind; shown = link_shown net u v f g kind nf ng }

pub batches_alike : BatchesHaveOneFault
batches_alike net edits f g (inl a) nf (inl b) ng = (
  a.1 ∙ sym b.1,
  record {
    kind = ap fault_place (a.2 ∙ sym b.2);
    shown = ap evidence (a.2 ∙ sym b.2);
  },
)
batches_alike net edits f g (inl a) nf (inr b) ng = absurd (omega (arith, a.0, b.0))
batches_alike net edits f g (inr a) nf (inl b) ng = absurd (omega (arith, a.0, b.0))
batches_alike net edits f g (inr a) nf (inr b) ng =
    let at = (refused_alike net edits f g a.1 b.1).0 in
    let d = Cut 0 0 in
    let made : AreMade net (take f.at edits) b.1.before =
    subst (λ (k : ℕ). AreMade net (take k edits) b.1.before) (sym at) b.1.made in
    let moved = subst (λ (k : ℕ). NamesOfEdit b.1.before (get_or edits k d) f.fault) at (nf b.1.before made d) in (
      at,
      edits_alike b.1.before (get_or edits g.at d) f.fault g.fault (moved_fault net edits f g a.1 b.1 d) moved
          (b.1.refused d) (ng b.1.before b.1.made d),
    )
