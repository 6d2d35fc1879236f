use Rattle.std.proofs.Common.{arith, get_or, get_or-set_other, get_or-set_same, inl, inr, length, length-set, refl, sym}
use Rattle.std.proofs.Common.{ℕ, ◌<◌, ◌∙◌}
use Rattle.std.proofs.lemmas.Bool.{cases_eq}
use Rattle.fr_graph.proofs.turns.set_counts.Goals as goal

pub bounds-counts-x : goal.bounds-counts-x
bounds-counts-x c = omega (arith, c.requires c.loop-x.x-index 0 c.loop-x-test.true, c.loop-x.invariant.one_each)

pub loop-x-preserved : goal.loop-x-preserved
loop-x-preserved c =
    let nodes = c.args.nodes.now in
    let counts = c.loop-x.counts in
    let i = c.loop-x.x-index in
    let x : ℕ = get_or nodes i 0 in
    let before = c.loop-x.invariant in
    let inside : x < length counts = omega (arith, c.requires i 0 c.loop-x-test.true, before.one_each) in
    record {
      one_each = length-set counts x c.args.count ∙ before.one_each;
      these = λ j lt. elim (cases_eq (get_or nodes j 0) x) [
        | inl same ↦ rw same (get_or-set_same counts x c.args.count 0 inside)
        | inr apart ↦
            let early : j < i =
            elim (cases_eq j i) [ inl last ↦ absurd (apart (rw last refl)) | inr other ↦ omega (arith, lt, other) ] in
            get_or-set_other counts x (get_or nodes j 0) c.args.count 0 apart ∙ before.these j early
      ];
      others = λ z out. get_or-set_other counts x z c.args.count 0 (λ same. out i (omega arith) (sym same))
          ∙ before.others z (λ j lt. out j (omega (arith, lt)));
    }
