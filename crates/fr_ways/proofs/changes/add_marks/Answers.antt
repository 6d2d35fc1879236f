use Rattle.std.proofs.Common.{Bool, List, ap, arith, false, length, replicate, sym, vec_len, ℕ}
use Rattle.std.proofs.Common.{◌++◌, ◌+◌, ◌-◌, ◌∙◌, ◌≡◌}
use Rattle.std.proofs.lemmas.List.{length-replicate, replicate-append-replicate, take_all}
use Rattle.fr_ways.proofs.changes.add_marks.Goals as goal

pub returns-in_ok-resize-clause-clear : goal.returns-in_ok-resize-clause-clear
returns-in_ok-resize-clause-clear c =
    let old = c.args.marks.now.items in
    let more : ℕ = c.args.nodes - vec_len c.args.marks.now in
    let is : c.resize.new.self.items ≡ replicate (length old + more) false =
    c.in_ok-resize.ensures.items
    ∙ (ap (λ (bs : List Bool). bs ++ replicate more false)
    (take_all c.args.nodes old (omega (arith, c.if-len-nodes.true, c.len.ensures, c.args.marks.now.ok.0)) ∙ c.requires)
    ∙ replicate-append-replicate (length old) more false) in
    is ∙ ap (λ (k : ℕ). replicate k false) (sym (ap length is ∙ length-replicate (length old + more) false))
