use Rattle.std.proofs.Common.{[], ap, arith, get_or, ◌∙◌, ◌∷◌, ◌≡◌}
use Rattle.std.proofs.lemmas.Option.{IfSome_then}
use Rattle.fr_requests.specs.LineLexemes.{unspaced}
use Rattle.fr_requests.proofs.FoundBytes.{front_and_rest}
use Rattle.fr_requests.proofs.FrontTexts.{mark_begins, mark_stays}
use Rattle.fr_requests.proofs.fronts.skip_mark.Goals as goal

pub returns-in-len1-up-clause-read : goal.returns-in-len1-up-clause-read
returns-in-len1-up-clause-read c =
    let mark = c.args.mark in
    let text = c.args.text.now in
    let first : get_or text 0 0 ≡ mark = grind arith in
    mark_begins mark text _ c.requires (ap unspaced (front_and_rest (mark ∷ []) text c.in-len1-up.len_at_least (
      first,
      tt,
    )) ∙ mark_stays mark _ c.requires)

pub returns-in_default-clause-read : goal.returns-in_default-clause-read
returns-in_default-clause-read c =
    IfSome_then c.skip_space_and_mark.result c.skip_space_and_mark.ensures (λ behind. mark_begins _ _ _ c.requires)
