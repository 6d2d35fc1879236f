use Rattle.std.proofs.Common.{drop, length, map, sym, take, ◌-◌, ◌≡◌}
use Rattle.fr_requests.specs.Values.{view}
use Rattle.fr_requests.proofs.Items.{word_settles}
use Rattle.fr_requests.specs.Requests.{request_of, request_of_word}
use Rattle.fr_requests.proofs.read.request_in.Goals as goal

pub returns : goal.returns
returns c =
    let vs = c.in-Some-len1-up.field-0.now in
    let same : request_of (view c.args.value.now)
    ≡ request_of_word c.in-Some.word.now (map view (take (length vs - 1) (drop 1 vs))) =
    word_settles request_of_word _ _ _ _ (sym c.in-Some-len1-up.ensures) c.in-Some-len1-up.len_at_least c.first-item.is
    (sym c.in-Some.ensures) in
    rw same c.request_by_word.ensures
