use Rattle.std.proofs.Common.{Err, Ok, Option, Result, Some, ap, ok_or, ◌≡◌}
use Rattle.std.specs.Result.{IfErr, IfOk}
use Rattle.fr_requests.specs.Returned.{Tells}
use Rattle.fr_requests.specs.Requests.{PlainRequest, plain, request_of_word}
use Rattle.fr_requests.specs.declared.requests.LineFault.{LineFault}
use Rattle.fr_requests.specs.declared.requests.LineFault.TheVariants.{NotRequest}
use Rattle.fr_requests.specs.declared.requests.Request.{Request}
use Rattle.fr_requests.proofs.read.request_by_word.Goals as goal

-- the result of the word's function is that of the line
told : (o : Option PlainRequest) (r : Result Request LineFault) → IfOk r (λ request. o ≡ Some (plain request))
    → IfErr r (λ fault. ok_or o NotRequest ≡ Err fault) → Tells (ok_or o NotRequest) r
told o (Ok request) ok refused = (ap (λ p. ok_or p NotRequest) ok, tt)
told o (Err fault) ok refused = (tt, λ _. refused)

pub returns-in-net : goal.returns-in-net
unfolding request_of_word
returns-in-net c = rw c.in-net.is c.read_network.ensures

pub returns-in-cut : goal.returns-in-cut
unfolding request_of_word
returns-in-cut c = rw c.in-cut.is (told _ _ c.read_cut.ensures.ok c.read_cut.ensures.refused)

pub returns-in-add : goal.returns-in-add
unfolding request_of_word
returns-in-add c = rw c.in-add.is (told _ _ c.read_add.ensures.ok c.read_add.ensures.refused)

pub returns-in-join : goal.returns-in-join
unfolding request_of_word
returns-in-join c = rw c.in-join.is (told _ _ c.read_join.ensures.ok c.read_join.ensures.refused)

pub returns-in-batch : goal.returns-in-batch
unfolding request_of_word
returns-in-batch c = rw c.in-batch.is c.read_batch.ensures

pub returns-in-dest : goal.returns-in-dest
unfolding request_of_word
returns-in-dest c = rw c.in-dest.is (told _ _ c.read_destination.ensures.ok c.read_destination.ensures.refused)

pub returns-in-walk : goal.returns-in-walk
unfolding request_of_word
returns-in-walk c = rw c.in-walk.is (told _ _ c.read_walk.ensures.ok c.read_walk.ensures.refused)

pub returns-in-links : goal.returns-in-links
unfolding request_of_word
returns-in-links c = rw c.in-links.is (told _ _ c.read_question.ensures.ok c.read_question.ensures.refused)

pub returns-in-counts : goal.returns-in-counts
unfolding request_of_word
returns-in-counts c =
    rw c.in-counts.is (told _ _ c.read_question-in-counts.ensures.ok c.read_question-in-counts.ensures.refused)

pub returns-in-hops : goal.returns-in-hops
unfolding request_of_word
returns-in-hops c =
    rw c.in-hops.is (told _ _ c.read_question-in-hops.ensures.ok c.read_question-in-hops.ensures.refused)

pub returns-in-ways : goal.returns-in-ways
unfolding request_of_word
returns-in-ways c = rw c.in-ways.is (told _ _ c.read_ways.ensures.ok c.read_ways.ensures.refused)

pub returns-in-nearest : goal.returns-in-nearest
unfolding request_of_word
returns-in-nearest c =
    rw c.in-nearest.is (told _ _ c.read_node_question.ensures.ok c.read_node_question.ensures.refused)

pub returns-in-pushes : goal.returns-in-pushes
unfolding request_of_word
returns-in-pushes c = rw c.in-pushes.is c.read_pushes.ensures

pub returns-in-phases : goal.returns-in-phases
unfolding request_of_word
returns-in-phases c = rw c.in-phases.is c.read_phases.ensures
