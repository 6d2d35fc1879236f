use Rattle.fr_route.specs.Replies.{answer_form}
use Rattle.fr_route.proofs.Replying.{still, walk_tells, ask_node_tells, ask_tells, push_ways_tells}
use Rattle.fr_route.specs.Listing.{nodes_told}
use Rattle.fr_route.proofs.settling.Settler.reply.Goals as goal

pub returns-in-Cut : goal.returns-in-Cut
returns-in-Cut g c = rw c.in-Cut.is c.reply_edit.ensures

pub returns-in-Add : goal.returns-in-Add
returns-in-Add g c = rw c.in-Add.is c.reply_edit-in-Add.ensures

pub returns-in-Join : goal.returns-in-Join
returns-in-Join g c = rw c.in-Join.is c.reply_edit-in-Join.ensures

pub returns-in-Destination : goal.returns-in-Destination
returns-in-Destination g c = rw c.in-Destination.is c.reply_move.ensures

pub returns-in-Batch : goal.returns-in-Batch
returns-in-Batch g c = rw c.in-Batch.is (rw c.deref-in-Batch.ensures.value at c.reply_batch.ensures)

pub returns-in-Network : goal.returns-in-Network
returns-in-Network g c = rw c.in-Network.is (rw c.deref.ensures.value at c.reply_network.ensures)

pub returns-in-Walk : goal.returns-in-Walk
returns-in-Walk g c =
    rw c.in-Walk.is (still _ (answer_form c.args.draft.now) c.args.session.now _ c.args.told.now c.walk.result
    c.walk.new.draft
    (λ new accepted. walk_tells c.args.session.now c.in-Walk.x (nodes_told c.args.told.now) new) c.walk.ensures.reply
    c.walk.ensures.memory)

pub returns-in-Ask : goal.returns-in-Ask
returns-in-Ask g c =
    rw c.in-Ask.is (still _ (answer_form c.args.draft.now) c.args.session.now _ c.args.told.now c.question.result
    c.question.new.draft
    (λ new accepted. ask_tells c.args.session.now c.in-Ask.question (nodes_told c.args.told.now) new)
    c.question.ensures.reply c.question.ensures.memory)

pub returns-in-AskNode : goal.returns-in-AskNode
returns-in-AskNode g c =
    rw (c.in-AskNode.is, c.node_question.ensures.same)
    (still _ (answer_form c.args.draft.now) c.args.session.now _ c.args.told.now c.node_question.result
    c.node_question.new.draft
    (λ new accepted. ask_node_tells c.args.session.now c.in-AskNode.question c.in-AskNode.x
    (nodes_told c.args.told.now) new)
    c.node_question.ensures.reply c.node_question.ensures.memory)

pub returns-in-Pushes : goal.returns-in-Pushes
returns-in-Pushes g c =
    rw c.in-Pushes.is (still _ (answer_form c.args.draft.now) c.args.session.now _ c.args.told.now c.pushes.result
    c.pushes.new.draft
    (λ new accepted. absurd accepted) (rw c.deref-in-Pushes.ensures.value at c.pushes.ensures.reply)
    c.pushes.ensures.memory)

pub returns-in-Phases : goal.returns-in-Phases
returns-in-Phases g c =
    rw c.in-Phases.is (still _ (answer_form c.args.draft.now) c.args.session.now _ c.args.told.now c.way_pushes.result
    c.way_pushes.new.draft
    (λ new accepted. push_ways_tells c.args.session.now c.in-Phases.table (nodes_told c.args.told.now) new)
    c.way_pushes.ensures.reply c.way_pushes.ensures.memory)
