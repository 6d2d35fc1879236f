use Rattle.std.proofs.Common.{rules}
use Rattle.fr_node.proofs.link.Link.after_message.Goals as goal

pub returns-then-message-own : goal.returns-then-message-own
returns-then-message-own c = record {
  neighbour = search rules;
  cost = search rules;
  carrier = search rules;
  said = search rules;
  both_ways = search rules;
  one_way = search rules;
  deaf = search rules;
  started = search rules;
  lately = search rules;
  start = search rules;
  stamp = search rules;
  informed = search rules;
  uninformed = search rules;
  forgotten = search rules;
  answered = search rules;
  unanswered = search rules;
  unacked = search rules;
}
