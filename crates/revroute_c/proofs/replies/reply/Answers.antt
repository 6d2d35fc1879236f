use Rattle.std.proofs.Common.{rules}
use Rattle.revroute_c.proofs.replies.reply.Goals.{in-Ok-Some, in-Err-Memory}
use Rattle.revroute_c.proofs.replies.reply.Goals as goal

pub returns-clause-answers : goal.returns-clause-answers
returns-clause-answers c = elim c.match-answer_line.branch [
  | in-Ok-Some w ↦ record {
    answers = record {
      answered = search rules;
      told = search rules;
      blank = search rules;
      blank_line = search rules;
      too_short = search rules;
      published = search rules;
      ways = search rules;
      pushes = search rules;
      no_memory = search rules;
      unchanged = search rules;
      room = search rules;
      status = search rules;
    };
    begun = search rules;
  }
  | in-Err-Memory w ↦ record {
    answers = record {
      answered = search rules;
      told = search rules;
      blank = search rules;
      blank_line = search rules;
      too_short = search rules;
      published = search rules;
      ways = search rules;
      pushes = search rules;
      no_memory = search rules;
      unchanged = search rules;
      room = search rules;
      status = search rules;
    };
    begun = search rules;
  }
]
