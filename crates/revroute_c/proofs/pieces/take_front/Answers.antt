use Rattle.std.proofs.Common.{rules, ◌≡◌, ◌∙◌, ◌+◌, ◌++◌, take, ℕ, List, ap, arith, inl, inr, refl, ⊎_elim, Option}
use Rattle.std.proofs.lemmas.Grind.{common_steps}
use Rattle.fr_route.specs.States.{State}
use Rattle.revroute_c.specs.SessionStates.{Held}
use Rattle.revroute_c.specs.Replies.{IsWanted}
use Rattle.revroute_c.specs.Pieces.{EndsLine, IsWantedAtEnd}
use Rattle.revroute_c.specs.declared.statuses.TheConstants.{BEGUN}
use Rattle.revroute_c.proofs.pieces.take_front.Goals as goal

wanted_at_end : (s : Option State) (begun piece line : List ℕ) (room size count : ℕ) → EndsLine begun piece line count
    → IsWanted s line room size → IsWantedAtEnd s begun piece room size
wanted_at_end s begun piece line room size count ends = ⊎_elim
    (λ least. inl least)
    (λ long. inr (long.0, record { line = line; count = count; ends = ends; answer = long.1 }))

pub returns-then-status-gt-BLANK : goal.returns-then-status-gt-BLANK
returns-then-status-gt-BLANK c =
    let held : c.keep_unfinished_line-held.result ≡ BEGUN = search rules in
    let ends : EndsLine c.args.state.now.begun c.args.piece.now c.keep_unfinished_line-held.new.begun.items
    (c.front_size-end.result + 1) = record {
      end = c.front_size-end.result;
      at = grind (arith, common_steps);
      line_is =
          c.keep_unfinished_line-held.ensures.held held
          ∙ ap (λ (e : Held). e.begun ++ take c.front_size-end.result c.args.piece.now) c.state.view_is;
      short = c.keep_unfinished_line-held.ensures.within held;
      count_is = refl;
    } in
    record {
      answered = search rules;
      blank = search rules;
      blank_line = grind (arith, common_steps);
      ended = search rules;
      kept = search rules;
      within = search rules;
      too_short = λ is.
          let short = c.finish_line-status.ensures.answers.too_short is in
          (short.0, wanted_at_end _ _ _ _ _ _ _ ends (rw (ap (λ (e : Held). e.session) c.state.view_is) at short.1));
      no_memory = search rules;
      too_long = search rules;
      unchanged = search rules;
      untaken = λ _ _. (grind (arith, common_steps), refl);
      room = search rules;
      status = search rules;
    }
