use Rattle.std.proofs.Common.{[], true, ◌++◌, ◌∷◌, ◌≡◌}
use Rattle.json.specs.Lex.{comma, token}
use Rattle.json.specs.Token.{end_array}
use Rattle.fr_requests.specs.LineLexemes.{Begins, Each, list_lexemes}
use Rattle.fr_requests.proofs.FrontTexts.{begins_more}
use Rattle.fr_requests.proofs.ByteLines.{Each-snoc, each_before_comma, list_closes, one_more_before_comma}
use Rattle.fr_requests.proofs.HandedOn.{if_then_some}
use Rattle.fr_requests.proofs.lists.items_to_end.Goals as goal

pub items-preserved : goal.items-preserved
items-preserved g c =
    let of_one = g.T.Item.lexemes in
    let before = c.items.items.items in
    let x = c.in-Some.item in
    let all : c.push.new.self.items ≡ before ++ x ∷ [] = c.in_ok-push.ensures.items in
    rw (all, ← one_more_before_comma of_one before x) (
      begins_more _ _ _ (each_before_comma of_one before) (of_one x ++ comma ∷ []) c.items.invariant.0
          (begins_more _ _ _ (of_one x) (comma ∷ []) c.in-Some.ensures.read c.in-Some-skip_mark.ensures.read),
      Each-snoc g.T.Item.IsSmall before x c.items.invariant.1 c.in-Some.ensures.small,
    )

pub returns-in-None-clause-ok : goal.returns-in-None-clause-ok
returns-in-None-clause-ok g c =
    let of_one = g.T.Item.lexemes in
    let before = c.items.items.items in
    let x = c.in-Some.item in
    let all : c.push.new.self.items ≡ before ++ x ∷ [] = c.in_ok-push.ensures.items in
    let listed : c.ends_list.result ≡ true
    → Begins c.args.text.now (list_lexemes of_one c.push.new.self.items ++ token end_array ∷ []) []
    × Each g.T.Item.IsSmall c.push.new.self.items =
    λ over. rw all (
      list_closes of_one _ _ _ before x c.items.invariant.0 c.in-Some.ensures.read (c.ends_list.ensures over),
      Each-snoc g.T.Item.IsSmall before x c.items.invariant.1 c.in-Some.ensures.small,
    ) in
    rw c.then_some.ensures
    (if_then_some (λ found. Begins c.args.text.now (list_lexemes of_one found.items ++ token end_array ∷ []) []
    × Each g.T.Item.IsSmall found.items) c.ends_list.result c.push.new.self listed)
