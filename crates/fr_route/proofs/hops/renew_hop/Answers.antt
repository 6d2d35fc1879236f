use Rattle.std.proofs.Common.{Some, arith, inl, inr, slice_get, sym, ℕ, ◌∙◌, ◌≡◌, ◌⊎◌}
use Rattle.std.proofs.lemmas.Bool.{false≢true}
use Rattle.fr_route.specs.Outcomes.{state_after}
use Rattle.fr_route.specs.States.{State}
use Rattle.fr_route.specs.Routes.{IsHop}
use Rattle.fr_tables.specs.declared.hop.Hop.{Hop}
use Rattle.fr_tables.specs.declared.hop.Hop.TheVariants.{Here}
use Rattle.fr_route.proofs.ChangedHops.{notes_none, notes_one}
use Rattle.fr_route.proofs.Renewing.{renewed_right}
use Rattle.fr_route.proofs.Written.{written}
use Rattle.fr_route.proofs.hops.renew_hop.Goals as goal

pub returns-then-is_same_hop : goal.returns-then-is_same_hop
returns-then-is_same_hop c =
    let s : State = state_after c.args.round.now in
    record {
      renewed =
          renewed_right s c.args.hops.now c.args.x c.hop_of-hop.result Here c.hop_of-hop.ensures
          (c.is_same_hop.ensures.0 c.if-is_same_hop.true);
      noted = notes_none s c.args.hops.now c.args.told.now;
    }

pub returns-clause-renewed : goal.returns-clause-renewed
returns-clause-renewed c =
    let s : State = state_after c.args.round.now in
    let hops = c.args.hops.now in
    record {
      each = written (λ (y : ℕ) (hop : Hop). IsHop s y hop ⊎ ((slice_get hops y ≡ Some hop) × ¬ (y ≡ c.args.x)))
          hops c.args.x c.hop_of-hop.result (inl c.hop_of-hop.ensures) (λ y hop apart at. inr (at, apart));
    }

pub returns-clause-noted : goal.returns-clause-noted
returns-clause-noted c =
    let s : State = state_after c.args.round.now in
    notes_one s c.args.x c.hop_of-hop.result Here c.args.hops.now c.args.told.now c.note.new.self c.hop_of-hop.ensures
    (omega (arith, c.requires.one_each, c.requires.node))
    (λ same. false≢true (sym c.if-is_same_hop.false ∙ c.is_same_hop.ensures.1 same))
    c.note.ensures.keeps c.note.ensures.noted
