-- `null` makes a null pointer.
use Rattle.std.proofs.Common.{◌≡◌, [], ◌∷◌, refl, lit<}
use mir.Syntax.{a_type, dcons, dnil}
use mir.MapTy.{inst_fn}
use mir.Val.{Val}
use base.Logic.{SProp, emp}
use base.Fml.{ftrue, flft}
use types.Kit.{‵, raw, ◌⊛◌, ◌$◌, ◌∵◌, !, qed, by, move, keep, drop, split, join, fpack, use0}
use types.Run.{lit, no_more, and_then, returns, enter}
use types.ByLocal.{alloc_all, pass_all, free_all, look_at, sets}
use types.Part.{agg}
use contract.Monad.{fact, fact_i}
use contract.Running.{tables}
use denote.RattleType.{RattleType, owns}
use denote.Signature.{types_at}
use denote.Param.{param, bounded}
use denote.RawPtr.{null_ptr}
use denote.Steps.{nothing}
use denote.Triple.Walked.{Stays, walk_of}
use Rattle.std.proofs.raw_atomic.Walks.{proved_at, leaves}
use Rattle.revroute_c.proofs.Owned.{word}
use Rattle.revroute_c.proofs.BoxPointers.{pointer_in, pointer_of}
use Rattle.revroute_c.specs.contracts.box_pointer.BoxPointer.null.{ended, clauses}
use Rattle.revroute_c.specs.contracts.box_pointer.BoxPointer.null.Key.{name as #self}
use Rattle.revroute_c.proofs.box_pointer.BoxPointer.null.Statement.{statement}
use Rattle.revroute_c.proofs.box_pointer.BoxPointer.null.Code as code

pub null_spec : {M : Type 1} → statement M
null_spec 𝓤 𝓛 𝓜 𝓡 wired T L g n d met glue =
    let H = 𝓛.H in let 𝓣 = tables 𝓤 H 𝓜 𝓡 𝓡.env in let S : RattleType = param 0 T in let En = ended T g n d in
    let c = clauses T g n d 𝓛 𝓜.mem 𝓡.returns in
    let fn = inst_fn (bounded (a_type ∷ []) (T, tt) (dcons n (dcons d dnil))) code.function in
    let hs : Stays En.signature.params En.kept = tt in
    proved_at 𝓛 En hs c 𝓜 𝓡 tt (#self (bounded (a_type ∷ []) (T, tt) (dcons n (dcons d dnil)))) fn
    (code.unfolded 𝓤 H 𝓜 𝓡 wired (T, tt) n d) (λ z are.
    let κs = z.0.0 in let qs = z.0.1 in let Post : Val → SProp 𝓤 = (walk_of 𝓛 En hs c).post z in
    let none : T.Denot = g.null_value in
    let toks = ‵ (flft κs.0 qs.0) ⊛ ‵ ftrue in
    qed 𝓛 ((toks ⊛ ‵ (owns (types_at En.signature.params κs) z.0.3 z.0.4)) ∷ raw ((c κs z.0.3).requires z.1)
    ∷ []) ∵ split ! $ move ! (1 ∷ []) $ drop ! $
    -- [the tokens; the `requires`; the locals]
    enter ! 𝓣.C 𝓣.Λ fn [] Post $ alloc_all ! (λ l. pass_all ! refl tt $
    sets ! (agg ! (and_then ! (lit ! tt) (no_more !))) refl (tt, (record { fits = lit< tt }, tt)) $
    nothing ! $ fpack ! (none ≡ g.null_value) (λ _. ftrue) refl $ pointer_in S g ! null_ptr none $
    use0 𝓛 (raw (fact 𝓤 (null_ptr ≡ null_ptr))) (fact_i 𝓤 (null_ptr ≡ null_ptr) (emp 𝓤) refl) $
    use0 𝓛 (raw (fact 𝓤 (none ≡ g.null_value))) (fact_i 𝓤 (none ≡ g.null_value) (emp 𝓤) refl) $ join ! $ nothing ! $
    returns ! (look_at ! 0 refl) $ free_all ! refl $ keep ! (3 ∷ 0 ∷ 2 ∷ 1 ∷ []) $ by !
    (leaves 𝓛 En hs c z (word null_ptr) (pointer_of S g null_ptr none) tt tt)))
