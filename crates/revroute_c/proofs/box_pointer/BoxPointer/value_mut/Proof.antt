-- `value_mut` tests the pointer, and lends its value if it is not null.
use Rattle.std.proofs.Common.{◌≡◌, ◌≢◌, ℕ, List, [], ◌∷◌, refl, sym, lit<}
use seplogic.Ra.Ura.{Ura}
use mir.Syntax.{a_type, dcons, dnil, named}
use mir.MapTy.{inst_fn}
use mir.Raw.{raw as bare}
use mir.Val.{Val, vptr, vcons, vnil}
use base.Fraction.{full_share}
use base.Logic.{SProp, ent, sep, emp, id⊢}
use base.Fml.{GName, Fml, ftrue, fsep, flft, fres}
use types.Logic.{Logic, sem}
use types.Kit.{‵, raw, ◌⊛◌, some, later, at_ret, ◌$◌, ◌∵◌, !, qed, done, by, move, keep, split, split3, join, fsplit}
use types.Kit.{fsplit3, fjoin, fpack, use0, use1, rewrite, await, pick, group}
use types.Run.{stop, fld, hop, lit, load, addr, of_opd, bin, no_more, and_then, first, blocks, branches, skips, exec}
use types.Run.{returns, returns_within, enter}
use types.ByLocal.{alloc_all, pass_all, free_all, look_at, get, through, sets, sets_last, env}
use types.Part.{agg, sub, whole, look_in}
use types.Match.{live}
use contract.Monad.{fact, fact_i}
use contract.Running.{tables}
use denote.Exit.{no}
use denote.Param.{param, bounded}
use denote.RattleType.{RattleType}
use denote.Memory.{cell_at, part_at, mem, part_of, lone}
use denote.RawPtr.{Ptr, block_ptr, null_ptr, tests_null}
use denote.Ref.{MutRef, mut_vals, mut_Tells}
use denote.Follow.{follows, follows_by, Part, lends_Part}
use denote.Signature.{plain, mut_ref_to}
use denote.Steps.{nothing, opens, closes}
use denote.Triple.Walked.{Stays, stay_dropped, walk_of, Goes-spent_ref}
use Rattle.std.specs.declared.alloc.Global.{Global}
use Rattle.std.specs.declared.option.Option.TheVariants.{None, Some}
use Rattle.std.specs.contracts.impls.GlobalAllocator.TheImpl.{ghosts}
use Rattle.std.specs.contracts.option.Option as option
use Rattle.std.proofs.VecSteps.Shapes.{after}
use Rattle.std.proofs.option.Made.{Some-of, none_of}
use Rattle.std.proofs.raw_atomic.Walks.{proved, leaves}
use Rattle.revroute_c.specs.BoxLending.{with_value}
use Rattle.revroute_c.specs.Owning.{owned_at}
use Rattle.revroute_c.specs.declared.box_pointer.NullValue.{Ghosts}
use Rattle.revroute_c.specs.contracts.box_pointer.BoxPointer.value_mut.{ended, clauses}
use Rattle.revroute_c.specs.contracts.box_pointer.BoxPointer.value_mut.Key.{name as #self}
use Rattle.revroute_c.proofs.BoxPointers.{Row, pointer_out, pointer_in}
use Rattle.revroute_c.proofs.Owned.{word, boxed, either_owned, not_null}
use Rattle.revroute_c.proofs.box_pointer.BoxPointer.value_mut.Statement.{statement}
use Rattle.revroute_c.proofs.box_pointer.BoxPointer.value_mut.Code as code

module _ (S : RattleType) (g : Ghosts S.Denot) (b o : ℕ) where
  abbrev P : RattleType
  P = Row S g

  -- the pointer's own bytes
  abbrev cell : Ptr → Fml
  cell at = cell_at full_share P.mir (word at ∷ []) b o

  -- what is left of the pointer while its value is lent
  abbrev Rest : Global → ℕ → ℕ → Fml
  Rest a x y = fsep (ghosts.dealloc_token a (bare (lone S.mir)) (block_ptr x y)) (cell (block_ptr x y))

  back : {M : Type 1} {𝓤 : Ura M} (𝓛 : Logic 𝓤) (p : P.Denot) (a : Global) (x y : ℕ) → p.at ≡ block_ptr x y
      → (w : S.Denot) → ent 𝓤 (sep 𝓤 (sem 𝓛 ((mem S).own_at w x y)) (sem 𝓛 (Rest a x y)))
      (sem 𝓛 ((mem P).own_at (with_value p w) b o))
  unfolding part_of
  back 𝓛 p a x y is w =
      qed 𝓛 (‵ (part_at S full_share w x y) ∷ ‵ (Rest a x y) ∷ []) ∵ move ! (1 ∷ []) $ fsplit ! $ move ! (2 ∷ 0
      ∷ []) $ fjoin ! $ fpack ! Global (λ z. boxed S z (block_ptr x y) w) a $
      rewrite ! 0 (λ (at : Ptr). ‵ (owned_at S g.null_value at w)) (sym is) refl $
      rewrite ! 1 (λ (at : Ptr). ‵ (cell at)) (sym is) refl $
      pointer_in S g ! p.at w $ move ! (1 ∷ 0 ∷ []) $ fjoin ! $ fpack ! (List Val)
      (λ us. fsep (cell_at full_share P.mir us b o) (P.own_val (with_value p w) us)) (word p.at ∷ []) $ done !

pub value_mut_spec : {M : Type 1} → statement M
unfolding follows_by
value_mut_spec 𝓤 𝓛 𝓜 𝓡 wired T L g n d bound glue =
    let 𝓣 = tables 𝓤 𝓛.H 𝓜 𝓡 𝓡.env in let S : RattleType = param 0 T in let P : RattleType = Row S g in
    let En = ended T g n d in let c = clauses T g n d 𝓛 𝓜.mem 𝓡.returns in
    let fn = inst_fn (bounded (a_type ∷ []) (T, tt) (dcons n (dcons d dnil))) code.function in
    let hs : Stays En.signature.params En.kept = (stay_dropped (mut_ref_to (0 ∷ []) tt (plain (λ _. P))) no, tt) in
    proved 𝓛 En hs c 𝓜 𝓡 (Goes-spent_ref 𝓛 2 (0 ∷ []) tt (plain (λ _. P)), tt)
    (#self (bounded (a_type ∷ []) (T, tt) (dcons n (dcons d dnil)))) fn (code.unfolded 𝓤 𝓛.H 𝓜 𝓡 wired (T, tt) n d)
    (λ κs. (mut_vals, tt)) (λ κs. (mut_Tells (named 0) κs.0 P, tt)) (λ κs qs bounds args ghost are.
    let κ = κs.0 in let q = qs.0 in let more = ‵ (flft κs.1.0 qs.1.0) ⊛ ‵ ftrue in let r = args.0 in
    let b = r.ref_ptr.0 in let o = r.ref_ptr.1 in let γ = r.ghost_name in let p = r.now in
    let Cell : Ptr → Fml = cell S g b o in let Lent : RattleType = MutRef (named 0) κ S in
    let z : (walk_of 𝓛 En hs c).Ghost = ((κs, qs, bounds, args, (vptr b o ∷ [], tt)), ghost) in
    let Ends : Val → SProp 𝓤 = (walk_of 𝓛 En hs c).post z in
    qed 𝓛 (((‵ (flft κ q) ⊛ more) ⊛ ‵ ((MutRef (named 0) κ P).own_val r (mut_vals r)) ⊛ ‵ ftrue)
    ∷ raw ((c κs args).requires ghost) ∷ []) ∵
    split ! $ split ! $ move ! (2 ∷ []) $ split ! $ keep ! (0 ∷ 2 ∷ 3 ∷ []) $ enter ! _ _ _ _ _ $ alloc_all !
    (λ l. pass_all ! refl ((tt, tt), tt) $ let Ev = env fn.locals l in
    fsplit3 ! $ move ! (1 ∷ 2 ∷ 3 ∷ []) $ opens ! tt P b o
    (λ us. move ! (1
    ∷ []) $ pointer_out S g ! p us (λ ws. rewrite ! 1 (λ (vs : List Val). ‵ (cell_at full_share P.mir vs b o)) ws refl $
    -- [what the pointer owns; its bytes; the open borrow, in three entries]
    either_owned S g.null_value ! p.at p.value
    (λ is none. rewrite ! 0 (λ (at : Ptr). ‵ (Cell at)) is refl $
    sets ! (of_opd ! (load ! (through ! refl (fld ! refl (stop !))) (look_in ! 0 (sub ! 0 refl (whole !))))) refl (
      tt,
      record { fits = lit< tt },
    ) $
    sets ! (bin ! (get ! refl) (lit ! tt) tt) refl (tt, tt) $ first ! $ branches ! (get ! refl)
    (λ _. sets ! (agg ! (and_then ! (lit ! tt) (no_more !))) refl (tt, (record { fits = lit< tt }, tt)) $
    rewrite ! 0 (λ (at : Ptr). ‵ (Cell at)) (sym is) refl $ nothing ! $ fpack ! (p.value ≡ g.null_value)
    (λ _. ftrue) none $ rewrite ! 0 (λ (at : Ptr). ‵ (owned_at S g.null_value at p.value)) (sym is) refl $
    pointer_in S g ! p.at p.value $ move ! (1 ∷ 0 ∷ []) $ closes ! tt P p (word p.at ∷ []) b o $
    returns_within ! Ends refl (look_at ! 0 refl) $ free_all ! refl $ keep ! (0 ∷ 2 ∷ 4 ∷ []) $
    let Q : Type 0 = (p.at ≡ null_ptr) × (p.value ≡ g.null_value) in
    use1 𝓛 (‵ (fres γ (P.coded.code p))) (𝓛.names.obs-res γ (P.coded.code p)) $
    use0 𝓛 (raw (fact 𝓤 Q)) (fact_i 𝓤 Q (emp 𝓤) (is, none)) $ move ! (1 ∷ 0 ∷ []) $ join ! $ use0 𝓛
    (‵ ((option.the_row Lent).own_val None (live 0 vnil ∷ []))) (none_of 𝓛 Lent) $
    move ! (2 ∷ 3 ∷ []) $ join ! $ nothing ! $ nothing ! $ fjoin ! $
    keep ! (1 ∷ 0 ∷ 2 ∷ 3 ∷ []) $ by ! (leaves 𝓛 En hs c z (live 0 vnil) None (tt, tt) (tt, tt)))
    (λ wrong. absurd wrong))
    (λ x y a is t. fsplit ! $ rewrite ! 2 (λ (at : Ptr). ‵ (Cell at)) is refl $
    sets ! (of_opd ! (load ! (through ! refl (fld ! refl (stop !))) (look_in ! 2 (sub ! 0 refl (whole !))))) refl (
      tt,
      tt,
    ) $
    sets ! (bin ! (get ! refl) (lit ! tt) (tests_null (block_ptr x y) t)) refl (tt, tt) $ first ! $ branches !
    (get ! refl)
    (λ wrong. absurd wrong) (λ _. skips ! $
    exec ! 𝓣.C 𝓣.Λ Ev (after 3 fn.body) (at_ret Ev Ends) $ first ! $ blocks ! $
    sets ! (addr ! (through ! refl (fld ! refl (hop ! (look_in ! 2 (sub ! 0 refl (whole !))) (stop !))))) refl (
      tt,
      tt,
    ) $
    sets_last ! (agg ! (and_then ! (lit ! tt) (and_then ! (get ! refl) (no_more !)))) refl (
      tt,
      (record { fits = lit< tt }, (tt, tt)),
    ) $
    exec ! 𝓣.C 𝓣.Λ Ev (after 4 fn.body) (at_ret Ev Ends) $ sets ! (of_opd ! (get ! refl)) refl (
      tt,
      (record { fits = lit< tt }, (tt, tt)),
    ) $
    move ! (1 ∷ 2 ∷ []) $ fjoin ! $ move ! (2 ∷ 3 ∷ 4 ∷ 1 ∷ 0 ∷ []) $ group ! 5 $
    let left : SProp 𝓤 = sem 𝓛 (Rest S g b o a x y) in let again = back S g b o 𝓛 p a x y is in
    use1 𝓛 (later (some (λ (γ' : GName). raw
    (Part 𝓛 P S (with_value p) (named 0) κ q b o x y γ left again p.value γ'))))
    (lends_Part 𝓛 P S (with_value p) (named 0) κ q b o x y γ left again (P.coded.code p) (P.coded.code p)
    p.value) $ await ! tt $ pick ! (λ γ'.
    returns ! (look_at ! 0 refl) $ free_all ! refl $ keep ! (0 ∷ 2 ∷ []) $
    let Q : Type 0 = (p.at ≢ null_ptr) × (p.value ≡ p.value) in let v : Val = live 1 (vcons (vptr x y) vnil) in
    let lent : Lent.Denot = record { ref_ptr = (x, y); ghost_name = γ'; now = p.value } in
    use1 𝓛 (‵ (Lent.own_val lent (vptr x y ∷ [])) ⊛ ‵ (flft κ q) ⊛ ‵ (follows P S γ γ' (with_value p))) (id⊢ 𝓤 _) $
    split3 ! $ use1 𝓛 (‵ ((option.the_row Lent).own_val (Some lent) (v ∷ []))) (Some-of 𝓛 Lent lent (vptr x y)) $
    use0 𝓛 (raw (fact 𝓤 Q)) (fact_i 𝓤 Q (emp 𝓤) (not_null p.at x y is, refl)) $ move ! (3 ∷ 0 ∷ []) $ join ! $
    move ! (2 ∷ 3 ∷ []) $ join ! $ nothing ! $ nothing ! $ fjoin ! $ keep ! (1 ∷ 0 ∷ 3 ∷ 2 ∷ []) $ by !
    (leaves 𝓛 En hs c z v (Some lent) (tt, tt) (tt, tt)))))))))
