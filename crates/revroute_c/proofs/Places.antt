-- A `&mut` to a handle, lent on as one to the `BoxPointer` at the same place. Assumes `Logic`.
use Rattle.std.proofs.Common.{◌≡◌, ℕ, List, [], ◌∷◌, refl, sym, ap, ◌∙◌, subst}
use seplogic.Ra.Ura.{Ura}
use mir.Syntax.{Callee, Fn, addr_of, assign, block, copy, deref, erased, local, mut, named, place, return, rv_opd, seq}
use mir.Syntax.{ty_ptr, ty_ref, value_local}
use mir.Val.{Val, vptr}
use base.Fraction.{full_share}
use base.Logic.{SProp, ent, sep, emp, via, fst∗, id⊢}
use base.Fml.{GName, Fml, fex, flft, fsep, ftrue}
use prog.Model.{Model}
use prog.Wp.{Closed}
use types.Logic.{Logic, sem}
use types.Kit.{‵, raw, ◌⊛◌, some, later, at_ret, ◌$◌, ◌∵◌, !, qed, by, move, keep, split, split3, join, fsplit3, fjoin}
use types.Kit.{use0, use1, rewrite, await, pick, group}
use types.Run.{stop, addr, of_opd, first, blocks, exec, returns, enter}
use types.ByLocal.{alloc_all, pass_all, free_all, look_at, get, through, sets, sets_last, env}
use types.Mut.{open_ref}
use contract.Monad.{fact, fact_i}
use contract.Running.{Running, tables}
use denote.Exit.{no}
use denote.RattleType.{RattleType}
use denote.Memory.{cell_raw, lone, mem, part_of, pointee, raw_all}
use denote.Ref.{MutRef, mut_vals, mut_Tells}
use denote.Follow.{follows, Part, lends_Part}
use denote.Signature.{plain, mut_ref_to}
use denote.Steps.{nothing}
use denote.Triple.Clauses.{Clauses, Ended, closing}
use denote.Triple.Spec.{Meets}
use denote.Triple.Walked.{Stays, stay_dropped, walk_of, Goes-spent_ref}
use Rattle.std.proofs.VecSteps.Shapes.{after}
use Rattle.std.proofs.raw_atomic.Walks.{proved, leaves}

module _ (H P : RattleType) (handle_of : P.Denot → H.Denot) (pointer_of : H.Denot → P.Denot) where
  abbrev ended : Ended
  ended = record {
    signature = record {
      lifetimes = 1;
      outlives = [];
      params = mut_ref_to (0 ∷ []) tt (plain (λ _. H)) ∷ [];
      result = mut_ref_to (0 ∷ []) tt (plain (λ _. P));
    };
    kept = (no, tt);
  }

  abbrev stayed : Stays ended.signature.params ended.kept
  stayed = (stay_dropped (mut_ref_to (0 ∷ []) tt (plain (λ _. H))) no, tt)

  abbrev clauses : {M : Type 1} {𝓤 : Ura M} → Logic 𝓤 → Clauses 𝓤 ended
  clauses {𝓤 = 𝓤} 𝓛 = λ κs args. record {
    ghost = Unit {0};
    requires = λ _. sem 𝓛 ftrue;
    ensures = λ _ lent _. sep 𝓤 (sem 𝓛 (follows H P args.0.ghost_name lent.ghost_name handle_of))
        (fact 𝓤 (handle_of lent.now ≡ args.0.now));
  }

  -- the code, as it is for each handle
  abbrev function : Fn
  function = record {
    lifetimes = 1;
    outlives = [];
    ty_params = [];
    givens = 0;
    params = 1;
    locals = local (ty_ref (named 0) mut (pointee P.written)) value_local
        ∷ local (ty_ref (named 0) mut (pointee H.written)) value_local
        ∷ local (ty_ref erased mut (pointee P.written)) value_local ∷ local ty_ptr value_local ∷ [];
    body = seq (block (seq (assign (place 3 []) (addr_of (place 1 (deref (lone H.mir) ∷ []))))
        (assign (place 2 []) (addr_of (place 3 (deref (lone P.mir) ∷ []))))))
        (seq (assign (place 0 []) (rv_opd (copy (place 2 [])))) return);
  }

  module _ (raws : raw_all P.mir ≡ raw_all H.mir)
      (owns_same : (p : P.Denot) (vs : List Val) → P.own_val p vs ≡ H.own_val (handle_of p) vs)
      (back_again : (h : H.Denot) → handle_of (pointer_of h) ≡ h) where
    -- the place of a handle is the place of its pointer
    same_place : (p : P.Denot) (b o : ℕ) → (mem P).own_at p b o ≡ (mem H).own_at (handle_of p) b o
    unfolding part_of
    same_place p b o = λ i. fex (List Val) (λ vs. fsep (cell_raw full_share (raws i) vs b o) (owns_same p vs i))

    module _ {M : Type 1} {𝓤 : Ura M} (𝓛 : Logic 𝓤) (𝓜 : Model 𝓤 𝓛.H) (𝓡 : Running 𝓤 𝓛.H 𝓜) where
      pub lends_place : (k : Callee)
          → Closed 𝓤 𝓛.H (tables 𝓤 𝓛.H 𝓜 𝓡 𝓡.env).C (tables 𝓤 𝓛.H 𝓜 𝓡 𝓡.env).Λ k function
          → Meets 𝓛 ended.signature ((tables 𝓤 𝓛.H 𝓜 𝓡 𝓡.env).C k) (closing 𝓛 ended (clauses 𝓛))
      lends_place k closed =
          let 𝓣 = tables 𝓤 𝓛.H 𝓜 𝓡 𝓡.env in let c = clauses 𝓛 in
          proved 𝓛 ended stayed c 𝓜 𝓡 (Goes-spent_ref 𝓛 1 (0 ∷ []) tt (plain (λ _. H)), tt) k function closed
          (λ κs. (mut_vals, tt)) (λ κs. (mut_Tells (named 0) κs.0 H, tt)) (λ κs qs bounds args ghost are.
          let κ = κs.0 in let q = qs.0 in let r = args.0 in let b = r.ref_ptr.0 in let o = r.ref_ptr.1 in
          let γ = r.ghost_name in let p = pointer_of r.now in
          let z : (walk_of 𝓛 ended stayed c).Ghost = ((κs, qs, bounds, args, (vptr b o ∷ [], tt)), ghost) in
          let Ends : Val → SProp 𝓤 = (walk_of 𝓛 ended stayed c).post z in
          qed 𝓛 (((‵ (flft κ q) ⊛ ‵ ftrue) ⊛ ‵ ((MutRef (named 0) κ H).own_val r (mut_vals r)) ⊛ ‵ ftrue) ∷ ‵ ftrue
          ∷ []) ∵ split ! $ split ! $ move ! (2 ∷ []) $ split ! $ keep ! (0 ∷ 2 ∷ []) $ enter ! _ _ _ _ _ $ alloc_all !
          (λ l. pass_all ! refl ((tt, tt), tt) $ let Ev = env function.locals l in
          fsplit3 ! $ move ! (1 ∷ 2 ∷ 3 ∷ []) $ open_ref ! tt (mem H) {b = b} {o = o} $
          -- [the handle in its place; the open borrow, in three entries; the locals]
          first ! $ blocks ! $ sets ! (addr ! (through ! refl (stop !))) refl (tt, tt) $
          sets_last ! (addr ! (through ! refl (stop !))) refl (tt, tt) $
          exec ! 𝓣.C 𝓣.Λ Ev (after 1 function.body) (at_ret Ev Ends) $ sets ! (of_opd ! (get ! refl)) refl (tt, tt) $
          rewrite ! 0 (λ (A : Fml). ‵ A)
          (ap (λ (h : H.Denot). (mem H).own_at h b o) (sym (back_again r.now)) ∙ sym (same_place p b o)) refl $
          nothing ! $ move ! (2 ∷ 3 ∷ 4 ∷ 1 ∷ 0 ∷ []) $ group ! 5 $
          let back = λ (w : P.Denot). via 𝓤 _ (fst∗ 𝓤 (sem 𝓛 ((mem P).own_at w b o)) (emp 𝓤))
          (subst (λ (A : Fml). ent 𝓤 (sem 𝓛 ((mem P).own_at w b o)) (sem 𝓛 A)) (same_place w b o) (id⊢ 𝓤 _)) in
          use1 𝓛 (later (some (λ (γ' : GName). raw
          (Part 𝓛 H P handle_of (named 0) κ q b o b o γ (emp 𝓤) back p γ'))))
          (lends_Part 𝓛 H P handle_of (named 0) κ q b o b o γ (emp 𝓤) back (H.coded.code r.now) (H.coded.code r.now)
          p) $
          await ! tt $ pick ! (λ γ'.
          let lent : (MutRef (named 0) κ P).Denot = record { ref_ptr = (b, o); ghost_name = γ'; now = p } in
          use1 𝓛 (‵ ((MutRef (named 0) κ P).own_val lent (vptr b o ∷ [])) ⊛ ‵ (flft κ q)
          ⊛ ‵ (follows H P γ γ' handle_of)) (id⊢ 𝓤 _) $ returns ! (look_at ! 0 refl) $ free_all ! refl $ split3 ! $
          use0 𝓛 (raw (fact 𝓤 (handle_of p ≡ r.now))) (fact_i 𝓤 (handle_of p ≡ r.now) (emp 𝓤) (back_again r.now)) $
          move ! (3 ∷ 0 ∷ []) $ join ! $ nothing ! $
          move ! (3 ∷ 0 ∷ []) $ join ! $ nothing ! $ nothing ! $ fjoin ! $ keep ! (1 ∷ 0 ∷ 3 ∷ 2 ∷ []) $ by !
          (leaves 𝓛 ended stayed c z (vptr b o) lent (tt, tt) (tt, tt)))))
