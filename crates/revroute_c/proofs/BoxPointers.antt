-- The machine values of a `BoxPointer`. Assumes `Logic`.
use Rattle.std.proofs.Common.{◌≡◌, List, [], ◌∷◌, ◌++◌, refl, subst}
use seplogic.Ra.Ura.{Ura}
use mir.Raw.{raw as bare}
use mir.Syntax.{Dict, dnil, impl, tcons, tnil}
use mir.Val.{Val, vstruct, of_list}
use types.Logic.{Logic}
use types.Kit.{Item, Goal, Seq, Step, step, ‵, ◌$◌, drop, fsplit, fjoin, fpick, fpack, feq_i, feq_l}
use denote.RattleType.{RattleType, Valss}
use denote.Builtin.{RawPtr}
use denote.Exit.{no}
use denote.Param.{arg, layout}
use denote.Param.Laws.{Laws, arg_laws}
use denote.RawPtr.{Ptr, ptr_val}
use denote.Steps.{nothing}
use denote.Struct.Struct.{within}
use denote.Struct.Owning.{shape}
use Rattle.std.specs.contracts.alloc.Global as heap
use Rattle.std.specs.contracts.impls.GlobalAllocator.TheImpl.{dict, ghosts}
use Rattle.std.proofs.BoxSteps.Form.{Bx}
use Rattle.std.proofs.alloc.Global.TheLaws as heap_laws
use Rattle.revroute_c.specs.Owning.{owned_at}
use Rattle.revroute_c.specs.declared.box_pointer.NullValue.{Ghosts}
use Rattle.revroute_c.specs.contracts.box_pointer.BoxPointer as pointer
use Rattle.revroute_c.proofs.Destruct++none.drop.Symbol.{symbol as no_drop}
use Rattle.revroute_c.proofs.Owned.{word}

-- the global allocator as a call passes it, its laws, what it drops, and boxes in its blocks
abbrev pub Passed : RattleType
Passed = arg (bare (layout heap.the_row)) no heap.the_row

abbrev pub passed_laws : Laws Passed
passed_laws = arg_laws (bare (layout heap.the_row)) no heap.the_row heap_laws.the_row_laws refl

abbrev pub passed_drop : Dict
passed_drop = impl (no_drop ∷ []) (tcons (layout Passed) tnil) dnil

abbrev pub in_heap : (T : RattleType) → Laws T → Bx
in_heap T L = record {
  row = T;
  laws = L;
  al = record { row = Passed; laws = passed_laws; g = ghosts; d = dict; drops = passed_drop };
}

module _ (S : RattleType) (g : Ghosts S.Denot) where
  abbrev pub Row : RattleType
  Row = pointer.the_row S g

  -- the pointer with this address and this value
  abbrev pub pointer_of : Ptr → S.Denot → Row.Denot
  pointer_of p x = record { at = p; value = x }

  module _ {M : Type 1} {𝓤 : Ura M} {𝓛 : Logic 𝓤} {K : Type 0} {Γ : List (Item 𝓤)} {G : Goal 𝓤 𝓛.H} where
    pub pointer_out : K → (d : Row.Denot) (vs : List Val)
        → (vs ≡ word d.at ∷ [] → Seq K 𝓛 (‵ (owned_at S g.null_value d.at d.value) ∷ Γ) G)
        → Seq K 𝓛 (‵ (Row.own_val d vs) ∷ Γ) G
    pointer_out t d vs k =
        fsplit t $ fpick t (λ vss. fsplit t $ feq_l t
        (λ ev. fsplit t $ feq_l t (λ ep. drop t $ k (subst (λ (ps : List Val). vs ≡ vstruct (of_list (ps ++ []))
        ∷ []) ep ev))))

    pub pointer_in : K → (p : Ptr) (x : S.Denot)
        → Step K 𝓛 (‵ (Row.own_val (pointer_of p x) (word p ∷ [])) ∷ Γ) G (‵ (owned_at S g.null_value p x) ∷ Γ) G
    pointer_in t p x = step (λ k. nothing t $ feq_i t (List Val) (ptr_val p ∷ []) (ptr_val p ∷ []) refl $ fjoin t $
        feq_i t (List Val) (word p ∷ []) (word p ∷ []) refl $ fjoin t $
        fpack t (Valss (RawPtr ∷ [])) (within (shape (pointer.the_type S g)) (p, tt) (word p ∷ [])) (
          ptr_val p ∷ [],
          tt,
        ) $ fjoin t $ k)
