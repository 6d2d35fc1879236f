-- What a handle owns: its pointer is null, or points to a value in a block of its own. Assumes `Logic`.
use Rattle.std.proofs.Common.{◌≡◌, ◌≢◌, ℕ, List, ◌∷◌, refl, sym, subst, ◌∙◌}
use seplogic.Ra.Ura.{Ura}
use mir.Raw.{raw as bare}
use mir.Val.{Val, vstruct, vcons, vnil}
use base.Fraction.{full_share}
use base.Fml.{Fml}
use base.Logic.{ent, guard, guard_i, via, snd∗}
use base.Shift.{Keyless}
use types.Logic.{Logic, sem}
use types.Kit.{Item, Goal, Seq, ‵, given, ◌$◌, drop, fpick, use1, learn}
use contract.Monad.{fact_use}
use denote.RattleType.{RattleType}
use denote.Memory.{lone}
use denote.Param.Send.{IsSend, part_keyless}
use denote.RawPtr.{Ptr, InBlock, block_ptr, null_ptr, ptr_val, lies_at, Testable}
use Rattle.std.specs.declared.alloc.Global.{Global}
use Rattle.std.specs.contracts.impls.GlobalAllocator.TheImpl.{ghosts}
use Rattle.std.proofs.Crossing.{frees}
use Rattle.std.proofs.GlobalToken.{dealloc_token-Testable}
use Rattle.std.specs.Box.Ownership.{box_owns}
use Rattle.revroute_c.specs.Owning.{owned_at}

abbrev pub word : Ptr → Val
word p = vstruct (vcons (ptr_val p) vnil)

pub not_null : (p : Ptr) (x y : ℕ) → p ≡ block_ptr x y → p ≢ null_ptr
not_null p x y is null = subst InBlock (sym is ∙ null) tt

abbrev pub boxed : (S : RattleType) → Global → Ptr → S.Denot → Fml
boxed S a p s = box_owns (ghosts.dealloc_token a) S p s

module _ {M : Type 1} {𝓤 : Ura M} (𝓛 : Logic 𝓤) (S : RattleType) (a : Global) (p : Ptr) (s : S.Denot) where
  tested : ent 𝓤 (sem 𝓛 (boxed S a p s)) (guard 𝓤 (Testable p) (sem 𝓛 (boxed S a p s)))
  tested =
      fact_use 𝓤 (Testable p) (via 𝓤 _
      (snd∗ 𝓤 (sem 𝓛 (lies_at S full_share p s)) (sem 𝓛 (ghosts.dealloc_token a (bare (lone S.mir)) p)))
      (dealloc_token-Testable 𝓛 a (bare (lone S.mir)) p))
      (guard_i 𝓤 (Testable p) (sem 𝓛 (boxed S a p s)))

module _ (S : RattleType) (none : S.Denot) where
  -- it may go to another thread if the value may, because its block may be released there
  pub owned_keyless : IsSend S → (p : Ptr) (s : S.Denot) → Keyless (owned_at S none p s)
  owned_keyless sends null_ptr s = λ _. tt
  owned_keyless sends (block_ptr b o) s =
      λ alloc. (part_keyless S sends full_share s b o, frees.frees alloc (bare (lone S.mir)) (block_ptr b o))

  module _ {M : Type 1} {𝓤 : Ura M} {𝓛 : Logic 𝓤} {K : Type 0} {Γ : List (Item 𝓤)} {G : Goal 𝓤 𝓛.H} where
    -- by cases on the pointer: at null there is no value, otherwise it is in a box
    pub either_owned : K → (p : Ptr) (s : S.Denot) → (p ≡ null_ptr → s ≡ none → Seq K 𝓛 Γ G)
        → ((b o : ℕ) (a : Global) → p ≡ block_ptr b o → Testable (block_ptr b o)
        → Seq K 𝓛 (‵ (boxed S a (block_ptr b o) s) ∷ Γ) G)
        → Seq K 𝓛 (‵ (owned_at S none p s) ∷ Γ) G
    either_owned t null_ptr s is_none one = fpick t (λ e. drop t $ is_none refl e)
    either_owned t (block_ptr b o) s is_none one =
        fpick t (λ a. use1 𝓛 (given (Testable (block_ptr b o)) (‵ (boxed S a (block_ptr b o) s)))
        (tested 𝓛 S a (block_ptr b o) s) $ learn t (λ u. one b o a refl u))
