-- What a handle owns: its pointer is null, or points to a value in a block of its own. For proofs only.
use Rattle.std.specs.Prelude.{◌≡◌}
use base.Fml.{Fml, ftrue, fex}
use denote.RattleType.{RattleType}
use denote.RawPtr.{Ptr, block_ptr, null_ptr}
use Rattle.std.specs.declared.alloc.Global.{Global}
use Rattle.std.specs.contracts.impls.GlobalAllocator.TheImpl.{ghosts}
use Rattle.std.specs.Box.Ownership.{box_owns}

module _ (R : RattleType) (none : R.Denot) where
  -- a null handle owns nothing and has the value `none`; any other owns the value in its block, and the right to
  -- release the block
  abbrev pub owned_at : Ptr → R.Denot → Fml
  owned_at null_ptr x = fex (x ≡ none) (λ _. ftrue)
  owned_at (block_ptr b o) x = fex Global (λ alloc. box_owns (ghosts.dealloc_token alloc) R (block_ptr b o) x)
