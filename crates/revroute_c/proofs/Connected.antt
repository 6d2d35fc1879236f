-- A node with a hop is not cut off.
use Rattle.std.proofs.Common.{refl, ℕ, ◌≢◌}
use Rattle.std.proofs.lemmas.Bool.{false≢true}
use Rattle.fr_route.proofs.CutNodes.{hop_cut_off}
use Rattle.fr_route.specs.Routes.{IsHop}
use Rattle.fr_route.specs.States.{State, IsCutOff}
use Rattle.fr_tables.specs.declared.hop.Hop.{Hop}
use Rattle.fr_tables.specs.declared.hop.Hop.TheVariants.{Here, To, CutOff}

pub not_cut_off : (s : State) (x : ℕ) (hop : Hop) → IsHop s x hop → hop ≢ CutOff → ¬ IsCutOff s.dest s.links x
not_cut_off s x Here h sends = λ cut. cut.0 h
not_cut_off s x (To y) h sends = λ cut. false≢true ((hop_cut_off s x (To y) h).1 cut)
not_cut_off s x CutOff h sends = absurd (sends refl)
