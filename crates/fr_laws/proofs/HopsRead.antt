-- Next hops that are read from replies between which no node turned.
use Rattle.std.proofs.Common.{◌≡◌, ℕ, ◌<◌, ◌⊎◌, inl, inr, ⊎_elim, List, [], ◌∷◌}
use Rattle.std.proofs.Common.{refl, sym, ap, subst, arith, ◌∙◌, zero, suc}
use Rattle.std.proofs.Common.{length, replicate}
use Rattle.std.proofs.lemmas.Bool.{cases_eq}
use Rattle.fr_graph.proofs.Acyclic.{links_at_acyclic}
use Rattle.fr_graph.proofs.Giving.{Points-links_at_from}
use Rattle.fr_graph.proofs.Linking.{joined_below}
use Rattle.fr_graph.specs.Links.{IsAcyclic, IsNet, IsPath, Joins, Points, end_of as path_end}
use Rattle.fr_core.proofs.Finishing.{settled_at_end, zeros_lawful}
use Rattle.fr_core.proofs.Following.{path_short}
use Rattle.fr_core.proofs.Joining.{joined_by_counts}
use Rattle.fr_core.proofs.Rounds.{run_parts}
use Rattle.fr_core.proofs.Turning.{IsLawfulAt, run_keeps}
use Rattle.fr_core.proofs.Unique.{joined_against, joined_along, joined_count_below}
use Rattle.fr_core.specs.History.{Moment, after_all, count_at, moment_of, turn_count}
use Rattle.fr_core.specs.Legal.{IsLegalReply, IsRun}
use Rattle.fr_core.specs.Settled.{AreSettled}
use Rattle.fr_core.specs.Walks.{IsConnected}
use Rattle.fr_core.specs.declared.entry.Entry.{Entry}
use Rattle.fr_core.specs.declared.entry.Reply.{Reply}
use Rattle.fr_core.specs.declared.entry.Reply.TheVariants.{Cut, Held, Moved, Sink, Turned}
use Rattle.fr_tables.specs.Tables.{IsLoopFree, IsWalk, IsWholeWalk, SendsOn, end_of}
use Rattle.fr_tables.specs.declared.hop.Hop.{Hop}
use Rattle.fr_laws.proofs.HopsAlong.{never_loops, walk_path}
use Rattle.fr_laws.proofs.QuietEnds.{legal_there, quiet_leaves_none}
use Rattle.fr_laws.specs.Hops.{AllHeldSendOn, AreReadFrom, GoesAlong, QuietHopsLeadHome, RepliesNeverLoop}
use Rattle.fr_laws.specs.Quiet.{IsBlocked, IsQuiet}

same_end : (x : ℕ) (ys : List ℕ) → path_end x ys ≡ end_of x ys
same_end x [] = refl
same_end x (y ∷ ys) = same_end y ys

held_or_full : (n d : ℕ) (m : Moment) (x : ℕ) (r : Reply) → IsLegalReply n d m x r → IsBlocked r
    → ((y : ℕ) × (r ≡ Held y)) ⊎ (count_at m x ≡ n)
held_or_full n d m x (Turned k) legal blocked = absurd blocked
held_or_full n d m x (Held by) legal blocked = inl (by, refl)
held_or_full n d m x (Moved had k) legal blocked = absurd blocked
held_or_full n d m x Cut legal blocked = inr legal
held_or_full n d m x Sink legal blocked = absurd blocked

-- the moment of these replies
module _ (n d : ℕ) (first : List (ℕ × ℕ)) (net : IsNet n first) (m : Moment) (at : IsLawfulAt n d first m)
    (still : List Entry) (run : IsRun n d m still) (none : turn_count still ≡ 0)
    (table : List Hop) (read : AreReadFrom still table) where
  read_along : GoesAlong m.links table
  read_along x y sends =
      let (e, among, node, reply) = read x y sends in
      let legal = (legal_there n d m still e none run among).1 in
      subst (λ (z : ℕ). IsLegalReply n d m z (Held y)) node (subst (IsLegalReply n d m e.node) reply legal)

  acyclic_there : IsAcyclic m.links
  acyclic_there = subst IsAcyclic (sym at.links) (links_at_acyclic first m.counts net.acyclic)

  never_there : IsLoopFree table
  never_there = never_loops m.links table read_along acyclic_there

  -- and where they are quiet
  module _ (below : d < n) (settled : AreSettled n d first m.counts)
      (q : IsQuiet d first still) (all : AllHeldSendOn still table) where
    linked_there : (x : ℕ) → IsConnected first d x → ¬ (x ≡ d) → (w : ℕ) × Joins first x w
    linked_there x joined apart =
        ⊎_elim (λ e. absurd (apart e)) (λ h. h.0) (joined_by_counts n d first net below m.counts settled x joined)

    sends_there : (x : ℕ) → IsConnected first d x → ¬ (x ≡ d) → (y : ℕ) × SendsOn table x y
    sends_there x joined apart =
        let shows = q.blocked x apart (linked_there x joined apart) in
        let legal = (legal_there n d m still shows.entry none run shows.among).1 in
        let low = joined_count_below n d first net below m.counts settled x joined in
        ⊎_elim
        (λ held. subst (λ (z : ℕ). (y : ℕ) × SendsOn table z y) shows.node (all shows.entry held.0 shows.among held.1))
        (λ full. absurd (omega (arith, low, full, ap (count_at m) shows.node)))
        (held_or_full n d m shows.entry.node shows.entry.reply legal shows.blocked)

    joined_there : (x y : ℕ) → IsConnected first d x → Points m.links x y → IsConnected first d y
    joined_there x y joined link = ⊎_elim
        (λ along. joined_along n d first net below m.counts settled x y along.0 joined)
        (λ against. joined_against n d first net below m.counts settled x y against.0 joined)
        (Points-links_at_from first m.counts x y (subst (λ (ls : List (ℕ × ℕ)). Points ls x y) at.links link))

    in_range : (x : ℕ) → IsConnected first d x → x < n
    in_range x joined = ⊎_elim
        (λ e. omega (arith, e, below))
        (λ h. (joined_below n first x h.0.0 net h.0.1).0)
        (joined_by_counts n d first net below m.counts settled x joined)

    head_in_range : (u v : ℕ) → Points m.links u v → v < n
    head_in_range u v link = ⊎_elim
        (λ along. (joined_below n first u v net (inl along.0)).1)
        (λ against. (joined_below n first u v net (inr against.0)).1)
        (Points-links_at_from first m.counts u v (subst (λ (ls : List (ℕ × ℕ)). Points ls u v) at.links link))

    -- hops to the destination, or a path of k steps
    abbrev Leads : ℕ → Type 0
    Leads x = (ys : List ℕ) × IsWalk table x ys × (end_of x ys ≡ d)

    follow : (k x : ℕ) → IsConnected first d x → Leads x ⊎ ((ys : List ℕ) × (length ys ≡ k) × IsPath m.links x ys)
    follow zero x joined = inr ([], refl, tt)
    follow (suc k) x joined = ⊎_elim
        (λ e. inl ([], tt, e))
        (λ apart.
        let (y, sends) = sends_there x joined apart in
        let link = read_along x y sends in
        ⊎_elim
        (λ r. inl (y ∷ r.0, (sends, r.1), r.2))
        (λ p. inr (y ∷ p.0, ap suc p.1, (link, p.2)))
        (follow k y (joined_there x y joined link)))
        (cases_eq x d)

    leads_home : (x : ℕ) → IsConnected first d x → Leads x
    leads_home x joined = ⊎_elim (λ r. r)
        (λ p. absurd (omega (
          arith,
          p.1,
          path_short m.links n acyclic_there head_in_range x p.0 (in_range x joined) p.2,
        )))
        (follow n x joined)

    -- the destination sends on to no node: from there the hops would come back
    ends_there : (y : ℕ) → ¬ SendsOn table d y
    ends_there y sends =
        let link = read_along d y sends in
        let (ys, goes, home) = leads_home y (joined_there d y (0, ([], (refl, refl))) link) in
        acyclic_there d (y ∷ ys) ((link, walk_path m.links table read_along y ys goes), same_end y ys ∙ home)

    whole_home : (x : ℕ) → IsConnected first d x → (ys : List ℕ) × IsWholeWalk table x ys × (end_of x ys ≡ d)
    whole_home x joined =
        let (ys, goes, home) = leads_home x joined in
        let ends : (y : ℕ) → ¬ SendsOn table (end_of x ys) y =
        λ y sends. ends_there y (subst (λ (z : ℕ). SendsOn table z y) home sends) in
        (ys, record { goes = goes; ends = ends }, home)

pub replies_never_loop : RepliesNeverLoop
replies_never_loop n d first h still table net run none read =
    let start : Moment = moment_of first (replicate n 0) in
    let parts = run_parts n d start h still run in
    let at = run_keeps n d first net start (record { links = refl; lawful = zeros_lawful n d first }) h parts.0 in
    never_there n d first net (after_all start h) at still parts.1 none table read

pub quiet_hops_lead_home : QuietHopsLeadHome
quiet_hops_lead_home n d first h quiet table net below run q read all =
    let start : Moment = moment_of first (replicate n 0) in
    let end : Moment = after_all start h in
    let parts = run_parts n d start h quiet run in
    let at = run_keeps n d first net start (record { links = refl; lawful = zeros_lawful n d first }) h parts.0 in
    let settled =
    settled_at_end n d first net below end at (quiet_leaves_none n d first end at.links quiet parts.1 q) in
    whole_home n d first net end at quiet parts.1 q.no_turn table read below settled q all
