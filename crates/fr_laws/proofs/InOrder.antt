-- Which call came first: a call that knows another one comes after it, and finds no counts from before it.
use Rattle.std.proofs.Common.{◌≡◌, ℕ, ◌+◌, ◌≤◌, ◌&&◌, ◌==◌, cond, ◌⊎◌, ⊎_elim, inl, inr, List, [], ◌∷◌, ◌++◌}
use Rattle.std.proofs.Common.{append_assoc, ap, ◌∙◌}
use Rattle.std.proofs.Common.{arith, subst}
use Rattle.std.proofs.lemmas.List.Sums.{sum_by-append}
use Rattle.std.specs.Prelude.{slice_index}
use Rattle.fr_graph.proofs.Giving.{Points-links_at_from}
use Rattle.fr_graph.specs.Counts.{links_at}
use Rattle.fr_graph.specs.Links.{IsNet, Points}
use Rattle.fr_core.proofs.Rounds.{run_parts}
use Rattle.fr_core.specs.History.{is_turned, turn_count_of}
use Rattle.fr_core.specs.Legal.{IsLegal, IsLegalReply}
use Rattle.fr_core.specs.declared.entry.Entry.{Entry}
use Rattle.fr_core.specs.declared.entry.Reply.TheVariants.{Turned, Held}
use Rattle.fr_round.proofs.Entries.{lawful_after, reached_count}
use Rattle.fr_round.specs.Calls.{ShowsCount}
use Rattle.fr_round.specs.Histories.{IsHistory, StartsWith, moment, reached, start}
use Rattle.fr_laws.specs.Linear.{Call, HeldAfterATurn, IsCall, Knows, KnowledgeIsKept, LaterIsBehind, LaterIsFresh}
use Rattle.fr_laws.specs.Linear.{NoneHoldsTheDestination, entry_of}

starts_with_append : (list known more : List Entry) (e : Entry) → list ≡ (known ++ more) ++ e ∷ []
    → StartsWith list known
starts_with_append list known more e is = (more ++ e ∷ [], is ∙ append_assoc known more (e ∷ []))

pub knowledge_is_kept : KnowledgeIsKept
knowledge_is_kept before after = record {
  calls = λ x reply learns. starts_with_append after.known before.known learns.history.between _ learns.history.begins;
  own = λ past learns. learns.keeps;
  others = λ past learns. learns.learns;
}

-- turns only come in addition
turns_grow : (x : ℕ) (list known : List Entry) → StartsWith list known → turn_count_of x known ≤ turn_count_of x list
turns_grow x list known starts =
    let one : Entry → ℕ = λ e. cond (is_turned e.reply && (e.node == x)) 1 0 in
    let whole : turn_count_of x list ≡ turn_count_of x (known ++ starts.0) = ap (turn_count_of x) starts.1 in
    omega (arith, whole, sum_by-append one known starts.0)

-- the calls before a call, as its worker knows them then
abbrev calls_before : (c : Call) → IsCall c → List Entry
calls_before c is = c.before.known ++ is.learns.history.between

-- the reply of a call is legal after them
legal_there : (c : Call) (is : IsCall c) → IsHistory c.before.setup (calls_before c is)
    × IsLegal c.before.setup.nodes c.before.setup.dest (moment c.before.setup (calls_before c is)) (entry_of c)
legal_there c is =
    let b = c.before.setup in
    let run = subst (IsHistory b) is.learns.history.begins is.learns.history.run in
    let parts = run_parts b.nodes b.dest (start b) (calls_before c is) (entry_of c ∷ []) run in
    (parts.0, parts.1.0)

regroup : (front : List Entry) (e : Entry) (some more : List Entry)
    → ((front ++ e ∷ []) ++ some) ++ more ≡ front ++ e ∷ (some ++ more)
regroup front e some more = append_assoc (front ++ e ∷ []) some more ∙ append_assoc front (e ∷ []) (some ++ more)

module _ (earlier later : Call) (one : IsCall earlier) (two : IsCall later) (knows : Knows later earlier) where
  calls_after : StartsWith (calls_before later two) earlier.after.known
  calls_after = (
    knows.0 ++ two.learns.history.between,
    ap (λ l. l ++ two.learns.history.between) knows.1
        ∙ append_assoc earlier.after.known knows.0 two.learns.history.between,
  )

  before_is : calls_before later two ≡ calls_before earlier one ++ entry_of earlier
      ∷ (knows.0 ++ two.learns.history.between)
  before_is =
      ap (λ l. l ++ two.learns.history.between) (knows.1 ∙ ap (λ l. l ++ knows.0) one.learns.history.begins)
      ∙ regroup (calls_before earlier one) (entry_of earlier) knows.0 two.learns.history.between

  counts_reached : (z : ℕ) → slice_index earlier.after.seen z ≤ reached later.before.setup (calls_before later two) z
  counts_reached z =
      let calls = calls_before later two in
      omega (
        arith,
        one.learns.known.below z,
        turns_grow z calls earlier.after.known calls_after,
        reached_count later.before.setup calls (legal_there later two).0 z,
      )

  -- a node that turned k times holds the other one after a list in which that one has turned
  module _ (k : ℕ) (net : IsNet later.before.setup.nodes later.before.setup.links) (turned : earlier.reply ≡ Turned k)
      (held : later.reply ≡ Held earlier.node) where
    turned_to : slice_index earlier.after.seen earlier.node ≡ k
    turned_to =
        subst (ShowsCount earlier.before.setup.nodes earlier.before.seen earlier.after.seen earlier.node) turned
        one.learns.count

    holder_turned : let b = later.before.setup in let calls = calls_before later two in
        (Points b.links later.node earlier.node × (k ≤ reached b calls later.node))
        ⊎ (Points b.links earlier.node later.node × (k + 1 ≤ reached b calls later.node))
    holder_turned =
        let b = later.before.setup in
        let calls = calls_before later two in
        let m = moment b calls in
        let lawful = lawful_after b calls net (legal_there later two).0 in
        let now : Points m.links later.node earlier.node =
        subst (IsLegalReply b.nodes b.dest m later.node) held (legal_there later two).1.1 in
        let stood : Points (links_at b.links m.counts) later.node earlier.node =
        subst (λ (ls : List (ℕ × ℕ)). Points ls later.node earlier.node) lawful.links now in
        let high = counts_reached earlier.node in
        let seen = turned_to in
        ⊎_elim (λ along. let same = along.1 in inl (along.0, omega arith)) (λ against. let more = against.1 in inr (
          against.0,
          omega arith,
        ))
        (Points-links_at_from b.links m.counts later.node earlier.node stood)

    -- the first turn is one
    turned_once : 1 ≤ k
    turned_once =
        let first = subst (IsLegalReply earlier.before.setup.nodes earlier.before.setup.dest
        (moment earlier.before.setup (calls_before earlier one)) earlier.node) turned (legal_there earlier one).1.1 in
        let step = first.1 in
        omega arith

    not_the_destination : ¬ (later.node ≡ later.before.setup.dest)
    not_the_destination at =
        let b = later.before.setup in
        let calls = calls_before later two in
        let lawful = lawful_after b calls net (legal_there later two).0 in
        let zero : reached b calls later.node ≡ 0 = ap (reached b calls) at ∙ lawful.lawful.destination in
        let some = turned_once in
        ⊎_elim (λ along. let le = along.1 in omega arith) (λ against. let le = against.1 in omega arith) holder_turned

pub later_is_behind : LaterIsBehind
later_is_behind earlier later one two knows = (
  calls_before earlier one,
  knows.0 ++ two.learns.history.between,
  one.learns.history.begins,
  two.learns.history.begins ∙ ap (λ l. l ++ entry_of later ∷ []) (before_is earlier later one two knows),
)

pub later_is_fresh : LaterIsFresh
later_is_fresh earlier later one two knows = (
  calls_before later two,
  two.learns.history.begins,
  calls_after earlier later one two knows,
  (legal_there later two).1,
  counts_reached earlier later one two knows,
)

pub held_after_a_turn : HeldAfterATurn
held_after_a_turn earlier later k one two knows net turned held = (
  calls_before later two,
  two.learns.history.begins,
  holder_turned earlier later one two knows k net turned held,
)

pub none_holds_the_destination : NoneHoldsTheDestination
none_holds_the_destination earlier later k one two knows net turned at held =
    not_the_destination earlier later one two knows k net turned held at
