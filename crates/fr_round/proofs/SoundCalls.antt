-- A call leaves a worker sound, and what it knows true.
use Rattle.std.proofs.Common.{◌≡◌, ℕ, ◌+◌, ◌^◌, ◌<◌, List, [], ◌∷◌, ◌++◌, refl, sym, ap, ◌∙◌, subst, arith}
use Rattle.std.specs.Prelude.{slice_index}
use Rattle.fr_graph.specs.Links.{IsNet}
use Rattle.fr_core.specs.History.{part, turn_count}
use Rattle.fr_core.specs.declared.entry.Entry.{Entry}
use Rattle.fr_core.specs.declared.entry.Reply.{Reply}
use Rattle.fr_round.specs.declared.turn_call.CallingWorker.{CallingWorker}
use Rattle.fr_round.specs.declared.view.Setup.{Setup}
use Rattle.fr_round.specs.declared.view.View.{View}
use Rattle.fr_round.specs.declared.words.Words.{Words}
use Rattle.fr_round.specs.declared.worker.Worker.TheInside.{Inside}
use Rattle.fr_round.specs.Setups.{setup_of}
use Rattle.fr_round.specs.Missing.{IsCounted}
use Rattle.fr_round.specs.Histories.{IsHistory, entry, reached}
use Rattle.fr_round.specs.Calls.{RoundSeat, ShowsCount}
use Rattle.fr_round.specs.Callers.{Makes}
use Rattle.fr_round.specs.Steps.{CatchesUp, Extends}
use Rattle.fr_round.specs.Knowledge.{IsKnowledge, KnownPast, LearnsPast, LearnsReply}
use Rattle.fr_round.specs.WorkerInside.{IsSoundWorker, knowledge_of}
use Rattle.fr_round.proofs.Entries.{reached_count}
use Rattle.fr_round.proofs.TurnCounts.{few_turns, turns_fit, turn_count_push, turn_of}

-- what a sound worker knows is true
pub knowledge_holds : (w : Inside) → IsSoundWorker w → IsKnowledge (knowledge_of w)
knowledge_holds w s = record {
  run = s.run;
  below = λ z. omega (arith, s.below z, reached_count w.caller.seat.me.0.setup w.caller.seat.me.0.known s.run z);
}

abbrev pub with_caller : Inside → CallingWorker → ℕ → Inside
with_caller w p turned = record { caller = p; number = w.number; turned = turned }

module _ (words : Words) (w : Inside) (p : CallingWorker) (x : ℕ) (reply : Reply) (s : IsSoundWorker w)
    (of : w.caller.seat.me.0.setup ≡ setup_of words.round_setup) (made : Makes words w.caller x reply p) where
  turned_more : turn_count (part w.number p.seat.me.0.known) ≡ w.turned + turn_of reply
  turned_more =
      let v = w.caller.seat.me.0 in
      let w' = p.seat.me.0 in
      let e = entry v.number x reply in
      let own : part w.number w'.known ≡ part w.number v.known ++ e ∷ [] =
      subst (λ (k : ℕ). part k w'.known ≡ part k v.known ++ e ∷ []) s.numbered made.call.extends.own in
      omega (arith, ap (λ (h : List Entry). turn_count h) own, turn_count_push (part w.number v.known) e, s.counted)

  pub turned_fits : IsNet words.round_setup.net.nodes words.round_setup.net.links
      → words.round_setup.net.nodes < 2 ^ 32 → w.turned + turn_of reply < 2 ^ 64
  turned_fits net small =
      let b = setup_of words.round_setup in
      let run = subst (λ (z : Setup). IsHistory z p.seat.me.0.known) of made.call.extends.run in
      turns_fit b.nodes (w.turned + turn_of reply) small (omega (
        arith,
        turned_more,
        few_turns b p.seat.me.0.known w.number net run,
      ))

  same_setup : p.seat.me.0.setup ≡ w.caller.seat.me.0.setup
  same_setup = ap (λ (u : View). u.setup) made.call.same

  pub sound_after : (turned : ℕ) → turned ≡ w.turned + turn_of reply → IsSoundWorker (with_caller w p turned)
  sound_after turned count =
      let v = p.seat.me.0 in
      let b = w.caller.seat.me.0.setup in
      record {
        works = ap (λ (u : View). u.works) made.call.same ∙ s.works;
        no_slot = made.stays.seat.2 ∙ s.no_slot;
        noted = made.stays.seen.counts;
        numbers =
            subst (λ (z : Setup). IsCounted z.nodes z.links p.seen) (sym (same_setup ∙ of)) made.stays.seen.numbers;
        numbered = ap (λ (u : View). u.number) made.call.same ∙ s.numbered;
        counted = count ∙ sym turned_more;
        run = subst (λ (z : Setup). IsHistory z v.known) (sym same_setup) made.call.extends.run;
        below = λ z.
            let e : slice_index v.seen z ≡ slice_index p.seen.counts.items z =
            ap (λ l. slice_index l z) made.stays.seen.counts in
            let r : reached b v.known z ≡ reached v.setup v.known z =
            ap (λ (i : Setup). reached i v.known z) (sym same_setup) in
            omega (arith, made.call.below z, e, r);
      }

  pub learns_after : (turned : ℕ) → LearnsReply (knowledge_of w) x reply (knowledge_of (with_caller w p turned))
  learns_after turned = record {
    history =
        subst (λ (k : ℕ). Extends w.caller.seat.me.0.setup k w.caller.seat.me.0.known (entry k x reply)
        p.seat.me.0.known) s.numbered made.call.extends;
    count = subst (λ (l : List ℕ × List ℕ). ShowsCount w.caller.seat.me.0.setup.nodes l.0 l.1 x reply)
        (λ i. (s.noted i, made.stays.seen.counts i)) made.call.shows;
    known = knowledge_holds (with_caller w p (w.turned + turn_of reply)) (sound_after (w.turned + turn_of reply) refl);
  }

-- a worker that learned what another one knew
abbrev pub taught : Inside → RoundSeat → Inside
taught w p = with_caller w (record { seat = p; seen = w.caller.seen }) w.turned

module _ (w : Inside) (past : KnownPast) (p : RoundSeat) (s : IsSoundWorker w) (table : p.table_id
    ≡ w.caller.seat.table_id)
    (slots : p.me.1 ≡ []) (same : p.me.0 ≡ record w.caller.seat.me.0 { known = p.me.0.known; received = past.known })
    (caught : CatchesUp (record w.caller.seat.me.0 { received = past.known }) p.me.0.known) where
  setup_stays : p.me.0.setup ≡ w.caller.seat.me.0.setup
  setup_stays = ap (λ (u : View). u.setup) same

  own_stays : part w.number p.me.0.known ≡ part w.number w.caller.seat.me.0.known
  own_stays = subst (λ (k : ℕ). part k p.me.0.known ≡ part k w.caller.seat.me.0.known) s.numbered caught.own

  pub sound_taught : IsSoundWorker (taught w p)
  sound_taught = record {
    works = ap (λ (u : View). u.works) same ∙ s.works;
    no_slot = slots;
    noted = ap (λ (u : View). u.seen) same ∙ s.noted;
    numbers = subst (λ (z : Setup). IsCounted z.nodes z.links w.caller.seen) (sym setup_stays) s.numbers;
    numbered = ap (λ (u : View). u.number) same ∙ s.numbered;
    counted = s.counted ∙ sym (ap (λ (h : List Entry). turn_count h) own_stays);
    run = subst (λ (z : Setup). IsHistory z p.me.0.known) (sym setup_stays) caught.run;
    below = λ z.
        let e : slice_index w.caller.seat.me.0.seen z ≡ slice_index w.caller.seen.counts.items z =
        ap (λ l. slice_index l z) s.noted in
        let r : reached p.me.0.setup p.me.0.known z ≡ reached w.caller.seat.me.0.setup p.me.0.known z =
        ap (λ (b : Setup). reached b p.me.0.known z) setup_stays in
        omega (arith, caught.below z, e, r);
  }

  pub learns_past : LearnsPast (knowledge_of w) past (knowledge_of (taught w p))
  learns_past = record {
    same =
        λ i. record {
          table = table i;
          setup = setup_stays i;
          number = w.number;
          known = p.me.0.known;
          seen = w.caller.seen.counts.items;
        };
    keeps = caught.begins;
    learns = caught.received;
    own = own_stays;
    known = knowledge_holds (taught w p) sound_taught;
  }
