-- A plan is followed, target by target.
use Rattle.std.proofs.Common.{◌≡◌, ◌∙◌, ◌≤◌, ◌<◌, ◌+◌, ◌++◌, ◌∷◌, [], ℕ, List, ap, arith, get_or, inl, inr, length}
use Rattle.std.proofs.Common.{refl, subst, sym, take, ⊎_elim}
use Rattle.std.specs.Prelude.{Err, IfErr, IfOk, Ok, Result}
use Rattle.std.proofs.lemmas.List.{append_assoc, length-append, take_more}
use Rattle.fr_core.specs.Played.{answer_of}
use Rattle.fr_core.specs.Replies.{IsAnswerTo}
use Rattle.fr_core.specs.Targets.{IsLookable, IsTurnable, node_of}
use Rattle.fr_core.specs.declared.entry.Entry.{Entry}
use Rattle.fr_core.specs.declared.entry.Reply.{Reply}
use Rattle.fr_core.specs.declared.targets.Target.{Target}
use Rattle.fr_core.specs.declared.targets.Target.TheVariants.{Look, Turn}
use Rattle.fr_round.specs.declared.faults.Refusal.{Refusal}
use Rattle.fr_round.specs.declared.faults.Refusal.TheVariants.{Alone, Destination, NoNode}
use Rattle.fr_round.specs.declared.view.Setup.{Setup}
use Rattle.fr_round.specs.Histories.{StartsWith, entry}
use Rattle.fr_round.specs.Knowledge.{KeepsWorker, Knowledge}
use Rattle.fr_logs.specs.declared.faults.CallFault.{CallFault}
use Rattle.fr_logs.specs.declared.faults.CallFault.TheVariants.{Full, Refused}
use Rattle.fr_logs.specs.Recording.{AnswersPlan, HasFollowed, IsCallFault, IsRefused, Recording, Records}
use Rattle.fr_logs.specs.Recording.{RefusesTarget, log_of}

-- a call that is made was not refused
pub turn_not_refused : (b : Setup) (x : ℕ) → IsTurnable b.nodes b.dest b.links x → ¬ IsRefused b (Turn x)
turn_not_refused b x may refused = ⊎_elim (λ past. absurd (omega (arith, past, may.inside)))
    (λ r. ⊎_elim (λ is. may.not_destination is) (λ alone. alone may.linked.0 may.linked.1) r) refused

pub look_not_refused : (b : Setup) (x : ℕ) → IsLookable b.nodes b.links x → ¬ IsRefused b (Look x)
look_not_refused b x may refused = ⊎_elim (λ past. absurd (omega (arith, past, may.inside)))
    (λ alone. alone may.linked.0 may.linked.1) refused

-- a refused call is one on a target that is refused
pub refused_target : (b : Setup) (t : Target) (why : Refusal) → RefusesTarget b t why → IsRefused b t
refused_target b (Turn x) NoNode r = inl r
refused_target b (Turn x) Destination r = inr (inl r.1)
refused_target b (Turn x) Alone r = inr (inr r.2)
refused_target b (Look x) NoNode r = inl r
refused_target b (Look x) Destination r = absurd r
refused_target b (Look x) Alone r = inr r.1

answers-refused : (b : Setup) (plan : List Target) (es : List Entry) (t : Target) → AnswersPlan b plan es
    → IsRefused b t → AnswersPlan b (plan ++ t ∷ []) es
answers-refused b [] es t is refused = inl (refused, is)
answers-refused b (u ∷ us) es t a refused = ⊎_elim
    (λ p. inl (p.0, answers-refused b us es t p.1 refused))
    (λ p. inr (p.0, p.1, p.2, p.3, p.4, answers-refused b us p.1 t p.5 refused))
    a

answers-more : (b : Setup) (plan : List Target) (es : List Entry) (t : Target) (e : Entry) → AnswersPlan b plan es
    → ¬ IsRefused b t
    → IsAnswerTo t (answer_of e) → AnswersPlan b (plan ++ t ∷ []) (es ++ e ∷ [])
answers-more b [] es t e is accepted answer = inr
    (e, [], ap (λ (l : List Entry). l ++ e ∷ []) is, accepted, answer, refl)
answers-more b (u ∷ us) es t e a accepted answer = ⊎_elim
    (λ p. inl (p.0, answers-more b us es t e p.1 accepted answer))
    (λ p. inr (
      p.0,
      p.1 ++ e ∷ [],
      ap (λ (l : List Entry). l ++ e ∷
          []) p.2,
      p.3,
      p.4,
      answers-more b us p.1 t e p.5 accepted answer,
    ))
    a

keeps_on : (a b c : Knowledge) → KeepsWorker a b → KeepsWorker b c → KeepsWorker a c
keeps_on a b c p q = record {
  table = q.table ∙ p.table;
  setup = q.setup ∙ p.setup;
  number = q.number ∙ p.number;
  seen = λ z. omega (arith, p.seen z, q.seen z);
}

starts_on : (some more all : List Entry) → StartsWith more some → StartsWith all more → StartsWith all some
starts_on some more all s t = (s.0 ++ t.0, t.1 ∙ (ap (λ (l : List Entry). l ++ t.0) s.1 ∙ append_assoc some s.0 t.0))

-- a call forgets nothing
knows_on : (b : Setup) (before after : Recording) (t : Target) (reply : Reply) → Records b before t reply after
    → StartsWith after.worker.known before.worker.known
knows_on b before after t reply r =
    let h = r.learns.history in
    let e : Entry = entry before.worker.number (node_of t) reply in
    (h.between ++ e ∷ [], h.begins ∙ append_assoc before.worker.known h.between (e ∷ []))

-- so many targets of a plan were passed, and there is room for the rest
pub record IsFollowing (b : Setup) (first : Recording) (plan : List Target) (made : ℕ) (now : Recording) : Type 0 where
  pub followed : HasFollowed b first (take made plan) now
  pub room : length plan ≤ now.room + made

module _ (b : Setup) (first : Recording) (plan : List Target) (made : ℕ) (now : Recording)
    (f : IsFollowing b first plan made now)
    (d t : Target) (inside : made < length plan) (here : get_or plan made d ≡ t) where
  one_more : take (made + 1) plan ≡ take made plan ++ t ∷ []
  one_more = take_more plan made d inside ∙ ap (λ (u : Target). take made plan ++ u ∷ []) here

  following_refused : IsRefused b t → IsFollowing b first plan (made + 1) now
  following_refused refused = record {
    followed = record {
      keeps = f.followed.keeps;
      begins = f.followed.begins;
      gained = f.followed.gained;
      log = f.followed.log;
      answers = subst (λ (l : List Target). AnswersPlan b l f.followed.gained) (sym one_more)
          (answers-refused b (take made plan) f.followed.gained t f.followed.answers refused);
      room = f.followed.room;
    };
    room = omega (arith, f.room);
  }

  following_more : (reply : Reply) (next : Recording) → Records b now t reply next
      → IsFollowing b first plan (made + 1) next
  following_more reply next r =
      let e : Entry = entry now.worker.number (node_of t) reply in record {
        followed = record {
          keeps = keeps_on first.worker now.worker next.worker f.followed.keeps r.keeps;
          begins =
              starts_on first.worker.known now.worker.known next.worker.known f.followed.begins
              (knows_on b now next t reply r);
          gained = f.followed.gained ++ e ∷ [];
          log = r.log ∙ (ap (λ (l : List Entry). l ++ e ∷ []) f.followed.log
              ∙ append_assoc (log_of first) f.followed.gained (e ∷ []));
          answers = subst (λ (l : List Target). AnswersPlan b l (f.followed.gained ++ e ∷ [])) (sym one_more)
              (answers-more b (take made plan) f.followed.gained t e f.followed.answers r.accepted r.answers);
          room = omega (arith, f.followed.room, r.room, length-append f.followed.gained (e ∷ []));
        };
        room = omega (arith, f.room, r.room);
      }

  -- what one call makes of it
  pub following_next : (r : Result Reply CallFault) (next : Recording) → IfOk r (λ reply. Records b now t reply next)
      → IfErr r (λ fault. IsCallFault b now t fault × (next ≡ now)) → IsFollowing b first plan (made + 1) next
  following_next (Ok reply) next ok err = following_more reply next ok
  following_next (Err Full) next ok err = absurd (omega (arith, err.0, inside, f.room))
  following_next (Err (Refused why)) next ok err =
      subst (λ (r : Recording). IsFollowing b first plan (made + 1) r) (sym err.1)
      (following_refused (refused_target b t why err.0.1))
