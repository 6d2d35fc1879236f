-- When a service answers.
use Rattle.std.proofs.Common.{◌≡◌, ◌∙◌, List, ℕ, [], ◌∷◌, ◌++◌, Option, Some, None, IfSome, Result, Ok, Err, OnOk}
use Rattle.std.proofs.Common.{OnErr}
use Rattle.std.proofs.Common.{option_map, refl, sym, ap, subst, take, length, ◌≤◌}
use Rattle.std.proofs.lemmas.List.{take-append-le}
use Rattle.std.specs.List.{AllByRecursion as Each}
use Rattle.fr_route.specs.declared.form.Form.{Form}
use Rattle.fr_bytes.specs.Streams.{Log, Moment, Traffic, Flushes, Reads, ReadsNothing, Writes}
use Rattle.fr_bytes.specs.Streams.{after_flush, after_read, after_write, first_log}
use Rattle.fr_bytes.proofs.Traffics.{flush_reads_nothing, write_reads_nothing}
use Rattle.fr_command.specs.Conversations.{Talk, Takes, silence_in}
use Rattle.fr_command.specs.InPieces.{Answers}
use Rattle.fr_command.specs.Services.{AnswersInTime, IsAnsweredAt}
use Rattle.fr_command.proofs.Taking.{takes_none, takes_on}

-- each read began in time, and the present moment is in time for another
pub record IsInTime (form : Form) (log : Log) (talk : Talk) : Type 0 where
  pub reads : Each (IsAnsweredAt form) log.reads
  pub takes : Takes (silence_in form) log.now.read log.now.written talk
  pub flushed : log.now.flushed ≡ log.now.written

-- the same for a log that may be known
abbrev pub InTime : Form → (first now : Option Log) → Talk → Type 0
InTime form first now talk = first ≡ Some first_log → IfSome now (λ log. IsInTime form log talk)

-- nothing was done yet
pub in_time_first : (form : Form) (log : Option Log) (talk : Talk) → talk ≡ silence_in form → InTime form log log talk
in_time_first form log talk silent is =
    subst (λ (l : Option Log). IfSome l (λ it. IsInTime form it talk)) (sym is) (record {
      reads = tt;
      takes = subst (λ (t : Talk). Takes (silence_in form) [] [] t) (sym silent)
          (takes_none (silence_in form) (silence_in form) [] refl refl refl refl refl);
      flushed = refl;
    })

each_on : {A : Type 0} (P : A → Type 0) (xs : List A) (x : A) → Each P xs → P x → Each P (xs ++ x ∷ [])
each_on P [] x all is = (is, tt)
each_on P (y ∷ ys) x all is = (all.0, each_on P ys x all.1 is)

reads_more : (form : Form) (log : Log) (talk : Talk) → IsInTime form log talk
    → Each (IsAnsweredAt form) (log.reads ++ log.now ∷ [])
reads_more form log talk h = each_on (IsAnsweredAt form) log.reads log.now h.reads (talk, h.takes, h.flushed)

-- a read gave some bytes, and these were answered
pub in_time_on : (form : Form) (first : Option Log) (old read new : Traffic) (talk last : Talk) (bytes : List ℕ)
    → InTime form first old.log talk → Reads old read bytes → Answers talk bytes last read new
    → InTime form first new.log last
in_time_on form first old read new talk last bytes h is k known = go old.log (h known) new.log
    (k.2.2 ∙ (ap (option_map after_flush) (k.1.writes.2 ∙ ap (option_map (after_write k.1.text)) is.2)))
  where
    go : (l : Option Log) → IfSome l (λ log. IsInTime form log talk) → (m : Option Log)
        → m ≡ option_map after_flush (option_map (after_write k.1.text) (option_map (after_read bytes) l))
        → IfSome m (λ log. IsInTime form log last)
    go None was m then = subst (λ (o : Option Log). IfSome o (λ log. IsInTime form log last)) (sym then) tt
    go (Some l) was m then = subst (λ (o : Option Log). IfSome o (λ log. IsInTime form log last)) (sym then) (record {
      reads = reads_more form l talk was;
      takes = takes_on (silence_in form) talk last l.now.read bytes l.now.written k.1.text was.takes k.1.takes;
      flushed = refl;
    })

-- a read gave bytes to the front of the room for a piece
pub read_by : (old read : Traffic) (piece room : List ℕ) (count : ℕ) → count ≤ length piece
    → Reads old read (take count piece) → Reads old read (take count (piece ++ room))
read_by old read piece room count few is =
    subst (λ (bytes : List ℕ). Reads old read bytes) (sym (take-append-le count piece room few)) is

-- a read came in time, and nothing was read after it
pub read_in_time : (form : Form) (first : Option Log) (old read new : Traffic) (talk : Talk) (bytes : List ℕ)
    → InTime form first old.log talk → Reads old read bytes → ReadsNothing read new
    → AnswersInTime form first new.log
read_in_time form first old read new talk bytes h is nothing known =
    go old.log (h known) new.log (nothing.1 ∙ ap (option_map (λ (l : Log). l.reads)) is.2)
  where
    go : (l : Option Log) → IfSome l (λ log. IsInTime form log talk) → (m : Option Log)
        → option_map (λ (log : Log). log.reads) m
        ≡ option_map (λ (log : Log). log.reads) (option_map (after_read bytes) l)
        → IfSome m (λ log. Each (IsAnsweredAt form) log.reads)
    go l was None same = tt
    go None was (Some m) same = cc
    go (Some l) was (Some m) same =
        let is : m.reads ≡ l.reads ++ l.now ∷ [] = cc in
        subst (λ (moments : List Moment). Each (IsAnsweredAt form) moments) (sym is) (reads_more form l talk was)

-- nothing was read, and then nothing
pub nothing_on : (a b c : Traffic) → ReadsNothing a b → ReadsNothing b c → ReadsNothing a c
nothing_on a b c h k = (k.0 ∙ h.0, k.1 ∙ h.1)

module _ {T E : Type 0} (r : Result T E) (a b : Traffic) where
  -- a flush reads nothing, whether it fails or not
  pub flush_unread : OnOk r (Flushes a b) → OnErr r (Writes a b []) → ReadsNothing a b
  flush_unread = go r
    where
      go : (q : Result T E) → OnOk q (Flushes a b) → OnErr q (Writes a b []) → ReadsNothing a b
      go (Ok x) h k = flush_reads_nothing a b h
      go (Err x) h k = write_reads_nothing a b [] k
