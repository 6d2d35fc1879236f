-- What was done with a stream, one thing after the other.
use Rattle.std.proofs.Common.{◌≡◌, ◌∙◌, ℕ, List, [], ◌++◌, Option, Some, None, append-nil, append_assoc, option_map}
use Rattle.std.proofs.Common.{refl, sym, ap}
use Rattle.std.proofs.KnownBytes.{Appends-nil, Appends-trans}
use Rattle.fr_bytes.specs.Streams.{Log, Traffic, Flushes, ReadsNothing, Writes, after_flush, after_write}

log_still : (log : Option Log) → log ≡ option_map (after_write []) log
log_still None = refl
log_still (Some l) =
    ap (λ (bytes : List ℕ). Some (record l { now = record l.now { written = bytes } })) (sym (append-nil l.now.written))

log_on : (log : Option Log) (xs ys : List ℕ)
    → option_map (after_write ys) (option_map (after_write xs) log) ≡ option_map (after_write (xs ++ ys)) log
log_on None xs ys = refl
log_on (Some l) xs ys =
    ap (λ (bytes : List ℕ). Some (record l { now = record l.now { written = bytes } }))
    (append_assoc l.now.written xs ys)

log_unread : (log : Option Log) (xs : List ℕ)
    → option_map (λ (l : Log). l.reads) (option_map (after_write xs) log) ≡ option_map (λ (l : Log). l.reads) log
log_unread None xs = refl
log_unread (Some l) xs = refl

log_flushed : (log : Option Log)
    → option_map (λ (l : Log). l.reads) (option_map after_flush log) ≡ option_map (λ (l : Log). l.reads) log
log_flushed None = refl
log_flushed (Some l) = refl

-- nothing was written
pub writes_nothing : (t : Traffic) → Writes t t []
writes_nothing t = (refl, Appends-nil t.written, log_still t.log)

-- more was written
pub writes_on : (a b c : Traffic) (xs ys : List ℕ) → Writes a b xs → Writes b c ys → Writes a c (xs ++ ys)
writes_on a b c xs ys h k = (
  k.0 ∙ h.0,
  Appends-trans a.written b.written c.written xs ys h.1 k.1,
  k.2 ∙ (ap (option_map (after_write ys)) h.2 ∙ log_on a.log xs ys),
)

-- a write reads nothing, nor does a flush
pub write_reads_nothing : (a b : Traffic) (xs : List ℕ) → Writes a b xs → ReadsNothing a b
write_reads_nothing a b xs h = (h.0, ap (option_map (λ (l : Log). l.reads)) h.2 ∙ log_unread a.log xs)

pub flush_reads_nothing : (a b : Traffic) → Flushes a b → ReadsNothing a b
flush_reads_nothing a b h = (h.0, ap (option_map (λ (l : Log). l.reads)) h.2 ∙ log_flushed a.log)
