-- The result of writing a text.
use Rattle.std.proofs.Common.{◌≡◌, Err, IfErr, List, Ok, OnErr, OnOk, Option, Result, ℕ}
use Rattle.std.specs.Io.KnownBytes.{Appends}
use Rattle.fr_bytes.specs.Bytes.{IsBeginning, ReadsInput}
use Rattle.fr_bytes.specs.declared.fault.RunFault.{RunFault}
use Rattle.fr_bytes.specs.declared.fault.RunFault.TheVariants.{Write}
use Rattle.fr_bytes.proofs.Results.{only_fault}
use Rattle.revdot.specs.Written.{IsOne, IsTextFault, WritesText}

module _ {T : Type 0} (IsText : List ℕ → List ℕ → Type 0) (bytes out : List ℕ) (before after old new : Option (List ℕ))
    (reads : ReadsInput before after bytes) (text : IsOne IsText bytes out) (r : Result T RunFault) where
  pub text_written : OnOk r (Appends old new out) → OnOk r (WritesText IsText before after old new)
  text_written written = go r written
    where
      go : (r : Result T RunFault) → OnOk r (Appends old new out) → OnOk r (WritesText IsText before after old new)
      go (Ok x) written = record { bytes = bytes; out = out; reads = reads; text = text; writes = written }
      go (Err fault) written = tt

  pub text_begun : OnErr r ((front : List ℕ) × IsBeginning front out × Appends old new front)
      → IfErr r (λ fault. fault ≡ Write) → IfErr r (IsTextFault IsText before after old new)
  text_begun part kind = go r part kind
    where
      go : (r : Result T RunFault) → OnErr r ((front : List ℕ) × IsBeginning front out × Appends old new front)
          → IfErr r (λ fault. fault ≡ Write) → IfErr r (IsTextFault IsText before after old new)
      go (Ok x) part kind = tt
      go (Err fault) part kind = only_fault {T = T} (Err fault) Write (IsTextFault IsText before after old new) kind
          (record {
            bytes = bytes;
            whole = out;
            out = part.0;
            reads = reads;
            text = text;
            begins = part.1;
            writes = part.2;
          })
