-- What a text at the front says of reading.
use Rattle.std.proofs.Common.{◌≡◌, ℕ, ◌≤◌, List, [], ◌++◌, length, Result, Ok, Err, sym, ap, ◌∙◌, arith}
use Rattle.std.proofs.lemmas.List.{length-append}
use Rattle.eos_batch.specs.declared.batch.Batch.{Batch}
use Rattle.eos_batch.specs.declared.fault.BatchFault.{BatchFault}
use Rattle.eos_batch.specs.declared.fault.BatchFault.TheVariants as faults
use Rattle.eos_batch.specs.Text.{IsBatchText}
use Rattle.eos_batch.specs.Reading.{batch_at}
use Rattle.eos_batch.proofs.BatchTexts.{batch_whole, text_length}
use Rattle.eos_touch.specs.Front.{IsNext}

pub has_byte : (text : List ℕ) (b : Batch) → IsBatchText text b → 1 ≤ length text
has_byte text b h = omega (arith, text_length text b h)

pub ok_is : (x y : Batch × ℕ) → Path (Result (Batch × ℕ) BatchFault) (Ok x) (Ok y) → x ≡ y
ok_is x y e = cc

pub reads_first : (bytes : List ℕ) (b : Batch) (text more : List ℕ) → IsBatchText text b → bytes ≡ text ++ more → batch_at bytes ≡ Ok (b, length text)
reads_first bytes b text more h e = ap batch_at e ∙ batch_whole text b more h

-- there is one batch at most
pub next_is : (bytes : List ℕ) (b c : Batch) → IsNext bytes b → IsNext bytes c → b ≡ c
next_is bytes b c h k = ap (λ (x : Batch × ℕ). x.0) (ok_is (b, length h.0) (c, length k.0) (sym (reads_first bytes b h.0 h.1 h.2 h.3) ∙ reads_first bytes c k.0 k.1 k.2 k.3))

pub not_both : (bytes : List ℕ) (b : Batch) (fault : BatchFault) → IsNext bytes b → batch_at bytes ≡ Err fault → ⊥
not_both bytes b fault h e = apart (b, length h.0) (sym (reads_first bytes b h.0 h.1 h.2 h.3) ∙ e)
  where
    apart : (x : Batch × ℕ) → Path (Result (Batch × ℕ) BatchFault) (Ok x) (Err fault) → ⊥
    apart x e = cc

pub nothing_next : (b : Batch) → IsNext [] b → ⊥
nothing_next b h = let e : 0 ≡ length (h.0 ++ h.1) = ap length h.3 in absurd (omega (arith, e, length-append h.0 h.1, has_byte h.0 b h.2))

-- ---- places in the bytes
