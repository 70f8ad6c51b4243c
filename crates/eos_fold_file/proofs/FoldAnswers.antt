-- What the readers and writers of a fold file answer.
use Rattle.std.proofs.Common.{◌≡◌, ℕ, zero, suc, ◌<◌, ◌^◌, Bool, true, false, eqb, List, [], ◌∷◌, Result, Ok, Err, ap, ◌∙◌, subst, arith}
use Rattle.std.specs.Prelude.{IfOk, OnOk, bit_xor, cond, ◌/◌, ◌%◌}
use Rattle.std.proofs.lemmas.Nat.{xor_of_32}
use Rattle.eos_wire.specs.Crc.{after_bit, after_bits, after_byte, remainder, crc32c_of}
use Rattle.eos_wire.specs.Numbers.{IsBytes, u32_text}
use Rattle.eos_wire.proofs.NumberTexts.{IsBytes-append_left}
use Rattle.eos_fold_file.specs.declared.fault.FoldFault.{FoldFault}
use Rattle.eos_fold_file.specs.declared.file.FoldFile.{FoldFile}
use Rattle.eos_fold_file.specs.Faults.{Answers}
use Rattle.eos_fold_file.specs.Files.{body_text, fold_text}
use Rattle.eos_fold_file.specs.Legal.{IsLegal, IsRight}
use Rattle.eos_fold_file.specs.Reading.{read_fold}
use Rattle.eos_fold_file.specs.steps.Widths.{HasWidths}
use Rattle.eos_fold_file.proofs.FileCodecs.{fold_sound, fold_whole}
use Rattle.eos_fold_file.proofs.LegalFolds.{legal_from_widths}

crc_step : (n : ℕ) → n < 2 ^ 32 → after_bit n < 2 ^ 32
crc_step n lt =
    let half : n / 2 < 2 ^ 32 = omega arith in
    cond_within (eqb (n % 2) 1) (bit_xor (n / 2) 0x82f6_3b78) (n / 2) (xor_of_32 (n / 2) 0x82f6_3b78 half (omega arith)) half
  where
    cond_within : (b : Bool) (x y : ℕ) → x < 2 ^ 32 → y < 2 ^ 32 → cond b x y < 2 ^ 32
    cond_within true x y p q = p
    cond_within false x y p q = q

crc_steps : (k n : ℕ) → n < 2 ^ 32 → after_bits k n < 2 ^ 32
unfolding after_bits
crc_steps zero n lt = lt
crc_steps (suc k) n lt = crc_steps k (after_bit n) (crc_step n lt)

remainder_below : (bytes : List ℕ) (register : ℕ) → IsBytes bytes → register < 2 ^ 32 → remainder register bytes < 2 ^ 32
unfolding remainder
remainder_below [] register fits lt = lt
remainder_below (b ∷ bs) register fits lt =
    let byte : b < 2 ^ 32 = let h : b < 256 = fits 0 in omega arith in
    remainder_below bs (after_byte register b) (λ i. fits (suc i)) (crc_steps 8 (bit_xor register b) (xor_of_32 register b lt byte))

pub crc_below : (bytes : List ℕ) → IsBytes bytes → crc32c_of bytes < 2 ^ 32
crc_below bytes fits = xor_of_32 (remainder 0xffff_ffff bytes) 0xffff_ffff (remainder_below bytes 0xffff_ffff fits (omega arith)) (omega arith)

pub fold_answered : (bytes : List ℕ) (result : Result FoldFile FoldFault) → IsBytes bytes → Answers result (read_fold bytes) → IfOk result (λ f. (bytes ≡ fold_text f) × IsLegal f)
fold_answered bytes (Ok f) fits e = let h = fold_sound bytes f fits e in (h.text, h.legal)
fold_answered bytes (Err d) fits e = tt

pub each_fold_answered : (bytes : List ℕ) (result : Result FoldFile FoldFault) → IsBytes bytes → Answers result (read_fold bytes)
    → (f : FoldFile) → IsLegal f → bytes ≡ fold_text f → Answers result (Ok f)
each_fold_answered bytes result fits answer f legal e =
    let body : IsBytes (body_text f) = IsBytes-append_left (body_text f) (u32_text (crc32c_of (body_text f))) (subst IsBytes e fits) in
    let read : read_fold bytes ≡ Ok f = ap read_fold e ∙ fold_whole f legal (crc_below (body_text f) body) in
    subst (λ (r : Result FoldFile FoldFault). Answers result r) read answer

pub fold_written : {V E : Type 0} (result : Result V E) (items : V → List ℕ) (f : FoldFile) → IfOk result (λ v. items v ≡ fold_text f) → OnOk result (crc32c_of (body_text f) < 2 ^ 32)
    → OnOk result (HasWidths f) → IsRight f → IfOk result (λ v. read_fold (items v) ≡ Ok f)
fold_written (Ok v) items f e lt widths right = ap read_fold e ∙ fold_whole f (legal_from_widths f widths right) lt
fold_written (Err d) items f e lt widths right = tt
