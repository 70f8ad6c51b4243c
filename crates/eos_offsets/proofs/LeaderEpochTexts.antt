-- The leader epoch that is read is that of the value's text.
use Rattle.std.proofs.Common.{◌≡◌, ℕ, ℤ, pos, negsuc, Bool, false, cond, List, ◌++◌, Option, Some, None, Result, Ok, Err, refl, sym, ap, subst, ◌∙◌, arith}
use Rattle.std.specs.Prelude.{◌≢◌, FitsSigned, ◌≤ℤ◌}
use Rattle.std.specs.Ordering.{int_eq}
use Rattle.std.specs.Int.{w16, w64}
use Rattle.std.proofs.lemmas.Int.{ints}
use Rattle.eos_base.specs.Fallible.{◌>>=◌}
use Rattle.eos_base.specs.Records.{present}
use Rattle.eos_base.specs.declared.record_fault.RecordFault.{RecordFault}
use Rattle.eos_base.specs.declared.record_fault.RecordFault.TheVariants as faults
use Rattle.eos_wire.specs.Numbers.{i16_text, i32_text, i64_text, i32_at}
use Rattle.eos_wire.proofs.NumberTexts.{i16_whole, i32_whole, i64_whole}
use Rattle.eos_offsets.specs.Text.{IfPresent, IsInt32, IsValueText}
use Rattle.eos_offsets.specs.LeaderEpochs.{leader_epoch_from, leader_epoch_of, or_none, IsOfText}

abbrev epoch_if : ℤ → ℤ → Result ℤ RecordFault
epoch_if version epoch = cond (int_eq version (pos 3)) (Ok epoch) (Err faults.Version)

abbrev behind : ℤ → List ℕ → Result ℤ RecordFault
behind version rest = present (i32_at rest) >>= λ epoch. epoch_if version epoch.0

fits_16 : (version : ℤ) → pos 0 ≤ℤ version → version ≤ℤ pos 3 → FitsSigned w16 version
fits_16 version from to = grind (arith, ints)

read_behind : (version offset : ℤ) (rest : List ℕ) → FitsSigned w16 version → FitsSigned w64 offset → leader_epoch_from (i16_text version ++ (i64_text offset ++ rest)) ≡ behind version rest
unfolding leader_epoch_from
read_behind version offset rest fits fits' = rw (i16_whole version (i64_text offset ++ rest) fits, i64_whole offset rest fits') refl

not_three : (version : ℤ) → version ≢ pos 3 → int_eq version (pos 3) ≡ false
not_three version not = grind (arith, ints)

none_behind : (version : ℤ) (rest : List ℕ) → int_eq version (pos 3) ≡ false → or_none (behind version rest) ≡ negsuc 0
none_behind version rest e = go (i32_at rest)
  where
    go : (o : Option (ℤ × List ℕ)) → or_none (present o >>= λ epoch. epoch_if version epoch.0) ≡ negsuc 0
    go None = refl
    go (Some x) = ap (λ (b : Bool). or_none (cond b (Ok x.0) (Err faults.Version))) e

text_behind : (text : List ℕ) (offset : ℤ) (value : IsValueText text offset)
    → leader_epoch_from text ≡ behind value.version (value.leader_epoch ++ (value.metadata ++ (value.commit_timestamp ++ value.expire_timestamp)))
text_behind text offset value =
    ap leader_epoch_from value.parts
    ∙ read_behind value.version offset (value.leader_epoch ++ (value.metadata ++ (value.commit_timestamp ++ value.expire_timestamp)))
    (fits_16 value.version value.version_from value.version_to) value.offset_fits

named_in : (text : List ℕ) (offset : ℤ) (value : IsValueText text offset) → value.version ≡ pos 3 → value.leader_epoch ≡ i32_text (leader_epoch_of text)
named_in text offset value is =
    let number : IsInt32 value.leader_epoch = subst (λ (v : ℤ). IfPresent (int_eq v (pos 3)) IsInt32 value.leader_epoch) is value.leader_epoch_text in
    let rest = value.metadata ++ (value.commit_timestamp ++ value.expire_timestamp) in
    let read : leader_epoch_from text ≡ Ok number.0 =
    text_behind text offset value
    ∙ (ap (λ (xs : List ℕ). behind value.version (xs ++ rest)) number.2
    ∙ (ap (λ (o : Option (ℤ × List ℕ)). present o >>= λ epoch. epoch_if value.version epoch.0) (i32_whole number.0 rest number.1)
    ∙ ap (λ (v : ℤ). epoch_if v number.0) is)) in
    number.2 ∙ ap (λ (r : Result ℤ RecordFault). i32_text (or_none r)) (sym read)

pub is_of_text : (text : List ℕ) (offset : ℤ) (value : IsValueText text offset) → IsOfText value (leader_epoch_of text)
is_of_text text offset value = record {
  named = named_in text offset value;
  none = λ not. ap or_none (text_behind text offset value)
      ∙ none_behind value.version (value.leader_epoch ++ (value.metadata ++ (value.commit_timestamp ++ value.expire_timestamp))) (not_three value.version not);
}
