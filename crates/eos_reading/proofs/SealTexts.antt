-- Where a batch's text has its leader epoch and its checksum.
use Rattle.std.proofs.Common.{◌≡◌, ℕ, ◌+◌, pos, ℤ, List, ◌++◌, length, take, drop, Option, Some, None, refl, sym, ap, subst, ◌∙◌, append_assoc, arith}
use Rattle.std.proofs.lemmas.List.{drop-drop, drop_at, take_at, length-append}
use Rattle.eos_wire.specs.Crc.{crc32c_of}
use Rattle.eos_wire.specs.Fields.{Reads}
use Rattle.eos_wire.specs.Numbers.{i8_text, i32_text, i64_text, u32_text, i32_at, u32_at}
use Rattle.eos_wire.proofs.NumberTexts.{length-i8_text, length-i32_text, length-i64_text, length-u32_text, i32_whole, u32_whole}
use Rattle.eos_batch.specs.declared.batch.Batch.{Batch}
use Rattle.eos_batch.specs.Text.{IsBatchText}
use Rattle.eos_reading.specs.declared.seals.Seal.{Seal}
use Rattle.eos_reading.specs.Seals.{seal_from}

-- what stands behind the length
abbrev behind_length : (b : Batch) (covered more : List ℕ) → List ℕ
behind_length b covered more = i32_text b.leader_epoch ++ (i8_text (pos 2) ++ (u32_text (crc32c_of covered) ++ (covered ++ more)))

-- and behind the magic
abbrev behind_magic : (covered more : List ℕ) → List ℕ
behind_magic covered more = u32_text (crc32c_of covered) ++ (covered ++ more)

regrouped : (a b c d e f more : List ℕ) → (a ++ (b ++ (c ++ (d ++ (e ++ f))))) ++ more ≡ (a ++ b) ++ (c ++ (d ++ (e ++ (f ++ more))))
regrouped a b c d e f more = simp append_assoc

begun : (text : List ℕ) (b : Batch) (t : IsBatchText text b) (more : List ℕ) → text ++ more ≡ (i64_text b.base_offset ++ i32_text (pos (9 + length t.covered))) ++ behind_length b t.covered more
begun text b t more =
    ap (λ (xs : List ℕ). xs ++ more) t.parts
    ∙ regrouped (i64_text b.base_offset) (i32_text (pos (9 + length t.covered))) (i32_text b.leader_epoch) (i8_text (pos 2)) (u32_text (crc32c_of t.covered)) t.covered more

-- from the leader epoch on
epoch_there : (text : List ℕ) (b : Batch) (t : IsBatchText text b) (more : List ℕ) → drop 12 (text ++ more) ≡ behind_length b t.covered more
epoch_there text b t more =
    let first = i64_text b.base_offset ++ i32_text (pos (9 + length t.covered)) in
    let len : length first ≡ 12 = omega (arith, length-append (i64_text b.base_offset) (i32_text (pos (9 + length t.covered))), length-i64_text b.base_offset, length-i32_text (pos (9 + length t.covered))) in
    ap (drop 12) (begun text b t more) ∙ drop_at first (behind_length b t.covered more) 12 len

-- from the checksum on
checksum_there : (text : List ℕ) (b : Batch) (t : IsBatchText text b) (more : List ℕ) → drop 17 (text ++ more) ≡ behind_magic t.covered more
checksum_there text b t more =
    let first = i32_text b.leader_epoch ++ i8_text (pos 2) in
    let len : length first ≡ 5 = omega (arith, length-append (i32_text b.leader_epoch) (i8_text (pos 2)), length-i32_text b.leader_epoch, length-i8_text (pos 2)) in
    sym (drop-drop 5 12 (text ++ more)) ∙ (ap (drop 5) (epoch_there text b t more)
    ∙ (ap (drop 5) (sym (append_assoc (i32_text b.leader_epoch) (i8_text (pos 2)) (behind_magic t.covered more))) ∙ drop_at first (behind_magic t.covered more) 5 len))

-- the seal of a batch of this text
abbrev pub seal_of : ℕ → Batch → List ℕ → Seal
seal_of offset b covered = record { offset = offset; leader_epoch = b.leader_epoch; checksum = crc32c_of covered }

pub seal_there : (offset : ℕ) (text : List ℕ) (b : Batch) (t : IsBatchText text b) (more : List ℕ) → seal_from offset (text ++ more) ≡ Some (seal_of offset b t.covered)
seal_there offset text b t more =
    let epoch : i32_at (drop 12 (text ++ more)) ≡ Some (b.leader_epoch, i8_text (pos 2) ++ behind_magic t.covered more) =
    ap i32_at (epoch_there text b t more) ∙ i32_whole b.leader_epoch (i8_text (pos 2) ++ behind_magic t.covered more) t.widths.leader_epoch in
    let checksum : u32_at (drop 17 (text ++ more)) ≡ Some (crc32c_of t.covered, t.covered ++ more) =
    ap u32_at (checksum_there text b t more) ∙ u32_whole (crc32c_of t.covered) (t.covered ++ more) t.checksum_fits in
    rw (epoch, checksum) refl

-- its checksum, as its bytes 17 to 20
pub checksum_bytes : (text : List ℕ) (b : Batch) (t : IsBatchText text b) (more : List ℕ) → take 4 (drop 17 (text ++ more)) ≡ u32_text (crc32c_of t.covered)
checksum_bytes text b t more =
    ap (take 4) (checksum_there text b t more) ∙ take_at (u32_text (crc32c_of t.covered)) (t.covered ++ more) 4 (length-u32_text (crc32c_of t.covered))

-- ---- what was read of a batch

pub epoch_unread : (offset at : ℕ) (bytes front rest : List ℕ) (epoch : Option ℤ) → front ≡ drop (at + 12) bytes → Reads epoch rest (i32_at front) → epoch ≡ None → None ≡ seal_from offset (drop at bytes)
epoch_unread offset at bytes front rest epoch is read none =
    let told = subst (λ (e : Option ℤ). Reads e rest (i32_at front)) none read in
    let here : i32_at (drop 12 (drop at bytes)) ≡ None = ap i32_at (drop-drop 12 at bytes) ∙ (ap i32_at (sym is) ∙ told) in
    rw here refl

-- both were read
record Fields (at : ℕ) (bytes : List ℕ) (epoch : ℤ) (checksum : Option ℕ) (rest : List ℕ) : Type 0 where
  pub left : List ℕ
  pub epoch_is : i32_at (drop 12 (drop at bytes)) ≡ Some (epoch, left)
  pub checksum_is : Reads checksum rest (u32_at (drop 17 (drop at bytes)))

fields : (at : ℕ) (bytes front left behind rest : List ℕ) (e : Option ℤ) (s s' : Option ℕ) (epoch : ℤ) → front ≡ drop (at + 12) bytes → Reads e left (i32_at front) → e ≡ Some epoch → behind ≡ drop (at + 17) bytes
    → Reads s rest (u32_at behind) → s ≡ s' → Fields at bytes epoch s' rest
fields at bytes front left behind rest e s s' epoch is read some is' read' same =
    let told = subst (λ (x : Option ℤ). Reads x left (i32_at front)) some read in
    let told' = subst (λ (x : Option ℕ). Reads x rest (u32_at behind)) same read' in
    record {
      left = left;
      epoch_is = ap i32_at (drop-drop 12 at bytes) ∙ (ap i32_at (sym is) ∙ told);
      checksum_is = subst (λ (xs : List ℕ). Reads s' rest (u32_at xs)) (is' ∙ sym (drop-drop 17 at bytes)) told';
    }

pub checksum_unread : (offset at : ℕ) (bytes front left behind rest : List ℕ) (e : Option ℤ) (s : Option ℕ) (epoch : ℤ) → front ≡ drop (at + 12) bytes → Reads e left (i32_at front) → e ≡ Some epoch → behind ≡ drop (at + 17) bytes
    → Reads s rest (u32_at behind) → s ≡ None → None ≡ seal_from offset (drop at bytes)
checksum_unread offset at bytes front left behind rest e s epoch is read some is' read' none =
    let f = fields at bytes front left behind rest e s None epoch is read some is' read' none in
    rw (f.epoch_is, f.checksum_is) refl

pub seal_read : (offset at : ℕ) (bytes front left behind rest : List ℕ) (e : Option ℤ) (s : Option ℕ) (epoch epoch' : ℤ) (checksum : ℕ) → front ≡ drop (at + 12) bytes → Reads e left (i32_at front) → e ≡ Some epoch
    → behind ≡ drop (at + 17) bytes → Reads s rest (u32_at behind) → s ≡ Some checksum → epoch' ≡ epoch → ◌≡◌ {A = Option Seal} (Some (record { offset = offset; leader_epoch = epoch'; checksum = checksum })) (seal_from offset (drop at bytes))
seal_read offset at bytes front left behind rest e s epoch epoch' checksum is read some is' read' there same =
    let f = fields at bytes front left behind rest e s (Some checksum) epoch is read some is' read' there in
    rw (f.epoch_is, f.checksum_is, same) refl
