-- Logs that are read again, one after the other.
use Rattle.std.proofs.Common.{◌≡◌, ◌≤◌, ◌^◌, ℕ, suc, ◌+◌, List, [], ◌∷◌, ◌++◌, length, Option, Some, None, refl, sym, ap, subst, ◌∙◌, append-nil, arith}
use Rattle.std.specs.Prelude.{IfSome}
use Rattle.std.specs.Io.KnownBytes.{Consumes, IsAtEnd}
use Rattle.eos_evidence.specs.declared.segment.Segment.{Segment}
use Rattle.eos_source.specs.declared.source.Piece.TheVariants as pieces
use Rattle.eos_source.specs.Said.{Said, Log, Fold, Known, IsAsKnown, WillSay}
use Rattle.eos_source_check.specs.Again.{IsLogAgain, AreLogsAgain}
use Rattle.eos_source_check.specs.steps.FaultsAgain.{IsLogOf}

-- ---- the bytes of one

-- all of these bytes were read
all_of : (whole : List ℕ) (left : Option (List ℕ)) (bytes : List ℕ) → Consumes (Some whole) left bytes → IsAtEnd left → bytes ≡ whole
all_of whole None bytes c e = absurd c
all_of whole (Some ys) bytes c e = sym (c ∙ (ap (λ (l : List ℕ). bytes ++ l) e ∙ append-nil bytes))

module _ {R : Type 0} (left : R → Option (List ℕ)) where
  -- what was known is what was read
  log_known : (known : Option Said) (reader : R) (new : Option (List ℕ)) (bytes : List ℕ) → IfSome known (WillSay left (pieces.Log reader)) → Consumes (left reader) new bytes → IsAtEnd new
      → IfSome known (λ k. Log bytes ≡ k)
  log_known None reader new bytes h c e = tt
  log_known (Some (Log whole)) reader new bytes h c e = ap Log (all_of whole new bytes (subst (λ (o : Option (List ℕ)). Consumes o new bytes) h c) e)
  log_known (Some (Fold fold)) reader new bytes h c e = absurd h

  pub log_read : (known : Known) (reader : R) (new : Option (List ℕ)) (bytes : List ℕ) → IfSome known.said (WillSay left (pieces.Log reader)) → Consumes (left reader) new bytes → IsAtEnd new
      → length bytes ≤ 0x4000_0000 → IsLogOf known bytes
  log_read known reader new bytes h c e l = record {
    as_known = record { is = log_known known.said reader new bytes h c e; log = λ is. l; can = l };
    size = l;
  }

-- ---- one after the other

pub one_more : (known : ℕ → Known) (piece : ℕ) (names segments : List Segment) (name segment : Segment) → AreLogsAgain known piece names segments
    → IsLogAgain (known (piece + length names)) name segment → AreLogsAgain known piece (names ++ name ∷ []) (segments ++ segment ∷ [])
one_more known piece [] [] name segment h one =
    let z : piece + 0 ≡ piece = omega arith in
    (subst (λ (n : ℕ). IsLogAgain (known n) name segment) z one, tt)
one_more known piece [] (s ∷ ss) name segment h one = absurd h
one_more known piece (n ∷ ns) [] name segment h one = absurd h
one_more known piece (n ∷ ns) (s ∷ ss) name segment h one =
    let z : piece + suc (length ns) ≡ suc piece + length ns = omega arith in
    (h.0, one_more known (suc piece) ns ss name segment h.1 (subst (λ (m : ℕ). IsLogAgain (known m) name segment) z one))

-- a segment of this name with these bytes
pub named_again : (known : Known) (name : Segment) (bytes : List ℕ) (segment : Segment) → IsLogOf known bytes → segment.topic ≡ name.topic → segment.partition ≡ name.partition
    → segment.base ≡ name.base → segment.bytes ≡ bytes → IsLogAgain known name segment
named_again known name bytes segment h topic partition base same = record {
  piece = record {
    topic = topic;
    partition = partition;
    base = base;
    size = subst (λ (bs : List ℕ). length bs ≤ 2 ^ 30) (sym same) h.size;
    says = refl;
  };
  as_known = subst (λ (bs : List ℕ). IsAsKnown known (Log bs)) (sym same) h.as_known;
}
