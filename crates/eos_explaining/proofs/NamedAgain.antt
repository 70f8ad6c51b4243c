-- A partition that is read again by its name, and lists of such.
use Rattle.std.proofs.Common.{◌≡◌, ◌∙◌, ℕ, ◌+◌, List, [], ◌∷◌, ◌++◌, Some, None, Bool, true, false, length, inl, inr, refl, sym, ap, subst}
use Rattle.eos_base.specs.declared.partition_name.PartitionName.{PartitionName}
use Rattle.eos_base.proofs.Membership.{append_cases, append_left, append_right}
use Rattle.eos_evidence.specs.declared.ends.End.{End}
use Rattle.eos_evidence.specs.declared.partition.Partition.{Partition}
use Rattle.eos_evidence.specs.Evidence.{EvidenceParts}
use Rattle.eos_sought.specs.Partitions.{is_named, partition_named}
use Rattle.eos_source.specs.Said.{Known}
use Rattle.eos_source_check.specs.Again.{IsReadOf, IsReadIf, IsNamedAgain, IsRead}
use Rattle.eos_explaining.specs.Folders.{AreRead, HasThem}
use Rattle.eos_explaining.proofs.OwnNames.{named_is}

-- ---- one

named_if : (known : ℕ → Known) (piece : ℕ) (shape : Partition) (shapes : List Partition) (name : PartitionName) (p : Partition) (b : Bool) → b ≡ is_named name shape
    → (IsNamedAgain known (piece + length shape.segments) shapes name (Some p) → is_named name p ≡ true)
    → IsReadIf b (IsReadOf known piece shape (Some p)) (IsNamedAgain known (piece + length shape.segments) shapes name (Some p)) → is_named name p ≡ true
named_if known piece shape shapes name p true is rest again =
    ap (λ (e : End). is_named name (record { end = e; segments = p.segments })) again.end ∙ sym is
named_if known piece shape shapes name p false is rest again = rest again

-- a partition that is read by a name has it
pub named_again : (known : ℕ → Known) (piece : ℕ) (shapes : List Partition) (name : PartitionName) (p : Partition) → IsNamedAgain known piece shapes name (Some p) → is_named name p ≡ true
named_again known piece [] name p again = absurd cc
named_again known piece (shape ∷ shapes) name p again =
    named_if known piece shape shapes name p (is_named name shape) refl (named_again known (piece + length shape.segments) shapes name p) again

none_if : (known : ℕ → Known) (piece : ℕ) (shape : Partition) (shapes : List Partition) (name : PartitionName) (b : Bool) → b ≡ is_named name shape
    → (IsNamedAgain known (piece + length shape.segments) shapes name None → partition_named name shapes ≡ None)
    → IsReadIf b (IsReadOf known piece shape None) (IsNamedAgain known (piece + length shape.segments) shapes name None) → partition_named name (shape ∷ shapes) ≡ None
none_if known piece shape shapes name true is rest again = absurd again
none_if known piece shape shapes name false is rest again = rw (sym is) (rest again)

-- where none is read there is none
pub none_again : (known : ℕ → Known) (piece : ℕ) (shapes : List Partition) (name : PartitionName) → IsNamedAgain known piece shapes name None → partition_named name shapes ≡ None
none_again known piece [] name again = refl
none_again known piece (shape ∷ shapes) name again =
    none_if known piece shape shapes name (is_named name shape) refl (none_again known (piece + length shape.segments) shapes name) again

pub own_read : (known : ℕ → Known) (shapes : List Partition) (name : PartitionName) (p : Partition) → IsNamedAgain known 0 shapes name (Some p) → IsRead known shapes p
own_read known shapes name p again = subst (λ (n : PartitionName). IsNamedAgain known 0 shapes n (Some p)) (named_is name p (named_again known 0 shapes name p again)) again

-- ---- lists of them

pub none_read : (known : ℕ → Known) (shapes : List Partition) → AreRead known shapes []
none_read known shapes = λ p has. absurd has

pub one_read : (known : ℕ → Known) (shapes : List Partition) (name : PartitionName) (p : Partition) → IsNamedAgain known 0 shapes name (Some p) → AreRead known shapes (p ∷ [])
one_read known shapes name p again = λ q has. elim has [
  | inl same ↦ subst (IsRead known shapes) same (own_read known shapes name p again)
  | inr has ↦ absurd has
]

pub both_read : (known : ℕ → Known) (shapes xs ys : List Partition) → AreRead known shapes xs → AreRead known shapes ys → AreRead known shapes (xs ++ ys)
both_read known shapes xs ys first more = λ p has. elim (append_cases xs ys p has) [
  | inl has ↦ first p has
  | inr has ↦ more p has
]

pub them_first : (e : EvidenceParts) (xs ys : List Partition) → HasThem e (xs ++ ys) → HasThem e xs
them_first e xs ys has = λ p here. has p (append_left xs ys p here)

pub them_more : (e : EvidenceParts) (xs ys : List Partition) → HasThem e (xs ++ ys) → HasThem e ys
them_more e xs ys has = λ p here. has p (append_right xs ys p here)

-- ---- in an evidence

pub there_named : (e : EvidenceParts) (name : PartitionName) (p : Partition) → is_named name p ≡ true → HasThem e (p ∷ []) → partition_named name e.partitions ≡ Some p
there_named e name p named has = subst (λ (n : PartitionName). partition_named n e.partitions ≡ Some p) (sym (named_is name p named)) (has p (inl refl))
