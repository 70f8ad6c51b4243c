-- Rows that are put at the end, one after the other.
use Rattle.std.proofs.Common.{◌≡◌, ℕ, ◌<◌, suc, zero, List, [], ◌∷◌, length, take, get_or, refl, sym, ap, subst, ◌∙◌, arith, inl, inr, Option, slice_get}
use Rattle.std.specs.List.{All}
use Rattle.eos_base.specs.declared.partition_name.PartitionName.{PartitionName}
use Rattle.eos_base.specs.Members.{Has}
use Rattle.eos_evidence.specs.declared.partition.Partition.{Partition}
use Rattle.eos_fold.specs.Parts.{PartLog}
use Rattle.eos_sought.specs.declared.partition.Placed.{Placed}
use Rattle.eos_sought.specs.declared.wanted.Wanted.{Wanted}
use Rattle.eos_sought.specs.declared.wanted.Wanted.TheVariants.{Holding}
use Rattle.eos_sought.specs.Partitions.{AreBatchesOf}
use Rattle.eos_sought.specs.declared.sought.Sought.{Sought}
use Rattle.eos_story.specs.Rows.{IsOneOf, IsRecordAt}
use Rattle.eos_sought.specs.declared.finding.Find.{Find}
use Rattle.eos_sought.specs.declared.finding.Finds.{Finds}
use Rattle.eos_sought.specs.Finds.{AreFirst, all_of}

pub has_index : {X : Type 0} (xs : List X) (i : ℕ) (d : X) → i < length xs → Has xs (get_or xs i d)
has_index [] i d lt = absurd (omega (arith, lt))
has_index (y ∷ ys) zero d lt = inl refl
has_index (y ∷ ys) (suc i) d lt = inr (has_index ys i d (omega (arith, lt)))

pub has_taken : {X : Type 0} (n : ℕ) (xs : List X) (x : X) → Has (take n xs) x → Has xs x
has_taken zero xs x h = absurd h
has_taken (suc n) [] x h = absurd h
has_taken (suc n) (y ∷ ys) x (inl e) = inl e
has_taken (suc n) (y ∷ ys) x (inr h) = inr (has_taken n ys x h)

-- ---- rows that say what is so

pub all_kept : (xs : List Find) (finds : Finds) (shown : List Find) → AreFirst xs finds → shown ≡ finds.first.items → All (Has xs) shown
all_kept xs finds shown are is = λ i d lt. has_taken finds.most xs (get_or shown i d) (subst (λ (ys : List Find). Has ys (get_or shown i d)) (is ∙ are.kept) (has_index shown i d lt))

pub one_of_all : (xs finds : List Find) (i : ℕ) (x : Find) → All (Has xs) finds → i < length finds → x ≡ get_or finds i x → Has xs x
one_of_all xs finds i x all lt is = subst (Has xs) (sym is) (all i x lt)

pub one_of : (ps : List Partition) (name shown : PartitionName) (wanted : Wanted) (found : List Placed) (placed : Placed) → AreBatchesOf ps name wanted found → shown ≡ name → Has found placed → IsOneOf ps shown wanted placed
one_of ps name shown wanted found placed are is has = record { found = found; are = subst (λ (n : PartitionName). AreBatchesOf ps n wanted found) (sym is) are; has = has }

pub record_at : (ps : List Partition) (logs : List PartLog) (sought shown : Sought) (find kept : Find) (found slice : List Placed) (spot : Option Placed) → Has (all_of sought logs) find → shown ≡ sought → kept ≡ find
    → AreBatchesOf ps find.partition (Holding find.item.offset) found → slice ≡ found → spot ≡ slice_get slice 0 → IsRecordAt ps logs kept spot (all_of shown logs)
record_at ps logs sought shown find kept found slice spot has is same are lent first =
    let h : Has (all_of shown logs) find = subst (λ (s : Sought). Has (all_of s logs) find) (sym is) has in
    subst (λ (f : Find). IsRecordAt ps logs f spot (all_of shown logs)) (sym same) (record { has = h; holds = record { found = found; are = are; first = first ∙ ap (λ (xs : List Placed). slice_get xs 0) lent } })
