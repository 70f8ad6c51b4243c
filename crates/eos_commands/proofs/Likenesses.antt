-- How a fold's text is to a log, of what was read.
use Rattle.std.proofs.Common.{◌≡◌, ◌≢◌, ℕ, List, [], ◌++◌, Option, None, Some, IfSome, option_map, take, drop, refl, sym, ◌∙◌, subst}
use Rattle.std.proofs.lemmas.List.{take-append-drop}
use Rattle.std.specs.Io.KnownBytes.{Consumes, IsAtEnd}
use Rattle.eos_disk.specs.Entries.{Entry, Unknown, Absent, File, Folder, Leaves, HasBytes}
use Rattle.eos_evidence.specs.declared.segment.Segment.{Segment}
use Rattle.eos_fold_file.specs.declared.file.FoldFile.{FoldFile}
use Rattle.eos_fold_file.specs.Files.{fold_text}
use Rattle.eos_fold_file.specs.Folds.{IsFoldOf, IsAskedAs}
use Rattle.eos_disk.proofs.WholeFiles.{all_left, left_stands}
use Rattle.eos_disk.specs.Paths.{segment_path}
use Rattle.eos_disk.specs.declared.names.Form.TheVariants.{Log}
use Rattle.eos_reading.specs.declared.wanted.Wanted.{Wanted}
use Rattle.eos_commands.specs.Verifying.{with_bytes, IsFoldText, HasFold, IsOfFront, IsLike}
use Rattle.eos_commands.specs.declared.found.Likeness.TheVariants.{Right, Stale, Forged}

-- ---- the fold of what was read

pub text_is : (topics : List (List ℕ)) (wanted : Wanted) (name : Segment) (bytes text : List ℕ) (fold : FoldFile)
    → ((segment : Segment) → segment.topic ≡ name.topic → segment.partition ≡ name.partition → segment.base ≡ name.base → segment.bytes ≡ bytes → IsFoldOf segment fold)
    → IsAskedAs wanted topics fold.kept → text ≡ fold_text fold → IsFoldText topics wanted name bytes text
text_is topics wanted name bytes text fold is asked says = record { fold = fold; is = is (with_bytes name bytes) refl refl refl refl; asked = asked; says = says }

pub has_fold : (holds : List ℕ → Entry) (topics : List (List ℕ)) (wanted : Wanted) (name : Segment) (logs bytes text : List ℕ) (left new : Option (List ℕ))
    → Leaves (holds (segment_path logs name Log)) left → Consumes left new bytes → IsAtEnd new → IsFoldText topics wanted name bytes text → HasFold holds topics wanted name logs text
has_fold holds topics wanted name logs bytes text left new leaves taken end is = record {
  log = bytes;
  stands = left_stands (holds (segment_path logs name Log)) left bytes leaves (all_left left new bytes taken end);
  is = is;
}

-- ---- of a front

-- what was read of the first so many bytes is a front of what stands there
front_stands : (e : Entry) (left : Option (List ℕ)) (n : ℕ) (bytes : List ℕ) → Leaves e left → IfSome (option_map (take n) left) (λ xs. bytes ≡ xs) → (rest : List ℕ) × HasBytes e (bytes ++ rest)
front_stands Unknown left n bytes l h = ([], tt)
front_stands Absent left n bytes l h = absurd l
front_stands (Folder names) left n bytes l h = absurd l
front_stands (File known) None n bytes l h = absurd (let bad : None ≡ Some known = l in cc)
front_stands (File known) (Some xs) n bytes l h =
    let same : xs ≡ known = cc in
    (drop n xs, subst (λ (ys : List ℕ). ys ++ drop n xs ≡ known) (sym h) (take-append-drop n xs ∙ same))

pub of_front : (holds : List ℕ → Entry) (topics : List (List ℕ)) (wanted : Wanted) (name : Segment) (logs bytes text : List ℕ) (n : ℕ) (left new : Option (List ℕ))
    → Leaves (holds (segment_path logs name Log)) left → Consumes (option_map (take n) left) new bytes → IsAtEnd new → IsFoldText topics wanted name bytes text
    → IsOfFront holds topics wanted name logs text
of_front holds topics wanted name logs bytes text n left new leaves taken end is =
    let there = front_stands (holds (segment_path logs name Log)) left n bytes leaves (all_left (option_map (take n) left) new bytes taken end) in
    record { front = bytes; rest = there.0; stands = there.1; is = is }

-- ---- how a text is to the log

pub is_right : (holds : List ℕ → Entry) (topics : List (List ℕ)) (wanted : Wanted) (name : Segment) (logs text made : List ℕ) → HasFold holds topics wanted name logs made → text ≡ made
    → IsLike holds topics wanted name logs text Right
is_right holds topics wanted name logs text made is same = subst (λ (t : List ℕ). HasFold holds topics wanted name logs t) (sym same) is

pub is_forged : (holds : List ℕ → Entry) (topics : List (List ℕ)) (wanted : Wanted) (name : Segment) (logs text made : List ℕ) → HasFold holds topics wanted name logs made → text ≢ made
    → IsLike holds topics wanted name logs text Forged
is_forged holds topics wanted name logs text made is other = record { made = made; is = is; other = other }

pub is_stale : (holds : List ℕ → Entry) (topics : List (List ℕ)) (wanted : Wanted) (name : Segment) (logs text made front : List ℕ) → HasFold holds topics wanted name logs made → text ≢ made
    → IsOfFront holds topics wanted name logs front → text ≡ front → IsLike holds topics wanted name logs text Stale
is_stale holds topics wanted name logs text made front is other of same =
    (record { made = made; is = is; other = other }, subst (λ (t : List ℕ). IsOfFront holds topics wanted name logs t) (sym same) of)
