-- What the listing of a partition's folder found.
use Rattle.std.proofs.Common.{◌≡◌, ℕ, List, [], IsPermutation, IsSorted, refl, sym, subst, arith}
use Rattle.std.proofs.lemmas.List.Sorted.{IsPermutation-refl}
use Rattle.eos_disk.specs.Entries.{Entry, Unknown, Absent, File, Folder, HasNames, MayBeAbsent}
use Rattle.eos_evidence.specs.declared.ends.End.{End}
use Rattle.eos_disk.specs.declared.names.FileName.{FileName}
use Rattle.eos_disk.specs.Paths.{path_of_end}
use Rattle.eos_disk.specs.Shapes.{HasListing, by_base, files_said, AreByBase, IsFound}

none_listed : (e : Entry) → MayBeAbsent e → HasListing e []
none_listed Unknown m = tt
none_listed Absent m = refl
none_listed (File bytes) m = absurd m
none_listed (Folder names) m = absurd m

names_listed : (e : Entry) (names : List (List ℕ)) → HasNames e names → HasListing e names
names_listed Unknown names h = tt
names_listed Absent names h = absurd h
names_listed (File bytes) names h = absurd h
names_listed (Folder known) names h = h

pub names_found : (holds : List ℕ → Entry) (path : List ℕ) (names : List (List ℕ)) (files : List FileName) → HasNames (holds path) names → AreByBase names files → IsFound holds path files
names_found holds path names files h are = record { names = names; stands = names_listed (holds path) names h; are = are }

pub end_found : (holds : List ℕ → Entry) (folder path : List ℕ) (e : End) (names : List (List ℕ)) (files : List FileName) → path ≡ path_of_end folder e → HasNames (holds path) names
    → AreByBase names files → IsFound holds (path_of_end folder e) files
end_found holds folder path e names files is h are = names_found holds (path_of_end folder e) names files (subst (λ (p : List ℕ). HasNames (holds p) names) is h) are

no_files : AreByBase [] []
no_files = record { sorted = λ k d low high. absurd (omega (arith, high)); same = IsPermutation-refl [] }

pub none_found : (holds : List ℕ → Entry) (folder path : List ℕ) (e : End) (files : List FileName) → path ≡ path_of_end folder e → MayBeAbsent (holds path) → files ≡ []
    → IsFound holds (path_of_end folder e) files
none_found holds folder path e files is h none = record {
  names = [];
  stands = none_listed (holds (path_of_end folder e)) (subst (λ (p : List ℕ). MayBeAbsent (holds p)) is h);
  are = subst (λ (fs : List FileName). AreByBase [] fs) (sym none) no_files;
}

pub ordered : (names : List (List ℕ)) (said files : List FileName) → said ≡ files_said names → IsSorted by_base files → IsPermutation said files → AreByBase names files
ordered names said files is up same = record { sorted = up; same = subst (λ (fs : List FileName). IsPermutation fs files) is same }
