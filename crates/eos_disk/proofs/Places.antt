-- Paths below a folder, and the one beside its manifest.
use Rattle.std.proofs.Common.{◌≡◌, ◌≢◌, ℕ, ℤ, List, ◌∷◌, ◌++◌, Bool, true, false, ◌||◌, ◌==◌, codes, refl, sym, ap, ◌∙◌, append_assoc}
use Rattle.std.specs.List.{list_any}
use Rattle.std.specs.Fmt.{signed_decimal}
use Rattle.std.specs.Str.Lossy.{utf8_lossy}
use Rattle.std.proofs.lemmas.Bool.{false≢true}
use Rattle.std.proofs.lemmas.List.{append_cancel_left}
use Rattle.std.proofs.lemmas.List.Folds.{list_any-append}
use Rattle.eos_disk.specs.Putting.{beside}
use Rattle.eos_evidence.specs.declared.ends.End.{End}
use Rattle.eos_evidence.specs.declared.segment.Segment.{Segment}
use Rattle.eos_disk.specs.Paths.{manifest_path, path_of_end, segment_path, padded_base, ending_of}
use Rattle.eos_disk.specs.declared.names.Form.TheVariants.{Log}

abbrev is_dash : ℕ → Bool
is_dash b = b == 45

or_true : (b : Bool) → (b || true) ≡ true
or_true true = refl
or_true false = refl

-- a partition's name has a hyphen
dashed : (t d : List ℕ) → list_any is_dash (t ++ (45 ∷ d)) ≡ true
dashed t d = list_any-append is_dash t (45 ∷ d) ∙ or_true (list_any is_dash t)

or_left : (a b : Bool) → a ≡ true → (a || b) ≡ true
or_left a b e = ap (λ (x : Bool). x || b) e

-- the text beside the manifest has none
not_beside : (folder rest : List ℕ) → list_any is_dash rest ≡ true → folder ++ rest ≢ beside (manifest_path folder)
not_beside folder rest has e =
    let same : rest ≡ codes "/evidence.json.new" = append_cancel_left folder rest (codes "/evidence.json.new") (e ∙ append_assoc folder (codes "/evidence.json") (codes ".new")) in
    false≢true (sym (ap (list_any is_dash) same) ∙ has)

abbrev name_of : List ℕ → ℤ → List ℕ
name_of topic number = codes "/" ++ (utf8_lossy topic ++ (codes "-" ++ signed_decimal number))

named : (topic : List ℕ) (number : ℤ) → list_any is_dash (name_of topic number) ≡ true
named topic number = dashed (utf8_lossy topic) (signed_decimal number)

pub folder_aside : (folder : List ℕ) (e : End) → path_of_end folder e ≢ beside (manifest_path folder)
folder_aside folder e = not_beside folder (name_of e.topic e.partition) (named e.topic e.partition)

pub log_aside : (folder : List ℕ) (s : Segment) → segment_path folder s Log ≢ beside (manifest_path folder)
log_aside folder s e =
    let last = codes "/" ++ (padded_base s.base ++ ending_of Log) in
    not_beside folder (name_of s.topic s.partition ++ last)
    (list_any-append is_dash (name_of s.topic s.partition) last ∙ or_left _ (list_any is_dash last) (named s.topic s.partition))
    (sym (append_assoc folder (name_of s.topic s.partition) last) ∙ e)
