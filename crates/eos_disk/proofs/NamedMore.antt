-- The segments of one partition more.
use Rattle.std.proofs.Common.{◌≡◌, ◌<◌, ◌+◌, ℕ, List, [], ◌∷◌, ◌++◌, length, take, map, slice_index_or, refl, sym, ap, ◌∙◌, subst, append_assoc, append-nil}
use Rattle.std.proofs.lemmas.List.{take_more}
use Rattle.eos_disk.specs.Entries.{Entry}
use Rattle.eos_evidence.specs.declared.ends.End.{End}
use Rattle.eos_evidence.specs.declared.segment.Segment.{Segment}
use Rattle.eos_disk.specs.declared.names.FileName.{FileName}
use Rattle.eos_disk.specs.declared.names.Form.{Form}
use Rattle.eos_disk.specs.Shapes.{IsListed, segment_of}
use Rattle.eos_disk.specs.steps.Listing.{AreNamed}

named_more : (holds : List ℕ → Entry) (folder : List ℕ) (es : List End) (e : End) (names : List Segment) (forms : List Form) (files : List FileName)
    → AreNamed holds folder es names forms → IsListed holds folder e files
    → AreNamed holds folder (es ++ e ∷ []) (names ++ map (segment_of e) files) (forms ++ map (λ f. f.form) files)
named_more holds folder [] e names forms files are is = (
  files,
  [],
  [],
  is,
  ap (λ (xs : List Segment). xs ++ map (segment_of e) files) are.0 ∙ sym (append-nil (map (segment_of e) files)),
  ap (λ (xs : List Form). xs ++ map (λ f. f.form) files) are.1 ∙ sym (append-nil (map (λ f. f.form) files)),
  (refl, refl),
)
named_more holds folder (g ∷ es) e names forms files are is = (
  are.0,
  are.1 ++ map (segment_of e) files,
  are.2 ++ map (λ f. f.form) files,
  are.3,
  ap (λ (xs : List Segment). xs ++ map (segment_of e) files) are.4 ∙ append_assoc (map (segment_of g) are.0) are.1 (map (segment_of e) files),
  ap (λ (xs : List Form). xs ++ map (λ f. f.form) files) are.5 ∙ append_assoc (map (λ f. f.form) are.0) are.2 (map (λ f. f.form) files),
  named_more holds folder es e are.1 are.2 files are.6 is,
)

pub named_next : (holds : List ℕ → Entry) (folder : List ℕ) (es : List End) (i : ℕ) (e : End) (names more : List Segment) (forms further : List Form) (files : List FileName)
    → i < length es → e ≡ slice_index_or es i e → AreNamed holds folder (take i es) names forms → IsListed holds folder e files
    → more ≡ names ++ map (segment_of e) files → further ≡ forms ++ map (λ f. f.form) files → AreNamed holds folder (take (i + 1) es) more further
named_next holds folder es i e names more forms further files lt at are is n f =
    let longer = named_more holds folder (take i es) e names forms files are is in
    let front : take (i + 1) es ≡ take i es ++ e ∷ [] = take_more es i e lt ∙ ap (λ (x : End). take i es ++ x ∷ []) (sym at) in
    subst (λ (xs : List End). AreNamed holds folder xs more further) (sym front)
    (subst (λ (all : List Segment). AreNamed holds folder (take i es ++ e ∷ []) all further) (sym n)
    (subst (λ (all : List Form). AreNamed holds folder (take i es ++ e ∷ []) (names ++ map (segment_of e) files) all) (sym f) longer))
