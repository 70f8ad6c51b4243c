-- Where it is known what stands below a folder, one shape stands there.
use Rattle.std.proofs.Common.{◌≡◌, ℕ, List, [], ◌∷◌, ◌++◌, map, codes, Ok, Result, refl, sym, ap, ◌∙◌, subst}
use Rattle.std.proofs.lemmas.Cmp.{int_cmp_total}
use Rattle.std.specs.Fmt.{signed_decimal}
use Rattle.std.specs.Ordering.{ordering_reverse}
use Rattle.std.specs.Str.Lossy.{utf8_lossy}
use Rattle.std.specs.declared.cmp.Ordering.TheVariants.{Less}
use Rattle.eos_disk.specs.Entries.{Entry, Unknown, Absent, File, Folder, HasBytes, IsKnown}
use Rattle.eos_evidence.specs.declared.ends.End.{End}
use Rattle.eos_evidence.specs.declared.fault.SpecFault.{SpecFault}
use Rattle.eos_evidence.specs.declared.partition.Partition.{Partition}
use Rattle.eos_evidence.specs.declared.segment.Segment.{Segment}
use Rattle.eos_evidence.specs.Evidence.{EvidenceParts}
use Rattle.eos_evidence.specs.Manifest.{spec_said_by}
use Rattle.eos_evidence.specs.SpecFields.{SpecFields}
use Rattle.eos_base.proofs.WholeList.{same_list}
use Rattle.eos_disk.specs.declared.names.FileName.{FileName}
use Rattle.eos_disk.specs.declared.names.Form.{Form}
use Rattle.eos_disk.specs.Paths.{path_of_end}
use Rattle.eos_disk.specs.Shapes.{HasListing, AreFilesIn, IsListed, AreListed, IsShapeAt, AreKnown, segment_of, by_base}

one_bytes : (e : Entry) (a b : List ℕ) → IsKnown e → HasBytes e a → HasBytes e b → a ≡ b
one_bytes Unknown a b k h i = absurd k
one_bytes Absent a b k h i = absurd h
one_bytes (File known) a b k h i = h ∙ sym i
one_bytes (Folder names) a b k h i = absurd h

one_listing : (e : Entry) (a b : List (List ℕ)) → IsKnown e → HasListing e a → HasListing e b → a ≡ b
one_listing Unknown a b k h i = absurd k
one_listing Absent a b k h i = h ∙ sym i
one_listing (File bytes) a b k h i = absurd h
one_listing (Folder known) a b k h i = h ∙ sym i

not_both : (f g : FileName) → by_base f g ≡ Less → by_base g f ≡ Less → ⊥
not_both f g less more =
    let turned : by_base g f ≡ ordering_reverse Less = int_cmp_total.antisymm g.base f.base ∙ ap ordering_reverse less in
    cc (more, turned)

same_files : (names : List (List ℕ)) (fs gs : List FileName) → AreFilesIn names fs → AreFilesIn names gs → fs ≡ gs
same_files names fs gs a b = same_list by_base not_both fs gs a.rises b.rises (λ x h. (b.members x).1 ((a.members x).0 h)) (λ x h. (a.members x).1 ((b.members x).0 h))

one_list : (holds : List ℕ → Entry) (folder : List ℕ) (e : End) (fs gs : List FileName) → AreKnown holds folder → IsListed holds folder e fs → IsListed holds folder e gs → fs ≡ gs
one_list holds folder e fs gs known a b =
    let names = one_listing (holds (path_of_end folder e)) a.names b.names (known (utf8_lossy e.topic ++ (codes "-" ++ signed_decimal e.partition))) a.stands b.stands in
    same_files b.names fs gs (subst (λ (ns : List (List ℕ)). AreFilesIn ns fs) names a.all) b.all

record IsOne (ps qs : List Partition) (fs gs : List Form) : Type 0 where
  pub partitions : ps ≡ qs
  pub forms : fs ≡ gs

partition_of : End → List Segment → Partition
partition_of e segments = record { end = e; segments = segments }

head_end : (e f : End) (es fs : List End) → (e ∷ es) ≡ (f ∷ fs) → e ≡ f
head_end e f es fs same = cc same

tail_ends : (e f : End) (es fs : List End) → (e ∷ es) ≡ (f ∷ fs) → es ≡ fs
tail_ends e f es fs same = cc same

no_ends : (e : End) (es : List End) → [] ≡ (e ∷ es) → ⊥
no_ends e es same = cc same

one_listed : (holds : List ℕ → Entry) (folder : List ℕ) (ps qs : List Partition) (fs gs : List Form) → AreKnown holds folder → map (λ p. p.end) ps ≡ map (λ p. p.end) qs
    → AreListed holds folder ps fs → AreListed holds folder qs gs → IsOne ps qs fs gs
unfolding partition_of
one_listed holds folder [] [] fs gs known ends a b = record { partitions = refl; forms = a ∙ sym b }
one_listed holds folder [] (q ∷ qs) fs gs known ends a b = absurd (no_ends q.end (map (λ p. p.end) qs) ends)
one_listed holds folder (p ∷ ps) [] fs gs known ends a b = absurd (no_ends p.end (map (λ p. p.end) ps) (sym ends))
one_listed holds folder (p ∷ ps) (q ∷ qs) fs gs known ends a b =
    let e : p.end ≡ q.end = head_end p.end q.end (map (λ p. p.end) ps) (map (λ p. p.end) qs) ends in
    let files : a.0 ≡ b.0 = one_list holds folder q.end a.0 b.0 known (subst (λ (x : End). IsListed holds folder x a.0) e a.2) b.2 in
    let rest = one_listed holds folder ps qs a.1 b.1 known (tail_ends p.end q.end (map (λ p. p.end) ps) (map (λ p. p.end) qs) ends) a.5 b.5 in
    let segments : p.segments ≡ q.segments =
    a.3 ∙ (ap (λ (x : End). map (segment_of x) a.0) e ∙ (ap (map (segment_of q.end)) files ∙ sym b.3)) in
    let head : p ≡ q = ap (λ (x : End). partition_of x p.segments) e ∙ ap (partition_of q.end) segments in
    let heads = ap (map (λ f. f.form)) files in
    record {
      partitions = (let tail = rest.partitions in λ i. head i ∷ tail i);
      forms = a.4 ∙ ((let tail = rest.forms in λ i. heads i ++ tail i) ∙ sym b.4);
    }

evidence_of : SpecFields → List Partition → EvidenceParts
evidence_of spec partitions = record { spec = spec; partitions = partitions }

ok_is : (a b : SpecFields) (r : Result SpecFields SpecFault) → r ≡ Ok a → r ≡ Ok b → a ≡ b
ok_is a b r e f = cc (e, f)

pub one_shape : (holds : List ℕ → Entry) (folder : List ℕ) (a b : EvidenceParts) (fs gs : List Form) → AreKnown holds folder → IsShapeAt holds folder a fs → IsShapeAt holds folder b gs
    → (a ≡ b) × (fs ≡ gs)
unfolding evidence_of
one_shape holds folder a b fs gs known h i =
    let manifest = one_bytes _ h.manifest i.manifest (known (codes "evidence.json")) h.stands i.stands in
    let spec : a.spec ≡ b.spec = ok_is a.spec b.spec (spec_said_by i.manifest) (ap spec_said_by (sym manifest) ∙ h.says) i.says in
    let ends : map (λ p. p.end) a.partitions ≡ map (λ p. p.end) b.partitions = h.is_evidence.ends ∙ (ap (λ (s : SpecFields). s.ends) spec ∙ sym i.is_evidence.ends) in
    let one = one_listed holds folder a.partitions b.partitions fs gs known ends h.listed i.listed in
    (ap (λ (s : SpecFields). evidence_of s a.partitions) spec ∙ ap (evidence_of b.spec) one.partitions, one.forms)
