-- The evidence that a folder of logs gives whoever reads all of it stands there.
use Rattle.std.proofs.Common.{◌≡◌, ◌<◌, ◌+◌, ℕ, zero, suc, List, [], ◌∷◌, ◌++◌, map, length, Option, None, Some, refl, sym, ap, ◌∙◌, subst, arith, append_assoc, length-append}
use Rattle.std.proofs.lemmas.List.{map-append, length-map}
use Rattle.std.specs.List.{AllByRecursion}
use Rattle.std.specs.Prelude.{slice_get}
use Rattle.eos_disk.specs.Entries.{Entry, Unknown, Absent, File, Folder, HasBytes, IsKnown}
use Rattle.eos_evidence.specs.declared.ends.End.{End}
use Rattle.eos_evidence.specs.declared.partition.Partition.{Partition}
use Rattle.eos_evidence.specs.declared.segment.Segment.{Segment}
use Rattle.eos_evidence.specs.Evidence.{EvidenceParts, IsPartition, IsOwn, segments_of}
use Rattle.eos_disk.specs.declared.names.Form.{Form}
use Rattle.eos_disk.specs.declared.names.Form.TheVariants as in_form
use Rattle.eos_disk.specs.Paths.{segment_path}
use Rattle.eos_disk.specs.Reading.{name_of, names_only, shape_of, AreAllLogs, HasItsBytes, IsReadWhole}
use Rattle.eos_disk.specs.Shapes.{AreListed, AreKnown, segment_of}
use Rattle.eos_source.specs.Said.{Said, Log, HasSaid}
use Rattle.eos_source.specs.Shapes.{IsPiece, ArePieces, ArePartitions}
use Rattle.eos_source.specs.Saying.{said_by, said_at, StandsAt}

abbrev bytes_at : Option Segment → List ℕ
bytes_at None = []
bytes_at (Some s) = s.bytes

-- the log of the segment of this number
abbrev said_of : List Segment → ℕ → Said
said_of ss piece = Log (bytes_at (slice_get ss piece))

-- ---- what the files say

by_bytes : (e : Entry) (bytes : List ℕ) → IsKnown e → HasBytes e bytes → said_by in_form.Log e ≡ Some (Log bytes)
by_bytes Unknown bytes known has = absurd known
by_bytes Absent bytes known has = absurd has
by_bytes (File stands) bytes known has = ap (λ (b : List ℕ). Some (Log b)) (sym has)
by_bytes (Folder names) bytes known has = absurd has

known_log : (holds : List ℕ → Entry) (folder : List ℕ) (s : Segment) → AreKnown holds folder → IsKnown (holds (segment_path folder s in_form.Log))
known_log holds folder s known = subst (λ (p : List ℕ). IsKnown (holds p)) (sym (append_assoc folder _ _)) (known _)

says : (holds : List ℕ → Entry) (folder : List ℕ) (ss : List Segment) (forms : List Form) (k : ℕ) → AreKnown holds folder → length forms ≡ length ss → AreAllLogs forms
    → AllByRecursion (HasItsBytes holds folder) ss → k < length ss → said_at holds folder (map name_of ss) forms k ≡ Some (said_of ss k)
says holds folder [] forms k known many logs has lt = absurd (omega (arith, lt))
says holds folder (s ∷ ss) [] k known many logs has lt = absurd (omega (arith, many))
says holds folder (s ∷ ss) (f ∷ fs) zero known many logs has lt =
    subst (λ (form : Form). said_by form (holds (segment_path folder (name_of s) form)) ≡ Some (Log s.bytes)) (sym logs.0)
    (by_bytes (holds (segment_path folder s in_form.Log)) s.bytes (known_log holds folder s known) has.0)
says holds folder (s ∷ ss) (f ∷ fs) (suc k) known many logs has lt = says holds folder ss fs k known (omega (arith, many)) logs.1 has.1 (omega (arith, lt))

as_many : (holds : List ℕ → Entry) (folder : List ℕ) (ps : List Partition) (forms : List Form) → AreListed holds folder ps forms → length forms ≡ length (segments_of ps)
as_many holds folder [] forms are = ap length are
as_many holds folder (p ∷ ps) forms are =
    let later = as_many holds folder ps are.1 are.5 in
    let left = ap length are.4 ∙ length-append (map (λ f. f.form) are.0) are.1 in
    let own = ap length are.3 ∙ length-map are.0 (segment_of p.end) in
    omega (arith, left, own, later, length-map are.0 (λ f. f.form), length-append p.segments (segments_of ps))

-- ---- the segments piece by piece

-- from this piece on these segments' logs were said
abbrev AreSaid : (ℕ → Said) → ℕ → List Segment → Type 0
AreSaid said piece ss = (k : ℕ) → k < length ss → said (piece + k) ≡ said_of ss k

in_front : (xs ys : List Segment) (k : ℕ) → k < length xs → slice_get (xs ++ ys) k ≡ slice_get xs k
in_front [] ys k lt = absurd (omega (arith, lt))
in_front (x ∷ xs) ys zero lt = refl
in_front (x ∷ xs) ys (suc k) lt = in_front xs ys k (omega (arith, lt))

behind : (xs ys : List Segment) (k : ℕ) → slice_get (xs ++ ys) (length xs + k) ≡ slice_get ys k
behind [] ys k = let z : 0 + k ≡ k = omega arith in ap (slice_get ys) z
behind (x ∷ xs) ys k = let z : suc (length xs) + k ≡ suc (length xs + k) = omega arith in ap (slice_get (x ∷ (xs ++ ys))) z ∙ behind xs ys k

here : (said : ℕ → Said) (piece : ℕ) (e : End) (s : Segment) (ss : List Segment) → IsOwn e s → AreSaid said piece (s ∷ ss) → IsPiece (said piece) (name_of s) s
here said piece e s ss own are =
    let none : piece + 0 ≡ piece = omega arith in
    let is : said piece ≡ Log s.bytes = subst (λ (n : ℕ). said n ≡ Log s.bytes) none (are 0 (omega arith)) in
    record { topic = refl; partition = refl; base = refl; size = own.size; says = subst (λ (x : Said). HasSaid s x) (sym is) refl }

pieces : (said : ℕ → Said) (piece : ℕ) (e : End) (ss : List Segment) → AllByRecursion (IsOwn e) ss → AreSaid said piece ss → ArePieces said piece (map name_of ss) ss
pieces said piece e [] own are = tt
pieces said piece e (s ∷ ss) own are = (
  here said piece e s ss own.0 are,
  pieces said (suc piece) e ss own.1 (λ k lt.
      let next : piece + suc k ≡ suc piece + k = omega arith in
      subst (λ (n : ℕ). said n ≡ said_of ss k) next (are (suc k) (omega (arith, lt)))),
)

partitions : (said : ℕ → Said) (piece : ℕ) (ps : List Partition) → AllByRecursion IsPartition ps → AreSaid said piece (segments_of ps) → ArePartitions said piece (map names_only ps) ps
partitions said piece [] each are = tt
partitions said piece (p ∷ ps) each are =
    let later = segments_of ps in
    let whole = length-append p.segments later in
    let named = length-map p.segments name_of in (
      refl,
      pieces said piece p.end p.segments each.0.own (λ k lt. are k (omega (arith, lt, whole)) ∙ ap (λ (o : Option Segment). Log (bytes_at o)) (in_front p.segments later k lt)),
      partitions said (piece + length (map name_of p.segments)) ps each.1 (λ k lt.
          let next : piece + (length p.segments + k) ≡ (piece + length (map name_of p.segments)) + k = omega (arith, named) in
          subst (λ (n : ℕ). said n ≡ said_of later k) next
          (are (length p.segments + k) (omega (arith, lt, whole)) ∙ ap (λ (o : Option Segment). Log (bytes_at o)) (behind p.segments later k))),
    )

-- ---- the whole

named : (ps : List Partition) → segments_of (map names_only ps) ≡ map name_of (segments_of ps)
named [] = refl
named (p ∷ ps) = ap (λ (l : List Segment). map name_of p.segments ++ l) (named ps) ∙ sym (map-append name_of p.segments (segments_of ps))

pub stands_whole : (holds : List ℕ → Entry) (folder : List ℕ) (e : EvidenceParts) → AreKnown holds folder → IsReadWhole holds folder e → StandsAt holds folder e
stands_whole holds folder e known h =
    let segments = segments_of e.partitions in
    let names = named e.partitions in
    let length_is = ap length names ∙ length-map segments name_of in
    let many : length h.forms ≡ length segments = as_many holds folder (map names_only e.partitions) h.forms h.is.listed ∙ length_is in
    record {
      shape = shape_of e;
      forms = h.forms;
      is = h.is;
      stands = record {
        said = said_of segments;
        stands = λ k lt.
            subst (λ (ns : List Segment). said_at holds folder ns h.forms k ≡ Some (said_of segments k)) (sym names)
            (says holds folder segments h.forms k known many h.logs h.bytes (omega (arith, lt, length_is)));
        is = record {
          spec = refl;
          partitions = partitions (said_of segments) 0 e.partitions h.is_evidence.each (λ k lt. let z : 0 + k ≡ k = omega arith in ap (said_of segments) z);
        };
      };
    }
