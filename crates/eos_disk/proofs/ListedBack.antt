-- Evidence that was written into an empty folder is read back, where the disk lists what stands on it.
use Rattle.std.proofs.Common.{◌≡◌, ◌≢◌, ◌⊎◌, ◌≤◌, ◌<◌, ◌^◌, ℕ, ℤ, pos, negsuc, ◌≤ℤ◌, ◌<ℤ◌, List, [], ◌∷◌, ◌++◌, map, length, true, false, bytes_eq, Option, Some, unwrap_or, codes, refl, sym, ap, ◌∙◌, subst, inl, inr, append_assoc, arith}
use Rattle.std.specs.Cmp.{first_so, second_so}
use Rattle.std.specs.List.{AllByRecursion, flat_map, list_all}
use Rattle.std.specs.List.Sorted.{IsStrictlySortedBy}
use Rattle.std.specs.Ordering.{int_cmp, int_eq, on}
use Rattle.std.specs.declared.cmp.Ordering.TheVariants.{Less}
use Rattle.std.proofs.lemmas.Bool.Decides.{Decides-int_eq}
use Rattle.std.proofs.lemmas.Int.{ints}
use Rattle.std.proofs.lemmas.List.{append_cancel_left, length-map, map-append}
use Rattle.std.proofs.lemmas.Slice.Eq.{bytes_eq-Decides}
use Rattle.eos_base.specs.Members.{Has}
use Rattle.eos_base.proofs.Membership.{flat_has, has_flat, map_has, has_map}
use Rattle.eos_disk.specs.Entries.{Entry, Unknown, Absent, File, Folder, HasBytes, MayBeAbsent, IsKnown}
use Rattle.eos_disk.specs.Changes.{IsFolder}
use Rattle.eos_disk.proofs.Kept.{by_path}
use Rattle.eos_evidence.specs.declared.ends.End.{End}
use Rattle.eos_evidence.specs.declared.partition.Partition.{Partition}
use Rattle.eos_evidence.specs.declared.segment.Segment.{Segment}
use Rattle.eos_evidence.specs.Ends.{end_cmp, is_legal_end}
use Rattle.eos_evidence.specs.Evidence.{EvidenceParts, IsEvidence, IsPartition, IsOwn, IsRising, segments_of}
use Rattle.eos_evidence.specs.PartitionNames.{partition_of}
use Rattle.eos_evidence.proofs.SpecsWritten.{passed_tests}
use Rattle.eos_disk.specs.declared.names.Form.{Form}
use Rattle.eos_disk.specs.declared.names.Form.TheVariants.{Log}
use Rattle.eos_disk.specs.Names.{file_in_name}
use Rattle.eos_disk.specs.Paths.{path_of_end, segment_path}
use Rattle.eos_disk.specs.Reading.{name_of, names_only, shape_of, AreAllLogs, HasItsBytes, IsReadWhole}
use Rattle.eos_disk.specs.Writing.{IsEvidenceWritten}
use Rattle.eos_disk.specs.Shapes.{HasListing, IsListed, AreListed, AreKnown, segment_of}
use Rattle.eos_disk.specs.Written.{below, IsEmptyAt, places_of, all_places, HoldsJust, IsThere, has_slash, HasListings}
use Rattle.eos_disk.proofs.JustWritten.{just_written}
use Rattle.eos_disk.proofs.PaddedNames.{FileName, log_file, log_name, log_name_back, log_name_plain}
use Rattle.eos_disk.proofs.FolderNames.{ends_of, folder_name, legal_named, one_last, one_partition}

-- ---- what is at a path

folder_known : (e : Entry) → IsFolder e → IsKnown e → (names : List (List ℕ)) × (e ≡ Folder names)
folder_known Unknown h k = absurd k
folder_known Absent h k = absurd h
folder_known (File bytes) h k = absurd h
folder_known (Folder names) h k = (names, refl)

file_there : (e : Entry) (bytes : List ℕ) → HasBytes e bytes → IsKnown e → IsThere e
file_there Unknown bytes h k = absurd k
file_there Absent bytes h k = absurd h
file_there (File own) bytes h k = tt
file_there (Folder names) bytes h k = absurd h

not_absent : (e : Entry) → IsThere e → MayBeAbsent e → ⊥
not_absent Unknown h i = h
not_absent Absent h i = h
not_absent (File bytes) h i = i
not_absent (Folder names) h i = i

has_or_not : (xs : List (List ℕ)) (q : List ℕ) → Has xs q ⊎ (Has xs q → ⊥)
has_or_not [] q = inr (λ h. h)
has_or_not (x ∷ xs) q = by_path (Has (x ∷ xs) q ⊎ (Has (x ∷ xs) q → ⊥)) x q
    (λ (e : x ≡ q). inl (inl e))
    (λ (n : x ≢ q). elim (has_or_not xs q) [
      | inl h ↦ inl (inr h)
      | inr none ↦ inr (λ k. elim k [ inl e ↦ n e | inr h ↦ none h ])
    ])

-- ---- paths

-- a name in a partition's folder, seen from the folder above
in_folder : (folder : List ℕ) (e : End) (name : List ℕ) → below (path_of_end folder e) name ≡ below folder (folder_name e.topic e.partition ++ (47 ∷ name))
in_folder folder e name = append_assoc folder (47 ∷ folder_name e.topic e.partition) (47 ∷ name)

no_slash_before : (c : ℕ) (xs : List ℕ) → [] ≡ (c ∷ xs) → ⊥
no_slash_before c xs e = cc e

-- it is no name right in the folder above
deeper : (folder : List ℕ) (e : End) (name other : List ℕ) → has_slash name ≡ false → has_slash other ≡ false → below folder other ≡ below (path_of_end folder e) name → ⊥
deeper folder e name other p q same =
    let rest : 47 ∷ other ≡ (47 ∷ folder_name e.topic e.partition) ++ (47 ∷ name) = append_cancel_left folder _ _ (same ∙ in_folder folder e name) in
    no_slash_before 47 (folder_name e.topic e.partition) ((one_last [] (47 ∷ folder_name e.topic e.partition) other name q p rest).0)

cons_tail : (xs ys : List ℕ) → (47 ∷ xs) ≡ (47 ∷ ys) → xs ≡ ys
cons_tail xs ys e = cc e

first_is : (t u : List ℕ) (n m : ℤ) → (let o : Option (List ℕ × ℤ) = Some (t, n) in o ≡ Some (u, m)) → t ≡ u
first_is t u n m e = ap (λ (o : Option (List ℕ × ℤ)). (unwrap_or o (t, n)).0) e

second_is : (t u : List ℕ) (n m : ℤ) → (let o : Option (List ℕ × ℤ) = Some (t, n) in o ≡ Some (u, m)) → n ≡ m
second_is t u n m e = ap (λ (o : Option (List ℕ × ℤ)). (unwrap_or o (t, n)).1) e

-- ---- a segment and its partition

own_topic : (e : End) (s : Segment) → IsOwn e s → s.topic ≡ e.topic
own_topic e s own = (bytes_eq-Decides s.topic e.topic).0 (first_so (bytes_eq s.topic e.topic) (int_eq s.partition e.partition) own.named)

own_partition : (e : End) (s : Segment) → IsOwn e s → s.partition ≡ e.partition
own_partition e s own = (Decides-int_eq s.partition e.partition).0 (second_so (bytes_eq s.topic e.topic) (int_eq s.partition e.partition) own.named)

-- the path of a partition's log
own_path : (folder : List ℕ) (e : End) (s : Segment) → IsOwn e s → segment_path folder s Log ≡ below (path_of_end folder e) (log_name s.base)
own_path folder e s own =
    let topic = own_topic e s own in
    let number = own_partition e s own in
    λ i. below (folder ++ (47 ∷ folder_name (topic i) (number i))) (log_name s.base)

small_base : (b : ℤ) → pos 0 ≤ℤ b → b <ℤ pos (2 ^ 63) → (n : ℕ) × (b ≡ pos n) × (n < 2 ^ 63)
small_base (pos n) low high = (n, refl, grind (arith, ints, high))
small_base (negsuc n) low high = absurd (grind (arith, ints, low))

base_name_back : (e : End) (s : Segment) → IsOwn e s → file_in_name (log_name s.base) ≡ Some (log_file s.base)
base_name_back e s own =
    let small = small_base s.base own.base own.width in
    subst (λ (b : ℤ). file_in_name (log_name b) ≡ Some (log_file b)) (sym small.1) (log_name_back small.0 small.2)

base_name_plain : (e : End) (s : Segment) → IsOwn e s → has_slash (log_name s.base) ≡ false
base_name_plain e s own =
    let small = small_base s.base own.base own.width in
    subst (λ (b : ℤ). has_slash (log_name b) ≡ false) (sym small.1) (log_name_plain small.0 small.2)

at : {X : Type 0} (P : X → Type 0) (xs : List X) (x : X) → AllByRecursion P xs → Has xs x → P x
at P [] x h k = absurd k
at P (y ∷ ys) x h (inl e) = subst P e h.0
at P (y ∷ ys) x h (inr k) = at P ys x h.1 k

-- ---- evidence that is a disk's

pub record IsKept (holds : List ℕ → Entry) (folder : List ℕ) (e : EvidenceParts) : Type 0 where
  pub is : IsEvidence e
  pub just : HoldsJust holds folder e
  pub known : AreKnown holds folder
  pub lists : HasListings holds

each_legal : (ps : List Partition) (p : Partition) → list_all is_legal_end (ends_of ps) ≡ true → Has ps p → is_legal_end p.end ≡ true
each_legal [] p l h = absurd h
each_legal (q ∷ ps) p l (inl same) = subst (λ (r : Partition). is_legal_end r.end ≡ true) same (first_so (is_legal_end q.end) (list_all is_legal_end (ends_of ps)) l)
each_legal (q ∷ ps) p l (inr h) = each_legal ps p (second_so (is_legal_end q.end) (list_all is_legal_end (ends_of ps)) l) h

legal_at : (e : EvidenceParts) (p : Partition) → IsEvidence e → Has e.partitions p → is_legal_end p.end ≡ true
legal_at e p is h =
    let all : list_all is_legal_end (ends_of e.partitions) ≡ true = ap (list_all is_legal_end) is.ends ∙ (passed_tests e.spec is.accepted).ends in
    each_legal e.partitions p all h

rising_ends : (e : EvidenceParts) → IsEvidence e → IsStrictlySortedBy end_cmp (ends_of e.partitions)
rising_ends e is = subst (λ (es : List End). IsStrictlySortedBy end_cmp es) (sym is.ends) is.accepted.ascending

-- a log of one partition is in no other's folder
of_segment : (folder : List ℕ) (e : EvidenceParts) (p q : Partition) (s : Segment) (name : List ℕ) → IsEvidence e → Has e.partitions p → Has e.partitions q → Has q.segments s
    → has_slash name ≡ false → segment_path folder s Log ≡ below (path_of_end folder p.end) name → Has p.segments s × (log_name s.base ≡ name)
of_segment folder e p q s name is hp hq hs plain same =
    let own : IsOwn q.end s = at (IsOwn q.end) q.segments s (at IsPartition e.partitions q is.each hq).own hs in
    let rest : (47 ∷ folder_name q.end.topic q.end.partition) ++ (47 ∷ log_name s.base) ≡ (47 ∷ folder_name p.end.topic p.end.partition) ++ (47 ∷ name) =
    append_cancel_left folder _ _ (sym (in_folder folder q.end (log_name s.base)) ∙ (sym (own_path folder q.end s own) ∙ (same ∙ in_folder folder p.end name))) in
    let parts = one_last (47 ∷ folder_name q.end.topic q.end.partition) (47 ∷ folder_name p.end.topic p.end.partition) (log_name s.base) name (base_name_plain q.end s own) plain rest in
    let names : folder_name q.end.topic q.end.partition ≡ folder_name p.end.topic p.end.partition = cons_tail _ _ parts.0 in
    let both = sym (legal_named q.end (legal_at e q is hq)).back ∙ (ap partition_of names ∙ (legal_named p.end (legal_at e p is hp)).back) in
    let topic = first_is q.end.topic p.end.topic q.end.partition p.end.partition both in
    let number = second_is q.end.topic p.end.topic q.end.partition p.end.partition both in
    let partition : q ≡ p = one_partition e.partitions q p (rising_ends e is) hq hp topic number in
    (subst (λ (r : Partition). Has r.segments s) partition hs, parts.1)

-- what stands in a partition's folder is one of its logs
from_there : (holds : List ℕ → Entry) (folder : List ℕ) (e : EvidenceParts) (p : Partition) (name : List ℕ) → IsKept holds folder e → Has e.partitions p → has_slash name ≡ false
    → IsThere (holds (below (path_of_end folder p.end) name)) → (s : Segment) × Has p.segments s × (log_name s.base ≡ name)
from_there holds folder e p name kept hp plain there =
    let q = below (path_of_end folder p.end) name in
    let up = in_folder folder p.end name in
    elim (has_or_not (all_places folder e.partitions) q) [
      | inl h ↦ (
          let from = flat_has (places_of folder) e.partitions q h in
          elim from.2 [
            | inl same ↦ absurd (deeper folder p.end name (folder_name from.0.end.topic from.0.end.partition) plain (legal_named from.0.end (legal_at e from.0 kept.is from.1)).plain same)
            | inr k ↦ (
                let log = map_has (λ s. segment_path folder s Log) from.0.segments q k in
                let is = of_segment folder e p from.0 log.0 name kept.is hp from.1 log.1 plain log.2 in
                (log.0, is.0, is.1)
                )
          ]
          )
      | inr none ↦ absurd (not_absent (holds q) there (subst (λ (r : List ℕ). MayBeAbsent (holds r)) (sym up)
          (kept.just.nothing_else (folder_name p.end.topic p.end.partition ++ (47 ∷ name))
          (λ h. none (subst (λ (r : List ℕ). Has (all_places folder e.partitions) r) (sym up) h))
          (λ same. deeper folder p.end name (codes "evidence.json") plain refl (sym same ∙ sym up))
          (λ same. deeper folder p.end name (codes "evidence.json.new") plain refl (sym (same ∙ append_assoc folder (codes "/evidence.json") (codes ".new")) ∙ sym up)))))
    ]

-- ---- a partition's listing

abbrev files_of : Partition → List FileName
files_of p = map (λ s. log_file s.base) p.segments

above : (s : Segment) (ss : List Segment) → AllByRecursion (λ t. on (λ (x : Segment). x.base) int_cmp s t ≡ Less) ss
    → AllByRecursion (λ f. on (λ (x : FileName). x.base) int_cmp (log_file s.base) f ≡ Less) (map (λ t. log_file t.base) ss)
above s [] h = tt
above s (t ∷ ts) h = (h.0, above s ts h.1)

rising : (ss : List Segment) → IsRising ss → IsStrictlySortedBy (on (λ (f : FileName). f.base) int_cmp) (map (λ s. log_file s.base) ss)
unfolding IsStrictlySortedBy
rising [] up = tt
rising (s ∷ ss) up = (above s ss up.0, rising ss up.1)

file_is : (f g : FileName) → (let o : Option FileName = Some f in o ≡ Some g) → f ≡ g
file_is f g e = cc e

listed : (holds : List ℕ → Entry) (folder : List ℕ) (e : EvidenceParts) (p : Partition) → IsKept holds folder e → Has e.partitions p → IsListed holds folder p.end (files_of p)
listed holds folder e p kept hp =
    let stands = folder_known (holds (path_of_end folder p.end))
    (at (λ (r : Partition). IsFolder (holds (path_of_end folder r.end))) e.partitions p kept.just.folders hp)
    (kept.known (folder_name p.end.topic p.end.partition)) in
    let names = stands.0 in
    let lists = kept.lists (path_of_end folder p.end) names stands.1 in
    let own = at IsPartition e.partitions p kept.is.each hp in
    record {
      names = names;
      stands = subst (λ (x : Entry). HasListing x names) (sym stands.1) refl;
      all = record {
        rises = rising p.segments own.rising;
        members = λ file. (
          λ h.
              let from = map_has (λ (s : Segment). log_file s.base) p.segments file h in
              let mine : IsOwn p.end from.0 = at (IsOwn p.end) p.segments from.0 own.own from.1 in
              let path = own_path folder p.end from.0 mine in
              let bytes = at (HasItsBytes holds folder) (segments_of e.partitions) from.0 kept.just.logs (has_flat (λ (r : Partition). r.segments) e.partitions p from.0 hp from.1) in
              let there = file_there (holds (below (path_of_end folder p.end) (log_name from.0.base))) from.0.bytes
              (subst (λ (q : List ℕ). HasBytes (holds q) from.0.bytes) path bytes)
              (subst (λ (q : List ℕ). IsKnown (holds q)) (sym (in_folder folder p.end (log_name from.0.base))) (kept.known (folder_name p.end.topic p.end.partition ++ (47 ∷ log_name from.0.base)))) in
              (log_name from.0.base, (lists (log_name from.0.base)).1 (base_name_plain p.end from.0 mine, there), base_name_back p.end from.0 mine ∙ ap Some from.2),
          λ said.
              let is = (lists said.0).0 said.1 in
              let from = from_there holds folder e p said.0 kept hp is.0 is.1 in
              let mine : IsOwn p.end from.0 = at (IsOwn p.end) p.segments from.0 own.own from.1 in
              let same : log_file from.0.base ≡ file = file_is (log_file from.0.base) file (sym (base_name_back p.end from.0 mine) ∙ (ap file_in_name from.2 ∙ said.2)) in
              subst (λ (f : FileName). Has (files_of p) f) same (has_map (λ (s : Segment). log_file s.base) p.segments from.0 from.1),
        );
      };
    }

-- ---- all of them

abbrev forms_of : Partition → List Form
forms_of p = map (λ f. f.form) (files_of p)

names_as_files : (e : End) (ss : List Segment) → AllByRecursion (IsOwn e) ss → map name_of ss ≡ map (segment_of e) (map (λ s. log_file s.base) ss)
names_as_files e [] own = refl
names_as_files e (s ∷ ss) own =
    let topic = own_topic e s own.0 in
    let number = own_partition e s own.0 in
    let others = names_as_files e ss own.1 in
    λ i. record { topic = topic i; partition = number i; base = s.base; bytes = [] } ∷ others i

are_listed : (holds : List ℕ → Entry) (folder : List ℕ) (ps : List Partition) → ((p : Partition) → Has ps p → IsListed holds folder p.end (files_of p)) → AllByRecursion IsPartition ps
    → AreListed holds folder (map names_only ps) (flat_map forms_of ps)
are_listed holds folder [] each own = refl
are_listed holds folder (p ∷ ps) each own = (
  files_of p,
  flat_map forms_of ps,
  each p (inl refl),
  names_as_files p.end p.segments own.0.own,
  refl,
  are_listed holds folder ps (λ q h. each q (inr h)) own.1,
)

logs_joined : (xs ys : List Form) → AreAllLogs xs → AreAllLogs ys → AreAllLogs (xs ++ ys)
logs_joined [] ys h k = k
logs_joined (x ∷ xs) ys h k = (h.0, logs_joined xs ys h.1 k)

logs_here : (ss : List Segment) → AreAllLogs (map (λ f. f.form) (map (λ s. log_file s.base) ss))
logs_here [] = tt
logs_here (s ∷ ss) = (refl, logs_here ss)

all_logs : (ps : List Partition) → AreAllLogs (flat_map forms_of ps)
all_logs [] = tt
all_logs (p ∷ ps) = logs_joined (forms_of p) (flat_map forms_of ps) (logs_here p.segments) (all_logs ps)

-- ---- the shape is evidence

shape_ends : (ps : List Partition) → ends_of (map names_only ps) ≡ ends_of ps
shape_ends [] = refl
shape_ends (p ∷ ps) = ap (λ (l : List End). p.end ∷ l) (shape_ends ps)

shape_own : (e : End) (ss : List Segment) → AllByRecursion (IsOwn e) ss → AllByRecursion (IsOwn e) (map name_of ss)
shape_own e [] own = tt
shape_own e (s ∷ ss) own = (record { named = own.0.named; base = own.0.base; width = own.0.width; size = omega arith }, shape_own e ss own.1)

shape_above : (s : Segment) (ss : List Segment) → AllByRecursion (λ t. on (λ (x : Segment). x.base) int_cmp s t ≡ Less) ss
    → AllByRecursion (λ t. on (λ (x : Segment). x.base) int_cmp (name_of s) t ≡ Less) (map name_of ss)
shape_above s [] h = tt
shape_above s (t ∷ ts) h = (h.0, shape_above s ts h.1)

shape_rising : (ss : List Segment) → IsRising ss → IsRising (map name_of ss)
unfolding IsStrictlySortedBy
shape_rising [] up = tt
shape_rising (s ∷ ss) up = (shape_above s ss up.0, shape_rising ss up.1)

shape_each : (ps : List Partition) → AllByRecursion IsPartition ps → AllByRecursion IsPartition (map names_only ps)
shape_each [] each = tt
shape_each (p ∷ ps) each = (record { own = shape_own p.end p.segments each.0.own; rising = shape_rising p.segments each.0.rising }, shape_each ps each.1)

named_segments : (ps : List Partition) → segments_of (map names_only ps) ≡ map name_of (segments_of ps)
named_segments [] = refl
named_segments (p ∷ ps) = ap (λ (l : List Segment). map name_of p.segments ++ l) (named_segments ps) ∙ sym (map-append name_of p.segments (segments_of ps))

shape_is : (e : EvidenceParts) → IsEvidence e → IsEvidence (shape_of e)
shape_is e is = record {
  accepted = is.accepted;
  ends = shape_ends e.partitions ∙ is.ends;
  each = shape_each e.partitions is.each;
  few = subst (λ (n : ℕ). n ≤ 65536) (sym (ap length (named_segments e.partitions) ∙ length-map (segments_of e.partitions) name_of)) is.few;
}

-- ---- the whole

read_back : (holds : List ℕ → Entry) (folder : List ℕ) (e : EvidenceParts) → IsKept holds folder e → IsReadWhole holds folder e
read_back holds folder e kept = record {
  forms = flat_map forms_of e.partitions;
  is = record {
    manifest = kept.just.text;
    stands = kept.just.manifest;
    says = kept.just.says;
    is_evidence = shape_is e kept.is;
    listed = are_listed holds folder e.partitions (λ p h. listed holds folder e p kept h) kept.is.each;
  };
  logs = all_logs e.partitions;
  is_evidence = kept.is;
  bytes = kept.just.logs;
}

pub reads_back : (holds : List ℕ → Entry) (folder : List ℕ) (e : EvidenceParts) → IsEvidence e → HoldsJust holds folder e → AreKnown holds folder → HasListings holds → IsReadWhole holds folder e
reads_back holds folder e is just known lists = read_back holds folder e (record { is = is; just = just; known = known; lists = lists })

pub reads_written : (old new : List ℕ → Entry) (folder : List ℕ) (e : EvidenceParts) → IsEvidence e → IsEmptyAt old folder → IsEvidenceWritten old folder e new → AreKnown new folder → HasListings new → IsReadWhole new folder e
reads_written old new folder e is empty wrote known lists = reads_back new folder e is (just_written old new folder e empty wrote) known lists
