-- What is told of partitions by threads, each of a share of them.
use Rattle.std.proofs.Common.{◌≡◌, ◌⊎◌, ℕ, zero, suc, ◌+◌, ◌≤◌, ◌<◌, List, [], ◌∷◌, ◌++◌, length, map, take, drop, get_or, Result, Ok, Err, inl, inr, refl, sym, ap, subst, ◌∙◌, arith}
use Rattle.std.specs.List.{AllByRecursion}
use Rattle.std.proofs.lemmas.List.{length-append, length-map, length-take-le, take_all, take-append-drop, append-nil, append_assoc}
use Rattle.eos_evidence.specs.declared.application.App.{App}
use Rattle.eos_evidence.specs.declared.ends.End.{End}
use Rattle.eos_evidence.specs.declared.partition.Partition.{Partition}
use Rattle.eos_evidence.specs.declared.segment.Segment.{Segment}
use Rattle.eos_evidence.specs.SpecFields.{SpecFields}
use Rattle.eos_evidence.specs.Evidence.{EvidenceParts, IsEvidence, IsPartition, segments_of}
use Rattle.eos_kept.specs.declared.kept_run.KeptRun.{KeptRun}
use Rattle.eos_kept.specs.declared.part.Told.{Told}
use Rattle.eos_kept.specs.Parts.{IsTold}
use Rattle.eos_reading.specs.Wanted.{wanted_of}
use Rattle.eos_source.specs.declared.logs.KeptLogs.{KeptLogs}
use Rattle.eos_source.specs.Logs.{AreTold, AreColumns, AreLogsKept, AreKeptLogs}
use Rattle.eos_source.specs.Said.{Said, Known}
use Rattle.eos_source.specs.Shapes.{ArePartitions, IsOfShape}
use Rattle.eos_source.specs.steps.Partitions.{IsToldOf, AreEachToldOf, AreHalves}
use Rattle.eos_source.specs.steps.Runs.{AreFrom, AreSlotsOf, IsFirstRefused, ArePassed}
use Rattle.eos_source.proofs.PiecesJoined.{from_both, from_none}
use Rattle.eos_source.proofs.PartitionsTold.{Here, segments_left, pieces_taken}
use Rattle.eos_source.proofs.ShapesFilled.{evidence_is}
use Rattle.eos_source.proofs.SlotsRefused.{none_passed, both_passed, passed_refused}

-- ---- the pieces of partitions

pub segments_both : (xs ys : List Partition) → segments_of (xs ++ ys) ≡ segments_of xs ++ segments_of ys
segments_both [] ys = refl
segments_both (x ∷ xs) ys = ap (λ (ss : List Segment). x.segments ++ ss) (segments_both xs ys) ∙ sym (append_assoc x.segments (segments_of xs) (segments_of ys))

pub count_both : (xs ys : List Partition) → length (segments_of (xs ++ ys)) ≡ length (segments_of xs) + length (segments_of ys)
count_both xs ys = ap (λ (ss : List Segment). length ss) (segments_both xs ys) ∙ length-append (segments_of xs) (segments_of ys)

pub taken_within : (shapes : List Partition) (n : ℕ) → length (segments_of (take n shapes)) ≤ length (segments_of shapes)
taken_within shapes n =
    let whole : length (segments_of (take n shapes ++ drop n shapes)) ≡ length (segments_of shapes) = ap (λ (ps : List Partition). length (segments_of ps)) (take-append-drop n shapes) in
    omega (arith, whole, count_both (take n shapes) (drop n shapes))

pub partition_at : (shapes : List Partition) (i : ℕ) (shape : Partition) → i < length shapes → shape ≡ get_or shapes i shape → AllByRecursion IsPartition shapes → IsPartition shape
partition_at [] i shape lt e h = absurd (omega (arith, lt))
partition_at (x ∷ xs) zero shape lt e h = subst IsPartition (sym e) h.0
partition_at (x ∷ xs) (suc i) shape lt e h = partition_at xs i shape (omega (arith, lt)) e h.1

all_front : (xs ys : List Partition) → AllByRecursion IsPartition (xs ++ ys) → AllByRecursion IsPartition xs
all_front [] ys h = tt
all_front (x ∷ xs) ys h = (h.0, all_front xs ys h.1)

all_back : (xs ys : List Partition) → AllByRecursion IsPartition (xs ++ ys) → AllByRecursion IsPartition ys
all_back [] ys h = h
all_back (x ∷ xs) ys h = all_back xs ys h.1

-- ---- what is told of each

module _ (known : ℕ → Known) (said : ℕ → Said) (apps : List App) where
  pub each_both : (piece : ℕ) (xs ys : List Partition) (ts us : List Told) → AreEachToldOf known said apps piece xs ts → AreEachToldOf known said apps (piece + length (segments_of xs)) ys us
      → AreEachToldOf known said apps piece (xs ++ ys) (ts ++ us)
  each_both piece [] ys [] us h k = let z : piece + 0 ≡ piece = omega arith in subst (λ (n : ℕ). AreEachToldOf known said apps n ys us) z k
  each_both piece [] ys (t ∷ ts) us h k = absurd h
  each_both piece (x ∷ xs) ys [] us h k = absurd h
  each_both piece (x ∷ xs) ys (t ∷ ts) us h k =
      let z : piece + length (segments_of (x ∷ xs)) ≡ (piece + length x.segments) + length (segments_of xs) = omega (arith, length-append x.segments (segments_of xs)) in
      (h.0, each_both (piece + length x.segments) xs ys ts us h.1 (subst (λ (n : ℕ). AreEachToldOf known said apps n ys us) z k))

  pub each_last : (piece : ℕ) (xs : List Partition) (shape : Partition) (ts : List Told) (t : Told) → AreEachToldOf known said apps piece xs ts → IsToldOf known said apps (piece + length (segments_of xs)) shape t
      → AreEachToldOf known said apps piece (xs ++ shape ∷ []) (ts ++ t ∷ [])
  each_last piece xs shape ts t h k = each_both piece xs (shape ∷ []) ts (t ∷ []) h (k, tt)

  each_known : (piece : ℕ) (shapes : List Partition) (ts : List Told) → AreEachToldOf known said apps piece shapes ts → AreFrom known said piece (length (segments_of shapes))
  each_known piece [] [] h = from_none known said piece
  each_known piece [] (t ∷ ts) h = absurd h
  each_known piece (x ∷ xs) [] h = absurd h
  each_known piece (x ∷ xs) (t ∷ ts) h =
      subst (AreFrom known said piece) (sym (length-append x.segments (segments_of xs)))
      (from_both known said piece (length x.segments) (length (segments_of xs)) h.0.as_known (each_known (piece + length x.segments) xs ts h.1))

  each_told : (piece : ℕ) (shapes : List Partition) (ts : List Told) → AreEachToldOf known said apps piece shapes ts → (ps : List Partition) → ArePartitions said piece shapes ps → AreTold apps ps ts
  each_told piece [] [] h [] k = tt
  each_told piece [] [] h (p ∷ ps) k = absurd k
  each_told piece [] (t ∷ ts) h ps k = absurd h
  each_told piece (x ∷ xs) [] h ps k = absurd h
  each_told piece (x ∷ xs) (t ∷ ts) h [] k = absurd k
  each_told piece (x ∷ xs) (t ∷ ts) h (p ∷ ps) k = (
    subst (λ (e : End). IsTold (wanted_of apps e.topic) e p.segments t) (sym k.0) (h.0.is p.segments k.1),
    each_told (piece + length x.segments) xs ts h.1 ps k.2,
  )

-- the spec of an evidence is that of its shape
kept_of : (logs : KeptLogs) (shape evidence : EvidenceParts) (said : ℕ → Said) (told : List Told) → IsEvidence shape → AreColumns told logs
    → ((partitions : List Partition) → ArePartitions said 0 shape.partitions partitions → AreTold shape.spec.apps partitions told) → IsOfShape said shape evidence → AreLogsKept logs evidence
kept_of logs shape evidence said told e columns each h =
    record {
      is_evidence = evidence_is said shape evidence e h;
      told = told;
      each = subst (λ (s : SpecFields). AreTold s.apps evidence.partitions told) (sym h.spec) (each evidence.partitions h.partitions);
      columns = columns;
    }

pub kept_logs : (known : ℕ → Known) (said : ℕ → Said) (shape : EvidenceParts) (told : List Told) (logs : KeptLogs) → IsEvidence shape → AreEachToldOf known said shape.spec.apps 0 shape.partitions told
    → AreColumns told logs → AreKeptLogs known shape logs
kept_logs known said shape told logs e h columns =
    let k = each_known known said shape.spec.apps 0 shape.partitions told h in
    record {
      said = said;
      as_known = λ piece lt. k piece (omega arith) (omega (arith, lt));
      holds = λ evidence of. kept_of logs shape evidence said told e columns (λ ps pieces. each_told known said shape.spec.apps 0 shape.partitions told h ps pieces) of;
    }

-- ---- the slots of a part of the partitions

module _ {F : Type 0} where
  pub enough_slots : (known : ℕ → Known) (said : ℕ → Said) (topics : List (List ℕ)) (apps : List App) (piece : ℕ) (names : List Segment) (slots : List (Result KeptRun F))
      → AreSlotsOf known said topics apps piece names slots → length names ≤ length slots
  enough_slots known said topics apps piece [] slots h = omega arith
  enough_slots known said topics apps piece (n ∷ ns) [] h = absurd h
  enough_slots known said topics apps piece (n ∷ ns) (s ∷ ss) h = omega (arith, enough_slots known said topics apps (suc piece) ns ss h.1)

  front_slots : (known : ℕ → Known) (said : ℕ → Said) (topics : List (List ℕ)) (apps : List App) (piece : ℕ) (xs ys : List Segment) (slots : List (Result KeptRun F))
      → AreSlotsOf known said topics apps piece (xs ++ ys) slots → AreSlotsOf known said topics apps piece xs (take (length xs) slots)
  front_slots known said topics apps piece [] ys slots h = tt
  front_slots known said topics apps piece (x ∷ xs) ys [] h = absurd h
  front_slots known said topics apps piece (x ∷ xs) ys (s ∷ ss) h = (h.0, front_slots known said topics apps (suc piece) xs ys ss h.1)

  back_slots : (known : ℕ → Known) (said : ℕ → Said) (topics : List (List ℕ)) (apps : List App) (piece : ℕ) (xs ys : List Segment) (slots : List (Result KeptRun F))
      → AreSlotsOf known said topics apps piece (xs ++ ys) slots → AreSlotsOf known said topics apps (piece + length xs) ys (drop (length xs) slots)
  back_slots known said topics apps piece [] ys slots h = let z : piece ≡ piece + 0 = omega arith in subst (λ (n : ℕ). AreSlotsOf known said topics apps n ys slots) z h
  back_slots known said topics apps piece (x ∷ xs) ys [] h = absurd h
  back_slots known said topics apps piece (x ∷ xs) ys (s ∷ ss) h =
      let z : suc piece + length xs ≡ piece + suc (length xs) = omega arith in
      subst (λ (n : ℕ). AreSlotsOf known said topics apps n ys (drop (length xs) ss)) z (back_slots known said topics apps (suc piece) xs ys ss h.1)

  -- ---- both halves

  module _ (known : ℕ → Known) (topics : List (List ℕ)) (apps : List App) (shapes : List Partition) (slots : List (Result KeptRun F)) (front : List Partition) (fronts : List (Result KeptRun F)) (back : List Partition) (backs : List (Result KeptRun F))
      (h : AreHalves shapes slots front fronts back backs) where
    of_both : (said : ℕ → Said) (piece : ℕ) → AreSlotsOf known said topics apps piece (segments_of shapes) slots → AreSlotsOf known said topics apps piece (segments_of front ++ segments_of back) slots
    of_both said piece k = subst (λ (ns : List Segment). AreSlotsOf known said topics apps piece ns slots) (ap segments_of h.both ∙ segments_both front back) k

    pub first_half : (said : ℕ → Said) (piece : ℕ) → AreSlotsOf known said topics apps piece (segments_of shapes) slots → AreSlotsOf known said topics apps piece (segments_of front) fronts
    first_half said piece k = subst (λ (ss : List (Result KeptRun F)). AreSlotsOf known said topics apps piece (segments_of front) ss) (sym h.first)
        (front_slots known said topics apps piece (segments_of front) (segments_of back) slots (of_both said piece k))

    pub second_half : (said : ℕ → Said) (piece : ℕ) → AreSlotsOf known said topics apps piece (segments_of shapes) slots → AreSlotsOf known said topics apps (piece + length (segments_of front)) (segments_of back) backs
    second_half said piece k = subst (λ (ss : List (Result KeptRun F)). AreSlotsOf known said topics apps (piece + length (segments_of front)) (segments_of back) ss) (sym h.second)
        (back_slots known said topics apps piece (segments_of front) (segments_of back) slots (of_both said piece k))

    pub first_shapes : AllByRecursion IsPartition shapes → AllByRecursion IsPartition front
    first_shapes all = all_front front back (subst (AllByRecursion IsPartition) h.both all)

    pub second_shapes : AllByRecursion IsPartition shapes → AllByRecursion IsPartition back
    second_shapes all = all_back front back (subst (AllByRecursion IsPartition) h.both all)

    -- there are slots enough for the first half
    pub first_within : length (segments_of shapes) ≤ length slots → length (segments_of front) ≤ length slots
    first_within le = omega (arith, le, ap (λ (ps : List Partition). length (segments_of ps)) h.both, count_both front back)

    slots_are : slots ≡ fronts ++ backs
    slots_are = sym (take-append-drop (length (segments_of front)) slots) ∙ (ap (λ (ss : List (Result KeptRun F)). ss ++ drop (length (segments_of front)) slots) (sym h.first) ∙ ap (λ (ss : List (Result KeptRun F)). fronts ++ ss) (sym h.second))

    -- where the first half was passed, it was so many slots
    first_passed : length (segments_of front) ≤ length slots → (rest : List (Result KeptRun F)) → ArePassed (length (segments_of front)) fronts rest → ArePassed (length (segments_of front)) slots backs
    first_passed le rest p =
        let len : length fronts ≡ length (segments_of front) = ap (λ (ss : List (Result KeptRun F)). length ss) h.first ∙ length-take-le (length (segments_of front)) slots le in
        let none : length rest ≡ 0 = omega (arith, len, p.1, ap (λ (ss : List (Result KeptRun F)). length ss) p.2, length-append (map Ok p.0) rest, length-map {B = Result KeptRun F} p.0 Ok) in
        (p.0, p.1, slots_are ∙ ap (λ (ss : List (Result KeptRun F)). ss ++ backs) (p.2 ∙ (ap (λ (ss : List (Result KeptRun F)). map Ok p.0 ++ ss) (no_more rest none) ∙ append-nil (map Ok p.0))))
      where
        no_more : (ss : List (Result KeptRun F)) → length ss ≡ 0 → ss ≡ []
        no_more [] e = refl
        no_more (s ∷ ss) e = absurd (omega (arith, e))

    refused_in_first : (xs ys : List (Result KeptRun F)) (why : F) → IsFirstRefused xs why → IsFirstRefused (xs ++ ys) why
    refused_in_first [] ys why r = absurd r
    refused_in_first (Ok run ∷ xs) ys why r = refused_in_first xs ys why r
    refused_in_first (Err fault ∷ xs) ys why r = r

    -- the first half is refused
    pub by_first : (Memory : Type 0) (why : F) → IsFirstRefused fronts why ⊎ Memory → IsFirstRefused slots why ⊎ Memory
    by_first Memory why (inl r) = inl (subst (λ (ss : List (Result KeptRun F)). IsFirstRefused ss why) (sym slots_are) (refused_in_first fronts backs why r))
    by_first Memory why (inr m) = inr m

    -- the first half is told, and the second is refused
    pub by_second : length (segments_of front) ≤ length slots → (rest : List (Result KeptRun F)) → ArePassed (length (segments_of front)) fronts rest → (Memory : Type 0) (why : F)
        → IsFirstRefused backs why ⊎ Memory → IsFirstRefused slots why ⊎ Memory
    by_second le rest p Memory why (inl r) = inl (passed_refused (length (segments_of front)) slots backs why (first_passed le rest p) r)
    by_second le rest p Memory why (inr m) = inr m

    -- both are told
    pub both_told : length (segments_of front) ≤ length slots → (rest after : List (Result KeptRun F)) → ArePassed (length (segments_of front)) fronts rest → ArePassed (length (segments_of back)) backs after
        → ArePassed (length (segments_of shapes)) slots after
    both_told le rest after p q =
        subst (λ (n : ℕ). ArePassed n slots after) (sym (ap (λ (ps : List Partition). length (segments_of ps)) h.both ∙ count_both front back))
        (both_passed (length (segments_of front)) (length (segments_of back)) slots backs after (first_passed le rest p) q)

    pub all_told : (said : ℕ → Said) (piece : ℕ) (ts us all : List Told) → all ≡ ts ++ us
        → ((said : ℕ → Said) (piece : ℕ) → AreSlotsOf known said topics apps piece (segments_of front) fronts → AreEachToldOf known said apps piece front ts)
        → ((said : ℕ → Said) (piece : ℕ) → AreSlotsOf known said topics apps piece (segments_of back) backs → AreEachToldOf known said apps piece back us)
        → AreSlotsOf known said topics apps piece (segments_of shapes) slots → AreEachToldOf known said apps piece shapes all
    all_told said piece ts us all e first second k =
        let each = each_both known said apps piece front back ts us (first said piece (first_half said piece k)) (second said (piece + length (segments_of front)) (second_half said piece k)) in
        subst (λ (ps : List Partition). AreEachToldOf known said apps piece ps all) (sym h.both) (subst (λ (vs : List Told). AreEachToldOf known said apps piece (front ++ back) vs) (sym e) each)

  -- ---- one after the other

  module _ (known : ℕ → Known) (topics : List (List ℕ)) (apps : List App) (shapes : List Partition) (old : List (Result KeptRun F)) where
    -- so many partitions are told, and these slots are left
    abbrev pub ToldSoFar : ℕ → List Told → List (Result KeptRun F) → Type 0
    ToldSoFar i told new =
        ((said : ℕ → Said) (piece : ℕ) → AreSlotsOf known said topics apps piece (segments_of shapes) old
        → AreEachToldOf known said apps piece (take i shapes) told × AreSlotsOf known said topics apps (piece + length (segments_of (take i shapes))) (segments_of (drop i shapes)) new)
        × ArePassed (length (segments_of (take i shapes))) old new

    pub none_so_far : (told : List Told) (new : List (Result KeptRun F)) → told ≡ [] → new ≡ old → ToldSoFar 0 told new
    none_so_far told new e same = (
      λ said piece k.
          let z : piece ≡ piece + 0 = omega arith in (
            subst (AreEachToldOf known said apps piece []) (sym e) tt,
            subst (λ (n : ℕ). AreSlotsOf known said topics apps n (segments_of shapes) new) z (subst (λ (ss : List (Result KeptRun F)). AreSlotsOf known said topics apps piece (segments_of shapes) ss) (sym same) k),
          ),
      subst (λ (ss : List (Result KeptRun F)). ArePassed 0 old ss) (sym same) (none_passed old),
    )

    -- the slots of the next one
    pub slots_next : (i : ℕ) (shape : Partition) (told : List Told) (new : List (Result KeptRun F)) → Here shapes i shape → ToldSoFar i told new
        → (said : ℕ → Said) (piece : ℕ) → AreSlotsOf known said topics apps piece (segments_of shapes) old
        → AreSlotsOf known said topics apps (piece + length (segments_of (take i shapes))) (shape.segments ++ segments_of (drop (i + 1) shapes)) new
    slots_next i shape told new at h said piece k =
        subst (λ (ns : List Segment). AreSlotsOf known said topics apps (piece + length (segments_of (take i shapes))) ns new) (segments_left shapes i shape at) (h.0 said piece k).1

    pub one_so_far : (i : ℕ) (shape : Partition) (told all : List Told) (t : Told) (new rest : List (Result KeptRun F)) → Here shapes i shape → ToldSoFar i told new → all ≡ told ++ t ∷ []
        → ((said : ℕ → Said) (piece : ℕ) (later : List Segment) → AreSlotsOf known said topics apps piece (shape.segments ++ later) new
        → IsToldOf known said apps piece shape t × AreSlotsOf known said topics apps (piece + length shape.segments) later rest)
        → ArePassed (length shape.segments) new rest → ToldSoFar (i + 1) all rest
    one_so_far i shape told all t new rest at h e next passed =
        let count = pieces_taken shapes i shape at in (
          λ said piece k.
              let here = piece + length (segments_of (take i shapes)) in
              let n = next said here (segments_of (drop (i + 1) shapes)) (slots_next i shape told new at h said piece k) in
              let last = each_last known said apps piece (take i shapes) shape told t (h.0 said piece k).0 n.0 in
              let z : here + length shape.segments ≡ piece + length (segments_of (take (i + 1) shapes)) = omega (arith, count) in (
                subst (λ (ps : List Partition). AreEachToldOf known said apps piece ps all) (sym at.taken) (subst (AreEachToldOf known said apps piece (take i shapes ++ shape ∷ [])) (sym e) last),
                subst (λ (m : ℕ). AreSlotsOf known said topics apps m (segments_of (drop (i + 1) shapes)) rest) z n.1,
              ),
          subst (λ (m : ℕ). ArePassed m old rest) (sym count) (both_passed (length (segments_of (take i shapes))) (length shape.segments) old new rest h.1 passed),
        )

    pub told_so_far : (i : ℕ) (told : List Told) (new : List (Result KeptRun F)) → length shapes ≤ i → ToldSoFar i told new
        → (said : ℕ → Said) (piece : ℕ) → AreSlotsOf known said topics apps piece (segments_of shapes) old → AreEachToldOf known said apps piece shapes told
    told_so_far i told new le h said piece k = subst (λ (ps : List Partition). AreEachToldOf known said apps piece ps told) (take_all i shapes le) (h.0 said piece k).0

    pub passed_so_far : (i : ℕ) (told : List Told) (new : List (Result KeptRun F)) → length shapes ≤ i → ToldSoFar i told new → ArePassed (length (segments_of shapes)) old new
    passed_so_far i told new le h = subst (λ (ps : List Partition). ArePassed (length (segments_of ps)) old new) (take_all i shapes le) h.1
