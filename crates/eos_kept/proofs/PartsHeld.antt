-- A partition that is held in memory, made of what is kept of its segments, one after the other.
use Rattle.std.proofs.Common.{◌≡◌, ℕ, ℤ, ◌+◌, ◌<◌, ◌≤◌, ◌^◌, not, List, [], ◌∷◌, ◌++◌, take, length, get_or, Option, Some, None, Result, Ok, Err, sym, ap, subst, ◌∙◌}
use Rattle.std.specs.Prelude.{All, IfOk, bytes_eq}
use Rattle.std.specs.List.{AllByRecursion}
use Rattle.std.specs.Ordering.{int_eq}
use Rattle.std.proofs.lemmas.List.{take_more}
use Rattle.std.proofs.lemmas.Bool.{and_parts}
use Rattle.std.proofs.lemmas.Bool.Decides.{Decides-int_eq}
use Rattle.std.proofs.lemmas.Slice.Eq.{bytes_eq-Decides}
use Rattle.std.proofs.lemmas.List.Elements.{All-nil, All-cons}
use Rattle.eos_batch.specs.declared.record.Record.{Record}
use Rattle.eos_evidence.specs.declared.ends.End.{End}
use Rattle.eos_evidence.specs.declared.partition.Partition.{Partition}
use Rattle.eos_evidence.specs.declared.segment.Segment.{Segment}
use Rattle.eos_evidence.specs.Evidence.{IsOwn, IsPartition}
use Rattle.eos_evidence.specs.Topics.{is_internal}
use Rattle.eos_fold.specs.Standing.{AreOf}
use Rattle.eos_reading.specs.declared.wanted.Wanted.{Wanted}
use Rattle.eos_kept.specs.declared.kept_run.KeptRun.{KeptRun}
use Rattle.eos_kept.specs.declared.kept_run.KeptRun.TheVariants.{Presence, Claims, Texts}
use Rattle.eos_kept.specs.declared.part.Told.{Told}
use Rattle.eos_kept.specs.Kept.{KeptView}
use Rattle.eos_kept.specs.KeptRuns.{IsKeptRun, wanted_by, front_of, HasClaims, AreKeptRun}
use Rattle.eos_kept.specs.Held.{Asking, IsHeld, AreHeld}
use Rattle.eos_kept.specs.Parts.{IsTold}
use Rattle.eos_kept.specs.steps.Made.{AreKept, IsMade}

-- ---- what is asked of all segments of a partition

-- what is made of what is kept of segments, of whichever was wanted
pub made_told : {K E : Type 0} (w asked : Wanted) (keep : ℕ → Record → K) (end : End) (topics : List (List ℕ)) (run : Option KeptRun) (view : Option (KeptView K)) (r : Result Told E) → asked ≡ w
    → ((segments : List Segment) → AreKeptRun topics segments run → AreKept keep segments view) → IfOk r (IsMade w keep end view)
    → IfOk r (λ told. (segments : List Segment) → AreKeptRun topics segments run → AreOf end.topic end.partition segments → IsTold asked end segments told)
made_told w asked keep end topics run view (Ok told) e h made = λ segments kept of. subst (λ (x : Wanted). IsTold x end segments told) (sym e) (made segments (h segments kept) of)
made_told w asked keep end topics run view (Err why) e h made = tt

-- ---- the segments of a partition are its own

named_own : (e : End) (ss : List Segment) → AllByRecursion (IsOwn e) ss → AreOf e.topic e.partition ss
named_own e [] h = All-nil (λ s. (s.topic ≡ e.topic) × (s.partition ≡ e.partition))
named_own e (s ∷ ss) h =
    let both = and_parts (bytes_eq s.topic e.topic) (int_eq s.partition e.partition) h.0.named in
    All-cons (λ s. (s.topic ≡ e.topic) × (s.partition ≡ e.partition)) s ss
    ((bytes_eq-Decides s.topic e.topic).0 both.0, (Decides-int_eq s.partition e.partition).0 both.1) (named_own e ss h.1)

pub are_of : (p : Partition) → IsPartition p → AreOf p.end.topic p.end.partition p.segments
are_of p h = named_own p.end p.segments h.own

-- none is larger than a segment may be
small_own : (e : End) (ss : List Segment) → AllByRecursion (IsOwn e) ss → All (λ (s : Segment). length s.bytes ≤ 2 ^ 30) ss
small_own e [] h = All-nil (λ (s : Segment). length s.bytes ≤ 2 ^ 30)
small_own e (s ∷ ss) h = All-cons (λ (s : Segment). length s.bytes ≤ 2 ^ 30) s ss h.0.size (small_own e ss h.1)

pub is_small : (p : Partition) (segments : List Segment) (i : ℕ) (s : Segment) → IsPartition p → segments ≡ p.segments → i < length segments → s ≡ get_or segments i s → length s.bytes ≤ 2 ^ 30
is_small p segments i s h same lt is =
    let small : All (λ (x : Segment). length x.bytes ≤ 2 ^ 30) segments = subst (All (λ (x : Segment). length x.bytes ≤ 2 ^ 30)) (sym same) (small_own p.end p.segments h.own) in
    subst (λ (x : Segment). length x.bytes ≤ 2 ^ 30) (sym is) (small i s lt)

-- ---- one segment

-- whether sequences are checked is known of the first segment
pub checked_so : (topics : List (List ℕ)) (s : Segment) (ss : List Segment) (run : KeptRun) → IsKeptRun topics (s ∷ ss) run → (front_of run).run.sequenced ≡ not (is_internal s.topic)
checked_so topics s ss (Presence kept) k = k.front.sequenced
checked_so topics s ss (Claims kept) k = k.front.sequenced
checked_so topics s ss (Texts kept) k = k.front.sequenced

-- ---- one segment more

pub were_kept : (a : Asking) (segments : List Segment) (run : Option KeptRun) → AreHeld a segments run → AreKeptRun a.topics segments run
were_kept a segments None h = h
were_kept a segments (Some run) h = h.kept

pub joined : (a : Asking) (xs ys : List Segment) (before after both : KeptRun)
    → ((topics : List (List ℕ)) (xs ys : List Segment) → IsKeptRun topics xs before → IsKeptRun topics ys after → IsKeptRun topics (xs ++ ys) both)
    → wanted_by both ≡ wanted_by before → (front_of both).run.sequenced ≡ (front_of before).run.sequenced
    → ((topics : List (List ℕ)) → HasClaims topics before → HasClaims topics after → HasClaims topics both)
    → IsHeld a xs before → IsHeld a ys after → IsHeld a (xs ++ ys) both
joined a xs ys before after both ok w c claims h k =
    record {
      kept = ok a.topics xs ys h.kept k.kept;
      asked = record { wanted = w ∙ h.asked.wanted; claims = claims a.topics h.asked.claims k.asked.claims; checked = c ∙ h.asked.checked };
    }

-- a segment, as it was asked
pub one_held : (a : Asking) (s : Segment) (run : KeptRun) → a.topic ≡ s.topic → wanted_by run ≡ a.wanted → HasClaims a.topics run → IsKeptRun a.topics (s ∷ []) run → IsHeld a (s ∷ []) run
one_held a s run e w claims kept =
    record { kept = kept; asked = record { wanted = w; claims = claims; checked = checked_so a.topics s [] run kept ∙ ap (λ (t : List ℕ). not (is_internal t)) (sym e) } }

-- what is asked of the topic of one of a partition's segments is what is asked of the partition's
pub of_partition : (topics : List (List ℕ)) (w : Wanted) (p : Partition) (segments : List Segment) (i : ℕ) (s : Segment) (run : KeptRun) → IsPartition p → segments ≡ p.segments
    → i < length segments → s ≡ get_or segments i s
    → IsHeld (record { topics = topics; wanted = w; topic = s.topic }) (s ∷ []) run → IsHeld (record { topics = topics; wanted = w; topic = p.end.topic }) (s ∷ []) run
of_partition topics w p segments i s run h same lt is k =
    let own : AreOf p.end.topic p.end.partition segments = subst (AreOf p.end.topic p.end.partition) (sym same) (are_of p h) in
    let e : s.topic ≡ p.end.topic = ap (λ (x : Segment). x.topic) is ∙ (own i s lt).0 in
    subst (λ (t : List ℕ). IsHeld (record { topics = topics; wanted = w; topic = t }) (s ∷ []) run) e k

-- one segment more is kept
pub more_held : (a : Asking) (segments : List Segment) (i : ℕ) (s : Segment) (run : KeptRun) → i < length segments → s ≡ get_or segments i s
    → IsHeld a (take i segments ++ s ∷ []) run → IsHeld a (take (i + 1) segments) run
more_held a segments i s run lt is h =
    subst (λ (xs : List Segment). IsHeld a xs run) (sym (take_more segments i s lt ∙ ap (λ (x : Segment). take i segments ++ x ∷ []) (sym is))) h

-- ---- the partition

pub same_end : (a b : End) → a.topic ≡ b.topic → a.partition ≡ b.partition → a.end ≡ b.end → a ≡ b
same_end a b topic partition end =
    ap (λ (x : List ℕ). record { topic = x; partition = a.partition; end = a.end }) topic
    ∙ (ap (λ (x : ℤ). record { topic = b.topic; partition = x; end = a.end }) partition
    ∙ ap (λ (x : ℤ). record { topic = b.topic; partition = b.partition; end = x }) end)

-- what is told of all segments of which this is kept is told of the partition's
pub all_told : {E : Type 0} (r : Result Told E) (w : Wanted) (topics : List (List ℕ)) (p : Partition) (end : End) (run : Option KeptRun) → IsPartition p → end ≡ p.end
    → AreKeptRun topics p.segments run
    → IfOk r (λ told. (segments : List Segment) → AreKeptRun topics segments run → AreOf end.topic end.partition segments → IsTold w end segments told) → IfOk r (IsTold w p.end p.segments)
all_told (Ok told) w topics p end run h same kept t =
    subst (λ (e : End). IsTold w e p.segments told) same (t p.segments kept (subst (λ (e : End). AreOf e.topic e.partition p.segments) (sym same) (are_of p h)))
all_told (Err e) w topics p end run h same kept t = tt
