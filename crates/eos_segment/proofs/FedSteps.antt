-- A walk that is fed: what stays when further bytes follow, and what it says at the end.
use Rattle.std.proofs.Common.{◌≡◌, ◌≢◌, ℕ, ◌+◌, false, List, [], ◌++◌, length, drop, Option, Some, None, Result, Ok, Err, refl, sym, ap, subst, ◌∙◌, append_assoc, arith, pos}
use Rattle.std.specs.Prelude.{is_some, IfOk, IfErr, MatchResult}
use Rattle.std.proofs.lemmas.List.{append-nil, length-append}
use Rattle.eos_batch.specs.declared.batch.Batch.{Batch}
use Rattle.eos_batch.specs.declared.fault.BatchFault.{BatchFault}
use Rattle.eos_batch.specs.declared.fault.BatchFault.TheVariants as faults
use Rattle.eos_batch.specs.Reading.{batch_at}
use Rattle.eos_batch.specs.Segment.{Splits}
use Rattle.eos_fold.proofs.MoreBytes.{batch_more, batch_none}
use Rattle.eos_fold.proofs.MoreSplits.{splits_more}
use Rattle.eos_touch.specs.declared.fault.PartitionFault.{PartitionFault}
use Rattle.eos_touch.specs.declared.fault.PartitionFaultKind.TheVariants.{BadBatch}
use Rattle.eos_touch.specs.Front.{begin_of, next_offset, IsContinuous, IsNext}
use Rattle.eos_segment.specs.declared.fed.FedWalk.{FedWalk}
use Rattle.eos_segment.specs.declared.one_segment.counts.Chain.{Chain}
use Rattle.eos_segment.specs.declared.chain_walk.Walk.{Walk}
use Rattle.eos_segment.specs.Counts.{IsProducerCount}
use Rattle.eos_segment.specs.ChainFaults.{IsLeastFault}
use Rattle.eos_segment.specs.Good.{IsGood}
use Rattle.eos_segment.specs.steps.Feeding.{IsGoing, IsBroken, EndsAt, IsFed}
use Rattle.eos_segment.specs.steps.Walks.{HasPassed, EachMayFollow, IsLeastAtBatch}
use Rattle.eos_segment.proofs.LeastInSegment.{bad_least, batch_least, none_stands}
use Rattle.eos_segment.proofs.GoodSegment.{good}

-- ---- a fault stays

pub bad_stays : (fed : List ℕ) (before : List Batch) (rest : List ℕ) (batch : BatchFault) (byte : ℕ) (fault : PartitionFault) → Splits fed before rest → IsContinuous before → EachMayFollow [] before
    → batch_at rest ≡ Err batch → batch ≢ faults.Truncated → byte + length rest ≡ length fed
    → fault.topic ≡ [] → fault.partition ≡ pos 0 → fault.offset ≡ next_offset before → fault.kind ≡ BadBatch (begin_of before) byte batch → IsBroken fed fault
bad_stays fed before rest batch byte fault splits on each e ne place topic partition offset kind = λ more.
    let still : batch_at rest ≢ Err faults.Truncated = λ q. ne (let both : Err batch ≡ Err faults.Truncated = sym e ∙ q in cc) in
    let there : batch_at (rest ++ more) ≡ Err batch = batch_more rest more still ∙ e in
    let some : rest ++ more ≢ [] = λ none. ne (let both : Err batch ≡ Err faults.Truncated = sym there ∙ (ap batch_at none ∙ batch_none) in cc) in
    bad_least (fed ++ more) before (rest ++ more) batch byte fault (splits_more fed before rest more splits) on each there some
    (omega (arith, place, length-append rest more, length-append fed more)) topic partition offset kind

pub batch_stays : (fed : List ℕ) (before : List Batch) (rest : List ℕ) (b : Batch) (fault : PartitionFault) → Splits fed before rest → IsContinuous before → EachMayFollow [] before
    → IsNext rest b → IsLeastAtBatch before b fault → IsBroken fed fault
batch_stays fed before rest b fault splits on each n l = λ more.
    batch_least (fed ++ more) before (rest ++ more) b fault (splits_more fed before rest more splits) on each
    (n.0, n.1 ++ more, n.2, ap (λ (xs : List ℕ). xs ++ more) n.3 ∙ append_assoc n.0 n.1 more) l

-- ---- further bytes

pub fed_none : (walk : Walk) → HasPassed [] walk → IsFed [] [] (record { walk = walk; place = 0; fault = None })
fed_none walk h = record {
  ends = record { before = []; passed = h; texts = refl; cut = batch_none };
  place = λ e. refl;
}

pub is_none : (o : Option PartitionFault) → is_some o ≡ false → o ≡ None
is_none None e = refl
is_none (Some f) e = absurd cc

-- the bytes after those that wait
pub fed_on : (fed waiting more buffer : List ℕ) (w : FedWalk) (walk : Walk) (place taken : ℕ) (fault : Option PartitionFault) → buffer ≡ waiting ++ more → is_some w.fault ≡ false → IsFed fed waiting w
    → ((bytes : List ℕ) (before : List Batch) → HasPassed before w.walk → Splits bytes before buffer → w.place + length buffer ≡ length bytes → EndsAt bytes (drop taken buffer) walk fault)
    → place ≡ w.place + taken → taken + length (drop taken buffer) ≡ length buffer → IsFed (fed ++ more) (drop taken buffer) (record { walk = walk; place = place; fault = fault })
fed_on fed waiting more buffer w walk place taken fault is e f passed sum parts =
    let none = is_none w.fault e in
    let going : IsGoing fed waiting w.walk = subst (EndsAt fed waiting w.walk) none f.ends in
    let texts : Splits (fed ++ more) going.before buffer = subst (Splits (fed ++ more) going.before) (sym is) (splits_more fed going.before waiting more going.texts) in
    let all : w.place + length buffer ≡ length (fed ++ more) = omega (arith, f.place none, ap length is, length-append waiting more, length-append fed more) in
    record {
      ends = passed (fed ++ more) going.before going.passed texts all;
      place = λ _. omega (arith, sum, parts, all);
    }

-- ---- the end

pub fed_broken : (bytes rest : List ℕ) (w : FedWalk) (fault : PartitionFault) → IsFed bytes rest w → w.fault ≡ Some fault → IsLeastFault bytes fault
fed_broken bytes rest w fault f e =
    let broken : IsBroken bytes fault = subst (EndsAt bytes rest w.walk) e f.ends in
    subst (λ (xs : List ℕ). IsLeastFault xs fault) (append-nil bytes) (broken [])

pub fed_cut : (bytes rest : List ℕ) (w : FedWalk) (fault : PartitionFault) → IsFed bytes rest w → w.fault ≡ None → rest ≢ []
    → fault.topic ≡ [] → fault.partition ≡ pos 0 → fault.offset ≡ w.walk.next → fault.kind ≡ BadBatch w.walk.begin w.place faults.Truncated → IsLeastFault bytes fault
fed_cut bytes rest w fault f e some topic partition offset kind =
    let going : IsGoing bytes rest w.walk = subst (EndsAt bytes rest w.walk) e f.ends in
    let h = going.passed in
    bad_least bytes going.before rest faults.Truncated w.place fault going.texts h.continuous h.each going.cut some (f.place e)
    topic partition (offset ∙ h.next) (kind ∙ ap (λ (s : ℕ). BadBatch s w.place faults.Truncated) h.begin)

pub fed_good : (bytes rest : List ℕ) (w : FedWalk) (chain : Chain) → IsFed bytes rest w → w.fault ≡ None → rest ≡ []
    → chain.batches ≡ w.walk.batches → ((batches : List Batch) → HasPassed batches w.walk → IsProducerCount batches chain.producers) → IsGood bytes chain
fed_good bytes rest w chain f e none batches producers =
    let going : IsGoing bytes rest w.walk = subst (EndsAt bytes rest w.walk) e f.ends in
    let all = going.before in
    let h = going.passed in
    let splits = subst (λ (xs : List ℕ). Splits bytes all xs) none going.texts in
    record {
      all = all;
      texts = record { texts = splits; continuous = h.continuous };
      batches = batches ∙ h.number;
      producers = producers all h;
      sequenced = λ id. (good id bytes all [] splits h.each).0;
      fenced = λ id. (good id bytes all [] splits h.each).1;
      no_fault = none_stands bytes all splits h.continuous h.each;
    }

-- ---- an answer of which both is said

pub if_ok : {X Y : Type 0} (A : X → Type 0) (B : Y → Type 0) (r : Result X Y) → MatchResult r A B → IfOk r A
if_ok A B (Ok x) m = m
if_ok A B (Err e) m = tt

pub if_err : {X Y : Type 0} (A : X → Type 0) (B : Y → Type 0) (r : Result X Y) → MatchResult r A B → IfErr r B
if_err A B (Ok x) m = tt
if_err A B (Err e) m = m
