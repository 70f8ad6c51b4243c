-- What each unskipped record of the transaction log shows against those before it. Of these is kept, of each transactional id the
-- least partition, and of each producer id its first transactional id and whether there was another.
use Rattle.std.specs.Prelude.{◌≡◌, ℕ, ℤ, Bool, false, not, ◌||◌, Option, Some, None, List, [], ◌∷◌, ◌++◌, map, fold, if◌then◌else◌, cond, int_lt}
use Rattle.std.specs.List.{flat_map}
use Rattle.std.specs.BTreeMap.{BTreeMap, get}
use Rattle.std.specs.Ordering.{nat_cmp}
use Rattle.std.specs.Cmp.Lexicographic.{slice_cmp}
use Rattle.eos_fold.specs.Parts.{PartLog}
use Rattle.eos_verdict.specs.declared.log_fault.LogFault.{LogFault}
use Rattle.eos_verdict.specs.declared.log_fault.LogFaultKind.TheVariants.{SplitId, SharedProducer}
use Rattle.eos_table.specs.TransactionLog.{Id, same_id, all_steps}
use Rattle.eos_table.specs.steps.LogCandidates.{fault_at, is_of_producer, mark_of, part_faults}
use Rattle.eos_table.specs.declared.mark.Mark.{Mark}
use Rattle.eos_table.specs.declared.doubled.Ids.{Ids}

-- ---- an id in two partitions

abbrev pub lesser_home : Option ℤ → ℤ → ℤ
lesser_home None n = n
lesser_home (Some m) n = if int_lt m n then m else n

abbrev pub next_home : Id → Option ℤ → Mark → Option ℤ
next_home id home t = cond (same_id t.id id) (Some (lesser_home home t.partition)) home

-- the least partition of an id
abbrev pub home_in : List Mark → Id → Option ℤ
home_in before id = fold (next_home id) None before

abbrev pub AreHomes : BTreeMap Id ℤ → List Mark → Type 0
AreHomes homes before = (id : Id) → get (slice_cmp nat_cmp) homes id ≡ home_in before id

abbrev pub split_at : Mark → Option ℤ → List LogFault
split_at t None = []
split_at t (Some home) = if int_lt home t.partition then fault_at t.partition t.offset (SplitId t.id) ∷ [] else []

-- ---- two ids of one producer id

abbrev pub with_id : Option Ids → Id → Ids
with_id None id = record { first = id; is_shared = false }
with_id (Some ids) id = record { first = ids.first; is_shared = ids.is_shared || not (same_id ids.first id) }

abbrev pub next_ids : ℕ → Option Ids → Mark → Option Ids
next_ids p ids t = cond (is_of_producer p t.producer) (Some (with_id ids t.id)) ids

-- the ids of a producer id
abbrev pub ids_in : List Mark → ℕ → Option Ids
ids_in before p = fold (next_ids p) None before

abbrev pub AreIds : BTreeMap ℕ Ids → List Mark → Type 0
AreIds ids before = (p : ℕ) → get nat_cmp ids p ≡ ids_in before p

abbrev pub shared_if : Mark → Bool → List LogFault
shared_if t is_shared = if is_shared then fault_at t.partition t.offset (SharedProducer t.id) ∷ [] else []

abbrev pub shared_at : List Mark → Mark → Option ℕ → List LogFault
shared_at before t None = []
shared_at before t (Some p) = shared_if t (with_id (ids_in before p) t.id).is_shared

-- ---- all that is gathered

abbrev pub doubled_at : List Mark → Mark → List LogFault
doubled_at before t = split_at t (home_in before t.id) ++ shared_at before t t.producer

abbrev pub doubled_after : List Mark → List Mark → List LogFault
doubled_after before [] = []
doubled_after before (t ∷ ts) = doubled_at before t ++ doubled_after (before ++ t ∷ []) ts

abbrev pub gathered : List PartLog → List LogFault
gathered log = flat_map part_faults log ++ doubled_after [] (map mark_of (all_steps log))
