-- The order of partitions and of offsets is kept.
use Rattle.std.proofs.Common.{◌≡◌, ◌↔◌, ℕ, ◌<◌, ◌<ℤ◌, List, map, refl, sym, ap}
use Rattle.std.specs.declared.cmp.Ordering.TheVariants.{Less}
use Rattle.eos_base.specs.declared.partition_name.PartitionName.{PartitionName}
use Rattle.eos_base.specs.PartitionNames.{name_cmp}
use Rattle.eos_base.specs.Members.{Has}
use Rattle.eos_evidence.specs.declared.application.App.{App}
use Rattle.eos_fold.specs.declared.item.Item.{Item}
use Rattle.eos_fold.specs.Parts.{part_name, PartLog, Rises}
use Rattle.eos_commits.specs.Faults as commits
use Rattle.eos_table.specs.TransactionLog.{is_transaction_part, transaction_parts}
use Rattle.eos_table.specs.TransactionLog as table
use Rattle.eos_reading.specs.Wanted.{wanted_item, wanted_of, kept_log, wanted_logs}
use Rattle.eos_reading.proofs.SameThrough.{has_same, pairs_same}
use Rattle.eos_check.proofs.SeenSame.{map_seen, filter_seen}
use Rattle.eos_check.proofs.KeptRecords.{offset_kept}

abbrev offset_in : Item → ℕ
offset_in x = x.offset

-- a name and the offsets
abbrev Seen : Type 0
Seen = PartitionName × List ℕ

abbrev seen : PartLog → Seen
seen p = (part_name p, map offset_in p.items)

seen_kept : (apps : List App) (p : PartLog) → seen (kept_log apps p) ≡ seen p
seen_kept apps p = ap (λ (offsets : List ℕ). (part_name p, offsets)) (map_seen (wanted_item (wanted_of apps p.topic)) offset_in (offset_kept (wanted_of apps p.topic)) p.items)

all_seen : (apps : List App) (ps : List PartLog) → map seen (wanted_logs apps ps) ≡ map seen ps
all_seen apps ps = map_seen (kept_log apps) seen (seen_kept apps) ps

log_seen : (apps : List App) (ps : List PartLog) → map seen (transaction_parts (wanted_logs apps ps)) ≡ map seen (transaction_parts ps)
log_seen apps ps = filter_seen (kept_log apps) is_transaction_part seen (λ p. refl) (λ p e. seen_kept apps p) ps

-- ---- two lists of which the same is seen

offsets_rise : (ps qs : List PartLog) → map seen ps ≡ map seen qs → ((p : PartLog) → Has ps p → Rises p.items) → (q : PartLog) → Has qs q → Rises q.items
offsets_rise ps qs same h q has =
    let like = has_same seen qs ps (sym same) q has in
    pairs_same offset_in like.0.items q.items (ap (λ (s : Seen). s.1) like.2) (λ m n. m < n) (h like.0 like.1)

all_in_order : (ps qs : List PartLog) → map seen ps ≡ map seen qs → commits.AreInOrder ps → commits.AreInOrder qs
all_in_order ps qs same h = record {
  names = pairs_same seen ps qs same (λ (s : Seen) (t : Seen). name_cmp s.0 t.0 ≡ Less) h.names;
  offsets = offsets_rise ps qs same h.offsets;
}

log_in_order : (ps qs : List PartLog) → map seen ps ≡ map seen qs → table.AreInOrder ps → table.AreInOrder qs
log_in_order ps qs same h = record {
  numbers = pairs_same seen ps qs same (λ (s : Seen) (t : Seen). s.0.partition <ℤ t.0.partition) h.numbers;
  offsets = offsets_rise ps qs same h.offsets;
}

pub all_kept : (apps : List App) (ps : List PartLog) → commits.AreInOrder (wanted_logs apps ps) ↔ commits.AreInOrder ps
all_kept apps ps = (all_in_order (wanted_logs apps ps) ps (all_seen apps ps), all_in_order ps (wanted_logs apps ps) (sym (all_seen apps ps)))

pub log_kept : (apps : List App) (ps : List PartLog) → table.AreInOrder (transaction_parts (wanted_logs apps ps)) ↔ table.AreInOrder (transaction_parts ps)
log_kept apps ps = (
  log_in_order (transaction_parts (wanted_logs apps ps)) (transaction_parts ps) (log_seen apps ps),
  log_in_order (transaction_parts ps) (transaction_parts (wanted_logs apps ps)) (sym (log_seen apps ps)),
)
