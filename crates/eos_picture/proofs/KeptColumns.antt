-- The transactions of kept logs, and which of them are shown.
use Rattle.std.proofs.Common.{◌≡◌, ◌↔◌, ℕ, ℤ, List, [], ◌∷◌, ◌++◌, map, flat_map, Option, true, refl, sym, ap, ◌∙◌}
use Rattle.eos_base.specs.declared.partition_name.PartitionName.{PartitionName}
use Rattle.eos_base.proofs.Membership.{map_has, has_map}
use Rattle.eos_verdict.specs.declared.verdict.Fault.{Fault}
use Rattle.eos_claims.specs.declared.place.Place.{Place}
use Rattle.eos_evidence.specs.declared.application.App.{App}
use Rattle.eos_fold.specs.declared.item.Item.{Item}
use Rattle.eos_fold.specs.Parts.{PartLog, part_name}
use Rattle.eos_table.specs.TransactionLog.{State, Unskipped, nothing, content_of, next_state, step_at, steps_after, steps_of, all_steps, is_transaction_part, transaction_parts}
use Rattle.eos_picture.specs.declared.mark.Column.{Column}
use Rattle.eos_picture.specs.declared.mark.Picture.{Picture}
use Rattle.eos_picture.specs.Transactions.{column_at, decided_in, undecided_column, AreColumns}
use Rattle.eos_picture.specs.Window.{named_by, IsOnly, IsOfRecordAt, IsWindow}
use Rattle.eos_reading.specs.Wanted.{wanted_item, wanted_of, kept_log, wanted_logs}
use Rattle.eos_reading.specs.declared.wanted.Wanted.TheVariants.{Texts}
use Rattle.eos_picture.proofs.SeenSame.{flat_seen}
use Rattle.eos_picture.proofs.KeptStandings.{shown_kept}
use Rattle.eos_picture.proofs.KeptTexts.{offset_kept, writer_kept, transactions_kept}

-- ---- the transactions

items_kept : (last : State) (n : ℤ) (xs : List Item) → steps_after last n (map (wanted_item Texts) xs) ≡ steps_after last n xs
items_kept last n [] = refl
items_kept last n (x ∷ xs) =
    ap (λ (more : List Unskipped). step_at last n x.offset (content_of x) ++ more) (items_kept (next_state last (content_of x)) n xs)

steps_kept : (apps : List App) (p : PartLog) → is_transaction_part p ≡ true → steps_of (kept_log apps p) ≡ steps_of p
steps_kept apps p e = ap steps_of (transactions_kept apps p e) ∙ items_kept nothing p.number p.items

all_kept : (apps : List App) (ps : List PartLog) → all_steps (transaction_parts (wanted_logs apps ps)) ≡ all_steps (transaction_parts ps)
all_kept apps ps = flat_seen (kept_log apps) is_transaction_part steps_of (λ p. refl) (λ p e. steps_kept apps p e) ps

decided_kept : (apps : List App) (ps : List PartLog) → decided_in (wanted_logs apps ps) ≡ decided_in ps
decided_kept apps ps = ap (flat_map column_at) (all_kept apps ps)

columns_by : (ps qs : List PartLog) (columns : List Column) → decided_in ps ≡ decided_in qs → AreColumns ps columns → AreColumns qs columns
columns_by ps qs columns same h =
    record { others = h.others; are = h.are ∙ ap (λ (cs : List Column). cs ++ map undecided_column h.others) same }

pub columns_kept : (apps : List App) (ps : List PartLog) (columns : List Column) → AreColumns (wanted_logs apps ps) columns ↔ AreColumns ps columns
columns_kept apps ps columns = (
  columns_by (wanted_logs apps ps) ps columns (decided_kept apps ps),
  columns_by ps (wanted_logs apps ps) columns (sym (decided_kept apps ps)),
)

-- ---- which of them are shown

only_kept : (apps : List App) (ps : List PartLog) (name : PartitionName) (p : PartLog) → IsOnly ps name p → IsOnly (wanted_logs apps ps) name (kept_log apps p)
only_kept apps ps name p only = record {
  has = has_map (kept_log apps) ps p only.has;
  named = only.named;
  alone = λ q has named.
      let f = map_has (kept_log apps) ps q has in
      sym f.2 ∙ ap (kept_log apps) (only.alone f.0 f.1 (ap part_name f.2 ∙ named));
}

record_kept : (apps : List App) (ps : List PartLog) (every : List Column) (middle : Option ℕ) (at : Place)
    → IsOfRecordAt (wanted_logs apps ps) every middle at → IsOfRecordAt ps every middle at
record_kept apps ps every middle at h p x w i only log has stands by of =
    let wanted = wanted_of apps p.topic in
    h (kept_log apps p) (wanted_item wanted x) w i (only_kept apps ps at.partition p only) log (has_map (wanted_item wanted) p.items x has)
    (offset_kept wanted x ∙ stands) (writer_kept wanted x ∙ by) of

pub window_kept : (apps : List App) (ps : List PartLog) (fault : Option Fault) (around : ℕ) (picture : Picture)
    → IsWindow (wanted_logs apps ps) fault around picture → IsWindow ps fault around picture
window_kept apps ps fault around picture h = record {
  every = h.every;
  are = (columns_kept apps ps h.every).0 h.are;
  all = h.all;
  middle = h.middle;
  of_fault = record {
    inside = h.of_fault.inside;
    of = λ f at is place. record_kept apps ps h.every h.middle at (h.of_fault.of f at is place);
    none = h.of_fault.none;
  };
  places = shown_kept apps ps h.every (named_by fault) h.middle around picture.places.items h.places;
  shown = h.shown;
}
