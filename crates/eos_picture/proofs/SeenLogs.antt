-- What a picture sees of logs: of each partition its name, its closes and its end markers, and of each data record its offset, its
-- writer and its fate.
use Rattle.std.proofs.Common.{◌≡◌, ℕ, ℤ, List, map, Option, refl, sym, ap}
use Rattle.eos_base.specs.declared.partition_name.PartitionName.{PartitionName}
use Rattle.eos_base.specs.Members.{Has}
use Rattle.eos_batch.specs.declared.marker.Marker.{Marker}
use Rattle.eos_evidence.specs.declared.application.App.{App}
use Rattle.eos_fold.specs.declared.close.Close.{Close}
use Rattle.eos_fold.specs.Parts.{PartLog, part_name}
use Rattle.eos_fold.specs.declared.item.Fate.{Fate}
use Rattle.eos_fold.specs.declared.item.Item.{Item}
use Rattle.eos_reading.specs.Wanted.{wanted_item, wanted_of, kept_log, wanted_logs}
use Rattle.eos_reading.specs.declared.wanted.Wanted.{Wanted}
use Rattle.eos_reading.specs.declared.wanted.Wanted.TheVariants.{Presence, Claims, Texts}
use Rattle.eos_reading.proofs.SameThrough.{has_same}
use Rattle.eos_picture.proofs.SeenSame.{map_seen}

abbrev pub SeenItem : Type 0
SeenItem = ℕ × Option (ℤ × ℤ) × Fate

abbrev pub seen_item : Item → SeenItem
seen_item x = (x.offset, x.writer, x.fate)

abbrev pub Seen : Type 0
Seen = PartitionName × List SeenItem × List Close × List Marker

abbrev pub seen : PartLog → Seen
seen p = (part_name p, map seen_item p.items, p.closes, p.markers)

-- ---- what is kept

pub item_kept : (w : Wanted) (x : Item) → seen_item (wanted_item w x) ≡ seen_item x
item_kept Presence x = refl
item_kept Claims x = refl
item_kept Texts x = refl

part_kept : (apps : List App) (p : PartLog) → seen (kept_log apps p) ≡ seen p
part_kept apps p =
    ap (λ (items : List SeenItem). (part_name p, items, p.closes, p.markers)) (map_seen (wanted_item (wanted_of apps p.topic)) seen_item (item_kept (wanted_of apps p.topic)) p.items)

pub all_seen : (apps : List App) (ps : List PartLog) → map seen (wanted_logs apps ps) ≡ map seen ps
all_seen apps ps = map_seen (kept_log apps) seen (part_kept apps) ps

-- ---- the like of a data record, and of a partition

pub record LikeItem (items : List Item) (x : Item) : Type 0 where
  pub item : Item
  pub has : Has items item
  pub offset : item.offset ≡ x.offset
  pub writer : item.writer ≡ x.writer
  pub fate : item.fate ≡ x.fate

pub like_item : (xs ys : List Item) → map seen_item xs ≡ map seen_item ys → (x : Item) → Has xs x → LikeItem ys x
like_item xs ys same x has =
    let l = has_same seen_item xs ys same x has in
    record {
      item = l.0;
      has = l.1;
      offset = ap (λ (s : SeenItem). s.0) l.2;
      writer = ap (λ (s : SeenItem). s.1) l.2;
      fate = ap (λ (s : SeenItem). s.2) l.2;
    }

-- of two partitions the same is seen
pub record Alike (p q : PartLog) : Type 0 where
  pub name : part_name p ≡ part_name q
  pub items : map seen_item p.items ≡ map seen_item q.items
  pub closes : p.closes ≡ q.closes
  pub markers : p.markers ≡ q.markers

pub back : (p q : PartLog) → Alike p q → Alike q p
back p q a = record { name = sym a.name; items = sym a.items; closes = sym a.closes; markers = sym a.markers }

pub record Like (qs : List PartLog) (p : PartLog) : Type 0 where
  pub part : PartLog
  pub has : Has qs part
  pub alike : Alike p part

pub like : (ps qs : List PartLog) → map seen ps ≡ map seen qs → (p : PartLog) → Has ps p → Like qs p
like ps qs same p has =
    let l = has_same seen ps qs same p has in
    record {
      part = l.0;
      has = l.1;
      alike = record {
        name = sym (ap (λ (s : Seen). s.0) l.2);
        items = sym (ap (λ (s : Seen). s.1) l.2);
        closes = sym (ap (λ (s : Seen). s.2) l.2);
        markers = sym (ap (λ (s : Seen). s.3) l.2);
      };
    }
