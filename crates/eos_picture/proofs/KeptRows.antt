-- Rows that are true of kept logs, or to which nothing of them is lacking, are so of the logs.
use Rattle.std.proofs.Common.{◌≡◌, ◌↔◌, ℕ, ℤ, Bool, List, [], map, Option, Some, None, sym, ap, ◌∙◌, subst, inl, inr, codes, slice_get}
use Rattle.std.specs.Ordering.{nat_cmp, is_eq}
use Rattle.std.specs.Cmp.Lexicographic.{slice_cmp}
use Rattle.eos_base.specs.declared.partition_name.PartitionName.{PartitionName}
use Rattle.eos_base.specs.Members.{Has}
use Rattle.eos_batch.specs.declared.marker.Kind.{Kind}
use Rattle.eos_batch.specs.declared.marker.Marker.{Marker}
use Rattle.eos_evidence.specs.declared.application.App.{App}
use Rattle.eos_fold.specs.declared.close.Close.{Close}
use Rattle.eos_fold.specs.Parts.{PartLog}
use Rattle.eos_fold.specs.declared.item.Fate.{Fate}
use Rattle.eos_fold.specs.declared.item.Item.{Item}
use Rattle.eos_picture.specs.declared.mark.Column.{Column}
use Rattle.eos_picture.specs.declared.mark.Mark.{Mark}
use Rattle.eos_picture.specs.declared.mark.Row.{Row}
use Rattle.eos_picture.specs.declared.mark.Sign.{Sign}
use Rattle.eos_picture.specs.declared.mark.Sign.TheVariants as signs
use Rattle.eos_picture.specs.Marks.{IsWritten, IsDecided, IsMarked, IsUnraised, IsMissing, IsClosed, IsSo, IsTrueAt, IsTrueRow, HasTrueRows}
use Rattle.eos_picture.specs.Ends.{ends, HasNone}
use Rattle.eos_picture.specs.Signs.{IsOf}
use Rattle.eos_picture.specs.Whole.{IsMarkOf, Shows, ShowsDecision, ShowsEnds, ShowsClose, IsWhole, IsCovered, HasWholeRows}
use Rattle.eos_reading.specs.Wanted.{wanted_logs}
use Rattle.eos_picture.proofs.SeenLogs.{seen, Alike, back, like, like_item, all_seen}

abbrev number_of : PartitionName → ℤ
number_of n = n.partition

abbrev is_log_name : PartitionName → Bool
is_log_name n = is_eq (slice_cmp nat_cmp n.topic (codes "__transaction_state"))

-- the same of another data record, of which the same is seen
is_of_like : (x y : Item) → x.offset ≡ y.offset → x.fate ≡ y.fate → (sign : Sign) → IsOf x sign → IsOf y sign
is_of_like x y o f (signs.Decision offset kind) h = h
is_of_like x y o f (signs.Record offset fate) h = (sym o ∙ h.0, sym f ∙ h.1)
is_of_like x y o f (signs.Commit offset fate source committed) h = (sym o ∙ h.0, sym f ∙ h.1)
is_of_like x y o f (signs.Passed fate from to) h = h
is_of_like x y o f (signs.Marker kind count) h = h
is_of_like x y o f (signs.Missing kind) h = h
is_of_like x y o f (signs.Spot place) h = h

shown_like : (columns : List Column) (marks : List Mark) (w : ℤ × ℤ) (x y : Item) → x.offset ≡ y.offset → x.fate ≡ y.fate
    → Shows marks (IsMarkOf columns x w) → Shows marks (IsMarkOf columns y w)
shown_like columns marks w x y o f (m, has, is) = (m, has, (is.0, is_of_like x y o f m.sign is.1))

-- ---- of two partitions of which the same is seen

module _ (p q : PartLog) (a : Alike p q) where
  written : (c : Column) (offset : ℕ) (fate : Fate) → IsWritten p c offset fate → IsWritten q c offset fate
  written c offset fate h =
      let x = like_item p.items q.items a.items h.item h.has in
      record { item = x.item; has = x.has; by = x.writer ∙ h.by; at = x.offset ∙ h.at; came_to = x.fate ∙ h.came_to }

  decided : (c : Column) (offset : ℕ) (kind : Kind) → IsDecided p c offset kind → IsDecided q c offset kind
  decided c offset kind h = record { decided = h.decided; by = h.by; partition = h.partition ∙ ap number_of a.name; at = h.at; so = h.so }

  as_many : (producer epoch : ℤ) (kind : Kind) → ends p.markers producer epoch kind ≡ ends q.markers producer epoch kind
  as_many producer epoch kind = ap (λ (ms : List Marker). ends ms producer epoch kind) a.markers

  marked : (c : Column) (kind : Kind) (count : ℕ) → IsMarked p c kind count → IsMarked q c kind count
  marked c kind count h = record { decided = h.decided; by = h.by; some = h.some; many = h.many ∙ as_many c.producer h.decided.marker_epoch kind }

  unraised : (c : Column) (kind : Kind) (count : ℕ) → IsUnraised p c kind count → IsUnraised q c kind count
  unraised c kind count h = record { some = h.some; many = h.many ∙ as_many c.producer c.epoch kind }

  missing : (c : Column) (kind : Kind) → IsMissing p c kind → IsMissing q c kind
  missing c kind h =
      record { decided = h.decided; by = h.by; so = h.so; none = subst (λ (ms : List Marker). HasNone ms c.producer h.decided.marker_epoch) a.markers h.none }

  closed : (c : Column) (kind : Kind) (count : ℕ) → IsClosed p c kind count → IsClosed q c kind count
  closed c kind count h = record {
    close = h.close;
    has = subst (λ (cs : List Close). Has cs h.close) a.closes h.has;
    producer = h.producer;
    epoch = h.epoch;
    so = h.so;
    many = h.many ∙ as_many h.close.producer h.close.marker_epoch h.close.kind;
  }

  so : (c : Column) (sign : Sign) → IsSo p c sign → IsSo q c sign
  so c (signs.Decision offset kind) h = decided c offset kind h
  so c (signs.Record offset fate) h = written c offset fate h
  so c (signs.Commit offset fate source committed) h = written c offset fate h
  so c (signs.Passed fate from to) h = h
  so c (signs.Marker kind count) (inl h) = inl (marked c kind count h)
  so c (signs.Marker kind count) (inr (inl h)) = inr (inl (closed c kind count h))
  so c (signs.Marker kind count) (inr (inr h)) = inr (inr (unraised c kind count h))
  so c (signs.Missing kind) h = missing c kind h
  so c (signs.Spot None) h = h
  so c (signs.Spot (Some offset)) h = h

  true_at : (c : Option Column) (sign : Sign) → IsTrueAt p c sign → IsTrueAt q c sign
  true_at None sign h = h
  true_at (Some c) sign h = so c sign h

  pub true_row : (columns : List Column) (row : Row) → IsTrueRow p columns row → IsTrueRow q columns row
  true_row columns row (name, marks) = (name ∙ a.name, λ m has. true_at (slice_get columns m.column) m.sign (marks m has))

  pub whole : (columns : List Column) (marks : List Mark) → IsWhole p columns marks → IsWhole q columns marks
  whole columns marks h = record {
    records = λ x has w i by of.
        let y = like_item q.items p.items (sym a.items) x has in
        shown_like columns marks w y.item x y.offset y.fate (h.records y.item y.has w i (y.writer ∙ by) of);
    decisions = λ is i. subst (λ n. ShowsDecision n columns marks i) (ap number_of a.name) (h.decisions (ap is_log_name a.name ∙ is) i);
    markers = λ i kind. subst (λ (ms : List Marker). ShowsEnds ms columns marks i kind) a.markers (h.markers i kind);
    missing = λ x has i c d at by wrote none.
        let y = like_item q.items p.items (sym a.items) x has in
        h.missing y.item y.has i c d at by (y.writer ∙ wrote) (subst (λ (ms : List Marker). HasNone ms c.producer d.marker_epoch) (sym a.markers) none);
    closes = λ x has i. subst (λ (ms : List Marker). ShowsClose ms columns marks x i) a.markers (h.closes x (subst (λ (cs : List Close). Has cs x) (sym a.closes) has) i);
  }

  pub covered : (columns : List Column) (rows : List Row) → IsCovered columns rows p → IsCovered columns rows q
  covered columns rows (inl h) = inl (record { row = h.row; has = h.has; of = h.of ∙ a.name; whole = whole columns h.row.marks.items h.whole })
  covered columns rows (inr h) = inr (whole columns [] h)

-- ---- of logs

true_rows : (ps qs : List PartLog) → map seen ps ≡ map seen qs → (columns : List Column) (rows : List Row) → HasTrueRows ps columns rows → HasTrueRows qs columns rows
true_rows ps qs same columns rows h row has = go (h row has)
  where
    go : ((p : PartLog) × Has ps p × IsTrueRow p columns row) → (q : PartLog) × Has qs q × IsTrueRow q columns row
    go (p, has_part, so_far) =
        let l = like ps qs same p has_part in
        (l.part, l.has, true_row p l.part l.alike columns row so_far)

whole_rows : (ps qs : List PartLog) → map seen ps ≡ map seen qs → (columns : List Column) (rows : List Row) → HasWholeRows ps columns rows → HasWholeRows qs columns rows
whole_rows ps qs same columns rows h q has =
    let l = like qs ps (sym same) q has in
    covered l.part q (back q l.part l.alike) columns rows (h l.part l.has)

-- ---- what is kept

pub true_kept : (apps : List App) (ps : List PartLog) (columns : List Column) (rows : List Row) → HasTrueRows (wanted_logs apps ps) columns rows ↔ HasTrueRows ps columns rows
true_kept apps ps columns rows = (
  true_rows (wanted_logs apps ps) ps (all_seen apps ps) columns rows,
  true_rows ps (wanted_logs apps ps) (sym (all_seen apps ps)) columns rows,
)

pub whole_kept : (apps : List App) (ps : List PartLog) (columns : List Column) (rows : List Row) → HasWholeRows (wanted_logs apps ps) columns rows ↔ HasWholeRows ps columns rows
whole_kept apps ps columns rows = (
  whole_rows (wanted_logs apps ps) ps (all_seen apps ps) columns rows,
  whole_rows ps (wanted_logs apps ps) (sym (all_seen apps ps)) columns rows,
)
