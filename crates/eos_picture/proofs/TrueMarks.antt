-- Marks that are true, and one more.
use Rattle.std.proofs.Common.{◌≡◌, ◌<◌, ◌≤◌, length, zero, suc, arith, refl, ℕ, ℤ, List, [], ◌∷◌, ◌++◌, Option, Some, None, inl, inr, sym, ap, subst, ◌∙◌}
use Rattle.std.specs.List.{slice_get, slice_index_or}
use Rattle.std.specs.Prelude.{IfSome}
use Rattle.std.proofs.lemmas.Option.{slice_get_past}
use Rattle.eos_batch.specs.declared.marker.Kind.{Kind}
use Rattle.eos_batch.specs.declared.marker.Marker.{Marker}
use Rattle.eos_base.specs.Members.{Has}
use Rattle.eos_base.proofs.Membership.{append_cases}
use Rattle.eos_fold.specs.declared.close.Close.{Close}
use Rattle.eos_fold.specs.Parts.{PartLog}
use Rattle.eos_picture.specs.declared.mark.Column.{Column}
use Rattle.eos_picture.specs.declared.mark.Decided.{Decided}
use Rattle.eos_picture.specs.Ends.{ends, HasNone}
use Rattle.eos_picture.specs.declared.mark.Mark.{Mark}
use Rattle.eos_picture.specs.declared.mark.Row.{Row}
use Rattle.eos_picture.specs.declared.mark.Sign.{Sign}
use Rattle.eos_picture.specs.declared.mark.Sign.TheVariants as signs
use Rattle.eos_picture.specs.Marks.{IsSo, IsTrueAt, IsTrueOf, AreTrue, IsTrueRow, HasTrueRows}
use Rattle.eos_picture.specs.Signs.{IsOfWriter}

pub one_more : (p : PartLog) (columns : List Column) (marks : List Mark) (m : Mark) → IsTrueOf p columns m → AreTrue p columns marks → AreTrue p columns (marks ++ m ∷ [])
one_more p columns marks m now before x h = elim (append_cases marks (m ∷ []) x h) [ inl a ↦ before x a | inr b ↦ last b ]
  where
    last : Has (m ∷ []) x → IsTrueOf p columns x
    last (inl e) = subst (IsTrueOf p columns) e now
    last (inr k) = absurd k

pub one_more_in : (p : PartLog) (columns : List Column) (old new : List Mark) (m : Mark) → new ≡ old ++ m ∷ [] → IsTrueOf p columns m → AreTrue p columns old → AreTrue p columns new
one_more_in p columns old new m e now before = subst (λ z. AreTrue p columns z) (sym e) (one_more p columns old m now before)

pub unseen_true : (p : PartLog) (c : Option Column) → IsTrueAt p c (signs.Spot None)
unseen_true p None = tt
unseen_true p (Some c) = tt

-- behind the last column
pub past_true : (p : PartLog) (columns : List Column) (i : ℕ) (sign : Sign) → length columns ≤ i → IsTrueAt p (slice_get columns i) sign
past_true p columns i sign le = subst (λ c. IsTrueAt p c sign) (sym (slice_get_past columns i le)) tt

pub ends_same : (markers : List Marker) (a b c d : ℤ) (kind : Kind) → a ≡ c → b ≡ d → ends markers a b kind ≡ ends markers c d kind
ends_same markers a b c d kind e f = ap (λ z. ends markers z b kind) e ∙ ap (λ z. ends markers c z kind) f

-- end markers with the epoch of the transaction's data, or of no transaction
pub own_true : (p : PartLog) (columns : List Column) (i : ℕ) (w : ℤ × ℤ) (kind : Kind) (count : ℕ) → ((c : Column) → slice_get columns i ≡ Some c → IsOfWriter (Some c) w) → 1 ≤ count
    → count ≡ ends p.markers w.0 w.1 kind → IsTrueAt p (slice_get columns i) (signs.Marker kind count)
own_true p columns i w kind count own some many = go (slice_get columns i) refl
  where
    go : (c : Option Column) → slice_get columns i ≡ c → IsTrueAt p c (signs.Marker kind count)
    go None e = tt
    go (Some c) e = inr (inr (record { some = some; many = many ∙ ap (λ (z : ℤ × ℤ). ends p.markers z.0 z.1 kind) (own c e) }))

-- end markers with the epoch that was decided, and that there are none
pub marked_true : (p : PartLog) (c : Column) (d : Decided) (kind : Kind) (count : ℕ) → c.decided ≡ Some d → 1 ≤ count → count ≡ ends p.markers c.producer d.marker_epoch kind → IsSo p c (signs.Marker kind count)
marked_true p c d kind count by some many = inl (record { decided = d; by = by; some = some; many = many })

pub missing_true : (p : PartLog) (c : Column) (d : Decided) → c.decided ≡ Some d → HasNone p.markers c.producer d.marker_epoch → IsSo p c (signs.Missing d.kind)
missing_true p c d by none = record { decided = d; by = by; so = refl; none = none }

pub none_true : (p : PartLog) (columns : List Column) (marks : List Mark) → marks ≡ [] → AreTrue p columns marks
none_true p columns marks e = subst (λ z. AreTrue p columns z) (sym e) (λ m h. absurd h)

-- the next end marker of a transaction without a Prepare record
pub closed_true : (p : PartLog) (c : Column) (x : Close) (count : ℕ) → Has p.closes x → c.producer ≡ x.producer → c.epoch ≡ x.epoch → count ≡ ends p.markers x.producer x.marker_epoch x.kind
    → IsSo p c (signs.Marker x.kind count)
closed_true p c x count has producer epoch many = inr (inl (record { close = x; has = has; producer = producer; epoch = epoch; so = refl; many = many }))

-- what is found of a column is true in its place
pub found_true : (p : PartLog) (o : Option Column) (c : Column) (found : Option Sign) → o ≡ Some c → IfSome found (IsSo p c) → IfSome found (IsTrueAt p o)
found_true p o c found at so = subst (λ (z : Option Column). IfSome found (IsTrueAt p z)) (sym at) so

pub indexed_has : {X : Type 0} (xs : List X) (i : ℕ) (d : X) → i < length xs → Has xs (slice_index_or xs i d)
indexed_has [] i d lt = absurd (omega (arith, lt))
indexed_has (x ∷ xs) zero d lt = inl refl
indexed_has (x ∷ xs) (suc i) d lt = inr (indexed_has xs i d (omega (arith, lt)))

pub moved_has : {X : Type 0} (xs ys : List X) (i : ℕ) (d : X) → xs ≡ ys → i < length xs → Has ys (slice_index_or xs i d)
moved_has xs ys i d e lt = subst (λ z. Has z (slice_index_or xs i d)) e (indexed_has xs i d lt)

pub has_item : {X : Type 0} (xs : List X) (i : ℕ) (d x : X) → x ≡ slice_index_or xs i d → i < length xs → Has xs x
has_item xs i d x e lt = subst (λ z. Has xs z) (sym e) (indexed_has xs i d lt)

pub one_row_more : (logs : List PartLog) (columns : List Column) (old new : List Row) (row : Row) (p : PartLog) → new ≡ old ++ row ∷ [] → Has logs p → IsTrueRow p columns row → HasTrueRows logs columns old → HasTrueRows logs columns new
one_row_more logs columns old new row p e has so before x h = elim (append_cases old (row ∷ []) x (subst (λ z. Has z x) e h)) [ inl a ↦ before x a | inr b ↦ last b ]
  where
    last : Has (row ∷ []) x → (q : PartLog) × Has logs q × IsTrueRow q columns x
    last (inl same) = (p, has, subst (λ z. IsTrueRow p columns z) same so)
    last (inr k) = absurd k
