-- Marks that lack nothing, and one more.
use Rattle.std.proofs.Common.{◌≡◌, ◌≢◌, ◌<◌, ◌≤◌, ◌⊎◌, ◌+◌, length, zero, suc, arith, refl, ℕ, ℤ, List, [], ◌∷◌, ◌++◌, drop, Option, Some, None, inl, inr, sym, ap, subst, ◌∙◌}
use Rattle.std.specs.List.{slice_get, slice_index_or, AllPairs}
use Rattle.std.specs.Option.{option_or}
use Rattle.std.proofs.lemmas.Bool.{cases_lt}
use Rattle.std.proofs.lemmas.Option.{slice_get_past}
use Rattle.eos_base.specs.Members.{Has}
use Rattle.eos_base.proofs.Membership.{append_cases, append_left, append_right}
use Rattle.eos_batch.specs.declared.marker.Kind.{Kind}
use Rattle.eos_batch.specs.declared.marker.Kind.TheVariants.{Commit, Abort}
use Rattle.eos_batch.specs.declared.marker.Marker.{Marker}
use Rattle.eos_fold.specs.declared.close.Close.{Close}
use Rattle.eos_fold.specs.Parts.{PartLog, part_name, Rises}
use Rattle.eos_fold.specs.declared.item.Item.{Item}
use Rattle.eos_picture.specs.declared.mark.Column.{Column}
use Rattle.eos_picture.specs.declared.mark.Mark.{Mark}
use Rattle.eos_picture.specs.declared.mark.Row.{Row}
use Rattle.eos_picture.specs.declared.mark.Sign.{Sign}
use Rattle.eos_picture.specs.declared.mark.Sign.TheVariants as signs
use Rattle.eos_picture.specs.Marks.{HasTrueRows}
use Rattle.eos_picture.specs.Signs.{IsOfWriter}
use Rattle.eos_picture.specs.Whole.{IsAt, IsMarkOf, Shows, ShowsRecord, ShowsDecision, ShowsEnds, ShowsMissing, ShowsClose, IsWhole, IsCovered}
use Rattle.eos_picture.specs.Ends.{ends}
use Rattle.eos_picture.specs.steps.Acts.{FindsDecision, FindsEnds, FindsMissing, FindsClose, IsShown, ShowsActs}
use Rattle.eos_base.specs.declared.partition_name.PartitionName.{PartitionName}
use Rattle.eos_claims.specs.declared.place.Place.{Place}
use Rattle.eos_picture.specs.Window.{IsThere, IsOfRecordAt}
use Rattle.eos_picture.specs.declared.spots.Spot.{Spot}
use Rattle.eos_picture.specs.steps.Spots.{StartsAt, spot_at}
use Rattle.eos_picture.specs.steps.Kept.{Keeps}
use Rattle.eos_picture.specs.steps.Found.{IsPlaceOf}

-- ---- what stays

pub kept_shown : (old new : List Mark) (P : Mark → Type 0) → Keeps old new → Shows old P → Shows new P
kept_shown old new P keeps h = (h.0, keeps h.0 h.1, h.2)

pub kept_record : (columns : List Column) (old new : List Mark) (x : Item) → Keeps old new → ShowsRecord columns old x → ShowsRecord columns new x
kept_record columns old new x keeps h = λ w i by of. kept_shown old new (IsMarkOf columns x w) keeps (h w i by of)

pub kept_decision : (n : ℤ) (columns : List Column) (old new : List Mark) (i : ℕ) → Keeps old new → ShowsDecision n columns old i → ShowsDecision n columns new i
kept_decision n columns old new i keeps h = λ c d at by in_it. kept_shown old new (IsAt i (signs.Decision d.offset d.kind)) keeps (h c d at by in_it)

kept_ends : (markers : List Marker) (columns : List Column) (old new : List Mark) (i : ℕ) (kind : Kind) → Keeps old new → ShowsEnds markers columns old i kind → ShowsEnds markers columns new i kind
kept_ends markers columns old new i kind keeps h = λ c d at by some. kept_shown old new (IsAt i (signs.Marker kind (ends markers c.producer d.marker_epoch kind))) keeps (h c d at by some)

kept_missing : (markers : List Marker) (columns : List Column) (old new : List Mark) (x : Item) (i : ℕ) → Keeps old new → ShowsMissing markers columns old x i → ShowsMissing markers columns new x i
kept_missing markers columns old new x i keeps h = λ c d at by wrote none. kept_shown old new (IsAt i (signs.Missing d.kind)) keeps (h c d at by wrote none)

pub kept_close : (markers : List Marker) (columns : List Column) (old new : List Mark) (x : Close) (i : ℕ) → Keeps old new → ShowsClose markers columns old x i → ShowsClose markers columns new x i
kept_close markers columns old new x i keeps h = λ c at by producer epoch. kept_shown old new (IsAt i (signs.Marker x.kind (ends markers x.producer x.marker_epoch x.kind))) keeps (h c at by producer epoch)

kept_acts : (p : PartLog) (columns : List Column) (old new : List Mark) (i : ℕ) → Keeps old new → ShowsActs p columns old i → ShowsActs p columns new i
kept_acts p columns old new i keeps h = record {
  decision = λ t. kept_decision p.number columns old new i keeps (h.decision t);
  markers = λ kind. kept_ends p.markers columns old new i kind keeps (h.markers kind);
  missing = λ x has. kept_missing p.markers columns old new x i keeps (h.missing x has);
  closes = λ x has. kept_close p.markers columns old new x i keeps (h.closes x has);
}

pub keeps_all : {X : Type 0} (one two three : List X) → Keeps one two → Keeps two three → Keeps one three
keeps_all one two three f g = λ x h. g x (f x h)

pub keeps_more : {X : Type 0} (old new : List X) (x : X) → new ≡ old ++ x ∷ [] → Keeps old new
keeps_more old new x e = λ y h. subst (λ z. Has z y) (sym e) (append_left old (x ∷ []) y h)

pub has_more : {X : Type 0} (old new : List X) (x : X) → new ≡ old ++ x ∷ [] → Has new x
has_more old new x e = subst (λ z. Has z x) (sym e) (append_right old (x ∷ []) x (inl refl))

pub shows_more : (old new : List Mark) (m : Mark) → new ≡ old ++ m ∷ [] → Shows new (IsAt m.column m.sign)
shows_more old new m e = (m, has_more old new m e, (refl, refl))

-- ---- one after the other

behind : {X : Type 0} (xs : List X) (i : ℕ) (d y : X) → i < length xs → Has (drop i xs) y → (slice_index_or xs i d ≡ y) ⊎ Has (drop (suc i) xs) y
behind [] i d y lt h = absurd (omega (arith, lt))
behind (x ∷ xs) zero d y lt (inl e) = inl e
behind (x ∷ xs) zero d y lt (inr h) = inr h
behind (x ∷ xs) (suc i) d y lt h = behind xs i d y (omega (arith, lt)) h

-- the next, or one behind it
pub drop_has : {X : Type 0} (xs : List X) (i : ℕ) (d y : X) → i < length xs → Has (drop i xs) y → (slice_index_or xs i d ≡ y) ⊎ Has (drop (i + 1) xs) y
drop_has xs i d y lt h = let n : suc i ≡ i + 1 = omega arith in subst (λ z. (slice_index_or xs i d ≡ y) ⊎ Has (drop z xs) y) n (behind xs i d y lt h)

pub none_left : {X : Type 0} (xs : List X) (i : ℕ) (y : X) → length xs ≤ i → Has (drop i xs) y → ⊥
none_left [] zero y le h = h
none_left [] (suc i) y le h = h
none_left (x ∷ xs) zero y le h = omega (arith, le)
none_left (x ∷ xs) (suc i) y le h = none_left xs i y (omega (arith, le)) h

-- below the next place is below this one, or this one
pub below_next : (P : ℕ → Type 0) (i : ℕ) → ((j : ℕ) → j < i → P j) → P i → (j : ℕ) → j < i + 1 → P j
below_next P i before now j lt = elim (cases_lt j i) [
  | inl l ↦ before j l
  | inr r ↦ let e : i ≡ j = omega (arith, lt, r) in subst P e now
]

-- ---- what each function adds

-- what is found in a column is what the one at its place did
one_column : (columns : List Column) (i : ℕ) (at c : Column) → slice_get columns i ≡ Some at → slice_get columns i ≡ Some c → at ≡ c
one_column columns i at c e f = cc

found_shown : (marks : List Mark) (i : ℕ) (found : Option Sign) (s : Sign) → IsShown marks i found → found ≡ Some s → Shows marks (IsAt i s)
found_shown marks i found s shown e = subst (IsShown marks i) e shown

kept_found : (old new : List Mark) (i : ℕ) (found : Option Sign) → Keeps old new → IsShown old i found → IsShown new i found
kept_found old new i None keeps h = tt
kept_found old new i (Some s) keeps h = kept_shown old new (IsAt i s) keeps h

pub close_shown : (markers : List Marker) (columns : List Column) (marks : List Mark) (at : Column) (found : Option Sign) (x : Close) (i : ℕ) → slice_get columns i ≡ Some at → FindsClose markers at x found → IsShown marks i found
    → ShowsClose markers columns marks x i
close_shown markers columns marks at found x i is finds shown = λ c there. let same = one_column columns i at c is there in
    λ by producer epoch. found_shown marks i found _ shown (subst (λ (z : Column). FindsClose markers z x found) same finds by producer epoch)

-- one after the other
pub all_acts : (p : PartLog) (columns : List Column) (at : Column) (decision commits aborts missing : Option Sign) (d a b m k : List Mark) (i : ℕ) → slice_get columns i ≡ Some at
    → FindsDecision p at decision → IsShown d i decision → Keeps d a → FindsEnds p.markers at Commit commits → IsShown a i commits → Keeps a b → FindsEnds p.markers at Abort aborts → IsShown b i aborts
    → Keeps b m → ((x : Item) → Has p.items x → FindsMissing p.markers at x missing) → IsShown m i missing → Keeps m k → ((x : Close) → Has p.closes x → ShowsClose p.markers columns k x i)
    → ShowsActs p columns k i
all_acts p columns at decision commits aborts missing d a b m k i is finds_d in_d da finds_a in_a ab finds_b in_b bm finds_m in_m mk closes = record {
  decision = λ t c e there by in_it. found_shown k i decision _ (kept_found d k i decision (λ y g. mk y (bm y (ab y (da y g)))) in_d) (subst (λ (z : Column). FindsDecision p z decision) (one_column columns i at c is there) finds_d e t by in_it);
  markers = both;
  missing = λ x has c e there by wrote none. found_shown k i missing _ (kept_found m k i missing mk in_m) (subst (λ (z : Column). FindsMissing p.markers z x missing) (one_column columns i at c is there) (finds_m x has) e by wrote none);
  closes = closes;
}
  where
    of_kind : (kind : Kind) (found : Option Sign) → FindsEnds p.markers at kind found → IsShown k i found → ShowsEnds p.markers columns k i kind
    of_kind kind found finds shown = λ c e there by some. found_shown k i found _ shown (subst (λ (z : Column). FindsEnds p.markers z kind found) (one_column columns i at c is there) finds e by some)

    both : (kind : Kind) → ShowsEnds p.markers columns k i kind
    both Commit = of_kind Commit commits finds_a (kept_found a k i commits (λ y g. mk y (bm y (ab y g))) in_a)
    both Abort = of_kind Abort aborts finds_b (kept_found b k i aborts (λ y g. mk y (bm y g)) in_b)

pub acts_next : (p : PartLog) (columns : List Column) (old new : List Mark) (i : ℕ) → Keeps old new → ShowsActs p columns new i
    → ((j : ℕ) → j < i → ShowsActs p columns old j) → (j : ℕ) → j < i + 1 → ShowsActs p columns new j
acts_next p columns old new i keeps now before = below_next (λ j. ShowsActs p columns new j) i (λ j lt. kept_acts p columns old new j keeps (before j lt)) now

pub no_column : {P : Type 0} (columns : List Column) (i : ℕ) (c : Column) → length columns ≤ i → slice_get columns i ≡ Some c → P
no_column columns i c le e = let past = slice_get_past columns i le in absurd cc

past_acts : (p : PartLog) (columns : List Column) (marks : List Mark) (i : ℕ) → length columns ≤ i → ShowsActs p columns marks i
past_acts p columns marks i le = record {
  decision = λ t c d at by in_it. no_column columns i c le at;
  markers = λ kind c d at by some. no_column columns i c le at;
  missing = λ x has c d at by wrote none. no_column columns i c le at;
  closes = λ x has c at by producer epoch. no_column columns i c le at;
}

pub acts_all : (p : PartLog) (columns : List Column) (marks : List Mark) (k : ℕ) → length columns ≤ k → ((j : ℕ) → j < k → ShowsActs p columns marks j) → (i : ℕ) → ShowsActs p columns marks i
acts_all p columns marks k le below i = elim (cases_lt i k) [ inl l ↦ below i l | inr r ↦ past_acts p columns marks i (omega (arith, le, r)) ]

-- the list that is gone over, one further
pub one_further : {X : Type 0} (all list : List X) (k : ℕ) (d : X) (P Q : X → Type 0) → list ≡ all → k < length list → ((x : X) → P x → Q x) → Q (slice_index_or list k d)
    → ((x : X) → Has all x → Has (drop k all) x ⊎ P x) → (x : X) → Has all x → Has (drop (k + 1) all) x ⊎ Q x
one_further {X} all list k d P Q e lt stays now before x h = elim (before x h) [
  | inl left ↦ elim (drop_has list k d x lt (subst (λ z. Has (drop k z) x) (sym e) left)) [
    | inl is ↦ inr (subst Q is now)
    | inr more ↦ inl (subst (λ z. Has (drop (k + 1) z) x) e more)
  ]
  | inr done ↦ inr (stays x done)
]

pub all_gone : {X : Type 0} (all list : List X) (k : ℕ) (P : X → Type 0) → list ≡ all → length list ≤ k → ((x : X) → Has all x → Has (drop k all) x ⊎ P x) → (x : X) → Has all x → P x
all_gone all list k P e le inv x h = elim (inv x h) [ inl left ↦ absurd (none_left list k x le (subst (λ z. Has (drop k z) x) (sym e) left)) | inr done ↦ done ]

pub records_next : (columns : List Column) (all left rest : List Item) (item : Item) (old new : List Mark) → left ≡ item ∷ rest → Keeps old new → ShowsRecord columns new item
    → ((x : Item) → Has all x → Has left x ⊎ ShowsRecord columns old x) → (x : Item) → Has all x → Has rest x ⊎ ShowsRecord columns new x
records_next columns all left rest item old new e keeps now before x h = elim (before x h) [
  | inl is ↦ elim (subst (λ z. Has z x) e is) [ inl same ↦ inr (subst (λ z. ShowsRecord columns new z) same now) | inr more ↦ inl more ]
  | inr done ↦ inr (kept_record columns old new x keeps done)
]

pub records_all : (columns : List Column) (all left : List Item) (marks : List Mark) → left ≡ [] → ((x : Item) → Has all x → Has left x ⊎ ShowsRecord columns marks x) → (x : Item) → Has all x → ShowsRecord columns marks x
records_all columns all left marks e inv x h = elim (inv x h) [ inl is ↦ absurd (subst (λ z. Has z x) e is) | inr done ↦ done ]

-- what is left of a list that is gone over
pub left_next : {X : Type 0} (P : X → Type 0) (all left rest : List X) (item : X) → left ≡ item ∷ rest → P item → ((x : X) → Has all x → Has left x ⊎ P x) → (x : X) → Has all x → Has rest x ⊎ P x
left_next {X} P all left rest item e now before x h = elim (before x h) [
  | inl is ↦ elim (subst (λ (z : List X). Has z x) e is) [ inl same ↦ inr (subst P same now) | inr more ↦ inl more ]
  | inr done ↦ inr done
]

pub left_none : {X : Type 0} (P : X → Type 0) (all left : List X) → left ≡ [] → ((x : X) → Has all x → Has left x ⊎ P x) → (x : X) → Has all x → P x
left_none {X} P all left e inv x h = elim (inv x h) [ inl is ↦ absurd (subst (λ (z : List X). Has z x) e is) | inr done ↦ done ]

-- the marks of a row, kind after kind
pub whole_row : (p : PartLog) (columns : List Column) (r a m s : List Mark) → ((x : Item) → Has p.items x → ShowsRecord columns r x) → Keeps r a → Keeps a m
    → ((i : ℕ) → ShowsActs p columns m i) → Keeps m s → IsWhole p columns s
whole_row p columns r a m s records ra am acts ms =
    let kept : (i : ℕ) → ShowsActs p columns s i = λ i. kept_acts p columns m s i ms (acts i) in
    record {
      records = λ x h. kept_record columns r s x (λ y g. ms y (am y (ra y g))) (records x h);
      decisions = λ t i. (kept i).decision t;
      markers = λ i kind. (kept i).markers kind;
      missing = λ x h i. (kept i).missing x h;
      closes = λ x h i. (kept i).closes x h;
    }

-- ---- rows

pub row_kept : (columns : List Column) (old new : List Row) (p : PartLog) → Keeps old new → IsCovered columns old p → IsCovered columns new p
row_kept columns old new p keeps (inl h) = inl (record { row = h.row; has = keeps h.row h.has; of = h.of; whole = h.whole })
row_kept columns old new p keeps (inr h) = inr h

pub left_keeps : {X : Type 0} (old new ys : List X) → Keeps old new → Keeps (old ++ ys) (new ++ ys)
left_keeps old new ys keeps x h = elim (append_cases old ys x h) [ inl a ↦ append_left new ys x (keeps x a) | inr b ↦ append_right new ys x b ]

pub right_keeps : {X : Type 0} (xs old new : List X) → Keeps old new → Keeps (xs ++ old) (xs ++ new)
right_keeps xs old new keeps x h = elim (append_cases xs old x h) [ inl a ↦ append_left xs new x a | inr b ↦ append_right xs new x (keeps x b) ]

pub covered_left : (columns : List Column) (xs ys : List Row) (p : PartLog) → IsCovered columns xs p → IsCovered columns (xs ++ ys) p
covered_left columns xs ys p h = row_kept columns xs (xs ++ ys) p (λ x g. append_left xs ys x g) h

pub covered_right : (columns : List Column) (xs ys : List Row) (p : PartLog) → IsCovered columns ys p → IsCovered columns (xs ++ ys) p
covered_right columns xs ys p h = row_kept columns ys (xs ++ ys) p (λ x g. append_right xs ys x g) h

pub covered_more : (columns : List Column) (xs ys us vs : List Row) (p : PartLog) → Keeps xs us → Keeps ys vs → IsCovered columns (xs ++ ys) p → IsCovered columns (us ++ vs) p
covered_more columns xs ys us vs p f g h = row_kept columns (xs ++ ys) (us ++ vs) p (λ x k. right_keeps us ys vs g x (left_keeps xs us ys f x k)) h

pub true_both : (logs : List PartLog) (columns : List Column) (new xs ys : List Row) → new ≡ xs ++ ys → HasTrueRows logs columns xs → HasTrueRows logs columns ys → HasTrueRows logs columns new
true_both logs columns new xs ys e a b row h = elim (append_cases xs ys row (subst (λ z. Has z row) e h)) [ inl l ↦ a row l | inr r ↦ b row r ]

-- ---- the last writer up to an offset

has_index : {X : Type 0} (xs : List X) (y : X) → Has xs y → (j : ℕ) × (j < length xs) × ((d : X) → slice_index_or xs j d ≡ y)
has_index [] y h = absurd h
has_index (x ∷ xs) y (inl e) = (0, omega arith, λ d. e)
has_index (x ∷ xs) y (inr h) = let r = has_index xs y h in let lt = r.1 in (suc r.0, omega (arith, lt), r.2)

pairs_head : {X : Type 0} (R : X → X → Type 0) (x : X) (xs : List X) → AllPairs R (x ∷ xs) → (y : X) → Has xs y → R x y
pairs_head R x xs up y h = let r = has_index xs y h in let lt = r.1 in subst (R x) (r.2 x) (up 0 (suc r.0) x (omega arith) (omega (arith, lt)))

pub rises_tail : (left rest : List Item) (x : Item) → left ≡ x ∷ rest → Rises left → Rises rest
rises_tail left rest x e up = let all : Rises (x ∷ rest) = subst Rises e up in λ i j d lt le. all (suc i) (suc j) d (omega arith) (omega arith)

pub rises_head : (left rest : List Item) (x : Item) → left ≡ x ∷ rest → Rises left → (y : Item) → Has rest y → x.offset < y.offset
rises_head left rest x e up = pairs_head (λ (x y : Item). x.offset < y.offset) x rest (subst Rises e up)

abbrev pub IsFound : List Item → List Item → ℕ → Option (ℤ × ℤ) → Type 0
IsFound all left offset near = (x : Item) (w : ℤ × ℤ) → Has all x → x.offset ≡ offset → x.writer ≡ Some w → Has left x ⊎ ((near ≡ Some w) × ((y : Item) → Has left y → offset < y.offset))

pub found_stop : (all left rest : List Item) (item : Item) (offset : ℕ) (near : Option (ℤ × ℤ)) → left ≡ item ∷ rest → Rises left → offset < item.offset → IsFound all left offset near
    → (x : Item) (w : ℤ × ℤ) → Has all x → x.offset ≡ offset → x.writer ≡ Some w → near ≡ Some w
found_stop all left rest item offset near e up lt inv x w h at by = elim (inv x w h at by) [
  | inl is ↦ elim (subst (λ z. Has z x) e is) [
    | inl same ↦ let o : item.offset ≡ x.offset = ap (λ (z : Item). z.offset) same in absurd (omega (arith, lt, at, o))
    | inr more ↦ let behind = rises_head left rest item e up x more in absurd (omega (arith, lt, at, behind))
  ]
  | inr done ↦ done.0
]

pub found_end : (all left : List Item) (offset : ℕ) (near : Option (ℤ × ℤ)) → left ≡ [] → IsFound all left offset near → (x : Item) (w : ℤ × ℤ) → Has all x → x.offset ≡ offset → x.writer ≡ Some w → near ≡ Some w
found_end all left offset near e inv x w h at by = elim (inv x w h at by) [ inl is ↦ absurd (subst (λ z. Has z x) e is) | inr done ↦ done.0 ]

pub found_next : (all left rest : List Item) (item : Item) (offset : ℕ) (near now : Option (ℤ × ℤ)) → left ≡ item ∷ rest → Rises left → item.offset ≤ offset → now ≡ option_or item.writer near → IsFound all left offset near → IsFound all rest offset now
found_next all left rest item offset near now e up le is inv x w h at by = elim (inv x w h at by) [
  | inl here ↦ elim (subst (λ z. Has z x) e here) [
    | inl same ↦
        let wrote : item.writer ≡ Some w = ap (λ (z : Item). z.writer) same ∙ by in
        let o : item.offset ≡ offset = ap (λ (z : Item). z.offset) same ∙ at in
        inr (is ∙ ap (λ z. option_or z near) wrote, λ y g. let behind = rises_head left rest item e up y g in omega (arith, o, behind))
    | inr more ↦ inl more
  ]
  | inr done ↦ let behind = done.1 item (subst (λ z. Has z item) (sym e) (inl refl)) in absurd (omega (arith, le, behind))
]

-- a record that isn't there, where that is asked
found_skip : (all left rest : List Item) (item : Item) (offset : ℕ) (near : Option (ℤ × ℤ)) → left ≡ item ∷ rest → item.offset ≢ offset → IsFound all left offset near → IsFound all rest offset near
found_skip all left rest item offset near e other inv x w h at by = elim (inv x w h at by) [
  | inl here ↦ elim (subst (λ z. Has z x) e here) [
    | inl same ↦ absurd (other (ap (λ (z : Item). z.offset) same ∙ at))
    | inr more ↦ inl more
  ]
  | inr done ↦ inr (done.0, λ y g. done.1 y (subst (λ z. Has z y) (sym e) (inr g)))
]

pub found_either : (all left rest : List Item) (item : Item) (offset : ℕ) (near now : Option (ℤ × ℤ)) → left ≡ item ∷ rest → Rises left → item.offset ≤ offset
    → (now ≡ option_or item.writer near) ⊎ ((now ≡ near) × (item.offset ≢ offset)) → IsFound all left offset near → IsFound all rest offset now
found_either all left rest item offset near now e up le (inl is) inv = found_next all left rest item offset near now e up le is inv
found_either all left rest item offset near now e up le (inr (is, other)) inv = subst (λ z. IsFound all rest offset z) (sym is) (found_skip all left rest item offset near e other inv)

-- ---- whose place it is

placed : (every : List Column) (w : ℤ × ℤ) (r : Option ℕ) (i : ℕ) → IsPlaceOf every w r → IsOfWriter (slice_get every i) w → IsThere every r w
placed every w None i h of = h i of
placed every w (Some m) i h of = h

pub of_writer : (logs : List PartLog) (every : List Column) (place : Place) (q : PartLog) (r : Option ℕ) (near : Option (ℤ × ℤ)) → Has logs q → part_name q ≡ place.partition
    → ((x : Item) (w : ℤ × ℤ) → Has q.items x → x.offset ≡ place.offset → x.writer ≡ Some w → near ≡ Some w) → ((w : ℤ × ℤ) → near ≡ Some w → IsPlaceOf every w r)
    → IsOfRecordAt logs every r place
of_writer logs every place q r near has_q named found is p x w i alone plain has at by of =
    let same : q ≡ p = alone.alone q has_q named in
    placed every w r i (is w (found x w (subst (λ (z : PartLog). Has z.items x) (sym same) has) at by)) of

-- those of the name are yet to come
abbrev pub IsAhead : List PartLog → ℕ → PartitionName → Type 0
IsAhead logs k name = (q : PartLog) → Has logs q → part_name q ≡ name → Has (drop k logs) q

pub none_any : (logs : List PartLog) (every : List Column) (r : Option ℕ) (place : Place) → IsOfRecordAt logs every None place → IsOfRecordAt logs every r place
none_any logs every r place h p x w i alone plain has at by of = absurd (h p x w i alone plain has at by of)

-- the first spot's, or that of a later one
pub middle_step : (logs : List PartLog) (every : List Column) (spots : List Spot) (k : ℕ) (d s : Spot) (r : Option ℕ) (place : Place) → s ≡ slice_index_or spots k d
    → ((at : Place) → s ≡ spot_at at → IsOfRecordAt logs every r at) → (k ≡ 0) ⊎ IsOfRecordAt logs every None place → StartsAt spots (Some place) → IsOfRecordAt logs every r place
middle_step logs every spots k d s r place is of (inr done) starts = none_any logs every r place done
middle_step logs every spots k d s r place is of (inl zero_yet) starts =
    let first : slice_index_or spots k d ≡ spot_at place = ap (λ z. slice_index_or spots z d) zero_yet ∙ ap (λ z. slice_index_or z 0 d) starts.1 in
    of place (is ∙ first)

pub middle_end : (logs : List PartLog) (every : List Column) (spots : List Spot) (k : ℕ) (place : Place) → length spots ≤ k → (k ≡ 0) ⊎ IsOfRecordAt logs every None place → StartsAt spots (Some place) → IsOfRecordAt logs every None place
middle_end logs every spots k place le (inr done) starts = done
middle_end logs every spots k place le (inl zero_yet) starts = let n : length spots ≡ suc (length starts.0) = ap length starts.1 in absurd (omega (arith, le, zero_yet, n))

pub some_same : (v w : ℤ × ℤ) → Some v ≡ Some w → v ≡ w
some_same v w e = cc
