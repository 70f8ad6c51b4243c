-- The tests of the places, in words of the definitions.
use Rattle.std.proofs.Common.{◌≡◌, ℤ, List, [], ◌∷◌, refl, sym, subst, inl, inr, true, false, Bool, ◌&&◌, ◌||◌}
use Rattle.std.specs.List.{list_any}
use Rattle.std.specs.Ordering.{int_eq}
use Rattle.std.proofs.lemmas.Bool.Decides.{Decides-int_eq}
use Rattle.eos_base.specs.declared.partition_name.PartitionName.{PartitionName}
use Rattle.eos_base.specs.Members.{Has}
use Rattle.eos_base.proofs.Membership.{found_has, has_found, only}
use Rattle.eos_base.proofs.NamesInOrder.{name_exact, name_total}
use Rattle.eos_base.specs.PartitionNames.{name_cmp}
use Rattle.eos_batch.specs.declared.marker.Kind.{Kind}
use Rattle.eos_batch.specs.declared.marker.Kind.TheVariants.{Commit, Abort}
use Rattle.eos_batch.specs.declared.marker.Marker.{Marker}
use Rattle.eos_touch.specs.Pair.{same_kind}
use Rattle.eos_txnlog.specs.declared.decision.Decision.{Decision}
use Rattle.eos_txnlog.specs.PartitionSets.{names_of}
use Rattle.eos_fold.specs.declared.close.Close.{Close}
use Rattle.eos_fold.specs.Parts.{part_name, PartLog}
use Rattle.eos_verdict.specs.declared.match_fault.MatchFault.{MatchFault}
use Rattle.eos_table.specs.Atomic.{EndsAs, Ends}
use Rattle.eos_table.specs.MatchPlaces.{unless, lists_name, ends_as, ends, has_marker}

-- ---- tests in general

pub and_parts : (a b : Bool) → (a && b) ≡ true → (a ≡ true) × (b ≡ true)
and_parts true b e = (refl, e)
and_parts false b e = absurd cc

pub both_true : (a b : Bool) → a ≡ true → b ≡ true → (a && b) ≡ true
both_true true b p q = q
both_true false b p q = absurd cc

pub any_has : {X : Type 0} (p : X → Bool) (xs : List X) → list_any p xs ≡ true → (x : X) × Has xs x × (p x ≡ true)
any_has p [] e = absurd cc
any_has {X} p (x ∷ xs) e = go (p x) refl (any_has p xs) e
  where
    go : (b : Bool) → p x ≡ b → (list_any p xs ≡ true → (x : X) × Has xs x × (p x ≡ true)) → (b || list_any p xs) ≡ true → (y : X) × Has (x ∷ xs) y × (p y ≡ true)
    go true q more e = (x, inl refl, q)
    go false q more e = let r = more e in (r.0, inr r.1, r.2)

pub has_any : {X : Type 0} (p : X → Bool) (xs : List X) (x : X) → Has xs x → p x ≡ true → list_any p xs ≡ true
has_any p [] x h e = absurd h
has_any {X} p (y ∷ xs) x (inl q) e = first (p y) (subst (λ z. p z ≡ true) (sym q) e)
  where
    first : (b : Bool) → b ≡ true → (b || list_any p xs) ≡ true
    first true e = refl
    first false e = absurd cc
has_any {X} p (y ∷ xs) x (inr h) e = later (p y) (has_any p xs x h e)
  where
    later : (b : Bool) → list_any p xs ≡ true → (b || list_any p xs) ≡ true
    later true e = refl
    later false e = e

pub unless_has : (b : Bool) (f g : MatchFault) → Has (unless b f) g → (b ≡ false) × (f ≡ g)
unless_has true f g h = absurd h
unless_has false f g h = (refl, only f g h)

pub has_unless : (b : Bool) (f : MatchFault) → b ≡ false → Has (unless b f) f
has_unless b f e = subst (λ z. Has (unless z f) f) (sym e) (inl refl)

-- a test that isn't true
pub not_true : (b : Bool) → (b ≡ true → ⊥) → b ≡ false
not_true true n = absurd (n refl)
not_true false n = refl

-- ---- tests of the places

kind_is : (k l : Kind) → same_kind k l ≡ true → k ≡ l
kind_is Commit Commit e = refl
kind_is Abort Abort e = refl
kind_is Commit Abort e = absurd cc
kind_is Abort Commit e = absurd cc

is_kind : (k l : Kind) → k ≡ l → same_kind k l ≡ true
is_kind k l e = subst (λ z. same_kind k z ≡ true) e (itself k)
  where
    itself : (k : Kind) → same_kind k k ≡ true
    itself Commit = refl
    itself Abort = refl

int_is : (a b : ℤ) → int_eq a b ≡ true → a ≡ b
int_is a b e = (Decides-int_eq a b).0 e

is_int : (a b : ℤ) → a ≡ b → int_eq a b ≡ true
is_int a b e = (Decides-int_eq a b).1 e

pub ends_as_is : (d : Decision) (c : Close) → ends_as d c ≡ true → EndsAs d c
ends_as_is d c e = let r = and_parts (int_eq d.marker_epoch c.marker_epoch) (same_kind d.kind c.kind) e in record { epoch = int_is d.marker_epoch c.marker_epoch r.0; kind = kind_is d.kind c.kind r.1 }

pub is_ends_as : (d : Decision) (c : Close) → EndsAs d c → ends_as d c ≡ true
is_ends_as d c e = both_true (int_eq d.marker_epoch c.marker_epoch) (same_kind d.kind c.kind) (is_int d.marker_epoch c.marker_epoch e.epoch) (is_kind d.kind c.kind e.kind)

pub ends_is : (d : Decision) (m : Marker) → ends d m ≡ true → Ends d m
ends_is d m e =
    let r = and_parts (int_eq d.producer m.producer) (int_eq d.marker_epoch m.epoch && same_kind d.kind m.kind) e in
    let s = and_parts (int_eq d.marker_epoch m.epoch) (same_kind d.kind m.kind) r.1 in
    record { producer = int_is d.producer m.producer r.0; epoch = int_is d.marker_epoch m.epoch s.0; kind = kind_is d.kind m.kind s.1 }

pub is_ends : (d : Decision) (m : Marker) → Ends d m → ends d m ≡ true
is_ends d m e = both_true (int_eq d.producer m.producer) (int_eq d.marker_epoch m.epoch && same_kind d.kind m.kind) (is_int d.producer m.producer e.producer)
    (both_true (int_eq d.marker_epoch m.epoch) (same_kind d.kind m.kind) (is_int d.marker_epoch m.epoch e.epoch) (is_kind d.kind m.kind e.kind))

pub lists_is : (d : Decision) (name : PartitionName) → lists_name name d ≡ true → Has (names_of d.partitions) name
lists_is d name e = found_has name_cmp name_exact (names_of d.partitions) name e

pub is_lists : (d : Decision) (name : PartitionName) → Has (names_of d.partitions) name → lists_name name d ≡ true
is_lists d name h = has_found name_cmp name_total (names_of d.partitions) name h

pub marker_is : (d : Decision) (name : PartitionName) (p : PartLog) → has_marker d name p ≡ true → (part_name p ≡ name) × ((m : Marker) × Has p.markers m × Ends d m)
marker_is d name p e =
    let r = and_parts _ (list_any (ends d) p.markers) e in
    let m = any_has (ends d) p.markers r.1 in
    (only (part_name p) name (found_has name_cmp name_exact (part_name p ∷ []) name r.0), (m.0, m.1, ends_is d m.0 m.2))

pub is_marker : (d : Decision) (name : PartitionName) (p : PartLog) (m : Marker) → part_name p ≡ name → Has p.markers m → Ends d m → has_marker d name p ≡ true
is_marker d name p m e h ended = both_true _ (list_any (ends d) p.markers) (has_found name_cmp name_total (part_name p ∷ []) name (inl e)) (has_any (ends d) p.markers m h (is_ends d m ended))
