-- What the walk lists at a record is what stands there.
use Rattle.std.proofs.Common.{◌≡◌, ◌∙◌, ◌⊎◌, ◌&&◌, ℤ, Bool, true, false, Option, Some, None, Result, Ok, Err, List, refl, sym, ap, subst, inl, inr, if◌then◌else◌}
use Rattle.std.specs.Prelude.{is_none}
use Rattle.eos_base.specs.declared.record_fault.RecordFault.{RecordFault}
use Rattle.eos_base.specs.Members.{Has}
use Rattle.eos_base.proofs.Decides.{differs}
use Rattle.eos_offsets.specs.declared.key.OffsetKey.{OffsetKey}
use Rattle.eos_fold.specs.declared.item.Item.{Item}
use Rattle.eos_claims.specs.declared.claim.Claim.{Claim}
use Rattle.eos_claims.specs.Headers.{claim_of}
use Rattle.eos_evidence.specs.declared.application.App.{App}
use Rattle.eos_verdict.specs.declared.visible_fault.VisibleFaultKind.{VisibleFaultKind}
use Rattle.eos_verdict.specs.declared.visible_fault.VisibleFaultKind.TheVariants.{BadLineage, BadOffset, SplitGroup, OffsetDeleted}
use Rattle.eos_commits.specs.Visible.{is_visible}
use Rattle.eos_commits.specs.Commits.{Group, is_offsets_part, key_of, value_of, IsUnderGroup}
use Rattle.eos_commits.specs.steps.Roles.{RoleSets}
use Rattle.eos_commits.proofs.RoleSearch.{found_is_read, read_is_found, AreRoles}
use Rattle.eos_commits.proofs.Spots.{Spot, IsCommit, ShowsAs}
use Rattle.eos_commits.specs.declared.shown.Shown.{Shown}
use Rattle.eos_commits.specs.steps.Gathered.{Homes, is_below, met, nothing, refused, by_value, is_source, by_key, homes_by_key, by_commit, homes_by_commit}
use Rattle.eos_commits.proofs.SpotFold.{role_of, unclaimed_at, commit_at, next_homes}
use Rattle.eos_commits.proofs.SpotFaults.{Tells}

-- ---- keys and values

abbrev Key : Type 0
Key = Result (Option OffsetKey) RecordFault

abbrev Value : Type 0
Value = Option (Result ℤ RecordFault)

abbrev some_key : OffsetKey → Key
some_key k = Ok (Some k)

inside_key : (k l : OffsetKey) → some_key k ≡ some_key l → k ≡ l
inside_key k l e = cc

same_key : (x : Item) (k : OffsetKey) → key_of x ≡ Ok (Some k) → (l : OffsetKey) → key_of x ≡ Ok (Some l) → k ≡ l
same_key x k p l q = inside_key k l (sym p ∙ q)

pub one_group : (apps : List App) (x : Item) (g h : Group) → IsUnderGroup apps g x → IsUnderGroup apps h x → g ≡ h
one_group apps x g h u v = sym u.key_group ∙ (ap (λ (k : OffsetKey). k.group) (same_key x u.key u.reads v.key v.reads) ∙ v.key_group)

-- a key that doesn't read is of no group
err_or_some : (key : Key) (e : RecordFault) (k : OffsetKey) → key ≡ Err e → key ≡ Ok (Some k) → ⊥
err_or_some key e k p q = let r : Err e ≡ Ok (Some k) = sym p ∙ q in absurd cc

none_or_some : (key : Key) (k : OffsetKey) → key ≡ Ok None → key ≡ Ok (Some k) → ⊥
none_or_some key k p q = let r : Ok None ≡ Ok (Some k) = sym p ∙ q in absurd cc

none_or_err : (key : Key) (e : RecordFault) → key ≡ Ok None → key ≡ Err e → ⊥
none_or_err key e p q = let r : Ok None ≡ Err e = sym p ∙ q in absurd cc

same_refusal : (key : Key) (d e : RecordFault) → key ≡ Err d → key ≡ Err e → d ≡ e
same_refusal key d e p q = let r : Err d ≡ Err e = sym p ∙ q in cc

ok_or_err : (v : Value) (n : ℤ) (e : RecordFault) → v ≡ Some (Ok n) → v ≡ Some (Err e) → ⊥
ok_or_err v n e p q = let r : Some (Ok n) ≡ Some (Err e) = sym p ∙ q in absurd cc

some_or_none : (v : Value) (w : Result ℤ RecordFault) → v ≡ Some w → v ≡ None → ⊥
some_or_none v w p q = let r : Some w ≡ None = sym p ∙ q in absurd cc

same_value : (v : Value) (d e : RecordFault) → v ≡ Some (Err d) → v ≡ Some (Err e) → d ≡ e
same_value v d e p q = let r : Some (Err d) ≡ Some (Err e) = sym p ∙ q in cc

inside_some : (d e : RecordFault) → Some d ≡ Some e → d ≡ e
inside_some d e q = cc

not_some : (e : RecordFault) → None ≡ Some e → ⊥
not_some e q = absurd cc

untrue : false ≡ true → ⊥
untrue q = absurd cc

-- ---- a record

-- the homes say whether the group of a record is split
pub record Splits (apps : List App) (all : List Spot) (z : Spot) (homes : Homes) : Type 0 where
  pub yes : (g : Group) → IsCommit apps g z → is_below (homes g) z.0.number ≡ true → ShowsAs apps all z SplitGroup
  pub no : (g : Group) → IsCommit apps g z → ShowsAs apps all z SplitGroup → is_below (homes g) z.0.number ≡ true

-- what is shown of a commit stands, and all that stands is shown
pub record Says (apps : List App) (all : List Spot) (z : Spot) (shown : Shown) : Type 0 where
  pub refusal : (e : RecordFault) → (shown.refusal ≡ Some e → ShowsAs apps all z (BadOffset e)) × (ShowsAs apps all z (BadOffset e) → shown.refusal ≡ Some e)
  pub split : (shown.is_split ≡ true → ShowsAs apps all z SplitGroup) × (ShowsAs apps all z SplitGroup → shown.is_split ≡ true)
  pub deleted : (shown.is_deleted ≡ true → ShowsAs apps all z OffsetDeleted) × (ShowsAs apps all z OffsetDeleted → shown.is_deleted ≡ true)

-- and the homes after it have its group, if it has one
pub record Judged (apps : List App) (all : List Spot) (z : Spot) (before : Homes) (shown : Shown) (after : Homes) : Type 0 where
  pub says : Says apps all z shown
  pub homes : ((after ≡ before) × ((g : Group) → IsCommit apps g z → ⊥)) ⊎ ((g : Group) × IsCommit apps g z × (after ≡ met before g z.0.number))

module _ (apps : List App) (r : RoleSets) (all : List Spot) (z : Spot) (hs : Homes) (are : AreRoles apps r) (splits : Splits apps all z hs) where
  abbrev x : Item
  x = z.1

  abbrev n : ℤ
  n = z.0.number

  abbrev Nobody : Type 0
  Nobody = (g : Group) → IsCommit apps g z → ⊥

  says_nothing : Nobody → ((e : RecordFault) → ShowsAs apps all z (BadOffset e) → ⊥) → Says apps all z nothing
  says_nothing nobody reads = record {
    refusal = λ e. (λ q. absurd (not_some e q), λ s. absurd (reads e s));
    split = (λ q. absurd (untrue q), λ s. absurd (nobody s.0 s.1));
    deleted = (λ q. absurd (untrue q), λ s. absurd (nobody s.0 s.1));
  }

  says_refused : is_visible x.fate ≡ true → is_offsets_part z.0 ≡ true → (e : RecordFault) → key_of x ≡ Err e → Says apps all z (refused e)
  says_refused v o e k = record {
    refusal = λ d. (
      λ q. subst (λ (w : RecordFault). ShowsAs apps all z (BadOffset w)) (inside_some e d q) (v, o, inl k),
      λ s. elim s.2 [ inl q ↦ ap Some (same_refusal (key_of x) e d k q) | inr u ↦ absurd (err_or_some (key_of x) e u.1.key k u.1.reads) ],
    );
    split = (λ q. absurd (untrue q), λ s. absurd (err_or_some (key_of x) e s.1.under.key k s.1.under.reads));
    deleted = (λ q. absurd (untrue q), λ s. absurd (err_or_some (key_of x) e s.1.under.key k s.1.under.reads));
  }

  says_value : (g : Group) → IsCommit apps g z → (v : Value) → value_of x ≡ v → Says apps all z (by_value v (is_below (hs g) n))
  says_value g c None e = record {
    refusal = λ d. (
      λ q. absurd (not_some d q),
      λ s. elim s.2 [
        | inl q ↦ absurd (err_or_some (key_of x) d c.under.key q c.under.reads)
        | inr u ↦ absurd (some_or_none (value_of x) (Err d) u.2 e)
      ],
    );
    split = (λ q. splits.yes g c q, λ s. splits.no g c s);
    deleted = (λ q. (g, c, e), λ s. refl);
  }
  says_value g c (Some (Ok m)) e = record {
    refusal = λ d. (
      λ q. absurd (not_some d q),
      λ s. elim s.2 [
        | inl q ↦ absurd (err_or_some (key_of x) d c.under.key q c.under.reads)
        | inr u ↦ absurd (ok_or_err (value_of x) m d e u.2)
      ],
    );
    split = (λ q. splits.yes g c q, λ s. splits.no g c s);
    deleted = (λ q. absurd (untrue q), λ s. absurd (some_or_none (value_of x) (Ok m) e s.2));
  }
  says_value g c (Some (Err f)) e = record {
    refusal = λ d. (
      λ q. subst (λ (w : RecordFault). ShowsAs apps all z (BadOffset w)) (inside_some f d q) (c.seen, c.offsets, inr (g, c.under, e)),
      λ s. elim s.2 [
        | inl q ↦ absurd (err_or_some (key_of x) d c.under.key q c.under.reads)
        | inr u ↦ ap Some (same_value (value_of x) f d e u.2)
      ],
    );
    split = (λ q. splits.yes g c q, λ s. splits.no g c s);
    deleted = (λ q. absurd (untrue q), λ s. absurd (some_or_none (value_of x) (Err f) e s.2));
  }

  under_of : (k : OffsetKey) → key_of x ≡ Ok (Some k) → is_source r.sources k ≡ true → IsUnderGroup apps k.group x
  under_of k e f =
      let a = found_is_read apps k.group k.topic (sym (are.sources k.group k.topic) ∙ f) in
      record { key = k; reads = e; app = a.app; has = a.has; app_group = a.group_is; key_group = refl; source = a.source }

  source_of : (k : OffsetKey) → key_of x ≡ Ok (Some k) → (g : Group) → IsUnderGroup apps g x → is_source r.sources k ≡ true
  source_of k e g u =
      let same = same_key x u.key u.reads k e in
      let group : u.app.group ≡ k.group = u.app_group ∙ (sym u.key_group ∙ ap (λ (y : OffsetKey). y.group) same) in
      are.sources k.group k.topic ∙ read_is_found apps k.group k.topic (record { app = u.app; has = u.has; group_is = group; source = subst (λ (y : OffsetKey). Has u.app.sources y.topic) same u.source })

  -- a record that is of no group and reads
  other : Nobody → ((e : RecordFault) → ShowsAs apps all z (BadOffset e) → ⊥) → Judged apps all z hs nothing hs
  other nobody reads = record { says = says_nothing nobody reads; homes = inl (refl, nobody) }

  module _ (v : is_visible x.fate ≡ true) (o : is_offsets_part z.0 ≡ true) where
    by_source : (k : OffsetKey) → key_of x ≡ Ok (Some k) → (b : Bool) → is_source r.sources k ≡ b
        → Judged apps all z hs (if b then by_value (value_of x) (is_below (hs k.group) n) else nothing) (if b then met hs k.group n else hs)
    by_source k e true f =
        let c : IsCommit apps k.group z = record { seen = v; offsets = o; under = under_of k e f } in
        record { says = says_value k.group c (value_of x) refl; homes = inr (k.group, c, refl) }
    by_source k e false f =
        let nobody : Nobody = λ g c. differs _ f (source_of k e g c.under) in
        other nobody (λ d s. elim s.2 [ inl q ↦ err_or_some (key_of x) d k q e | inr u ↦ nobody u.0 (record { seen = v; offsets = o; under = u.1 }) ])

    judged_key : (k : Key) → key_of x ≡ k → Judged apps all z hs (by_key r.sources hs n k (value_of x)) (homes_by_key r.sources hs n k)
    judged_key (Err f) e = record {
      says = says_refused v o f e;
      homes = inl (refl, λ g c. err_or_some (key_of x) f c.under.key e c.under.reads);
    }
    judged_key (Ok None) e =
        let nobody : Nobody = λ g c. none_or_some (key_of x) c.under.key e c.under.reads in
        other nobody (λ d s. elim s.2 [ inl q ↦ none_or_err (key_of x) d e q | inr u ↦ nobody u.0 (record { seen = v; offsets = o; under = u.1 }) ])
    judged_key (Ok (Some k)) e = by_source k e (is_source r.sources k) refl

  by_offsets : is_visible x.fate ≡ true → (b : Bool) → is_offsets_part z.0 ≡ b
      → Judged apps all z hs (if b then by_key r.sources hs n (key_of x) (value_of x) else nothing) (if b then homes_by_key r.sources hs n (key_of x) else hs)
  by_offsets v true o = judged_key v o (key_of x) refl
  by_offsets v false o = other (λ g c. differs _ o c.offsets) (λ e s. differs _ o s.1)

  by_visible : (b : Bool) → is_visible x.fate ≡ b
      → Judged apps all z hs (if b then by_commit r.sources (role_of r z) hs x else nothing) (if b then homes_by_commit r.sources (role_of r z) hs x else hs)
  by_visible true v = by_offsets v (is_offsets_part z.0) refl
  by_visible false v = other (λ g c. differs _ v c.seen) (λ e s. differs _ v s.0)

  pub judged : Judged apps all z hs (commit_at r hs z) (next_homes r hs z)
  judged = by_visible (is_visible x.fate) refl

  -- ---- claims

  none_is : (o : Option Claim) → is_none o ≡ true → o ≡ None
  none_is None e = refl
  none_is (Some c) e = absurd cc

  and_parts : (a b : Bool) → (a && b) ≡ true → (a ≡ true) × (b ≡ true)
  and_parts true b e = (refl, e)
  and_parts false b e = absurd cc

  abbrev asked : Bool
  asked = (role_of r z).is_output && is_none (claim_of x.headers)

  lineage_shows : (b : Bool) → is_visible x.fate ≡ b → (if b then asked else false) ≡ true → ShowsAs apps all z BadLineage
  lineage_shows true v e = let p = and_parts (role_of r z).is_output (is_none (claim_of x.headers)) e in (v, sym (are.outputs z.0.topic) ∙ p.0, none_is (claim_of x.headers) p.1)
  lineage_shows false v e = absurd (untrue e)

  shows_lineage : ShowsAs apps all z BadLineage → unclaimed_at r z ≡ true
  shows_lineage s =
      let o : (role_of r z).is_output ≡ true = are.outputs z.0.topic ∙ s.1 in
      let c : is_none (claim_of x.headers) ≡ true = ap is_none s.2 in
      let v = s.0 in
      rw (v, o, c) refl

  -- ---- all kinds

  pub told : (k : VisibleFaultKind) → Tells (unclaimed_at r z) (commit_at r hs z) k → ShowsAs apps all z k
  told BadLineage t = lineage_shows (is_visible x.fate) refl t
  told (BadOffset e) t = (judged.says.refusal e).0 t
  told SplitGroup t = judged.says.split.0 t
  told OffsetDeleted t = judged.says.deleted.0 t

  pub tells : (k : VisibleFaultKind) → ShowsAs apps all z k → Tells (unclaimed_at r z) (commit_at r hs z) k
  tells BadLineage s = shows_lineage s
  tells (BadOffset e) s = (judged.says.refusal e).1 s
  tells SplitGroup s = judged.says.split.1 s
  tells OffsetDeleted s = judged.says.deleted.1 s
