-- Visible records are judged by their offsets, keys, values and claims.
use Rattle.std.proofs.Common.{◌≡◌, inl, inr, ℕ, List, map, Option, refl, sym, ap, ◌∙◌, subst, true}
use Rattle.std.specs.Prelude.{◌<ℤ◌, option_map}
use Rattle.eos_offsets.specs.Reading.{read_value}
use Rattle.eos_base.specs.declared.partition_name.PartitionName.{PartitionName}
use Rattle.eos_base.specs.declared.record_fault.RecordFault.{RecordFault}
use Rattle.eos_evidence.specs.declared.application.App.{App}
use Rattle.eos_claims.specs.declared.claim.Claim.{Claim}
use Rattle.eos_claims.specs.Headers.{claim_of}
use Rattle.eos_fold.specs.declared.item.Item.{Item}
use Rattle.eos_fold.specs.Parts.{part_name, PartLog}
use Rattle.eos_verdict.specs.declared.visible_fault.VisibleFault.{VisibleFault}
use Rattle.eos_verdict.specs.declared.visible_fault.VisibleFaultKind.{VisibleFaultKind}
use Rattle.eos_verdict.specs.declared.visible_fault.VisibleFaultKind.TheVariants.{BadLineage, BadOffset, SplitGroup, OffsetDeleted}
use Rattle.eos_commits.specs.Visible.{visible, VisibleIn}
use Rattle.eos_commits.specs.Commits.{Group, is_offsets_part, offsets_parts, key_at, key_of, value_of, IsUnderGroup}
use Rattle.eos_commits.specs.Kept.{is_output_part, output_parts}
use Rattle.eos_commits.specs.Faults.{AtRecord, CannotRead, IsSplit, StandsAs, Stands}
use Rattle.eos_reading.specs.Wanted.{wanted_item, wanted_log, wanted_of, kept_log, wanted_logs}
use Rattle.eos_reading.specs.declared.wanted.Wanted.TheVariants.{Texts}
use Rattle.eos_reading.proofs.SameThrough.{has_same}
use Rattle.eos_check.specs.KeptVerdicts.{StandAlike}
use Rattle.eos_check.proofs.SeenSame.{filter_seen}
use Rattle.eos_check.proofs.KeptRecords.{offset_kept, visible_seen, offsets_kept, claims_kept}

-- ---- what is seen of the visible records of a partition

abbrev Seen : Type 0 → Type 0
Seen Y = PartitionName × List (ℕ × Y)

abbrev seen_item : {Y : Type 0} → (Item → Y) → Item → ℕ × Y
seen_item view x = (x.offset, view x)

abbrev seen : {Y : Type 0} → (Item → Y) → PartLog → Seen Y
seen view p = (part_name p, map (seen_item view) (visible p))

-- the like of a visible record
record Like {Y : Type 0} (view : Item → Y) (qs : List PartLog) {ps : List PartLog} (r : VisibleIn ps) : Type 0 where
  found : VisibleIn qs
  name : part_name found.part ≡ part_name r.part
  offset : found.item.offset ≡ r.item.offset
  says : view found.item ≡ view r.item

like : {Y : Type 0} (view : Item → Y) (ps qs : List PartLog) → map (seen view) ps ≡ map (seen view) qs → (r : VisibleIn ps) → Like view qs r
like {Y} view ps qs same r =
    let p = has_same (seen view) ps qs same r.part r.has_part in
    let items : map (seen_item view) (visible p.0) ≡ map (seen_item view) (visible r.part) = ap (λ (s : Seen Y). s.1) p.2 in
    let x = has_same (seen_item view) (visible r.part) (visible p.0) (sym items) r.item r.has_item in
    record {
      found = record { part = p.0; item = x.0; has_part = p.1; has_item = x.1 };
      name = ap (λ (s : Seen Y). s.0) p.2;
      offset = ap (λ (s : ℕ × Y). s.0) x.2;
      says = ap (λ (s : ℕ × Y). s.1) x.2;
    }

-- ---- records of the offsets log, by key and value

abbrev Texts_of : Type 0
Texts_of = Option (List ℕ) × Option (List ℕ)

abbrev texts : Item → Texts_of
texts x = (x.key, x.value)

offsets_seen : (apps : List App) (ps : List PartLog) → map (seen texts) (offsets_parts (wanted_logs apps ps)) ≡ map (seen texts) (offsets_parts ps)
offsets_seen apps ps =
    filter_seen (kept_log apps) is_offsets_part (seen texts) (λ p. refl) (λ p e. ap (seen texts) (offsets_kept apps p e) ∙ part_seen p) ps
  where
    part_seen : (p : PartLog) → seen texts (wanted_log Texts p) ≡ seen texts p
    part_seen p = ap (λ (items : List (ℕ × Texts_of)). (part_name p, items)) (visible_seen Texts (seen_item texts) (λ x. refl) p)

same_key : (x y : Item) → texts x ≡ texts y → key_of x ≡ key_of y
same_key x y e = ap (λ (t : Texts_of). key_at t.0) e

same_value : (x y : Item) → texts x ≡ texts y → value_of x ≡ value_of y
same_value x y e = ap (λ (t : Texts_of). option_map read_value t.1) e

same_group : (apps : List App) (group : Group) (x y : Item) → texts y ≡ texts x → IsUnderGroup apps group x → IsUnderGroup apps group y
same_group apps group x y e u = record {
  key = u.key;
  reads = same_key y x e ∙ u.reads;
  app = u.app;
  has = u.has;
  app_group = u.app_group;
  key_group = u.key_group;
  source = u.source;
}

same_refusal : (apps : List App) (x y : Item) → texts y ≡ texts x → (why : RecordFault) → CannotRead apps x why → CannotRead apps y why
same_refusal apps x y e why (inl bad) = inl (same_key y x e ∙ bad)
same_refusal apps x y e why (inr bad) = inr (bad.0, same_group apps bad.0 x y e bad.1, same_value y x e ∙ bad.2)

-- ---- records of outputs, by their claims

abbrev claim_in : Item → Option Claim
claim_in x = claim_of x.headers

outputs_seen : (apps : List App) (ps : List PartLog) → map (seen claim_in) (output_parts apps (wanted_logs apps ps)) ≡ map (seen claim_in) (output_parts apps ps)
outputs_seen apps ps = filter_seen (kept_log apps) (is_output_part apps) (seen claim_in) (λ p. refl) part_seen ps
  where
    item_seen : (p : PartLog) → is_output_part apps p ≡ true → (x : Item) → seen_item claim_in (wanted_item (wanted_of apps p.topic) x) ≡ seen_item claim_in x
    item_seen p e x =
        let o = offset_kept (wanted_of apps p.topic) x in
        let c = claims_kept apps p.topic e x in
        λ i. (o i, c i)

    part_seen : (p : PartLog) → is_output_part apps p ≡ true → seen claim_in (kept_log apps p) ≡ seen claim_in p
    part_seen p e = ap (λ (items : List (ℕ × Option Claim)). (part_name p, items)) (visible_seen (wanted_of apps p.topic) (seen_item claim_in) (item_seen p e) p)

-- ---- faults

record AtLike {Y : Type 0} (view : Item → Y) (qs : List PartLog) {ps : List PartLog} {f : VisibleFault} (at : AtRecord ps f) : Type 0 where
  there : AtRecord qs f
  name : part_name there.found.part ≡ part_name at.found.part
  says : view there.found.item ≡ view at.found.item

at_like : {Y : Type 0} (view : Item → Y) (ps qs : List PartLog) → map (seen view) ps ≡ map (seen view) qs → (f : VisibleFault) (at : AtRecord ps f) → AtLike view qs at
at_like view ps qs same f at =
    let l = like view ps qs same at.found in
    record {
      there = record { found = l.found; partition = l.name ∙ at.partition; offset = l.offset ∙ at.offset };
      name = l.name;
      says = l.says;
    }

module _ (apps : List App) (ps qs : List PartLog)
    (offsets : map (seen texts) (offsets_parts ps) ≡ map (seen texts) (offsets_parts qs))
    (outputs : map (seen claim_in) (output_parts apps ps) ≡ map (seen claim_in) (output_parts apps qs)) where
  number_of_name : (p q : PartLog) → part_name p ≡ part_name q → p.number ≡ q.number
  number_of_name p q e = ap (λ (n : PartitionName). n.partition) e

  split_like : (f : VisibleFault) (at : AtRecord (offsets_parts ps) f) (l : AtLike texts (offsets_parts qs) at) → IsSplit apps ps at.found → IsSplit apps qs l.there.found
  split_like f at l s =
      let other = like texts (offsets_parts ps) (offsets_parts qs) offsets s.other in
      let below : other.found.part.number <ℤ at.found.part.number = subst (λ n. n <ℤ at.found.part.number) (sym (number_of_name other.found.part s.other.part other.name)) s.lesser in
      record {
        group = s.group;
        here = same_group apps s.group at.found.item l.there.found.item l.says s.here;
        other = other.found;
        there = same_group apps s.group s.other.item other.found.item other.says s.there;
        lesser = subst (λ n. other.found.part.number <ℤ n) (sym (number_of_name l.there.found.part at.found.part l.name)) below;
      }

  stands_as : (f : VisibleFault) (k : VisibleFaultKind) → StandsAs apps ps f k → StandsAs apps qs f k
  stands_as f BadLineage s =
      let l = at_like claim_in (output_parts apps ps) (output_parts apps qs) outputs f s.0 in
      (l.there, l.says ∙ s.1)
  stands_as f (BadOffset why) s =
      let l = at_like texts (offsets_parts ps) (offsets_parts qs) offsets f s.0 in
      (l.there, same_refusal apps s.0.found.item l.there.found.item l.says why s.1)
  stands_as f SplitGroup s =
      let l = at_like texts (offsets_parts ps) (offsets_parts qs) offsets f s.0 in
      (l.there, split_like f s.0 l s.1)
  stands_as f OffsetDeleted s =
      let l = at_like texts (offsets_parts ps) (offsets_parts qs) offsets f s.0 in (
        l.there,
        s.1,
        same_group apps s.1 s.0.found.item l.there.found.item l.says s.2,
        same_value l.there.found.item s.0.found.item l.says ∙ s.3,
      )

pub faults_kept : (apps : List App) (ps : List PartLog) → StandAlike (Stands apps (wanted_logs apps ps)) (Stands apps ps)
faults_kept apps ps f = (
  stands_as apps (wanted_logs apps ps) ps (offsets_seen apps ps) (outputs_seen apps ps) f f.kind,
  stands_as apps ps (wanted_logs apps ps) (sym (offsets_seen apps ps)) (sym (outputs_seen apps ps)) f f.kind,
)
