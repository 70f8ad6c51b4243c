-- Records under the heads of a front that holds one for each: their offsets are those of the batches' own, whatever the records say.
use Rattle.std.proofs.Common.{◌≡◌, ℕ, suc, ◌+◌, ◌-◌, ◌<◌, Bool, true, false, not, cond, inl, inr, ◌⊎◌, List, [], ◌∷◌, ◌++◌, length, map, take, drop, get_or, Option, Some, None, refl, sym, ap, subst, ◌∙◌, arith}
use Rattle.std.specs.Prelude.{All}
use Rattle.std.proofs.lemmas.List.{length-append, length-map, length-take, length-drop, map-append}
use Rattle.std.proofs.lemmas.List.Elements.{All-nil, All-cons, All-map, All-append}
use Rattle.eos_batch.specs.declared.batch.Batch.{Batch}
use Rattle.eos_batch.specs.declared.record.Record.{Record}
use Rattle.eos_batch.specs.Attributes.{is_control}
use Rattle.eos_fold.specs.Heads.{DataHead}
use Rattle.eos_fold.specs.declared.item.Item.{Item}
use Rattle.eos_fold.specs.Batches.{DataBatch}
use Rattle.eos_fold.specs.Items.{items_of}
use Rattle.eos_fold.specs.Settling.{data_after, data_in}
use Rattle.eos_fold.specs.Parts.{Rises}
use Rattle.eos_fold.proofs.RisingItems.{items_rise}
use Rattle.eos_kept.specs.Runs.{heads_of}
use Rattle.eos_kept.specs.declared.front.Front.{Front}
use Rattle.eos_kept.specs.declared.sizes.Sizes.{Sizes}
use Rattle.eos_kept.specs.Kept.{KeptView}
use Rattle.eos_kept.specs.Passing.{data_count, HoldsEach}
use Rattle.eos_claims.specs.Headers.{claim_of}
use Rattle.eos_reading.specs.declared.wanted.Wanted.TheVariants as wants
use Rattle.eos_reading.specs.Wanted.{wanted_item, wanted_headers}
use Rattle.eos_reading.proofs.SameThrough.{pairs_same}
use Rattle.eos_reading.proofs.WantedItems.{rises_kept}
use Rattle.eos_claims.specs.declared.claim.Claim.{Claim}
use Rattle.eos_reading.specs.Outputs.{KeptOutput, claim_kept}
use Rattle.eos_reading.specs.Records.{record_of, wanted_record, ReadsBack}
use Rattle.eos_kept.specs.Items.{items_at, items_under, Fits}
use Rattle.eos_kept.specs.steps.Made.{AllKept}
use Rattle.eos_kept.specs.Records.{output_record, SaysClaim, SayClaims}
use Rattle.eos_kept.specs.steps.Fronts.{records_of, AreEach, IsApart}
use Rattle.eos_kept.proofs.ItemsWanted.{items_wanted}
use Rattle.eos_kept.proofs.RecordsKept.{heads_fit}
use Rattle.eos_kept.proofs.RecordsSaid.{items_length}

-- ---- offsets don't depend on what the records say

abbrev offset_in : Item → ℕ
offset_in x = x.offset

offsets_at : (h : DataHead) (place : ℕ) (rs qs : List Record) → length rs ≡ length qs → map offset_in (items_at h place rs) ≡ map offset_in (items_at h place qs)
offsets_at h place [] [] e = refl
offsets_at h place [] (q ∷ qs) e = absurd (omega (arith, e))
offsets_at h place (r ∷ rs) [] e = absurd (omega (arith, e))
offsets_at h place (r ∷ rs) (q ∷ qs) e = ap (λ (ns : List ℕ). (h.offset + place) ∷ ns) (offsets_at h (suc place) rs qs (omega (arith, e)))

offsets_under : (hs : List DataHead) (place : ℕ) (rs qs : List Record) → length rs ≡ length qs → map offset_in (items_under hs place rs) ≡ map offset_in (items_under hs place qs)
offsets_under [] place rs qs e = refl
offsets_under (h ∷ hs) place rs qs e =
    let n = h.count - place in
    let front = offsets_at h place (take n rs) (take n qs) (omega (arith, e, length-take n rs, length-take n qs)) in
    let back = offsets_under hs 0 (drop n rs) (drop n qs) (omega (arith, e, length-drop n rs, length-drop n qs)) in
    map-append offset_in (items_at h place (take n rs)) (items_under hs 0 (drop n rs))
    ∙ (ap (λ (ns : List ℕ). ns ++ map offset_in (items_under hs 0 (drop n rs))) front
    ∙ (ap (λ (ns : List ℕ). map offset_in (items_at h place (take n qs)) ++ ns) back
    ∙ sym (map-append offset_in (items_at h place (take n qs)) (items_under hs 0 (drop n qs)))))

records_count : (bs : List Batch) → length (records_of (data_in bs)) ≡ data_count bs
records_count [] = refl
records_count (b ∷ bs) = by (is_control b.attributes) (records_count bs)
  where
    by : (c : Bool) → length (records_of (data_in bs)) ≡ data_count bs → length (records_of (cond (not c) (data_after b bs ∷ []) [] ++ data_in bs)) ≡ cond c 0 (length b.records) + data_count bs
    by true e = omega (arith, e)
    by false e = omega (arith, e, length-append b.records (records_of (data_in bs)))

-- as many records as the batches have
offsets_of : (ds : List DataBatch) (rs : List Record) → length rs ≡ length (records_of ds) → map offset_in (items_under (heads_of ds) 0 rs) ≡ map offset_in (map (wanted_item wants.Presence) (items_of ds))
offsets_of ds rs e =
    let qs = map (wanted_record wants.Presence) (records_of ds) in
    offsets_under (heads_of ds) 0 rs qs (omega (arith, e, length-map (records_of ds) (wanted_record wants.Presence)))
    ∙ ap (map offset_in) (items_wanted wants.Presence ds)

module _ (f : Front) (rs : List Record) (h : HoldsEach f rs) (heads : List DataHead) (are : heads ≡ f.run.heads.list) where
  own_heads : heads ≡ heads_of (data_in h.batches)
  own_heads = are ∙ h.along.keeps.run.heads

  own_offsets : map offset_in (items_under heads 0 rs) ≡ map offset_in (map (wanted_item wants.Presence) (items_of (data_in h.batches)))
  own_offsets =
      let count = records_count h.batches in
      let each = h.each in
      ap (λ (hs : List DataHead). map offset_in (items_under hs 0 rs)) own_heads ∙ offsets_of (data_in h.batches) rs (omega (arith, count, each))

  pub items_rise_so : Rises (items_under heads 0 rs)
  items_rise_so =
      let items = items_of (data_in h.batches) in
      pairs_same offset_in (map (wanted_item wants.Presence) items) (items_under heads 0 rs) (sym own_offsets) (λ m n. m < n)
      ((rises_kept wants.Presence items).1 (items_rise f.begin h.batches h.along.continuous))

  pub heads_fit_so : All Fits heads
  heads_fit_so =
      let n = h.along.keeps.next in
      let l = h.along.keeps.fits in
      subst (λ (hs : List DataHead). All Fits hs) (sym own_heads) (heads_fit f.begin h.batches h.along.continuous (omega (arith, n, l)))

  pub whole_so : length (items_under heads 0 rs) ≡ length rs
  whole_so =
      let ds = data_in h.batches in
      let same = ap length own_offsets in
      let count = records_count h.batches in
      let each = h.each in
      omega (arith, same, length-map (items_under heads 0 rs) offset_in, length-map (map (wanted_item wants.Presence) (items_of ds)) offset_in, length-map (items_of ds) (wanted_item wants.Presence), items_length ds, count, each)

-- ---- which fronts hold one for each

pub each_map : {K : Type 0} (g : K → Record) (front : Option Front) (ks : List K) (rs : List Record) → rs ≡ map g ks → AreEach front ks → AreEach front rs
each_map g None ks rs e h = e ∙ ap (map g) h
each_map g (Some f) ks rs e h = let n = ap length e in let m = length-map ks g in let each = h.each in record { batches = h.batches; along = h.along; each = omega (arith, n, m, each) }

-- ---- headers that say a claim

pub of_claim_said : (key value : Option (List ℕ)) (claim : Option Claim) → ReadsBack claim → SaysClaim (record_of key value claim)
of_claim_said key value claim back = ap wanted_headers (sym back)

none_said : SaysClaim (record_of None None None)
unfolding claim_of
none_said = of_claim_said None None None refl

pub presence_says : {K : Type 0} (ks : List K) → SayClaims (map (λ (one : K). record_of None None None) ks)
presence_says [] = All-nil SaysClaim
presence_says {K} (k ∷ ks) = All-cons SaysClaim (record_of None None None) (map (λ (one : K). record_of None None None) ks) none_said (presence_says ks)

-- what holds of all that is kept holds of it taken apart
apart_all : {K : Type 0} (P : K → Type 0) (run : Option (KeptView K)) (front : Option Front) (ks : List K) (sizes : Sizes) → IsApart run front ks sizes → AllKept P run → All P ks
apart_all {K} P None front ks sizes a h = subst (λ (xs : List K). All P xs) (sym a.1) (All-nil P)
apart_all {K} P (Some v) front ks sizes a h = subst (λ (xs : List K). All P xs) (sym a.1) h

module _ (topics : List (List ℕ)) (run : Option (KeptView KeptOutput)) (front : Option Front) (ks : List KeptOutput) (sizes : Sizes) (a : IsApart run front ks sizes) (h : AllKept (λ (one : KeptOutput). ReadsBack (claim_kept topics one)) run) where
  pub outputs_back : All (λ (one : KeptOutput). ReadsBack (claim_kept topics one)) ks
  outputs_back = apart_all (λ (one : KeptOutput). ReadsBack (claim_kept topics one)) run front ks sizes a h

  pub outputs_say : SayClaims (map (output_record topics) ks)
  outputs_say = All-map SaysClaim (output_record topics) ks (λ i d lt. of_claim_said None None (claim_kept topics (get_or ks i d)) (outputs_back i d lt))

pub texts_say : (run : Option (KeptView Record)) (front : Option Front) (ks : List Record) (sizes : Sizes) → IsApart run front ks sizes → AllKept SaysClaim run → SayClaims ks
texts_say run front ks sizes a h = apart_all SaysClaim run front ks sizes a h

pub joined_all : {K : Type 0} (P : K → Type 0) (ks ls ms : List K) → (ms ≡ ks) ⊎ (ms ≡ ks ++ ls) → All P ks → All P ls → All P ms
joined_all {K} P ks ls ms (inl e) h k = subst (λ (xs : List K). All P xs) (sym e) h
joined_all {K} P ks ls ms (inr e) h k = subst (λ (xs : List K). All P xs) (sym e) (All-append P ks ls h k)
