-- The leader epoch before an offset, by the entries at which it changes, is that of the last batch that begins below it.
use Rattle.std.proofs.Common.{◌≡◌, ◌⊎◌, ℕ, ℤ, pos, ◌+◌, Bool, true, false, List, [], ◌∷◌, ◌++◌, length, Option, None, Some, refl, sym, ap, ◌∙◌, inl, inr, arith, not, if◌then◌else◌}
use Rattle.std.specs.Prelude.{int_lt, unsigned_abs}
use Rattle.std.specs.Ordering.{int_eq}
use Rattle.std.proofs.lemmas.Bool.Decides.{Decides-int_eq}
use Rattle.std.proofs.lemmas.Int.{ints}
use Rattle.eos_batch.specs.declared.batch.Batch.{Batch}
use Rattle.eos_batch.specs.Offsets.{offset_of}
use Rattle.eos_evidence.specs.declared.segment.Segment.{Segment}
use Rattle.eos_touch.specs.Front.{ContinuesFrom}
use Rattle.eos_fold.specs.declared.stop.Stop.{Stop}
use Rattle.eos_fold.specs.Fronts.{IsFront}
use Rattle.eos_fold.proofs.SteadyFronts.{front_steady}
use Rattle.eos_reading.specs.declared.epoch.EpochEntry.{EpochEntry}
use Rattle.eos_reading.specs.Epochs.{is_change, entry_at, epoch_entries}
use Rattle.eos_kept.specs.Parts.{HasEpochs}
use Rattle.eos_notes.specs.ReplacedNotes.{epoch_below, epoch_before}

-- the batches so far all begin below the offset, or those that come don't
abbrev Agree : ℤ → ℕ → Option ℤ → Option ℤ → Type 0
Agree offset n last found = (last ≡ found) ⊎ (int_lt (pos n) offset ≡ false)

unchanged : (last : Option ℤ) (epoch : ℤ) → is_change last epoch ≡ false → last ≡ Some epoch
unchanged None epoch e = absurd cc
unchanged (Some last) epoch e = go (int_eq last epoch) (Decides-int_eq last epoch).0 e
  where
    go : (same : Bool) → (same ≡ true → last ≡ epoch) → not same ≡ false → Some last ≡ Some epoch
    go true is e = ap Some (is refl)
    go false is e = absurd cc

later : (offset : ℤ) (n k : ℕ) → int_lt (pos n) offset ≡ false → int_lt (pos (n + k)) offset ≡ false
later offset n k e = grind (arith, ints)

one_batch : (offset : ℤ) (n : ℕ) (last found : Option ℤ) (epoch : ℤ) (es : List EpochEntry) (change below : Bool) → is_change last epoch ≡ change → int_lt (pos n) offset ≡ below → Agree offset n last found
    → epoch_below offset found (entry_at change n epoch ++ es) ≡ epoch_below offset (if below then Some epoch else found) es
one_batch offset n last found epoch es true below c q agree = ap (λ (b : Bool). epoch_below offset (if b then Some epoch else found) es) q
one_batch offset n last found epoch es false false c q agree = refl
one_batch offset n last found epoch es false true c q (inl same) = ap (λ (x : Option ℤ). epoch_below offset x es) (sym same ∙ unchanged last epoch c)
one_batch offset n last found epoch es false true c q (inr none) = absurd (let h : true ≡ false = sym q ∙ none in cc)

agree_on : (offset : ℤ) (n k : ℕ) (found : Option ℤ) (epoch : ℤ) (below : Bool) → int_lt (pos n) offset ≡ below → Agree offset (n + k) (Some epoch) (if below then Some epoch else found)
agree_on offset n k found epoch true q = inl refl
agree_on offset n k found epoch false q = inr (later offset n k q)

by_batches : (offset : ℤ) (n : ℕ) (last found : Option ℤ) (bs : List Batch) → ContinuesFrom n bs → Agree offset n last found → epoch_below offset found (epoch_entries last bs) ≡ epoch_before offset found bs
by_batches offset n last found [] h agree = refl
by_batches offset n last found (b ∷ bs) h agree = go (λ x g. by_batches offset (n + length b.records) (Some b.leader_epoch) x bs h.1 g) (int_lt (pos n) offset) refl
  where
    at : offset_of b ≡ n
    at = ap unsigned_abs h.0

    rest : List EpochEntry
    rest = epoch_entries (Some b.leader_epoch) bs

    go : ((x : Option ℤ) → Agree offset (n + length b.records) (Some b.leader_epoch) x → epoch_below offset x rest ≡ epoch_before offset x bs) → (below : Bool) → int_lt (pos n) offset ≡ below → epoch_below offset found (epoch_entries last (b ∷ bs)) ≡ epoch_before offset found (b ∷ bs)
    go more below q =
        ap (λ (m : ℕ). epoch_below offset found (entry_at (is_change last b.leader_epoch) m b.leader_epoch ++ rest)) at
        ∙ (one_batch offset n last found b.leader_epoch rest (is_change last b.leader_epoch) below refl q agree
        ∙ (more (if below then Some b.leader_epoch else found) (agree_on offset n (length b.records) found b.leader_epoch below q)
        ∙ sym (ap (λ (m : ℕ). epoch_before offset (if int_lt (pos m) offset then Some b.leader_epoch else found) bs) at
        ∙ ap (λ (t : Bool). epoch_before offset (if t then Some b.leader_epoch else found) bs) q)))

pub before_is : (segments : List Segment) (entries : List EpochEntry) (offset : ℤ) → HasEpochs segments entries
    → (batches : List Batch) × (stop : Stop) × IsFront 0 segments batches stop × (epoch_below offset None entries ≡ epoch_before offset None batches)
before_is segments entries offset has = (
  has.batches,
  has.stop,
  has.front,
  ap (epoch_below offset None) has.changes ∙ by_batches offset 0 None None has.batches (front_steady 0 segments has.batches has.stop has.front).continuous (inl refl),
)
