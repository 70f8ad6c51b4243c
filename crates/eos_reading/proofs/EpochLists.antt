-- The entries of batches that follow others.
use Rattle.std.proofs.Common.{◌≡◌, ℕ, ◌-◌, ℤ, List, [], ◌∷◌, ◌++◌, Bool, true, false, length, Option, Some, None, refl, sym, ap, ◌∙◌, append_assoc, arith}
use Rattle.std.specs.List.{slice_get}
use Rattle.std.specs.Ordering.{int_eq}
use Rattle.std.specs.Prelude.{option_map, not}
use Rattle.std.proofs.lemmas.Bool.Decides.{Decides-int_eq}
use Rattle.eos_batch.specs.declared.batch.Batch.{Batch}
use Rattle.eos_batch.specs.Offsets.{offset_of}
use Rattle.eos_reading.specs.declared.epoch.EpochEntry.{EpochEntry}
use Rattle.eos_reading.specs.Epochs.{is_change, entry_at, epoch_entries, epoch_behind, entries_behind}

-- ---- the last entry

abbrev epochs : Option EpochEntry → Option ℤ
epochs o = option_map (λ e. e.epoch) o

behind_some : (last : Option ℤ) (e : EpochEntry) (es : List EpochEntry) → epoch_behind last (e ∷ es) ≡ epochs (slice_get (e ∷ es) (length es))
behind_some last e [] = refl
behind_some last e (f ∷ fs) = behind_some (Some e.epoch) f fs

pub last_is : (es : List EpochEntry) → epoch_behind None es ≡ epochs (slice_get es (length es - 1))
last_is [] = refl
last_is (e ∷ es) = let n : length (e ∷ es) - 1 ≡ length es = omega arith in behind_some None e es ∙ ap (λ (k : ℕ). epochs (slice_get (e ∷ es) k)) (sym n)

pub last_none : (es : List EpochEntry) → slice_get es (length es - 1) ≡ None → None ≡ epoch_behind None es
last_none es none = sym (last_is es ∙ ap epochs none)

pub last_some : (es : List EpochEntry) (e : EpochEntry) → slice_get es (length es - 1) ≡ Some e → Some e.epoch ≡ epoch_behind None es
last_some es e is = sym (last_is es ∙ ap epochs is)

-- ---- those that follow

pub follow_none : (last : Option ℤ) (more : List EpochEntry) → slice_get more 0 ≡ None → more ≡ entries_behind last more
follow_none last [] none = refl
follow_none last (e ∷ es) none = absurd cc

pub follow_all : (last : Option ℤ) (more : List EpochEntry) (first : EpochEntry) → slice_get more 0 ≡ Some first → is_change last first.epoch ≡ true → more ≡ entries_behind last more
follow_all last [] first is change = absurd cc
follow_all last (e ∷ es) first is change =
    let same : e ≡ first = cc in
    let here : is_change last e.epoch ≡ true = ap (λ (x : EpochEntry). is_change last x.epoch) same ∙ change in
    rw here refl

-- ---- the entries of batches that follow others

-- the epoch of the last batch
abbrev last_of : Option ℤ → List Batch → Option ℤ
last_of last [] = last
last_of last (b ∷ bs) = last_of (Some b.leader_epoch) bs

negated : (b : Bool) → not b ≡ false → b ≡ true
negated true e = refl
negated false e = absurd cc

unchanged : (last : Option ℤ) (epoch : ℤ) → is_change last epoch ≡ false → last ≡ Some epoch
unchanged None epoch e = absurd cc
unchanged (Some last) epoch e = ap Some ((Decides-int_eq last epoch).0 (negated (int_eq last epoch) e))

behind_entry : (last : Option ℤ) (offset : ℕ) (epoch : ℤ) (es : List EpochEntry) (change : Bool) → is_change last epoch ≡ change → epoch_behind last (entry_at change offset epoch ++ es) ≡ epoch_behind (Some epoch) es
behind_entry last offset epoch es true e = refl
behind_entry last offset epoch es false e = ap (λ (o : Option ℤ). epoch_behind o es) (unchanged last epoch e)

behind_all : (last : Option ℤ) (bs : List Batch) → epoch_behind last (epoch_entries last bs) ≡ last_of last bs
behind_all last [] = refl
behind_all last (b ∷ bs) =
    behind_entry last (offset_of b) b.leader_epoch (epoch_entries (Some b.leader_epoch) bs) (is_change last b.leader_epoch) refl
    ∙ behind_all (Some b.leader_epoch) bs

entries_append : (last : Option ℤ) (bs cs : List Batch) → epoch_entries last (bs ++ cs) ≡ epoch_entries last bs ++ epoch_entries (last_of last bs) cs
entries_append last [] cs = refl
entries_append last (b ∷ bs) cs =
    let one = entry_at (is_change last b.leader_epoch) (offset_of b) b.leader_epoch in
    ap (λ (es : List EpochEntry). one ++ es) (entries_append (Some b.leader_epoch) bs cs)
    ∙ sym (append_assoc one (epoch_entries (Some b.leader_epoch) bs) (epoch_entries (last_of (Some b.leader_epoch) bs) cs))

pub entries_on : (bs cs : List Batch) (es : List EpochEntry) → es ≡ epoch_entries None bs → es ++ epoch_entries (epoch_behind None es) cs ≡ epoch_entries None (bs ++ cs)
entries_on bs cs es is =
    ap (λ (xs : List EpochEntry). xs ++ epoch_entries (epoch_behind None xs) cs) is
    ∙ (ap (λ (o : Option ℤ). epoch_entries None bs ++ epoch_entries o cs) (behind_all None bs) ∙ sym (entries_append None bs cs))

own : (last : Option ℤ) (cs : List Batch) → entries_behind last (epoch_entries None cs) ≡ epoch_entries last cs
own last [] = refl
own last (c ∷ cs) = refl

-- of both, where each has its own
pub entries_both : (bs cs : List Batch) (es fs : List EpochEntry) → es ≡ epoch_entries None bs → fs ≡ epoch_entries None cs → es ++ entries_behind (epoch_behind None es) fs ≡ epoch_entries None (bs ++ cs)
entries_both bs cs es fs is are =
    ap (λ (xs : List EpochEntry). es ++ entries_behind (epoch_behind None es) xs) are
    ∙ (ap (λ (xs : List EpochEntry). es ++ xs) (own (epoch_behind None es) cs) ∙ entries_on bs cs es is)
