-- A listing without options is that of every record.
use Rattle.std.proofs.Common.{◌≡◌, ℕ, ◌+◌, ◌-◌, ◌^◌, ◌≤◌, ◌<◌, ℤ, pos, negsuc, ◌+ℤ◌, ◌≤ℤ◌, Bool, true, List, [], ◌∷◌, ◌++◌, length, Option, Result, Ok, Err, arith, refl, ap, subst, ◌∙◌, inl, inr}
use Rattle.std.proofs.lemmas.List.{append-nil}
use Rattle.std.proofs.lemmas.Bool.{lt-ltb, le-leb}
use Rattle.std.proofs.lemmas.Int.{ints}
use Rattle.std.specs.Prelude.{if◌then◌else◌}
use Rattle.eos_batch.specs.declared.batch.Batch.{Batch}
use Rattle.eos_batch.specs.declared.record.Record.{Record}
use Rattle.eos_batch.specs.Rules.{IsCounted}
use Rattle.eos_segment.specs.declared.fault.RunFault.{RunFault}
use Rattle.eos_segment.specs.declared.fault.RunFault.TheVariants as faults
use Rattle.eos_segment.specs.declared.options.ListingOptions.{ListingOptions}
use Rattle.eos_segment.specs.Choosing.{plain_options, is_asked, chosen_record, chosen_records, asks_for_one, chosen_lines, IsChosenListing}
use Rattle.eos_segment.specs.Lines.{record_line, record_lines, batch_line}
use Rattle.eos_segment.specs.Listing.{Lists, IsListing, batch_lines, kind_word}
use Rattle.eos_segment.specs.Running.{Ran}

-- each offset that a log can have is asked for
all_asked : (n : ℕ) → n < 2 ^ 63 → is_asked plain_options (pos n) ≡ true
all_asked n small = rw (le-leb 0 n (omega arith), lt-ltb n (2 ^ 64 - 1) (omega arith)) refl

one_plain : (b : Batch) (n : ℕ) (r : Record) → n < 2 ^ 63 → chosen_record plain_options b (pos n) r ≡ record_line (pos n) r
unfolding chosen_record
one_plain b n r small = rw (all_asked n small) (append-nil (record_line (pos n) r))

records_plain : (b : Batch) (n : ℕ) (rs : List Record) → n + length rs ≤ 2 ^ 63 → chosen_records plain_options b (pos n) rs ≡ record_lines (pos n) rs
records_plain b n [] small = refl
records_plain b n (r ∷ rs) small = rw (one_plain b n r (omega arith), records_plain b (n + 1) rs (omega arith)) refl

when_true : (test : Bool) (xs ys : List ℕ) → test ≡ true → xs ≡ ys → (if test then xs else []) ≡ ys
when_true test xs ys e same = rw e same

whole_plain : (byte : ℕ) (b : Batch) (base : ℤ) (rs : List Record) → 1 ≤ length rs → pos 0 ≤ℤ base → (base +ℤ pos (length rs)) ≤ℤ pos (2 ^ 63)
    → (if asks_for_one plain_options base rs then batch_line byte (kind_word b) b ++ chosen_records plain_options b base rs else []) ≡ batch_line byte (kind_word b) b ++ record_lines base rs
whole_plain byte b base [] some first last = absurd (omega (arith, some))
whole_plain byte b (negsuc n) (r ∷ rs) some first last = absurd (omega (arith, ints, first))
whole_plain byte b (pos n) (r ∷ rs) some first last =
    let small : n + length (r ∷ rs) ≤ 2 ^ 63 = omega (arith, ints, last) in
    let asked : asks_for_one plain_options (pos n) (r ∷ rs) ≡ true = rw (all_asked n (omega (arith, small))) refl in
    when_true _ _ _ asked (ap (λ (l : List ℕ). batch_line byte (kind_word b) b ++ l) (records_plain b n (r ∷ rs) small))

pub lines_plain : (byte : ℕ) (b : Batch) → IsCounted b → chosen_lines plain_options byte b ≡ batch_lines byte b
lines_plain byte b counted = whole_plain byte b b.base_offset b.records counted.some counted.first counted.last

lists_plain : (byte : ℕ) (bytes : List ℕ) (batches : List Batch) (text : List ℕ) (status : ℕ) → Lists (chosen_lines plain_options) byte bytes batches text status → Lists batch_lines byte bytes batches text status
lists_plain byte bytes [] text status h = h
lists_plain byte bytes (b ∷ bs) text status h =
    (h.0, h.1, h.2, h.3, h.4, h.5 ∙ ap (λ (l : List ℕ). l ++ h.2) (lines_plain byte b h.3.counted), lists_plain (byte + length h.0) h.1 bs h.2 status h.6)

-- what answers in one sense answers in another
pub also : (A B : List ℕ → List ℕ → ℕ → Type 0) → ((bytes text : List ℕ) (status : ℕ) → A bytes text status → B bytes text status)
    → (left rest old new : Option (List ℕ)) (result : Result ℕ RunFault) → Ran A left rest old new result → Ran B left rest old new result
also A B f left rest old new (Ok status) h = record { bytes = h.bytes; read = h.read; written = (h.written.0, f h.bytes h.written.0 status h.written.1, h.written.2) }
also A B f left rest old new (Err faults.Read) h = h
also A B f left rest old new (Err faults.Limit) h = h
also A B f left rest old new (Err faults.Write) h = record { bytes = h.bytes; read = h.read; written = (h.written.0, h.written.1, f h.bytes h.written.0 h.written.1 h.written.2, h.written.3) }
also A B f left rest old new (Err faults.OutOfMemory) (inl h) = inl h
also A B f left rest old new (Err faults.OutOfMemory) (inr h) = inr (record { bytes = h.bytes; read = h.read; written = (h.written.0, h.written.1, f h.bytes h.written.0 h.written.1 h.written.2, h.written.3) })

pub plain_run : (o : ListingOptions) (left rest old new : Option (List ℕ)) (result : Result ℕ RunFault) → o ≡ plain_options
    → Ran (IsChosenListing o) left rest old new result → Ran IsListing left rest old new result
plain_run o left rest old new result e h =
    let plain : Ran (IsChosenListing plain_options) left rest old new result = subst (λ (o : ListingOptions). Ran (IsChosenListing o) left rest old new result) e h in
    also (IsChosenListing plain_options) IsListing (λ bytes text status l. (l.0, lists_plain 0 bytes l.0 text status l.1)) left rest old new result plain
