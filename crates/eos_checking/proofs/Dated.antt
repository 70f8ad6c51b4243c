-- The times of a report's records are those of the segments as they are read again.
use Rattle.std.proofs.Common.{◌≡◌, ◌<◌, ◌≤◌, ℕ, ◌+◌, Bool, true, false, List, [], ◌∷◌, ◌++◌, length, take, get_or, Option, None, Some, option_map, string_bytes, sym, ap, subst, ◌∙◌}
use Rattle.std.proofs.lemmas.List.{take_more, take_all}
use Rattle.eos_verdict.specs.declared.verdict.Fault.{Fault}
use Rattle.eos_verdict.specs.declared.verdict.Verdict.{Verdict}
use Rattle.eos_disk.specs.Entries.{Entry}
use Rattle.eos_evidence.specs.declared.partition.Partition.{Partition}
use Rattle.eos_notes.specs.declared.note.Note.{Note}
use Rattle.eos_notes.specs.declared.tally.Tallies.{Tallies}
use Rattle.eos_report.specs.declared.about.About.{About}
use Rattle.eos_report.specs.declared.dates.Dates.{Dates}
use Rattle.eos_report.specs.declared.dates.Timestamps.{Timestamps}
use Rattle.eos_report.specs.Reports.{IsReportText}
use Rattle.eos_source.specs.Said.{Known}
use Rattle.eos_checking.specs.Checking.{IsMadeIf}
use Rattle.eos_checking.specs.declared.check.Made.{Made}
use Rattle.eos_checking.specs.declared.check.Wanted.{Wanted}
use Rattle.eos_checking.specs.Dates.{AreTimesOfFault, AreTimesOfFaults, AreReadIf, AreDates, IsTextWith, IsDatedText, HasReport, IsDated, IsDatedIn}
use Rattle.eos_checking.specs.steps.Tellings.{HasDates}

-- ---- fault by fault

faults_push : (known : ℕ → Known) (partitions : List Partition) (faults : List Fault) (times : List Timestamps) (fault : Fault) (t : Timestamps) → AreTimesOfFaults known partitions faults times
    → AreTimesOfFault known partitions fault t → AreTimesOfFaults known partitions (faults ++ fault ∷ []) (times ++ t ∷ [])
faults_push known partitions [] [] fault t h one = (one, tt)
faults_push known partitions [] (x ∷ xs) fault t h one = absurd h
faults_push known partitions (f ∷ fs) [] fault t h one = absurd h
faults_push known partitions (f ∷ fs) (x ∷ xs) fault t h one = (h.0, faults_push known partitions fs xs fault t h.1 one)

-- one fault further
pub faults_more : (known : ℕ → Known) (partitions : List Partition) (faults : List Fault) (i : ℕ) (fault : Fault) (before after : List Timestamps) (t : Timestamps) → i < length faults → fault ≡ get_or faults i fault
    → AreTimesOfFaults known partitions (take i faults) before → AreTimesOfFault known partitions fault t → after ≡ before ++ t ∷ [] → AreTimesOfFaults known partitions (take (i + 1) faults) after
faults_more known partitions faults i fault before after t lt is h one pushed =
    let more : take i faults ++ fault ∷ [] ≡ take (i + 1) faults = sym (take_more faults i fault lt ∙ ap (λ (f : Fault). take i faults ++ f ∷ []) (sym is)) in
    subst (λ (ts : List Timestamps). AreTimesOfFaults known partitions (take (i + 1) faults) ts) (sym pushed)
    (subst (λ (fs : List Fault). AreTimesOfFaults known partitions fs (before ++ t ∷ [])) more (faults_push known partitions (take i faults) before fault t h one))

pub faults_all : (known : ℕ → Known) (partitions : List Partition) (faults : List Fault) (i : ℕ) (times : List Timestamps) → length faults ≤ i → AreTimesOfFaults known partitions (take i faults) times
    → AreTimesOfFaults known partitions faults times
faults_all known partitions faults i times le h = subst (λ (fs : List Fault). AreTimesOfFaults known partitions fs times) (take_all i faults le) h

-- ---- read or not

pub are_read : (known : ℕ → Known) (partitions : List Partition) (faults : List Fault) (dates : Dates) (times : List Timestamps) → dates.read ≡ true → dates.of_faults ≡ times
    → AreTimesOfFaults known partitions faults times → AreDates known partitions faults dates
are_read known partitions faults dates times is same h =
    record {
      are = subst (λ (b : Bool). AreReadIf b (AreTimesOfFaults known partitions faults dates.of_faults) dates.of_faults) (sym is)
          (subst (λ (ts : List Timestamps). AreTimesOfFaults known partitions faults ts) (sym same) h);
    }

pub are_unread : (known : ℕ → Known) (partitions : List Partition) (faults : List Fault) (dates : Dates) → dates.read ≡ false → dates.of_faults ≡ [] → AreDates known partitions faults dates
are_unread known partitions faults dates is none =
    record { are = subst (λ (b : Bool). AreReadIf b (AreTimesOfFaults known partitions faults dates.of_faults) dates.of_faults) (sym is) none }

-- ---- the report that has them

pub with_dates : (about : About) (verdict : Verdict) (faults : List Fault) (dates : Dates) (notes : List Note) (tallies : Tallies) (b : Bool) (text : Option (List ℕ))
    → IsMadeIf b (IsReportText about verdict faults dates notes tallies) text → IsMadeIf b (IsTextWith about faults dates) text
with_dates about verdict faults dates notes tallies false text h = h
with_dates about verdict faults dates notes tallies true None h = absurd h
with_dates about verdict faults dates notes tallies true (Some text) h = record { verdict = verdict; notes = notes; tallies = tallies; says = h }

by_if : (known : ℕ → Known) (partitions : List Partition) (about : About) (faults : List Fault) (dates : Dates) (b : Bool) (text : Option (List ℕ)) → AreDates known partitions faults dates
    → IsMadeIf b (IsTextWith about faults dates) text → IsMadeIf b (IsDatedText known partitions about) text
by_if known partitions about faults dates false text are h = h
by_if known partitions about faults dates true None are h = absurd h
by_if known partitions about faults dates true (Some text) are h = record { faults = faults; dates = dates; are = are; says = h }

dated_by : (known : ℕ → Known) (partitions : List Partition) (wanted : Option Wanted) (faults : List Fault) (dates : Dates) (made : Option Made) → AreDates known partitions faults dates
    → HasReport (λ about. IsTextWith about faults dates) wanted made → HasReport (IsDatedText known partitions) wanted made
dated_by known partitions None faults dates made are h = tt
dated_by known partitions (Some wanted) faults dates None are h = absurd h
dated_by known partitions (Some wanted) faults dates (Some made) are h =
    by_if known partitions wanted.about faults dates wanted.report (option_map string_bytes made.report) are h

pub dated : (known : ℕ → Known) (partitions : List Partition) (wanted : Option Wanted) (faults : List Fault) (dates : Dates) (made : Option Made) → AreDates known partitions faults dates
    → HasDates wanted faults dates made → IsDated known partitions wanted made
dated known partitions wanted faults dates made are h = record { is = dated_by known partitions wanted faults dates made are h.is }

-- what was made of these faults with these times
pub has_dates : (asked : Option Wanted) (wanted : Wanted) (faults : List Fault) (dates : Dates) (made : Made) → asked ≡ Some wanted
    → IsMadeIf wanted.report (IsTextWith wanted.about faults dates) (option_map string_bytes made.report) → HasDates asked faults dates (Some made)
has_dates asked wanted faults dates made is h =
    record { is = subst (λ (o : Option Wanted). HasReport (λ about. IsTextWith about faults dates) o (Some made)) (sym is) h }

pub none_wanted : (asked : Option Wanted) (faults : List Fault) (dates : Dates) (made : Option Made) → asked ≡ None → HasDates asked faults dates made
none_wanted asked faults dates made is =
    record { is = subst (λ (o : Option Wanted). HasReport (λ about. IsTextWith about faults dates) o made) (sym is) tt }

pub dated_too : (holds : List ℕ → Entry) (folder : List ℕ) (wanted : Option Wanted) (made told : Option Made) → told ≡ made → IsDatedIn holds folder wanted made → IsDatedIn holds folder wanted told
dated_too holds folder wanted made told same h = subst (λ (m : Option Made). IsDatedIn holds folder wanted m) (sym same) h
