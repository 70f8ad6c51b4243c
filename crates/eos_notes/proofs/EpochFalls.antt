-- Where leader epochs fall, entry by entry and partition by partition.
use Rattle.std.proofs.Common.{◌≡◌, ℕ, ◌+◌, ◌<◌, ◌≤◌, ℤ, true, false, List, [], ◌∷◌, ◌++◌, length, get_or, drop, map, Option, Some, None, refl, sym, ap, ◌∙◌, append_assoc}
use Rattle.std.proofs.lemmas.List.{append-nil, drop_more}
use Rattle.std.proofs.Math.ListN.{drop_of_length-le}
use Rattle.eos_base.specs.declared.partition_name.PartitionName.{PartitionName}
use Rattle.eos_fold.specs.Parts.{PartLog, part_name}
use Rattle.eos_reading.specs.declared.epoch.EpochEntry.{EpochEntry}
use Rattle.eos_notes.specs.declared.note.Note.{Note}
use Rattle.eos_notes.specs.ReplicaNotes.{is_fall, falls_at, fall_note, fall_at, by_entries}

-- ---- entry by entry

pub falls_here : (last : Option ℤ) (es : List EpochEntry) (i : ℕ) (d : EpochEntry) (answer : Option ℕ) → i < length es → is_fall last (get_or es i d).epoch ≡ true → falls_at last (drop i es) ≡ answer → Some (get_or es i d).start_offset ≡ answer
falls_here last es i d answer lt fell is =
    let here = ap (falls_at last) (drop_more es i d lt) in
    let one : falls_at last (get_or es i d ∷ drop (i + 1) es) ≡ Some (get_or es i d).start_offset = rw fell refl in
    sym one ∙ (sym here ∙ is)

pub falls_later : (last : Option ℤ) (es : List EpochEntry) (i : ℕ) (d : EpochEntry) (answer : Option ℕ) → i < length es → is_fall last (get_or es i d).epoch ≡ false → falls_at last (drop i es) ≡ answer
    → falls_at (Some (get_or es i d).epoch) (drop (i + 1) es) ≡ answer
falls_later last es i d answer lt held is =
    let here = ap (falls_at last) (drop_more es i d lt) in
    let one : falls_at last (get_or es i d ∷ drop (i + 1) es) ≡ falls_at (Some (get_or es i d).epoch) (drop (i + 1) es) = rw held refl in
    sym one ∙ (sym here ∙ is)

pub falls_never : (last : Option ℤ) (es : List EpochEntry) (i : ℕ) (answer : Option ℕ) → length es ≤ i → falls_at last (drop i es) ≡ answer → None ≡ answer
falls_never last es i answer le is = ap (falls_at last) (sym (drop_of_length-le es le)) ∙ is

-- ---- partition by partition

-- those so far, and those of the partitions that are left
abbrev pub SoFar : (PartitionName → List EpochEntry → List Note) → List PartLog → List (List EpochEntry) → ℕ → List Note → List Note → Type 0
SoFar note ps ess i all whole = all ++ by_entries note (map part_name (drop i ps)) (drop i ess) ≡ whole

pub entries_on : (note : PartitionName → List EpochEntry → List Note) (ps : List PartLog) (ess : List (List EpochEntry)) (i : ℕ) (p : PartLog) (es : List EpochEntry) (all more whole : List Note) → i < length ps → i < length ess
    → p ≡ get_or ps i p → es ≡ get_or ess i es → more ≡ all ++ note (part_name p) es → SoFar note ps ess i all whole → SoFar note ps ess (i + 1) more whole
entries_on note ps ess i p es all more whole lt lt' is is' pushed so_far =
    let one = note (part_name p) es in
    let later = by_entries note (map part_name (drop (i + 1) ps)) (drop (i + 1) ess) in
    let here : drop i ps ≡ p ∷ drop (i + 1) ps = drop_more ps i p lt ∙ ap (λ (x : PartLog). x ∷ drop (i + 1) ps) (sym is) in
    let here' : drop i ess ≡ es ∷ drop (i + 1) ess = drop_more ess i es lt' ∙ ap (λ (xs : List EpochEntry). xs ∷ drop (i + 1) ess) (sym is') in
    let split : by_entries note (map part_name (drop i ps)) (drop i ess) ≡ one ++ later = λ j. by_entries note (map part_name (here j)) (here' j) in
    ap (λ (ns : List Note). ns ++ later) pushed ∙ (append_assoc all one later ∙ (ap (λ (ns : List Note). all ++ ns) (sym split) ∙ so_far))

none_left : (note : PartitionName → List EpochEntry → List Note) (ns : List PartitionName) → by_entries note ns [] ≡ []
none_left note [] = refl
none_left note (n ∷ ns) = refl

pub entries_out : (note : PartitionName → List EpochEntry → List Note) (ps : List PartLog) (ess : List (List EpochEntry)) (i : ℕ) (all whole : List Note) → length ess ≤ i → SoFar note ps ess i all whole → all ≡ whole
entries_out note ps ess i all whole le so_far =
    let rest = map part_name (drop i ps) in
    sym (append-nil all) ∙ (ap (λ (ns : List Note). all ++ ns) (sym (ap (by_entries note rest) (drop_of_length-le ess le) ∙ none_left note rest)) ∙ so_far)

pub entries_done : (note : PartitionName → List EpochEntry → List Note) (ps : List PartLog) (ess : List (List EpochEntry)) (i : ℕ) (all whole : List Note) → length ps ≤ i → SoFar note ps ess i all whole → all ≡ whole
entries_done note ps ess i all whole le so_far =
    sym (append-nil all) ∙ (ap (λ (qs : List PartLog). all ++ by_entries note (map part_name qs) (drop i ess)) (sym (drop_of_length-le ps le)) ∙ so_far)

pub falls_on : (ps : List PartLog) (ess : List (List EpochEntry)) (i : ℕ) (p : PartLog) (es : List EpochEntry) (all more whole : List Note) → i < length ps → i < length ess → p ≡ get_or ps i p → es ≡ get_or ess i es
    → more ≡ all ++ fall_note (part_name p) (falls_at None es) → SoFar fall_at ps ess i all whole → SoFar fall_at ps ess (i + 1) more whole
falls_on ps ess i p es all more whole lt lt' is is' pushed so_far = entries_on fall_at ps ess i p es all more whole lt lt' is is' pushed so_far

pub falls_out : (ps : List PartLog) (ess : List (List EpochEntry)) (i : ℕ) (all whole : List Note) → length ess ≤ i → SoFar fall_at ps ess i all whole → all ≡ whole
falls_out ps ess i all whole le so_far = entries_out fall_at ps ess i all whole le so_far

pub falls_done : (ps : List PartLog) (ess : List (List EpochEntry)) (i : ℕ) (all whole : List Note) → length ps ≤ i → SoFar fall_at ps ess i all whole → all ≡ whole
falls_done ps ess i all whole le so_far = entries_done fall_at ps ess i all whole le so_far
