-- Going along seals: the leader epochs that change.
use Rattle.std.proofs.Common.{◌≡◌, ℕ, ◌+◌, ◌<◌, ◌≤◌, ℤ, List, [], ◌++◌, length, get_or, drop, Option, Some, sym, ap, ◌∙◌, append_assoc}
use Rattle.std.proofs.lemmas.List.{append-nil, drop_more}
use Rattle.std.proofs.Math.ListN.{drop_of_length-le}
use Rattle.eos_reading.specs.declared.epoch.EpochEntry.{EpochEntry}
use Rattle.eos_reading.specs.declared.seals.Seal.{Seal}
use Rattle.eos_reading.specs.Epochs.{is_change, entry_at}
use Rattle.eos_reading.specs.Seals.{entries_of}

pub entries_on : (total so_far next : List EpochEntry) (last : Option ℤ) (ss : List Seal) (i : ℕ) (d : Seal) → i < length ss → so_far ++ entries_of last (drop i ss) ≡ total
    → next ≡ so_far ++ entry_at (is_change last (get_or ss i d).leader_epoch) (get_or ss i d).offset (get_or ss i d).leader_epoch
    → next ++ entries_of (Some (get_or ss i d).leader_epoch) (drop (i + 1) ss) ≡ total
entries_on total so_far next last ss i d lt before pushed =
    let s : Seal = get_or ss i d in
    let one = entry_at (is_change last s.leader_epoch) s.offset s.leader_epoch in
    let others = entries_of (Some s.leader_epoch) (drop (i + 1) ss) in
    let here : entries_of last (drop i ss) ≡ one ++ others = ap (entries_of last) (drop_more ss i d lt) in
    ap (λ (xs : List EpochEntry). xs ++ others) pushed ∙ (append_assoc so_far one others ∙ (ap (λ (xs : List EpochEntry). so_far ++ xs) (sym here) ∙ before))

pub entries_done : (total so_far : List EpochEntry) (last : Option ℤ) (ss : List Seal) (i : ℕ) → length ss ≤ i → so_far ++ entries_of last (drop i ss) ≡ total → so_far ≡ total
entries_done total so_far last ss i le before =
    let none : drop i ss ≡ [] = drop_of_length-le ss le in
    sym (append-nil so_far) ∙ (ap (λ (xs : List Seal). so_far ++ entries_of last xs) (sym none) ∙ before)
