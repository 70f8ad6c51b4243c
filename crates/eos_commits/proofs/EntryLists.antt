-- What a table picks for an application are its commits.
use Rattle.std.proofs.Common.{◌≡◌, ◌∙◌, ◌++◌, ◌&&◌, ℕ, ℤ, Option, None, Some, Result, Ok, Err, List, [], ◌∷◌, map, flat_map, refl, sym, ap, subst, Bool, true, false, if◌then◌else◌, IsPermutation}
use Rattle.std.specs.Prelude.{filter}
use Rattle.std.specs.Ordering.{nat_cmp, is_eq}
use Rattle.std.specs.Cmp.Lexicographic.{slice_cmp}
use Rattle.std.specs.declared.cmp.Ordering.{Ordering}
use Rattle.std.specs.declared.cmp.Ordering.TheVariants.{Less, Equal, Greater}
use Rattle.std.proofs.lemmas.Grind.{flat_map-append}
use Rattle.std.proofs.lemmas.List.Folds.{flat_map-map}
use Rattle.eos_base.specs.declared.record_fault.RecordFault.{RecordFault}
use Rattle.eos_base.specs.Members.{Has, is_found}
use Rattle.eos_base.proofs.Exact.{bytes_exact}
use Rattle.eos_base.proofs.Membership.{found_has, has_found, has_map}
use Rattle.eos_evidence.specs.declared.application.App.{App}
use Rattle.eos_offsets.specs.declared.key.OffsetKey.{OffsetKey}
use Rattle.eos_fold.specs.declared.item.Item.{Item}
use Rattle.eos_fold.specs.Parts.{PartLog}
use Rattle.eos_claims.specs.Outputs.{Writer}
use Rattle.eos_commits.specs.EpochCommits.{EpochCommit, under, epoch_in, epoch_commits_of}
use Rattle.eos_commits.specs.declared.table.Entry.{Entry}
use Rattle.eos_commits.specs.Visible.{is_visible}
use Rattle.eos_commits.specs.Commits.{Group, Topic, is_same, is_of, is_offsets_part, key_of, value_of, commit_with, commit_under}
use Rattle.eos_commits.specs.Tables.{Tabled, IsTableOf, pick, pick_of_topics, picked}
use Rattle.eos_commits.specs.steps.CommitLists.{commit_at, commits_at}
use Rattle.eos_commits.specs.steps.Entries.{AreEntriesOf, plain_entry, is_read, is_under, entry_under, entry_at, entries_at, entries_by}
use Rattle.eos_commits.specs.steps.Roles.{Source, source_cmp, sources_of, sources_under}
use Rattle.eos_commits.proofs.CommitSets.{flat_filter, in_log}
use Rattle.eos_commits.proofs.RoleSearch.{found_in_order, IsRead, read_is_found, source_total}

-- ---- texts

pub same_is : (a b : List ℕ) → is_same a b ≡ true → a ≡ b
same_is a b e = go (slice_cmp nat_cmp a b) refl e
  where
    go : (o : Ordering) → slice_cmp nat_cmp a b ≡ o → is_eq o ≡ true → a ≡ b
    go Equal q t = bytes_exact a b q
    go Less q t = absurd cc
    go Greater q t = absurd cc

-- ---- a record

-- every key that an application reads is tabled
abbrev pub Covers : (OffsetKey → Bool) → Group → List Topic → Type 0
Covers ours group sources = (key : OffsetKey) → is_of group sources key ≡ true → ours key ≡ true

picked_one : (group : Group) (sources : List Topic) (key : OffsetKey) (c : EpochCommit) → c.commit.partition.topic ≡ key.topic
    → picked group sources ((key.group, c) ∷ []) ≡ (if is_of group sources key then c ∷ [] else [])
picked_one group sources key c e =
    go (is_same group key.group) (is_found (slice_cmp nat_cmp) sources c.commit.partition.topic)
    ∙ ap (λ (t : Topic). if is_same group key.group && is_found (slice_cmp nat_cmp) sources t then c ∷ [] else []) e
  where
    go : (a b : Bool) → (if a then (if b then c ∷ [] else []) else []) ++ [] ≡ (if a && b then c ∷ [] else [])
    go true true = refl
    go true false = refl
    go false b = refl

nothing_if : (b : Bool) → ◌≡◌ {A = List EpochCommit} [] (if b then [] else [])
nothing_if true = refl
nothing_if false = refl

picked_key : (group : Group) (sources : List Topic) (key : OffsetKey) (epoch : ℤ) (value : Option (Result ℤ RecordFault)) (writer : Option Writer)
    → picked group sources (map (λ c. (key.group, c)) (map (under epoch) (commit_with key value writer))) ≡ (if is_of group sources key then map (under epoch) (commit_with key value writer) else [])
picked_key group sources key epoch None writer = nothing_if (is_of group sources key)
picked_key group sources key epoch (Some (Err fault)) writer = nothing_if (is_of group sources key)
picked_key group sources key epoch (Some (Ok offset)) writer =
    picked_one group sources key (under epoch (record { partition = record { topic = key.topic; partition = key.partition }; offset = offset; writer = writer })) refl

picked_under : (group : Group) (sources : List Topic) (ours : OffsetKey → Bool) → Covers ours group sources → (r : Result (Option OffsetKey) RecordFault) (x : Item)
    → picked group sources (entry_under ours r x) ≡ map (under (epoch_in x.value)) (commit_under (is_of group sources) r x)
picked_under group sources ours covers (Err fault) x = refl
picked_under group sources ours covers (Ok None) x = refl
picked_under group sources ours covers (Ok (Some key)) x = go (ours key) (is_of group sources key) refl refl ∙ sym (map_if (is_of group sources key))
  where
    cs : List EpochCommit
    cs = map (under (epoch_in x.value)) (commit_with key (value_of x) x.writer)

    map_if : (b : Bool) → map (under (epoch_in x.value)) (if b then commit_with key (value_of x) x.writer else []) ≡ (if b then cs else [])
    map_if true = refl
    map_if false = refl

    go : (a b : Bool) → ours key ≡ a → is_of group sources key ≡ b → picked group sources (if a then map (λ c. (key.group, c)) cs else []) ≡ (if b then cs else [])
    go true b p q = picked_key group sources key (epoch_in x.value) (value_of x) x.writer ∙ ap (λ t. if t then cs else []) q
    go false true p q = absurd (let h : false ≡ true = sym p ∙ covers key q in cc)
    go false false p q = refl

picked_at : (group : Group) (sources : List Topic) (ours : OffsetKey → Bool) → Covers ours group sources → (x : Item)
    → picked group sources (entry_at ours x) ≡ commit_at (is_of group sources) x
picked_at group sources ours covers x = go (is_visible x.fate)
  where
    go : (b : Bool) → picked group sources (if b then entry_under ours (key_of x) x else []) ≡ (if b then map (under (epoch_in x.value)) (commit_under (is_of group sources) (key_of x) x) else [])
    go true = picked_under group sources ours covers (key_of x) x
    go false = refl

-- ---- a log

picked_flat : {X : Type 0} (group : Group) (sources : List Topic) (f : X → List Tabled) (xs : List X) → picked group sources (flat_map f xs) ≡ flat_map (λ x. picked group sources (f x)) xs
picked_flat group sources f [] = refl
picked_flat group sources f (x ∷ xs) =
    flat_map-append (pick group sources) (f x) (flat_map f xs) ∙ ap (λ ys. picked group sources (f x) ++ ys) (picked_flat group sources f xs)

picked_part : (group : Group) (sources : List Topic) (ours : OffsetKey → Bool) → Covers ours group sources → (p : PartLog)
    → picked group sources (entries_at ours p) ≡ commits_at (is_of group sources) p
picked_part group sources ours covers p = go (is_offsets_part p)
  where
    go : (b : Bool) → picked group sources (if b then flat_map (entry_at ours) p.items else []) ≡ (if b then flat_map (commit_at (is_of group sources)) p.items else [])
    go true = picked_flat group sources (entry_at ours) p.items ∙ (λ i. flat_map (λ x. picked_at group sources ours covers x i) p.items)
    go false = refl

picked_log : (group : Group) (sources : List Topic) (ours : OffsetKey → Bool) → Covers ours group sources → (ps : List PartLog)
    → picked group sources (entries_by ours ps) ≡ epoch_commits_of group sources ps
picked_log group sources ours covers ps =
    picked_flat group sources (entries_at ours) ps ∙ ((λ i. flat_map (λ p. picked_part group sources ours covers p i) ps) ∙ in_log group sources ps)

-- ---- an application's groups and topics are covered

is_of_parts : (group : Group) (sources : List Topic) (key : OffsetKey) → is_of group sources key ≡ true → (group ≡ key.group) × Has sources key.topic
is_of_parts group sources key e =
    let p = both (is_same group key.group) (is_found (slice_cmp nat_cmp) sources key.topic) e in
    (same_is group key.group p.0, found_has (slice_cmp nat_cmp) bytes_exact sources key.topic p.1)
  where
    both : (a b : Bool) → (a && b) ≡ true → (a ≡ true) × (b ≡ true)
    both true true e = (refl, refl)
    both true false e = absurd cc
    both false b e = absurd cc

covered : (apps : List App) (keys : List Source) → IsPermutation (sources_of apps) keys → (app : App) → Has apps app → Covers (is_read keys) app.group app.sources
covered apps keys p app has key e = found_in_order source_cmp (sources_of apps) keys (key.group, key.topic) p ∙ read_is_found apps key.group key.topic read
  where
    parts : (app.group ≡ key.group) × Has app.sources key.topic
    parts = is_of_parts app.group app.sources key e

    read : IsRead apps key.group key.topic
    read = record { app = app; has = has; group_is = parts.0; source = parts.1 }

covered_group : (group : Group) (sources : List Topic) (keys : List Source) → IsPermutation (sources_under group sources) keys → Covers (is_read keys) group sources
covered_group group sources keys p key e =
    let parts = is_of_parts group sources key e in
    let own = sources_under group sources in
    let has : Has own (group, key.topic) = has_map (λ t. (group, t)) sources key.topic parts.1 in
    found_in_order source_cmp own keys (key.group, key.topic) p
    ∙ has_found source_cmp source_total own (key.group, key.topic) (subst (λ (g : Group). Has own (g, key.topic)) parts.0 has)

-- ---- a table in another order

picked_filter : (group : Group) (sources : List Topic) (es : List Entry)
    → picked group sources (map plain_entry es) ≡ flat_map (λ e. pick_of_topics sources (plain_entry e)) (filter (is_under group) es)
picked_filter group sources es = flat_map-map (pick group sources) plain_entry es ∙ flat_filter (λ e. pick_of_topics sources (plain_entry e)) (is_under group) es

table_of : (group : Group) (sources : List Topic) (ps : List PartLog) (keys : List Source) (es : List Entry) → Covers (is_read keys) group sources → AreEntriesOf (is_read keys) ps es
    → picked group sources (map plain_entry es) ≡ epoch_commits_of group sources ps
table_of group sources ps keys es covers are =
    picked_filter group sources es
    ∙ (ap (flat_map (λ e. pick_of_topics sources (plain_entry e))) (are.stable group)
    ∙ (sym (picked_filter group sources are.flat)
    ∙ (ap (picked group sources) are.all
    ∙ picked_log group sources (is_read keys) covers ps)))

pub is_table : (apps : List App) (ps : List PartLog) (keys : List Source) (es : List Entry) → IsPermutation (sources_of apps) keys → AreEntriesOf (is_read keys) ps es → IsTableOf apps ps (map plain_entry es)
is_table apps ps keys es p are app has = table_of app.group app.sources ps keys es (covered apps keys p app has) are

pub of_group : (group : Group) (sources : List Topic) (ps : List PartLog) (keys : List Source) (es : List Entry) → IsPermutation (sources_under group sources) keys → AreEntriesOf (is_read keys) ps es
    → picked group sources (map plain_entry es) ≡ epoch_commits_of group sources ps
of_group group sources ps keys es p are = table_of group sources ps keys es (covered_group group sources keys p) are

-- the topics in another order
pub picked_any : (group : Group) (sources set : List Topic) (table : List Tabled) → IsPermutation sources set → picked group set table ≡ picked group sources table
picked_any group sources set table p =
    λ i. flat_map (λ e. if is_same group e.0 then (if found_in_order (slice_cmp nat_cmp) sources set e.1.commit.partition.topic p i then e.1 ∷ [] else []) else []) table
