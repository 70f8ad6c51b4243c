-- What is worked out partition by partition, beside a table of their committed offsets.
use Rattle.std.proofs.Common.{◌≡◌, ℕ, ℤ, pos, ◌+◌, ◌<◌, List, [], ◌∷◌, ◌++◌, length, take, get_or, map, flat_map, refl, sym, ap, ◌∙◌, Bool, true, false, cond, if◌then◌else◌, IsPermutation, length-append}
use Rattle.std.specs.List.{filter}
use Rattle.std.specs.Ordering.{nat_cmp}
use Rattle.std.specs.Cmp.Lexicographic.{slice_cmp}
use Rattle.std.proofs.lemmas.Grind.{flat_map-append}
use Rattle.std.proofs.lemmas.List.{append-nil, take_more, get_or-map, length-map}
use Rattle.std.proofs.lemmas.List.Elements.{filter-append}
use Rattle.eos_base.specs.declared.partition_name.PartitionName.{PartitionName}
use Rattle.eos_evidence.specs.declared.application.App.{App}
use Rattle.eos_fold.specs.Parts.{PartLog, part_name}
use Rattle.eos_claims.specs.declared.place.Place.{Place}
use Rattle.eos_claims.specs.Outputs.{Application, committed_offset}
use Rattle.eos_claims.specs.Candidates.{is_committed}
use Rattle.eos_commits.specs.Commits.{Group, Topic}
use Rattle.eos_commits.specs.Visible.{visible}
use Rattle.eos_commits.proofs.RoleSearch.{found_in_order}
use Rattle.eos_commits.specs.Applications.{is_part_of, parts_of, inputs_in, place_in}
use Rattle.eos_commits.proofs.MappedMore.{length_mapped}
use Rattle.eos_notes.specs.declared.note.Note.{Note}
use Rattle.eos_commits.specs.EvidenceLogs.{commits_for}
use Rattle.eos_notes.specs.CommitNotes.{past_end_at, past_end_of, past_ends_in}
use Rattle.eos_notes.specs.steps.Counted.{past_end_if, count_visible, count_below}
use Rattle.eos_notes.proofs.PushedMore.{pushed_more}

-- ---- the table

pub offset_at : (committed : PartitionName → ℤ) (ps : List PartLog) (os : List ℤ) (i : ℕ) (x : PartLog) (d : ℤ) → i < length ps → x ≡ get_or ps i x → os ≡ map committed (map part_name ps)
    → get_or os i d ≡ committed (part_name x)
offset_at committed ps os i x d lt is are =
    let len : i < length (map part_name ps) = rw (length-map ps part_name) lt in
    ap (λ (zs : List ℤ). get_or zs i d) are ∙ (get_or-map committed (map part_name ps) i (part_name x) d len ∙ ap committed (get_or-map part_name ps i x (part_name x) lt ∙ ap part_name (sym is)))

pub past_more : (sources : List Topic) (group : Group) (committed : PartitionName → ℤ) (front before after : List Note) (ps : List PartLog) (os : List ℤ) (i : ℕ) (x : PartLog) (o : ℤ)
    → o ≡ get_or os i (pos 0) → i < length ps → x ≡ get_or ps i x → os ≡ map committed (map part_name ps) → before ≡ front ++ flat_map (past_end_if sources group committed) (take i ps)
    → after ≡ before ++ (if is_part_of sources x then past_end_at group x o else []) → after ≡ front ++ flat_map (past_end_if sources group committed) (take (i + 1) ps)
past_more sources group committed front before after ps os i x o read lt is are so_far pushed =
    pushed_more (past_end_if sources group committed) front before after ps i x lt is so_far
    (pushed ∙ ap (λ z. before ++ (if is_part_of sources x then past_end_at group x z else [])) (read ∙ offset_at committed ps os i x (pos 0) lt is are))

-- ---- counts

chosen : {X Y : Type 0} (q : X → Bool) (g : X → List Y) (x : X) → flat_map g (filter q (x ∷ [])) ≡ (if q x then g x else [])
chosen q g x = go (q x)
  where
    go : (b : Bool) → flat_map g (cond b (x ∷ []) []) ≡ (if b then g x else [])
    go true = append-nil (g x)
    go false = refl

parts_more : {X Y : Type 0} (q : X → Bool) (g : X → List Y) (xs : List X) (i : ℕ) (x : X) → i < length xs → x ≡ get_or xs i x
    → flat_map g (filter q (take (i + 1) xs)) ≡ flat_map g (filter q (take i xs)) ++ (if q x then g x else [])
parts_more {Y = Y} q g xs i x lt is =
    let taken : take (i + 1) xs ≡ take i xs ++ x ∷ [] = take_more xs i x lt ∙ ap (λ y. take i xs ++ y ∷ []) (sym is) in
    ap (λ ys. flat_map g (filter q ys)) taken ∙ (ap (flat_map g) (filter-append q (take i xs) (x ∷ []))
    ∙ (flat_map-append g (filter q (take i xs)) (filter q (x ∷ [])) ∙ ap (λ (ys : List Y). flat_map g (filter q (take i xs)) ++ ys) (chosen q g x)))

length_if : {X : Type 0} (b : Bool) (xs : List X) (n : ℕ) → length xs ≡ n → length (if b then xs else []) ≡ (if b then n else 0)
length_if true xs n e = e
length_if false xs n e = refl

filter_if : {X : Type 0} (p : X → Bool) (b : Bool) (xs : List X) (n : ℕ) → length (filter p xs) ≡ n → length (filter p (if b then xs else [])) ≡ (if b then n else 0)
filter_if p true xs n e = e
filter_if p false xs n e = refl

pub inputs_more : (sources : List Topic) (ps : List PartLog) (i : ℕ) (x : PartLog) (before after : ℕ) → i < length ps → x ≡ get_or ps i x
    → before ≡ length (flat_map inputs_in (parts_of sources (take i ps))) → after ≡ before + (if is_part_of sources x then count_visible x.items else 0)
    → after ≡ length (flat_map inputs_in (parts_of sources (take (i + 1) ps)))
inputs_more sources ps i x before after lt is so_far counted =
    let front = flat_map inputs_in (parts_of sources (take i ps)) in
    let one : length (if is_part_of sources x then inputs_in x else []) ≡ (if is_part_of sources x then count_visible x.items else 0) = length_if (is_part_of sources x) (inputs_in x) (count_visible x.items) (length-map (visible x) (place_in (part_name x))) in
    let all = ap length (parts_more (is_part_of sources) inputs_in ps i x lt is) ∙ length-append front (if is_part_of sources x then inputs_in x else []) in
    counted ∙ ((λ j. so_far j + sym one j) ∙ sym all)

pub below_more : (a : Application) (sources : List Topic) (ps : List PartLog) (os : List ℤ) (i : ℕ) (x : PartLog) (o : ℤ) (before after : ℕ) → o ≡ get_or os i (pos 0) → i < length ps → x ≡ get_or ps i x
    → os ≡ map (committed_offset a.commits) (map part_name ps) → before ≡ length (filter (is_committed a) (flat_map inputs_in (parts_of sources (take i ps))))
    → after ≡ before + (if is_part_of sources x then count_below o x.items else 0)
    → after ≡ length (filter (is_committed a) (flat_map inputs_in (parts_of sources (take (i + 1) ps))))
below_more a sources ps os i x o before after read lt is are so_far counted =
    let committed = committed_offset a.commits (part_name x) in
    let front = flat_map inputs_in (parts_of sources (take i ps)) in
    let at = read ∙ offset_at (committed_offset a.commits) ps os i x (pos 0) lt is are in
    let one : length (filter (is_committed a) (if is_part_of sources x then inputs_in x else [])) ≡ (if is_part_of sources x then count_below committed x.items else 0)
    = filter_if (is_committed a) (is_part_of sources x) (inputs_in x) (count_below committed x.items) (length_mapped (is_committed a) (place_in (part_name x)) (visible x)) in
    let all = ap (λ (zs : List Place). length (filter (is_committed a) zs)) (parts_more (is_part_of sources) inputs_in ps i x lt is)
    ∙ (ap length (filter-append (is_committed a) front (if is_part_of sources x then inputs_in x else [])) ∙ length-append (filter (is_committed a) front) (filter (is_committed a) (if is_part_of sources x then inputs_in x else []))) in
    counted ∙ (ap (λ (z : ℤ). before + (if is_part_of sources x then count_below z x.items else 0)) at ∙ ((λ j. so_far j + sym one j) ∙ sym all))

-- ---- whatever the order of the topics

same_parts : (sources set : List Topic) → IsPermutation sources set → (p : PartLog) → is_part_of set p ≡ is_part_of sources p
same_parts sources set perm p = found_in_order (slice_cmp nat_cmp) sources set p.topic perm

flat_filter : {X Y : Type 0} (f : X → List Y) (p : X → Bool) (xs : List X) → flat_map (λ x. if p x then f x else []) xs ≡ flat_map f (filter p xs)
flat_filter f p [] = refl
flat_filter {X} {Y} f p (x ∷ xs) = go (p x) (flat_filter f p xs)
  where
    go : (b : Bool) → flat_map (λ x. if p x then f x else []) xs ≡ flat_map f (filter p xs)
        → (if b then f x else []) ++ flat_map (λ x. if p x then f x else []) xs ≡ flat_map f (cond b (x ∷ filter p xs) (filter p xs))
    go true e = ap (λ ys. f x ++ ys) e
    go false e = e

pub past_filtered : (logs : List PartLog) (app : App) (set : List Topic) → IsPermutation app.sources set
    → flat_map (past_end_if set app.group (committed_offset (commits_for logs app))) logs ≡ past_ends_in logs app
past_filtered logs app set perm =
    (λ i. flat_map (λ p. if same_parts app.sources set perm p i then past_end_of logs app p else []) logs) ∙ flat_filter (past_end_of logs app) (is_part_of app.sources) logs

pub same_inputs : (logs : List PartLog) (app : App) (set : List Topic) → IsPermutation app.sources set → flat_map inputs_in (parts_of app.sources logs) ≡ flat_map inputs_in (parts_of set logs)
same_inputs logs app set perm = λ i. flat_map inputs_in (filter (λ p. sym (same_parts app.sources set perm p) i) logs)
