-- The commits record by record are the commits of the log.
use Rattle.std.proofs.Common.{◌≡◌, ◌∙◌, ◌++◌, ℤ, List, [], ◌∷◌, map, flat_map, refl, ap, Bool, true, false, cond, if◌then◌else◌}
use Rattle.std.specs.Prelude.{filter}
use Rattle.eos_fold.specs.declared.item.Item.{Item}
use Rattle.eos_fold.specs.Parts.{PartLog}
use Rattle.std.proofs.lemmas.List.{map-append}
use Rattle.eos_claims.specs.Outputs.{Commit}
use Rattle.eos_commits.specs.declared.commits.CommitRef.{CommitRef}
use Rattle.eos_commits.specs.Plain.{plain_commit, epoch_commit}
use Rattle.eos_commits.specs.Visible.{is_visible, visible}
use Rattle.eos_commits.specs.Commits.{Group, Topic, is_of, is_offsets_part, offsets_parts, commit_in, commits_in, commits_of}
use Rattle.eos_commits.specs.EpochCommits.{EpochCommit, under, epoch_in, epoch_commit_in, epoch_commits_in, epoch_commits_of}
use Rattle.eos_commits.specs.steps.CommitLists.{commits_at, commits_by}

-- a list without what a test refuses, or nothing for that
pub flat_filter : {X Y : Type 0} (f : X → List Y) (p : X → Bool) (xs : List X) → flat_map (λ x. if p x then f x else []) xs ≡ flat_map f (filter p xs)
flat_filter f p [] = refl
flat_filter {X} {Y} f p (x ∷ xs) = go (p x) (flat_filter f p xs)
  where
    go : (b : Bool) → flat_map (λ x. if p x then f x else []) xs ≡ flat_map f (filter p xs)
        → (if b then f x else []) ++ flat_map (λ x. if p x then f x else []) xs ≡ flat_map f (cond b (x ∷ filter p xs) (filter p xs))
    go true e = ap (λ ys. f x ++ ys) e
    go false e = e

in_part : (group : Group) (sources : List Topic) (p : PartLog) → commits_at (is_of group sources) p ≡ (if is_offsets_part p then epoch_commits_in group sources p else [])
in_part group sources p = ap (λ (cs : List EpochCommit). if is_offsets_part p then cs else []) (flat_filter (epoch_commit_in group sources) (λ (x : Item). is_visible x.fate) p.items)

pub in_log : (group : Group) (sources : List Topic) (ps : List PartLog) → commits_by (is_of group sources) ps ≡ epoch_commits_of group sources ps
in_log group sources ps = (λ i. flat_map (λ p. in_part group sources p i) ps) ∙ flat_filter (epoch_commits_in group sources) is_offsets_part ps

-- ---- without their leader epochs

forget_one : (epoch : ℤ) (cs : List Commit) → map (λ e. e.commit) (map (under epoch) cs) ≡ cs
forget_one epoch [] = refl
forget_one epoch (c ∷ cs) = ap (λ (xs : List Commit). c ∷ xs) (forget_one epoch cs)

forget_flat : {X : Type 0} (f : X → List EpochCommit) (g : X → List Commit) → ((x : X) → map (λ e. e.commit) (f x) ≡ g x) → (xs : List X) → map (λ e. e.commit) (flat_map f xs) ≡ flat_map g xs
forget_flat f g same [] = refl
forget_flat f g same (x ∷ xs) = map-append (λ (e : EpochCommit). e.commit) (f x) (flat_map f xs) ∙ (λ i. same x i ++ forget_flat f g same xs i)

pub forgotten : (group : Group) (sources : List Topic) (ps : List PartLog) → map (λ e. e.commit) (epoch_commits_of group sources ps) ≡ commits_of group sources ps
forgotten group sources ps =
    forget_flat (epoch_commits_in group sources) (commits_in group sources)
    (λ p. forget_flat (epoch_commit_in group sources) (commit_in group sources) (λ x. forget_one (epoch_in x.value) (commit_in group sources x)) (visible p)) (offsets_parts ps)

pub plain_of : (cs : List CommitRef) → map plain_commit cs ≡ map (λ e. e.commit) (map epoch_commit cs)
plain_of [] = refl
plain_of (c ∷ cs) = ap (λ (xs : List Commit). plain_commit c ∷ xs) (plain_of cs)
