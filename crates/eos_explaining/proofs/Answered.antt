-- What is told of what was judged is so of each evidence of which it was judged.
use Rattle.std.proofs.Common.{◌≡◌, ◌<◌, ◌≤◌, ◌-◌, ◌∙◌, ℕ, true, List, [], ◌∷◌, ◌++◌, length, map, take, slice_get, Some, refl, sym, ap, subst, arith, string_bytes}
use Rattle.std.specs.Prelude.{◌⊎◌}
use Rattle.std.proofs.lemmas.List.{length-map}
use Rattle.eos_evidence.specs.declared.partition.Partition.{Partition}
use Rattle.eos_evidence.specs.Evidence.{EvidenceParts, IsEvidence}
use Rattle.eos_notes.specs.Notes.{AreAllNotes}
use Rattle.eos_source.specs.Said.{Known}
use Rattle.eos_source_check.specs.AllFaults.{AreAllFaults}
use Rattle.eos_source_check.specs.Judged.{IsJudgedFor, IsJudgedOf}
use Rattle.eos_source_check.specs.declared.judged.Judged.{Judged}
use Rattle.eos_source_check.proofs.FoldersRead as folders
use Rattle.eos_verdict.specs.declared.verdict.Verdict.{Verdict}
use Rattle.eos_verdict.specs.declared.verdict.Verdict.TheVariants.{No}
use Rattle.eos_verdict.specs.Counts.{counts_line}
use Rattle.eos_explaining.specs.declared.answer.Answer.TheVariants as answers
use Rattle.eos_explaining.specs.declared.answer.Findings.{Findings}
use Rattle.eos_explaining.specs.declared.story.About.{About}
use Rattle.eos_explaining.specs.Explaining.{AreTold, IsTheStory}
use Rattle.eos_explaining.specs.steps.Tellings.{IsAnswer}
use Rattle.eos_explaining.specs.FirstStories.{AreStoriesOf, AreFirstStories}
use Rattle.eos_explaining.specs.Folders.{AreRead, HasThem, HoldsAsNamed}
use Rattle.eos_explaining.specs.steps.Again.{HasFolds, ReadsMore, IsToldBy, AreToldBy}
use Rattle.eos_explaining.specs.steps.Seen.{AreSeenBy}
use Rattle.eos_sought.specs.declared.folded.Folded.{Folded}
use Rattle.eos_explaining.specs.steps.Found.{AreFoundBy, HoldsByNamed}
use Rattle.eos_explaining.proofs.Covered.{all_come, gathered}
use Rattle.eos_explaining.proofs.NamedAgain.{both_read, them_first, them_more}
use Rattle.eos_explaining.proofs.PickedFaults.{picked_first, picked_one}

pub of_judged : (known : ℕ → Known) (shape : EvidenceParts) (judged : Judged) (Holds : EvidenceParts → Type 0) → IsJudgedOf known shape judged → HoldsByNamed known shape judged Holds → HoldsAsNamed known shape Holds
of_judged known shape judged Holds j h =
    record { read = h.read; named = h.named; are = folders.of_judged known shape judged true (λ e. HasThem e h.read → Holds e) j h.are }

-- what needs no partition once more
pub by_judged : (known : ℕ → Known) (shape : EvidenceParts) (judged : Judged) (Holds : EvidenceParts → Type 0) → ((e : EvidenceParts) → e.spec ≡ shape.spec → IsJudgedFor judged e → Holds e) → HoldsByNamed known shape judged Holds
by_judged known shape judged Holds h =
    record { read = []; named = λ p has. absurd has; are = folders.by_judged known shape judged true (λ e. HasThem e [] → Holds e) (λ e spec j has. h e spec j) }

module _ (known : ℕ → Known) (shape : EvidenceParts) (judged : Judged) where
  -- ---- one fault

  pub one_held : (number : ℕ) (found : Findings) → AreFoundBy known shape judged (number - 1) 1 found → 0 < number → number ≤ found.all → length found.told.items ≡ 1
  one_held number found f first inside =
      let named = map No f.faults in
      let many : length named ≡ length f.faults = length-map f.faults No in
      ap length f.held ∙ picked_one (number - 1) named (omega (arith, first, inside, f.all, many))

  pub held_is : (number : ℕ) (found : Findings) (v : Verdict) (f : AreFoundBy known shape judged (number - 1) 1 found) → slice_get found.told.items 0 ≡ Some v → slice_get (map No f.faults) (number - 1) ≡ Some v
  held_is number found v f at = sym (picked_first (number - 1) (map No f.faults)) ∙ (ap (λ (vs : List Verdict). slice_get vs 0) (sym f.held) ∙ at)

  told_all : (e : EvidenceParts) (from most : ℕ) (found : Findings) (f : AreFoundBy known shape judged from most found) (j : IsJudgedFor judged e) → AreAllFaults e j.logs.whole j.logs.of f.faults → AreTold e j.logs.whole (map No f.faults)
  told_all e from most found f j are = record { faults = f.faults; of = j.logs.of; are = are; named = refl }

  pub fewer_by : (folder : List ℕ) (number : ℕ) (from : ℕ) (found : Findings) → AreFoundBy known shape judged from 1 found → (number ≡ 0) ⊎ (found.all < number) → HoldsByNamed known shape judged (λ e. IsAnswer folder e number (answers.Fewer found.all))
  fewer_by folder number from found f few = record {
    read = [];
    named = λ p has. absurd has;
    are = folders.by_list known shape judged true (λ e. HasThem e [] → IsAnswer folder e number (answers.Fewer found.all)) f.faults refl f.list (λ e spec j are has. record {
      logs = j.logs.whole;
      told = map No f.faults;
      are = told_all e from 1 found f j are;
      counted = f.all ∙ sym (length-map f.faults No);
      fewer = few;
    });
  }

  pub story_by : (number : ℕ) (found : Findings) (read : List Folded) (about : About) (verdict : Verdict) (text : List ℕ) → AreFoundBy known shape judged (number - 1) 1 found → 0 < number
      → slice_get found.told.items 0 ≡ Some verdict → about.notes.now ≡ found.notes.items → about.counts.now ≡ string_bytes found.line → ReadsMore known shape.partitions [] read
      → AreSeenBy known shape judged.logs.parts.items about.logs.now → IsToldBy known shape read about verdict text
      → HoldsByNamed known shape judged (λ e. IsTheStory about.folder.now e number text)
  story_by number found read about verdict text f first at notes counts more sees told =
      let folds = gathered known shape.partitions read (all_come known shape.partitions read more) in
      let rest = folds.partitions ++ told.also in
      record {
        read = sees.also ++ rest;
        named = both_read known shape.partitions sees.also rest sees.read (both_read known shape.partitions folds.partitions told.also folds.are told.read_also);
        are = folders.by_list known shape judged true (λ e. HasThem e (sees.also ++ rest) → IsTheStory about.folder.now e number text) f.faults refl f.list (λ e spec j are has. record {
          logs = j.logs.whole;
          told = map No f.faults;
          are = told_all e (number - 1) 1 found f j are;
          before = number - 1;
          numbered = omega (arith, first);
          verdict = verdict;
          at = held_is number found verdict f at;
          seen = about.logs.now;
          sees = sees.are e j.logs.whole j.is_evidence spec (them_first e sees.also rest has) j.logs.of j.logs.parts;
          story =
              let others = them_more e sees.also rest has in
              told.told e j.is_evidence spec (folds.there e (them_first e folds.partitions told.also others)) (them_more e folds.partitions told.also others)
              (subst (AreAllNotes e) (sym notes) (f.notes e spec j)) (map No f.faults) (counts ∙ f.line);
        });
      }

  -- ---- the first ones

  -- what was read for their times, as a list
  record AllRead (read : List Folded) (about : About) (all vs : List Verdict) (ts : List (List ℕ)) : Type 0 where
    pub also : List Partition
    pub are : AreRead known shape.partitions also
    pub told : (e : EvidenceParts) → IsEvidence e → e.spec ≡ shape.spec → HasFolds e read → HasThem e also → AreAllNotes e about.notes.now → about.counts.now ≡ counts_line all → AreStoriesOf about.folder.now e about.logs.now all vs ts

  all_told : (read : List Folded) (about : About) (all vs : List Verdict) (ts : List (List ℕ)) → AreToldBy known shape read about vs ts → AllRead read about all vs ts
  all_told read about all [] [] told = record { also = []; are = λ p has. absurd has; told = λ e is spec has there notes counts. tt }
  all_told read about all [] (t ∷ ts) told = absurd told
  all_told read about all (v ∷ vs) [] told = absurd told
  all_told read about all (v ∷ vs) (t ∷ ts) told =
      let here = told.0 in
      let others = all_told read about all vs ts told.1 in
      record {
        also = here.also ++ others.also;
        are = both_read known shape.partitions here.also others.also here.read_also others.are;
        told = λ e is spec has there notes counts. (
          here.told e is spec has (them_first e here.also others.also there) notes all counts,
          others.told e is spec has (them_more e here.also others.also there) notes counts,
        );
      }

  pub stories_by : (most : ℕ) (found : Findings) (read : List Folded) (about : About) (texts : List (List ℕ)) → AreFoundBy known shape judged 0 most found → about.notes.now ≡ found.notes.items → about.counts.now ≡ string_bytes found.line
      → ReadsMore known shape.partitions [] read → AreSeenBy known shape judged.logs.parts.items about.logs.now → AreToldBy known shape read about found.told.items texts
      → HoldsByNamed known shape judged (λ e. AreFirstStories about.folder.now e most texts)
  stories_by most found read about texts f notes counts more sees told =
      let folds = gathered known shape.partitions read (all_come known shape.partitions read more) in
      let each = all_told read about (map No f.faults) (take most (map No f.faults)) texts (subst (λ (vs : List Verdict). AreToldBy known shape read about vs texts) f.held told) in
      let rest = folds.partitions ++ each.also in
      record {
        read = sees.also ++ rest;
        named = both_read known shape.partitions sees.also rest sees.read (both_read known shape.partitions folds.partitions each.also folds.are each.are);
        are = folders.by_list known shape judged true (λ e. HasThem e (sees.also ++ rest) → AreFirstStories about.folder.now e most texts) f.faults refl f.list (λ e spec j are has. record {
          logs = j.logs.whole;
          told = map No f.faults;
          are = told_all e 0 most found f j are;
          seen = about.logs.now;
          sees = sees.are e j.logs.whole j.is_evidence spec (them_first e sees.also rest has) j.logs.of j.logs.parts;
          each =
              let others = them_more e sees.also rest has in
              each.told e j.is_evidence spec (folds.there e (them_first e folds.partitions each.also others)) (them_more e folds.partitions each.also others) (subst (AreAllNotes e) (sym notes) (f.notes e spec j)) (counts ∙ f.line);
        });
      }
