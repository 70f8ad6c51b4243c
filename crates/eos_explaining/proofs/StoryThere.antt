-- A story that is told over the partitions that it names is the story of the evidence that has them.
use Rattle.std.proofs.Common.{◌≡◌, ◌∙◌, ◌++◌, ℕ, ℤ, List, map, get_or, Option, Some, Bool, false, sym, ap, subst}
use Rattle.std.specs.List.{All}
use Rattle.std.specs.Option.{option_copied}
use Rattle.std.specs.Prelude.{option_map}
use Rattle.eos_batch.specs.declared.record.Header.{Header}
use Rattle.eos_claims.specs.declared.place.Place.{Place}
use Rattle.eos_evidence.specs.declared.application.App.{App}
use Rattle.eos_evidence.specs.declared.partition.Partition.{Partition}
use Rattle.eos_evidence.specs.Evidence.{EvidenceParts, IsEvidence}
use Rattle.eos_evidence.specs.SpecFields.{SpecFields}
use Rattle.eos_fold.specs.Parts.{PartLog}
use Rattle.eos_notes.specs.Notes.{AreAllNotes}
use Rattle.eos_sought.specs.declared.folded.Folded.{Folded}
use Rattle.eos_sought.specs.Folded.{AreFolded}
use Rattle.eos_source.specs.Said.{Known}
use Rattle.eos_verdict.specs.declared.verdict.Fault.{Fault}
use Rattle.eos_verdict.specs.declared.verdict.Verdict.{Verdict}
use Rattle.eos_verdict.specs.declared.verdict.Verdict.TheVariants.{No}
use Rattle.eos_story.specs.Names.{name_in}
use Rattle.eos_story.specs.steps.Same.{IsSameOf}
use Rattle.eos_story.specs.SceneOf.{IsSceneOf}
use Rattle.eos_story.specs.PlaceOfFault.{place_of, place_in}
use Rattle.eos_story.specs.Rows.{IsTrue, AreHeadersOf}
use Rattle.eos_story.specs.Wholeness.{IsWhole}
use Rattle.eos_story.specs.declared.row.Row.{Row}
use Rattle.eos_story.specs.declared.scene.Scene.{Scene}
use Rattle.eos_story.proofs.Carried.{rows_carried, whole_carried, headers_carried}
use Rattle.eos_story.proofs.RowsPushed.{has_index}
use Rattle.eos_explaining.specs.declared.story.About.{About}
use Rattle.eos_explaining.specs.declared.whole_story.Story.{Story}
use Rattle.eos_explaining.specs.Explaining.{HasItsPage, AreWhole}
use Rattle.eos_explaining.specs.Stories.{story_text}
use Rattle.eos_explaining.specs.Told.{row_time}
use Rattle.eos_explaining.specs.steps.Again.{AreNamedCovered, AreHeadersThere, AreKept, SettledIf, IsToldBy}
use Rattle.eos_explaining.specs.steps.Times.{AreRowTimes}
use Rattle.eos_explaining.proofs.Covered.{chosen, folds_before, same_if}
use Rattle.eos_explaining.proofs.NamedAgain.{both_read, them_first, them_more}

-- the scene is that of these folds, logs and headers, and of the fault's place
pub record IsSceneBy (scene : Scene) (apps : List App) (read : List Folded) (logs : List PartLog) (place : Option Place) (headers : List Header) : Type 0 where
  pub apps_are : scene.apps.now ≡ apps
  pub folds : scene.partitions.now ≡ read
  pub logs_are : scene.logs.now ≡ logs
  pub place_is : option_copied scene.place ≡ place
  pub headers_are : scene.headers.now ≡ headers

-- so the rows are, by any partitions that the scene is of
pub record AreSo (scene : Scene) (fault : Fault) (told : List Row) : Type 0 where
  pub so : (ps : List Partition) → IsSceneOf ps scene → All (IsTrue ps scene.logs.now) told
  pub whole : (ps : List Partition) → IsSceneOf ps scene → IsWhole scene.apps.now ps scene.logs.now fault told

pub told_by : (known : ℕ → Known) (shape : EvidenceParts) (read : List Folded) (about : About) (verdict : Verdict) (fault : Fault) (story : Story) (text : List ℕ) (scene : Scene) (headers : List Header) (times : List (Option ℤ)) → IsEvidence shape → verdict ≡ No fault
    → story.folder.now ≡ about.folder.now → story.verdict.now ≡ verdict → option_copied story.place ≡ place_of fault → story.counts.now ≡ about.counts.now → story.notes.now ≡ about.notes.now
    → HasItsPage (No fault) (option_copied story.page) → IsSceneBy scene shape.spec.apps read about.logs.now (place_of fault) headers → AreSo scene fault story.rows.now
    → AreNamedCovered shape.partitions read (place_of fault) story.rows.now → AreHeadersThere known shape read (place_of fault) headers → AreRowTimes known shape story.rows.now times
    → ((time_of : Row → Option ℤ) → times ≡ map time_of story.rows.now → text ≡ story_text time_of story) → IsToldBy known shape read about verdict text
told_by known shape read about verdict fault story text scene headers times is_shape named in_folder of_verdict at counts notes page of are covered heads timed says = record {
  also = heads.also ++ timed.also;
  read_also = both_read known shape.partitions heads.also timed.also heads.read_also timed.read;
  told = λ e is spec has there are_notes told are_counts.
      let logs = about.logs.now in
      let all = story.rows.now in
      let c = chosen e read has in
      let ps = c.partitions in
      let own : IsSameOf (option_map (λ (p : Place). p.partition) (place_of fault)) ps e.partitions = same_if shape e ps read (option_map (λ (p : Place). p.partition) (place_of fault)) is_shape is spec c.there c.folded covered.0 in
      let seen : IsSceneOf ps scene = record {
        folded = subst (AreFolded ps) (sym of.folds) c.folded;
        headers = λ place here.
            let so : place_of fault ≡ Some place = sym of.place_is ∙ here in
            let same = subst (λ (o : Option Place). IsSameOf (option_map (λ (p : Place). p.partition) o) ps e.partitions) so own in
            subst (AreHeadersOf ps place) (sym of.headers_are) (headers_carried e.partitions ps place headers (sym same) (heads.are e is_shape is spec has (them_first e heads.also timed.also there) place so));
      } in
      let trues : All (IsTrue ps logs) all = subst (λ (ls : List PartLog). All (IsTrue ps ls) all) of.logs_are (are.so ps seen) in
      let by_logs = subst (λ (ls : List PartLog). IsWhole scene.apps.now ps ls fault all) of.logs_are (are.whole ps seen) in
      let by_spec : IsWhole e.spec.apps ps logs fault all = subst (λ (s : SpecFields). IsWhole s.apps ps logs fault all) (sym spec) (subst (λ (xs : List App). IsWhole xs ps logs fault all) of.apps_are by_logs) in
      let whole_there : AreWhole e logs (No fault) all = whole_carried e.spec.apps ps e.partitions logs fault all own by_spec in
      record {
        story = story;
        in_folder = in_folder;
        of_verdict = of_verdict;
        at = at ∙ ap place_in (sym named);
        rows = rows_carried ps e.partitions logs all (λ i d lt. same_if shape e ps read (name_in (get_or all i d)) is_shape is spec c.there c.folded (covered.1 (get_or all i d) (has_index all i d lt))) trues;
        whole = subst (λ (v : Verdict). AreWhole e logs v all) (sym named) whole_there;
        page = subst (λ (v : Verdict). HasItsPage v (option_copied story.page)) (sym named) page;
        counted = counts ∙ are_counts;
        notes = subst (AreAllNotes e) (sym notes) are_notes;
        says = says (row_time e.partitions) (timed.are e is_shape is spec (them_more e heads.also timed.also there));
      };
}

-- where no further partition was read, after the rows were found
pub told_settled : (known : ℕ → Known) (shape : EvidenceParts) (old after : List Folded) (about : About) (verdict : Verdict) (fault : Fault) (place : Option Place) (story : Story) (text : List ℕ) (scene : Scene) (headers : List Header) (told asked timed : List Row) (times : List (Option ℤ)) (more : Bool)
    → IsEvidence shape → verdict ≡ No fault → place ≡ place_of fault → story.folder.now ≡ about.folder.now → story.verdict.now ≡ verdict → option_copied story.place ≡ place → story.counts.now ≡ about.counts.now → story.notes.now ≡ about.notes.now
    → HasItsPage (No fault) (option_copied story.page) → IsSceneBy scene shape.spec.apps old about.logs.now place headers → AreSo scene fault told → asked ≡ told → timed ≡ told → story.rows.now ≡ told
    → SettledIf old after (λ all. AreNamedCovered shape.partitions all place asked) more → more ≡ false → AreHeadersThere known shape old place headers → AreRowTimes known shape timed times
    → ((time_of : Row → Option ℤ) → times ≡ map time_of story.rows.now → text ≡ story_text time_of story) → IsToldBy known shape after about verdict text
told_settled known shape old after about verdict fault place story text scene headers told asked timed times more is_shape named at in_folder of_verdict own counts notes page of so asked_is timed_is rows_are settled none heads has_times says =
    let s = settled none in
    let here : AreNamedCovered shape.partitions old place asked = subst (λ (fs : List Folded). AreNamedCovered shape.partitions fs place asked) s.same s.covers in
    let covered : AreNamedCovered shape.partitions old (place_of fault) story.rows.now =
    subst (λ (o : Option Place). AreNamedCovered shape.partitions old o story.rows.now) at (subst (AreNamedCovered shape.partitions old place) (asked_is ∙ sym rows_are) here) in
    let scene_is : IsSceneBy scene shape.spec.apps old about.logs.now (place_of fault) headers = subst (λ (o : Option Place). IsSceneBy scene shape.spec.apps old about.logs.now o headers) at of in
    let heads_are = subst (λ (o : Option Place). AreHeadersThere known shape old o headers) at heads in
    let times_are = subst (λ (rs : List Row). AreRowTimes known shape rs times) (timed_is ∙ sym rows_are) has_times in
    subst (λ (fs : List Folded). IsToldBy known shape fs about verdict text) (sym s.same)
    (told_by known shape old about verdict fault story text scene headers times is_shape named in_folder of_verdict (own ∙ at) counts notes page scene_is (subst (AreSo scene fault) (sym rows_are) so) covered heads_are times_are says)

-- the headers are so still, once more was read
pub headers_still : (known : ℕ → Known) (shape : EvidenceParts) (before after : List Folded) (place : Option Place) (headers : List Header) → AreKept before after → AreHeadersThere known shape before place headers → AreHeadersThere known shape after place headers
headers_still known shape before after place headers kept h =
    record { also = h.also; read_also = h.read_also; are = λ e is_shape is spec has there. h.are e is_shape is spec (folds_before e before after kept has) there }
