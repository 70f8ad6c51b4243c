-- Why no manifest is made, of what each step refused.
use Rattle.std.proofs.Common.{◌≡◌, ◌⊎◌, ℕ, List, Option, None, Some, Ok, Err, [], map, option_map, inl, inr, sym, ap, ◌∙◌, subst, String, Global, string_bytes}
use Rattle.eos_base.specs.Members.{Has}
use Rattle.eos_base.specs.declared.partition_name.PartitionName.{PartitionName}
use Rattle.eos_disk.specs.Entries.{Entry, MayBeAbsent, MayStand}
use Rattle.eos_disk.specs.Paths.{manifest_path, path_of_end}
use Rattle.eos_evidence.specs.declared.application.App.{App}
use Rattle.eos_evidence.specs.declared.ends.End.{End}
use Rattle.eos_evidence.specs.SpecFields.{SpecFields, accepted}
use Rattle.eos_evidence.specs.declared.fault.SpecFault.{SpecFault}
use Rattle.eos_commands.specs.Copies.{AreFoldersAt, AreRequired}
use Rattle.eos_commands.specs.InitRefusals.{RefusesBy, RefusesAt, RefusesWords, RefusesCopy, RefusesStates, RefusesEnds, RefusesParts, RefusesMaking, RefusesInit, AreAskedFor, IsAsked, IsUnput}
use Rattle.eos_manifest.specs.Manifests.{first_without, parts_for}
use Rattle.eos_commands.specs.Making.{apps_in_words, AreEndsGiven, IsManifestFor}
use Rattle.eos_commands.proofs.ManifestParts.{manifest_is}
use Rattle.eos_commands.specs.steps.Refused.{RefusesThere, RefusesManifest}
use Rattle.eos_commands.specs.declared.given.Given.{Given}
use Rattle.eos_commands.specs.declared.init_fault.InitFault.{InitFault}
use Rattle.eos_commands.specs.declared.init_fault.InitFault.TheVariants.{ThereAlready, Apps, OutOfMemory}

abbrev pub words_of : Given → List (List ℕ)
words_of given = map (λ w. w.now) given.apps.now

abbrev pub ends_of : Given → Option (List ℕ)
ends_of given = option_map (λ p. p.now) given.ends

pub not_words : (given : Given) (holds : List ℕ → Entry) (old new : Option (List ℕ)) (why : InitFault) → RefusesWords (words_of given) why → RefusesMaking given holds old new why
not_words given holds old new why h = inr (inl h)

pub unread_states : (holds : List ℕ → Entry) (folder : List ℕ) (apps : List App) (folders found : List PartitionName) (why : InitFault) → AreFoldersAt holds folder folders → found ≡ folders
    → (why ≡ OutOfMemory) ⊎ RefusesStates holds folder apps found why → RefusesThere holds folder apps why
unread_states holds folder apps folders found why there f (inl memory) = inl (subst (RefusesBy (RefusesAt holds folder)) (sym memory) tt)
unread_states holds folder apps folders found why there f (inr h) = inr (folders, there, subst (λ (xs : List PartitionName). RefusesStates holds folder apps xs why) f h)

pub not_there : (given : Given) (holds : List ℕ → Entry) (old new : Option (List ℕ)) (apps listed : List App) (why : InitFault) → AreAskedFor (words_of given) apps → listed ≡ apps
    → RefusesThere holds given.folder.now listed why → RefusesMaking given holds old new why
not_there given holds old new apps listed why words l (inl h) = inr (inr (inl (apps, words, h)))
not_there given holds old new apps listed why words l (inr h) =
    inr (inr (inr (inl (apps, h.0, words, h.1, subst (λ (xs : List App). RefusesStates holds given.folder.now xs h.0 why) l h.2))))

pub asked_for : (given : Given) (holds : List ℕ → Entry) (apps listed : List App) (folders required : List PartitionName) → AreAskedFor (words_of given) apps
    → AreFoldersAt holds given.folder.now folders → listed ≡ apps → AreRequired holds given.folder.now listed folders required → IsAsked given holds apps folders required
asked_for given holds apps listed folders required words there l asked = record {
  words = words;
  there = there;
  asked = subst (λ (xs : List App). AreRequired holds given.folder.now xs folders required) l asked;
}

pub not_ends : (given : Given) (holds : List ℕ → Entry) (old new : Option (List ℕ)) (apps : List App) (folders required wanted : List PartitionName) (why : InitFault) → IsAsked given holds apps folders required
    → wanted ≡ required → RefusesEnds (ends_of given) holds given.folder.now folders wanted old new why → RefusesMaking given holds old new why
not_ends given holds old new apps folders required wanted why asked w h = inr (inr (inr (inr (inl (
  apps,
  folders,
  required,
  asked,
  subst (λ (xs : List PartitionName). RefusesEnds (ends_of given) holds given.folder.now folders xs old new why) w h,
)))))

pub unnoted : (holds : List ℕ → Entry) (folder : List ℕ) (apps : List App) (required : List PartitionName) (ends : List End) (spec : SpecFields) (why : InitFault) → first_without ends required ≡ None
    → accepted (parts_for apps required ends) ≡ Ok spec → (why ≡ OutOfMemory) ⊎ ((e : End) × Has spec.ends e × RefusesBy (RefusesCopy holds (path_of_end folder e)) why)
    → RefusesManifest holds folder apps required ends why
unnoted holds folder apps required ends spec why none accepts (inl memory) = inl (subst (RefusesParts apps required ends) (sym memory) tt)
unnoted holds folder apps required ends spec why none accepts (inr h) = inr (spec, h.0, none, accepts, h.1, h.2)

pub not_manifest : (given : Given) (holds : List ℕ → Entry) (old new : Option (List ℕ)) (apps : List App) (folders required wanted : List PartitionName) (ends : List End) (why : InitFault)
    → IsAsked given holds apps folders required → wanted ≡ required → AreEndsGiven (ends_of given) holds given.folder.now folders wanted old new ends
    → RefusesManifest holds given.folder.now apps required ends why → RefusesMaking given holds old new why
not_manifest given holds old new apps folders required wanted ends why asked w gives (inl h) = inr (inr (inr (inr (inr (inl (
  apps,
  folders,
  required,
  ends,
  asked,
  subst (λ (xs : List PartitionName). AreEndsGiven (ends_of given) holds given.folder.now folders xs old new ends) w gives,
  h,
))))))
not_manifest given holds old new apps folders required wanted ends why asked w gives (inr h) =
    inr (inr (inr (inr (inr (inr (h.0, h.1, manifest_is given holds old new h.0 apps folders required wanted ends asked gives h.2 h.3 w, h.4, h.5))))))

pub not_together : (words : List (List ℕ)) (apps copied : List App) (ends : List End) (fault : SpecFault) → apps_in_words words ≡ Some apps → copied ≡ apps → ends ≡ []
    → Err fault ≡ accepted (record { apps = copied; ends = ends }) → RefusesWords words (Apps fault)
not_together words apps copied ends fault is c e said =
    (apps, is, ap (λ (xs : List App). accepted (record { apps = xs; ends = [] })) (sym c) ∙ (ap (λ (es : List End). accepted (record { apps = copied; ends = es })) (sym e) ∙ sym said))

pub are_together : (words : List (List ℕ)) (apps copied : List App) (ends : List End) (spec : SpecFields) → apps_in_words words ≡ Some apps → copied ≡ apps → ends ≡ []
    → Ok spec ≡ accepted (record { apps = copied; ends = ends }) → AreAskedFor words apps
are_together words apps copied ends spec is c e said = record {
  read = is;
  spec = spec;
  together = ap (λ (xs : List App). accepted (record { apps = xs; ends = [] })) (sym c) ∙ (ap (λ (es : List End). accepted (record { apps = copied; ends = es })) (sym e) ∙ sym said);
}

-- ---- all

pub there_first : (given : Given) (holds : List ℕ → Entry) (old new : Option (List ℕ)) (path : String Global) (own : List ℕ) → own ≡ string_bytes path → string_bytes path ≡ manifest_path given.folder.now
    → MayStand (holds own) → RefusesInit given holds old new (ThereAlready path)
there_first given holds old new path own is at h = inl (at, subst (λ (p : List ℕ). MayStand (holds p)) (is ∙ at) h)

absent_at : (holds : List ℕ → Entry) (folder path own : List ℕ) → own ≡ path → path ≡ manifest_path folder → MayBeAbsent (holds own) → MayBeAbsent (holds (manifest_path folder))
absent_at holds folder path own is at free = subst (λ (p : List ℕ). MayBeAbsent (holds p)) (is ∙ at) free

pub not_made : (given : Given) (holds : List ℕ → Entry) (old new : Option (List ℕ)) (path own : List ℕ) (why : InitFault) → own ≡ path → path ≡ manifest_path given.folder.now → MayBeAbsent (holds own)
    → RefusesMaking given holds old new why → RefusesInit given holds old new why
not_made given holds old new path own why is at free h = inr (absent_at holds given.folder.now path own is at free, inl h)

pub not_put : (given : Given) (holds : List ℕ → Entry) (old new : Option (List ℕ)) (spec : SpecFields) (path own : List ℕ) (why : InitFault) → own ≡ path → path ≡ manifest_path given.folder.now
    → MayBeAbsent (holds own) → IsManifestFor given holds old new spec → IsUnput path why → RefusesInit given holds old new why
not_put given holds old new spec path own why is at free made h =
    inr (absent_at holds given.folder.now path own is at free, inr (spec, made, subst (λ (p : List ℕ). IsUnput p why) at h))
