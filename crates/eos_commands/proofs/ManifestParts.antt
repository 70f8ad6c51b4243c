-- The parts of a manifest, of what each step gave.
use Rattle.std.proofs.Common.{◌≡◌, ℕ, List, Option, None, Ok, option_map, subst}
use Rattle.eos_base.specs.declared.partition_name.PartitionName.{PartitionName}
use Rattle.eos_disk.specs.Entries.{Entry}
use Rattle.eos_evidence.specs.declared.application.App.{App}
use Rattle.eos_evidence.specs.declared.ends.End.{End}
use Rattle.eos_evidence.specs.SpecFields.{SpecFields, accepted}
use Rattle.eos_manifest.specs.Manifests.{first_without, parts_for}
use Rattle.eos_commands.specs.InitRefusals.{IsAsked}
use Rattle.eos_commands.specs.Making.{AreEndsGiven, IsManifestFor}
use Rattle.eos_commands.specs.declared.given.Given.{Given}

pub manifest_is : (given : Given) (holds : List ℕ → Entry) (old new : Option (List ℕ)) (spec : SpecFields) (apps : List App) (folders required wanted : List PartitionName) (ends : List End)
    → IsAsked given holds apps folders required → AreEndsGiven (option_map (λ p. p.now) given.ends) holds given.folder.now folders wanted old new ends → first_without ends required ≡ None
    → accepted (parts_for apps required ends) ≡ Ok spec → wanted ≡ required → IsManifestFor given holds old new spec
manifest_is given holds old new spec apps folders required wanted ends asked gives none accepts w = record {
  apps = apps;
  words = asked.words.read;
  folders = folders;
  there = asked.there;
  required = required;
  asked = asked.asked;
  ends = ends;
  said = subst (λ (xs : List PartitionName). AreEndsGiven (option_map (λ p. p.now) given.ends) holds given.folder.now folders xs old new ends) w gives;
  none_lacks = none;
  accepts = accepts;
}
