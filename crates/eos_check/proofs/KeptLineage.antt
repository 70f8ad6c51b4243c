-- What applications read, commit and write is kept.
use Rattle.std.proofs.Common.{◌≡◌, ◌↔◌, ℕ, ◌+◌, List, [], ◌∷◌, flat_map, length, Option, Some, None, Result, Ok, Err, refl, sym, ap, ◌∙◌, subst, inl, inr, true}
use Rattle.eos_base.specs.declared.partition_name.PartitionName.{PartitionName}
use Rattle.eos_base.specs.Members.{Has}
use Rattle.eos_base.specs.declared.record_fault.RecordFault.{RecordFault}
use Rattle.eos_offsets.specs.declared.key.OffsetKey.{OffsetKey}
use Rattle.eos_evidence.specs.declared.application.App.{App}
use Rattle.eos_claims.specs.declared.claim.Claim.{Claim}
use Rattle.eos_claims.specs.declared.place.Place.{Place}
use Rattle.eos_claims.specs.Headers.{claim_of}
use Rattle.eos_claims.specs.declared.fault.OutputFault.{OutputFault}
use Rattle.eos_claims.specs.Outputs.{Application}
use Rattle.eos_claims.specs.Faults as outputs
use Rattle.eos_fold.specs.declared.item.Item.{Item}
use Rattle.eos_fold.specs.Parts.{part_name, PartLog}
use Rattle.eos_commits.specs.Commits.{Group, Topic, is_offsets_part, key_of, is_of, commit_under, commit_in, commits_in, commits_of}
use Rattle.eos_commits.specs.Applications.{is_part_of, parts_of, place_in, inputs_in, claims_with, claims_at, claims_in, application_of, inputs_below}
use Rattle.eos_lineage.specs.Lineage.{LineageKept, outputs_in, count_inputs, count_outputs}
use Rattle.eos_verdict.specs.declared.lineage_fault.LineageFault.TheVariants.{Record, Output}
use Rattle.eos_lineage.specs.Faults.{StandsInOutputs, Stands}
use Rattle.eos_lineage.proofs.LineageLaw.{law as lineage_law}
use Rattle.eos_reading.specs.Wanted.{wanted_item, wanted_of, kept_log, wanted_logs}
use Rattle.eos_reading.specs.declared.wanted.Wanted.{Wanted}
use Rattle.eos_reading.specs.declared.wanted.Wanted.TheVariants.{Texts}
use Rattle.eos_check.specs.KeptVerdicts.{StandAlike}
use Rattle.eos_check.proofs.SeenSame.{flat_seen}
use Rattle.eos_check.proofs.StandingAlike.{back, none_from}
use Rattle.eos_check.proofs.KeptRecords.{offset_kept, writer_kept, visible_seen, visible_flat, offsets_kept, claims_kept, found_in_all}
use Rattle.eos_check.proofs.KeptVisible as visibles

-- ---- inputs

abbrev place_at : PartitionName → ℕ → Place
place_at n offset = record { partition = n; offset = offset }

place_kept : (n : PartitionName) (w : Wanted) (x : Item) → place_in n (wanted_item w x) ≡ place_in n x
place_kept n w x = ap (place_at n) (offset_kept w x)

inputs_kept : (apps : List App) (p : PartLog) → inputs_in (kept_log apps p) ≡ inputs_in p
inputs_kept apps p = visible_seen (wanted_of apps p.topic) (place_in (part_name p)) (place_kept (part_name p) (wanted_of apps p.topic)) p

all_inputs : (apps : List App) (topics : List Topic) (ps : List PartLog) → flat_map inputs_in (parts_of topics (wanted_logs apps ps)) ≡ flat_map inputs_in (parts_of topics ps)
all_inputs apps topics ps = flat_seen (kept_log apps) (is_part_of topics) inputs_in (λ p. refl) (λ p e. inputs_kept apps p) ps

-- ---- commits

pub commit_same : (group : Group) (sources : List Topic) (x : Item) → commit_in group sources (wanted_item Texts x) ≡ commit_in group sources x
commit_same group sources x = go (key_of x)
  where
    go : (key : Result (Option OffsetKey) RecordFault) → commit_under (is_of group sources) key (wanted_item Texts x) ≡ commit_under (is_of group sources) key x
    go (Err why) = refl
    go (Ok None) = refl
    go (Ok (Some key)) = refl

commits_kept : (apps : List App) (group : Group) (sources : List Topic) (p : PartLog) → is_offsets_part p ≡ true
    → commits_in group sources (kept_log apps p) ≡ commits_in group sources p
commits_kept apps group sources p e =
    ap (commits_in group sources) (offsets_kept apps p e) ∙ visible_flat Texts (commit_in group sources) (commit_same group sources) p

all_commits : (apps : List App) (group : Group) (sources : List Topic) (ps : List PartLog) → commits_of group sources (wanted_logs apps ps) ≡ commits_of group sources ps
all_commits apps group sources ps =
    flat_seen (kept_log apps) is_offsets_part (commits_in group sources) (λ p. refl) (λ p e. commits_kept apps group sources p e) ps

-- ---- claims

claim_kept : (n : PartitionName) (w : Wanted) (x : Item) → claim_of (wanted_item w x).headers ≡ claim_of x.headers → claims_at n (wanted_item w x) ≡ claims_at n x
claim_kept n w x e = ap (claims_with n (wanted_item w x)) e ∙ go (claim_of x.headers)
  where
    go : (c : Option Claim) → claims_with n (wanted_item w x) c ≡ claims_with n x c
    go None = refl
    go (Some c) =
        let o = offset_kept w x in
        let h = writer_kept w x in
        λ i. record {
          source = record { partition = record { topic = c.topic; partition = c.partition }; offset = c.offset };
          output = c.output;
          of = c.of;
          at = record { partition = n; offset = o i };
          writer = h i;
        } ∷ []

claims_seen : (apps : List App) (app : App) (p : PartLog) → Has apps app → is_part_of app.outputs p ≡ true → claims_in (kept_log apps p) ≡ claims_in p
claims_seen apps app p has e =
    let all = found_in_all apps app p.topic has e in
    visible_flat (wanted_of apps p.topic) (claims_at (part_name p)) (λ x. claim_kept (part_name p) (wanted_of apps p.topic) x (claims_kept apps p.topic all x)) p

all_claims : (apps : List App) (app : App) (ps : List PartLog) → Has apps app → flat_map claims_in (parts_of app.outputs (wanted_logs apps ps)) ≡ flat_map claims_in (parts_of app.outputs ps)
all_claims apps app ps has = flat_seen (kept_log apps) (is_part_of app.outputs) claims_in (λ p. refl) (λ p e. claims_seen apps app p has e) ps

-- ---- an application

pub application_kept : (apps : List App) (ps : List PartLog) (app : App) → Has apps app → application_of app (wanted_logs apps ps) ≡ application_of app ps
application_kept apps ps app has =
    let i = all_inputs apps app.sources ps in
    let m = all_commits apps app.group app.sources ps in
    let c = all_claims apps app ps has in
    λ t. record { sources = app.sources; inputs = i t; commits = m t; claims = c t }

-- ---- faults

outputs_from : (apps : List App) (ps qs : List PartLog) → ((app : App) → Has apps app → application_of app ps ≡ application_of app qs)
    → (group : Option Group) (f : OutputFault) → StandsInOutputs apps ps group f → StandsInOutputs apps qs group f
outputs_from apps ps qs same group f s = record {
  app = s.app;
  has = s.has;
  named = s.named;
  stands = subst (λ (a : Application). outputs.Stands a f) (same s.app s.has) s.stands;
}

pub faults_kept : (apps : List App) (ps : List PartLog) → StandAlike (Stands apps (wanted_logs apps ps)) (Stands apps ps)
faults_kept apps ps (Record f) = visibles.faults_kept apps ps f
faults_kept apps ps (Output group f) = (
  λ s. (none_from (visibles.faults_kept apps ps) s.0, outputs_from apps (wanted_logs apps ps) ps (application_kept apps ps) group f s.1),
  λ s. (
    none_from (back (visibles.faults_kept apps ps)) s.0,
    outputs_from apps ps (wanted_logs apps ps) (λ app has. sym (application_kept apps ps app has)) group f s.1,
  ),
)

pub rule_kept : (apps : List App) (ps : List PartLog) → LineageKept apps (wanted_logs apps ps) ↔ LineageKept apps ps
rule_kept apps ps = (
  λ kept. (lineage_law apps ps).1 (λ f s. (lineage_law apps (wanted_logs apps ps)).0 kept f ((faults_kept apps ps f).1 s)),
  λ rule. (lineage_law apps (wanted_logs apps ps)).1 (λ f s. (lineage_law apps ps).0 rule f ((faults_kept apps ps f).0 s)),
)

-- ---- counts

inputs_counted : (apps few : List App) (ps : List PartLog) → ((app : App) → Has few app → Has apps app) → count_inputs few (wanted_logs apps ps) ≡ count_inputs few ps
inputs_counted apps [] ps among = refl
inputs_counted apps (app ∷ few) ps among =
    let one = application_kept apps ps app (among app (inl refl)) in
    ap (λ (a : Application). length (inputs_below a) + count_inputs few (wanted_logs apps ps)) one
    ∙ ap (λ (n : ℕ). length (inputs_below (application_of app ps)) + n) (inputs_counted apps few ps (λ a has. among a (inr has)))

outputs_counted : (apps few : List App) (ps : List PartLog) → ((app : App) → Has few app → Has apps app) → count_outputs few (wanted_logs apps ps) ≡ count_outputs few ps
outputs_counted apps [] ps among = refl
outputs_counted apps (app ∷ few) ps among =
    let one = application_kept apps ps app (among app (inl refl)) in
    ap (λ (a : Application). length (outputs_in a) + count_outputs few (wanted_logs apps ps)) one
    ∙ ap (λ (n : ℕ). length (outputs_in (application_of app ps)) + n) (outputs_counted apps few ps (λ a has. among a (inr has)))

pub count_inputs_kept : (apps : List App) (ps : List PartLog) → count_inputs apps (wanted_logs apps ps) ≡ count_inputs apps ps
count_inputs_kept apps ps = inputs_counted apps apps ps (λ app has. has)

pub count_outputs_kept : (apps : List App) (ps : List PartLog) → count_outputs apps (wanted_logs apps ps) ≡ count_outputs apps ps
count_outputs_kept apps ps = outputs_counted apps apps ps (λ app has. has)
