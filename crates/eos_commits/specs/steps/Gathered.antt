-- What one walk over the visible records gathers for the list of their faults: what each record shows, each kind by itself. Of
-- the records before it is kept, of each group, the partition of the offsets log in which it was met first.
use Rattle.std.specs.Prelude.{◌≡◌, ◌≢◌, ◌⊎◌, ℕ, ℤ, ◌&&◌, Bool, true, false, Option, Some, None, is_none, Result, Ok, Err, List, [], ◌∷◌, ◌++◌, fold, int_lt, if◌then◌else◌}
use Rattle.std.specs.Ordering.{nat_cmp}
use Rattle.std.specs.Cmp.Lexicographic.{slice_cmp}
use Rattle.eos_base.specs.declared.record_fault.RecordFault.{RecordFault}
use Rattle.eos_base.specs.Members.{is_found}
use Rattle.eos_offsets.specs.declared.key.OffsetKey.{OffsetKey}
use Rattle.eos_fold.specs.declared.item.Item.{Item}
use Rattle.eos_fold.specs.Parts.{part_name, PartLog}
use Rattle.eos_claims.specs.Headers.{claim_of}
use Rattle.eos_verdict.specs.declared.visible_fault.VisibleFault.{VisibleFault}
use Rattle.eos_verdict.specs.declared.visible_fault.VisibleFaultKind.{VisibleFaultKind}
use Rattle.eos_verdict.specs.declared.visible_fault.VisibleFaultKind.TheVariants.{BadLineage, BadOffset, SplitGroup, OffsetDeleted}
use Rattle.eos_commits.specs.Visible.{is_visible}
use Rattle.eos_commits.specs.Commits.{Group, Topic, is_same, is_offsets_part, key_of, value_of}
use Rattle.eos_commits.specs.steps.Roles.{Source, source_cmp, RoleSets}
use Rattle.eos_commits.specs.declared.shown.Role.{Role}
use Rattle.eos_commits.specs.declared.shown.Shown.{Shown}

-- ---- the groups that were met

abbrev pub Homes : Type 0
Homes = Group → Option ℤ

abbrev pub nowhere : Homes
nowhere group = None

abbrev pub first_home : Option ℤ → Bool → ℤ → Option ℤ
first_home (Some m) here n = Some m
first_home None true n = Some n
first_home None false n = None

-- in a lesser partition
abbrev pub is_below : Option ℤ → ℤ → Bool
is_below None n = false
is_below (Some m) n = int_lt m n

-- this group was met in this partition
abbrev pub met : Homes → Group → ℤ → Homes
met homes group n other = first_home (homes other) (is_same group other) n

-- ---- what a record of the offsets log shows

abbrev pub nothing : Shown
nothing = record { refusal = None; is_split = false; is_deleted = false }

abbrev pub refused : RecordFault → Shown
refused fault = record { refusal = Some fault; is_split = false; is_deleted = false }

-- under a key of a group and a source topic, by whether the group has a record in a lesser partition
abbrev pub by_value : Option (Result ℤ RecordFault) → Bool → Shown
by_value None split = record { refusal = None; is_split = split; is_deleted = true }
by_value (Some (Ok offset)) split = record { refusal = None; is_split = split; is_deleted = false }
by_value (Some (Err fault)) split = record { refusal = Some fault; is_split = split; is_deleted = false }

abbrev pub is_source : List Source → OffsetKey → Bool
is_source sources key = is_found source_cmp sources (key.group, key.topic)

abbrev pub by_key : List Source → Homes → ℤ → Result (Option OffsetKey) RecordFault → Option (Result ℤ RecordFault) → Shown
by_key sources homes n (Err fault) value = refused fault
by_key sources homes n (Ok None) value = nothing
by_key sources homes n (Ok (Some key)) value = if is_source sources key then by_value value (is_below (homes key.group) n) else nothing

abbrev pub homes_by_key : List Source → Homes → ℤ → Result (Option OffsetKey) RecordFault → Homes
homes_by_key sources homes n (Err fault) = homes
homes_by_key sources homes n (Ok None) = homes
homes_by_key sources homes n (Ok (Some key)) = if is_source sources key then met homes key.group n else homes

abbrev pub by_commit : List Source → Role → Homes → Item → Shown
by_commit sources role homes x = if role.is_offsets then by_key sources homes role.number (key_of x) (value_of x) else nothing

abbrev pub homes_by_commit : List Source → Role → Homes → Item → Homes
homes_by_commit sources role homes x = if role.is_offsets then homes_by_key sources homes role.number (key_of x) else homes

-- ---- its faults

abbrev pub fault_at : PartLog → ℕ → VisibleFaultKind → VisibleFault
fault_at p offset kind = record { partition = part_name p; offset = offset; kind = kind }

abbrev pub tested : Bool → VisibleFault → List VisibleFault
tested test f = if test then f ∷ [] else []

abbrev pub refusal_at : PartLog → ℕ → Option RecordFault → List VisibleFault
refusal_at p offset None = []
refusal_at p offset (Some fault) = fault_at p offset (BadOffset fault) ∷ []

abbrev pub shown_at : PartLog → ℕ → Shown → List VisibleFault
shown_at p offset shown = refusal_at p offset shown.refusal ++ (tested shown.is_split (fault_at p offset SplitGroup) ++ tested shown.is_deleted (fault_at p offset OffsetDeleted))

-- ---- the walk

pub record Gathered : Type 0 where
  pub homes : Homes
  pub faults : List VisibleFault

abbrev pub empty : Gathered
empty = record { homes = nowhere; faults = [] }

abbrev pub visible_at : List Source → PartLog → Role → Homes → Item → List VisibleFault
visible_at sources p role homes x =
    tested (role.is_output && is_none (claim_of x.headers)) (fault_at p x.offset BadLineage) ++ shown_at p x.offset (by_commit sources role homes x)

abbrev pub take_visible : List Source → PartLog → Role → Gathered → Item → Gathered
take_visible sources p role g x = record { homes = homes_by_commit sources role g.homes x; faults = g.faults ++ visible_at sources p role g.homes x }

abbrev pub take_item : List Source → PartLog → Role → Gathered → Item → Gathered
take_item sources p role g x = if is_visible x.fate then take_visible sources p role g x else g

abbrev pub role_in : List Topic → PartLog → Role
role_in outputs p = record { is_output = is_found (slice_cmp nat_cmp) outputs p.topic; is_offsets = is_offsets_part p; number = p.number }

abbrev pub take_part : RoleSets → Gathered → PartLog → Gathered
take_part r g p = fold (take_item r.sources p (role_in r.outputs p)) g p.items

abbrev pub gathered : RoleSets → List PartLog → List VisibleFault
gathered r ps = (fold (take_part r) empty ps).faults

-- ---- what a walk answers that may end at the first record that shows a fault

-- the first of them, if there is one
pub record IsFront (front all : List VisibleFault) : Type 0 where
  pub some : front ≢ []
  pub rest : List VisibleFault
  pub joined : front ++ rest ≡ all

-- all, or where only the first is asked for, the first of them
abbrev pub Lists : Bool → List VisibleFault → List VisibleFault → Type 0
Lists only_first found all = (found ≡ all) ⊎ ((only_first ≡ true) × IsFront found all)

abbrev pub Takes : Bool → Gathered → Gathered → Type 0
Takes only_first found all = (found ≡ all) ⊎ ((only_first ≡ true) × IsFront found.faults all.faults)
