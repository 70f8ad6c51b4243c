-- What a fault means and what to do next, by what its rows show: the first case of its kind's page whose sign a row bears, and that
-- row's place; where none is borne, the kind's.
use Rattle.std.specs.Prelude.{ℕ, List, [], ◌∷◌, ◌++◌, Option, Some, None, codes}
use Rattle.std.specs.Fmt.{decimal}
use Rattle.eos_base.specs.declared.partition_name.PartitionName.{PartitionName}
use Rattle.eos_text.specs.declared.case.Case.{Case}
use Rattle.eos_text.specs.declared.page.Page.{Page}
use Rattle.eos_claims.specs.declared.place.Place.{Place}
use Rattle.eos_sought.specs.declared.partition.Placed.{Placed}
use Rattle.eos_verdict.specs.FaultTexts.{name_text}
use Rattle.eos_story.specs.declared.row.Row.{Row}
use Rattle.eos_story.specs.declared.row.Row.TheVariants as rows
use Rattle.eos_story.specs.Places.{at_text}
use Rattle.eos_story.specs.Signs.{bearer}

-- ---- the place of a row

abbrev pub first_place : PartitionName → Option Placed → List ℕ
first_place name None = name_text name.topic name.partition
first_place name (Some placed) = at_text name placed.standing.head.offset

unfoldable pub segment_place : PartitionName → ℕ → List ℕ
segment_place name base = name_text name.topic name.partition ++ (codes " segment " ++ decimal base)

abbrev pub row_place : Row → List ℕ
row_place (rows.Record sought find spot) = at_text find.partition find.item.offset
row_place (rows.NoRecord sought) = []
row_place (rows.MoreRecords shown all sought) = []
row_place (rows.Batch name wanted placed) = first_place name (Some placed)
row_place (rows.First name wanted placed) = first_place name placed
row_place (rows.MoreBatches name wanted shown all) = []
row_place (rows.MorePartitions shown all sought) = []
row_place (rows.Segment name base size) = segment_place name base
row_place (rows.MoreSegments name shown all) = []
row_place (rows.End name end) = name_text name.topic name.partition
row_place (rows.Header place name values) = []

-- ---- sentences

unfoldable pub case_text : Case → Row → List ℕ
case_text c row = codes "Means: " ++ (c.means.now ++ (codes "\nShown by: " ++ (row_place row ++ (codes "\nNext: " ++ (c.next.now ++ codes "\n")))))

unfoldable pub kind_text : Page → List ℕ
kind_text p = codes "Means: " ++ (p.means.now ++ (codes "\nNext: " ++ (p.next.now ++ codes "\n")))

-- by the row that shows the case, or else other sentences
abbrev pub told_text : Case → Option Row → List ℕ → List ℕ
told_text c None others = others
told_text c (Some row) others = case_text c row

abbrev pub sentences_text : Option Place → List Row → Page → List Case → List ℕ
sentences_text place all page [] = kind_text page
sentences_text place all page (c ∷ cs) = told_text c (bearer c.sign place all) (sentences_text place all page cs)

-- ---- the row that shows the case

abbrev pub or_shown : Option Row → Option Row → Option Row
or_shown None other = other
or_shown (Some row) other = Some row

abbrev pub shown_by : Option Place → List Row → List Case → Option Row
shown_by place all [] = None
shown_by place all (c ∷ cs) = or_shown (bearer c.sign place all) (shown_by place all cs)

abbrev pub shown_of : Option Place → List Row → Option Page → Option Row
shown_of place all None = None
shown_of place all (Some p) = shown_by place all p.cases.now
