-- The law that neighbours decide all pairs: whether each touch may follow the one before it says whether all touches
-- are sequenced and fenced.
-- Sources: as the rules (KIP-98, KIP-890). A broker sees a batch beside its producer's last state only.
use Rattle.std.specs.Prelude.{◌≡◌, ◌↔◌, ◌≤◌, Bool, true, false, Option, Some, None, Ok, List, [], ◌∷◌, ⊤}
use Rattle.std.specs.List.{AllPairs}
use Rattle.eos_touch.specs.declared.touch.Touch.{Touch}
use Rattle.eos_touch.specs.declared.touch.Touch.TheVariants.{Data, End}
use Rattle.eos_touch.specs.declared.pair.PairFault.TheVariants.{FirstSequence, Sequence, ZombieEpoch, NoBump}
use Rattle.eos_touch.specs.Pair.{stands, pair_verdict}
use Rattle.eos_touch.specs.Rules.{Sequenced, Fenced, IsInOrder}

-- a data batch has records
abbrev pub HasRecords : Touch → Type 0
HasRecords (Data epoch transactional base count) = 1 ≤ count
HasRecords (End epoch kind) = ⊤

-- the first after nothing or the one before, and each other one after its neighbour
abbrev pub EachAfter : (Option Touch → Touch → Type 0) → Option Touch → List Touch → Type 0
EachAfter R before [] = ⊤
EachAfter R before (t ∷ ts) = R before t × EachAfter R (Some t) ts

-- pair_ok accepts it
abbrev pub Accepts : Bool → Option Touch → Touch → Type 0
Accepts sequenced before next = pair_verdict before next sequenced ≡ Ok tt

-- none of the four kinds stands that look at sequences and at the order of epochs
pub record KeepsOrder (sequenced : Bool) (before : Option Touch) (next : Touch) : Type 0 where
  pub first : stands sequenced before next FirstSequence ≡ false
  pub next_one : stands sequenced before next Sequence ≡ false
  pub zombie : stands sequenced before next ZombieEpoch ≡ false
  pub bump : stands sequenced before next NoBump ≡ false

abbrev pub IsSequencedIf : Bool → List Touch → Type 0
IsSequencedIf sequenced touches = sequenced ≡ true → Sequenced touches

-- the law, and its half for the order of epochs alone
abbrev pub NeighboursDecide : Bool → List Touch → Type 0
NeighboursDecide sequenced touches =
    EachAfter (Accepts sequenced) None touches ↔ (IsSequencedIf sequenced touches × Fenced touches)

abbrev pub NeighboursDecideOrder : Bool → List Touch → Type 0
NeighboursDecideOrder sequenced touches =
    EachAfter (KeepsOrder sequenced) None touches ↔ (IsSequencedIf sequenced touches × AllPairs IsInOrder touches)
