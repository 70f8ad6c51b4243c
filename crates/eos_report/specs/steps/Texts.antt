-- The text of an object with items put into the empty array that is its second member.
use Rattle.std.specs.Prelude.{◌≡◌, ◌≤◌, ℕ, List, Some, codes, ⊤}
use Rattle.json.specs.Lex.{tokens}
use Rattle.json.specs.Print.{print}
use Rattle.json.specs.Tree.{json_tokens}
use Rattle.serde_json.specs.Data.{Data, Items, no_items, item, depth}
use Rattle.serde_json.specs.Read.{read, max_depth}
use Rattle.serde_json.specs.Written.{IsInOrder, outline}

-- what stands before the first fault, the bracket that opens the array included
abbrev pub head : List ℕ
head = codes "{\"answer\":\"no\",\"faults\":["

-- where an empty array ends behind it
abbrev pub array_end : ℕ
array_end = 26

-- some text has this value's tokens and reads as it
pub record IsRead (d : Data) : Type 0 where
  pub text : List ℕ
  pub same : tokens text ≡ json_tokens (outline d)
  pub reads : read text ≡ Some d

abbrev pub AreRead : Items → Type 0
AreRead no_items = ⊤
AreRead (item d ds) = IsRead d × AreRead ds

-- what is said of the text that a value has
pub record IsTextOf (d : Data) (text : List ℕ) : Type 0 where
  pub printed : text ≡ print (tokens text)
  pub order : IsInOrder text d
  pub reads : depth d ≤ max_depth → read text ≡ Some d
