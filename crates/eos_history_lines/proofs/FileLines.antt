-- The lines of a text, one after the other.
use Rattle.std.proofs.Common.{◌≡◌, ◌<◌, ◌+◌, ◌-◌, ◌^◌, min, ℕ, List, [], ◌∷◌, ◌++◌, Bool, true, false, ◌||◌, ◌==◌, Option, None, Some, length, length-append, append_assoc, append-nil, subst, refl, ap, sym, ◌∙◌, arith, inl, inr}
use Rattle.std.specs.List.{AllZip}
use Rattle.eos_history_lines.specs.declared.line.Line.{Line}
use Rattle.eos_history_lines.specs.declared.line.Tail.{Tail}
use Rattle.eos_history_lines.specs.Divided.{lines_of}
use Rattle.eos_history_lines.specs.declared.schedule.ScheduleFault.{ScheduleFault}
use Rattle.eos_history_lines.specs.Files.{SaysHead, SaysRow, SaysLine, SayRows}
use Rattle.eos_history_lines.specs.declared.line.Row.TheVariants as rows
use Rattle.eos_history_lines.specs.Refusals.{IsNoHead, IsRefusedAfter, IsRefusedAmong, IsRefusedFirst, IsRefusal}
use Rattle.eos_history_lines.specs.declared.fault.LineFault.TheVariants.{NotJson}
use Rattle.eos_history_lines.specs.declared.line.Head.{Head}
use Rattle.eos_history_lines.specs.steps.Pieces.{has_feed, IsFirstLine, or_nothing}

no_first : (a b : Bool) → (a || b) ≡ false → a ≡ false
no_first true b h = h
no_first false b h = refl

no_second : (a b : Bool) → (a || b) ≡ false → b ≡ false
no_second true b h = absurd (cc h)
no_second false b h = h

-- the first line feed divides
divided_there : (before after : List ℕ) → has_feed before ≡ false → lines_of (before ++ 10 ∷ after) ≡ before ∷ lines_of after
unfolding lines_of
divided_there [] after h = refl
divided_there (b ∷ bs) after h = rw (no_first (b == 10) (has_feed bs) h, divided_there bs after (no_second (b == 10) (has_feed bs) h)) refl

-- a line alone
alone : (byte : ℕ) (text : List ℕ) → has_feed (byte ∷ text) ≡ false → lines_of (byte ∷ text) ≡ (byte ∷ text) ∷ []
unfolding lines_of
alone byte [] h = rw (no_first (byte == 10) false h) refl
alone byte (b ∷ bs) h = rw (no_first (byte == 10) (has_feed (b ∷ bs)) h, alone b bs (no_second (byte == 10) (has_feed (b ∷ bs)) h)) refl

pub line_and_rest : (text line : List ℕ) (rest : Option (List ℕ)) → 0 < length text → IsFirstLine text line rest → lines_of text ≡ line ∷ lines_of (or_nothing rest)
unfolding lines_of
line_and_rest [] line None some h = absurd (omega arith)
line_and_rest (b ∷ bs) line None some h = rw (h.0) (alone b bs (subst (λ (t : List ℕ). has_feed t ≡ false) h.0 h.1))
line_and_rest text line (Some rest) some h = ap lines_of h.0 ∙ divided_there line rest h.1

pub shorter : (text line : List ℕ) (rest : Option (List ℕ)) → 0 < length text → IsFirstLine text line rest → length (or_nothing rest) < length text
shorter text line None some h = some
shorter text line (Some rest) some h = omega (arith, ap length h.0, length-append line (10 ∷ rest))

-- ---- what they say

push_zip : (ts : List (List ℕ)) (ls : List Line) (t : List ℕ) (l : Line) → AllZip SaysLine ts ls → SaysLine t l → AllZip SaysLine (ts ++ t ∷ []) (ls ++ l ∷ [])
push_zip [] [] t l a h = (h, tt)
push_zip [] (m ∷ ls) t l a h = absurd a
push_zip (u ∷ ts) [] t l a h = absurd a
push_zip (u ∷ ts) (m ∷ ls) t l a h = (a.0, push_zip ts ls t l a.1 h)

pub no_rows : SayRows [] [] None
no_rows = record { done = []; last = []; parts = refl; each = tt; ends = refl }

one_more : (texts : List (List ℕ)) (lines : List Line) (text : List ℕ) (h : SayRows texts lines None) → texts ++ text ∷ [] ≡ h.done ++ text ∷ []
one_more texts lines text h = ap (λ ts. ts ++ text ∷ []) (h.parts ∙ ap (λ ts. h.done ++ ts) h.ends ∙ append-nil h.done)

pub one_line : (texts : List (List ℕ)) (lines : List Line) (text : List ℕ) (l : Line) → SayRows texts lines None → SaysRow text (rows.Line l) → SayRows (texts ++ text ∷ []) (lines ++ l ∷ []) None
one_line texts lines text l h said = record {
  done = h.done ++ text ∷ [];
  last = [];
  parts = one_more texts lines text h ∙ sym (append-nil (h.done ++ text ∷ []));
  each = push_zip h.done lines text l h.each said;
  ends = refl;
}

pub one_tail : (texts : List (List ℕ)) (lines : List Line) (text : List ℕ) (t : Tail) → SayRows texts lines None → SaysRow text (rows.Tail t) → SayRows (texts ++ text ∷ []) lines (Some t)
one_tail texts lines text t h said = record {
  done = h.done;
  last = text ∷ [];
  parts = one_more texts lines text h;
  each = h.each;
  ends = (text, refl, said.0, said.1);
}

-- what was read of a text, and what is left of it, whose first line has this number
pub record Read (whole rest : List ℕ) (lines : List Line) (tail : Option Tail) (number : ℕ) : Type 0 where
  pub texts : List (List ℕ)
  pub split : lines_of whole ≡ texts ++ lines_of rest
  pub rows : SayRows texts lines tail
  pub number_is : number ≡ min (2 + length texts) (2 ^ 64 - 1)

pub read_none : (whole : List ℕ) → Read whole whole [] None 2
read_none whole = record { texts = []; split = refl; rows = no_rows; number_is = omega arith }

pub read_all : (whole rest : List ℕ) (lines : List Line) (tail : Option Tail) (number : ℕ) → Read whole rest lines tail number → length rest ≡ 0 → SayRows (lines_of whole) lines tail
unfolding lines_of
read_all whole [] lines tail number h none = subst (λ ts. SayRows ts lines tail) (sym (h.split ∙ append-nil h.texts)) h.rows
read_all whole (b ∷ bs) lines tail number h none = absurd (omega (arith, none))

-- the line that is left first is refused
pub refused_here : (whole rest here : List ℕ) (others : List (List ℕ)) (lines : List Line) (tail : Option Tail) (number : ℕ) (f : ScheduleFault) → Read whole rest lines tail number → lines_of rest ≡ here ∷ others
    → f.line ≡ number → IsRefusedAfter tail here f.fault → IsRefusedAmong (lines_of whole) f
refused_here whole rest here others lines tail number f h first n r = record {
  before = h.texts;
  here = here;
  others = others;
  lines = lines;
  tail = tail;
  parts = h.split ∙ ap (λ ls. h.texts ++ ls) first;
  rows = h.rows;
  number = n ∙ h.number_is;
  refused = r;
}

-- one line more was read
pub split_more : (whole rest line : List ℕ) (lines : List (List ℕ)) (texts : List (List ℕ)) → lines_of whole ≡ texts ++ lines_of rest → lines_of rest ≡ line ∷ lines
    → lines_of whole ≡ (texts ++ line ∷ []) ++ lines
split_more whole rest line lines texts split first = split ∙ ap (λ ls. texts ++ ls) first ∙ sym (append_assoc texts (line ∷ []) lines)

-- ---- what is refused

pub no_line : (text : List ℕ) (f : ScheduleFault) → length text ≡ 0 → f.line ≡ 1 → f.fault ≡ NotJson → IsRefusal (lines_of text) f
unfolding lines_of
no_line [] f e n k = inl (n, k)
no_line (b ∷ bs) f e n k = absurd (omega (arith, e))

pub no_head : (text line : List ℕ) (others : List (List ℕ)) (f : ScheduleFault) → lines_of text ≡ line ∷ others → f.line ≡ 1 → IsNoHead line f.fault → IsRefusal (lines_of text) f
no_head text line others f parts n h = inl (n, subst (λ ts. IsRefusedFirst ts f) (sym parts) h)

pub no_row : (text line : List ℕ) (others : List (List ℕ)) (head : Head) (f : ScheduleFault) → lines_of text ≡ line ∷ others → SaysHead line head → IsRefusedAmong others f → IsRefusal (lines_of text) f
no_row text line others head f parts begins among = inr (record { first = line; others = others; head = head; parts = parts; begins = begins; among = among })
