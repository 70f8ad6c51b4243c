-- The text of a report reads back with its faults in, where the text of the report that lists none does.
use Rattle.std.proofs.Common.{◌≡◌, ◌≤◌, ◌∙◌, ℕ, suc, max, List, [], ◌∷◌, ◌++◌, Bool, true, false, Option, Some, None, option_map, option_and_then, codes, drop, refl, sym, ap, ap₂, subst, arith, append_assoc, append-nil, fold, Greater, nat_cmp}
use Rattle.std.specs.Prelude.{⊤}
use Rattle.std.specs.Cmp.Lexicographic.{slice_cmp}
use Rattle.std.specs.Str.{IsCharBoundary}
use Rattle.json.specs.Token.{Token}
use Rattle.json.specs.Token as token
use Rattle.json.specs.Lex.{tokens}
use Rattle.json.specs.Print.{print, print_from, ends, escape_byte, ArePrintableOrBad}
use Rattle.json.specs.Json as json
use Rattle.json.specs.Tree as tree
use Rattle.json.proofs.Numbered.{ArePrintableOrBad-tokens}
use Rattle.json.proofs.Printed.Tokens.{tokens-print, print_from-append}
use Rattle.json.proofs.Printed.Trees.{value-json_tokens, ArePrintable-json_tokens}
use Rattle.serde_json.specs.Data.{Data, null, boolean, number, string, array, object, Items, no_items, item, Members, no_members, member, put, depth, items_depth, members_depth}
use Rattle.serde_json.specs.Read.{read, max_depth, of_json, of_items, of_members}
use Rattle.serde_json.specs.Written.{outline, items_outline, members_outline, blank, blank_items, blank_members, items_text}
use Rattle.serde_json.proofs.Texts.{print-outline}
use Rattle.eos_report.specs.steps.Texts.{head, array_end, IsRead, AreRead, IsTextOf}

-- ---- what a text reads as, by its tokens

abbrev whole : Option (json.Json × List Token) → Option Data
whole o = option_and_then of_json (option_and_then (λ p. json.if_last p.0 p.1) o)

read_as : (text : List ℕ) (j : json.Json) → tokens text ≡ tree.json_tokens j → tree.depth j ≤ max_depth → read text ≡ of_json j
read_as text j same shallow = ap whole (ap (json.value max_depth) (same ∙ sym (append-nil (tree.json_tokens j))) ∙ value-json_tokens j max_depth [] shallow)

mutual
  outline_depth : (d : Data) → tree.depth (outline d) ≡ depth d
  outline_depth null = refl
  outline_depth (boolean b) = refl
  outline_depth (number n) = refl
  outline_depth (string s) = refl
  outline_depth (array ds) = ap suc (items_outline_depth ds)
  outline_depth (object ms) = ap suc (members_outline_depth ms)

  items_outline_depth : (ds : Items) → tree.items_depth (items_outline ds) ≡ items_depth ds
  items_outline_depth no_items = refl
  items_outline_depth (item d ds) = ap₂ max (outline_depth d) (items_outline_depth ds)

  members_outline_depth : (ms : Members) → tree.members_depth (members_outline ms) ≡ members_depth ms
  members_outline_depth no_members = refl
  members_outline_depth (member k d ms) = ap₂ max (outline_depth d) (members_outline_depth ms)

mutual
  blank_depth : (j : json.Json) → tree.depth (blank j) ≡ tree.depth j
  blank_depth json.null = refl
  blank_depth (json.boolean b) = refl
  blank_depth (json.number s) = refl
  blank_depth (json.string s) = refl
  blank_depth (json.array js) = ap suc (blank_items_depth js)
  blank_depth (json.object ms) = ap suc (blank_members_depth ms)

  blank_items_depth : (js : json.Items) → tree.items_depth (blank_items js) ≡ tree.items_depth js
  blank_items_depth json.no_items = refl
  blank_items_depth (json.item j js) = ap₂ max (blank_depth j) (blank_items_depth js)

  blank_members_depth : (ms : json.Members) → tree.members_depth (blank_members ms) ≡ tree.members_depth ms
  blank_members_depth json.no_members = refl
  blank_members_depth (json.member k j ms) = ap₂ max (blank_depth j) (blank_members_depth ms)

-- ---- tokens that were found in a text can be written again

mutual
  numbered : (j : json.Json) (ts : List Token) → ArePrintableOrBad (tree.json_tokens j ++ ts) → tree.HasNumbers j × ArePrintableOrBad ts
  numbered json.null ts h = (tt, h.1)
  numbered (json.boolean b) ts h = (tt, h.1)
  numbered (json.number s) ts h = (h.0, h.1)
  numbered (json.string s) ts h = (tt, h.1)
  numbered (json.array js) ts h = items_numbered js ts h.1
  numbered (json.object ms) ts h = members_numbered ms ts h.1

  items_numbered : (js : json.Items) (ts : List Token) → ArePrintableOrBad (tree.items_tokens js ++ ts) → tree.ItemsHaveNumbers js × ArePrintableOrBad ts
  items_numbered json.no_items ts h = (tt, h.1)
  items_numbered (json.item j js) ts h =
      let first = numbered j (tree.items_tokens js ++ ts) (subst ArePrintableOrBad (append_assoc (tree.json_tokens j) (tree.items_tokens js) ts) h) in
      let rest = items_numbered js ts first.1 in
      ((first.0, rest.0), rest.1)

  members_numbered : (ms : json.Members) (ts : List Token) → ArePrintableOrBad (tree.members_tokens ms ++ ts) → tree.MembersHaveNumbers ms × ArePrintableOrBad ts
  members_numbered json.no_members ts h = (tt, h.1)
  members_numbered (json.member k j ms) ts h =
      let first = numbered j (tree.members_tokens ms ++ ts) (subst ArePrintableOrBad (append_assoc (tree.json_tokens j) (tree.members_tokens ms) ts) h.1) in
      let rest = members_numbered ms ts first.1 in
      ((first.0, rest.0), rest.1)

numbers_of : (text : List ℕ) (j : json.Json) → tokens text ≡ tree.json_tokens j → tree.HasNumbers j
numbers_of text j same = (numbered j [] (subst ArePrintableOrBad (same ∙ sym (append-nil (tree.json_tokens j))) (ArePrintableOrBad-tokens text))).0

-- ---- the items of an array, each of which was read

of_outline : (d : Data) → IsRead d → depth d ≤ max_depth → of_json (outline d) ≡ Some d
of_outline d r shallow = sym (read_as r.text (outline d) r.same (omega (arith, outline_depth d))) ∙ r.reads

of_items_outline : (ds : Items) → AreRead ds → items_depth ds ≤ max_depth → of_items (items_outline ds) ≡ Some ds
of_items_outline no_items h shallow = refl
of_items_outline (item d ds) h shallow =
    ap (option_and_then (λ e. option_map (item e) (of_items (items_outline ds)))) (of_outline d h.0 (omega arith))
    ∙ ap (option_map (item d)) (of_items_outline ds h.1 (omega arith))

items_have_numbers : (ds : Items) → AreRead ds → tree.ItemsHaveNumbers (items_outline ds)
items_have_numbers no_items h = tt
items_have_numbers (item d ds) h = (numbers_of h.0.text (outline d) h.0.same, items_have_numbers ds h.1)

-- ---- members behind the answer and the faults

abbrev answer : List ℕ
answer = codes "answer"

abbrev faults : List ℕ
faults = codes "faults"

abbrev no : List ℕ
no = codes "no"

abbrev wrapped : Data → Members → Members
wrapped d ms = member answer (string no) (member faults d ms)

abbrev framed : json.Items → json.Members → json.Json
framed js ms = json.object (json.member answer (json.string no) (json.member faults (json.array js) ms))

abbrev pub AreAbove : json.Members → Type 0
AreAbove json.no_members = ⊤
AreAbove (json.member k j ms) = (slice_cmp nat_cmp k answer ≡ Greater) × (slice_cmp nat_cmp k faults ≡ Greater) × AreAbove ms

above_blank : (ms : json.Members) → AreAbove (blank_members ms) → AreAbove ms
above_blank json.no_members h = tt
above_blank (json.member k j ms) h = (h.0, h.1, above_blank ms h.2)

put_over : (k l : List ℕ) (e d : Data) (ms : Members) → slice_cmp nat_cmp k l ≡ Greater → put k e (member l d ms) ≡ member l d (put k e ms)
put_over k l e d ms above = rw above refl

put_wrapped : (k : List ℕ) (e d : Data) (ms : Members) → slice_cmp nat_cmp k answer ≡ Greater → slice_cmp nat_cmp k faults ≡ Greater → put k e (wrapped d ms) ≡ wrapped d (put k e ms)
put_wrapped k e d ms p q = put_over k answer e (string no) (member faults d ms) p ∙ ap (member answer (string no)) (put_over k faults e d ms q)

of_step : (o : Option Data) (k : List ℕ) (ms : json.Members) (d : Data) (front : Members) → slice_cmp nat_cmp k answer ≡ Greater → slice_cmp nat_cmp k faults ≡ Greater
    → ((more : Members) → of_members ms (wrapped d more) ≡ option_map (wrapped d) (of_members ms more))
    → option_and_then (λ e. of_members ms (put k e (wrapped d front))) o ≡ option_map (wrapped d) (option_and_then (λ e. of_members ms (put k e front)) o)
of_step None k ms d front p q later = refl
of_step (Some e) k ms d front p q later = ap (of_members ms) (put_wrapped k e d front p q) ∙ later (put k e front)

of_wrapped : (ms : json.Members) (d : Data) (front : Members) → AreAbove ms → of_members ms (wrapped d front) ≡ option_map (wrapped d) (of_members ms front)
of_wrapped json.no_members d front h = refl
of_wrapped (json.member k j ms) d front h = of_step (of_json j) k ms d front h.0 h.1 (λ more. of_wrapped ms d more h.2)

of_framed : (js : json.Items) (ds : Items) (ms : json.Members) → of_items js ≡ Some ds → AreAbove ms
    → of_json (framed js ms) ≡ option_map object (option_map (wrapped (array ds)) (of_members ms no_members))
of_framed js ds ms e above =
    ap (λ o. option_map object (option_and_then (λ d. of_members ms (put faults d (member answer (string no) no_members))) (option_map array o))) e
    ∙ ap (option_map object) (of_wrapped ms (array ds) no_members above)

abbrev behind : Option Data → Option Members
behind (Some (object (member k d (member l e ms)))) = Some ms
behind other = None

peeled : (o : Option Members) (d : Data) → behind (option_map object (option_map (wrapped d) o)) ≡ o
peeled None d = refl
peeled (Some ms) d = refl

-- ---- the tree of the report that lists no fault

record Opened (j : json.Json) (rest : Members) : Type 0 where
  members : json.Members
  is : j ≡ framed json.no_items members
  blanks : blank_members members ≡ members_outline rest

opened : (j : json.Json) (rest : Members) → blank j ≡ framed json.no_items (members_outline rest) → Opened j rest
opened (json.object (json.member k (json.string s) (json.member l (json.array json.no_items) ms))) rest e = record { members = ms; is = cc; blanks = cc }
opened j rest e = absurd cc

-- ---- what is printed

fold_ends : (c : Bool) (ts us : List Token) → fold (λ _ u. ends u) c (ts ++ us) ≡ fold (λ _ u. ends u) (fold (λ _ u. ends u) c ts) us
fold_ends c [] us = refl
fold_ends c (t ∷ ts) us = fold_ends (ends t) ts us

items_end : (js : json.Items) (c : Bool) → fold (λ _ u. ends u) c (tree.items_tokens js) ≡ true
items_end json.no_items c = refl
items_end (json.item j js) c = fold_ends c (tree.json_tokens j) (tree.items_tokens js) ∙ items_end js (fold (λ _ u. ends u) c (tree.json_tokens j))

print_items : (ds : Items) → print_from false (tree.items_tokens (items_outline ds)) ≡ items_text false ds
unfolding print_from
print_items ds = ap (drop 1) (print-outline (array ds))

abbrev tail : json.Members → List ℕ
tail ms = print_from true (tree.members_tokens ms)

print_framed : (js : json.Items) (ms : json.Members) → print (tree.json_tokens (framed js ms)) ≡ head ++ print_from false (tree.items_tokens js ++ tree.members_tokens ms)
unfolding print_from escape_byte
print_framed js ms = refl

printed : (ds : Items) (ms : json.Members) → print (tree.json_tokens (framed (items_outline ds) ms)) ≡ head ++ (items_text false ds ++ tail ms)
printed ds ms =
    print_framed (items_outline ds) ms
    ∙ ap (λ l. head ++ l)
    (print_from-append false (tree.items_tokens (items_outline ds)) (tree.members_tokens ms)
    ∙ ap₂ (λ l c. l ++ print_from c (tree.members_tokens ms)) (print_items ds) (items_end (items_outline ds) false))

-- ---- the two texts

tree_of : (rest : Members) (frame : List ℕ) → IsTextOf (object (wrapped (array no_items) rest)) frame → (j : json.Json) × (tokens frame ≡ tree.json_tokens j) × Opened j rest
tree_of rest frame t = (t.order.0, t.order.1, opened t.order.0 rest t.order.2)

frame_is : (rest : Members) (frame : List ℕ) (t : IsTextOf (object (wrapped (array no_items) rest)) frame) → frame ≡ head ++ (93 ∷ tail (tree_of rest frame t).2.members)
frame_is rest frame t =
    let found = tree_of rest frame t in
    t.printed ∙ ap print (found.1 ∙ ap tree.json_tokens found.2.is) ∙ printed no_items found.2.members

-- behind the array stands a comma or a brace
ascii_tail : (ms : json.Members) → IsCharBoundary (head ++ (93 ∷ tail ms)) array_end
unfolding print_from
ascii_tail json.no_members = (omega arith, λ within large. absurd (let byte : 128 ≤ 125 = large in omega (arith, byte)))
ascii_tail (json.member k j ms) = (omega arith, λ within large. absurd (let byte : 128 ≤ 44 = large in omega (arith, byte)))

pub opens : (rest : Members) (frame : List ℕ) → IsTextOf (object (wrapped (array no_items) rest)) frame → IsCharBoundary frame array_end
opens rest frame t = subst (λ l. IsCharBoundary l array_end) (sym (frame_is rest frame t)) (ascii_tail (tree_of rest frame t).2.members)

pub reads_filled : (rest : Members) (ds : Items) (frame : List ℕ) → AreAbove (members_outline rest) → depth (object (wrapped (array ds) rest)) ≤ max_depth
    → IsTextOf (object (wrapped (array no_items) rest)) frame → AreRead ds
    → read (head ++ (items_text false ds ++ drop array_end frame)) ≡ Some (object (wrapped (array ds) rest))
reads_filled rest ds frame above shallow t items =
    let found = tree_of rest frame t in
    let ms = found.2.members in
    let j = framed (items_outline ds) ms in
    let same : tokens frame ≡ tree.json_tokens (framed json.no_items ms) = found.1 ∙ ap tree.json_tokens found.2.is in
    let behind_array : drop array_end frame ≡ tail ms = ap (drop array_end) (frame_is rest frame t) in
    let text : head ++ (items_text false ds ++ drop array_end frame) ≡ print (tree.json_tokens j) = ap (λ l. head ++ (items_text false ds ++ l)) behind_array ∙ sym (printed ds ms) in
    let of_frame = numbers_of frame (framed json.no_items ms) same in
    let numbers : tree.HasNumbers j = (tt, (items_have_numbers ds items, of_frame.1.1)) in
    let deep_rest : tree.members_depth ms ≡ members_depth rest = sym (blank_members_depth ms) ∙ ap tree.members_depth found.2.blanks ∙ members_outline_depth rest in
    let deep_items = items_outline_depth ds in
    let above_ms : AreAbove ms = above_blank ms (subst AreAbove (sym found.2.blanks) above) in
    let nothing : of_json (framed json.no_items ms) ≡ option_map object (option_map (wrapped (array no_items)) (of_members ms no_members)) = of_framed json.no_items no_items ms refl above_ms in
    let frame_reads : of_json (framed json.no_items ms) ≡ Some (object (wrapped (array no_items) rest)) =
    sym (read_as frame (framed json.no_items ms) same (omega (arith, shallow, deep_rest))) ∙ t.reads (omega (arith, shallow)) in
    let members : of_members ms no_members ≡ Some rest = sym (peeled (of_members ms no_members) (array no_items)) ∙ ap behind (sym nothing ∙ frame_reads) in
    ap read text
    ∙ read_as (print (tree.json_tokens j)) j (tokens-print (tree.json_tokens j) (ArePrintable-json_tokens j numbers)) (omega (arith, shallow, deep_rest, deep_items))
    ∙ of_framed (items_outline ds) ds ms (of_items_outline ds items (omega (arith, shallow))) above_ms
    ∙ ap (λ o. option_map object (option_map (wrapped (array ds)) o)) members
