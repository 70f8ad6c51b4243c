use Rattle.std.proofs.Common.{◌≡◌, ℕ, ◌∷◌, ◌++◌, [], List, length, option_map, Bor, refl, ap, ◌∙◌, rules}
use Rattle.eos_reading.specs.steps.Bytes.{bytes_in}
use Rattle.eos_reading.specs.steps.TextEnds.{PackedView, EndView, Reaches, texts_from, behind}
use Rattle.eos_reading.proofs.TextsPlaced.{one_reaches, one_text}
use Rattle.eos_reading.proofs.packed_texts.PackedTexts.push.Goals as goal

pub invariant_of-self-2 : goal.invariant_of-self-2
invariant_of-self-2 c =
    let key = option_map (λ (s : Bor (List ℕ)). s.now) c.args.key in
    let value = option_map (λ (s : Bor (List ℕ)). s.now) c.args.value in
    let ends = c.self.inside.ends.items in
    let bytes = c.self.inside.bytes.items in
    let size : c.len.result ≡ length bytes = search rules in
    let is : c.in-Some.text ≡ behind (length bytes) key value = c.in-Some.ensures ∙ ap (λ (n : ℕ). behind n key value) size in
    let items : c.push_reserved.new.self.items ≡ ends ++ c.in-Some.text ∷ [] = c.push_reserved.ensures.items ∙ ap (λ (ps : List EndView). ps ++ c.in-Some.text ∷ []) c.reserve.ensures.items in
    let both : c.push_both.new.bytes.items ≡ bytes ++ (bytes_in key ++ bytes_in value) = rw (c.in_ok-push_both.ensures.ok, c.bytes_of.ensures, c.bytes_of-2.ensures) refl in
    let h : Reaches 0 c.push_reserved.new.self.items (length c.push_both.new.bytes.items) = rw (items, both) (one_reaches ends bytes key value c.in-Some.text c.self.invariant is) in
    h

pub returns-clause-ok : goal.returns-clause-ok
returns-clause-ok c =
    let key = option_map (λ (s : Bor (List ℕ)). s.now) c.args.key in
    let value = option_map (λ (s : Bor (List ℕ)). s.now) c.args.value in
    let ends = c.self.inside.ends.items in
    let bytes = c.self.inside.bytes.items in
    let size : c.len.result ≡ length bytes = search rules in
    let is : c.in-Some.text ≡ behind (length bytes) key value = c.in-Some.ensures ∙ ap (λ (n : ℕ). behind n key value) size in
    let items : c.push_reserved.new.self.items ≡ ends ++ c.in-Some.text ∷ [] = c.push_reserved.ensures.items ∙ ap (λ (ps : List EndView). ps ++ c.in-Some.text ∷ []) c.reserve.ensures.items in
    let both : c.push_both.new.bytes.items ≡ bytes ++ (bytes_in key ++ bytes_in value) = rw (c.in_ok-push_both.ensures.ok, c.bytes_of.ensures, c.bytes_of-2.ensures) refl in
    let is_list : texts_from 0 ends bytes ≡ c.args.self.now.list = ap (λ (v : PackedView). v.list) c.self.view_is in
    rw (items, both, one_text ends bytes key value c.in-Some.text c.self.invariant is, is_list) refl
