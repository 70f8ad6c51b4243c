use Rattle.std.proofs.Common.{◌≡◌, ◌+◌, ◌<◌, ◌^◌, ◌++◌, length, map, All, vec_len, vec_capacity, refl, sym, ap, subst, ◌∙◌, arith, rules}
use Rattle.eos_reading.specs.steps.TextEnds.{PackedView, EndView, Reaches, moved, texts_from}
use Rattle.eos_reading.proofs.TextsPlaced.{texts_length, each_within, joined_reaches, joined_texts}
use Rattle.eos_reading.proofs.packed_texts.PackedTexts.append.Goals as goal

pub append_moved-requires-clause-room : goal.append_moved-requires-clause-room
append_moved-requires-clause-room c =
    let own : length c.args.self.now.list ≡ length c.self.inside.ends.items = sym (ap (λ (v : PackedView). length v.list) c.self.view_is) ∙ texts_length 0 c.self.inside.ends.items c.self.inside.bytes.items in
    let more : length c.args.more.now.list ≡ length c.more.inside.ends.items = sym (ap (λ (v : PackedView). length v.list) c.more.view_is) ∙ texts_length 0 c.more.inside.ends.items c.more.inside.bytes.items in
    let room : vec_capacity c.self.inside.ends ≡ c.args.self.now.room = ap (λ (v : PackedView). v.room) c.self.view_is in
    let long : vec_len c.self.inside.ends ≡ length c.self.inside.ends.items = search rules in
    omega (arith, own, more, room, long, c.requires.count, ap length c.as_slice.ensures.value)

pub append_moved-requires-clause-bound : goal.append_moved-requires-clause-bound
append_moved-requires-clause-bound c =
    let by : c.len-by.result ≡ length c.self.inside.bytes.items = search rules in
    let own : length c.self.inside.bytes.items ≡ c.args.self.now.size = ap (λ (v : PackedView). v.size) c.self.view_is in
    let more : length c.more.inside.bytes.items ≡ c.args.more.now.size = ap (λ (v : PackedView). v.size) c.more.view_is in
    subst (All (λ (p : EndView). c.len-by.result + p.end < 2 ^ 40)) (sym c.as_slice.ensures.value)
    (each_within c.len-by.result 0 c.more.inside.ends.items (length c.more.inside.bytes.items) (2 ^ 40) c.more.invariant (omega (arith, by, own, more, c.requires.bound)))

pub invariant_of-self : goal.invariant_of-self
invariant_of-self c =
    let ends = c.self.inside.ends.items in
    let bytes = c.self.inside.bytes.items in
    let by : c.len-by.result ≡ length bytes = search rules in
    let items : c.append_moved.new.ends.items ≡ ends ++ map (moved (length bytes)) c.more.inside.ends.items = rw (c.append_moved.ensures, c.as_slice.ensures.value, by) refl in
    let all : c.extend_from_slice.new.self.items ≡ bytes ++ c.more.inside.bytes.items = rw (c.in-Ok.ensures.items, c.as_slice-2.ensures.value) refl in
    let h : Reaches 0 c.append_moved.new.ends.items (length c.extend_from_slice.new.self.items) =
    rw (items, all) (joined_reaches ends c.more.inside.ends.items bytes c.more.inside.bytes.items c.self.invariant c.more.invariant) in
    h

pub returns : goal.returns
returns c =
    let ends = c.self.inside.ends.items in
    let bytes = c.self.inside.bytes.items in
    let by : c.len-by.result ≡ length bytes = search rules in
    let items : c.append_moved.new.ends.items ≡ ends ++ map (moved (length bytes)) c.more.inside.ends.items = rw (c.append_moved.ensures, c.as_slice.ensures.value, by) refl in
    let all : c.extend_from_slice.new.self.items ≡ bytes ++ c.more.inside.bytes.items = rw (c.in-Ok.ensures.items, c.as_slice-2.ensures.value) refl in
    let own : texts_from 0 ends bytes ≡ c.args.self.now.list = ap (λ (v : PackedView). v.list) c.self.view_is in
    let more : texts_from 0 c.more.inside.ends.items c.more.inside.bytes.items ≡ c.args.more.now.list = ap (λ (v : PackedView). v.list) c.more.view_is in
    rw (items, all, joined_texts ends c.more.inside.ends.items bytes c.more.inside.bytes.items c.self.invariant, own, more) refl
