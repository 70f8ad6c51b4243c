-- The laws of the numbers of a topic's partitions and their texts.
use Rattle.std.proofs.Common.{◌≡◌, ℕ, List, ◌++◌, length, Option, Some, None, Ok, refl, sym, subst, append_assoc}
use Rattle.std.specs.Int.{w32}
use Rattle.eos_wire.specs.Numbers.{i32_text, i32_at}
use Rattle.eos_wire.proofs.NumberTexts.{i32_sound, i32_whole}
use Rattle.eos_wire.specs.declared.form.Form.{Form}
use Rattle.eos_wire.specs.Texts.{IsCountText, IsListText}
use Rattle.eos_wire.specs.Reading.{count_from}
use Rattle.eos_wire.proofs.Takes.{bind_ok, ok_is, glue, Taken, IsSound, IsWhole, many_sound, many_whole}
use Rattle.eos_wire.proofs.FieldTexts.{signed_sound, signed_whole, IsCountOrNull, count_sound, count_whole}
use Rattle.eos_txnlog.specs.Text.{IsNumberText}
use Rattle.eos_txnlog.specs.Reading.{number_from, not_null, not_null_count_from, numbers_from}

pub number_sound : IsSound IsNumberText number_from
number_sound = signed_sound w32 i32_text i32_at i32_sound

pub number_whole : IsWhole IsNumberText number_from
number_whole = signed_whole w32 i32_text i32_at i32_whole

not_null_ok : (form : Form) (text : List ℕ) (count : Option ℕ) (n : ℕ) → not_null count ≡ Ok n → IsCountOrNull form text count → IsCountText form text n
not_null_ok form text None n e h = absurd cc
not_null_ok form text (Some m) n e h = subst (IsCountText form text) (ok_is m n e) h

numbers_count_sound : (form : Form) → IsSound (IsCountText form) (not_null_count_from form)
unfolding not_null_count_from
numbers_count_sound form bytes x fits e =
    let c = bind_ok (count_from form bytes) _ x e in
    let n = bind_ok (not_null c.0.0) _ x c.2 in
    let t = count_sound form bytes c.0 fits c.1 in
    subst (Taken (IsCountText form) bytes) (ok_is (n.0, c.0.1) x n.2) (record { text = t.text; parts = t.parts; holds = not_null_ok form t.text c.0.0 n.0 n.1 t.holds; rest_fits = t.rest_fits })

numbers_count_whole : (form : Form) → IsWhole (IsCountText form) (not_null_count_from form)
unfolding not_null_count_from
numbers_count_whole form text n rest h = rw (count_whole form text (Some n) rest h) refl

pub numbers_sound : (form : Form) → IsSound (IsListText form IsNumberText) (numbers_from form)
unfolding numbers_from
numbers_sound form bytes x fits e =
    let c = bind_ok (not_null_count_from form bytes) _ x e in
    let t = numbers_count_sound form bytes c.0 fits c.1 in
    let m = many_sound IsNumberText number_from number_sound c.0.0 c.0.1 x t.rest_fits c.2 in
    record {
      text = t.text ++ m.0.text;
      parts = glue bytes t.text c.0.1 m.0.text x.1 t.parts m.0.parts;
      holds = (t.text, m.0.text, subst (IsCountText form t.text) (sym m.1) t.holds, m.0.holds, refl);
      rest_fits = m.0.rest_fits;
    }

pub numbers_whole : (form : Form) → IsWhole (IsListText form IsNumberText) (numbers_from form)
unfolding numbers_from
numbers_whole form text xs rest h =
    let e : text ++ rest ≡ h.0 ++ (h.1 ++ rest) = rw h.4 (append_assoc h.0 h.1 rest) in
    rw (e, numbers_count_whole form h.0 (length xs) (h.1 ++ rest) h.2) (many_whole IsNumberText number_from number_whole h.1 xs rest h.3)
