-- A batch in its leader epoch is as long as before, and passes the same tests.
use Rattle.std.proofs.Common.{◌≡◌, ℕ, ◌^◌, ◌<◌, ◌==◌, ◌&&◌, ℤ, pos, Bool, true, false, List, [], ◌∷◌, map, length, refl, sym, ◌∙◌, arith, if◌then◌else◌, length-append}
use Rattle.std.specs.Prelude.{int_le}
use Rattle.std.specs.List.{All}
use Rattle.std.proofs.lemmas.List.Elements.{All-head, All-tail}
use Rattle.eos_batch.specs.declared.batch.Batch.{Batch}
use Rattle.eos_batch.specs.Encoding.{tested, batch_text_of}
use Rattle.eos_batch.proofs.EncodingTests.{length-batch_text_of}
use Rattle.eos_machine.specs.World.{Election}
use Rattle.eos_machine.specs.Elections.{epoch_from, leader_epoch}
use Rattle.eos_machine.specs.Batches.{led, texts_of}

pub led_length : (p : ℕ) (es : List Election) (b : Batch) → length (batch_text_of (led p es b)) ≡ length (batch_text_of b)
led_length p es b = length-batch_text_of (led p es b) ∙ sym (length-batch_text_of b)

pub led_tested : (p : ℕ) (es : List Election) (b : Batch) → tested (led p es b) ≡ tested b
unfolding tested
led_tested p es b = rw (led_length p es b) refl

pub led_lengths : (p : ℕ) (es : List Election) (bs : List Batch) → length (texts_of (map (led p es) bs)) ≡ length (texts_of bs)
led_lengths p es [] = refl
led_lengths p es (b ∷ bs) =
    let e = led_length p es b in
    let r = led_lengths p es bs in
    let s = length-append (batch_text_of (led p es b)) (texts_of (map (led p es) bs)) in
    let t = length-append (batch_text_of b) (texts_of bs) in
    omega (arith, e, r, s, t)

small_from : (p : ℕ) (o : ℤ) (e : ℕ) (es : List Election) → e < 2 ^ 16 → All (λ x. x.leader_epoch < 2 ^ 16) es → epoch_from p o e es < 2 ^ 16
small_from p o e [] l h = l
small_from p o e (x ∷ xs) l h = small_from p o (if x.place == p && int_le (pos x.start) o then x.leader_epoch else e) xs (chosen (x.place == p && int_le (pos x.start) o)) (All-tail (λ y. y.leader_epoch < 2 ^ 16) x xs h)
  where
    chosen : (t : Bool) → (if t then x.leader_epoch else e) < 2 ^ 16
    chosen true = All-head (λ y. y.leader_epoch < 2 ^ 16) x xs h
    chosen false = l

pub epoch_small : (p : ℕ) (o : ℤ) (es : List Election) → All (λ x. x.leader_epoch < 2 ^ 16) es → leader_epoch p o es < 2 ^ 16
epoch_small p o es h = small_from p o 0 es (omega arith) h
