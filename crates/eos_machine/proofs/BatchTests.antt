-- No batch of a cluster's items is refused.
use Rattle.std.proofs.Common.{◌≡◌, ℕ, suc, ◌+◌, ◌^◌, ◌<◌, ◌≤ℤ◌, ◌+ℤ◌, Bool, true, false, pos, List, [], ◌∷◌, map, length, Ok, refl, arith}
use Rattle.std.specs.Prelude.{int_lt, int_le, if◌then◌else◌}
use Rattle.std.specs.List.{All}
use Rattle.std.proofs.lemmas.Int.{ints}
use Rattle.std.proofs.lemmas.List.{length-map}
use Rattle.eos_batch.specs.declared.marker.Kind.TheVariants.{Commit, Abort}
use Rattle.eos_batch.specs.Attributes.{is_compressed}
use Rattle.eos_batch.specs.Marker.{has_right_control}
use Rattle.eos_batch.specs.Rules.{IsCounted, has_right_producer}
use Rattle.eos_batch.specs.Encoding.{tested}
use Rattle.eos_batch.proofs.EncodingTests.{passes_by}
use Rattle.eos_wire.specs.Numbers.{i16_text, i32_text, i16_at, i32_at}
use Rattle.eos_machine.specs.declared.config.Config.{Config}
use Rattle.eos_machine.specs.declared.item.Item.{Item}
use Rattle.eos_machine.specs.declared.item.Item.TheVariants.{Fed, State, Output, Offset, Marker}
use Rattle.eos_machine.specs.LogIndexes.{IsConfig}
use Rattle.eos_machine.specs.Rest.{producer_id}
use Rattle.eos_machine.specs.Batches.{event_of, record_after, batch_of}
use Rattle.eos_machine.specs.steps.Joined.{AreJoined}
use Rattle.eos_machine.specs.Fitting.{IsFit}
use Rattle.eos_machine.proofs.BatchSizes.{batch_short}

plain : (c : Config) (o : ℕ) (x : Item) (ys : List Item) → is_compressed (batch_of c o x ys).attributes ≡ false
plain c o (Fed n) ys = refl
plain c o (State a x n) ys = refl
plain c o (Output a e s x v n) ys = refl
plain c o (Offset a e q v n) ys = refl
plain c o (Marker a e k n) ys = refl

is_counted : (c : Config) (o : ℕ) (x : Item) (ys : List Item) → o + length ys < 2 ^ 63 → length ys < 2 ^ 30 → IsCounted (batch_of c o x ys)
is_counted c o x ys l m =
    let e = length-map ys (record_after c (event_of x)) in
    record {
      some = omega arith;
      fits = omega (arith, e, m);
      first = from_zero o;
      last = below o (length (map (record_after c (event_of x)) ys)) (omega (arith, e, l));
    }
  where
    from_zero : (o : ℕ) → pos 0 ≤ℤ pos o
    from_zero o = grind (arith, ints)

    below : (o n : ℕ) → o + n < 2 ^ 63 → (pos o +ℤ pos (suc n)) ≤ℤ pos (2 ^ 63)
    below o n l = grind (arith, ints, l)

right_control : (c : Config) (o : ℕ) (x : Item) (ys : List Item) → AreJoined x ys → has_right_control (batch_of c o x ys) ≡ true
unfolding i16_text i32_text i16_at i32_at
right_control c o (Fed n) ys j = refl
right_control c o (State a x n) ys j = refl
right_control c o (Output a e s x v n) ys j = refl
right_control c o (Offset a e q v n) ys j = refl
right_control c o (Marker a e Commit n) [] j = refl
right_control c o (Marker a e Abort n) [] j = refl
right_control c o (Marker a e k n) (y ∷ ys) j = absurd (let f = j.0 in cc)

no_plain : (a : ℕ) → int_lt (producer_id a) (pos 0) ≡ false
no_plain a = grind (arith, ints)

some_epoch : (e : ℕ) → int_le (pos 0) (pos e) ≡ true
some_epoch e = grind (arith, ints)

chosen : (b t n : Bool) → b ≡ false → t ≡ true → (if b then n else t) ≡ true
chosen b t n e f = rw e f

right_producer : (c : Config) (o : ℕ) (x : Item) (ys : List Item) → has_right_producer (batch_of c o x ys) ≡ true
right_producer c o (Fed n) ys = refl
right_producer c o (State a x n) ys = refl
right_producer c o (Output a e s x v n) ys = chosen _ _ _ (no_plain a) (some_epoch e)
right_producer c o (Offset a e q v n) ys = chosen _ _ _ (no_plain a) (some_epoch e)
right_producer c o (Marker a e k n) ys = chosen _ _ _ (no_plain a) (some_epoch e)

pub batch_tested : (c : Config) (o : ℕ) (x : Item) (ys : List Item) → IsConfig c → o + length ys < 2 ^ 63 → length ys < 1000 → AreJoined x ys → All (IsFit c) (x ∷ ys) → tested (batch_of c o x ys) ≡ Ok tt
batch_tested c o x ys i l m j h =
    let s = batch_short c o x ys i h in
    passes_by (batch_of c o x ys) (plain c o x ys) (is_counted c o x ys l (omega (arith, m))) (right_control c o x ys j) (right_producer c o x ys) (omega (arith, s, m))
