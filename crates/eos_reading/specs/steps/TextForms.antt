-- The forms in which what is kept of the records of Kafka's own logs lies in memory.
use Rattle.std.specs.Prelude.{true, false}
use Rattle.std.specs.Vec.{vec_capacity}
use Rattle.eos_reading.specs.Texts.{TextsView}
use Rattle.eos_reading.specs.declared.kept_texts.Form.{Form}
use Rattle.eos_reading.specs.declared.kept_texts.Form.TheVariants as forms

abbrev pub texts_in : Form → TextsView
texts_in (forms.Packed p) = record { list = p.list; is_loose = false; size = p.size; room = p.room; bytes_room = p.bytes_room }
texts_in (forms.Loose v) = record { list = v.items; is_loose = true; size = 0; room = vec_capacity v; bytes_room = 0 }
