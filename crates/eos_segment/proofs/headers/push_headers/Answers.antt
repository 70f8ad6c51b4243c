use Rattle.std.proofs.Common.{◌≡◌, ◌∙◌, ℤ, subst, string_bytes, w64, to_z, of_z, to_z-of_z}
use Rattle.eos_text.specs.Adding.{Adds}
use Rattle.eos_text.proofs.Appended.{then}
use Rattle.eos_segment.specs.HeaderLines.{timestamp_of, timestamp_line}
use Rattle.eos_segment.proofs.headers.push_headers.Goals as goal

pub returns : goal.returns
returns c =
    let says = timestamp_of c.args.batch.now c.args.item.now in
    let same : to_z w64 (of_z w64 c.timestamp-time.result) ≡ says = to_z-of_z c.timestamp-time.ensures.fits ∙ c.timestamp-time.ensures.value in
    let time : Adds (string_bytes c.args.out.now) (string_bytes c.push_timestamp.new.out) (timestamp_line says) =
    subst (λ (t : ℤ). Adds (string_bytes c.args.out.now) (string_bytes c.push_timestamp.new.out) (timestamp_line t)) same c.in_ok-push_timestamp.ensures in
    let headers = rw c.as_slice.ensures at c.in_ok-push_all.ensures in
    then time headers
