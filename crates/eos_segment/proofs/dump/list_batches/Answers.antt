use Rattle.std.proofs.Common.{◌∙◌, arith, length-drop}
use Rattle.std.proofs.lemmas.Result.{err_from_is_err_and}
use Rattle.eos_segment.proofs.Listings.{sound, IsBytes, IsBytes-drop, listed_from, goes_on, passes_on, front_of, no_front}
use Rattle.eos_segment.proofs.dump.list_batches.Goals as goal

pub returns-in_err-push_batch-in-Ok-clause-front : goal.returns-in_err-push_batch-in-Ok-clause-front
returns-in_err-push_batch-in-Ok-clause-front g c =
    let p = err_from_is_err_and c.from_residual-in_err-push_batch-in-Ok.result c.from_residual-in_err-push_batch-in-Ok.ensures.1 in
    let fits : IsBytes c.args.bytes.now = rw c.as_slice.ensures at c.are_bytes.ensures in
    rw p.1 (front_of _ _ _ _ _ _ _ c.batches.invariant (listed_from _ _ _ fits) (no_front _ _))

pub returns-in_err-write_long-in-Ok-clause-front : goal.returns-in_err-write_long-in-Ok-clause-front
returns-in_err-write_long-in-Ok-clause-front g c =
    let p = err_from_is_err_and c.from_residual-in_err-write_long-in-Ok.result c.from_residual-in_err-write_long-in-Ok.ensures.1 in
    let fits : IsBytes c.args.bytes.now = rw c.as_slice.ensures at c.are_bytes.ensures in
    let f = sound _ (c.in-Ok.batch, c.in-Ok.size) (IsBytes-drop c.batches.byte _ fits) (c.in_ok-found.ensures.read ∙ c.in-Ok.is) in
    let now = goes_on _ _ _ _ _ _ c.batches.byte c.in-Ok.size c.in-Ok.batch c.batches.invariant f.text (omega (arith, f.within, length-drop c.batches.byte c.args.bytes.now)) c.in_ok-push_batch-in-Ok.ensures in
    rw p.1 (front_of _ _ _ _ _ _ _ now (listed_from _ _ _ fits) c.in_err-write_long-in-Ok.ensures.front)

pub batches-preserved : goal.batches-preserved
batches-preserved g c =
    let fits : IsBytes c.args.bytes.now = rw c.as_slice.ensures at c.are_bytes.ensures in
    let f = sound _ (c.in-Ok.batch, c.in-Ok.size) (IsBytes-drop c.batches.byte _ fits) (c.in_ok-found.ensures.read ∙ c.in-Ok.is) in
    let now = goes_on _ _ _ _ _ _ c.batches.byte c.in-Ok.size c.in-Ok.batch c.batches.invariant f.text (omega (arith, f.within, length-drop c.batches.byte c.args.bytes.now)) c.in_ok-push_batch-in-Ok.ensures in
    passes_on _ _ _ _ _ _ _ _ now c.in_ok-write_long-in-Ok.ensures.ok

pub returns-in_err-found-clause-front : goal.returns-in_err-found-clause-front
returns-in_err-found-clause-front g c =
    let p = err_from_is_err_and c.from_residual.result c.from_residual.ensures.1 in
    let fits : IsBytes c.args.bytes.now = rw c.as_slice.ensures at c.are_bytes.ensures in
    rw p.1 (front_of _ _ _ _ _ _ _ c.batches.invariant (listed_from _ _ _ fits) (no_front _ _))

pub push_batch-requires-clause-low : goal.push_batch-requires-clause-low
push_batch-requires-clause-low g c =
    let fits : IsBytes c.args.bytes.now = rw c.as_slice.ensures at c.are_bytes.ensures in
    let f = sound _ (c.in-Ok.batch, c.in-Ok.size) (IsBytes-drop c.batches.byte _ fits) (c.in_ok-found.ensures.read ∙ c.in-Ok.is) in
    f.text.counted.first

pub push_batch-requires-clause-high : goal.push_batch-requires-clause-high
push_batch-requires-clause-high g c =
    let fits : IsBytes c.args.bytes.now = rw c.as_slice.ensures at c.are_bytes.ensures in
    let f = sound _ (c.in-Ok.batch, c.in-Ok.size) (IsBytes-drop c.batches.byte _ fits) (c.in_ok-found.ensures.read ∙ c.in-Ok.is) in
    f.text.counted.last
