use Rattle.std.proofs.lemmas.Result.{err_from_is_err_and}
use Rattle.eos_segment.proofs.Listings.{IsBytes, listed_from, front_of, no_front, finished, finished_in_part}
use Rattle.eos_segment.proofs.dump.dump.Goals as goal

pub returns-in_err-status-clause-front : goal.returns-in_err-status-clause-front
returns-in_err-status-clause-front g c =
    let p = err_from_is_err_and c.from_residual-in_err-status.result c.from_residual-in_err-status.ensures.1 in
    let fits : IsBytes c.args.bytes.now = rw c.as_slice.ensures at c.are_bytes.ensures in
    rw p.1 (front_of _ _ _ _ _ _ _ c.in_ok-byte.ensures.listed (listed_from _ _ _ fits) (no_front _ _))

pub returns-in_err-finish-clause-front : goal.returns-in_err-finish-clause-front
returns-in_err-finish-clause-front g c =
    let p = err_from_is_err_and c.from_residual-in_err-finish.result c.from_residual-in_err-finish.ensures.1 in
    let written = rw c.as_bytes.ensures.value at c.in_err-finish.ensures.front in
    rw p.1 (finished_in_part _ _ _ _ _ _ _ _ c.in_ok-byte.stop c.in_ok-byte.ensures.listed c.in_ok-byte.ensures.stops c.in_ok-status.ensures.line written)

pub returns-clause-ok : goal.returns-clause-ok
returns-clause-ok g c =
    let written = rw c.as_bytes.ensures.value at c.in_ok-finish.ensures.ok in
    let f = finished _ _ _ _ _ _ _ _ c.in_ok-byte.stop c.in_ok-byte.ensures.listed c.in_ok-byte.ensures.stops c.in_ok-status.ensures.line written in
    rw c.in_ok-status.ensures.status f
