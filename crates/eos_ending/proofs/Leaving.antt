-- What stands at a path after the file that was begun for it was ended or dropped.
use Rattle.std.proofs.Common.{◌≡◌, ◌≢◌, ℕ, List, ◌++◌, ◌+◌, codes, ap, length, length-append, arith}
use Rattle.eos_disk.specs.Entries.{Entry}
use Rattle.eos_disk.specs.Putting.{ChangesOnly, IsTaken, IsLeft, beside}
use Rattle.eos_ending.specs.Leaving.{Stays}

other : (path : List ℕ) → path ≢ beside path
other path e =
    let same : length path ≡ length (path ++ codes ".new") = ap length e in
    let more : length (path ++ codes ".new") ≡ length path + 4 = length-append path (codes ".new") in
    omega (arith, same, more)

stays : (old new : List ℕ → Entry) (path : List ℕ) → ChangesOnly (beside path) old new → Stays old path new
stays old new path only = record { at = only.others path (other path); others = only }

pub taken : (old new : List ℕ → Entry) (path : List ℕ) → IsTaken old path new → Stays old path new
taken old new path h = stays old new path h.0

pub left : (old new : List ℕ → Entry) (path bytes : List ℕ) → IsLeft old path bytes new → Stays old path new
left old new path bytes h = stays old new path h.0
