-- Reading at a place of some bytes: the byte that stands there, or none behind the end.
use mathlib.Core.Path.{◌≡◌}
use mathlib.Core.List.{List}
use Prim.Native.Nat.{ℕ, ◌+◌, ◌≤◌, ◌<◌}
use native.Mathlib.Numerals.{add-one}
use lib.ListN.{length, get_or, drop_of_length-le}
use lib.Seq.{drop-cons}
use Rattle.model.specs.Limits.{table_stops}
use Rattle.model.specs.Reading.{input_at, parsed, refused, byte_of, byte}

pub byte_there : (bs : List ℕ) (at k : ℕ) → at < length bs → byte (input_at bs at k) ≡ parsed (get_or bs at 0) (input_at bs (at + 1) k)
unfolding byte_of
byte_there bs at k h = rw (drop-cons bs at 0 h, add-one)

pub byte_past : (bs : List ℕ) (at k : ℕ) → length bs ≤ at → byte (input_at bs at k) ≡ refused table_stops
unfolding byte_of
byte_past bs at k h = rw (drop_of_length-le bs h)
