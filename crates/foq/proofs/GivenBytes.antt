-- What is given stands in front of the room afterwards.
use mathlib.Core.Path.{◌≡◌}
use mathlib.Core.List.{List}
use Prim.Native.Nat.{ℕ}
use lib.ListN.{length, take, drop}
use lib.Seq.{take-append_seam}
use Rattle.model.specs.Answers.{gives, room_after}

pub given_bytes : (bytes room : List ℕ) → take (length bytes) (room_after (gives bytes) room) ≡ bytes
unfolding room_after
given_bytes bytes room = take-append_seam bytes (drop (length bytes) room)
