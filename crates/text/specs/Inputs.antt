-- What a program has read of its input.
use Rattle.std.specs.Prelude.{ℕ, ◌≡◌, List, length, take}

-- the first `count` bytes of a buffer are what the whole input begins with, as far as the buffer reaches: it is full, or the input ended there
abbrev pub BeginsWith : List ℕ → List ℕ → ℕ → Type 0
BeginsWith whole buffer count = take (length buffer) whole ≡ take count buffer
