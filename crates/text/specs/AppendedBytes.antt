-- Bytes put into a text one behind the other. Where the text has ended nothing is written, but they are counted on: the place behind the last of them says
-- how long a text takes them all.
use Rattle.std.specs.Prelude.{ℕ, ◌+◌, ◌-◌, ◌/◌, ◌%◌, ◌^◌, min, List, [], ◌∷◌, set}
use Rattle.std.specs.Borrow.{MutBor}
use Rattle.model.specs.Listing.{digit_zero}
use Rattle.text.specs.declared.Writer.{Writer}

-- a place has 64 bits: the last number stands for every place from there on, which no text reaches
abbrev pub last_place : ℕ
last_place = 2 ^ 64 - 1

abbrev pub place_after : ℕ → ℕ → ℕ
place_after at count = min (at + count) last_place

abbrev pub next_place : ℕ → ℕ
next_place at = place_after at 1

-- a writer that has put nothing yet
abbrev pub nothing_put : MutBor (List ℕ) → Writer
nothing_put text = record { text = text; at = 0 }

-- a writer that puts its next byte at this place
abbrev pub put_up_to : ℕ → MutBor (List ℕ) → Writer
put_up_to at text = record { text = text; at = at }

-- one byte more
abbrev pub put_one : ℕ → Writer → Writer
put_one b w = record { text = record w.text { now = set w.text.now w.at b }; at = next_place w.at }

-- these bytes, one behind the other
unfoldable pub puts : List ℕ → Writer → Writer
puts [] w = w
puts (b ∷ bytes) w = puts bytes (put_one b w)

-- the last two digits of a number, the higher first
abbrev pub last_two : ℕ → List ℕ
last_two k = (digit_zero + k / 10 % 10) ∷ (digit_zero + k % 10) ∷ []
