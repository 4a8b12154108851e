-- The wires that get a bar: none is left, or the next one and those behind it.
use Rattle.std.proofs.Common.{◌≡◌, ℕ, suc, ◌+◌, ◌-◌, ◌≤◌, ◌<◌, [], ◌∷◌, arith, add-one}
use Rattle.model.specs.Lists.{range}

pub range_none : (low high : ℕ) → high ≤ low → range (high - low) low ≡ []
unfolding range
range_none low high h = let z : high - low ≡ 0 = omega arith in rw z

pub range_more : (low high : ℕ) → low < high → range (high - low) low ≡ low ∷ range (high - (low + 1)) (low + 1)
unfolding range
range_more low high h = let z : high - low ≡ suc (high - (low + 1)) = omega arith in rw (z, add-one)
