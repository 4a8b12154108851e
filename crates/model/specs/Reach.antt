-- "Meaning", on calls: reach, recursive calls, width; refusals 10 and 11.
use Rattle.std.specs.Prelude.{ℕ, zero, suc, ◌+◌, max, ◌≡◌, Bool, true, false, ◌&&◌, ◌||◌, List, [], ◌∷◌, eqb, ltb}
use Rattle.model.specs.Syntax.{Number, Statement, skip, NOT, sequence, if, qcase, call, Program, count, body}

-- does a statement hold a call of g?
unfoldable pub calls : Statement → ℕ → Bool
calls skip g = false
calls (NOT rs a) g = false
calls (sequence s t) g = calls s g || calls t g
calls (if c s t) g = calls s g || calls t g
calls (qcase rs a s t) g = calls s g || calls t g
calls (call rs f) g = eqb f g

-- "Procedure f reaches g by one or more calls."
pub data Reaches (P : Program) : ℕ → ℕ → Type 0 where
  direct : {f g : ℕ} → calls (body P f) g ≡ true → Reaches P f g
  onward : {f h g : ℕ} → calls (body P f) h ≡ true → Reaches P h g → Reaches P f g

-- computed: by calls that pass only through procedures below v, one more at a time
unfoldable pub reaches_below : Program → ℕ → ℕ → ℕ → Bool
reaches_below P zero f g = calls (body P f) g
reaches_below P (suc v) f g = reaches_below P v f g || (reaches_below P v f v && reaches_below P v v g)

abbrev pub reaches : Program → ℕ → ℕ → Bool
reaches P f g = reaches_below P (suc (count P)) f g

-- "A call from f to g is recursive if g also reaches f"
abbrev pub recursive : Program → ℕ → ℕ → Bool
recursive P f g = reaches P g f

unfoldable pub is_empty : List Number → Bool
is_empty [] = true
is_empty (a ∷ rs) = false

-- a recursive call "must carry a removal": does one of a statement's calls lack it? `r g` says that a call to g is recursive
unfoldable pub lacks_removal : (ℕ → Bool) → Statement → Bool
lacks_removal r skip = false
lacks_removal r (NOT rs a) = false
lacks_removal r (sequence s t) = lacks_removal r s || lacks_removal r t
lacks_removal r (if c s t) = lacks_removal r s || lacks_removal r t
lacks_removal r (qcase rs a s t) = lacks_removal r s || lacks_removal r t
lacks_removal r (call rs f) = r f && is_empty rs

-- "Width: skip and NOT 0, sequence the sum, if and qcase the larger, recursive call 1, other call 0."
unfoldable pub width : (ℕ → Bool) → Statement → ℕ
width r skip = 0
width r (NOT rs a) = 0
width r (sequence s t) = width r s + width r t
width r (if c s t) = max (width r s) (width r t)
width r (qcase rs a s t) = max (width r s) (width r t)
width r (call rs f) = elim (r f) [ true ↦ 1 | false ↦ 0 ]

-- does a number below k pass the test?
unfoldable pub any_below : ℕ → (ℕ → Bool) → Bool
any_below zero test = false
any_below (suc k) test = any_below k test || test k

-- refusal 10 "over the whole table, then 11": in one of the bodies, main at 0 among them
unfoldable pub any_lacks_removal : Program → Bool
any_lacks_removal P = any_below (suc (count P)) (λ f. lacks_removal (recursive P f) (body P f))

unfoldable pub any_too_wide : Program → Bool
any_too_wide P = any_below (suc (count P)) (λ f. ltb 1 (width (recursive P f) (body P f)))
