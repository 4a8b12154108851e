-- "Bound on gates: s × (4 + 2n) × (1 + p × r × (c × n)^r)."
use Rattle.std.specs.Prelude.{ℕ, zero, suc, ◌+◌, ◌*◌, ◌^◌, max, Bool, true, false, not, ◌&&◌}
use Rattle.model.specs.Syntax.{Statement, skip, NOT, sequence, if, qcase, call, Program, count, body}
use Rattle.model.specs.Reach.{calls, reaches}

unfoldable pub not_records : Statement → ℕ
not_records skip = 0
not_records (NOT rs a) = 1
not_records (sequence s t) = not_records s + not_records t
not_records (if c s t) = not_records s + not_records t
not_records (qcase rs a s t) = not_records s + not_records t
not_records (call rs f) = 0

unfoldable pub call_records : Statement → ℕ
call_records skip = 0
call_records (NOT rs a) = 0
call_records (sequence s t) = call_records s + call_records t
call_records (if c s t) = call_records s + call_records t
call_records (qcase rs a s t) = call_records s + call_records t
call_records (call rs f) = 1

-- the sum over the bodies below k, main at 0 among them
unfoldable pub sum_bodies : (ℕ → ℕ) → ℕ → ℕ
sum_bodies v zero = 0
sum_bodies v (suc k) = sum_bodies v k + v k

-- "s counts NOT and call records, c call records"
unfoldable pub s_of : Program → ℕ
s_of P = sum_bodies (λ f. not_records (body P f) + call_records (body P f)) (suc (count P))

unfoldable pub c_of : Program → ℕ
c_of P = sum_bodies (λ f. call_records (body P f)) (suc (count P))

-- the largest v g of those g below k that pass a test
unfoldable pub largest : (ℕ → Bool) → (ℕ → ℕ) → ℕ → ℕ
largest test v zero = 0
largest test v (suc k) = elim (test k) [ true ↦ max (v k) (largest test v k) | false ↦ largest test v k ]

-- f reaches g and g does not reach f: g's class lies below f's
unfoldable pub falls_to : Program → ℕ → ℕ → Bool
falls_to P f g = reaches P f g && not (reaches P g f)

-- the most classes on one line of falling calls from f on, f's own counted, as far as `fuel` steps down a line. There are no more classes than procedures.
unfoldable pub classes_within : Program → ℕ → ℕ → ℕ
classes_within P zero f = 1
classes_within P (suc fuel) f = suc (largest (falls_to P f) (classes_within P fuel) (suc (count P)))

-- "r is the most classes of mutually reaching procedures on one line of falling calls from main"
unfoldable pub r_of : Program → ℕ
r_of P = largest (calls P.main) (classes_within P (suc (count P))) (suc (count P))

unfoldable pub gate_bound : Program → ℕ → ℕ
gate_bound P n = s_of P * (4 + 2 * n) * (1 + count P * r_of P * (c_of P * n) ^ r_of P)
