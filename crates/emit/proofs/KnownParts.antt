-- What is known of the widths of a statement is known of its parts, and tells whether a part is wide and a call recursive.
use mathlib.Core.Path.{◌≡◌, refl}
use mathlib.Core.Bool.{Bool, true, false, cond}
use mathlib.Core.List.{List}
use Prim.Native.Nat.{ℕ, zero, suc, ◌-◌, ◌≤◌, ◌<◌, min}
use native.Mathlib.Numerals.{sub-one}
use native.Mathlib.Omega.{arith}
use borrow.Author.Tests.{lt-ltb, le-ltb}
use lib.Dec.{ltb}
use Rattle.model.specs.Meaning.{digit}
use Rattle.model.specs.Syntax.{call}
use Rattle.model.specs.Lists.{holds}
use Rattle.model.specs.Reach.{recursive, width}
use Rattle.model.specs.Emission.{is_wide}
use Rattle.model.proofs.BooleanLaws.{by_lt, by_bool}
use Rattle.decoded.specs.declared.Program as decoded
use Rattle.decoded.specs.DecodedTable.{width_in, removals_in, test_at, statement_at, program_at}
use Rattle.decoded.specs.declared.Step.{Step}
use Rattle.decoded.specs.declared.Step.TheVariants as step
use Rattle.decoded.specs.Steps.{step_at}
use Rattle.decoded.proofs.StatementAtARecord.{at_step}
use Rattle.decoded.specs.Steps.{parts_of, parts_at}
use Rattle.widths.specs.KeptWidths.{OfParts, Known}
use Rattle.emit.specs.WalkPromises.{KnownIn}

-- a width that is known
known_width : (r : ℕ → Bool) (prog : decoded.Program) (d i : ℕ) → Known r prog d i → width_in prog i ≡ min 2 (width r (statement_at prog d i))
unfolding Known statement_at width
known_width r prog zero i K = K
known_width r prog (suc d) i K = K.0

-- tells whether the statement is wide
pub width_told : (r : ℕ → Bool) (prog : decoded.Program) (d i : ℕ) {w : Bool} → Known r prog d i → w ≡ ltb 0 (width_in prog i) → is_wide r (statement_at prog d i) ≡ w
width_told r prog d i K e = rw (e, known_width r prog d i K) (capped (width r (statement_at prog d i)))
  where
    capped : (n : ℕ) → ltb 0 n ≡ ltb 0 (min 2 n)
    capped n = by_lt 0 n
        (λ l. let c : 0 < min 2 n = omega arith in rw (lt-ltb 0 n l, lt-ltb 0 (min 2 n) c))
        (λ l. let c : min 2 n ≤ 0 = omega arith in rw (le-ltb 0 n l, le-ltb 0 (min 2 n) c))

module _ (prog : decoded.Program) (l : List ℕ) (depth i f : ℕ) {found : Step} (nz : depth ≡ 0 → ⊥) (is : found ≡ step_at prog i) where
  abbrev rec : ℕ → Bool
  rec = recursive (program_at prog) f

  -- what is known of the parts
  parts_known : (x : Step) → found ≡ x → KnownIn prog f depth i → OfParts (Known rec prog (depth - 1)) (parts_of x)
  unfolding Known
  parts_known x e K = rw (← e, is) (by depth nz (K nz))
    where
      by : (depth : ℕ) → (depth ≡ 0 → ⊥) → Known rec prog depth i → OfParts (Known rec prog (depth - 1)) (parts_at prog i)
      by zero f K = absurd (f refl)
      by (suc d) f K = rw sub-one K.1

  pub known_sequence : {a b : ℕ} → found ≡ step.Sequence a b → KnownIn prog f depth i → Known rec prog (depth - 1) a × Known rec prog (depth - 1) b
  unfolding parts_of
  known_sequence {a = a} {b = b} e K = parts_known (step.Sequence a b) e K

  pub known_branches : {at a b : ℕ} → found ≡ step.Branches at a b → KnownIn prog f depth i → Known rec prog (depth - 1) a × Known rec prog (depth - 1) b
  unfolding parts_of
  known_branches {at = at} {a = a} {b = b} e K = parts_known (step.Branches at a b) e K

  pub known_chosen : {c a b x : ℕ} → found ≡ step.Chooses c a b → x ≡ cond (holds (test_at prog (depth - 1) c) l) a b → KnownIn prog f depth i →
      KnownIn prog f (depth - 1) x
  unfolding parts_of
  known_chosen {c = c} {a = a} {b = b} e h K d =
      let both : Known rec prog (depth - 1) a × Known rec prog (depth - 1) b = parts_known (step.Chooses c a b) e K in
      rw h (by_bool (holds (test_at prog (depth - 1) c) l) (λ t. rw t both.0) (λ t. rw t both.1))

  -- and of a call
  pub call_told : {q at : ℕ} {b : Bool} → found ≡ step.Calls q at → KnownIn prog f depth i → b ≡ ltb 0 (width_in prog i) → rec q ≡ b
  unfolding width digit
  call_told {q = q} {at = at} e K h =
      let w : width_in prog i ≡ min 2 (width rec (statement_at prog depth i)) = known_width rec prog depth i (K nz) in
      let s : statement_at prog depth i ≡ call (removals_in prog at) q = at_step prog depth i nz is e in
      let v : width_in prog i ≡ min 2 (width rec (call (removals_in prog at) q)) = rw s at w in
      rw (h, v) (told (rec q))
    where
      told : (b : Bool) → b ≡ ltb 0 (min 2 (digit b))
      told true = refl
      told false = refl
