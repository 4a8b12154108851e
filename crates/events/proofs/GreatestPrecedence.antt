-- The ways out of `seek`: of the slots that wait, the first of the greatest precedence.
use mathlib.Core.Path.{◌≡◌, refl}
use mathlib.Core.List.{List}
use Prim.Native.Nat.{ℕ, ◌+◌, ◌≤◌, ◌<◌}
use native.Mathlib.Omega.{arith}
use borrow.Author.Rules.{rules}
use borrow.Author.Tests.{lt-ltb, le-ltb}
use Rattle.std.specs.Prelude.{Option, MatchOption, ltb}
use Rattle.std.specs.Bool.{then_some}
use Rattle.model.proofs.BooleanLaws.{by_lt}
use Rattle.events.specs.declared.Slot.{Slot}
use Rattle.events.specs.Scan.{slot_in}
use Rattle.events.specs.Slots.{precedence_in, NoneWaits, NextSlot}

-- a test that is stricter than a law asks is taken: what it passes over is then asked for
pub less_is_most : (m n : ℕ) → m < n → m ≤ n
less_is_most m n h = omega arith

-- `seek` so far: of the slots before a, `best` is the first of the greatest that waits, whose precedence is `greatest`; where none waits, it is `upto`
pub data Seeking (slots : List Slot) (base last upto greatest best a : ℕ) : Type 0 where
  sought : base ≤ a → 255 ≤ greatest → (upto ≤ best → greatest ≡ 255) →
      (best < upto → (base ≤ best) × (precedence_in slots best < last) × (greatest ≡ precedence_in slots best) × (255 < greatest)) →
      ((x : ℕ) → base ≤ x → x < a → precedence_in slots x < last → precedence_in slots x ≤ greatest) →
      ((x : ℕ) → base ≤ x → x < best → best < upto → precedence_in slots x < last → precedence_in slots x < greatest) →
      Seeking slots base last upto greatest best a

pub seeking_starts : (slots : List Slot) (base last upto : ℕ) → Seeking slots base last upto 255 upto base
seeking_starts slots base last upto = sought (omega arith) (omega arith) (λ h. refl) (λ h. omega arith) (λ x h k. omega arith) (λ x h k l. omega arith)

-- one slot more: what is kept behind it is `greatest₁` and `best₁`
module _ (slots : List Slot) (base last upto greatest best a : ℕ) (so : Seeking slots base last upto greatest best a)
    (s : Slot) (is : s ≡ slot_in slots a) (greatest₁ best₁ : ℕ) where
  passed : (precedence_in slots a < last → precedence_in slots a ≤ greatest) → Seeking slots base last upto greatest best a →
      Seeking slots base last upto greatest best (a + 1)
  passed f (sought begun least none some all first) = sought (omega arith) least none some
      (λ x h k w. by_lt x a (λ lt. all x h lt w) (λ ge. let e : x ≡ a = omega arith in rw e (f (rw e at w))))
      first

  found : a < upto → precedence_in slots a < last → greatest < precedence_in slots a → Seeking slots base last upto greatest best a →
      Seeking slots base last upto (precedence_in slots a) a (a + 1)
  found h w more (sought begun least none some all first) = sought (omega arith) (omega arith) (λ k. omega arith)
      (λ k. (begun, w, refl, omega arith))
      (λ x b k v. by_lt x a (λ lt. let z = all x b lt v in omega arith) (λ ge. let e : x ≡ a = omega arith in rw e (omega arith)))
      (λ x b k l v. let z = all x b k v in omega arith)

  -- a body that has come, or comes with those that have
  pub seeking_before : last ≤ s.precedence → greatest₁ ≡ greatest → best₁ ≡ best → Seeking slots base last upto greatest₁ best₁ (a + 1)
  seeking_before h p q = let l = rw is at h in rw (p, q) (passed (λ k. omega arith) so)

  -- not greater than what was found
  pub seeking_past : s.precedence ≤ greatest → greatest₁ ≡ greatest → best₁ ≡ best → Seeking slots base last upto greatest₁ best₁ (a + 1)
  seeking_past h p q = let l = rw is at h in rw (p, q) (passed (λ k. l) so)

  -- greater than all that was found
  pub seeking_here : a < upto → s.precedence < last → greatest < s.precedence → greatest₁ ≡ s.precedence → best₁ ≡ a → Seeking slots base last upto greatest₁ best₁ (a + 1)
  seeking_here h w more p q = rw (p, is, q) (found h (rw is at w) (rw is at more) so)

-- the slot that was found is the next one
next_found : (slots : List Slot) (base last upto greatest best a : ℕ) → Seeking slots base last upto greatest best a → upto ≤ a → best < upto →
    NextSlot slots base last upto best
next_found slots base last upto greatest best a (sought begun least none some all first) end up = let s = some up in record {
  from = s.0;
  below = up;
  waits = (omega (arith, s), s.1);
  greatest = λ x b h w. let l : precedence_in slots x ≤ greatest = all x b (omega arith) w.1 in omega (arith, s);
  first = λ x b h w. let l : precedence_in slots x < greatest = first x b h up w.1 in omega (arith, s);
}

none_found : (slots : List Slot) (base last upto greatest best a : ℕ) → Seeking slots base last upto greatest best a → upto ≤ a → upto ≤ best →
    NoneWaits slots base last upto
none_found slots base last upto greatest best a (sought begun least none some all first) end ge =
    λ x b h w. let l : precedence_in slots x ≤ greatest = all x b (omega arith) w.1 in omega (arith, none ge, w)

pub seek_ends : (slots : List Slot) (base last upto greatest best a : ℕ) (r : Option ℕ) → Seeking slots base last upto greatest best a → upto ≤ a →
    r ≡ then_some (ltb best upto) best → MatchOption r (NoneWaits slots base last upto) (λ d. NextSlot slots base last upto d)
seek_ends slots base last upto greatest best a r so end e = by_lt best upto
    (λ lt. rw (e, lt-ltb best upto lt) (next_found slots base last upto greatest best a so end lt))
    (λ ge. rw (e, le-ltb best upto ge) (none_found slots base last upto greatest best a so end ge))

pub ruleset seeking = (rules, less_is_most, seeking_starts, seeking_before, seeking_past, seeking_here, seek_ends)
