-- The ways out of the functions that read and write entries: what the lookup is afterwards, and how many entries were read and written.
use mathlib.Core.Path.{◌≡◌, refl, sym, ap, ◌∙◌}
use mathlib.Core.Logic.{◌≢◌}
use Prim.Native.Nat.{ℕ, zero, suc, ◌+◌, ◌≤◌, min}
use native.Mathlib.Numerals.{add-one}
use native.Mathlib.Omega.{arith}
use borrow.Author.Rules.{rules}
use borrow.Author.Tests.{eq-eqb, ne_eqb}
use lib.ListN.{set, replicate}
use Rattle.std.specs.Prelude.{Some, None}
use Rattle.std.proofs.lemmas.Option.{none-some, same_Some}
use Rattle.model.proofs.BooleanLaws.{by_eq}
use Rattle.limits.specs.Sizes.{wire_count, most_count}
use Rattle.lookup.specs.declared.Lookup.{Lookup}
use Rattle.lookup.specs.Entries.{raised, counted, wire_at, qubit_at, touched, kept, empty, built, pushed, tracked, moved, accesses}

-- counts add up
counted_twice : (c a b : ℕ) → counted (counted c a) b ≡ counted c (a + b)
unfolding counted
counted_twice c a zero = let e : a + 0 ≡ a = omega arith in rw e
counted_twice c a (suc b) = let e : a + suc b ≡ suc (a + b) = omega arith in rw e (ap raised (counted_twice c a b))

-- as long as they fit they are sums
pub counted_sum : (c k : ℕ) → c + k ≤ most_count → counted c k ≡ c + k
unfolding counted
counted_sum c zero h = omega arith
counted_sum c (suc k) h = let e = counted_sum c k (omega arith) in omega arith

-- the ways out of `wire_of` and `qubit_on`, which count one entry, and of `keep`, which counts two
module _ (l : Lookup) (d : ℕ) where
  pub counts_one : d ≡ min (l.count + 1) most_count → record { wires = l.wires; qubits = l.qubits; count = d } ≡ touched l 1
  unfolding counted
  counts_one e = rw e

  pub keeps_both : (q w : ℕ) → d ≡ min (l.count + 2) most_count → record { wires = set l.wires q w; qubits = set l.qubits w q; count = d } ≡ kept l q w
  unfolding kept counted
  keeps_both q w e = let two : d ≡ raised (raised l.count) = omega (arith, e) in rw two

pub ruleset touching = (rules, counts_one, keeps_both)

-- `build`: so far the qubits up to q are on their own wires
pub built_none : record { wires = replicate wire_count 0; qubits = replicate wire_count 0; count = 0 } ≡ built empty 0
unfolding built empty
built_none = refl

pub built_next : (l m r : Lookup) (q : ℕ) → m ≡ built l q → r ≡ kept m (q + 1) (q + 1) → r ≡ built l (q + 1)
unfolding built
built_next l m r q e f = rw (f, e, add-one q)

pub ruleset building = (rules, built_none, built_next)

-- `track`: the qubit goes to the wire, or is there already
module _ (l : Lookup) (q to from : ℕ) (is : from ≡ wire_at l q) where
  pub stays : from ≡ to → None ≡ moved l q to
  unfolding moved
  stays h = rw (eq-eqb (wire_at l q) to (sym is ∙ h))

  pub track_stays : (d : Lookup) → from ≡ to → d ≡ touched l 1 → d ≡ tracked l q to
  unfolding tracked
  track_stays d h e = rw (eq-eqb (wire_at l q) to (sym is ∙ h)) e

  module _ (apart : from ≡ to → ⊥) where
    pub goes : Some from ≡ moved l q to
    unfolding moved
    goes = rw (ne_eqb (wire_at l q) to (λ h. apart (is ∙ h)), is)

    pub track_goes : (d e f g : Lookup) (other : ℕ) → d ≡ touched l 1 → other ≡ qubit_at d to → e ≡ touched d 1 → f ≡ kept e q to → g ≡ kept f other from → g ≡ tracked l q to
    unfolding tracked pushed
    track_goes d e f g other a b c h i = rw (ne_eqb (wire_at l q) to (λ h. apart (is ∙ h)), i, h, c, b, a, is)

pub ruleset tracking = (rules, stays, track_stays, goes, track_goes)

-- whether the qubit goes, and how many entries that takes
pub goes_from : (l : Lookup) (q to from : ℕ) → moved l q to ≡ Some from → (wire_at l q ≢ to) × (from ≡ wire_at l q)
unfolding moved
goes_from l q to from e = by_eq (wire_at l q) to
    (λ same. absurd (none-some from (rw (eq-eqb (wire_at l q) to same) at e)))
    (λ apart. (apart, same_Some from (wire_at l q) (sym (rw (ne_eqb (wire_at l q) to apart) at e))))

pub stays_there : (l : Lookup) (q to : ℕ) → moved l q to ≡ None → wire_at l q ≡ to
unfolding moved
stays_there l q to e = by_eq (wire_at l q) to
    (λ same. same)
    (λ apart. absurd (none-some (wire_at l q) (sym (rw (ne_eqb (wire_at l q) to apart) at e))))

pub tracked_count : (l : Lookup) (q to : ℕ) → (tracked l q to).count ≡ counted l.count (accesses l q to)
unfolding tracked pushed kept counted accesses
tracked_count l q to = by_eq (wire_at l q) to
    (λ same. rw (eq-eqb (wire_at l q) to same))
    (λ apart. rw (ne_eqb (wire_at l q) to apart))
