-- What a walk promises: its events are scanned, and the slots below the next wire stay as they are.
use Rattle.std.specs.Prelude.{ℕ, ◌≤◌, ◌<◌, ◌≡◌, List, length}
use Rattle.limits.specs.Sizes.{wire_count}
use Rattle.model.specs.Gates.{Controls}
use Rattle.model.specs.Emission.{Event, Invocation, invoked, invokes}
use Rattle.lookup.specs.Plans.{Within}
use Rattle.events.specs.declared.Slot.{Slot}
use Rattle.events.specs.Scan.{Emit, progress, scan, slot_in, Tallied, held_in}

-- the events are scanned; the slots below the first next wire are as they were
pub record Follows (es : List Event) (st : Emit) (room : List ℕ) (slots : List Slot) (r : Emit) (room₁ : List ℕ) (slots₁ : List Slot) : Type 0 where
  pub scanned : progress r room₁ ≡ scan es (progress st room)
  pub long : length slots₁ ≡ length slots
  pub rises : st.next ≤ r.next
  pub low : st.next ≤ wire_count → r.next ≤ wire_count
  pub kept : (a : ℕ) → a < st.next → slot_in slots₁ a ≡ slot_in slots a
  pub tallied : Tallied st.qubits slots → Tallied st.qubits slots₁

-- the same, and the slots from the first next wire on hold the new invocations
pub record Opens (es : List Event) (news : List Invocation) (st : Emit) (room : List ℕ) (slots : List Slot) (r : Emit) (room₁ : List ℕ) (slots₁ : List Slot) : Type 0 where
  pub follows : Follows es st room slots r room₁ slots₁
  pub held : r.status ≡ 0 → held_in slots₁ st.next (length news) ≡ news

-- a call that names a pair, with a list of the emission's qubits
pub data Invokes (f : ℕ) (l : List ℕ) (cs : Controls) (st : Emit) (room : List ℕ) (slots : List Slot) (r : Emit) (room₁ : List ℕ) (slots₁ : List Slot) : Type 0 where
  fills_slot : (wire_count ≤ length slots → Within st.qubits l → Opens (invokes l cs st.next) (invoked f l st.next) st room slots r room₁ slots₁) →
      Invokes f l cs st room slots r room₁ slots₁
