-- What the code does with the slots of ancillas: they are filled, compared, and sought for the next body.
use Rattle.std.specs.Prelude.{ℕ, zero, suc, ◌+◌, ◌-◌, ◌*◌, ◌≤◌, ◌<◌, ◌≡◌, Bool, true, false, cond, List, [], ◌++◌, reverse, length, set, eqb, ltb}
use Rattle.sets.specs.Sets.{members_of}
use Rattle.model.specs.Limits.{most_wires, many_wires}
use Rattle.model.specs.Emission.{Event, entry_gates}
use Rattle.lookup.specs.declared.plan.Plan.{Plan}
use Rattle.lookup.specs.Plans.{pairs_of, PlansSwaps, entries_touched}
use Rattle.events.specs.declared.Slot.{Slot}
use Rattle.events.specs.Scan.{Emit, Progress, emit_of, stopped, taken, freed, scan, slot_in, slot_of, Tallied}

-- an invocation put into the slot of its ancilla, its list as a set
abbrev pub called : ℕ → ℕ → Slot
called f list = record { precedence = 256 * length (members_of list) + (255 - f); list = list }

abbrev pub filled : List Slot → ℕ → ℕ → ℕ → List Slot
filled slots a f list = set slots a (called f list)

-- the next ancilla is taken, and its slot filled
unfoldable pub ancilla_taken : ℕ → ℕ → Emit → List Slot → Emit × List Slot
ancilla_taken f list st slots =
    cond (eqb st.status 0)
    (cond (ltb most_wires st.next) (stopped st many_wires, slots) (taken st st.next, filled slots st.next f list))
    (st, slots)

-- the ancillas from a on are given back
unfoldable pub returned : ℕ → Emit → Emit
returned a st = cond (eqb st.status 0) (freed st a) st

-- list length and procedure of a slot in one number: the longer list has the greater one, and of equal lengths the lower procedure
abbrev pub precedence_in : List Slot → ℕ → ℕ
precedence_in slots a = (slot_in slots a).precedence

-- a slot whose body is still to come, behind that of precedence `last`: its list is not empty
abbrev pub Waits : List Slot → ℕ → ℕ → Type 0
Waits slots last a = (256 ≤ precedence_in slots a) × (precedence_in slots a < last)

-- no slot from `base` on and before `upto` waits
abbrev pub NoneWaits : List Slot → ℕ → ℕ → ℕ → Type 0
NoneWaits slots base last upto = (a : ℕ) → base ≤ a → a < upto → Waits slots last a → ⊥

-- the slot that opens the next body: of those that wait, from `base` on and before `upto`, the first of the greatest precedence
pub record NextSlot (slots : List Slot) (base last upto d : ℕ) : Type 0 where
  pub from : base ≤ d
  pub below : d < upto
  pub waits : Waits slots last d
  pub greatest : (a : ℕ) → base ≤ a → a < upto → Waits slots last a → precedence_in slots a ≤ precedence_in slots d
  pub first : (a : ℕ) → base ≤ a → a < d → Waits slots last a → precedence_in slots a < precedence_in slots d

-- in order, or reversed
abbrev pub turned : Bool → List Event → List Event
turned true es = reverse es
turned false es = es

-- gates of entries are scanned, where the slots' lists are of the emission's qubits
pub data Enters (slots : List Slot) (es : List Event) (x y : Progress) : Type 0 where
  scans_entries : (Tallied (emit_of x).qubits slots → y ≡ scan es x) → Enters slots es x y

-- how many entries of the lookup are read and written for an entry from a later list: none where that is the first one, or as many as its plan has
pub data EntryTouched (n : ℕ) (first later : List ℕ) (touched : ℕ) : Type 0 where
  no_plan : first ≡ later → touched ≡ 0 → EntryTouched n first later touched
  by_plan : (r : Plan) → PlansSwaps n first later r → touched ≡ entries_touched n first later (length (pairs_of r)) → EntryTouched n first later touched

-- the entry gates from slot e to the body of slot d, if they are of one pair
unfoldable pub entry_at : List Slot → ℕ → ℕ → List Event
entry_at slots d e = cond (eqb (precedence_in slots e) (precedence_in slots d)) (entry_gates (slot_of slots d) (slot_of slots e)) []

-- those from n slots, from e on
unfoldable pub entries_to : List Slot → ℕ → ℕ → ℕ → List Event
entries_to slots d e zero = []
entries_to slots d e (suc n) = entry_at slots d e ++ entries_to slots d (e + 1) n
