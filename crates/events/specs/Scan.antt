-- An emission as the code keeps it: what each event does to the state of the walk and to the room, and the slots of the ancillas.
use Rattle.std.specs.Prelude.{ℕ, zero, suc, ◌+◌, ◌-◌, ◌/◌, ◌%◌, max, ◌≡◌, cond, List, [], ◌∷◌, length, get_or, eqb, ltb, leb, Option, Some, None}
use Rattle.std.proofs.lemmas.List.Edits.{sets}
use Rattle.limits.specs.declared.Refusal.{Refusal}
use Rattle.limits.specs.Refusals.{number_of}
use Rattle.model.specs.Limits.{most_wires, most_circuit, many_wires, no_room, header_length}
use Rattle.model.specs.Syntax.{Program}
use Rattle.model.specs.Emission.{Event, takes, places, frees, Invocation, invocation, emission, gates, peak}
use Rattle.model.specs.Circuit.{encode, encode_all}
use Rattle.model.specs.Answers.{usable}
use Rattle.sets.specs.Sets.{members_of}
use Rattle.lookup.specs.Plans.{Within}
use Rattle.events.specs.declared.State.{State}
use Rattle.events.specs.declared.Slot.{Slot}

-- where an emission is: 0 or the number that refuses it, bytes used, gates placed, the next wire, the highest wire taken, and the number of qubits
pub record Emit : Type 0 where
  pub status : ℕ
  pub used : ℕ
  pub gates : ℕ
  pub next : ℕ
  pub highest : ℕ
  pub qubits : ℕ

-- the number of what refuses, 0 for nothing
abbrev pub refusal_number : Option Refusal → ℕ
refusal_number None = 0
refusal_number (Some why) = number_of why

-- as the code keeps it
abbrev pub emit_in : State → Emit
emit_in s = record {
  status = refusal_number s.refusal;
  used = s.used;
  gates = s.gates;
  next = s.next;
  highest = s.highest;
  qubits = s.qubits;
}

-- what is seen of an emission: where it is, and the room
pub data Progress : Type 0 where
  progress : Emit → List ℕ → Progress

abbrev pub emit_of : Progress → Emit
emit_of (progress st room) = st

abbrev pub room_of : Progress → List ℕ
room_of (progress st room) = room

-- the state behind a refusal, an ancilla taken, ancillas given back from one on, and a gate of some bytes: the number of qubits stays
abbrev pub stopped : Emit → ℕ → Emit
stopped st k = record { status = k; used = st.used; gates = st.gates; next = st.next; highest = st.highest; qubits = st.qubits }

abbrev pub taken : Emit → ℕ → Emit
taken st w = record { status = 0; used = st.used; gates = st.gates; next = w + 1; highest = max st.highest w; qubits = st.qubits }

abbrev pub freed : Emit → ℕ → Emit
freed st a = record { status = 0; used = st.used; gates = st.gates; next = a; highest = st.highest; qubits = st.qubits }

abbrev pub placed : Emit → ℕ → Emit
placed st n = record { status = 0; used = st.used + n; gates = st.gates + 1; next = st.next; highest = st.highest; qubits = st.qubits }

-- behind a gate of n bytes, or refused: "23 header or next gate would pass the room's end". A room holds fewer than 65,536 gates.
unfoldable pub with_gate : ℕ → Emit → ℕ → Emit
with_gate room st n =
    cond (leb (st.used + n) (usable room)) (cond (ltb st.gates most_circuit) (placed st n) (stopped st no_room)) (stopped st no_room)

-- one event where nothing was refused: "22 or 23 at the first ancilla or gate that does not fit"
unfoldable pub after_event : Event → Emit → List ℕ → Progress
after_event (takes w) st room = cond (ltb most_wires w) (progress (stopped st many_wires) room) (progress (taken st w) room)
after_event (places g) st room =
    let r = with_gate (length room) st (length (encode g)) in progress r (cond (eqb r.status 0) (sets room st.used (encode g)) room)
after_event (frees a) st room = progress (freed st a) room

-- the events in order; a refusal absorbs what follows it
unfoldable pub scan : List Event → Progress → Progress
scan [] x = x
scan (e ∷ es) (progress st room) = scan es (cond (eqb st.status 0) (after_event e st room) (progress st room))

-- an emission with n qubits starts behind the header, with wire n + 1
abbrev pub begun : ℕ → Emit
begun n = record { status = 0; used = header_length; gates = 0; next = n + 1; highest = n; qubits = n }

-- where one ends that fits
abbrev pub emission_end : Program → ℕ → Emit
emission_end P n = record {
  status = 0;
  used = header_length + length (encode_all (gates (emission P n)));
  gates = length (gates (emission P n));
  next = n + 1;
  highest = n + peak [] (emission P n);
  qubits = n;
}

-- an ancilla's slot holds the invocation that took it: a number for the length of its list and the procedure, counted down from 255, and the set of the list. Past
-- the slots there is none.
abbrev pub no_call : Slot
no_call = record { precedence = 0; list = 0 }

abbrev pub slot_in : List Slot → ℕ → Slot
slot_in slots a = get_or slots a no_call

abbrev pub slot_procedure : List Slot → ℕ → ℕ
slot_procedure slots a = 255 - (slot_in slots a).precedence % 256

abbrev pub slot_list : List Slot → ℕ → List ℕ
slot_list slots a = members_of (slot_in slots a).list

abbrev pub slot_list_length : List Slot → ℕ → ℕ
slot_list_length slots a = (slot_in slots a).precedence / 256

-- each slot has the length of its list, a list of the emission's qubits 1 to n
pub record Tallied (n : ℕ) (slots : List Slot) : Type 0 where
  pub lengths : (a : ℕ) → slot_list_length slots a ≡ length (slot_list slots a)
  pub within : (a : ℕ) → Within n (slot_list slots a)

-- the wire of an ancilla. None is above the limit: for such the code has 0.
abbrev pub wire_of : ℕ → ℕ
wire_of a = cond (ltb most_wires a) 0 a

unfoldable pub slot_of : List Slot → ℕ → Invocation
slot_of slots a = invocation (slot_procedure slots a) (slot_list slots a) (wire_of a)

-- the invocations in n slots, from ancilla a on
unfoldable pub held_in : List Slot → ℕ → ℕ → List Invocation
held_in slots a zero = []
held_in slots a (suc n) = slot_of slots a ∷ held_in slots (a + 1) n
