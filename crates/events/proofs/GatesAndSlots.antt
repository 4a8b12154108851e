-- The ways out of the functions that walk over no statement: gates placed, slots filled and read, the next length found.
use mathlib.Core.Path.{◌≡◌, refl, sym, ◌∙◌}
use mathlib.Core.Bool.{Bool, true, false, not}
use mathlib.Core.List.{List, [], ◌∷◌}
use Prim.Native.Nat.{ℕ, suc, ◌+◌, ◌-◌, ◌*◌, ◌≤◌, ◌<◌, max}
use native.Mathlib.Omega.{arith}
use mir.Syntax.{w64}
use mir.Val.{Fits}
use borrow.Author.Rules.{rules}
use borrow.Author.Tests.{lt-ltb, le-ltb, le-leb, lt-leb, eq-eqb, ne_eqb, leb-true}
use lib.ListN.{length, set}
use lib.Seq.{sets}
use lib.Dec.{leb}
use Rattle.std.specs.Prelude.{Option, Some, None, is_some}
use Rattle.limits.specs.declared.Refusal.{Refusal}
use Rattle.limits.specs.declared.Refusal.TheVariants.{
  TableStops,
  WrongEdition,
  ManyProcedures,
  WrongKind,
  WrongMap,
  WrongField,
  TooDeep,
  BytesLeft,
  WrongQubits,
  NoRemoval,
  TooWide,
  AccessFault,
  HighBit,
  NotWellFormed,
  ShortWorkspace,
  ManyWires,
  NoRoom,
  ShortTableRoom,
}
use Rattle.limits.specs.Refusals.{number_of}
use Rattle.model.specs.Limits.{most_wires, most_circuit, many_wires, no_room}
use Rattle.model.specs.Gates.{Gate, flip, swap_of}
use Rattle.model.specs.Emission.{Event, places, under}
use Rattle.model.specs.Circuit.{encode, control_bytes}
use Rattle.model.specs.Answers.{usable}
use Rattle.model.proofs.BooleanLaws.{by_bool, by_lt}
use Rattle.controls.specs.declared.Site.{Site}
use Rattle.controls.specs.ControlWords.{controls_from}
use Rattle.controls.proofs.ControlBytes.{flip_long, swap_long}
use Rattle.sets.specs.Sets.{members_of}
use Rattle.events.specs.declared.State.{State}
use Rattle.events.specs.declared.Slot.{Slot}
use Rattle.events.specs.Scan.{Emit, refusal_number, emit_in, progress, stopped, placed, with_gate, after_event, scan}
use Rattle.events.specs.Slots.{filled, ancilla_taken, returned}
use Rattle.events.proofs.ScanOfEvents.{scan_stopped}

-- the ways out of `in_room`
module _ (room used n most : ℕ) (is : most ≡ usable room) where
  pub room_short : most < n → false ≡ leb (used + n) (usable room)
  room_short h = sym (lt-leb (used + n) (usable room) (omega arith))

  pub room_left : n ≤ most → leb used (most - n) ≡ leb (used + n) (usable room)
  room_left h = by_lt (most - n) used
      (λ lt. lt-leb used (most - n) lt ∙ sym (lt-leb (used + n) (usable room) (omega arith)))
      (λ le. le-leb used (most - n) le ∙ sym (le-leb (used + n) (usable room) (omega arith)))

pub ruleset rooms = (rules, room_short, room_left)

-- what refuses has a number, and nothing else is 0
refused_number : (why : Refusal) → number_of why ≡ 0 → ⊥
refused_number TableStops e = omega arith
refused_number WrongEdition e = omega arith
refused_number ManyProcedures e = omega arith
refused_number WrongKind e = omega arith
refused_number WrongMap e = omega arith
refused_number WrongField e = omega arith
refused_number TooDeep e = omega arith
refused_number BytesLeft e = omega arith
refused_number WrongQubits e = omega arith
refused_number NoRemoval e = omega arith
refused_number TooWide e = omega arith
refused_number AccessFault e = omega arith
refused_number HighBit e = omega arith
refused_number NotWellFormed e = omega arith
refused_number ShortWorkspace e = omega arith
refused_number ManyWires e = omega arith
refused_number NoRoom e = omega arith
refused_number ShortTableRoom e = omega arith

pub some_refused : (o : Option Refusal) → is_some o ≡ true → refusal_number o ≡ 0 → ⊥
some_refused None h e = cc
some_refused (Some why) h e = refused_number why e

pub none_refused : (o : Option Refusal) → is_some o ≡ false → refusal_number o ≡ 0
none_refused None h = refl
none_refused (Some why) h = cc

-- the ways out of `with_gate`
module _ (room n : ℕ) (s : State) where
  pub gate_many : most_circuit ≤ s.gates → stopped (emit_in s) no_room ≡ with_gate room (emit_in s) n
  unfolding with_gate
  gate_many h = rw (le-ltb s.gates most_circuit h) (by_bool (leb (s.used + n) (usable room)) (λ t. rw t) (λ t. rw t))

  module _ (b : Bool) (fits : b ≡ leb (s.used + n) (usable room)) where
    pub sum_fits : b ≡ true → Fits w64 (s.used + n)
    sum_fits e = let h = leb-true (s.used + n) (usable room) (sym fits ∙ e) in record { fits = omega arith }

    pub gate_past : b ≡ false → stopped (emit_in s) no_room ≡ with_gate room (emit_in s) n
    unfolding with_gate
    gate_past t = rw (← fits, t)

    pub gate_fits : b ≡ true → s.gates < most_circuit → placed (emit_in s) n ≡ with_gate room (emit_in s) n
    unfolding with_gate
    gate_fits t h = rw (← fits, t, lt-ltb s.gates most_circuit h)

pub ruleset growing = (rules, gate_many, sum_fits, gate_past, gate_fits)

-- the ways out of `emit_flip` and `emit_swap`: a gate by its bytes
pub gate_stopped : (es : List Event) (st : Emit) (room : List ℕ) → (st.status ≡ 0 → ⊥) → progress st room ≡ scan es (progress st room)
gate_stopped es st room f = sym (scan_stopped es st room (ne_eqb st.status 0 f))

pub gate_before : (es : List Event) (s : State) (room : List ℕ) → is_some s.refusal ≡ true →
    progress (emit_in s) room ≡ scan es (progress (emit_in s) room)
gate_before es s room h = gate_stopped es (emit_in s) room (some_refused s.refusal h)

module _ (g : Gate) (s : State) (room : List ℕ) (ok : is_some s.refusal ≡ false) (n : ℕ) (is : n ≡ length (encode g)) (r : State)
    (next : emit_in r ≡ with_gate (length room) (emit_in s) n) where
  gate_put : (after : List ℕ) → is_some r.refusal ≡ false → after ≡ sets room s.used (encode g) →
      progress (emit_in r) after ≡ scan (places g ∷ []) (progress (emit_in s) room)
  unfolding scan after_event
  gate_put after e q = rw (eq-eqb (emit_in s).status 0 (none_refused s.refusal ok), ← is, ← next, eq-eqb (emit_in r).status 0 (none_refused r.refusal e), q)

  gate_refused : is_some r.refusal ≡ true → progress (emit_in r) room ≡ scan (places g ∷ []) (progress (emit_in s) room)
  unfolding scan after_event
  gate_refused e = rw (eq-eqb (emit_in s).status 0 (none_refused s.refusal ok), ← is, ← next, ne_eqb (emit_in r).status 0 (some_refused r.refusal e))

-- a NOT, under the controls of a site
module _ (site : Site) (t : ℕ) (s : State) (room : List ℕ) (ok : is_some s.refusal ≡ false) (n : ℕ)
    (is : n ≡ 2 + length (control_bytes (controls_from site))) (r : State) (next : emit_in r ≡ with_gate (length room) (emit_in s) n) where
  pub flip_placed : (after : List ℕ) → is_some r.refusal ≡ false → after ≡ sets room s.used (encode (flip (controls_from site) t)) →
      progress (emit_in r) after ≡ scan (places (flip (controls_from site) t) ∷ []) (progress (emit_in s) room)
  flip_placed = gate_put (flip (controls_from site) t) s room ok n (is ∙ sym (flip_long (controls_from site) t)) r next

  pub flip_refused : is_some r.refusal ≡ true → progress (emit_in r) room ≡ scan (places (flip (controls_from site) t) ∷ []) (progress (emit_in s) room)
  flip_refused = gate_refused (flip (controls_from site) t) s room ok n (is ∙ sym (flip_long (controls_from site) t)) r next

-- a swap under one ancilla
module _ (e u v : ℕ) (s : State) (room : List ℕ) (ok : is_some s.refusal ≡ false) (n : ℕ)
    (is : n ≡ length (encode (swap_of (under e) 0 0))) (r : State) (next : emit_in r ≡ with_gate (length room) (emit_in s) n) where
  pub swap_placed : (after : List ℕ) → is_some r.refusal ≡ false → after ≡ sets room s.used (encode (swap_of (under e) u v)) →
      progress (emit_in r) after ≡ scan (places (swap_of (under e) u v) ∷ []) (progress (emit_in s) room)
  swap_placed = gate_put (swap_of (under e) u v) s room ok n (is ∙ sym (swap_long e u v)) r next

  pub swap_refused : is_some r.refusal ≡ true → progress (emit_in r) room ≡ scan (places (swap_of (under e) u v) ∷ []) (progress (emit_in s) room)
  swap_refused = gate_refused (swap_of (under e) u v) s room ok n (is ∙ sym (swap_long e u v)) r next

-- what both tests say
pub none_none : (b : Bool) (o : Option Refusal) → is_some o ≡ not b → b ≡ true → is_some o ≡ false
none_none b o e t = rw t at e

pub none_some : (b : Bool) (o : Option Refusal) → is_some o ≡ not b → b ≡ false → is_some o ≡ true
none_some b o e t = rw t at e

pub ruleset placing = (rules, gate_before, flip_placed, flip_refused, swap_placed, swap_refused, none_none, none_some)

-- the ways out of `give_back`
module _ (a : ℕ) (s : State) where
  pub back_stopped : is_some s.refusal ≡ true → emit_in s ≡ returned a (emit_in s)
  unfolding returned
  back_stopped h = rw (ne_eqb (emit_in s).status 0 (some_refused s.refusal h))

  pub back_given : is_some s.refusal ≡ false → emit_in (record s { next = a }) ≡ returned a (emit_in s)
  unfolding returned
  back_given h = let e = none_refused s.refusal h in rw (eq-eqb (emit_in s).status 0 e, e)

-- the ways out of `take`
module _ (f l : ℕ) (s : State) (slots : List Slot) where
  module _ (h : is_some s.refusal ≡ true) where
    pub stopped_state : emit_in s ≡ (ancilla_taken f l (emit_in s) slots).0
    unfolding ancilla_taken
    stopped_state = rw (ne_eqb (emit_in s).status 0 (some_refused s.refusal h))

    pub stopped_slots : slots ≡ (ancilla_taken f l (emit_in s) slots).1
    unfolding ancilla_taken
    stopped_slots = rw (ne_eqb (emit_in s).status 0 (some_refused s.refusal h))

  module _ (ok : is_some s.refusal ≡ false) where
    module _ (past : most_wires < s.next) where
      pub past_state : stopped (emit_in s) many_wires ≡ (ancilla_taken f l (emit_in s) slots).0
      unfolding ancilla_taken
      past_state = rw (eq-eqb (emit_in s).status 0 (none_refused s.refusal ok), lt-ltb most_wires s.next past)

      pub past_slots : slots ≡ (ancilla_taken f l (emit_in s) slots).1
      unfolding ancilla_taken
      past_slots = rw (eq-eqb (emit_in s).status 0 (none_refused s.refusal ok), lt-ltb most_wires s.next past)

    module _ (low : s.next ≤ most_wires) where
      pub taken_state : (h : ℕ) → h ≡ max s.highest s.next →
          emit_in (record s { next = s.next + 1; highest = h }) ≡ (ancilla_taken f l (emit_in s) slots).0
      unfolding ancilla_taken
      taken_state h q = let e = none_refused s.refusal ok in rw (q, eq-eqb (emit_in s).status 0 e, le-ltb most_wires s.next low, e)

      pub taken_slots : (after : List Slot) → after ≡ filled slots s.next f l → after ≡ (ancilla_taken f l (emit_in s) slots).1
      unfolding ancilla_taken
      taken_slots after p = let e = none_refused s.refusal ok in rw (p, eq-eqb (emit_in s).status 0 e, le-ltb most_wires s.next low)

pub ruleset takings = (rules, back_stopped, back_given, stopped_state, stopped_slots, past_state, past_slots, taken_state, taken_slots)

-- the ways out of `fill_slot`
pub slot_filled : (slots : List Slot) (a f w n : ℕ) → n ≡ length (members_of w) →
    set slots a (record { precedence = 256 * n + (255 - f); list = w }) ≡ filled slots a f w
slot_filled slots a f w n is = rw is

pub further : (n e : ℕ) → e < n → n - e ≡ suc (n - (e + 1))
further n e h = omega arith

pub spent : (n e : ℕ) → n ≤ e → n - e ≡ 0
spent n e h = omega arith
