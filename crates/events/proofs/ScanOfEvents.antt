-- What scanning events leaves: an end where every step fits, or the refusal of the first that does not.
use mathlib.Core.Path.{◌≡◌, refl, ap, ◌∙◌, subst}
use mathlib.Core.Bool.{false}
use mathlib.Core.List.{List, [], ◌∷◌, ◌++◌}
use Prim.Native.Nat.{ℕ, suc, ◌+◌, ◌≤◌, ◌<◌, max}
use native.Mathlib.Nat.{add-zero}
use native.Mathlib.Omega.{arith}
use borrow.Author.Tests.{lt-ltb, le-ltb, le-leb, lt-leb, eq-eqb, eqb-true}
use lib.ListN.{length, length-append}
use lib.Seq.{sets, length-sets}
use lib.Dec.{eqb, ltb, leb}
use Rattle.model.specs.Limits.{most_wires, most_circuit, header_length, many_wires, no_room}
use Rattle.model.specs.Syntax.{Program}
use Rattle.model.specs.Gates.{Gate}
use Rattle.model.specs.Emission.{Event, takes, places, frees, emission, gates, peak}
use Rattle.model.specs.Circuit.{encode, encode_all}
use Rattle.model.specs.Answers.{fit, usable}
use Rattle.model.proofs.BooleanLaws.{by_bool, by_lt}
use Rattle.model.proofs.RoundTrip.{encode_length}
use Rattle.agreement.proofs.AncillaStack.{Stacked, highest, peak_highest, emission_stacked}
use Rattle.agreement.proofs.FirstMisfit.{AllFit, fit_all, fits_length}
use Rattle.circuit.proofs.GateBytes.{sets_append}
use Rattle.events.specs.Scan.{Emit, Progress, progress, emit_of, stopped, taken, freed, placed, after_event, with_gate, scan, begun, emission_end}

-- events one after the other
pub scan_append : (xs ys : List Event) (x : Progress) → scan (xs ++ ys) x ≡ scan ys (scan xs x)
unfolding scan
scan_append [] ys x = refl
scan_append (e ∷ xs) ys (progress st room) = scan_append xs ys _

-- a refusal absorbs what follows
pub scan_stopped : (es : List Event) (st : Emit) (room : List ℕ) → eqb st.status 0 ≡ false →
    scan es (progress st room) ≡ progress st room
unfolding scan
scan_stopped [] st room h = refl
scan_stopped (e ∷ es) st room h = rw h (scan_stopped es st room h)

-- the clauses of the scan by their tests, where nothing was refused
module _ (es : List Event) (st : Emit) (room : List ℕ) (ok : st.status ≡ 0) where
  pub scan_takes : (w : ℕ) → w ≤ most_wires → scan (takes w ∷ es) (progress st room) ≡ scan es (progress (taken st w) room)
  unfolding scan after_event
  scan_takes w h = rw (eq-eqb st.status 0 ok, le-ltb most_wires w h)

  pub scan_no_wire : (w : ℕ) → most_wires < w → scan (takes w ∷ es) (progress st room) ≡ progress (stopped st many_wires) room
  unfolding scan after_event
  scan_no_wire w h = rw (eq-eqb st.status 0 ok, lt-ltb most_wires w h) (scan_stopped es (stopped st many_wires) room refl)

  pub scan_places : (g : Gate) → st.used + length (encode g) ≤ usable (length room) → st.gates < most_circuit →
      scan (places g ∷ es) (progress st room) ≡ scan es (progress (placed st (length (encode g))) (sets room st.used (encode g)))
  unfolding scan after_event with_gate
  scan_places g h k =
      rw (eq-eqb st.status 0 ok, le-leb (st.used + length (encode g)) (usable (length room)) h, lt-ltb st.gates most_circuit k)

  pub scan_no_gate : (g : Gate) → usable (length room) < st.used + length (encode g) →
      scan (places g ∷ es) (progress st room) ≡ progress (stopped st no_room) room
  unfolding scan after_event with_gate
  scan_no_gate g h = rw (eq-eqb st.status 0 ok, lt-leb (st.used + length (encode g)) (usable (length room)) h)
      (scan_stopped es (stopped st no_room) room refl)

  -- a gate too many is refused as one past the room; a law below says that it does not come to that
  pub scan_many : (g : Gate) → most_circuit ≤ st.gates → scan (places g ∷ es) (progress st room) ≡ progress (stopped st no_room) room
  unfolding scan after_event with_gate
  scan_many g h = rw (eq-eqb st.status 0 ok, le-ltb st.gates most_circuit h) (by_bool (leb (st.used + length (encode g)) (usable (length room)))
      (λ e. rw e (scan_stopped es (stopped st no_room) room refl))
      (λ e. rw e (scan_stopped es (stopped st no_room) room refl)))

  pub scan_frees : (a : ℕ) → scan (frees a ∷ es) (progress st room) ≡ scan es (progress (freed st a) room)
  unfolding scan after_event
  scan_frees a = rw (eq-eqb st.status 0 ok)

-- the next wire behind some events, and the highest taken
unfoldable pub next_after : ℕ → List Event → ℕ
next_after a [] = a
next_after a (takes w ∷ es) = next_after (w + 1) es
next_after a (places g ∷ es) = next_after a es
next_after a (frees b ∷ es) = next_after b es

unfoldable pub highest_after : ℕ → List Event → ℕ
highest_after h [] = h
highest_after h (takes w ∷ es) = highest_after (max h w) es
highest_after h (places g ∷ es) = highest_after h es
highest_after h (frees b ∷ es) = highest_after h es

-- the state behind events that all fit
abbrev pub ended : Emit → List Event → Emit
ended st es = record {
  status = 0;
  used = st.used + length (encode_all (gates es));
  gates = st.gates + length (gates es);
  next = next_after st.next es;
  highest = highest_after st.highest es;
  qubits = st.qubits;
}

-- nothing was refused, and the room holds what was placed
pub record Sound (st : Emit) (room : List ℕ) : Type 0 where
  pub ok : st.status ≡ 0
  pub few : st.gates ≤ st.used
  pub fits : st.used ≤ usable (length room)

few_gates : (st : Emit) (room : List ℕ) (g : Gate) → Sound st room → st.used + length (encode g) ≤ usable (length room) → st.gates < most_circuit
few_gates st room g s h = let a = encode_length g in omega (arith, s.few)

sound_placed : (st : Emit) (room : List ℕ) (g : Gate) → Sound st room → st.used + length (encode g) ≤ usable (length room) →
    Sound (placed st (length (encode g))) (sets room st.used (encode g))
sound_placed st room g s h = let a = encode_length g in record {
  ok = refl;
  few = omega (arith, s.few);
  fits = rw (length-sets room st.used (encode g)) h;
}

sound_taken : (st : Emit) (room : List ℕ) (w : ℕ) → Sound st room → Sound (taken st w) room
sound_taken st room w s = record { ok = refl; few = s.few; fits = s.fits }

sound_freed : (st : Emit) (room : List ℕ) (a : ℕ) → Sound st room → Sound (freed st a) room
sound_freed st room a s = record { ok = refl; few = s.few; fits = s.fits }

-- where every step fits
scan_all : (es : List Event) (st : Emit) (room : List ℕ) → Sound st room → AllFit (usable (length room)) st.used es →
    scan es (progress st room) ≡ progress (ended st es) (sets room st.used (encode_all (gates es)))
unfolding scan gates encode_all next_after highest_after
scan_all [] st room s h = let ok = s.ok in rw (add-zero st.used, add-zero st.gates, ← ok)
scan_all (takes w ∷ es) st room s h =
    scan_takes es st room s.ok w h.0 ∙ scan_all es (taken st w) room (sound_taken st room w s) h.1
scan_all (places g ∷ es) st room s h =
    let n = length (encode g) in
    let after = sets room st.used (encode g) in
    let same = length-sets room st.used (encode g) in
    let u : st.used + n + length (encode_all (gates es)) ≡ st.used + length (encode g ++ encode_all (gates es)) =
    rw (length-append (encode g) (encode_all (gates es))) (omega arith) in
    let k : st.gates + 1 + length (gates es) ≡ st.gates + suc (length (gates es)) = omega arith in
    scan_places es st room s.ok g h.0 (few_gates st room g s h.0)
    ∙ scan_all es (placed st n) after (sound_placed st room g s h.0) (rw same h.1)
    ∙ rw (u, k, sets_append room st.used (encode g) (encode_all (gates es)))
scan_all (frees a ∷ es) st room s h =
    scan_frees es st room s.ok a ∙ scan_all es (freed st a) room (sound_freed st room a s) h

-- the number that comes out is the one of the definitions
scan_fit : (es : List Event) (st : Emit) (room : List ℕ) → Sound st room →
    (emit_of (scan es (progress st room))).status ≡ fit (usable (length room)) st.used es
unfolding scan fit
scan_fit [] st room s = s.ok
scan_fit (takes w ∷ es) st room s = by_lt most_wires w
    (λ lt. rw (scan_no_wire es st room s.ok w lt, lt-ltb most_wires w lt, fit))
    (λ le. rw (scan_takes es st room s.ok w le, le-ltb most_wires w le, fit) (scan_fit es (taken st w) room (sound_taken st room w s)))
scan_fit (places g ∷ es) st room s = by_lt (usable (length room)) (st.used + length (encode g))
    (λ lt. rw (scan_no_gate es st room s.ok g lt, lt-leb (st.used + length (encode g)) (usable (length room)) lt, fit))
    (λ le. rw (
      scan_places es st room s.ok g le (few_gates st room g s le),
      le-leb (st.used + length (encode g)) (usable (length room)) le,
      fit,
    )
    (scan_fit es (placed st (length (encode g))) (sets room st.used (encode g)) (sound_placed st room g s le)
    ∙ ap (λ (n : ℕ). fit (usable n) (st.used + length (encode g)) es) (length-sets room st.used (encode g))))
scan_fit (frees a ∷ es) st room s = rw (scan_frees es st room s.ok a) (scan_fit es (freed st a) room (sound_freed st room a s))

-- ancillas taken like a stack come back
pub stacked_after : (n a b : ℕ) (es : List Event) → Stacked n a es b → next_after a es ≡ b
unfolding next_after
stacked_after n a b [] x = x
stacked_after n a b (takes w ∷ es) x =
    let e : suc a ≡ w + 1 = let f : w ≡ a = x.0 in omega arith in
    stacked_after n (w + 1) b es (subst (λ (v : ℕ). Stacked n v es b) e x.1)
stacked_after n a b (places g ∷ es) x = stacked_after n a b es x
stacked_after n a b (frees c ∷ es) x = stacked_after n c b es x.2

highest_after_lem : (n h : ℕ) (es : List Event) → n ≤ h → highest_after h es ≡ max h (highest n es)
unfolding highest_after highest
highest_after_lem n h [] le = omega arith
highest_after_lem n h (takes w ∷ es) le = let ih = highest_after_lem n (max h w) es (omega arith) in omega arith
highest_after_lem n h (places g ∷ es) le = highest_after_lem n h es le
highest_after_lem n h (frees a ∷ es) le = highest_after_lem n h es le

no_wire : ◌≡◌ {A = ℕ} many_wires 0 → ⊥
no_wire q = omega arith

no_gate : ◌≡◌ {A = ℕ} no_room 0 → ⊥
no_gate q = omega arith

next_here : (st : Emit) (room : List ℕ) → (emit_of (scan [] (progress st room))).next ≡ st.next
unfolding scan
next_here st room = refl

-- a scan that refuses nothing began where nothing was refused
pub scan_was : (es : List Event) (st : Emit) (room : List ℕ) → (emit_of (scan es (progress st room))).status ≡ 0 → st.status ≡ 0
scan_was es st room h = by_bool (eqb st.status 0)
    (λ z. eqb-true st.status 0 z)
    (λ z. rw (scan_stopped es st room z) at h)

-- where nothing is refused, the next wire is the one behind the events
pub scan_next : (es : List Event) (st : Emit) (room : List ℕ) → (emit_of (scan es (progress st room))).status ≡ 0 →
    (emit_of (scan es (progress st room))).next ≡ next_after st.next es
unfolding next_after
scan_next [] st room h = next_here st room
scan_next (takes w ∷ es) st room h =
    let ok = scan_was (takes w ∷ es) st room h in by_lt most_wires w
    (λ lt. absurd (no_wire (rw (scan_no_wire es st room ok w lt) at h)))
    (λ le. rw (scan_takes es st room ok w le) (scan_next es (taken st w) room (rw (scan_takes es st room ok w le) at h)))
scan_next (places g ∷ es) st room h =
    let ok = scan_was (places g ∷ es) st room h in by_lt (usable (length room)) (st.used + length (encode g))
    (λ lt. absurd (no_gate (rw (scan_no_gate es st room ok g lt) at h)))
    (λ le. by_lt st.gates most_circuit
    (λ few. rw (scan_places es st room ok g le few)
    (scan_next es (placed st (length (encode g))) (sets room st.used (encode g))
    (rw (scan_places es st room ok g le few) at h)))
    (λ many. absurd (no_gate (rw (scan_many es st room ok g many) at h))))
scan_next (frees a ∷ es) st room h =
    let ok = scan_was (frees a ∷ es) st room h in
    rw (scan_frees es st room ok a) (scan_next es (freed st a) room (rw (scan_frees es st room ok a) at h))

-- the number of qubits stays
gate_qubits : (room : ℕ) (st : Emit) (n : ℕ) → (with_gate room st n).qubits ≡ st.qubits
unfolding with_gate
gate_qubits room st n = by_bool (leb (st.used + n) (usable room))
    (λ t. by_bool (ltb st.gates most_circuit) (λ u. rw (t, u)) (λ u. rw (t, u)))
    (λ t. rw t)

event_qubits : (e : Event) (st : Emit) (room : List ℕ) → (emit_of (after_event e st room)).qubits ≡ st.qubits
unfolding after_event
event_qubits (takes w) st room = by_bool (ltb most_wires w) (λ t. rw t) (λ t. rw t)
event_qubits (places g) st room = gate_qubits (length room) st (length (encode g))
event_qubits (frees a) st room = refl

pub scan_qubits : (es : List Event) (x : Progress) → (emit_of (scan es x)).qubits ≡ (emit_of x).qubits
unfolding scan
scan_qubits [] x = refl
scan_qubits (e ∷ es) (progress st room) = scan_qubits es _ ∙ by_bool (eqb st.status 0) (λ z. rw z (event_qubits e st room)) (λ z. rw z)

-- The emission from its start: the number of the definitions; and where that is 0, bytes, gates and the highest wire as the definitions have them.
module _ (P : Program) (n : ℕ) (room : List ℕ) (header : header_length ≤ usable (length room)) where
  start_sound : Sound (begun n) room
  start_sound = record { ok = refl; few = omega arith; fits = header }

  pub emission_status : (emit_of (scan (emission P n) (progress (begun n) room))).status ≡ fit (usable (length room)) header_length (emission P n)
  emission_status = scan_fit (emission P n) (begun n) room start_sound

  pub emission_ends : fit (usable (length room)) header_length (emission P n) ≡ 0 →
      scan (emission P n) (progress (begun n) room) ≡ progress (emission_end P n) (sets room header_length (encode_all (gates (emission P n))))
  emission_ends e =
      let es = emission P n in
      let reversed : next_after (n + 1) es ≡ n + 1 = let z : suc n ≡ n + 1 = omega arith in
      stacked_after n (n + 1) (n + 1) es (subst (λ (v : ℕ). Stacked n v es v) z (emission_stacked P n)) in
      let top : highest_after n es ≡ n + peak [] es = let a = highest_after_lem n n es (omega arith) in let b = peak_highest P n in omega arith in
      let none : 0 + length (gates es) ≡ length (gates es) = omega arith in
      scan_all es (begun n) room start_sound (fit_all (usable (length room)) header_length es e) ∙ rw (reversed, top, none)

  -- the bytes of the gates lie within the room
  pub emission_within : fit (usable (length room)) header_length (emission P n) ≡ 0 → header_length + length (encode_all (gates (emission P n))) ≤ length room
  emission_within e =
      let a = fits_length (usable (length room)) header_length (emission P n) header (fit_all (usable (length room)) header_length (emission P n) e) in omega arith
