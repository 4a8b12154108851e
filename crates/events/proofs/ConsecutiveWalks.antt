-- Walks one after the other, and the slots that they leave as they are.
use mathlib.Core.Path.{◌≡◌, refl, sym, ap, ◌∙◌, subst}
use mathlib.Core.Logic.{◌≢◌}
use mathlib.Core.List.{List, [], ◌∷◌, ◌++◌}
use Prim.Native.Nat.{ℕ, zero, suc, ◌+◌, ◌-◌, ◌*◌, ◌/◌, ◌%◌, ◌≤◌, ◌<◌}
use native.Mathlib.Nat.{le_refl}
use native.Mathlib.Omega.{arith}
use borrow.Author.Tests.{eqb-true, le-ltb, ne_eqb}
use lib.ListN.{replicate, length-replicate, get_or-replicate, get_or-eq_default, length, length-set}
use lib.Seq.{sets, get_or-set_same, get_or-set_other}
use lib.Dec.{eqb}
use mir.Syntax.{w8}
use mir.Val.{Fits}
use Rattle.limits.specs.Sizes.{wire_count}
use Rattle.model.specs.Limits.{most_wires, most_circuit}
use Rattle.model.specs.Emission.{Event, takes, places, frees, invocation}
use Rattle.model.specs.Circuit.{encode}
use Rattle.model.specs.Answers.{usable}
use Rattle.model.proofs.BooleanLaws.{by_bool, by_lt, by_eq}
use Rattle.model.proofs.ListLaws.{not_in_nil}
use Rattle.agreement.proofs.AncillaStack.{OnlyGates}
use Rattle.sets.specs.Sets.{members_of}
use Rattle.sets.proofs.Members.{members_empty}
use Rattle.lookup.specs.Plans.{Within}
use Rattle.events.specs.declared.Slot.{Slot}
use Rattle.events.specs.Scan.{
  Emit,
  Progress,
  progress,
  emit_of,
  placed,
  scan,
  no_call,
  slot_in,
  slot_list,
  slot_of,
  Tallied,
  held_in,
}
use Rattle.events.specs.Slots.{called, filled}
use Rattle.events.specs.FollowedEvents.{Follows}
use Rattle.events.proofs.ScanOfEvents.{scan_append, scan_stopped, scan_places, scan_no_gate, scan_many, scan_next, scan_qubits, next_after}
use Rattle.events.proofs.GatesAndSlots.{gate_stopped}
use Rattle.events.proofs.EntryGates.{scan_nothing}

-- gates leave the next wire
pub gates_next : (es : List Event) (st : Emit) (room : List ℕ) → OnlyGates es → (emit_of (scan es (progress st room))).next ≡ st.next
gates_next [] st room x = ap (λ (s : Progress). (emit_of s).next) (sym (scan_nothing (progress st room)))
gates_next (takes w ∷ es) st room x = absurd x
gates_next (places g ∷ es) st room x = by_bool (eqb st.status 0)
    (λ z. let ok = eqb-true st.status 0 z in by_lt (usable (length room)) (st.used + length (encode g))
    (λ lt. rw (scan_no_gate es st room ok g lt))
    (λ le. by_lt st.gates most_circuit
    (λ few. rw (scan_places es st room ok g le few)
    (gates_next es (placed st (length (encode g))) (sets room st.used (encode g)) x))
    (λ many. rw (scan_many es st room ok g many))))
    (λ z. rw (scan_stopped (places g ∷ es) st room z))
gates_next (frees a ∷ es) st room x = absurd x

-- nothing happens
pub follows_none : (st : Emit) (room : List ℕ) (slots : List Slot) → Follows [] st room slots st room slots
follows_none st room slots = record {
  scanned = scan_nothing (progress st room);
  long = refl;
  rises = le_refl st.next;
  low = λ h. h;
  kept = λ i h. refl;
  tallied = λ T. T;
}

-- a refusal absorbs what follows
pub follows_stopped : (es : List Event) (st : Emit) (room : List ℕ) (slots : List Slot) → (st.status ≡ 0 → ⊥) → Follows es st room slots st room slots
follows_stopped es st room slots f = record {
  scanned = gate_stopped es st room f;
  long = refl;
  rises = le_refl st.next;
  low = λ h. h;
  kept = λ i h. refl;
  tallied = λ T. T;
}

-- gates in the room
pub follows_gates : (es : List Event) (st : Emit) (room : List ℕ) (slots : List Slot) (r : Emit) (room₁ : List ℕ) → OnlyGates es →
    progress r room₁ ≡ scan es (progress st room) → Follows es st room slots r room₁ slots
follows_gates es st room slots r room₁ x e =
    let n : r.next ≡ st.next = ap (λ (s : Progress). (emit_of s).next) e ∙ gates_next es st room x in
    record { scanned = e; long = refl; rises = omega arith; low = λ h. omega arith; kept = λ i h. refl; tallied = λ T. T }

module _ {st : Emit} {room : List ℕ} {slots : List Slot} {a : Emit} {room₁ : List ℕ} {slots₁ : List Slot} where
  -- the next wire behind events that are not refused
  pub follows_next : {es : List Event} → Follows es st room slots a room₁ slots₁ → a.status ≡ 0 → a.next ≡ next_after st.next es
  follows_next {es = es} F ok =
      ap (λ (s : Progress). (emit_of s).next) F.scanned
      ∙ scan_next es st room (sym (ap (λ (s : Progress). (emit_of s).status) F.scanned) ∙ ok)

  -- other events, where they are the same unless refused before
  pub follows_if : {es es₁ : List Event} → (st.status ≡ 0 → es ≡ es₁) → Follows es st room slots a room₁ slots₁ → Follows es₁ st room slots a room₁ slots₁
  follows_if {es = es} {es₁ = es₁} f F = by_eq st.status 0
      (λ z. subst (λ (v : List Event). Follows v st room slots a room₁ slots₁) (f z) F)
      (λ z. record {
        scanned = F.scanned ∙ scan_stopped es st room (ne_eqb st.status 0 z) ∙ sym (scan_stopped es₁ st room (ne_eqb st.status 0 z));
        long = F.long;
        rises = F.rises;
        low = F.low;
        kept = F.kept;
        tallied = F.tallied;
      })

  -- the number of qubits stays
  pub follows_qubits : {es : List Event} → Follows es st room slots a room₁ slots₁ → a.qubits ≡ st.qubits
  follows_qubits {es = es} F = ap (λ (s : Progress). (emit_of s).qubits) F.scanned ∙ scan_qubits es (progress st room)

  pub follows_as : {es es₁ : List Event} → es ≡ es₁ → Follows es st room slots a room₁ slots₁ → Follows es₁ st room slots a room₁ slots₁
  follows_as e F = subst (λ (v : List Event). Follows v st room slots a room₁ slots₁) e F

  module _ {b : Emit} {room₂ : List ℕ} {slots₂ : List Slot} where
    -- one after the other
    pub follows_append : {xs ys : List Event} → Follows xs st room slots a room₁ slots₁ → Follows ys a room₁ slots₁ b room₂ slots₂ →
        Follows (xs ++ ys) st room slots b room₂ slots₂
    follows_append {xs = xs} {ys = ys} F G = let up = F.rises in let more = G.rises in let same = follows_qubits F in record {
      scanned = G.scanned ∙ ap (scan ys) F.scanned ∙ sym (scan_append xs ys (progress st room));
      long = G.long ∙ F.long;
      rises = omega arith;
      low = λ h. G.low (F.low h);
      kept = λ i h. G.kept i (omega arith) ∙ F.kept i h;
      tallied = λ T. rw (← same) (G.tallied (rw same (F.tallied T)));
    }

-- slots below a wire that nothing changes
module _ (slots slots₁ : List Slot) (top : ℕ) (same : (a : ℕ) → a < top → slot_in slots₁ a ≡ slot_in slots a) where
  pub slot_kept : (a : ℕ) → a < top → slot_of slots₁ a ≡ slot_of slots a
  unfolding slot_of
  slot_kept a h = rw (same a h)

  pub held_kept : (a n : ℕ) → a + n ≤ top → held_in slots₁ a n ≡ held_in slots a n
  unfolding held_in
  held_kept a zero h = refl
  held_kept a (suc n) h = rw (slot_kept a (omega arith), held_kept (a + 1) n (omega arith))

pub held_append : (slots : List Slot) (a m n : ℕ) → held_in slots a (m + n) ≡ held_in slots a m ++ held_in slots (a + m) n
unfolding held_in
held_append slots a zero n = let e : 0 + n ≡ n = omega arith in let z : a + 0 ≡ a = omega arith in rw (e, z)
held_append slots a (suc m) n =
    let e : suc m + n ≡ suc (m + n) = omega arith in
    let z : a + suc m ≡ a + 1 + m = omega arith in
    rw (e, z) (ap (λ l. slot_of slots a ∷ l) (held_append slots (a + 1) m n))

-- a slot that was filled, and all before it
module _ (slots : List Slot) (a f w : ℕ) where
  pub filled_length_lem : length (filled slots a f w) ≡ length slots
  filled_length_lem = length-set slots a (called f w)

  pub filled_before : (j : ℕ) → j < a → slot_in (filled slots a f w) j ≡ slot_in slots j
  filled_before j h = get_or-set_other slots a j (called f w) no_call (omega arith)

  module _ (space : wire_count ≤ length slots) (low : a ≤ most_wires) (byte : Fits w8 f) where
    filled_here : slot_in (filled slots a f w) a ≡ called f w
    filled_here = get_or-set_same slots a (called f w) no_call (omega arith)

    pub filled_is : slot_of (filled slots a f w) a ≡ invocation f (members_of w) a
    unfolding slot_of
    filled_is = let e : 255 - (256 * length (members_of w) + (255 - f)) % 256 ≡ f = omega (arith, byte.fits) in rw (filled_here, e, le-ltb most_wires a low)

    pub filled_tallied : (n : ℕ) → Within n (members_of w) → Tallied n slots → Tallied n (filled slots a f w)
    filled_tallied n d T = record {
      lengths = λ b. by_eq b a
          (λ e. let n : (256 * length (members_of w) + (255 - f)) / 256 ≡ length (members_of w) = omega (arith, byte.fits) in rw (e, filled_here, n))
          (λ ne. rw (other b ne) (T.lengths b));
      within = λ b. by_eq b a
          (λ e. subst (Within n) (sym (ap (slot_list (filled slots a f w)) e ∙ ap (λ (v : Slot). members_of v.list) filled_here)) d)
          (λ ne. subst (Within n) (sym (ap (λ (v : Slot). members_of v.list) (other b ne))) (T.within b));
    }
      where
        other : (j : ℕ) → j ≢ a → slot_in (filled slots a f w) j ≡ slot_in slots j
        other j x = get_or-set_other slots a j (called f w) no_call x

-- slots of no calls have the lengths of their lists, which are empty
pub none_tallied : (n k : ℕ) → Tallied n (replicate k no_call)
none_tallied n k = record {
  lengths = λ a. rw (none a, members_empty);
  within = λ a w m. not_in_nil w (rw (none a, members_empty) at m);
}
  where
    none : (a : ℕ) → slot_in (replicate k no_call) a ≡ no_call
    none a = by_lt a k
        (λ lt. get_or-replicate k a no_call no_call lt)
        (λ ge. get_or-eq_default (replicate k no_call) no_call (rw (length-replicate {A = Slot} k no_call) ge))
