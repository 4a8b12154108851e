-- The ways out of `invoke`, `flip_again` and `finish`.
use mathlib.Core.Path.{◌≡◌, refl, sym, ap, ◌∙◌}
use mathlib.Core.List.{List, [], ◌∷◌}
use Prim.Native.Nat.{ℕ, ◌+◌, ◌-◌, ◌≤◌, ◌<◌}
use native.Mathlib.Nat.{le_refl}
use native.Mathlib.Omega.{arith}
use borrow.Author.Rules.{rules}
use borrow.Author.Tests.{eqb-true, le-ltb, lt-ltb, eq-eqb, ne_eqb}
use mir.Syntax.{w8, w64}
use mir.Val.{Fits}
use lib.ListN.{length, drop}
use lib.Dec.{eqb}
use Rattle.limits.specs.Sizes.{wire_count}
use Rattle.model.specs.Limits.{most_wires, many_wires}
use Rattle.model.specs.Lists.{entry}
use Rattle.model.specs.Gates.{Controls, flip}
use Rattle.model.specs.Emission.{places, frees, Invocation, invocation, invokes, invoked, returns}
use Rattle.model.proofs.BooleanLaws.{by_bool, by_lt, by_eq, not_zero}
use Rattle.sets.specs.Sets.{members_of}
use Rattle.sets.proofs.Members.{members_empty}
use Rattle.sets.proofs.Readings.{members_split}
use Rattle.lookup.specs.Plans.{Within}
use Rattle.events.specs.declared.Slot.{Slot}
use Rattle.events.specs.Scan.{Emit, Progress, progress, emit_of, room_of, stopped, taken, freed, scan, wire_of, slot_of, held_in}
use Rattle.events.specs.Slots.{filled, ancilla_taken, returned}
use Rattle.events.specs.FollowedEvents.{Opens, Invokes, fills_slot}
use Rattle.events.proofs.ScanOfEvents.{scan_stopped, scan_takes, scan_no_wire, scan_frees}
use Rattle.events.proofs.EntryGates.{scan_nothing, scan_first}
use Rattle.events.proofs.ConsecutiveWalks.{follows_none, follows_stopped, gates_next, filled_length_lem, filled_before, filled_is, filled_tallied}

-- the ways out of `finish`
returned_scan : (a : ℕ) (st : Emit) (room : List ℕ) → progress (returned a st) room ≡ scan (frees a ∷ []) (progress st room)
unfolding returned
returned_scan a st room = by_bool (eqb st.status 0)
    (λ z. rw z (scan_nothing (progress (freed st a) room) ∙ sym (scan_frees [] st room (eqb-true st.status 0 z) a)))
    (λ z. rw z (sym (scan_stopped (frees a ∷ []) st room z)))

pub finished : (cs : Controls) (base w : ℕ) (x : Progress) (a r : Emit) (room : List ℕ) → w ≡ wire_of base →
    progress a room ≡ scan (places (flip cs w) ∷ []) x → r ≡ returned base a →
    progress r room ≡ scan (places (flip cs (wire_of base)) ∷ frees base ∷ []) x
finished cs base w x a r room e p q =
    rw (q, ← e) (scan_first (places (flip cs w)) (frees base ∷ []) x (progress a room)
    (progress (returned base a) room) p (returned_scan base a room))

-- the ways out of `flip_again`
no_return : (cs : Controls) (a : ℕ) (x : Progress) → x ≡ scan (returns [] cs a) x
unfolding returns
no_return cs a x = scan_nothing x

one_return : (cs : Controls) (a q : ℕ) (l : List ℕ) (x y : Progress) → y ≡ scan (places (flip cs a) ∷ []) x →
    y ≡ scan (returns (q ∷ l) cs a) x
unfolding returns
one_return cs a q l x y p = p

module _ (w : ℕ) (cs : Controls) (behind : ℕ) where
  pub again_none : w ≡ 0 → behind ≡ behind - length (invoked 0 (members_of w) 0)
  unfolding invoked
  again_none e = rw (e, members_empty) (omega arith)

  pub again_some : (a : ℕ) → Fits w64 w → (w ≡ 0 → ⊥) → a ≡ behind - 1 → a ≡ behind - length (invoked 0 (members_of w) 0)
  unfolding invoked
  again_some a f h e = rw (members_split w f h, e)

  module _ (a : ℕ) (x : Progress) where
    pub flip_none : w ≡ 0 → x ≡ scan (returns (members_of w) cs (wire_of a)) x
    flip_none e = rw (e, members_empty) (no_return cs (wire_of a) x)

    pub flip_some : (t : ℕ) (y : Progress) → Fits w64 w → (w ≡ 0 → ⊥) → t ≡ wire_of a → y ≡ scan (places (flip cs t) ∷ []) x →
        y ≡ scan (returns (members_of w) cs (wire_of a)) x
    flip_some t y f h e p = rw (members_split w f h) (one_return cs (wire_of a) (entry (members_of w) 1) (drop 1 (members_of w)) x y (rw e at p))

pub ruleset finishing = (rules, finished, again_none, again_some, flip_none, flip_some)

-- the ways out of `invoke`
progress_emit : {a b : Emit} {x y : List ℕ} → progress a x ≡ progress b y → a ≡ b
progress_emit e = ap emit_of e

progress_list : {a b : Emit} {x y : List ℕ} → progress a x ≡ progress b y → x ≡ y
progress_list e = ap room_of e

one_held : (slots : List Slot) (a : ℕ) (d : Invocation) → slot_of slots a ≡ d → held_in slots a 1 ≡ d ∷ []
unfolding held_in
one_held slots a d e = rw e

module _ (f : ℕ) (cs : Controls) (st : Emit) (room : List ℕ) (slots : List Slot) where
  pub invoke_none : (w : ℕ) → w ≡ 0 → Invokes f (members_of w) cs st room slots st room slots
  unfolding invokes invoked held_in
  invoke_none w e = rw (e, members_empty) (fills_slot (λ space within. record { follows = follows_none st room slots; held = λ z. refl }))

  module _ (w first : ℕ) (l : List ℕ) (is : members_of w ≡ first ∷ l) (byte : Fits w8 f) (space : wire_count ≤ length slots)
      (within : Within st.qubits (members_of w)) where
    refused_before : (a r : Emit) (room₁ : List ℕ) (slots₁ : List Slot) → (st.status ≡ 0 → ⊥) → a ≡ st → slots₁ ≡ slots →
        progress r room₁ ≡ scan (places (flip cs (wire_of st.next)) ∷ []) (progress a room) →
        Opens (invokes (first ∷ l) cs st.next) (invoked f (first ∷ l) st.next) st room slots r room₁ slots₁
    refused_before a r room₁ slots₁ h e q p =
        let still : progress r room₁ ≡ progress st room = p ∙ rw e (scan_stopped _ st room (ne_eqb st.status 0 h)) in
        rw (progress_emit still, progress_list still, q)
        (record { follows = follows_stopped _ st room slots h; held = λ z. absurd (h z) })

    refused_now : (a r : Emit) (room₁ : List ℕ) (slots₁ : List Slot) → st.status ≡ 0 → most_wires < st.next → a ≡ stopped st many_wires → slots₁ ≡ slots →
        progress r room₁ ≡ scan (places (flip cs (wire_of st.next)) ∷ []) (progress a room) →
        Opens (invokes (first ∷ l) cs st.next) (invoked f (first ∷ l) st.next) st room slots r room₁ slots₁
    unfolding invokes
    refused_now a r room₁ slots₁ ok h e q p =
        let still : progress r room₁ ≡ progress (stopped st many_wires) room = p ∙ rw e (scan_stopped _ (stopped st many_wires) room refl) in
        rw (progress_emit still, progress_list still, q) (record {
          follows = record {
            scanned = sym (scan_no_wire _ st room ok st.next h);
            long = refl;
            rises = le_refl st.next;
            low = λ k. k;
            kept = λ i k. refl;
            tallied = λ T. T;
          };
          held = λ z. absurd (not_zero 21 z);
        })

    invoked_now : (a r : Emit) (room₁ : List ℕ) (slots₁ : List Slot) → st.status ≡ 0 → st.next ≤ most_wires →
        a ≡ taken st st.next → slots₁ ≡ filled slots st.next f w →
        progress r room₁ ≡ scan (places (flip cs (wire_of st.next)) ∷ []) (progress a room) →
        Opens (invokes (first ∷ l) cs st.next) (invoked f (first ∷ l) st.next) st room slots r room₁ slots₁
    unfolding invokes invoked
    invoked_now a r room₁ slots₁ ok h e q p =
        let n = st.next in
        let placed_then : progress r room₁ ≡ scan (places (flip cs n) ∷ []) (progress (taken st n) room) =
        rw (e, le-ltb most_wires n h) at p in
        let up : r.next ≡ n + 1 = ap (λ (s : Progress). (emit_of s).next) placed_then ∙ gates_next _ (taken st n) room tt in
        rw q (record {
          follows = record {
            scanned = placed_then ∙ sym (scan_takes (places (flip cs n) ∷ []) st room ok n h);
            long = filled_length_lem slots n f w;
            rises = omega arith;
            low = λ k. omega arith;
            kept = λ i k. filled_before slots n f w i k;
            tallied = filled_tallied slots n f w space h byte st.qubits within;
          };
          held = λ z. one_held (filled slots n f w) n (invocation f (first ∷ l) n)
              (filled_is slots n f w space h byte ∙ ap (λ (m : List ℕ). invocation f m n) is);
        })

    invoked_slot : (a r : Emit) (room₁ : List ℕ) (slots₁ : List Slot) → a ≡ (ancilla_taken f w st slots).0 → slots₁ ≡ (ancilla_taken f w st slots).1 →
        progress r room₁ ≡ scan (places (flip cs (wire_of st.next)) ∷ []) (progress a room) →
        Opens (invokes (first ∷ l) cs st.next) (invoked f (first ∷ l) st.next) st room slots r room₁ slots₁
    unfolding ancilla_taken
    invoked_slot a r room₁ slots₁ e q p = by_eq st.status 0
        (λ ok. by_lt most_wires st.next
        (λ lt. refused_now a r room₁ slots₁ ok lt (rw (eq-eqb st.status 0 ok, lt-ltb most_wires st.next lt) at e) (rw (eq-eqb st.status 0 ok, lt-ltb most_wires st.next lt) at q) p)
        (λ le. invoked_now a r room₁ slots₁ ok le (rw (eq-eqb st.status 0 ok, le-ltb most_wires st.next le) at e) (rw (eq-eqb st.status 0 ok, le-ltb most_wires st.next le) at q) p))
        (λ h. refused_before a r room₁ slots₁ h (rw (ne_eqb st.status 0 h) at e) (rw (ne_eqb st.status 0 h) at q) p)

  pub invoke_some : (w n t : ℕ) (a r : Emit) (room₁ : List ℕ) (slots₁ : List Slot) → Fits w64 w → Fits w8 f → (w ≡ 0 → ⊥) → n ≡ st.next → t ≡ wire_of n →
      a ≡ (ancilla_taken f w st slots).0 → slots₁ ≡ (ancilla_taken f w st slots).1 → progress r room₁ ≡ scan (places (flip cs t) ∷ []) (progress a room) →
      Invokes f (members_of w) cs st room slots r room₁ slots₁
  invoke_some w n t a r room₁ slots₁ fits byte h is v e q p =
      let split = members_split w fits h in
      fills_slot (λ space within.
      rw split (invoked_slot w (entry (members_of w) 1) (drop 1 (members_of w)) split byte space within a r room₁ slots₁ e q (rw (v, is) at p)))

pub ruleset invoking = (rules, invoke_none, invoke_some)
