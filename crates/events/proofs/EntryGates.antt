-- The ways out of the functions that emit entry gates, in order or reversed.
use mathlib.Core.Path.{◌≡◌, refl, sym, ap, ◌∙◌}
use mathlib.Core.Bool.{Bool, true, false}
use mathlib.Core.List.{List, [], ◌∷◌, ◌++◌, reverse, reverse-cons, reverse-append, append_assoc, append-nil}
use Prim.Native.Nat.{ℕ, zero, suc, ◌+◌, ◌-◌, ◌*◌, ◌/◌, ◌%◌, ◌≤◌, ◌<◌}
use native.Mathlib.Numerals.{add-one}
use native.Mathlib.Nat.{le_refl}
use native.Mathlib.Omega.{arith}
use borrow.Author.Rules.{rules}
use borrow.Author.Tests.{eq-eqb, ne_eqb, eqb-true}
use lib.ListN.{length, get_or, drop, drop_of_length-le}
use lib.Seq.{drop-cons}
use lib.Dec.{eqb}
use Rattle.model.specs.Gates.{flip, swap_of}
use Rattle.model.specs.Emission.{Event, places, under, swaps, entry_gates, all_entry_gates, is_of, calls_to}
use Rattle.model.proofs.BooleanLaws.{by_bool, by_lt, same_test}
use Rattle.agreement.proofs.KeysOfALength.{is_of_lem, of_is, calls_here, calls_past}
use Rattle.controls.specs.declared.Site.{Site}
use Rattle.controls.specs.ControlWords.{controls_from, At}
use Rattle.sets.specs.Sets.{members_of}
use Rattle.lookup.specs.declared.plan.Plan.{Plan}
use Rattle.lookup.specs.Plans.{pairs_of, swaps_along, Within, PlansSwaps, same_swaps, entries_touched}
use Rattle.events.specs.declared.Slot.{Slot}
use Rattle.events.specs.Scan.{Emit, Progress, progress, emit_of, scan, slot_in, slot_list_length, slot_procedure, slot_list, wire_of, slot_of, Tallied, held_in}
use Rattle.events.specs.Slots.{
  precedence_in,
  turned,
  Enters,
  scans_entries,
  EntryTouched,
  no_plan,
  by_plan,
  entry_at,
  entries_to,
}
use Rattle.events.proofs.ScanOfEvents.{scan_append, scan_qubits}
use Rattle.events.proofs.GatesAndSlots.{further, spent}

pub scan_nothing : (x : Progress) → x ≡ scan [] x
unfolding scan
scan_nothing x = refl

pub use_enters : {slots : List Slot} {es : List Event} {x y : Progress} → Enters slots es x y → Tallied (emit_of x).qubits slots → y ≡ scan es x
use_enters (scans_entries p) = p

-- one gate, then others; others reversed, then the gate
pub scan_first : (g : Event) (es : List Event) (x y z : Progress) → y ≡ scan (g ∷ []) x → z ≡ scan es y → z ≡ scan (g ∷ es) x
scan_first g es x y z p q = rw (q, p) (sym (scan_append (g ∷ []) es x))

scan_last : (g : Event) (es : List Event) (x y z : Progress) → y ≡ scan (reverse es) x → z ≡ scan (g ∷ []) y →
    z ≡ scan (reverse (g ∷ es)) x
scan_last g es x y z p q = rw (q, p, reverse-cons g es) (sym (scan_append (reverse es) (g ∷ []) x))

nothing_turned : (reversed : Bool) (x : Progress) → x ≡ scan (turned reversed []) x
nothing_turned true x = scan_nothing x
nothing_turned false x = scan_nothing x

-- `emit_swaps` so far, in order: the swaps from i on make of it what all of them make; reversed: those behind what is left are placed
pub data Forth (e : ℕ) (ps : List (ℕ × ℕ)) (x y : Progress) (i : ℕ) : Type 0 where
  still : scan (swaps_along e (drop i ps)) y ≡ scan (swaps_along e ps) x → Forth e ps x y i

pub data Back (e : ℕ) (ps : List (ℕ × ℕ)) (x y : Progress) (left : List (ℕ × ℕ)) : Type 0 where
  behind : (qs : List (ℕ × ℕ)) → ps ≡ left ++ qs → y ≡ scan (reverse (swaps_along e qs)) x → Back e ps x y left

module _ (e : ℕ) (ps : List (ℕ × ℕ)) (x : Progress) where
  no_swap : swaps_along e [] ≡ []
  unfolding swaps_along
  no_swap = refl

  one_swap : (p : ℕ × ℕ) (qs : List (ℕ × ℕ)) → swaps_along e (p ∷ qs) ≡ places (swap_of (under e) p.0 p.1) ∷ swaps_along e qs
  unfolding swaps_along
  one_swap p qs = refl

  pub forth_starts : Forth e ps x x 0
  forth_starts = still refl

  pub back_starts : (left : List (ℕ × ℕ)) → left ≡ ps → Back e ps x x left
  back_starts left is = behind [] (sym is ∙ sym (append-nil left)) (rw no_swap (scan_nothing x))

  pub forth_next : (y z : Progress) (i : ℕ) → z ≡ scan (places (swap_of (under e) (get_or ps i (0, 0)).0 (get_or ps i (0, 0)).1) ∷ []) y → i < length ps →
      Forth e ps x y i → Forth e ps x z (i + 1)
  forth_next y z i put low (still q) =
      let p = get_or ps i (0, 0) in
      still (rw (put, add-one i)
      (sym (scan_append (places (swap_of (under e) p.0 p.1) ∷ []) (swaps_along e (drop (suc i) ps)) y)
      ∙ ap (λ es. scan es y) (sym (one_swap p (drop (suc i) ps)) ∙ ap (swaps_along e) (sym (drop-cons ps i (0, 0) low))) ∙ q))

  pub back_next : (y z : Progress) (left rest : List (ℕ × ℕ)) (p : ℕ × ℕ) → z ≡ scan (places (swap_of (under e) p.0 p.1) ∷ []) y → left ≡ rest ++ (p ∷ []) →
      Back e ps x y left → Back e ps x z rest
  back_next y z left rest p put is (behind qs all q) = behind (p ∷ qs) (all ∙ rw is (append_assoc rest (p ∷ []) qs))
      (rw (one_swap p qs) (scan_last (places (swap_of (under e) p.0 p.1)) (swaps_along e qs) x y z q put))

  module _ (y : Progress) (reversed : Bool) where
    pub forth_ends : (i : ℕ) → reversed ≡ false → length ps ≤ i → Forth e ps x y i → y ≡ scan (turned reversed (swaps_along e ps)) x
    forth_ends i t h (still q) = rw t (scan_nothing y ∙ ap (λ es. scan es y) (sym no_swap ∙ ap (swaps_along e) (sym (drop_of_length-le ps h))) ∙ q)

    pub back_ends : (left : List (ℕ × ℕ)) → reversed ≡ true → length left ≡ 0 → Back e ps x y left → y ≡ scan (turned reversed (swaps_along e ps)) x
    back_ends [] t none (behind qs all q) = rw (t, all) q
    back_ends (p ∷ left) t none b = absurd (omega arith)

pub ruleset following = (rules, forth_starts, forth_next, forth_ends, back_starts, back_next, back_ends)

-- the ways out of `emit_gates`
-- a list has no swaps onto itself
swaps_same : (e : ℕ) (l : List ℕ) → swaps e l l ≡ []
unfolding swaps
swaps_same e [] = refl
swaps_same e (x ∷ l) = rw (eq-eqb x x refl, swaps) (swaps_same e l)

one_turned : (g : Event) (reversed : Bool) (x y : Progress) → y ≡ scan (g ∷ []) x → y ≡ scan (turned reversed (g ∷ [])) x
one_turned g true x y p = p
one_turned g false x y p = p

list_is : (slots : List Slot) (a : ℕ) (s : Slot) → s ≡ slot_in slots a → slot_list slots a ≡ members_of s.list
list_is slots a s e = ap (λ (v : Slot). members_of v.list) (sym e)

pub gates_same : (slots : List Slot) (d e : ℕ) (reversed : Bool) (x y : Progress) (f l : Slot) (u v : ℕ) (site : Site) (none : List ℕ) →
    f ≡ slot_in slots d → l ≡ slot_in slots e → u ≡ wire_of e → At site none (under u) → v ≡ wire_of d → f.list ≡ l.list →
    y ≡ scan (places (flip (controls_from site) v) ∷ []) x → Enters slots (turned reversed (entry_gates (slot_of slots d) (slot_of slots e))) x y
unfolding entry_gates slot_of
gates_same slots d e reversed x y f l u v site none is_f is_l is_u is_site is_v same p =
    let lists : slot_list slots e ≡ slot_list slots d = list_is slots e l is_l ∙ ap members_of (sym same) ∙ sym (list_is slots d f is_f) in
    scans_entries (λ T. rw (lists, swaps_same (wire_of e) (slot_list slots d))
    (one_turned (places (flip (under (wire_of e)) (wire_of d))) reversed x y (rw (is_site.controls, is_u, is_v) at p)))

planned_are : (n : ℕ) (F L : List ℕ) (r : Plan) (e : ℕ) → PlansSwaps n F L r → Within n F → Within n L → swaps_along e (pairs_of r) ≡ swaps e F L
planned_are n F L r e (same_swaps s) df dl = s df dl e

module _ (slots : List Slot) (d e : ℕ) (reversed : Bool) (st : Emit) (room : List ℕ) (f l : Slot) (r : Plan) (u v : ℕ) (site : Site) (none : List ℕ)
    (ps : List (ℕ × ℕ)) (is_ps : ps ≡ pairs_of r) (is_f : f ≡ slot_in slots d) (is_l : l ≡ slot_in slots e)
    (P : PlansSwaps st.qubits (members_of f.list) (members_of l.list) r) (is_u : u ≡ wire_of e) (is_site : At site none (under u)) (is_v : v ≡ wire_of d) where
  -- the swaps of the plan are the definition's, between lists of the emission's qubits
  planned_swaps : Tallied st.qubits slots → swaps_along u ps ≡ swaps (wire_of e) (slot_list slots d) (slot_list slots e)
  planned_swaps T =
      ap (swaps_along u) is_ps
      ∙ planned_are st.qubits (slot_list slots d) (slot_list slots e) r u (rw (is_f, is_l) at P) (T.within d) (T.within e) ∙ rw is_u

  pub gates_reversed : (y z : Progress) → reversed ≡ true → y ≡ scan (turned true (swaps_along u ps)) (progress st room) →
      z ≡ scan (places (flip (controls_from site) v) ∷ []) y →
      Enters slots (turned reversed (entry_gates (slot_of slots d) (slot_of slots e))) (progress st room) z
  unfolding entry_gates slot_of
  gates_reversed y z b p q = scans_entries (λ T.
      rw b (scan_last (places (flip (under (wire_of e)) (wire_of d))) (swaps (wire_of e) (slot_list slots d) (slot_list slots e)) (progress st room) y z
      (rw (planned_swaps T) at p) (rw (is_site.controls, is_u, is_v) at q)))

  pub gates_forth : (y z : Progress) → reversed ≡ false → y ≡ scan (places (flip (controls_from site) v) ∷ []) (progress st room) →
      z ≡ scan (turned false (swaps_along u ps)) y →
      Enters slots (turned reversed (entry_gates (slot_of slots d) (slot_of slots e))) (progress st room) z
  unfolding entry_gates slot_of
  gates_forth y z b p q = scans_entries (λ T.
      rw b (scan_first (places (flip (under (wire_of e)) (wire_of d))) (swaps (wire_of e) (slot_list slots d) (slot_list slots e)) (progress st room) y z
      (rw (is_site.controls, is_u, is_v) at p) (rw (planned_swaps T) at q)))

-- the entries of the lookup that they read and write
module _ (n : ℕ) (slots : List Slot) (d e : ℕ) (f l : Slot) (is_f : f ≡ slot_in slots d) (is_l : l ≡ slot_in slots e) where
  pub touched_none : f.list ≡ l.list → EntryTouched n (slot_list slots d) (slot_list slots e) 0
  touched_none same = no_plan (list_is slots d f is_f ∙ ap members_of same ∙ sym (list_is slots e l is_l)) refl

  module _ (r : Plan) where
    pub touched_plan : PlansSwaps n (members_of f.list) (members_of l.list) r →
        r.touched ≡ entries_touched n (members_of f.list) (members_of l.list) (length (pairs_of r)) → EntryTouched n (slot_list slots d) (slot_list slots e) r.touched
    touched_plan P c = by_plan r (rw (is_f, is_l) at P) (rw (is_f, is_l) at c)

    pub touched_few : r.touched ≤ 4 * n + 8 * length (members_of l.list) → r.touched ≤ 4 * n + 8 * length (slot_list slots e)
    touched_few h = rw is_l at h

-- the ways out of `emit_entry`
module _ (slots : List Slot) (d e : ℕ) (reversed : Bool) (x : Progress) (se sd : Slot) (is_e : se ≡ slot_in slots e) (is_d : sd ≡ slot_in slots d) where
  pub entry_other : (se.precedence ≡ sd.precedence → ⊥) → Enters slots (turned reversed (entry_at slots d e)) x x
  unfolding entry_at
  entry_other h = scans_entries (λ T. rw (ne_eqb (precedence_in slots e) (precedence_in slots d) (rw (is_e, is_d) at h)) (nothing_turned reversed x))

  pub entry_same : (y : Progress) → se.precedence ≡ sd.precedence → Enters slots (turned reversed (entry_gates (slot_of slots d) (slot_of slots e))) x y →
      Enters slots (turned reversed (entry_at slots d e)) x y
  unfolding entry_at
  entry_same y h (scans_entries p) = scans_entries (λ T. rw (eq-eqb (precedence_in slots e) (precedence_in slots d) (rw (is_e, is_d) at h)) (p T))

pub ruleset gating = (
  rules,
  gates_same,
  gates_reversed,
  gates_forth,
  touched_none,
  touched_plan,
  touched_few,
  entry_other,
  entry_same,
)

-- `emit_entries` so far, in order: the gates from slot a on make of it what all of them make; reversed: those from slot a on are placed
pub data Entering (slots : List Slot) (d e upto : ℕ) (x y : Progress) (a : ℕ) : Type 0 where
  still : (Tallied (emit_of x).qubits slots → scan (entries_to slots d a (upto - a)) y ≡ scan (entries_to slots d e (upto - e)) x) → Entering slots d e upto x y a

pub data Leaving (slots : List Slot) (d e upto : ℕ) (x y : Progress) (a : ℕ) : Type 0 where
  behind : (e ≤ upto → e ≤ a) → (upto ≤ e → upto ≤ a) → (Tallied (emit_of x).qubits slots → y ≡ scan (reverse (entries_to slots d a (upto - a))) x) →
      Leaving slots d e upto x y a

-- so far the qubits are as many as they were
qubits_stay : (es fs : List Event) (x y : Progress) → scan es y ≡ scan fs x → (emit_of y).qubits ≡ (emit_of x).qubits
qubits_stay es fs x y e = sym (scan_qubits es y) ∙ ap (λ (s : Progress). (emit_of s).qubits) e ∙ scan_qubits fs x

module _ (slots : List Slot) (d e upto : ℕ) (x : Progress) where
  no_entries : (a : ℕ) → upto ≤ a → entries_to slots d a (upto - a) ≡ []
  unfolding entries_to
  no_entries a h = rw (spent upto a h)

  one_entry : (a : ℕ) → a < upto → entries_to slots d a (upto - a) ≡ entry_at slots d a ++ entries_to slots d (a + 1) (upto - (a + 1))
  unfolding entries_to
  one_entry a h = rw (further upto a h)

  pub entering_starts : Entering slots d e upto x x e
  entering_starts = still (λ T. refl)

  pub entering_next : (y z : Progress) (a : ℕ) → a < upto → Enters slots (turned false (entry_at slots d a)) y z → Entering slots d e upto x y a →
      Entering slots d e upto x z (a + 1)
  entering_next y z a h (scans_entries put) (still p) = still (λ T.
      let q = p T in
      let same = qubits_stay (entries_to slots d a (upto - a)) (entries_to slots d e (upto - e)) x y q in
      rw (put (rw same T))
      (sym (scan_append (entry_at slots d a) (entries_to slots d (a + 1) (upto - (a + 1))) y) ∙ sym (ap (λ es. scan es y) (one_entry a h)) ∙ q))

  pub leaving_starts : Leaving slots d e upto x x upto
  leaving_starts = behind (λ h. h) (λ h. le_refl upto) (λ T. scan_nothing x ∙ sym (ap (λ es. scan (reverse es) x) (no_entries upto (le_refl upto))))

  pub leaving_next : (y z : Progress) (a : ℕ) → e < a → a ≤ upto → Enters slots (turned true (entry_at slots d (a - 1))) y z → Leaving slots d e upto x y a →
      Leaving slots d e upto x z (a - 1)
  leaving_next y z a some h (scans_entries put) (behind f g p) = behind (λ k. omega arith) (λ k. omega arith) (λ T.
      let E = entry_at slots d (a - 1) in
      let R = entries_to slots d a (upto - a) in
      let back : a - 1 + 1 ≡ a = omega arith in
      let q = p T in
      let same = ap (λ (s : Progress). (emit_of s).qubits) q ∙ scan_qubits (reverse R) x in
      rw (one_entry (a - 1) (omega arith), back, reverse-append E R, scan_append (reverse R) (reverse E) x, ← q) (put (rw same T)))

  module _ (y : Progress) (a : ℕ) (reversed : Bool) where
    pub entering_ends : reversed ≡ false → upto ≤ a → Entering slots d e upto x y a → Enters slots (turned reversed (entries_to slots d e (upto - e))) x y
    entering_ends t h (still p) = scans_entries (λ T. rw t (scan_nothing y ∙ sym (ap (λ es. scan es y) (no_entries a h)) ∙ p T))

    pub leaving_ends : reversed ≡ true → a ≤ e → Leaving slots d e upto x y a → Enters slots (turned reversed (entries_to slots d e (upto - e))) x y
    leaving_ends t h (behind f g p) = scans_entries (λ T. rw t (by_lt e upto
        (λ lt. let z : a ≡ e = omega (arith, f) in rw z at (p T))
        (λ le. p T ∙ ap (λ es. scan (reverse es) x) (no_entries a (g le) ∙ sym (no_entries e le)))))

pub ruleset entering = (rules, entering_starts, entering_next, entering_ends, leaving_starts, leaving_next, leaving_ends)

-- where each slot has the length of its list, they are the entry gates of the calls to its pair
module _ (slots : List Slot) {n : ℕ} (T : Tallied n slots) (d : ℕ) where
  -- two slots of one number are of one pair
  pair_is : (e : ℕ) → is_of (slot_list_length slots d) (slot_procedure slots d) (slot_of slots e) ≡ eqb (precedence_in slots e) (precedence_in slots d)
  unfolding slot_of
  pair_is e = same_test (is_of (slot_list_length slots d) (slot_procedure slots d) (slot_of slots e)) (eqb (precedence_in slots e) (precedence_in slots d))
      (λ h.
      let t = is_of_lem (slot_list_length slots d) (slot_procedure slots d) (slot_of slots e) h in
      eq-eqb (precedence_in slots e) (precedence_in slots d) (one_number (precedence_in slots e) (precedence_in slots d) (T.lengths e ∙ t.0) t.1))
      (λ h.
      let t = two_numbers (precedence_in slots e) (precedence_in slots d) (eqb-true (precedence_in slots e) (precedence_in slots d) h) in
      of_is (slot_list_length slots d) (slot_procedure slots d) (slot_of slots e) (sym (T.lengths e) ∙ t.0) t.1)
    where
      one_number : (v w : ℕ) → v / 256 ≡ w / 256 → 255 - v % 256 ≡ 255 - w % 256 → v ≡ w
      one_number v w h i = omega arith

      two_numbers : (v w : ℕ) → v ≡ w → (v / 256 ≡ w / 256) × (255 - v % 256 ≡ 255 - w % 256)
      two_numbers v w h = (omega arith, omega arith)

  pub entries_are : (e k : ℕ) →
      entries_to slots d e k ≡ all_entry_gates (slot_of slots d) (calls_to (slot_list_length slots d) (slot_procedure slots d) (held_in slots e k))
  unfolding held_in calls_to all_entry_gates entry_at entries_to
  entries_are e zero = refl
  entries_are e (suc k) = by_bool (eqb (precedence_in slots e) (precedence_in slots d))
      (λ t. rw (t, calls_here (slot_list_length slots d) (slot_procedure slots d) (slot_of slots e) (held_in slots (e + 1) k) (pair_is e ∙ t))
      (ap (λ es. entry_gates (slot_of slots d) (slot_of slots e) ++ es) (entries_are (e + 1) k)))
      (λ t. rw (t, calls_past (slot_list_length slots d) (slot_procedure slots d) (slot_of slots e) (held_in slots (e + 1) k) (pair_is e ∙ t))
      (entries_are (e + 1) k))
