-- What holds of a run: closed wires and wires outside the list stay, a flip outside commutes, a renaming commutes; a statement that does not
-- fault is safe, and stays safe where less is closed. Each is stated for any account of calls, then for calls followed as deep as some fuel.
use mathlib.Core.Path.{◌≡◌, refl, sym, ap, ◌∙◌, fun_ext}
use mathlib.Core.Bool.{Bool, true, false, not, ◌||◌}
use mathlib.Core.List.{List, [], ◌∷◌, map}
use Prim.Native.Nat.{ℕ, zero, suc}
use lib.ListN.{length-map}
use Rattle.model.specs.Syntax.{Number, Statement, skip, NOT, sequence, if, qcase, call, Program, body}
use Rattle.model.specs.Lists.{remaining, touched, holds, member}
use Rattle.model.specs.Faults.{CallFaults, call_faults, touch_faults, faults, call_faults_within}
use Rattle.model.specs.Meaning.{State, flipped, CallDoes, call_does, does, call_does_within}
use Rattle.model.specs.Gates.{Controls, renamed, fires}
use Rattle.model.proofs.BooleanLaws.{by_bool, by_eq, clash, not_true_false, or-false, or_false_left, or_false_right}
use Rattle.model.proofs.ListLaws.{member_head, member_tail, member_cases, member_skip, member_differs, not_head, not_tail, Off, touched_member}
use Rattle.model.proofs.ListLaws.{touched_off, touched_map, holds_same, remaining_off, remaining_map, remaining_subset}
use Rattle.model.proofs.GateLaws.{flipped_same, flipped_other, renamed_at, fires_same}
use Rattle.model.proofs.EnoughFuel.{does_yes, does_no, does_zero, does_one, faults_yes, faults_no}
use Rattle.agreement.proofs.ProgramFacts.{Safely, SafeCall, Safe, Keeps, Stays, Outside, Renames, Same, Less, Weakens, AskedIn}

-- the calls that do not fault
abbrev pub NoFault : CallFaults → Safely
NoFault o = λ f l C. o f l C ≡ false

module _ (o : CallFaults) where
  safe_call_of : (f : ℕ) (l C : List ℕ) → call_faults o f l C ≡ false → SafeCall (NoFault o) f l C
  unfolding call_faults
  safe_call_of f [] C h = tt
  safe_call_of f (q ∷ l) C h = h

  -- what does not fault is safe
  pub safe_of : (s : Statement) (l C : List ℕ) → faults o s l C ≡ false → Safe (NoFault o) s l C
  unfolding faults
  safe_of skip l C h = tt
  safe_of (NOT rs a) l C h = h
  safe_of (sequence s t) l C h =
      (safe_of s l C (or_false_left (faults o s l C) (faults o t l C) h), safe_of t l C (or_false_right (faults o s l C) (faults o t l C) h))
  safe_of (if c s t) l C h = by_bool (holds c l)
      (λ e. rw e (safe_of s l C (rw (faults_yes o c s t l C e) at h)))
      (λ e. rw e (safe_of t l C (rw (faults_no o c s t l C e) at h)))
  safe_of (qcase rs a s t) l C h =
      let q = touched rs a l in
      let x : Bool = faults o s l (q ∷ C) in
      let y : Bool = faults o t l (q ∷ C) in
      let branches : x || y ≡ false = or_false_right (touch_faults q C) (x || y) h in
      (or_false_left (touch_faults q C) (x || y) h, safe_of s l (q ∷ C) (or_false_left x y branches), safe_of t l (q ∷ C) (or_false_right x y branches))
  safe_of (call rs f) l C h = safe_call_of f (remaining rs l) C h

  no_fault_call : (f : ℕ) (l C : List ℕ) → SafeCall (NoFault o) f l C → call_faults o f l C ≡ false
  unfolding call_faults
  no_fault_call f [] C h = refl
  no_fault_call f (q ∷ l) C h = h

  -- what is safe does not fault
  no_fault : (s : Statement) (l C : List ℕ) → Safe (NoFault o) s l C → faults o s l C ≡ false
  unfolding faults
  no_fault skip l C h = refl
  no_fault (NOT rs a) l C h = h
  no_fault (sequence s t) l C h = or-false (faults o s l C) (faults o t l C) (no_fault s l C h.0) (no_fault t l C h.1)
  no_fault (if c s t) l C h = by_bool (holds c l)
      (λ e. rw (faults_yes o c s t l C e) (no_fault s l C (rw e at h)))
      (λ e. rw (faults_no o c s t l C e) (no_fault t l C (rw e at h)))
  no_fault (qcase rs a s t) l C h =
      let q = touched rs a l in
      let x : Bool = faults o s l (q ∷ C) in
      let y : Bool = faults o t l (q ∷ C) in
      or-false (touch_faults q C) (x || y) h.0 (or-false x y (no_fault s l (q ∷ C) h.1) (no_fault t l (q ∷ C) h.2))
  no_fault (call rs f) l C h = no_fault_call f (remaining rs l) C h

-- calls, empty lists among them, keep closed wires
call_does_keeps : (o : CallDoes) (G : Safely) → Keeps o G → (f : ℕ) (l C : List ℕ) (s : State) (w : ℕ) → SafeCall G f l C → member w C ≡ true →
    call_does o f l s w ≡ s w
unfolding call_does
call_does_keeps o G K f [] C s w h m = refl
call_does_keeps o G K f (q ∷ l) C s w h m = K f (q ∷ l) C s w h m

module _ (o : CallDoes) (G : Safely) (K : Keeps o G) where
  -- a safe statement leaves closed wires alone
  pub does_keeps : (t : Statement) (l C : List ℕ) (s : State) (w : ℕ) → Safe G t l C → member w C ≡ true → does o t l s w ≡ s w
  unfolding does
  does_keeps skip l C s w h m = refl
  does_keeps (NOT rs a) l C s w h m =
      let q = touched rs a l in flipped_other s q w (member_differs w q C m (not_tail q 0 C h))
  does_keeps (sequence t u) l C s w h m = does_keeps u l C (does o t l s) w h.1 m ∙ does_keeps t l C s w h.0 m
  does_keeps (if c t u) l C s w h m = by_bool (holds c l)
      (λ e. rw (does_yes o c t u l s e) (does_keeps t l C s w (rw e at h) m))
      (λ e. rw (does_no o c t u l s e) (does_keeps u l C s w (rw e at h) m))
  does_keeps (qcase rs a t u) l C s w h m =
      let q = touched rs a l in
      by_bool (s q)
      (λ e. rw (does_one o rs a t u l s e) (does_keeps u l (q ∷ C) s w h.2 (member_tail w q C m)))
      (λ e. rw (does_zero o rs a t u l s e) (does_keeps t l (q ∷ C) s w h.1 (member_tail w q C m)))
  does_keeps (call rs f) l C s w h m = call_does_keeps o G K f (remaining rs l) C s w h m

  -- controls that ask closed wires fire after a safe statement as before
  pub fires_does : (t : Statement) (l C : List ℕ) (cs : Controls) (s : State) → Safe G t l C → AskedIn C cs → fires cs (does o t l s) ≡ fires cs s
  fires_does t l C cs s h A = fires_same cs (does o t l s) s (λ w m. does_keeps t l C s w h (A w m))

-- so do calls that do not fault
pub keeps_within : (P : Program) (fuel : ℕ) → Keeps (call_does_within P fuel) (NoFault (call_faults_within P fuel))
unfolding call_does_within call_faults_within
keeps_within P zero f l C s w h m = refl
keeps_within P (suc fuel) f l C s w h m =
    does_keeps (call_does_within P fuel) (NoFault (call_faults_within P fuel)) (keeps_within P fuel) (body P f) l C s w
    (safe_of (call_faults_within P fuel) (body P f) l C h) m

-- calls, empty lists among them, leave outside wires alone
call_does_stays : (o : CallDoes) → Stays o → (f : ℕ) (l : List ℕ) (s : State) (w : ℕ) → Off w l → call_does o f l s w ≡ s w
unfolding call_does
call_does_stays o K f [] s w h = refl
call_does_stays o K f (q ∷ l) s w h = K f (q ∷ l) s w h

-- a statement leaves the wires outside its list alone
pub does_stays : (o : CallDoes) → Stays o → (t : Statement) (l : List ℕ) (s : State) (w : ℕ) → Off w l → does o t l s w ≡ s w
unfolding does
does_stays o K skip l s w h = refl
does_stays o K (NOT rs a) l s w h = flipped_other s (touched rs a l) w (touched_off rs a l w h)
does_stays o K (sequence t u) l s w h = does_stays o K u l (does o t l s) w h ∙ does_stays o K t l s w h
does_stays o K (if c t u) l s w h = by_bool (holds c l)
    (λ e. rw (does_yes o c t u l s e) (does_stays o K t l s w h))
    (λ e. rw (does_no o c t u l s e) (does_stays o K u l s w h))
does_stays o K (qcase rs a t u) l s w h = by_bool (s (touched rs a l))
    (λ e. rw (does_one o rs a t u l s e) (does_stays o K u l s w h))
    (λ e. rw (does_zero o rs a t u l s e) (does_stays o K t l s w h))
does_stays o K (call rs f) l s w h = call_does_stays o K f (remaining rs l) s w (remaining_off w rs l h)

-- so do calls
pub stays_within : (P : Program) (fuel : ℕ) → Stays (call_does_within P fuel)
unfolding call_does_within
stays_within P zero f l s w h = refl
stays_within P (suc fuel) f l s w h = does_stays (call_does_within P fuel) (stays_within P fuel) (body P f) l s w h

-- two flips commute
flipped_commutes : (u w : ℕ) (s : State) → flipped u (flipped w s) ≡ flipped w (flipped u s)
flipped_commutes u w s = fun_ext (λ k. by_eq k u
    (λ e. by_eq k w
    (λ e'. rw (sym e ∙ e'))
    (λ n. rw e (flipped_same (flipped w s) u ∙ ap not (flipped_other s w u (λ z. n (e ∙ z))) ∙
    sym (flipped_other (flipped u s) w u (λ z. n (e ∙ z)) ∙ flipped_same s u))))
    (λ n. by_eq k w
    (λ e. rw e (flipped_other (flipped w s) u w (λ z. n (e ∙ z)) ∙ flipped_same s w ∙
    sym (flipped_same (flipped u s) w ∙ ap not (flipped_other s u w (λ z. n (e ∙ z))))))
    (λ n'. flipped_other (flipped w s) u k n ∙ flipped_other s w k n' ∙ sym (flipped_other (flipped u s) w k n' ∙ flipped_other s u k n))))

call_does_outside : (o : CallDoes) → Outside o → (f : ℕ) (l : List ℕ) (s : State) (w : ℕ) → Off w l →
    call_does o f l (flipped w s) ≡ flipped w (call_does o f l s)
unfolding call_does
call_does_outside o K f [] s w h = refl
call_does_outside o K f (q ∷ l) s w h = K f (q ∷ l) s w h

-- a statement commutes with a flip outside its list
does_outside : (o : CallDoes) → Outside o → (t : Statement) (l : List ℕ) (s : State) (w : ℕ) → Off w l →
    does o t l (flipped w s) ≡ flipped w (does o t l s)
unfolding does
does_outside o K skip l s w h = refl
does_outside o K (NOT rs a) l s w h = flipped_commutes (touched rs a l) w s
does_outside o K (sequence t u) l s w h = rw (does_outside o K t l s w h) (does_outside o K u l (does o t l s) w h)
does_outside o K (if c t u) l s w h = by_bool (holds c l)
    (λ e. rw (does_yes o c t u l s e, does_yes o c t u l (flipped w s) e) (does_outside o K t l s w h))
    (λ e. rw (does_no o c t u l s e, does_no o c t u l (flipped w s) e) (does_outside o K u l s w h))
does_outside o K (qcase rs a t u) l s w h =
    let q = touched rs a l in
    let at : flipped w s q ≡ s q = flipped_other s w q (λ e. touched_off rs a l w h (sym e)) in
    by_bool (s q)
    (λ e. rw (does_one o rs a t u l s e, does_one o rs a t u l (flipped w s) (at ∙ e)) (does_outside o K u l s w h))
    (λ e. rw (does_zero o rs a t u l s e, does_zero o rs a t u l (flipped w s) (at ∙ e)) (does_outside o K t l s w h))
does_outside o K (call rs f) l s w h = call_does_outside o K f (remaining rs l) s w (remaining_off w rs l h)

-- so do calls
pub outside_within : (P : Program) (fuel : ℕ) → Outside (call_does_within P fuel)
unfolding call_does_within
outside_within P zero f l s w h = refl
outside_within P (suc fuel) f l s w h = does_outside (call_does_within P fuel) (outside_within P fuel) (body P f) l s w h

-- a flip, renamed
flipped_renamed : (π : ℕ → ℕ) → Renames π → (w : ℕ) (s : State) → flipped w (renamed π s) ≡ renamed π (flipped (π w) s)
unfolding renamed
flipped_renamed π R w s = fun_ext (λ k. by_eq k w
    (λ e. rw e (flipped_same (renamed π s) w ∙ sym (flipped_same s (π w))))
    (λ n. flipped_other (renamed π s) w k n ∙ sym (flipped_other s (π w) (π k) (λ e. n (R.one_to_one k w e)))))

module _ (π : ℕ → ℕ) (R : Renames π) (o : CallDoes) (K : Same π o) where
  call_does_renamed : (f : ℕ) (l : List ℕ) (s : State) → call_does o f l (renamed π s) ≡ renamed π (call_does o f (map π l) s)
  unfolding call_does
  call_does_renamed f [] s = refl
  call_does_renamed f (q ∷ l) s = K f (q ∷ l) s

  -- a statement commutes with a renaming, which changes its list
  does_renamed : (t : Statement) (l : List ℕ) (s : State) → does o t l (renamed π s) ≡ renamed π (does o t (map π l) s)
  unfolding does
  does_renamed skip l s = refl
  does_renamed (NOT rs a) l s = rw (touched_map π R.none rs a l) (flipped_renamed π R (touched rs a l) s)
  does_renamed (sequence t u) l s = rw (does_renamed t l s) (does_renamed u l (does o t (map π l) s))
  does_renamed (if c t u) l s =
      let at : holds c (map π l) ≡ holds c l = holds_same c (map π l) l (length-map l π) in
      by_bool (holds c l)
      (λ e. rw (does_yes o c t u l (renamed π s) e, does_yes o c t u (map π l) s (at ∙ e)) (does_renamed t l s))
      (λ e. rw (does_no o c t u l (renamed π s) e, does_no o c t u (map π l) s (at ∙ e)) (does_renamed u l s))
  does_renamed (qcase rs a t u) l s =
      let at : renamed π s (touched rs a l) ≡ s (touched rs a (map π l)) =
      renamed_at π s (touched rs a l) ∙ ap s (sym (touched_map π R.none rs a l)) in
      by_bool (s (touched rs a (map π l)))
      (λ e. rw (does_one o rs a t u l (renamed π s) (at ∙ e), does_one o rs a t u (map π l) s e) (does_renamed u l s))
      (λ e. rw (does_zero o rs a t u l (renamed π s) (at ∙ e), does_zero o rs a t u (map π l) s e) (does_renamed t l s))
  does_renamed (call rs f) l s = call_does_renamed f (remaining rs l) s ∙ ap (λ (m : List ℕ). renamed π (call_does o f m s)) (remaining_map π rs l)

-- so do calls
pub same_within : (π : ℕ → ℕ) → Renames π → (P : Program) (fuel : ℕ) → Same π (call_does_within P fuel)
unfolding call_does_within
same_within π R P zero f l s = refl
same_within π R P (suc fuel) f l s = does_renamed π R (call_does_within P fuel) (same_within π R P fuel) (body P f) l s

module _ (G : Safely) (K : Weakens G) where
  weaken_touch : (rs : List Number) (a : Number) (l C C' : List ℕ) → Less l C' C →
      touch_faults (touched rs a l) C ≡ false → touch_faults (touched rs a l) C' ≡ false
  weaken_touch rs a l C C' L h =
      let q = touched rs a l in
      member_skip q 0 C' (not_head q 0 C h) (not_true_false (member q C') (λ m. member_cases q 0 l (touched_member rs a l)
      (λ e. not_head q 0 C h e)
      (λ i. clash (L q i m) (not_tail q 0 C h))))

  less_cons : (x : ℕ) (l C C' : List ℕ) → Less l C' C → Less l (x ∷ C') (x ∷ C)
  less_cons x l C C' L w i m = member_cases w x C' m (λ e. rw e (member_head x C)) (λ m'. member_tail w x C (L w i m'))

  weaken_call : (f : ℕ) (l C C' : List ℕ) → Less l C' C → SafeCall G f l C → SafeCall G f l C'
  weaken_call f [] C C' L h = tt
  weaken_call f (q ∷ l) C C' L h = K f (q ∷ l) C C' L h

  -- a safe statement stays safe where no more wires of its list are closed
  pub safe_weaken : (t : Statement) (l C C' : List ℕ) → Less l C' C → Safe G t l C → Safe G t l C'
  safe_weaken skip l C C' L h = tt
  safe_weaken (NOT rs a) l C C' L h = weaken_touch rs a l C C' L h
  safe_weaken (sequence t u) l C C' L h = (safe_weaken t l C C' L h.0, safe_weaken u l C C' L h.1)
  safe_weaken (if c t u) l C C' L h = by_bool (holds c l)
      (λ e. rw e (safe_weaken t l C C' L (rw e at h)))
      (λ e. rw e (safe_weaken u l C C' L (rw e at h)))
  safe_weaken (qcase rs a t u) l C C' L h =
      let q = touched rs a l in (
        weaken_touch rs a l C C' L h.0,
        safe_weaken t l (q ∷ C) (q ∷ C') (less_cons q l C C' L) h.1,
        safe_weaken u l (q ∷ C) (q ∷ C') (less_cons q l C C' L) h.2,
      )
  safe_weaken (call rs f) l C C' L h = weaken_call f (remaining rs l) C C' (λ w i m. L w (remaining_subset rs l w i) m) h

-- so do calls that do not fault
pub weakens_within : (P : Program) (fuel : ℕ) → Weakens (NoFault (call_faults_within P fuel))
unfolding call_faults_within
weakens_within P zero f l C C' L h = h
weakens_within P (suc fuel) f l C C' L h =
    let o : CallFaults = call_faults_within P fuel in
    no_fault o (body P f) l C' (safe_weaken (NoFault o) (weakens_within P fuel) (body P f) l C C' L (safe_of o (body P f) l C h))
