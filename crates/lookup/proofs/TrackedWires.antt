-- Where the qubits are after some swaps, and that the lookup names it: when it is built, and after each swap.
use mathlib.Core.Path.{◌≡◌, refl, sym, ap, ◌∙◌}
use mathlib.Core.Logic.{◌≢◌}
use mathlib.Core.List.{List, [], ◌∷◌, ◌++◌}
use Prim.Native.Nat.{ℕ, zero, suc, ◌≤◌}
use native.Mathlib.Omega.{arith}
use borrow.Author.Tests.{eq-eqb, ne_eqb}
use lib.ListN.{length-set}
use lib.Seq.{get_or-set_same, get_or-set_other}
use Rattle.model.specs.Limits.{most_wires}
use Rattle.model.specs.Meaning.{State}
use Rattle.model.specs.Gates.{no_controls, Gate, swap_of, exchange, renamed, acts}
use Rattle.model.proofs.BooleanLaws.{by_eq}
use Rattle.model.proofs.GateLaws.{exchange_left, exchange_right, exchange_other, exchange_twice, fires_none, swap_of_fires}
use Rattle.lookup.specs.declared.Lookup.{Lookup}
use Rattle.lookup.specs.Entries.{wire_at, qubit_at, Sized, touched, kept, empty, built, pushed, tracked}
use Rattle.lookup.specs.Plans.{holder, held, Inside, Names}

-- one swap more
pub holder_next : (ps : List (ℕ × ℕ)) (u v q : ℕ) → holder (ps ++ ((u, v) ∷ [])) q ≡ exchange u v (holder ps q)
unfolding holder
holder_next [] u v q = refl
holder_next (p ∷ ps) u v q = holder_next ps u v (exchange p.0 p.1 q)

held_next : (ps : List (ℕ × ℕ)) (u v w : ℕ) → held (ps ++ ((u, v) ∷ [])) w ≡ held ps (exchange u v w)
unfolding held
held_next [] u v w = refl
held_next (p ∷ ps) u v w = ap (exchange p.0 p.1) (held_next ps u v w)

-- a wire holds the qubit that it holds, and a qubit is held by the wire that holds it
holder_held : (ps : List (ℕ × ℕ)) (w : ℕ) → holder ps (held ps w) ≡ w
unfolding holder held
holder_held [] w = refl
holder_held (p ∷ ps) w = rw (exchange_twice p.0 p.1 (held ps w)) (holder_held ps w)

held_holder : (ps : List (ℕ × ℕ)) (q : ℕ) → held ps (holder ps q) ≡ q
unfolding holder held
held_holder [] q = refl
held_holder (p ∷ ps) q = rw (held_holder ps (exchange p.0 p.1 q)) (exchange_twice p.0 p.1 q)

-- so `holder` is what gates do: after the swaps, what stood on a qubit's own wire stands on the wire that holds it
unfoldable pub swapped : List (ℕ × ℕ) → List Gate
swapped [] = []
swapped (p ∷ ps) = swap_of no_controls p.0 p.1 ∷ swapped ps

pub holder_holds : (ps : List (ℕ × ℕ)) (s : State) (q : ℕ) → acts (swapped ps) s (holder ps q) ≡ s q
unfolding holder acts renamed swapped
holder_holds [] s q = refl
holder_holds (p ∷ ps) s q =
    let to = exchange p.0 p.1 q in
    ap (λ (t : State). acts (swapped ps) t (holder ps to)) (swap_of_fires no_controls p.0 p.1 s (fires_none s))
    ∙ (holder_holds ps (renamed (exchange p.0 p.1) s) to ∙ ap s (exchange_twice p.0 p.1 q))

-- swaps of the first wires leave the qubits on them
exchange_inside : (last u v w : ℕ) → u ≤ last → v ≤ last → w ≤ last → exchange u v w ≤ last
exchange_inside last u v w hu hv hw = by_eq w u
    (λ e. rw (e, exchange_left u v) hv)
    (λ nu. by_eq w v
    (λ e. rw (e, exchange_right u v) hu)
    (λ nv. rw (exchange_other u v w nu nv) hw))

inside_none : (last : ℕ) → Inside last []
unfolding holder held
inside_none last = record { wires = λ q h. h; qubits = λ w h. h }

inside_next : (last : ℕ) (ps : List (ℕ × ℕ)) (u v : ℕ) → u ≤ last → v ≤ last → Inside last ps → Inside last (ps ++ ((u, v) ∷ []))
inside_next last ps u v hu hv I = record {
  wires = λ q h. rw (holder_next ps u v q) (exchange_inside last u v (holder ps q) hu hv (I.wires q h));
  qubits = λ w h. rw (held_next ps u v w) (I.qubits (exchange u v w) (exchange_inside last u v w hu hv h));
}

-- a qubit put on a wire: what the entries say of these two, and of all others
kept_sized : (l : Lookup) (q w : ℕ) → Sized l → Sized (kept l q w)
unfolding kept
kept_sized l q w S = record { wires = length-set l.wires q w ∙ S.wires; qubits = length-set l.qubits w q ∙ S.qubits }

module _ (l : Lookup) (q w : ℕ) where
  wire_same : Sized l → q ≤ most_wires → wire_at (kept l q w) q ≡ w
  unfolding kept
  wire_same S h = get_or-set_same l.wires q w 0 (omega (arith, S.wires))

  wire_other : (x : ℕ) → x ≢ q → wire_at (kept l q w) x ≡ wire_at l x
  unfolding kept
  wire_other x n = get_or-set_other l.wires q x w 0 n

  qubit_same : Sized l → w ≤ most_wires → qubit_at (kept l q w) w ≡ q
  unfolding kept
  qubit_same S h = get_or-set_same l.qubits w q 0 (omega (arith, S.qubits))

  qubit_other : (y : ℕ) → y ≢ w → qubit_at (kept l q w) y ≡ qubit_at l y
  unfolding kept
  qubit_other y n = get_or-set_other l.qubits w y q 0 n

-- a lookup that was sized and in which 0 is no qubit and no wire, as it is built: each qubit on its own wire
module _ (l : Lookup) (sized : Sized l) (none : wire_at l 0 ≡ 0) (no_qubit : qubit_at l 0 ≡ 0) where
  built_sized : (last : ℕ) → Sized (built l last)
  unfolding built
  built_sized zero = sized
  built_sized (suc last) = kept_sized (built l last) (suc last) (suc last) (built_sized last)

  built_wire : (last q : ℕ) → last ≤ most_wires → q ≤ last → wire_at (built l last) q ≡ q
  unfolding built
  built_wire zero q h k = let e : q ≡ 0 = omega arith in rw e none
  built_wire (suc last) q h k = by_eq q (suc last)
      (λ e. rw e (wire_same (built l last) (suc last) (suc last) (built_sized last) h))
      (λ n. wire_other (built l last) (suc last) (suc last) q n ∙ built_wire last q (omega arith) (omega arith))

  built_qubit : (last w : ℕ) → last ≤ most_wires → w ≤ last → qubit_at (built l last) w ≡ w
  unfolding built
  built_qubit zero w h k = let e : w ≡ 0 = omega arith in rw e no_qubit
  built_qubit (suc last) w h k = by_eq w (suc last)
      (λ e. rw e (qubit_same (built l last) (suc last) (suc last) (built_sized last) h))
      (λ n. qubit_other (built l last) (suc last) (suc last) w n ∙ built_qubit last w (omega arith) (omega arith))

  pub names_built : (last : ℕ) → last ≤ most_wires → Names last (built l last) []
  unfolding holder held
  names_built last h = record {
    wires = λ q k. built_wire last q h k;
    qubits = λ w k. built_qubit last w h k;
    inside = inside_none last;
    sized = built_sized last;
  }

-- so one that was empty
pub names_begun : (last : ℕ) → last ≤ most_wires → Names last (built empty last) []
unfolding empty
names_begun = names_built empty (record { wires = refl; qubits = refl }) refl refl

-- a lookup after one swap more: qubit q goes to wire `to`, and the qubit that it pushes away to the wire where q was
module _ (last : ℕ) (l : Lookup) (ps : List (ℕ × ℕ)) (q from to : ℕ) (few : last ≤ most_wires) (N : Names last l ps) (hq : q ≤ last) (ht : to ≤ last) (is : from ≡ wire_at l q) (apart : from ≢ to) where
  holds_q : from ≡ holder ps q
  holds_q = is ∙ N.wires q hq

  low : from ≤ last
  low = rw holds_q (N.inside.wires q hq)

  abbrev other : ℕ
  other = qubit_at l to

  is_other : other ≡ held ps to
  is_other = N.qubits to ht

  other_low : other ≤ last
  other_low = rw is_other (N.inside.qubits to ht)

  other_there : holder ps other ≡ to
  other_there = rw is_other (holder_held ps to)

  first_kept : Sized (kept l q to)
  first_kept = kept_sized l q to N.sized

  abbrev after : Lookup
  after = kept (kept l q to) other from

  pushed_wire : (x : ℕ) → x ≤ last → wire_at after x ≡ exchange from to (holder ps x)
  pushed_wire x h = by_eq x other
      (λ e. rw (e, other_there, exchange_right from to) (wire_same (kept l q to) other from first_kept (omega (arith, other_low))))
      (λ n. wire_other (kept l q to) other from x n
      ∙ by_eq x q
      (λ e. rw (e, ← holds_q, exchange_left from to) (wire_same l q to N.sized (omega arith)))
      (λ m. wire_other l q to x m ∙ N.wires x h
      ∙ sym (exchange_other from to (holder ps x)
      (λ e. m (sym (held_holder ps x) ∙ ap (held ps) (e ∙ holds_q) ∙ held_holder ps q))
      (λ e. n (sym (held_holder ps x) ∙ ap (held ps) e ∙ sym is_other)))))

  pushed_qubit : (w : ℕ) → w ≤ last → qubit_at after w ≡ held ps (exchange from to w)
  pushed_qubit w h = by_eq w from
      (λ e. rw (e, exchange_left from to) (qubit_same (kept l q to) other from first_kept (omega (arith, low)) ∙ is_other))
      (λ n. qubit_other (kept l q to) other from w n
      ∙ by_eq w to
      (λ e. rw (e, exchange_right from to, holds_q) (qubit_same l q to N.sized (omega arith) ∙ sym (held_holder ps q)))
      (λ m. qubit_other l q to w m ∙ N.qubits w h ∙ ap (held ps) (sym (exchange_other from to w n m))))

  names_after : Names last after (ps ++ ((from, to) ∷ []))
  names_after = record {
    wires = λ x h. pushed_wire x h ∙ sym (holder_next ps from to x);
    qubits = λ w h. pushed_qubit w h ∙ sym (held_next ps from to w);
    inside = inside_next last ps from to low ht N.inside;
    sized = kept_sized (kept l q to) other from first_kept;
  }

-- entries that are read and counted stay
names_touched : (last : ℕ) (l : Lookup) (ps : List (ℕ × ℕ)) (entries : ℕ) → Names last l ps → Names last (touched l entries) ps
names_touched last l ps entries N = record {
  wires = N.wires;
  qubits = N.qubits;
  inside = N.inside;
  sized = record { wires = N.sized.wires; qubits = N.sized.qubits };
}

-- after one k the lookup names the wires again
module _ (last : ℕ) (l : Lookup) (ps : List (ℕ × ℕ)) (q to : ℕ) (few : last ≤ most_wires) (N : Names last l ps) (hq : q ≤ last) (ht : to ≤ last) where
  pub names_stays : wire_at l q ≡ to → Names last (tracked l q to) ps
  unfolding tracked
  names_stays e = rw (eq-eqb (wire_at l q) to e) (names_touched last l ps 1 N)

  pub names_goes : (wire_at l q ≢ to) → Names last (tracked l q to) (ps ++ ((wire_at l q, to) ∷ []))
  unfolding tracked pushed
  names_goes n = rw (ne_eqb (wire_at l q) to n)
      (names_after last (touched (touched l 1) 1) ps q (wire_at l q) to few (names_touched last (touched l 1) ps 1 (names_touched last l ps 1 N)) hq ht refl n)
