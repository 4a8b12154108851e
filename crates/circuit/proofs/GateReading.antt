-- The ways out of the gate reader, and of the loop over the gates.
use mathlib.Core.Path.{◌≡◌, refl, sym, ap, ◌∙◌}
use mathlib.Core.Bool.{Bool, true, false}
use mathlib.Core.List.{List, [], ◌∷◌}
use Prim.Native.Nat.{ℕ, zero, suc, ◌+◌, ◌-◌, ◌≤◌, ◌<◌}
use native.Mathlib.Numerals.{sub-one}
use native.Mathlib.Omega.{arith}
use borrow.Author.Rules.{rules}
use borrow.Author.Tests.{lt-ltb, le-ltb, not-true, not-false}
use lib.ListN.{length, get_or, take, drop}
use lib.Seq.{take_all}
use lib.Dec.{eqb, ltb}
use Rattle.model.specs.Limits.{not_well_formed}
use Rattle.model.specs.Reading.{Input, Parsed, parsed, refused, and_then, provided, byte_of, optional, stands}
use Rattle.model.specs.Reading as reading
use Rattle.model.specs.Gates.{Gate, flip, swap}
use Rattle.model.specs.Circuit.{wire_list, gate_of, gate_is_well_formed, read_gate, read_gates}
use Rattle.model.proofs.BooleanLaws.{by_bool}
use Rattle.circuit.specs.GatesInBytes.{input_of, settled, fills, gate_checked, gate_written}
use Rattle.circuit.proofs.WireListReading.{length-zero}

-- what was read was parsed, and what was refused ends the reading
pub settled_parsed : {A : Type 0} (p : Parsed A) (a : A) (i : Input) → parsed a i ≡ settled p → p ≡ parsed a i
unfolding settled
settled_parsed (parsed b j) a i e = sym e
settled_parsed (refused k) a i e = let z : ◌≡◌ {A = ℕ} 0 1 = cc in absurd (omega arith)

pub settled_refused : {A B : Type 0} (p : Parsed A) (k : ℕ) (f : A → Input → Parsed B) → refused k ≡ settled p →
    refused not_well_formed ≡ settled (and_then p f)
unfolding settled and_then
settled_refused (parsed b j) k f e = let z : ◌≡◌ {A = ℕ} 0 1 = cc in absurd (omega arith)
settled_refused (refused n) k f e = refl

-- a list of at least two bytes
two_first : (bs : List ℕ) → 2 ≤ length bs → bs ≡ get_or bs 0 0 ∷ get_or bs 1 0 ∷ take (length bs - 2) (drop 2 bs)
two_first [] h = absurd (omega arith)
two_first (a ∷ []) h = absurd (omega arith)
two_first (a ∷ b ∷ bs) h = ap (λ l. a ∷ b ∷ l) (sym (take_all (suc (suc (length bs)) - 2) bs (omega arith)))

-- a gate behind its map, its target and the lists of its controls
abbrev after_zeros : ℕ → ℕ → List ℕ → List ℕ → Input → Parsed Gate
after_zeros map target ones zeros i = gate_of (stands 2 map) (record { ones = ones; zeros = zeros }) target i

abbrev after_ones : ℕ → ℕ → List ℕ → Input → Parsed Gate
after_ones map target ones i = and_then (optional (stands 1 map) wire_list [] i) (λ zeros j. after_zeros map target ones zeros j)

abbrev after_target : ℕ → ℕ → Input → Parsed Gate
after_target map target i = and_then (optional (stands 0 map) wire_list [] i) (λ ones j. after_ones map target ones j)

-- the ways out of `gate_at`
pub gate_lacks : (bs : List ℕ) → length bs < 2 → refused not_well_formed ≡ settled (gate_written (input_of bs))
unfolding settled gate_written byte_of and_then
gate_lacks [] h = refl
gate_lacks (a ∷ []) h = refl
gate_lacks (a ∷ b ∷ l) h = absurd (omega arith)

opened : (map target : ℕ) (l : List ℕ) →
    gate_written (input_of (map ∷ target ∷ l)) ≡ provided (ltb map 8) not_well_formed (after_target map target (input_of l))
unfolding gate_written byte_of and_then
opened map target l = refl

module _ (bs : List ℕ) (h : 2 ≤ length bs) where
  abbrev Settles : Parsed Gate → Type 0
  Settles p = p ≡ settled (gate_written (input_of bs))

  with_two : gate_written (input_of bs)
      ≡ provided (ltb (get_or bs 0 0) 8) not_well_formed (after_target (get_or bs 0 0) (get_or bs 1 0) (input_of (take (length bs - 2) (drop 2 bs))))
  with_two = ap (λ l. gate_written (input_of l)) (two_first bs h)
      ∙ opened (get_or bs 0 0) (get_or bs 1 0) (take (length bs - 2) (drop 2 bs))

  pub gate_map : 7 < get_or bs 0 0 → Settles (refused not_well_formed)
  unfolding settled provided
  gate_map k = rw (with_two, le-ltb (get_or bs 0 0) 8 (omega arith))

  module _ (k : get_or bs 0 0 ≤ 7) (b : Bool) (b_is : b ≡ stands 0 (get_or bs 0 0)) where
    with_map : gate_written (input_of bs) ≡ and_then (optional b wire_list [] (input_of (take (length bs - 2) (drop 2 bs))))
        (λ ones j. after_ones (get_or bs 0 0) (get_or bs 1 0) ones j)
    unfolding provided
    with_map = rw (with_two, lt-ltb (get_or bs 0 0) 8 (omega arith), b_is)

    pub gate_ones : refused not_well_formed ≡ settled (optional b wire_list [] (input_of (take (length bs - 2) (drop 2 bs)))) →
        Settles (refused not_well_formed)
    gate_ones e = rw with_map (settled_refused (optional b wire_list [] (input_of (take (length bs - 2) (drop 2 bs)))) not_well_formed
        (λ ones j. after_ones (get_or bs 0 0) (get_or bs 1 0) ones j) e)

    module _ (ones l : List ℕ) (p : parsed ones (input_of l) ≡ settled (optional b wire_list [] (input_of (take (length bs - 2) (drop 2 bs)))))
        (d : Bool) (d_is : d ≡ stands 1 (get_or bs 0 0)) where
      with_ones : gate_written (input_of bs) ≡ and_then (optional d wire_list [] (input_of l))
          (λ zeros j. after_zeros (get_or bs 0 0) (get_or bs 1 0) ones zeros j)
      unfolding and_then
      with_ones = rw (with_map, settled_parsed (optional b wire_list [] (input_of (take (length bs - 2) (drop 2 bs)))) ones (input_of l) p, d_is)

      pub gate_zeros : refused not_well_formed ≡ settled (optional d wire_list [] (input_of l)) → Settles (refused not_well_formed)
      gate_zeros e = rw with_ones (settled_refused (optional d wire_list [] (input_of l)) not_well_formed
          (λ zeros j. after_zeros (get_or bs 0 0) (get_or bs 1 0) ones zeros j) e)

      module _ (zeros m : List ℕ) (q : parsed zeros (input_of m) ≡ settled (optional d wire_list [] (input_of l)))
          (swaps : Bool) (swaps_is : swaps ≡ stands 2 (get_or bs 0 0)) where
        with_zeros : gate_written (input_of bs) ≡ gate_of swaps (record { ones = ones; zeros = zeros }) (get_or bs 1 0) (input_of m)
        unfolding and_then
        with_zeros = rw (with_ones, settled_parsed (optional d wire_list [] (input_of l)) zeros (input_of m) q, swaps_is)

        pub gate_flip : swaps ≡ false → Settles (parsed (flip (record { ones = ones; zeros = zeros }) (get_or bs 1 0)) (input_of m))
        unfolding settled gate_of
        gate_flip e = rw (with_zeros, e)

        pub gate_short : swaps ≡ true → length m ≡ 0 → Settles (refused not_well_formed)
        unfolding settled gate_of and_then byte_of
        gate_short e f = rw (with_zeros, e, length-zero m f)

        pub gate_swap : swaps ≡ true → (second : ℕ) (o : List ℕ) → m ≡ second ∷ o →
            Settles (parsed (swap (record { ones = ones; zeros = zeros }) (get_or bs 1 0) second) (input_of o))
        unfolding settled gate_of and_then byte_of
        gate_swap e second o f = rw (with_zeros, e, f)

pub ruleset gates = (rules, not-true, not-false, gate_lacks, gate_map, gate_ones, gate_zeros, gate_flip, gate_short, gate_swap)

-- reading in two steps: first this, then that
then_then : {A B C : Type 0} (p : Parsed A) (f : A → Input → Parsed B) (g : B → Input → Parsed C) (h : A → Input → Parsed C) →
    ((a : A) (i : Input) → h a i ≡ and_then (f a i) g) → and_then p h ≡ and_then (and_then p f) g
unfolding and_then
then_then (parsed a i) f g h e = e a i
then_then (refused k) f g h e = refl

provided_then : {A B : Type 0} (b : Bool) (k : ℕ) (p : Parsed A) (g : A → Input → Parsed B) →
    provided b k (and_then p g) ≡ and_then (provided b k p) g
unfolding and_then provided
provided_then true k p g = refl
provided_then false k p g = refl

-- document 01's gate is the gate as it is written, if it is well formed
pub read_is : (most : ℕ) (i : Input) → read_gate most i ≡ and_then (gate_written i) (λ g j. gate_checked most g j)
unfolding read_gate gate_written
read_is most i =
    then_then (reading.byte i) _ _ _ (λ map j. then_then (reading.byte j) _ _ _ (λ target k.
    ap (provided (ltb map 8) not_well_formed) (then_then (optional (stands 0 map) wire_list [] k) _ _ _ (λ ones l.
    then_then (optional (stands 1 map) wire_list [] l) _ _ _ (λ zeros m. refl))) ∙
    provided_then (ltb map 8) not_well_formed _ _))

-- so what was read as a gate is written there
pub read_written : (most : ℕ) (i j : Input) (g : Gate) → read_gate most i ≡ parsed g j → gate_written i ≡ parsed g j
unfolding and_then provided
read_written most i j g e = go (gate_written i) (rw (read_is most i) at e)
  where
    go : (p : Parsed Gate) → and_then p (λ h k. gate_checked most h k) ≡ parsed g j → p ≡ parsed g j
    go (parsed h k) f = by_bool (gate_is_well_formed most h)
        (λ b. rw b at f)
        (λ b. let z : refused not_well_formed ≡ parsed g j = rw b at f in let y : ◌≡◌ {A = ℕ} 0 1 = cc in absurd (omega arith))
    go (refused k) f = let z : ◌≡◌ {A = ℕ} 0 1 = cc in absurd (omega arith)

-- the ways out of `read_gate`
module _ (most : ℕ) (i : Input) where
  pub read_none : refused not_well_formed ≡ settled (gate_written i) → refused not_well_formed ≡ settled (read_gate most i)
  read_none e = rw (read_is most i) (settled_refused (gate_written i) not_well_formed (λ g j. gate_checked most g j) e)

  module _ (g : Gate) (j : Input) (p : parsed g j ≡ settled (gate_written i)) (good : Bool) (is : good ≡ gate_is_well_formed most g) where
    pub read_bad : good ≡ false → refused not_well_formed ≡ settled (read_gate most i)
    unfolding settled and_then provided
    read_bad e = rw (read_is most i, settled_parsed (gate_written i) g j p, ← is, e)

    pub read_good : good ≡ true → parsed g j ≡ settled (read_gate most i)
    unfolding settled and_then provided
    read_good e = rw (read_is most i, settled_parsed (gate_written i) g j p, ← is, e)

pub ruleset judged = (rules, not-true, not-false, read_none, read_bad, read_good)

fills_settled : {A : Type 0} (p : Parsed A) → fills (settled p) ≡ fills p
unfolding fills settled
fills_settled (parsed a i) = refl
fills_settled (refused k) = refl

-- a gate in front changes what was read, not whether it fills the bytes
fills_front : (p : Parsed (List Gate)) (g : Gate) → fills (and_then p (λ gs i. parsed (g ∷ gs) i)) ≡ fills p
unfolding fills and_then
fills_front (parsed gs i) g = refl
fills_front (refused k) g = refl

fills_more : (most left : ℕ) (i : Input) → 0 < left →
    fills (read_gates most left i) ≡ fills (and_then (read_gate most i) (λ g j. read_gates most (left - 1) j))
unfolding read_gates fills and_then
fills_more most zero i h = absurd (omega arith)
fills_more most (suc n) i h = rw (sub-one, read_gates) (each (read_gate most i))
  where
    each : (p : Parsed Gate) →
        fills (and_then p (λ g j. and_then (read_gates most n j) (λ gs k. parsed (g ∷ gs) k))) ≡ fills (and_then p (λ g j. read_gates most n j))
    each (parsed g j) = fills_front (read_gates most n j) g
    each (refused k) = refl

-- what the loop of `gates_fill` keeps: whether all the gates fill the input is whether those that are to come fill what is left
module _ (most count k : ℕ) (l : List ℕ) (whole : Bool) (inv : whole ≡ fills (read_gates most (count - k) (input_of l))) where
  pub fill_end : count ≤ k → (empty : Bool) → empty ≡ eqb (length l) 0 → empty ≡ whole
  unfolding read_gates fills
  fill_end h empty is = let z : count - k ≡ 0 = omega arith in rw (is, inv, z)

  module _ (h : k < count) where
    pub fill_bad : refused not_well_formed ≡ settled (read_gate most (input_of l)) → false ≡ whole
    unfolding fills
    fill_bad e =
        rw (
          inv,
          fills_more most (count - k) (input_of l) (omega arith),
          ← fills_settled (and_then (read_gate most (input_of l)) (λ g j. read_gates most (count - k - 1) j)),
          ← settled_refused (read_gate most (input_of l)) not_well_formed (λ g j. read_gates most (count - k - 1) j) e,
        )

    pub fill_next : (g : Gate) (o : List ℕ) → parsed g (input_of o) ≡ settled (read_gate most (input_of l)) →
        whole ≡ fills (read_gates most (count - (k + 1)) (input_of o))
    unfolding and_then
    fill_next g o e =
        let n : count - k - 1 ≡ count - (k + 1) = omega arith in
        rw (inv, fills_more most (count - k) (input_of l) (omega arith), settled_parsed (read_gate most (input_of l)) g (input_of o) e, n)

pub ruleset filled = (rules, fill_end, fill_bad, fill_next)
