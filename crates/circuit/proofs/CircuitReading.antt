-- The ways out of the reader of a header, and of the circuit reader.
use mathlib.Core.Path.{◌≡◌, refl, sym, ap, ◌∙◌}
use mathlib.Core.Bool.{Bool, true, false, ◌&&◌, false≢true}
use mathlib.Core.List.{List, [], ◌∷◌}
use Prim.Native.Nat.{ℕ, zero, suc, ◌+◌, ◌-◌, ◌*◌, ◌≤◌, ◌<◌}
use native.Mathlib.Omega.{arith}
use borrow.Author.Rules.{rules}
use borrow.Author.Tests.{ne_eqb, le-leb, lt-leb, not-true, not-false}
use lib.ListN.{length, get_or, take, drop}
use lib.Seq.{take_all}
use lib.Dec.{eqb, leb}
use Rattle.std.proofs.Common.{w32}
use Rattle.std.specs.Int.{from_le_bytes}
use Rattle.model.specs.Limits.{success, not_well_formed, most_qubits, most_wires, circuit_edition, header_length, most_circuit}
use Rattle.model.specs.Reading.{Input, Parsed, parsed, refused, and_then, provided, byte_of}
use Rattle.model.specs.Gates.{Gate}
use Rattle.model.specs.Circuit.{Circuit, read_gate, read_gates, four_byte_number, whole_circuit, circuit_of, read_circuit}
use Rattle.model.specs.Answers.{gives, refuses, well_formed, circuit_read}
use Rattle.circuit.specs.GatesInBytes.{input_of, fills}
use Rattle.circuit.specs.Header.{counts_fit}
use Rattle.answers.specs.Structs.{header_of, refused_header}
use Rattle.answers.specs.declared.CircuitHeader.{CircuitHeader}

-- a test in front of what is refused
provided_lacks : (b : Bool) (p : Parsed Circuit) → well_formed p ≡ refuses not_well_formed →
    well_formed (provided b not_well_formed p) ≡ refuses not_well_formed
unfolding provided well_formed
provided_lacks true p h = h
provided_lacks false p h = refl

-- two tests, one after the other
twice : {A : Type 0} (b c : Bool) (p : Parsed A) → provided b not_well_formed (provided c not_well_formed p) ≡ provided (b && c) not_well_formed p
unfolding provided
twice true c p = refl
twice false c p = refl

-- a circuit whose header is not all there
header_stops : (bs : List ℕ) → length bs < header_length → well_formed (circuit_of (input_of bs)) ≡ refuses not_well_formed
unfolding circuit_of four_byte_number byte_of and_then well_formed
header_stops [] h = refl
header_stops (e ∷ []) h = provided_lacks (eqb e circuit_edition) _ refl
header_stops (e ∷ n ∷ []) h = provided_lacks (eqb e circuit_edition) _ (provided_lacks (leb 1 n && leb n most_qubits) _ refl)
header_stops (e ∷ n ∷ a ∷ bs) h =
    provided_lacks (eqb e circuit_edition) _ (provided_lacks (leb 1 n && leb n most_qubits) _ (provided_lacks (leb (n + a) most_wires) _ (by bs (omega arith))))
  where
    by : (l : List ℕ) → length l < 4 → well_formed (and_then (four_byte_number (input_of l)) (λ count m. whole_circuit n a (read_gates (n + a) count m)))
        ≡ refuses not_well_formed
    by [] h = refl
    by (b ∷ []) h = refl
    by (b ∷ c ∷ []) h = refl
    by (b ∷ c ∷ d ∷ []) h = refl
    by (b ∷ c ∷ d ∷ f ∷ l) h = absurd (omega arith)

-- "4 bytes little-endian"
number_is : (a b c d : ℕ) → from_le_bytes w32 (a ∷ b ∷ c ∷ d ∷ []) ≡ a + 256 * b + 65536 * c + 16777216 * d
number_is a b c d = omega arith

-- a list of at least seven bytes
abbrev behind : List ℕ → List ℕ
behind bs = take (length bs - header_length) (drop header_length bs)

seven_first : (bs : List ℕ) → header_length ≤ length bs →
    bs ≡ get_or bs 0 0 ∷ get_or bs 1 0 ∷ get_or bs 2 0 ∷ get_or bs 3 0 ∷ get_or bs 4 0 ∷ get_or bs 5 0 ∷ get_or bs 6 0 ∷ behind bs
seven_first (e ∷ n ∷ a ∷ b ∷ c ∷ d ∷ f ∷ l) h =
    ap (λ x. e ∷ n ∷ a ∷ b ∷ c ∷ d ∷ f ∷ x) (sym (take_all (length (e ∷ n ∷ a ∷ b ∷ c ∷ d ∷ f ∷ l) - 7) l (omega arith)))
seven_first [] h = absurd (omega arith)
seven_first (e ∷ []) h = absurd (omega arith)
seven_first (e ∷ n ∷ []) h = absurd (omega arith)
seven_first (e ∷ n ∷ a ∷ []) h = absurd (omega arith)
seven_first (e ∷ n ∷ a ∷ b ∷ []) h = absurd (omega arith)
seven_first (e ∷ n ∷ a ∷ b ∷ c ∷ []) h = absurd (omega arith)
seven_first (e ∷ n ∷ a ∷ b ∷ c ∷ d ∷ []) h = absurd (omega arith)

-- the header's tests of at least 7 bytes, then the gates
tests : ℕ → ℕ → ℕ → ℕ → List ℕ → Parsed Circuit
tests e n a count l =
    provided (eqb e circuit_edition) not_well_formed (provided (leb 1 n && leb n most_qubits) not_well_formed
    (provided (leb (n + a) most_wires) not_well_formed (whole_circuit n a (read_gates (n + a) count (input_of l)))))

opened : (e n a b c d f : ℕ) (l : List ℕ) →
    circuit_of (input_of (e ∷ n ∷ a ∷ b ∷ c ∷ d ∷ f ∷ l)) ≡ tests e n a (from_le_bytes w32 (b ∷ c ∷ d ∷ f ∷ [])) l
unfolding circuit_of four_byte_number byte_of and_then tests
opened e n a b c d f l = rw (number_is b c d f)

-- the ways out of `read_header`
module _ (bs : List ℕ) where
  pub header_long : most_circuit < length bs → refuses not_well_formed ≡ circuit_read bs
  unfolding read_circuit provided well_formed
  header_long h = rw (lt-leb (length bs) most_circuit h)

  module _ (l : length bs ≤ most_circuit) where
    pub header_short : length bs < header_length → refuses not_well_formed ≡ circuit_read bs
    unfolding read_circuit provided
    header_short h = rw (le-leb (length bs) most_circuit l) (sym (header_stops bs h))

    module _ (h : header_length ≤ length bs) where
      read : read_circuit bs ≡ tests (get_or bs 0 0) (get_or bs 1 0) (get_or bs 2 0)
          (from_le_bytes w32 (get_or bs 3 0 ∷ get_or bs 4 0 ∷ get_or bs 5 0 ∷ get_or bs 6 0 ∷ [])) (behind bs)
      unfolding read_circuit provided
      read = rw (le-leb (length bs) most_circuit l) (ap (λ x. circuit_of (input_of x)) (seven_first bs h)
          ∙ opened (get_or bs 0 0) (get_or bs 1 0) (get_or bs 2 0) (get_or bs 3 0) (get_or bs 4 0) (get_or bs 5 0) (get_or bs 6 0) (behind bs))

      pub header_edition : (get_or bs 0 0 ≡ 1 → ⊥) → refuses not_well_formed ≡ circuit_read bs
      unfolding tests provided well_formed
      header_edition f = rw (read, ne_eqb (get_or bs 0 0) 1 f)

      module _ (e : get_or bs 0 0 ≡ 1) (good : Bool) (is : good ≡ counts_fit (get_or bs 1 0) (get_or bs 2 0)) where
        kept : read_circuit bs ≡ provided good not_well_formed (whole_circuit (get_or bs 1 0) (get_or bs 2 0)
            (read_gates (get_or bs 1 0 + get_or bs 2 0) (from_le_bytes w32 (get_or bs 3 0 ∷ get_or bs 4 0 ∷ get_or bs 5 0 ∷ get_or bs 6 0 ∷ []))
            (input_of (behind bs))))
        unfolding tests provided
        kept = rw (read, e, is) (twice (leb 1 (get_or bs 1 0) && leb (get_or bs 1 0) most_qubits) (leb (get_or bs 1 0 + get_or bs 2 0) most_wires) _)

        pub header_counts : good ≡ false → refuses not_well_formed ≡ circuit_read bs
        unfolding provided well_formed
        header_counts f = rw (kept, f)

        pub header_opened : good ≡ true → (count : ℕ) →
            count ≡ from_le_bytes w32 (get_or bs 3 0 ∷ get_or bs 4 0 ∷ get_or bs 5 0 ∷ get_or bs 6 0 ∷ []) →
            well_formed (whole_circuit (get_or bs 1 0) (get_or bs 2 0) (read_gates (get_or bs 1 0 + get_or bs 2 0) count (input_of (behind bs))))
            ≡ circuit_read bs
        unfolding provided
        header_opened f count q = rw (kept, f, q)

pub ruleset headers = (rules, not-true, not-false, header_long, header_short, header_edition, header_counts, header_opened)

-- what was read, if it was, are n gates
abbrev Counts : ℕ → Parsed (List Gate) → Type 0
Counts n (parsed gs i) = length gs ≡ n
Counts n (refused k) = Unit {0}

counts_front : (n : ℕ) (p : Parsed (List Gate)) (g : Gate) → Counts n p → Counts (suc n) (and_then p (λ gs i. parsed (g ∷ gs) i))
unfolding and_then
counts_front n (parsed gs i) g h = ap suc h
counts_front n (refused k) g h = tt

-- as many gates are read as were asked for
read_counts : (most n : ℕ) (i : Input) → Counts n (read_gates most n i)
unfolding read_gates and_then
read_counts most zero i = refl
read_counts most (suc n) i = each (read_gate most i) (λ j. read_counts most n j)
  where
    each : (p : Parsed Gate) → ((j : Input) → Counts n (read_gates most n j)) →
        Counts (suc n) (and_then p (λ g j. and_then (read_gates most n j) (λ gs k. parsed (g ∷ gs) k)))
    each (parsed g j) h = counts_front n (read_gates most n j) g (h j)
    each (refused k) h = tt

module _ (n ancillas : ℕ) where
  header_good : (count : ℕ) (p : Parsed (List Gate)) → Counts count p → fills p ≡ true →
      header_of (well_formed (whole_circuit n ancillas p)) ≡ record { number = success; qubits = n; ancillas = ancillas; gates = count }
  unfolding and_then provided fills well_formed header_of
  header_good count (parsed gs o) h e = rw (e, h)
  header_good count (refused k) h e = absurd (false≢true e)

  not_filled : (p : Parsed (List Gate)) → fills p ≡ false → refuses not_well_formed ≡ well_formed (whole_circuit n ancillas p)
  unfolding and_then provided fills well_formed
  not_filled (parsed gs o) e = rw e
  not_filled (refused k) e = refl

-- the ways out of `read_whole`
pub whole_none : (bs : List ℕ) → refuses not_well_formed ≡ circuit_read bs → refused_header not_well_formed ≡ header_of (circuit_read bs)
unfolding header_of
whole_none bs is = rw (← is)

module _ (bs : List ℕ) (n ancillas wires count : ℕ) (l : List ℕ)
    (is : well_formed (whole_circuit n ancillas (read_gates wires count (input_of l))) ≡ circuit_read bs)
    (good : Bool) (good_is : good ≡ fills (read_gates wires count (input_of l))) where
  pub whole_bad : good ≡ false → refuses not_well_formed ≡ circuit_read bs
  whole_bad g = not_filled n ancillas (read_gates wires count (input_of l)) (sym good_is ∙ g) ∙ is

  pub whole_good : good ≡ true → record { number = success; qubits = n; ancillas = ancillas; gates = count } ≡ header_of (circuit_read bs)
  whole_good g = rw (← is) (sym (header_good n ancillas count (read_gates wires count (input_of l))
      (read_counts wires count (input_of l)) (sym good_is ∙ g)))

-- number 0 says that there is a circuit
pub read_gives : (bs : List ℕ) (h : CircuitHeader) → h ≡ header_of (circuit_read bs) → h.number ≡ 0 → (c : Circuit) × (circuit_read bs ≡ gives c)
unfolding well_formed header_of
read_gives bs h e z = go (read_circuit bs) refl
  where
    go : (x : Parsed Circuit) → read_circuit bs ≡ x → (c : Circuit) × (circuit_read bs ≡ gives c)
    go (parsed c i) q = (c, rw q)
    go (refused k) q =
        let f : h ≡ header_of (well_formed (refused k)) = rw q at e in
        let n : ◌≡◌ {A = ℕ} not_well_formed 0 = sym (ap (λ (y : CircuitHeader). y.number) f) ∙ z in absurd (omega arith)
