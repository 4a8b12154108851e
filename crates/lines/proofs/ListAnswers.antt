-- The ways out of `list`: the result and the text are those of the listing that is asked for.
use mathlib.Core.Path.{◌≡◌}
use mathlib.Core.List.{List, ◌++◌}
use Prim.Native.Nat.{ℕ, ◌-◌, ◌/◌, ◌^◌, ◌≤◌, ◌<◌}
use native.Mathlib.Omega.{arith}
use mir.Syntax.{w8}
use mir.Val.{Fits}
use borrow.Author.Tests.{lt-leb, le-leb}
use lib.ListN.{length, get_or, drop}
use lib.Dec.{leb}
use Rattle.model.specs.Limits.{success, not_well_formed, no_room}
use Rattle.model.specs.Circuit.{whole_circuit}
use Rattle.model.specs.Answers.{Outcome, gives, refuses, after, require, well_formed, circuit_read, room_after}
use Rattle.model.specs.Listing.{listed, circuit_list}
use Rattle.answers.specs.Structs.{given_length, header_of}
use Rattle.circuit.specs.Header.{gates_after}
use Rattle.circuit.specs.declared.Header.{Header}
use Rattle.text.specs.AppendedBytes.{place_after}
use Rattle.lines.specs.ListingRows.{listing_read}
use Rattle.lines.proofs.CircuitListing.{listing_is}
use Rattle.lines.proofs.CircuitListingLength.{listed_within, listed_fits}

module _ (bs text : List ℕ) where
  abbrev o : Outcome (List ℕ)
  o = circuit_list bs (length text)

  -- no circuit
  module _ (e : refuses not_well_formed ≡ circuit_read bs) where
    bad : o ≡ refuses not_well_formed
    unfolding circuit_list after
    bad = rw (← e)

    pub bad_value : refuses not_well_formed ≡ given_length o
    unfolding after
    bad_value = rw (bad)

    pub bad_text : text ≡ room_after o text
    unfolding room_after
    bad_text = rw (bad)

  -- a circuit: its header and the bytes of its gates
  module _ (h : Header) (l : List ℕ) (whole : well_formed (whole_circuit h.qubits h.ancillas (gates_after h l)) ≡ circuit_read bs)
      (header : record { number = success; qubits = h.qubits; ancillas = h.ancillas; gates = h.gates } ≡ header_of (circuit_read bs)) where
    given : o ≡ require (leb (length (listing_read h l)) (length text)) no_room (gives (listing_read h l))
    unfolding circuit_list after
    given = let r = listing_is bs h l whole header in rw (r.1, r.2)

    listing_listed : listing_read h l ≡ listed (circuit_read bs)
    unfolding listed
    listing_listed = let r = listing_is bs h l whole header in rw (r.1, r.2)

    pub few_bytes : length (listing_read h l) < 2 ^ 64 - 1
    few_bytes = let few = listed_fits bs in rw listing_listed (omega arith)

    -- a text that is too short
    module _ (measured : ℕ) (is : measured ≡ place_after 0 (length (listing_read h l))) where
      module _ (less : length text < measured) where
        short : o ≡ refuses no_room
        unfolding require
        short = rw (given, lt-leb (length (listing_read h l)) (length text) (omega arith))

        pub short_value : refuses no_room ≡ given_length o
        unfolding after
        short_value = rw (short)

        pub short_text : text ≡ room_after o text
        unfolding room_after
        short_text = rw (short)

      -- one that takes the whole listing, as it was measured
      pub enough_measured : measured ≤ length text → length (listing_read h l) ≤ length text
      enough_measured m = let few = few_bytes in omega arith

    -- and without measuring, for a listing is at most six times as long as its circuit
    pub enough_surely : ((i : ℕ) → Fits w8 (get_or bs i 0)) → length bs ≤ length text / 6 → length (listing_read h l) ≤ length text
    enough_surely ok m =
        let r = listing_is bs h l whole header in
        let short = listed_within bs r.0 (λ i. (ok i).fits) r.1 in
        rw listing_listed (omega arith)

    module _ (enough : length (listing_read h l) ≤ length text) where
      long : o ≡ gives (listing_read h l)
      unfolding require
      long = rw (given, le-leb (length (listing_read h l)) (length text) enough)

      pub long_value : (last : ℕ) → last ≡ length (listing_read h l) → gives last ≡ given_length o
      unfolding after
      long_value last size = rw (long, size)

      pub long_text : (end : List ℕ) → end ≡ listing_read h l ++ drop (length (listing_read h l)) text → end ≡ room_after o text
      unfolding room_after
      long_text end front = rw (long, front)
