-- The ways out of the functions of the listing program.
use mathlib.Core.Path.{◌≡◌, refl, sym, ap, ◌∙◌}
use mathlib.Core.List.{List, [], ◌∷◌, ◌++◌}
use Prim.Native.Nat.{ℕ, ◌^◌, ◌≤◌, ◌<◌, min}
use native.Mathlib.Omega.{arith}
use lib.ListN.{length, take, drop, length-append}
use lib.Seq.{take_all, take-append_seam, length-take-le}
use Rattle.model.specs.Limits.{most_circuit, most_listing, least_workspace}
use Rattle.model.specs.Answers.{Outcome, gives, refuses, after, compile, room_after, circuit_read}
use Rattle.model.specs.Circuit.{Circuit}
use Rattle.model.specs.Listing.{decimal, newline, refusal_line, circuit_listing, listed, circuit_list, listing_of, listing}
use Rattle.model.proofs.DecimalDigits.{decimal_few}
use Rattle.model.proofs.BooleanLaws.{by_lt}
use Rattle.answers.specs.Structs.{given_length}
use Rattle.io.specs.Counts.{IsPrefixLen}
use Rattle.text.specs.Inputs.{BeginsWith}
use Rattle.listing.proofs.InputPrefix.{most_input, listing_read}
use Rattle.lines.proofs.CircuitListingLength.{never_short}

-- these bytes, in front of what a text was
abbrev InFront : List ℕ → List ℕ → List ℕ → ℕ → Type 0
InFront bytes text end last = (last ≡ length bytes) × (end ≡ bytes ++ drop last text)

-- a refusal's line is short, and stands in front of a text where its bytes do
pub line_short : (k : ℕ) → k < 2 ^ 32 → length (refusal_line k) ≤ most_listing
line_short k h = let digits = decimal_few 9 k (omega arith) in rw (length-append (decimal k) (newline ∷ [])) (omega arith)

pub line_front : (k : ℕ) (text end : List ℕ) (last : ℕ) → last ≡ length (refusal_line k) → end ≡ refusal_line k ++ drop (length (refusal_line k)) text →
    end ≡ refusal_line k ++ drop last text
line_front k text end last e p = rw e p

-- the ways out of `list_room`: the text is long enough, so what is refused is no circuit
module _ (bs text text₁ : List ℕ) (left : text₁ ≡ room_after (circuit_list bs (length text)) text) (long : length text ≡ most_listing) where
  abbrev listing_of_lem : Outcome Circuit → Outcome (List ℕ)
  listing_of_lem x = after x (λ c. gives (circuit_listing c))

  enough : circuit_list bs (length text) ≡ listing_of_lem (circuit_read bs)
  enough = never_short bs (length text) (omega arith)

  module _ (n : ℕ) (is : gives n ≡ given_length (circuit_list bs (length text))) where
    whole : InFront (listed (circuit_read bs)) text text₁ n
    unfolding after room_after listed
    whole = go (circuit_read bs) (rw enough at is) (rw enough at left)
      where
        go : (x : Outcome Circuit) → gives n ≡ given_length (listing_of_lem x) → text₁ ≡ room_after (listing_of_lem x) text → InFront (listed x) text text₁ n
        go (gives c) e t = let size : n ≡ length (circuit_listing c) = cc in (size, rw size t)
        go (refuses k) e t = let z : ◌≡◌ {A = ℕ} 0 1 = cc in absurd (omega arith)

    pub whole_count : n ≡ length (listed (circuit_read bs))
    whole_count = whole.0

    pub whole_text : text₁ ≡ listed (circuit_read bs) ++ drop n text
    whole_text = whole.1

  module _ (k r : ℕ) (is : refuses k ≡ given_length (circuit_list bs (length text))) (number : r ≡ k) (end : List ℕ) (last : ℕ)
      (count : last ≡ length (refusal_line r)) (front : end ≡ refusal_line r ++ drop last text₁) where
    refused : InFront (listed (circuit_read bs)) text end last
    unfolding after room_after listed
    refused = go (circuit_read bs) (rw enough at is) (rw enough at left)
      where
        go : (x : Outcome Circuit) → refuses k ≡ given_length (listing_of_lem x) → text₁ ≡ room_after (listing_of_lem x) text → InFront (listed x) text end last
        go (gives c) e t = let z : ◌≡◌ {A = ℕ} 0 1 = cc in absurd (omega arith)
        go (refuses j) e t = let j_is : k ≡ j = cc in let same : r ≡ j = number ∙ j_is in (rw same at count, rw (same, t) at front)

    pub refused_count : last ≡ length (listed (circuit_read bs))
    refused_count = refused.0

    pub refused_text : end ≡ listed (circuit_read bs) ++ drop last text
    refused_text = refused.1

-- bytes that a room begins with
front_is : (bytes rest room : List ℕ) (k : ℕ) → k ≡ length bytes → room ≡ bytes ++ rest → take k room ≡ bytes
front_is bytes rest room k e f = rw (e, f) (take-append_seam bytes rest)

-- the ways out of `list_table`, by what compile gave
module _ (bs room ws : List ℕ) (n : ℕ) (room₁ : List ℕ) (long : length room ≡ most_circuit) (enough : length ws ≡ least_workspace) where
  abbrev o : Outcome (List ℕ)
  o = compile bs n (length room) (length ws)

  listed_of : listing_of n bs ≡ listed (after o circuit_read)
  listed_of = rw (long, enough)

  module _ (k r : ℕ) (is : refuses k ≡ given_length o) (number : r ≡ k) (text end : List ℕ) (last : ℕ)
      (count : last ≡ length (refusal_line r)) (front : end ≡ refusal_line r ++ drop last text) where
    refusal : InFront (listing_of n bs) text end last
    unfolding after listed
    refusal = rw listed_of (go o is)
      where
        go : (x : Outcome (List ℕ)) → refuses k ≡ given_length x → InFront (listed (after x circuit_read)) text end last
        go (gives bytes) e = let z : ◌≡◌ {A = ℕ} 0 1 = cc in absurd (omega arith)
        go (refuses j) e = let j_is : k ≡ j = cc in let same : r ≡ j = number ∙ j_is in (rw same at count, rw same at front)

    pub refusal_count : last ≡ length (listing_of n bs)
    refusal_count = refusal.0

    pub refusal_text : end ≡ listing_of n bs ++ drop last text
    refusal_text = refusal.1

  -- the room begins with the circuit
  module _ (l : ℕ) (is : gives l ≡ given_length o) (left : room₁ ≡ room_after o room) where
    holds : (bytes : List ℕ) × (o ≡ gives bytes) × (l ≡ length bytes) × (room₁ ≡ bytes ++ drop (length bytes) room)
    unfolding after room_after
    holds = go o refl is left
      where
        go : (x : Outcome (List ℕ)) → o ≡ x → gives l ≡ given_length x → room₁ ≡ room_after x room →
            (bytes : List ℕ) × (o ≡ gives bytes) × (l ≡ length bytes) × (room₁ ≡ bytes ++ drop (length bytes) room)
        go (gives bytes) q e f = let size : l ≡ length bytes = cc in (bytes, q, size, f)
        go (refuses k) q e f = let z : ◌≡◌ {A = ℕ} 0 1 = cc in absurd (omega arith)

    pub table_room : length room₁ ≡ length room → l ≤ most_circuit
    table_room same =
        let h = holds in
        let e = ap length h.3 ∙ length-append h.0 (drop (length h.0) room) in
        let size = h.2 in
        omega arith

    lines : listed (circuit_read (take l room₁)) ≡ listing_of n bs
    unfolding after
    lines =
        let h = holds in
        let front = front_is h.0 (drop (length h.0) room) room₁ l h.2 h.3 in
        rw (listed_of, h.1, front)

    pub table_count : (last : ℕ) → last ≡ length (listed (circuit_read (take l room₁))) → last ≡ length (listing_of n bs)
    table_count last p = p ∙ ap length lines

    pub table_text : (text end : List ℕ) (last : ℕ) → end ≡ listed (circuit_read (take l room₁)) ++ drop last text →
        end ≡ listing_of n bs ++ drop last text
    table_text text end last p = p ∙ ap (λ (b : List ℕ). b ++ drop last text) lines

-- the ways out of `list`
pub some_input : (input : List ℕ) (n : ℕ) (table : List ℕ) → input ≡ n ∷ table → listing_of n table ≡ listing input
unfolding listing
some_input input n table e = rw e

pub no_input : (input : List ℕ) → length input ≡ 0 → listing_of 0 input ≡ listing input
unfolding listing
no_input [] e = refl
no_input (n ∷ table) e = absurd (omega arith)

module _ (bytes all text end : List ℕ) (last : ℕ) (same : bytes ≡ all) (count : last ≡ length bytes) (front : end ≡ bytes ++ drop last text) where
  pub input_count : last ≡ length all
  input_count = count ∙ ap length same

  pub input_text : end ≡ all ++ drop last text
  input_text = front ∙ ap (λ (b : List ℕ). b ++ drop last text) same

  -- as many bytes as were counted stand in the text
  pub input_counts : IsPrefixLen last end
  input_counts =
      let long = ap length front ∙ length-append bytes (drop last text) in
      (omega arith, sym (length-take-le last end (omega arith)))

-- the ways out of `list_read`, whose buffer takes all that is ever looked at: the bytes that were read, or the whole buffer where the count is past it
module _ (buffer text end : List ℕ) (count most used r : ℕ) (is : used ≡ min count most) (long : length buffer ≡ most) (enough : most_input ≤ most) where
  read_all : take used buffer ≡ take count buffer
  read_all = by_lt count most
      (λ l. let few : used ≡ count = omega arith in rw few)
      (λ l. rw (take_all used buffer (omega arith), take_all count buffer (omega arith)))

  pub read_count : r ≡ length (listing (take used buffer)) → (whole : List ℕ) → BeginsWith whole buffer count → r ≡ length (listing whole)
  read_count e whole h = (rw read_all at e) ∙ ap length (listing_read whole buffer count (omega arith) h)

  pub read_text : end ≡ listing (take used buffer) ++ drop r text → (whole : List ℕ) → BeginsWith whole buffer count →
      end ≡ listing whole ++ drop r text
  read_text e whole h = (rw read_all at e) ∙ ap (λ (bs : List ℕ). bs ++ drop r text) (listing_read whole buffer count (omega arith) h)
