-- The page of a circuit one band at a time: its bands make up the page, each but the last one says where the next one's gates stand, and how much of an input
-- is enough to know them.
use mathlib.Core.Path.{◌≡◌, refl, sym, ap, ◌∙◌}
use mathlib.Core.List.{List, [], ◌∷◌, ◌++◌, append_assoc, append-nil}
use Prim.Native.Nat.{ℕ, zero, suc, ◌+◌, ◌-◌, ◌/◌, ◌≤◌, ◌<◌, zero-le, suc-le-suc}
use native.Mathlib.Omega.{arith}
use borrow.Author.Tests.{eq-eqb, ne_eqb, le-leb, lt-leb, lt-ltb}
use lib.ListN.{length, take, drop, length-append, length-drop, drop_of_length-le}
use lib.Seq.{length-take-le, take_all, drop-append_seam, drop-drop}
use lib.Dec.{leb}
use Rattle.model.specs.Limits.{most_wires, most_circuit, header_length, not_well_formed}
use Rattle.model.specs.Reading.{Input, input_at, Parsed, parsed, refused, and_then, provided}
use Rattle.model.specs.Gates.{Gate}
use Rattle.model.specs.Circuit.{Circuit, encode, encode_all, write, read_gate, read_circuit}
use Rattle.model.specs.Answers.{gives, refuses, after, require, well_formed, circuit_read}
use Rattle.model.specs.Page.{band_gates, band, bands, page, paged, page_of, Band, read_band, place_of, drawn, header_wires, band_at, page_band}
use Rattle.model.proofs.BooleanLaws.{by_eq, by_lt}
use Rattle.model.proofs.OutcomeLaws.{not_both, gives_same, required, gave}
use Rattle.model.proofs.ReadingLaws.{Reads, reads_then, Anyhow}
use Rattle.model.proofs.RoundTrip.{left, AllWellFormed, read_encode, encode_length, encode_all_length, Spells, GateRead, reads_gate, Bytes}
use Rattle.model.proofs.RoundTrip.{formed_drop, write_gates, write_circuit_read}

-- The reader of a band.

-- it stops where no byte is left
pub band_end : (most k : ℕ) (i : Input) → length i.bytes ≡ 0 → read_band most k i ≡ parsed [] i
unfolding read_band
band_end most zero i e = refl
band_end most (suc k) i e = rw (eq-eqb (length i.bytes) 0 e, read_band)

-- and reads a gate, then others, where a byte is left
pub band_gate : (most k : ℕ) (i : Input) → (length i.bytes ≡ 0 → ⊥) →
    read_band most (suc k) i ≡ and_then (read_gate most i) (λ g j. and_then (read_band most k j) (λ gs l. parsed (g ∷ gs) l))
unfolding read_band
band_gate most k i n = rw (ne_eqb (length i.bytes) 0 n, read_band)

-- of the gates of a band that was read: they are no more than asked for, their bytes are those that were read, there is one where one may be read and
-- a byte stands, and all are well formed
abbrev BandRead : ℕ → ℕ → Input → List Gate → Input → Type 0
BandRead most k i gs j = (length gs ≤ k) × Spells i (encode_all gs) j × (0 < k → 0 < length i.bytes → 0 < length gs) × AllWellFormed most gs

-- what the reader of a band gives
reads_band : (most k : ℕ) (i : Input) → Reads (BandRead most k i) Anyhow (read_band most k i)
unfolding read_band encode_all
reads_band most zero i = (zero-le, refl, (λ some. absurd (omega arith)), tt)
reads_band most (suc k) i = by_eq (length i.bytes) 0
    (λ e. rw (band_end most (suc k) i e) (zero-le, refl, (λ some there. absurd (omega arith)), tt))
    (λ n. rw (band_gate most k i n)
    (reads_then (GateRead most i) (BandRead most (suc k) i) Anyhow (read_gate most i) _ (reads_gate most i) (λ g j q.
    reads_then (BandRead most k j) (BandRead most (suc k) i) Anyhow (read_band most k j) _ (reads_band most k j) (λ gs l r. (
      suc-le-suc r.0,
      q.1 ∙ ap (λ x. encode g ++ x) r.1 ∙ sym (append_assoc (encode g) (encode_all gs) l.bytes),
      (λ some there. suc-le-suc zero-le),
      (q.0, r.3),
    )))))

-- a band has no more gates than were asked for
pub band_most : (most k : ℕ) (i : Input) (gs : List Gate) (j : Input) → read_band most k i ≡ parsed gs j → length gs ≤ k
band_most most k i gs j e = (rw e at (reads_band most k i)).0

-- and they are well formed
pub band_formed : (most k : ℕ) (i : Input) (gs : List Gate) (j : Input) → read_band most k i ≡ parsed gs j → AllWellFormed most gs
band_formed most k i gs j e = (rw e at (reads_band most k i)).3

-- Going on behind a band.

-- nothing is left: there is no next place
pub place_end : (bytes : List ℕ) (i : Input) → length i.bytes ≡ 0 → place_of bytes i ≡ 0
place_end bytes i e = rw (eq-eqb (length i.bytes) 0 e, place_of)

-- bytes are left: the next place is where they begin
pub place_left : (bytes : List ℕ) (i : Input) → (length i.bytes ≡ 0 → ⊥) → place_of bytes i ≡ length bytes - length i.bytes
place_left bytes i n = rw (ne_eqb (length i.bytes) 0 n, place_of)

-- behind a band's gates, the next place is behind the first of them and before the end
place_advances : (bytes : List ℕ) (most at k : ℕ) (gs : List Gate) (j : Input) → 0 < k → BandRead most k (input_at bytes at 0) gs j →
    (place_of bytes j ≡ 0 → ⊥) → (at < place_of bytes j) × (place_of bytes j < length bytes)
place_advances bytes most at k gs j one r goes = by_eq (length j.bytes) 0
    (λ e. absurd (goes (place_end bytes j e)))
    (λ n.
    let from : length (drop at bytes) ≡ length bytes - at = length-drop at bytes in
    let whole : length (drop at bytes) ≡ length (encode_all gs) + length j.bytes = ap length r.1 ∙ length-append (encode_all gs) j.bytes in
    let some : 0 < length gs = r.2 one (omega arith) in
    let pairs = encode_all_length gs in
    rw (place_left bytes j n) (omega arith))

-- of a band that is drawn: the place of the next one
drawn_advances : (bytes : List ℕ) (most at k : ℕ) (x : Parsed (List Gate)) (b : Band) → 0 < k → Reads (BandRead most k (input_at bytes at 0)) Anyhow x →
    drawn bytes most x ≡ gives b → (b.next ≡ 0 → ⊥) → (at < b.next) × (b.next < length bytes)
unfolding drawn
drawn_advances bytes most at k (parsed gs j) b one r e goes =
    let is : place_of bytes j ≡ b.next = ap (λ (c : Band). c.next) (gives_same e) in
    rw is at (place_advances bytes most at k gs j one r (rw is goes))
drawn_advances bytes most at k (refused n) b one r e goes = not_both e

-- the same of the band at a place
band_advances : (bytes : List ℕ) (at : ℕ) (b : Band) → band_at bytes at ≡ gives b → (b.next ≡ 0 → ⊥) → (at < b.next) × (b.next < length bytes)
band_advances bytes at b e goes =
    let most = header_wires bytes in
    let x = read_band most band_gates (input_at bytes at 0) in
    drawn_advances bytes most at band_gates x b (omega arith) (reads_band most band_gates (input_at bytes at 0))
    (required (leb most most_wires) not_well_formed (drawn bytes most x) e).1 goes

-- whatever the bytes and the place: a band that is not the last one says a later place, and it lies before the end
pub next_advances : (bytes : List ℕ) (at : ℕ) (b : Band) → page_band bytes at ≡ gives b → (b.next ≡ 0 → ⊥) → (at < b.next) × (b.next < length bytes)
unfolding page_band
next_advances bytes zero b e goes =
    let on = band_advances bytes header_length b (gave _ _ e).then_is goes in
    (omega (arith, on.0), on.1)
next_advances bytes (suc k) b e goes = band_advances bytes (suc k) b (required _ not_well_formed (band_at bytes (suc k)) e).1 goes

-- Enough of an input.

-- an input that is too long is no circuit
long_read : (bytes : List ℕ) → most_circuit < length bytes → circuit_read bytes ≡ refuses not_well_formed
unfolding well_formed read_circuit provided
long_read bytes h = rw (lt-leb (length bytes) most_circuit h)

-- and has no band, at any place
long_band : (bytes : List ℕ) (at : ℕ) → most_circuit < length bytes → page_band bytes at ≡ refuses not_well_formed
unfolding page_band after require
long_band bytes zero h = rw (long_read bytes h)
long_band bytes (suc k) h = rw (lt-leb (length bytes) most_circuit h)

-- the first bytes are the whole input, or they are too long as the whole input is
enough_cases : (whole : List ℕ) (P : List ℕ → List ℕ → Type 0) → P whole whole →
    ((bytes : List ℕ) → most_circuit < length bytes → most_circuit < length whole → P bytes whole) → P (take (suc most_circuit) whole) whole
enough_cases whole P same long = by_lt most_circuit (length whole)
    (λ h. long (take (suc most_circuit) whole) (rw (length-take-le (suc most_circuit) whole h) (omega arith)) h)
    (λ h. rw (take_all (suc most_circuit) whole (omega arith)) same)

-- one byte more than a circuit may have is enough to know every band
pub enough_read : (whole : List ℕ) (at : ℕ) → page_band (take (suc most_circuit) whole) at ≡ page_band whole at
enough_read whole at = enough_cases whole (λ a b. page_band a at ≡ page_band b at) refl
    (λ bytes h l. long_band bytes at h ∙ sym (long_band whole at l))

-- and the page
pub enough_read_page : (whole : List ℕ) → page_of (take (suc most_circuit) whole) ≡ page_of whole
enough_read_page whole = enough_cases whole (λ a b. page_of a ≡ page_of b) refl
    (λ bytes h l. ap paged (long_read bytes h ∙ sym (long_read whole l)))

-- What is no circuit.

-- the first band of what is no circuit is its refusal
pub page_refused : (bytes : List ℕ) (k : ℕ) → circuit_read bytes ≡ refuses k → page_band bytes 0 ≡ refuses k
unfolding page_band after
page_refused bytes k e = rw e

-- and that is 14
pub refused_number : (bytes : List ℕ) (k : ℕ) → circuit_read bytes ≡ refuses k → k ≡ not_well_formed
unfolding well_formed
refused_number bytes k e = go (read_circuit bytes) e
  where
    go : (x : Parsed Circuit) → well_formed x ≡ refuses k → k ≡ not_well_formed
    go (parsed c i) e = not_both (sym e)
    go (refused n) e = cc

-- The bands of a circuit.

-- gates that are taken and those that are left have the bytes of all of them
encode_all_parts : (k : ℕ) (gs : List Gate) → encode_all gs ≡ encode_all (take k gs) ++ encode_all (drop k gs)
unfolding encode_all
encode_all_parts zero gs = refl
encode_all_parts (suc k) [] = refl
encode_all_parts (suc k) (g ∷ gs) =
    ap (λ l. encode g ++ l) (encode_all_parts k gs) ∙ sym (append_assoc (encode g) (encode_all (take k gs)) (encode_all (drop k gs)))

-- from the bytes of gates, the reader of a band reads as many of them as it may
band_back : (most k : ℕ) (gs : List Gate) → AllWellFormed most gs →
    read_band most k (left (encode_all gs) 0) ≡ parsed (take k gs) (left (encode_all (drop k gs)) 0)
unfolding read_band encode_all and_then
band_back most zero gs ok = refl
band_back most (suc k) [] ok = refl
band_back most (suc k) (g ∷ gs) ok =
    let bytes = left (encode g ++ encode_all gs) 0 in
    let some : 2 ≤ length (encode g) = encode_length g in
    let both = length-append (encode g) (encode_all gs) in
    rw (band_gate most k bytes (λ z. absurd (omega arith)), read_encode most g ok.0 (encode_all gs) 0) (rw (band_back most k gs ok.1))

-- the bands that follow one another from a place on, put together
pub data Drawn (bytes : List ℕ) : ℕ → List ℕ → Type 0 where
  last : (at : ℕ) (b : Band) → page_band bytes at ≡ gives b → b.next ≡ 0 → Drawn bytes at b.text
  more : (at : ℕ) (b : Band) (rest : List ℕ) → page_band bytes at ≡ gives b → at < b.next → Drawn bytes b.next rest → Drawn bytes at (b.text ++ rest)

-- some bytes over wires 1 to `most`, no more of either than there may be
module _ (bytes : List ℕ) (most : ℕ) (wires : header_wires bytes ≡ most) (few : most ≤ most_wires) (short : length bytes ≤ most_circuit) where
  -- the band of the first of some gates, and the place of those behind it
  abbrev band_of : List Gate → Band
  band_of gs = record { text = band most (take band_gates gs); next = place_of bytes (left (encode_all (drop band_gates gs)) 0) }

  -- it is the band at the place from which their bytes stand
  band_is : (at : ℕ) (gs : List Gate) → AllWellFormed most gs → drop at bytes ≡ encode_all gs → band_at bytes at ≡ gives (band_of gs)
  unfolding require drawn
  band_is at gs ok e = rw (wires, le-leb most most_wires few, e, band_back most band_gates gs ok)

  -- a later place, before the end, asks for the band of the gates that stand from it on
  asks_band : (at : ℕ) → header_length < at → at < length bytes → page_band bytes at ≡ band_at bytes at
  unfolding page_band require
  asks_band zero h l = absurd (omega arith)
  asks_band (suc k) h l = rw (le-leb (length bytes) most_circuit short, lt-ltb header_length (suc k) h, lt-ltb (suc k) (length bytes) l)

  -- of gates that do not fill more than a band nothing is left
  next_none : (gs : List Gate) → length gs ≤ band_gates → (band_of gs).next ≡ 0
  unfolding encode_all
  next_none gs h = rw (drop_of_length-le gs h)

  -- where gates are left behind a band, the next place is where they stand
  next_some : (place : ℕ) (gs : List Gate) → band_gates < length gs → drop place bytes ≡ encode_all gs →
      (place < (band_of gs).next) × ((band_of gs).next < length bytes) × (drop (band_of gs).next bytes ≡ encode_all (drop band_gates gs))
  next_some place gs full e =
      let first = encode_all (take band_gates gs) in
      let others = encode_all (drop band_gates gs) in
      let taken = length-take-le band_gates gs (omega arith) in
      let dropped = length-drop band_gates gs in
      let pairs₁ = encode_all_length (take band_gates gs) in
      let pairs₂ = encode_all_length (drop band_gates gs) in
      let from : length (drop place bytes) ≡ length bytes - place = length-drop place bytes in
      let parts : drop place bytes ≡ first ++ others = e ∙ encode_all_parts band_gates gs in
      let whole : length (drop place bytes) ≡ length first + length others = ap length parts ∙ length-append first others in
      let is : (band_of gs).next ≡ place + length first = place_left bytes (left others 0) (λ z. absurd (omega arith)) ∙ omega arith in
      rw is (omega arith, omega arith, sym (drop-drop (length first) place bytes) ∙ ap (drop (length first)) parts ∙ drop-append_seam first others)

  -- the bands of gates are drawn by asking at a place that gives the band where their bytes begin (0 for the first band of all), then at each next place
  bands_drawn : (k : ℕ) (gs : List Gate) → k ≡ (length gs - 1) / band_gates → AllWellFormed most gs →
      (at place : ℕ) → at ≤ place → header_length ≤ place → page_band bytes at ≡ band_at bytes place → drop place bytes ≡ encode_all gs →
      Drawn bytes at (bands most (suc k) gs)
  unfolding bands
  bands_drawn zero gs count ok at place before behind asks e =
      rw (append-nil (band most (take band_gates gs)))
      (last at (band_of gs) (asks ∙ band_is place gs ok e) (next_none gs (omega arith)))
  bands_drawn (suc k) gs count ok at place before behind asks e =
      let next : ℕ = (band_of gs).next in
      let others : List Gate = drop band_gates gs in
      let dropped = length-drop band_gates gs in
      let on = next_some place gs (omega arith) e in
      let later : place < next = on.0 in
      more at (band_of gs) (bands most (suc k) others) (asks ∙ band_is place gs ok e) (omega arith)
      (bands_drawn k others (omega arith) (formed_drop most band_gates gs ok) next next (omega arith) (omega arith)
      (asks_band next (omega arith) on.1) on.2)

-- the wires that a circuit's header says
wires_are : (c : Circuit) → header_wires (write c) ≡ c.data_wires + c.ancillas
unfolding write
wires_are c = refl

-- The bands make up the page: asked from place 0 on, and then at each next place until that is 0.
pub page_drawn : (bytes : List ℕ) (c : Circuit) → Bytes bytes → circuit_read bytes ≡ gives c → Drawn bytes 0 (page c)
unfolding page_band after page
page_drawn bytes c ok e =
    let w = write_circuit_read bytes e in
    let is : bytes ≡ write c = sym (w.1 ok) in
    bands_drawn bytes (c.data_wires + c.ancillas) (rw is (wires_are c)) w.0.few_wires (rw is w.0.short)
    ((length c.gates - 1) / band_gates) c.gates refl w.0.all_gates 0 header_length (omega arith) (omega arith) (rw e) (rw is (write_gates c))
