-- What the program writes is the page: the parts for place 0 and then for each next place, until it is 0, make up the page of the whole input.
use mathlib.Core.Path.{◌≡◌, refl}
use mathlib.Core.List.{List, ◌++◌}
use Prim.Native.Nat.{ℕ, ◌≤◌, ◌<◌}
use native.Mathlib.Omega.{arith}
use Rattle.model.specs.Answers.{Outcome, gives, refuses, circuit_read}
use Rattle.model.specs.Circuit.{Circuit}
use Rattle.model.specs.Listing.{refusal_line}
use Rattle.model.specs.Page.{Band, page_band, page, paged, page_of}
use Rattle.model.proofs.RoundTrip.{Bytes}
use Rattle.model.proofs.PageBands.{Drawn, page_drawn, page_refused}
use Rattle.model.proofs.PageBands as bands
use Rattle.page.specs.Parts.{part_of, page_part}

-- parts that follow one another from a place on, put together. The program goes on where the next place is above this one.
pub data Written (input : List ℕ) : ℕ → List ℕ → Type 0 where
  ends : (at : ℕ) → (page_part input at).next ≤ at → Written input at (page_part input at).text
  goes : (at : ℕ) (rest : List ℕ) → at < (page_part input at).next → Written input (page_part input at).next rest →
      Written input at ((page_part input at).text ++ rest)

-- a band is a part
part_is : (input : List ℕ) (at : ℕ) (b : Band) → page_band input at ≡ gives b → page_part input at ≡ b
unfolding part_of
part_is input at b e = rw e

-- and so is a refusal's line
line_is : (input : List ℕ) (at k : ℕ) → page_band input at ≡ refuses k → page_part input at ≡ record { text = refusal_line k; next = 0 }
unfolding part_of
line_is input at k e = rw e

-- the last part, and one before others
ends_here : (input : List ℕ) (at : ℕ) (b : Band) → page_part input at ≡ b → b.next ≡ 0 → Written input at b.text
ends_here input at b is z =
    let end : Written input at (page_part input at).text = ends at (rw is (omega (arith, z))) in
    rw is at end

goes_on : (input : List ℕ) (at : ℕ) (b : Band) (rest : List ℕ) → page_part input at ≡ b → at < b.next → Written input b.next rest →
    Written input at (b.text ++ rest)
goes_on input at b rest is h w =
    let more : Written input at ((page_part input at).text ++ rest) = goes at rest (rw is h) (rw is w) in
    rw is at more

-- so bands that make up a text are parts that do
drawn_written : (input : List ℕ) (at : ℕ) (text : List ℕ) → Drawn input at text → Written input at text
drawn_written input _ _ (bands.last at b e z) = ends_here input at b (part_is input at b e) z
drawn_written input _ _ (bands.more at b rest e h d) = goes_on input at b rest (part_is input at b e) h (drawn_written input b.next rest d)

pub page_written : (input : List ℕ) → Bytes input → Written input 0 (page_of input)
unfolding paged
page_written input ok = go (circuit_read input) refl
  where
    go : (x : Outcome Circuit) → circuit_read input ≡ x → Written input 0 (paged x)
    go (gives c) e = drawn_written input 0 (page c) (page_drawn input c ok e)
    go (refuses k) e = ends_here input 0 (record { text = refusal_line k; next = 0 }) (line_is input 0 k (page_refused input k e)) refl
