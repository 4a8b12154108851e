-- The listing of an input is that of its first bytes, n and as much of a table as is ever looked at: the program needs to read no more.
use mathlib.Core.Path.{◌≡◌, refl, sym, ap, ◌∙◌}
use mathlib.Core.List.{List, [], ◌∷◌}
use Prim.Native.Nat.{ℕ, zero, suc, ◌≤◌}
use native.Mathlib.Omega.{arith}
use lib.ListN.{length, take, drop, take-append-drop}
use lib.Seq.{take_all, length-take-le}
use Rattle.model.specs.Limits.{most_circuit, least_workspace}
use Rattle.model.specs.Reading.{read_table}
use Rattle.model.specs.Answers.{accepted, compile}
use Rattle.model.specs.Listing.{listing}
use Rattle.model.proofs.BooleanLaws.{by_lt}
use Rattle.model.proofs.ReadingLaws.{looked_at, read_long}
use Rattle.text.specs.Inputs.{BeginsWith}

-- the byte n, then as much of a table as is ever looked at
abbrev pub most_input : ℕ
most_input = suc looked_at

-- a table cut where it is no longer looked at is read as it was
read_cut : (most : ℕ) (table : List ℕ) → looked_at ≤ most → read_table (take most table) ≡ read_table table
read_cut most table h = by_lt most (length table)
    (λ l. let e : length (take most table) ≡ most = length-take-le most table (omega arith) in
    let alike = read_long (take most table) (drop most table) (omega arith) in
    alike.1 ∙ sym (rw (take-append-drop most table) at alike.2))
    (λ l. rw (take_all most table l))

accepted_cut : (most : ℕ) (table : List ℕ) (n : ℕ) → looked_at ≤ most → accepted (take most table) n ≡ accepted table n
unfolding accepted
accepted_cut most table n h = rw (read_cut most table h)

compile_cut : (most : ℕ) (table : List ℕ) (n room workspace : ℕ) → looked_at ≤ most →
    compile (take most table) n room workspace ≡ compile table n room workspace
unfolding compile
compile_cut most table n room workspace h = rw (accepted_cut most table n h)

listing_cut : (most : ℕ) (input : List ℕ) → most_input ≤ most → listing (take most input) ≡ listing input
unfolding listing
listing_cut zero input h = absurd (omega arith)
listing_cut (suc most) [] h = refl
listing_cut (suc most) (n ∷ table) h = rw (compile_cut most table n most_circuit least_workspace (omega arith))

-- what was read into a buffer that is long enough is listed as the whole input is
pub listing_read : (whole buffer : List ℕ) (count : ℕ) → most_input ≤ length buffer → BeginsWith whole buffer count → listing (take count buffer) ≡ listing whole
listing_read whole buffer count long h = sym (ap listing h) ∙ listing_cut (length buffer) whole long
