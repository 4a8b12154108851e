-- Bytes that stand in a table from one place up to another; those of a record whose fields were read are the record, written again.
use Prim.Native.Nat.{ℕ, suc, ◌+◌, ◌-◌, ◌≤◌}
use native.Mathlib.Numerals.{add-one}
use native.Mathlib.Omega.{arith}
use mathlib.Core.Path.{◌≡◌, sym, ap, ◌∙◌}
use mathlib.Core.Bool.{true}
use mathlib.Core.List.{List, ◌∷◌, ◌++◌, append_assoc}
use lib.ListN.{length, drop, length-append, length-drop}
use lib.Seq.{take-append_seam, drop-cons}
use Rattle.model.specs.Reading.{input_at, parsed, Fields, fields, permitted}
use Rattle.model.specs.Writing.{record_bytes}
use Rattle.model.proofs.RoundTrip.{Bytes}
use Rattle.model.proofs.WrittenTables.{bytes_drop, record_written}
use Rattle.records.specs.Fields.{byte_at}
use Rattle.table.specs.ReadTable.{piece}

pub record Spans (bs : List ℕ) (from to : ℕ) (bytes : List ℕ) : Type 0 where
  pub long : to ≡ from + length bytes
  pub inside : to ≤ length bs
  pub stand : drop from bs ≡ bytes ++ drop to bs

-- these bytes, and those behind them
pub spans_then : {bs : List ℕ} {from middle to : ℕ} (xs ys : List ℕ) → Spans bs from middle xs → Spans bs middle to ys → Spans bs from to (xs ++ ys)
spans_then {bs} {from} {middle} {to} xs ys s t =
    record {
      long =
          let a : middle ≡ from + length xs = s.long in
          let b : to ≡ middle + length ys = t.long in
          rw (length-append xs ys) (omega arith);
      inside = t.inside;
      stand = s.stand ∙ ap (λ (l : List ℕ). xs ++ l) t.stand ∙ sym (append_assoc xs ys (drop to bs));
    }

-- they are what is copied from there to there
pub spans_piece : {bs : List ℕ} {from to : ℕ} (xs : List ℕ) → Spans bs from to xs → piece bs from to ≡ xs
spans_piece {bs} {from} {to} xs s =
    let a : to ≡ from + length xs = s.long in
    let count : to - from ≡ length xs = omega arith in
    rw (count, s.stand) (take-append_seam xs (drop to bs))

-- map, kind and fields that were read
pub record_spans :
    (p : ℕ) (bs : List ℕ) (at k next : ℕ) (f : Fields) → Bytes bs → at + 2 ≤ length bs →
    permitted (byte_at bs (at + 1)) (byte_at bs at) ≡ true → at + 2 ≤ next → next ≤ length bs →
    fields p (byte_at bs at) (input_at bs (at + 2) k) ≡ parsed f (input_at bs next k) → Spans bs at next (record_bytes (byte_at bs (at + 1)) f)
record_spans p bs at k next f ok inside permits low high e =
    record {
      long =
          let n : length bs - at ≡ length (record_bytes (byte_at bs (at + 1)) f) + (length bs - next) =
          sym (length-drop at bs) ∙ ap length stands ∙ length-append (record_bytes (byte_at bs (at + 1)) f) (drop next bs)
          ∙ ap (λ (m : ℕ). length (record_bytes (byte_at bs (at + 1)) f) + m) (length-drop next bs) in
          omega arith;
      inside = high;
      stand = stands;
    }
  where
    written : byte_at bs at ∷ byte_at bs (at + 1) ∷ drop (at + 2) bs ≡ record_bytes (byte_at bs (at + 1)) f ++ drop next bs
    written = rw e at (record_written p (byte_at bs (at + 1)) (byte_at bs at) (input_at bs (at + 2) k) permits (bytes_drop (at + 2) bs ok))

    opens : drop at bs ≡ byte_at bs at ∷ byte_at bs (at + 1) ∷ drop (at + 2) bs
    opens =
        let two : suc (at + 1) ≡ at + 2 = omega arith in
        drop-cons bs at 0 (omega arith)
        ∙ ap (λ (l : List ℕ). byte_at bs at ∷ l) (rw (← add-one at) (drop-cons bs (at + 1) 0 (omega arith) ∙ ap (λ (m : ℕ). byte_at bs (at + 1) ∷ drop m bs) two))

    stands : drop at bs ≡ record_bytes (byte_at bs (at + 1)) f ++ drop next bs
    stands = opens ∙ written
