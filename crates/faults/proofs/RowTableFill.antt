-- The functions that fill the table of rows: one law for each way out, its premises the tests passed and what the calls on that way ensure.
use mathlib.Core.Path.{◌≡◌, refl, sym, ap, ◌∙◌}
use mathlib.Core.Bool.{Bool, true, false}
use mathlib.Core.List.{List}
use Prim.Native.Nat.{ℕ, suc, ◌+◌, ◌-◌, ◌≤◌, ◌<◌, min, zero-le}
use native.Mathlib.Nat.{le_refl}
use native.Mathlib.Numerals.{add-one}
use native.Mathlib.Omega.{arith}
use borrow.Author.Rules.{rules}
use borrow.Author.Tests.{lt-ltb, le-ltb, eq-eqb, ne_eqb}
use lib.ListN.{get_or, set, replicate}
use lib.Dec.{lit<}
use mir.Syntax.{w8, w64}
use mir.Val.{Fits}
use Rattle.limits.specs.Sizes.{body_count, row_count}
use Rattle.model.specs.Limits.{most_depth, most_qubits}
use Rattle.model.specs.Meaning.{digit}
use Rattle.decoded.specs.declared.Program as decoded
use Rattle.decoded.specs.DecodedTable.{procedure_count, root_of, statement_at}
use Rattle.reach.specs.Matrix.{recursive_in}
use Rattle.reach.proofs.MatrixOperations.{left_never}
use Rattle.faults.specs.TouchedPositions.{touches}
use Rattle.faults.specs.Rows.{row_of, row_is, place, known_touches, stored}
use Rattle.faults.specs.CallLengths.{counts_below, sums_below, sums_in}
use Rattle.faults.specs.RowTable.{from_in, rank_below, rank_in, ranks_below, ranks_in, rank_at}
use Rattle.faults.specs.RowTable.{filled_row, filled_if, filled_rank, filled_length, filled_asked, filled, faults_at}
use Rattle.faults.proofs.RowLaws.{row_at_lem}

-- f itself, and what it reaches
module _ (matrix : List ℕ) (f x : ℕ) where
  pub reached_self : x ≡ f → 1 ≡ digit (from_in matrix f x)
  unfolding digit
  reached_self e = rw (eq-eqb x f e)

  module _ (b : Bool) (other : x ≡ f → ⊥) (r : b ≡ recursive_in matrix x f) where
    pub reached_yes : b ≡ true → 1 ≡ digit (from_in matrix f x)
    unfolding digit
    reached_yes e = rw (ne_eqb x f other, ← r, e)

    pub reached_not : b ≡ false → 0 ≡ digit (from_in matrix f x)
    unfolding digit
    reached_not e = rw (ne_eqb x f other, ← r, e)

-- how many they are
digit_small : (b : Bool) → digit b ≤ 1
unfolding digit
digit_small true = le_refl 1
digit_small false = zero-le

module _ (matrix : List ℕ) (p f n x r : ℕ) (small : n ≤ x) (low : x ≤ p) (here : r ≡ digit (from_in matrix f x)) where
  one_at_most : r ≤ 1
  one_at_most = rw here (digit_small (from_in matrix f x))

  pub rank_fits : Fits w8 p → Fits w64 (n + r)
  rank_fits h = let a : p < 256 = h.fits in let b = one_at_most in record { fits = omega arith }

  pub rank_small : n + r ≤ x + 1
  rank_small = let b = one_at_most in omega arith

  module _ (counted : n ≡ rank_below matrix f x) where
    pub rank_more : n + r ≡ rank_below matrix f (x + 1)
    unfolding rank_below
    rank_more = rw (add-one x, counted, here)

    pub rank_end : p ≤ x → n + r ≡ rank_in matrix f p
    rank_end h = let e : x ≡ p = omega arith in rank_more ∙ rw (add-one x, e)

pub rank_start : (matrix : List ℕ) (f : ℕ) → 0 ≡ rank_below matrix f 0
unfolding rank_below
rank_start matrix f = refl

-- the ranks of all procedures
module _ (matrix : List ℕ) (p f : ℕ) (now : List ℕ) (so : now ≡ ranks_below matrix p f) where
  pub ranks_more : (r : ℕ) → r ≡ rank_in matrix f p → set now f r ≡ ranks_below matrix p (f + 1)
  unfolding ranks_below
  ranks_more r e = rw (add-one f, so, e)

  pub ranks_end : f ≤ body_count → body_count ≤ f → now ≡ ranks_in matrix p
  ranks_end a b = let e : f ≡ body_count = omega arith in so ∙ rw e

pub ranks_start : (matrix : List ℕ) (p : ℕ) → replicate body_count 0 ≡ ranks_below matrix p 0
unfolding ranks_below
ranks_start matrix p = refl

module _ (ranks : List ℕ) (f : ℕ) where
  pub rank_within : f < body_count → get_or ranks f 0 ≡ rank_at ranks f
  rank_within l = rw (lt-ltb f body_count l)

  pub rank_past : body_count ≤ f → 0 ≡ rank_at ranks f
  rank_past l = rw (le-ltb f body_count l)

pub ruleset ranking = (
  rules,
  reached_self,
  reached_yes,
  reached_not,
  rank_fits,
  rank_small,
  rank_more,
  rank_end,
  rank_start,
  left_never,
  ranks_more,
  ranks_end,
  ranks_start,
  rank_within,
  rank_past,
)

-- a row written into the table
module _ (f m row : ℕ) (known : List ℕ) (at : ℕ) (here : at ≡ place f m) where
  pub store_within : at < row_count → set known at row ≡ stored f m row known
  unfolding stored
  store_within l = rw (← here, lt-ltb at row_count l)

  pub store_past : row_count ≤ at → known ≡ stored f m row known
  unfolding stored
  store_past l = rw (← here, le-ltb at row_count l)

module _ (g : decoded.Program) (f m : ℕ) (known next : List ℕ) where
  -- a row of the table
  pub row_filled : (root row : ℕ) → root ≡ root_of g f →
      row ≡ row_of (touches (known_touches known) (statement_at g most_depth root) (min m most_qubits)) →
      next ≡ stored f m row known → next ≡ filled_row g f m known
  unfolding filled_row
  row_filled root row at t s = rw (← at, ← t) s

  module _ (ranks : List ℕ) (k r : ℕ) (ranked : r ≡ rank_at ranks f) where
    fill_ranked : r ≡ k → next ≡ filled_row g f m known → next ≡ filled_if g ranks k f m known
    unfolding filled_if
    fill_ranked e s = rw (← ranked, eq-eqb r k e) s

    fill_other : (r ≡ k → ⊥) → known ≡ filled_if g ranks k f m known
    unfolding filled_if
    fill_other n = rw (← ranked, ne_eqb r k n)

module _ (g : decoded.Program) (ranks : List ℕ) (first : List ℕ) where
  pub procedures_start : (k m : ℕ) → first ≡ filled_rank g ranks 0 k m first
  unfolding filled_rank
  procedures_start k m = refl

  pub length_start : (m : ℕ) → first ≡ filled_length g ranks 0 m first
  unfolding filled_length
  length_start m = refl

  pub lengths_start : (sums n : ℕ) → first ≡ filled g ranks sums n 0 first
  unfolding filled
  lengths_start sums n = refl

  -- lengths that calls can lead to
  module _ (sums gone m : ℕ) (b : Bool) (e : b ≡ row_is sums gone) where
    asked_yes : (next : List ℕ) → b ≡ true → next ≡ filled_length g ranks (procedure_count g) m first → next ≡ filled_asked g ranks sums gone m first
    unfolding filled_asked
    asked_yes next y h = rw (← e, y) h

    asked_not : b ≡ false → first ≡ filled_asked g ranks sums gone m first
    unfolding filled_asked
    asked_not n = rw (← e, n)

-- one procedure, rank or length after the other: what was filled before number f, and what is with it
below : (f : ℕ) → 1 ≤ f → f ≡ suc (f - 1)
below f h = omega arith

module _ (g : decoded.Program) (ranks : List ℕ) (now first : List ℕ) where
  -- procedures of one rank
  module _ (f k m i : ℕ) (so : now ≡ filled_rank g ranks (f - 1) k m first) where
    module _ (some : 1 ≤ f) (here : i ≡ f) where
      one_more : (next : List ℕ) → next ≡ filled_if g ranks k f m now → next ≡ filled_rank g ranks i k m first
      unfolding filled_rank
      one_more next e = rw (here, below f some, ← so, ← below f some) e

      module _ (r : ℕ) (ranked : r ≡ rank_at ranks f) where
        pub rank_with : (next : List ℕ) → r ≡ k → next ≡ filled_row g f m now → next ≡ filled_rank g ranks i k m first
        rank_with next e s = one_more next (fill_ranked g f m now next ranks k r ranked e s)

        pub rank_without : (r ≡ k → ⊥) → now ≡ filled_rank g ranks i k m first
        rank_without n = one_more now (fill_other g f m now now ranks k r ranked n)

    pub rank_filled : i ≡ f - 1 → now ≡ filled_rank g ranks i k m first
    rank_filled e = rw e so

  -- ranks of one length
  module _ (k m i : ℕ) (so : now ≡ filled_length g ranks (k - 1) m first) where
    pub length_with : 1 ≤ k → i ≡ k → (next : List ℕ) → next ≡ filled_rank g ranks (procedure_count g) k m now → next ≡ filled_length g ranks i m first
    unfolding filled_length
    length_with some here next e = rw (here, below k some, ← so, ← below k some) e

    pub length_filled : i ≡ k - 1 → now ≡ filled_length g ranks i m first
    length_filled e = rw e so

  -- lengths that calls can lead to
  module _ (sums n m i : ℕ) (so : now ≡ filled g ranks sums n (m - 1) first) where
    module _ (some : 1 ≤ m) (here : i ≡ m) where
      one_longer : (next : List ℕ) → next ≡ filled_asked g ranks sums (n - m) m now → next ≡ filled g ranks sums n i first
      unfolding filled
      one_longer next e = rw (here, below m some, ← so, ← below m some) e

      module _ (b : Bool) (asked : b ≡ row_is sums (n - m)) where
        pub lengths_with : (next : List ℕ) → b ≡ true → next ≡ filled_length g ranks (procedure_count g) m now → next ≡ filled g ranks sums n i first
        lengths_with next y h = one_longer next (asked_yes g ranks now sums (n - m) m b asked next y h)

        pub lengths_without : b ≡ false → now ≡ filled g ranks sums n i first
        lengths_without e = one_longer now (asked_not g ranks now sums (n - m) m b asked e)

    pub lengths_filled : i ≡ m - 1 → now ≡ filled g ranks sums n i first
    lengths_filled e = rw e so

-- all of them: the ranks and sums are those of the program
pub lengths_end : (g : decoded.Program) (ranks now first : List ℕ) (sums n : ℕ) (matrix : List ℕ) (p counts : ℕ) → p ≡ procedure_count g → ranks ≡ ranks_in matrix p →
    counts ≡ counts_below g (suc (procedure_count g)) → sums ≡ sums_below counts most_qubits → now ≡ filled g ranks sums n n first →
    now ≡ filled g (ranks_in matrix (procedure_count g)) (sums_in g) n n first
lengths_end g ranks now first sums n matrix p counts q r c s so =
    let e : ranks_in matrix (procedure_count g) ≡ ranks = ap (ranks_in matrix) (sym q) ∙ sym r in
    let f : sums_in g ≡ sums = ap (λ x. sums_below x most_qubits) (sym c) ∙ sym s in
    rw (e, f) so

-- main, by the whole table
pub main_row : (g : decoded.Program) (matrix known : List ℕ) (n root row : ℕ) (r : Bool) →
    known ≡ filled g (ranks_in matrix (procedure_count g)) (sums_in g) n n (replicate row_count 0) → root ≡ root_of g 0 →
    row ≡ row_of (touches (known_touches known) (statement_at g most_depth root) (min n most_qubits)) → r ≡ row_is row 0 → r ≡ faults_at g matrix n
unfolding faults_at
main_row g matrix known n root row r k at t e =
    rw (← k, ← at) (e ∙ rw t (row_at_lem (touches (known_touches known) (statement_at g most_depth root) (min n most_qubits)) 0 (lit< tt)))

pub ruleset filling = (
  rules,
  store_within,
  store_past,
  row_filled,
  procedures_start,
  length_start,
  lengths_start,
  main_row,
)
