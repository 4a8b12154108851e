-- What a matrix shows: a relation between bodies, main at 0. Each step on matrices shows what it should: marks, rows going through one procedure,
-- and through all of them one after the other, which is reach.
use mathlib.Core.Path.{◌≡◌, refl, sym, ap, ◌∙◌}
use mathlib.Core.Logic.{◌≢◌}
use mathlib.Core.Bool.{Bool, true, false, ◌&&◌, ◌||◌, true≢false, and-false, or-false}
use mathlib.Core.List.{List, map}
use Prim.Native.Nat.{ℕ, zero, suc, ◌^◌, ◌≤◌, ◌<◌, suc-le-suc}
use native.Mathlib.Nat.{zero-add}
use native.Mathlib.Omega.{arith}
use borrow.Author.Tests.{lt-ltb, le-ltb, eq-eqb, ne_eqb}
use lib.Bits.{bit_or, or_lt}
use lib.Pow.{pow-lt}
use lib.ListN.{length, get_or, get_or-eq_default, get_or-map, set, length-set, length-map, length-replicate, get_or-replicate}
use lib.Seq.{get_or-set_same, get_or-set_other, ext_get_or}
use lib.Dec.{eqb, ltb, lit<}
use Rattle.limits.specs.Sizes.{body_count}
use Rattle.model.specs.Limits.{most_procedures}
use Rattle.model.specs.Lists.{range}
use Rattle.model.specs.Meaning.{bit, word_from}
use Rattle.model.specs.Syntax.{Program, body}
use Rattle.model.specs.Reach.{calls, reaches_below}
use Rattle.model.proofs.BooleanLaws.{by_bool, by_eq, by_lt, eqb_same}
use Rattle.model.proofs.WordBits.{zero_bit, word_bit, word_below, word_is}
use Rattle.model.proofs.ListLaws.{range_length, tabulated}
use Rattle.sets.proofs.BitLaws.{or_bit, power_same, power_other}
use Rattle.reach.specs.Matrix.{row_in, has, entry, mark, joined, through, closed, rows_of, no_marks}

-- the matrix is whole, its rows have no bit past the last body, and bit g of row f says R f g
pub record Shows (m : List ℕ) (R : ℕ → ℕ → Bool) : Type 0 where
  pub whole : length m ≡ body_count
  pub low : (f : ℕ) → row_in m f < 2 ^ body_count
  pub cells : (f g : ℕ) → f ≤ most_procedures → g ≤ most_procedures → bit (row_in m f) g ≡ R f g

-- it shows any relation that is the same on the bodies that a table can have
pub shows_as : (m : List ℕ) (R S : ℕ → ℕ → Bool) → ((f g : ℕ) → f ≤ most_procedures → g ≤ most_procedures → R f g ≡ S f g) → Shows m R → Shows m S
shows_as m R S e h = record { whole = h.whole; low = h.low; cells = λ f g lf lg. h.cells f g lf lg ∙ e f g lf lg }

-- a row has what its bit says
has_bit : (row g : ℕ) → g ≤ most_procedures → has row g ≡ bit row g
unfolding has
has_bit row g l = rw (le-ltb most_procedures g l)

has_none : (g : ℕ) → false ≡ has 0 g
unfolding has
has_none g = by_lt most_procedures g
    (λ o. rw (lt-ltb most_procedures g o))
    (λ l. rw (le-ltb most_procedures g l) (sym (zero_bit g)))

-- an entry is there where the relation holds, and outside the rows and columns there is none
pub shows_entry : (m : List ℕ) (R : ℕ → ℕ → Bool) → Shows m R → (f g : ℕ) → f ≤ most_procedures → g ≤ most_procedures → entry m f g ≡ R f g
unfolding entry
shows_entry m R h f g lf lg = has_bit (row_in m f) g lg ∙ h.cells f g lf lg

pub entry_past_row : (m : List ℕ) (R : ℕ → ℕ → Bool) → Shows m R → (f g : ℕ) → most_procedures < f → false ≡ entry m f g
unfolding entry
entry_past_row m R h f g o =
    let past : length m ≤ f = rw h.whole (omega arith) in
    has_none g ∙ ap (λ (row : ℕ). has row g) (sym (get_or-eq_default m 0 past))

pub entry_past_column : (m : List ℕ) (f g : ℕ) → most_procedures < g → false ≡ entry m f g
unfolding entry has
entry_past_column m f g o = rw (lt-ltb most_procedures g o)

-- one more mark
power_bit : (g y : ℕ) → bit (2 ^ g) y ≡ eqb g y
power_bit g y = by_eq g y
    (λ e. rw (← e, eqb_same g) (power_same g))
    (λ ne. rw (ne_eqb g y ne) (power_other g y (λ q. ne (sym q))))

module _ (m : List ℕ) (R : ℕ → ℕ → Bool) (h : Shows m R) (f g : ℕ) (lf : f ≤ most_procedures) (lg : g ≤ most_procedures) where
  abbrev more : ℕ
  more = bit_or (row_in m f) (2 ^ g)

  same_row : row_in (set m f more) f ≡ more
  same_row = get_or-set_same m f more 0 (rw h.whole (omega arith))

  other_row : (x : ℕ) → x ≢ f → row_in (set m f more) x ≡ row_in m x
  other_row x ne = get_or-set_other m f x more 0 ne

  shows_set : Shows (set m f more) (λ x y. R x y || (eqb f x && eqb g y))
  shows_set = record {
    whole = length-set m f more ∙ h.whole;
    low = λ x. by_eq x f
        (λ e. rw (e, same_row) (or_lt body_count (row_in m f) (2 ^ g) (h.low f) (pow-lt (suc-le-suc lg))))
        (λ ne. rw (other_row x ne) (h.low x));
    cells = λ x y lx ly. by_eq f x
        (λ e. rw (← e, same_row, or_bit (row_in m f) (2 ^ g) y, h.cells f y lf ly, power_bit g y, eqb_same f))
        (λ ne. rw (other_row x (λ q. ne (sym q)), ne_eqb f x ne, or-false (R x y)) (h.cells x y lx ly));
  }

-- a mark at row f, column g: a matrix has none outside its rows and columns
pub shows_mark : (m : List ℕ) (R : ℕ → ℕ → Bool) (f g : ℕ) → Shows m R → Shows (mark f g m) (λ x y. R x y || (eqb f x && eqb g y))
unfolding mark
shows_mark m R f g h = by_lt most_procedures f
    (λ o. rw (lt-ltb most_procedures f o) (shows_as m R (λ x y. R x y || (eqb f x && eqb g y))
    (λ x y lx ly. let ne : f ≢ x = omega arith in rw (ne_eqb f x ne) (sym (or-false (R x y)))) h))
    (λ lf. rw (le-ltb most_procedures f lf) (by_lt most_procedures g
    (λ o. rw (lt-ltb most_procedures g o) (shows_as m R (λ x y. R x y || (eqb f x && eqb g y))
    (λ x y lx ly. let ne : g ≢ y = omega arith in rw (ne_eqb g y ne, and-false (eqb f x)) (sym (or-false (R x y)))) h))
    (λ lg. rw (le-ltb most_procedures g lg) (shows_set m R h f g lf lg))))

-- below one more
pub below_more : (y g : ℕ) → ltb y (suc g) ≡ ltb y g || eqb g y
below_more y g = by_lt y g
    (λ l. let more : y < suc g = omega arith in rw (lt-ltb y g l, lt-ltb y (suc g) more))
    (λ ge. rw (le-ltb y g ge) (by_eq g y
    (λ e. let more : y < suc g = omega arith in rw (lt-ltb y (suc g) more, eq-eqb g y e))
    (λ ne. let over : suc g ≤ y = omega arith in rw (le-ltb y (suc g) over, ne_eqb g y ne))))

pub not_below : (n : ℕ) → ltb n n ≡ false
not_below n = le-ltb n n (omega arith)

-- a step at one number more: what holds below it, in `row`, is joined by what holds at it
pub one_more : (a row below at r s : Bool) → (at ≡ true → (below ≡ false) × (s ≡ r)) →
    (a || (row && (below && r))) || (row && (at && s)) ≡ a || (row && ((below || at) && r))
one_more true row below at r s h = refl
one_more false false below at r s h = refl
one_more false true true true r s h = absurd (true≢false (h refl).0)
one_more false true true false true s h = refl
one_more false true true false false s h = refl
one_more false true false true r s h = (h refl).1
one_more false true false false r s h = refl

-- all rows go through v
module _ (m : List ℕ) (R : ℕ → ℕ → Bool) (h : Shows m R) (v : ℕ) (lv : v ≤ most_procedures) where
  abbrev of_v : ℕ
  of_v = row_in m v

  joined_none : joined v of_v 0 ≡ 0
  unfolding joined
  joined_none = rw (← has_none v)

  row_through : (x : ℕ) → row_in (through v m) x ≡ joined v of_v (row_in m x)
  unfolding through
  row_through x =
      ap (λ (d : ℕ). get_or (map (joined v of_v) m) x d) (sym joined_none) ∙ get_or-map (joined v of_v) m x 0

  joined_low : (row : ℕ) → row < 2 ^ body_count → joined v of_v row < 2 ^ body_count
  unfolding joined
  joined_low row l = by_bool (has row v)
      (λ e. rw e (or_lt body_count row of_v l (h.low v)))
      (λ e. rw e l)

  joined_bit : (row y : ℕ) → bit (joined v of_v row) y ≡ bit row y || (bit row v && bit of_v y)
  unfolding joined
  joined_bit row y = rw (has_bit row v lv) (by_bool (bit row v)
      (λ e. rw e (or_bit row of_v y))
      (λ e. rw (e, or-false (bit row y))))

  through_long : length (through v m) ≡ length m
  unfolding through
  through_long = length-map m (joined v of_v)

  shows_through : Shows (through v m) (λ x y. R x y || (R x v && R v y))
  shows_through = record {
    whole = through_long ∙ h.whole;
    low = λ x. rw (row_through x) (joined_low (row_in m x) (h.low x));
    cells = λ x y lx ly. rw (row_through x, joined_bit (row_in m x) y, h.cells x y lx ly, h.cells x v lx lv, h.cells v y lv ly);
  }

-- all rows through each procedure below n: from the calls of bodies to the reach through procedures below n
pub shows_closed : (P : Program) (m : List ℕ) → Shows m (λ f g. calls (body P f) g) → (n : ℕ) → n ≤ body_count → Shows (closed n m) (reaches_below P n)
unfolding closed reaches_below
shows_closed P m h zero l = h
shows_closed P m h (suc v) l = shows_through (closed v m) (reaches_below P v) (shows_closed P m h v (omega arith)) v (omega arith)

-- a matrix without a mark
no_row : (f : ℕ) → row_in no_marks f ≡ 0
no_row f = by_lt f body_count
    (λ l. get_or-replicate {A = ℕ} body_count f 0 0 l)
    (λ g. get_or-eq_default no_marks 0 {n = f} (rw (length-replicate {A = ℕ} body_count 0) g))

pub shows_none : Shows no_marks (λ f g. false)
shows_none = record {
  whole = length-replicate {A = ℕ} body_count 0;
  low = λ f. rw (no_row f) (lit< tt);
  cells = λ f g lf lg. rw (no_row f) (zero_bit g);
}

module _ (R : ℕ → ℕ → Bool) where
  rows_length : length (rows_of R) ≡ body_count
  rows_length = length-map (range body_count 0) (λ f. word_from body_count 0 (R f)) ∙ range_length body_count 0

  row_of_at : (f : ℕ) → f < body_count → row_in (rows_of R) f ≡ word_from body_count 0 (R f)
  row_of_at f l = tabulated (λ i. word_from body_count 0 (R i)) 0 body_count 0 f l ∙ ap (λ (i : ℕ). word_from body_count 0 (R i)) (zero-add f)

  -- the rows of a relation show it
  pub rows_shown : Shows (rows_of R) R
  rows_shown = record {
    whole = rows_length;
    low = λ f. by_lt f body_count
        (λ l. rw (row_of_at f l) (word_below body_count 0 (R f)))
        (λ g. rw (get_or-eq_default (rows_of R) 0 {n = f} (rw rows_length g)) (lit< tt));
    cells = λ f g lf lg. rw (row_of_at f (suc-le-suc lf)) (word_bit body_count 0 (R f) g (suc-le-suc lg) ∙ ap (R f) (zero-add g));
  }

  -- and a matrix that shows it is those rows
  pub shown_rows : (m : List ℕ) → Shows m R → m ≡ rows_of R
  shown_rows m h = ext_get_or 0 m (rows_of R) (h.whole ∙ sym rows_length) (λ f l.
      let inside : f < body_count = rw h.whole at l in
      sym (row_of_at f inside ∙ word_is body_count 0 (R f) (row_in m f) (h.low f)
      (λ k lk. ap (R f) (zero-add k) ∙ sym (h.cells f k (omega arith) (omega arith)))))
