-- Refusal 12 by the table of rows: filled in its order it has what every procedure touches at every length that calls can lead to, so main's row says
-- what document 01 says.
use mathlib.Core.Path.{◌≡◌, refl, sym, ap, ◌∙◌, subst}
use mathlib.Core.Bool.{Bool, true, false}
use mathlib.Core.List.{List}
use Prim.Native.Nat.{ℕ, zero, suc, ◌+◌, ◌-◌, ◌≤◌, ◌<◌, min, zero-le, suc-le-suc}
use native.Mathlib.Nat.{not-suc-le-zero, le_refl, le_trans, le_of_suc-le-suc}
use native.Mathlib.Omega.{arith}
use borrow.Author.Tests.{lt-ltb, eq-eqb, ne_eqb}
use lib.ListN.{length, get_or, set, replicate, length-set, length-replicate}
use lib.Seq.{get_or-set_same, get_or-set_other}
use Rattle.limits.specs.Sizes.{body_count, row_count}
use Rattle.model.specs.Limits.{most_procedures, most_qubits}
use Rattle.model.specs.Meaning.{digit}
use Rattle.model.specs.Syntax.{Program, count}
use Rattle.model.specs.Reach.{any_lacks_removal}
use Rattle.model.specs.Faults.{program_faults}
use Rattle.model.proofs.BooleanLaws.{by_bool, by_eq, by_lt, clash}
use Rattle.model.proofs.ReachAndRank.{Named, how_many, from, rank, rank_positive, rank_most}
use Rattle.decoded.specs.declared.Program as decoded
use Rattle.decoded.specs.DecodedTable.{procedure_count, body_at, program_at}
use Rattle.reach.specs.CallsInATable.{reach_at}
use Rattle.reach.proofs.MatrixOfAProgram.{count_at, body_at_lem}
use Rattle.reach.proofs.ReachByMatrix.{reach_entry}
use Rattle.faults.specs.TouchedPositions.{Touched, touches}
use Rattle.faults.specs.Rows.{row_of, row_is, place, known_touches, stored}
use Rattle.faults.specs.CallLengths.{removal_counts, counts_below, sums_in}
use Rattle.faults.specs.RowTable.{from_in, rank_below, rank_in, ranks_below, ranks_in, rank_at}
use Rattle.faults.specs.RowTable.{filled_row, filled_if, filled_rank, filled_length, filled_asked, filled, faults_at}
use Rattle.faults.proofs.RowLaws.{row_at_lem}
use Rattle.faults.proofs.CallLengthLaws.{sums_zero, sums_closed, counts_there}
use Rattle.faults.proofs.FaultsByPosition.{touches_of, SameTouches, fill_touches, main_touches}

-- rows of different procedures or lengths stand at different places
rows_apart : (f m g n : ℕ) → m ≤ most_qubits → n ≤ most_qubits → place f m ≡ place g n → (f ≡ g) × (m ≡ n)
rows_apart f m g n lm ln e = (omega arith, omega arith)

module _ (f m row : ℕ) (known : List ℕ) (lf : f ≤ most_procedures) (lm : m ≤ most_qubits) (whole : length known ≡ row_count) where
  inside : place f m < row_count
  inside = omega arith

  stored_is : stored f m row known ≡ set known (place f m) row
  unfolding stored
  stored_is = rw (lt-ltb (place f m) row_count inside)

  stored_length : length (stored f m row known) ≡ row_count
  stored_length = rw stored_is (length-set known (place f m) row ∙ whole)

  -- the row that is stored is known then
  stored_here : (t : ℕ) → known_touches (stored f m row known) f m t ≡ row_is row t
  stored_here t =
      let fits : place f m < length known = rw whole inside in
      rw (stored_is, lt-ltb (place f m) row_count inside, get_or-set_same known (place f m) row 0 fits)

  -- and the others are as they were
  stored_other : (g n t : ℕ) → n ≤ most_qubits → (g ≡ f → n ≡ m → ⊥) → known_touches (stored f m row known) g n t ≡ known_touches known g n t
  stored_other g n t ln other = rw (
    stored_is,
    get_or-set_other known (place f m) (place g n) row 0
        (λ e. let z = rows_apart g n f m ln lm e in other z.0 z.1),
  )

-- the ranks that are there
ranks_length : (matrix : List ℕ) (p n : ℕ) → length (ranks_below matrix p n) ≡ body_count
unfolding ranks_below
ranks_length matrix p zero = length-replicate {A = ℕ} body_count 0
ranks_length matrix p (suc n) = length-set (ranks_below matrix p n) n (rank_in matrix n p) ∙ ranks_length matrix p n

ranks_at : (matrix : List ℕ) (p n f : ℕ) → f < n → n ≤ body_count → get_or (ranks_below matrix p n) f 0 ≡ rank_in matrix f p
unfolding ranks_below
ranks_at matrix p zero f l h = absurd (not-suc-le-zero l)
ranks_at matrix p (suc n) f l h = by_eq f n
    (λ e. rw e (get_or-set_same (ranks_below matrix p n) n (rank_in matrix n p) 0 (rw (ranks_length matrix p n) h)))
    (λ ne. get_or-set_other (ranks_below matrix p n) n f (rank_in matrix n p) 0 ne ∙ ranks_at matrix p n f (omega arith) (omega arith))

-- a program of no more procedures than a table can have, whose calls name them
module _ (g : decoded.Program) (few : procedure_count g ≤ most_procedures) (names : Named (program_at g)) where
  abbrev p : ℕ
  p = procedure_count g

  abbrev P : Program
  P = program_at g

  abbrev matrix : List ℕ
  matrix = reach_at g

  abbrev ranks : List ℕ
  ranks = ranks_in matrix p

  abbrev sums : ℕ
  sums = sums_in g

  -- the rank that is read off the matrix of reach
  reach_from : (f x : ℕ) → from_in matrix f x ≡ from P f x
  unfolding from
  reach_from f x = rw (reach_entry g few names f x)

  rank_below_lem : (f k : ℕ) → rank_below matrix f k ≡ how_many (from P f) k
  unfolding rank_below how_many digit
  rank_below_lem f zero = refl
  rank_below_lem f (suc k) = rw (reach_from f k, rank_below_lem f k) (one (from P f k) (how_many (from P f) k))
    where
      one : (b : Bool) (n : ℕ) → n + digit b ≡ elim b [ true ↦ suc n | false ↦ n ]
      one true n = omega arith
      one false n = omega arith

  rank_is : (f : ℕ) → f ≤ most_procedures → rank_at ranks f ≡ rank P f
  unfolding rank
  rank_is f l = rw (lt-ltb f body_count (suc-le-suc l))
      (ranks_at matrix p body_count f (suc-le-suc l) (le_refl body_count) ∙ rank_below_lem f (suc p)
      ∙ ap (λ (n : ℕ). how_many (from P f) (suc n)) (sym (count_at g)))

  -- a table that has, of the procedures and lengths that D tells, what they touch
  record Holds (known : List ℕ) (D : ℕ → ℕ → Type 0) : Type 0 where
    whole : length known ≡ row_count
    right : (q m : ℕ) → 0 < q → q ≤ p → 0 < m → m ≤ most_qubits → D q m → SameTouches (known_touches known) (touches_of P) q m

  holds_less : (known : List ℕ) (D E : ℕ → ℕ → Type 0) → ((q m : ℕ) → 0 < q → q ≤ p → 0 < m → E q m → D q m) → Holds known D → Holds known E
  holds_less known D E h H = record { whole = H.whole; right = λ q m a b c d e. H.right q m a b c d (h q m a b c e) }

  module _ (passes10 : any_lacks_removal P ≡ false) where
    -- one row more: all that its body can call must be there
    holds_row : (f m : ℕ) (known : List ℕ) (D E : ℕ → ℕ → Type 0) → 0 < f → f ≤ p → 0 < m → m ≤ most_qubits →
        ((q n : ℕ) → removal_counts (body_at g f) (m - n) ≡ true → 0 < n → n < m → D q n) → ((q : ℕ) → rank P q < rank P f → D q m) →
        ((q n : ℕ) → E q n → (q ≡ f → n ≡ m → ⊥) → D q n) → Holds known D → Holds (filled_row g f m known) E
    unfolding filled_row
    holds_row f m known D E pf lf pm lm shorter lower other H = record {
      whole = stored_length f m row known low lm H.whole;
      right = λ q n pq lq pn ln e t lt. by_pair q n
          (λ a b. rw (a, b) (stored_here f m row known low lm H.whole t ∙ row_at_lem x t (omega arith) ∙ right t))
          (λ ne. stored_other f m row known low lm H.whole q n t ln ne ∙ H.right q n pq lq pn ln (other q n e ne) t lt);
    }
      where
        x : Touched
        x = touches (known_touches known) (body_at g f) (min m most_qubits)

        row : ℕ
        row = row_of x

        low : f ≤ most_procedures
        low = omega arith

        named_low : (q : ℕ) → q ≤ count P → q ≤ p
        named_low q h = rw (count_at g) at h

        by_pair : {A : Type 0} (q n : ℕ) → (q ≡ f → n ≡ m → A) → ((q ≡ f → n ≡ m → ⊥) → A) → A
        by_pair q n same else = by_eq q f (λ a. by_eq n m (λ b. same a b) (λ nb. else (λ a b. nb b))) (λ na. else (λ a b. na a))

        right : (t : ℕ) → x t ≡ touches_of P f m t
        right t =
            let e : min m most_qubits ≡ m = omega arith in
            rw (e, ← body_at_lem g f lf) (fill_touches P names passes10 (known_touches known) f m pm
            (λ q n pq lq c pn l. H.right q n pq (named_low q lq) pn (omega arith) (shorter q n (rw (body_at_lem g f lf) at c) pn l))
            (λ q pq lq l. H.right q m pq (named_low q lq) pm lm (lower q l)) t)

    -- main has n qubits
    module _ (n : ℕ) (ln : n ≤ most_qubits) where
      -- calls can lead to length m
      abbrev Asked : ℕ → Type 0
      Asked m = row_is sums (n - m) ≡ true

      -- and on from there
      asked_on : (f m l : ℕ) → f ≤ p → m ≤ n → Asked m → removal_counts (body_at g f) (m - l) ≡ true → 0 < l → l ≤ m → Asked l
      asked_on f m l lf lm asked c pl ll =
          let sum : n - m + (m - l) ≡ n - l = omega arith in
          subst (λ (k : ℕ). row_is sums k ≡ true) sum
          (sums_closed (counts_below g (suc p)) most_qubits (n - m) (m - l) (omega arith) (omega arith) asked
          (counts_there g (suc p) f (m - l) (suc-le-suc lf) (omega arith) c))

      -- what is there when length m has come to rank k, and that to procedure f:
      -- all shorter lengths that are asked for, and of length m the lower ranks, and rank k up to f
      abbrev Done : ℕ → ℕ → ℕ → ℕ → ℕ → Type 0
      Done m k f q l = Asked l × (m ≤ l → (l ≤ m) × ((rank P q ≤ k) × (k ≤ rank P q → q ≤ f)))

      module _ (m : ℕ) (pm : 0 < m) (lm : m ≤ n) (asked : Asked m) where
        holds_if : (k f : ℕ) (known : List ℕ) → suc f ≤ p → Holds known (Done m k f) →
            Holds (filled_if g ranks k (suc f) m known) (Done m k (suc f))
        unfolding filled_if
        holds_if k f known l H = rw (rank_is (suc f) (le_trans l few)) (by_eq (rank P (suc f)) k
            (λ e. rw (eq-eqb (rank P (suc f)) k e) (holds_row (suc f) m known (Done m k f) (Done m k (suc f)) (suc-le-suc zero-le) l pm (le_trans lm ln)
            (λ q j c pj less. (asked_on (suc f) m j l lm asked c pj (omega arith), λ le. absurd (never m j less le)))
            (λ q low. (asked, λ le. (le_refl m, (under q e low, λ h. absurd (above q e low h)))))
            (λ q j d ne. (d.0, λ le. let z = d.1 le in (z.0, (z.1.0, λ h. before q (z.1.1 h) (λ a. ne a (same m j le z.0)))))) H))
            (λ ne. rw (ne_eqb (rank P (suc f)) k ne) (holds_less known (Done m k f) (Done m k (suc f))
            (λ q j pq lq pj d. (
              d.0,
              λ le. let z = d.1 le in (
                z.0,
                (
                  z.1.0,
                  λ h. before q (z.1.1 h)
                      (λ a. ne (same k (rank P (suc f)) (subst (λ (v : ℕ). k ≤ rank P v) a h) (subst (λ (v : ℕ). rank P v ≤ k) a z.1.0))),
                ),
              ),
            )) H)))
          where
            never : (m n : ℕ) → n < m → m ≤ n → ⊥
            never m n a b = omega arith

            same : (a b : ℕ) → a ≤ b → b ≤ a → b ≡ a
            same a b h l = omega arith

            under : (q : ℕ) → rank P (suc f) ≡ k → rank P q < rank P (suc f) → rank P q ≤ k
            under q e low = omega arith

            above : (q : ℕ) → rank P (suc f) ≡ k → rank P q < rank P (suc f) → k ≤ rank P q → ⊥
            above q e low h = omega arith

            before : (q : ℕ) → q ≤ suc f → (q ≡ suc f → ⊥) → q ≤ f
            before q h ne = omega arith

        -- rank k, procedure by procedure
        holds_rank : (k f : ℕ) (known : List ℕ) → f ≤ p → Holds known (Done m k 0) → Holds (filled_rank g ranks f k m known) (Done m k f)
        unfolding filled_rank
        holds_rank k zero known l H = H
        holds_rank k (suc f) known l H = holds_if k f (filled_rank g ranks f k m known) l (holds_rank k f known (omega arith) H)

        -- length m, rank by rank: none has rank 0
        holds_ranks : (k : ℕ) (known : List ℕ) → Holds known (λ q l. Asked l × (l < m)) → Holds (filled_length g ranks k m known) (Done m k p)
        unfolding filled_length
        holds_ranks zero known H = holds_less known (λ q l. Asked l × (l < m)) (Done m 0 p) (λ q l pq lq pl d. (
          d.0,
          by_lt l m (λ less. less) (λ ge.
              let z : rank P q ≤ 0 = (d.1 ge).1.0 in
              let some : 0 < rank P q = rank_positive P q (rw (count_at g) lq) in absurd (not-suc-le-zero (le_trans some z))),
        )) H
        holds_ranks (suc k) known H =
            holds_rank (suc k) p (filled_length g ranks k m known) (le_refl p)
            (holds_less (filled_length g ranks k m known) (Done m k p) (Done m (suc k) 0)
            (λ q l pq lq pl d. (d.0, λ le. let z = d.1 le in (z.0, (lower q pq z.1.0 z.1.1, λ h. lq)))) (holds_ranks k known H))
          where
            lower : (q : ℕ) → 0 < q → rank P q ≤ suc k → (suc k ≤ rank P q → q ≤ 0) → rank P q ≤ k
            lower q pq a b = by_lt k (rank P q) (λ l. absurd (not-suc-le-zero (le_trans pq (b l)))) (λ ge. ge)

        -- and all ranks are at most p
        holds_length : (known : List ℕ) → Holds known (λ q l. Asked l × (l < m)) →
            Holds (filled_length g ranks p m known) (λ q l. Asked l × (l < suc m))
        holds_length known H = holds_less (filled_length g ranks p m known) (Done m p p) (λ q l. Asked l × (l < suc m))
            (λ q l pq lq pl d. (d.0, λ le. (le_of_suc-le-suc d.1, (rw (count_at g) at (rank_most P names q pq), λ h. lq))))
            (holds_ranks p known H)

      -- a length that no call leads to is left out
      holds_asked : (m : ℕ) (known : List ℕ) → 0 < m → m ≤ n → Holds known (λ q l. Asked l × (l < m)) →
          Holds (filled_asked g ranks sums (n - m) m known) (λ q l. Asked l × (l < suc m))
      unfolding filled_asked
      holds_asked m known pm lm H = by_bool (row_is sums (n - m))
          (λ e. rw e (holds_length m pm lm e known H))
          (λ e. rw e (holds_less known (λ q l. Asked l × (l < m)) (λ q l. Asked l × (l < suc m))
          (λ q l pq lq pl d. (
            d.0,
            by_eq l m
                (λ s. clash (subst (λ (v : ℕ). row_is sums (n - v) ≡ true) s d.0) e)
                (λ ne. let less : l < suc m = d.1 in omega arith),
          )) H))

      -- length by length
      holds_lengths : (m : ℕ) → m ≤ n → Holds (filled g ranks sums n m (replicate row_count 0)) (λ q l. Asked l × (l < suc m))
      unfolding filled
      holds_lengths zero l = record {
        whole = length-replicate {A = ℕ} row_count 0;
        right = λ q m pq lq pm lm d. absurd (not-suc-le-zero (le_trans pm (le_of_suc-le-suc d.1)));
      }
      holds_lengths (suc m) l =
          holds_asked (suc m) (filled g ranks sums n m (replicate row_count 0)) (suc-le-suc zero-le) l (holds_lengths m (omega arith))

      -- main's own length
      asked_first : Asked n
      asked_first = let e : 0 ≡ n - n = omega arith in subst (λ (k : ℕ). row_is sums k ≡ true) e (sums_zero (counts_below g (suc p)) most_qubits)

    -- refusal 12: by the table, main faults where document 01 says so
    pub faults_is : (n : ℕ) → n ≤ most_qubits → faults_at g matrix n ≡ program_faults P n
    unfolding faults_at
    faults_is n l =
        let e : min n most_qubits ≡ n = omega arith in
        let H = holds_lengths n l n (le_refl n) in
        rw e (sym (main_touches P names passes10 (known_touches (filled g ranks sums n n (replicate row_count 0))) n
        (λ q m pq lq c pm lm. H.right q m pq (rw (count_at g) at lq) pm (omega arith)
        (asked_on n l 0 n m zero-le (le_refl n) (asked_first n l) c pm lm, suc-le-suc lm))))
