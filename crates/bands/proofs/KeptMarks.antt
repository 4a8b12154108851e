-- What is kept of a band's gates are their marks: so the rows put from it are the rows of the gates.
use mathlib.Core.Path.{◌≡◌, refl, ap₂, ◌∙◌}
use mathlib.Core.Bool.{true, false, ◌&&◌}
use mathlib.Core.List.{List, [], ◌∷◌, ◌++◌}
use Prim.Native.Nat.{ℕ, zero, suc, ◌+◌, ◌-◌, ◌≤◌, ◌<◌}
use native.Mathlib.Nat.{add-zero, zero-add}
use native.Mathlib.Omega.{arith}
use borrow.Author.Tests.{lt-ltb, le-ltb}
use lib.ListN.{length, get_or, set, length-set, length-append, take, replicate, length-replicate, get_or-replicate}
use lib.Seq.{get_or-set_same, get_or-set_other, get_or-append_seam, set-append_seam, take-append_seam}
use lib.Dec.{ltb}
use Rattle.std.specs.Prelude.{map}
use Rattle.std.proofs.lemmas.List.{append_assoc, append-nil}
use Rattle.limits.specs.Sizes.{wire_count}
use Rattle.model.specs.Reading.{Input, Parsed, parsed, refused, and_then}
use Rattle.model.specs.Lists.{member, range}
use Rattle.model.specs.Gates.{Gate, targets}
use Rattle.model.specs.Circuit.{wires, controls_of, read_gate}
use Rattle.model.specs.Listing.{plus, newline}
use Rattle.model.specs.Page.{band_gates, bar, dash, letter_o, letter, lowest, highest, between, mark, marks, right_aligned, rows, band, read_band}
use Rattle.model.proofs.BooleanLaws.{by_bool, by_eq, by_lt, not_true_false, clash}
use Rattle.model.proofs.ListLaws.{member_head, member_tail, member_cases, member_nil, not_in_nil, range_bounds, not_head, not_tail}
use Rattle.model.proofs.PageBands.{band_end, band_gate}
use Rattle.marks.specs.declared.Span.{Span}
use Rattle.marks.specs.Columns.{wider, span_from, span_of, inside, mark_all, mark_gate, Kept, mark_from}
use Rattle.marks.proofs.MarkedBand.{from_end_lem, from_more}
use Rattle.bands.specs.MarkedRows.{marked, marks_at, rows_at}

-- a column without marks
abbrev pub dashes : List ℕ
dashes = replicate wire_count dash

-- One mark on each of some wires.

mark_all_length : (sign : ℕ) (l kept : List ℕ) → length (mark_all sign l kept) ≡ length kept
mark_all_length sign [] kept = refl
mark_all_length sign (v ∷ l) kept = mark_all_length sign l (set kept v sign) ∙ length-set kept v sign

-- a wire that is none of theirs keeps its mark
mark_all_not : (sign : ℕ) (l kept : List ℕ) (w : ℕ) → member w l ≡ false → get_or (mark_all sign l kept) w 0 ≡ get_or kept w 0
mark_all_not sign [] kept w n = refl
mark_all_not sign (v ∷ l) kept w n =
    mark_all_not sign l (set kept v sign) w (not_tail w v l n) ∙ get_or-set_other kept v w sign 0 (not_head w v l n)

-- one of theirs has the mark
mark_all_there : (sign : ℕ) (l kept : List ℕ) (w : ℕ) → w < length kept → member w l ≡ true → get_or (mark_all sign l kept) w 0 ≡ sign
mark_all_there sign [] kept w h m = not_in_nil w m
mark_all_there sign (v ∷ l) kept w h m =
    let kept₁ : List ℕ = set kept v sign in
    let long : w < length kept₁ = rw (length-set kept v sign) h in
    by_bool (member w l) (λ i. mark_all_there sign l kept₁ w long i) (λ n.
    mark_all_not sign l kept₁ w n ∙
    member_cases w v l m (λ e. rw e (get_or-set_same kept v sign 0 (rw e at h))) (λ i. clash i n))

-- The bars.

-- between two wires are those above the lower and below the higher
range_has : (n a w : ℕ) → a ≤ w → w < a + n → member w (range n a) ≡ true
unfolding range
range_has zero a w h l = absurd (omega arith)
range_has (suc n) a w h l = by_eq w a
    (λ e. rw e (member_head a (range n (suc a))))
    (λ f. member_tail w a (range n (suc a)) (range_has n (suc a) w (omega arith) (omega arith)))

range_lacks : (n a w : ℕ) → (a ≤ w → a + n ≤ w) → member w (range n a) ≡ false
range_lacks n a w out = not_true_false (member w (range n a)) (λ m.
    let r = range_bounds n a w m in let h : a + n ≤ w = out r.0 in let l : w < a + n = r.1 in absurd (omega arith))

inside_is : (s : Span) (w : ℕ) → member w (inside s) ≡ ltb s.low w && ltb w s.high
inside_is s w = by_lt s.low w
    (λ h. by_lt w s.high
    (λ l. rw (lt-ltb s.low w h, lt-ltb w s.high l) (range_has (s.high - suc s.low) (suc s.low) w (omega arith) (omega arith)))
    (λ l. rw (lt-ltb s.low w h, le-ltb w s.high l) (range_lacks (s.high - suc s.low) (suc s.low) w (λ a. omega arith))))
    (λ h. rw (le-ltb s.low w h) (range_lacks (s.high - suc s.low) (suc s.low) w (λ a. absurd (omega arith))))

-- the outermost of some wires are the lowest and the highest of them
span_is : (s : Span) (l : List ℕ) → span_from s l ≡ record { low = lowest s.low l; high = highest s.high l }
unfolding lowest highest
span_is s [] = refl
span_is s (w ∷ l) = span_is (wider s w) l

between_is : (ws : List ℕ) (w : ℕ) → member w (inside (span_of ws)) ≡ between ws w
unfolding span_of between range
between_is [] w = member_nil w
between_is (v ∷ l) w = rw (span_is (record { low = v; high = v }) l) (inside_is (record { low = lowest v l; high = highest v l }) w)

-- A gate: the marks of its targets stand over those of its controls, and these over its bars.
gate_kept : (g : Gate) (w : ℕ) → w < wire_count → get_or (mark_gate g dashes) w 0 ≡ mark g w
unfolding mark
gate_kept g w h =
    let cs = controls_of g in let ws = wires g in
    let inner : List ℕ = inside (span_of ws) in
    let bars : List ℕ = mark_all bar inner dashes in
    let zeros : List ℕ = mark_all letter_o cs.zeros bars in
    let ones : List ℕ = mark_all plus cs.ones zeros in
    let long : w < length dashes = rw (length-replicate wire_count dash) h in
    let bars_long : w < length bars = rw (mark_all_length bar inner dashes) long in
    let zeros_long : w < length zeros = rw (mark_all_length letter_o cs.zeros bars) bars_long in
    let ones_long : w < length ones = rw (mark_all_length plus cs.ones zeros) zeros_long in
    by_bool (member w (targets g))
    (λ a. rw (a, mark) (mark_all_there (letter g) (targets g) ones w ones_long a))
    (λ a. mark_all_not (letter g) (targets g) ones w a ∙
    by_bool (member w cs.ones)
    (λ b. rw (a, b, mark) (mark_all_there plus cs.ones zeros w zeros_long b))
    (λ b. mark_all_not plus cs.ones zeros w b ∙
    by_bool (member w cs.zeros)
    (λ c. rw (a, b, c, mark) (mark_all_there letter_o cs.zeros bars w bars_long c))
    (λ c. mark_all_not letter_o cs.zeros bars w c ∙
    by_bool (between ws w)
    (λ e. rw (a, b, c, e, mark) (mark_all_there bar inner dashes w long (between_is ws w ∙ e)))
    (λ e. rw (a, b, c, e, mark) (mark_all_not bar inner dashes w (between_is ws w ∙ e) ∙ get_or-replicate wire_count w dash 0 h)))))

-- A band: each gate in a column of its own.

-- the columns of gates, from this column on
unfoldable pub mark_gates : ℕ → List Gate → List (List ℕ) → List (List ℕ)
mark_gates column [] kept = kept
mark_gates column (g ∷ gs) kept = mark_gates (suc column) gs (set kept column (mark_gate g (get_or kept column [])))

abbrev column_of : Gate → List ℕ
column_of g = mark_gate g dashes

-- in columns without marks, of which there are enough, those of the gates are each gate's own
columns_kept : (done : List (List ℕ)) (gs : List Gate) (n : ℕ) → length gs ≤ n →
    take (length done + length gs) (mark_gates (length done) gs (done ++ replicate n dashes)) ≡ done ++ map column_of gs
unfolding mark_gates
columns_kept done [] n h = rw (add-zero (length done), take-append_seam done (replicate n dashes), append-nil done)
columns_kept done (g ∷ gs) zero h = absurd (omega arith)
columns_kept done (g ∷ gs) (suc n) h =
    let others : List (List ℕ) = replicate n dashes in
    let at_end : length (done ++ (column_of g ∷ [])) ≡ suc (length done) = rw (length-append done (column_of g ∷ [])) (omega arith) in
    let first : (done ++ (column_of g ∷ [])) ++ others ≡ done ++ (column_of g ∷ others) = append_assoc done (column_of g ∷ []) others in
    let more : length done + suc (length gs) ≡ suc (length done) + length gs = omega arith in
    let later = columns_kept (done ++ (column_of g ∷ [])) gs n (omega arith) in
    rw (get_or-append_seam done dashes others [], set-append_seam done dashes others (column_of g), more)
    (rw (at_end, first) at later ∙ append_assoc done (column_of g ∷ []) (map column_of gs))

-- the row of a wire has the gates' marks
marks_kept : (gs : List Gate) (w : ℕ) → w < wire_count → marks_at (map column_of gs) w ≡ marks gs w
unfolding marks_at marks
marks_kept [] w h = refl
marks_kept (g ∷ gs) w h = ap₂ (λ m l. marked m ++ l) (gate_kept g w h) (marks_kept gs w h)

-- so with all rows
rows_kept : (gs : List Gate) (k w : ℕ) → w + k ≤ wire_count → rows_at (map column_of gs) k w ≡ rows k w gs
unfolding rows_at rows range
rows_kept gs zero w h = refl
rows_kept gs (suc k) w h =
    ap₂ (λ l m. (right_aligned w ++ (l ++ (newline ∷ []))) ++ m) (marks_kept gs w (omega arith)) (rows_kept gs k (suc w) (omega arith))

-- the band put from the columns of at most nineteen gates is their band
pub band_kept : (most : ℕ) → most < wire_count → (gs : List Gate) → length gs ≤ band_gates →
    rows_at (take (length gs) (mark_gates 0 gs (replicate band_gates dashes))) most 1 ≡ band most gs
band_kept most few gs h =
    let own : take (length gs) (mark_gates 0 gs (replicate band_gates dashes)) ≡ map column_of gs = rw zero-add at (columns_kept [] gs band_gates h) in
    rw own (rows_kept gs most 1 (omega arith))

-- Reading the gates of a band and marking them in one go is reading them and then marking them.
abbrev pub mark_read : ℕ → List (List ℕ) → Parsed (List Gate) → Parsed Kept
mark_read column kept x = and_then x (λ gs j. parsed (record { count = column + length gs; columns = mark_gates column gs kept }) j)

-- one gate before others
mark_first : (column : ℕ) (g : Gate) (kept : List (List ℕ)) (x : Parsed (List Gate)) →
    mark_read (suc column) (set kept column (mark_gate g (get_or kept column []))) x ≡ mark_read column kept (and_then x (λ gs l. parsed (g ∷ gs) l))
unfolding and_then mark_gates
mark_first column g kept (parsed gs j) = let e : suc column + length gs ≡ column + suc (length gs) = omega arith in rw e
mark_first column g kept (refused k) = refl

pub marked_read : (most k column : ℕ) (i : Input) (kept : List (List ℕ)) → mark_from most k column i kept ≡ mark_read column kept (read_band most k i)
unfolding mark_gates and_then mark_from read_band
marked_read most zero column i kept = rw (add-zero column)
marked_read most (suc k) column i kept = by_eq (length i.bytes) 0
    (λ e. rw (from_end_lem most (suc k) column i kept e, band_end most (suc k) i e, add-zero column))
    (λ n.
    let same : suc k - 1 ≡ k = omega arith in
    rw (from_more most (suc k) column i kept (omega arith) n, band_gate most k i n, same)
    (go (read_gate most i) (λ g j. marked_read most k (suc column) j (set kept column (mark_gate g (get_or kept column []))))))
  where
    go : (x : Parsed Gate) →
        ((g : Gate) (j : Input) → mark_from most k (suc column) j (set kept column (mark_gate g (get_or kept column []))) ≡
        mark_read (suc column) (set kept column (mark_gate g (get_or kept column []))) (read_band most k j)) →
        and_then x (λ g j. mark_from most k (suc column) j (set kept column (mark_gate g (get_or kept column [])))) ≡
        mark_read column kept (and_then x (λ g j. and_then (read_band most k j) (λ gs l. parsed (g ∷ gs) l)))
    go (parsed g j) later = later g j ∙ mark_first column g kept (read_band most k j)
    go (refused r) later = refl
