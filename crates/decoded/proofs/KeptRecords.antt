-- The program while it fills: what was put down of earlier records and of bodies stays.
use Rattle.std.proofs.Common.{get_or-set_same, get_or-set_other, length-set, ℕ, ◌+◌, ◌<◌, ◌≤◌, ◌≡◌, refl, ap, ◌∙◌, length, List, arith}
use borrow.Author.Tests.{lt-ltb}
use Rattle.limits.specs.Sizes.{place_count, body_count}
use Rattle.model.specs.Limits.{most_records}
use Rattle.model.proofs.BooleanLaws.{by_bool}
use lib.Dec.{ltb}
use Rattle.records.specs.declared.Record.{Record}
use Rattle.decoded.specs.declared.Program.{Program}
use Rattle.decoded.specs.declared.Entry.{Entry}
use Rattle.decoded.specs.DecodedTable.{Whole, blank, entry_of, end_of, root_of, procedure_count, with_root, with_entry, with_end}
use Rattle.decoded.specs.RecordsPutDown.{put, recorded}
use Rattle.decoded.proofs.RecordsOfAProgram.{Row}

-- a record that is put down stands at its number, and every other one is as it was
pub entry_there : (g : Program) (i : ℕ) (e : Entry) → i < length g.entries → entry_of (with_entry i e g) i ≡ e
entry_there g i e l = get_or-set_same g.entries i e blank l

pub entry_other : (g : Program) (i q : ℕ) (e : Entry) → (q ≡ i → ⊥) → entry_of (with_entry i e g) q ≡ entry_of g q
entry_other g i q e n = get_or-set_other g.entries i q e blank n

-- two programs have the same records from lo on and before hi
pub record Same (lo hi : ℕ) (g h : Program) : Type 0 where
  pub entries : (q : ℕ) → lo ≤ q → q < hi → entry_of h q ≡ entry_of g q

-- so the records behind their subtrees
pub same_ends : {lo hi : ℕ} {g h : Program} → Same lo hi g h → (q : ℕ) → lo ≤ q → q < hi → end_of h q ≡ end_of g q
same_ends s q a b = ap (λ (x : Entry). x.end) (s.entries q a b)

-- what two have the same, and then two others, the first and the last have the same
pub same_then :
    (low high : ℕ) {lo hi lo' hi' : ℕ} {g h k : Program} → lo ≤ low → high ≤ hi → lo' ≤ low → high ≤ hi' →
    Same lo hi g h → Same lo' hi' h k → Same low high g k
same_then low high a b c d s t = record { entries = λ q e f. t.entries q (omega arith) (omega arith) ∙ s.entries q (omega arith) (omega arith) }

-- what two have the same, they have the same of a part of it
pub same_part : (low high : ℕ) {lo hi : ℕ} {g h : Program} → lo ≤ low → high ≤ hi → Same lo hi g h → Same low high g h
same_part low high a b s = record { entries = λ q e f. s.entries q (omega arith) (omega arith) }

-- a later program has what this one has of the records before i, of the bodies and of their number, and is whole where this one is
pub record Kept (i : ℕ) (g h : Program) : Type 0 where
  pub same : Same 0 i g h
  pub roots : h.roots ≡ g.roots
  pub procedures : h.procedures ≡ g.procedures
  pub long : length h.entries ≡ length g.entries

pub kept_whole : {i : ℕ} {g h : Program} → Kept i g h → Whole g → Whole h
kept_whole s w = record { roots = rw s.roots w.roots; entries = s.long ∙ w.entries }

-- so a record that was put down
pub same_row : (bs : List ℕ) (r : Record) (i at : ℕ) {lo hi : ℕ} {g h : Program} → Same lo hi g h → lo ≤ i → i < hi → Row bs r g i at → Row bs r h i at
same_row bs r i at s a b row =
    let e = s.entries i a b in
    record {
      read = ap (λ (x : Entry). x.read) e ∙ row.read;
      removals = ap (λ (x : Entry). x.removals) e ∙ row.removals;
      place = ap (λ (x : Entry). x.place) e ∙ row.place;
    }

-- so the number of procedures, and the roots of bodies
pub kept_count : {i : ℕ} {g h : Program} → Kept i g h → procedure_count h ≡ procedure_count g
kept_count s = s.procedures

pub kept_root : {i : ℕ} {g h : Program} → Kept i g h → (f : ℕ) → root_of h f ≡ root_of g f
kept_root s f = rw s.roots

-- a program keeps what it has
pub kept_itself : (i : ℕ) (g : Program) → Kept i g g
kept_itself i g = record { same = record { entries = λ q a b. refl }; roots = refl; procedures = refl; long = refl }

-- what is kept, and then kept again, is kept
pub kept_then : {i j : ℕ} {g h k : Program} → i ≤ j → Kept i g h → Kept j h k → Kept i g k
kept_then {i} l s t =
    record {
      same = same_then 0 i (omega arith) (omega arith) (omega arith) l s.same t.same;
      roots = t.roots ∙ s.roots;
      procedures = t.procedures ∙ s.procedures;
      long = t.long ∙ s.long;
    }

-- to put down record i keeps the records before it
kept_entry : (i : ℕ) (e : Entry) (g : Program) → Kept i g (with_entry i e g)
kept_entry i e g =
    record { same = record { entries = λ q a b. entry_other g i q e (λ n. omega arith) }; roots = refl; procedures = refl; long = length-set g.entries i e }

pub kept_record : (bs : List ℕ) (r : Record) (at i : ℕ) (g : Program) → Kept i g (recorded bs r at i g)
kept_record bs r at i g = kept_entry i _ g

-- and it stands there
pub recorded_there : (bs : List ℕ) (r : Record) (at i : ℕ) (g : Program) → Whole g → i < most_records → Row bs r (recorded bs r at i g) i at
recorded_there bs r at i g w l =
    let e = entry_there g i (put bs r at) (rw w.entries (omega arith)) in
    record { read = ap (λ (x : Entry). x.read) e; removals = ap (λ (x : Entry). x.removals) e; place = ap (λ (x : Entry). x.place) e }

-- the record behind record i's subtree
module _ (i total : ℕ) (g : Program) where
  -- to note it keeps the records before i
  pub kept_end : Kept i g (with_end i total g)
  unfolding with_end
  kept_end = by_bool (ltb total place_count) (λ t. rw t (kept_entry i _ g)) (λ t. rw t (kept_itself i g))

  -- it stands there, and record i is what it was
  pub end_there : Whole g → i < most_records → total < place_count → end_of (with_end i total g) i ≡ total
  unfolding with_end
  end_there w h l =
      rw (lt-ltb total place_count l)
      (ap (λ (x : Entry). x.end) (entry_there g i (record (entry_of g i) { end = total }) (rw w.entries (omega arith))))

  pub end_row : (bs : List ℕ) (r : Record) (at : ℕ) → Whole g → i < most_records → Row bs r g i at → Row bs r (with_end i total g) i at
  unfolding with_end
  end_row bs r at w h row =
      let e = entry_there g i (record (entry_of g i) { end = total }) (rw w.entries (omega arith)) in
      by_bool (ltb total place_count)
      (λ t. rw t
      (record {
        read = ap (λ (x : Entry). x.read) e ∙ row.read;
        removals = ap (λ (x : Entry). x.removals) e ∙ row.removals;
        place = ap (λ (x : Entry). x.place) e ∙ row.place;
      }))
      (λ t. rw t row)

  -- and has the same of those behind i
  pub same_end : (j : ℕ) → Same (i + 1) j g (with_end i total g)
  unfolding with_end
  same_end j =
      by_bool (ltb total place_count)
      (λ t. rw t (record { entries = λ q a b. entry_other g i q _ (λ n. omega arith) }))
      (λ t. rw t (record { entries = λ q a b. refl }))

-- to note a root keeps every record and the number of procedures
module _ (f value : ℕ) (g : Program) where
  pub same_root : (i : ℕ) → Same 0 i g (with_root f value g)
  unfolding with_root
  same_root i =
      by_bool (ltb value place_count) (λ t. rw t (record { entries = λ q a b. refl })) (λ t. rw t (record { entries = λ q a b. refl }))

  pub root_count_lem : procedure_count (with_root f value g) ≡ procedure_count g
  unfolding with_root
  root_count_lem = by_bool (ltb value place_count) (λ t. rw t) (λ t. rw t)

  pub root_whole : Whole g → Whole (with_root f value g)
  unfolding with_root
  root_whole w =
      by_bool (ltb value place_count) (λ t. rw t (record { roots = length-set g.roots f value ∙ w.roots; entries = w.entries })) (λ t. rw t w)

  -- it stands there, and every other root is what it was
  pub root_there : Whole g → f < body_count → value < place_count → root_of (with_root f value g) f ≡ value
  unfolding with_root
  root_there w h l = rw (lt-ltb value place_count l) (get_or-set_same g.roots f value 0 (rw w.roots (omega arith)))

  pub root_other : (q : ℕ) → (q ≡ f → ⊥) → root_of (with_root f value g) q ≡ root_of g q
  unfolding with_root
  root_other q n = by_bool (ltb value place_count) (λ t. rw t (get_or-set_other g.roots f q value 0 n)) (λ t. rw t)
