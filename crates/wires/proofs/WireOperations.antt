-- What the functions on wires give, as their code computes it.
use mathlib.Core.Path.{◌≡◌, refl, ap, sym, ◌∙◌, fun_ext}
use mathlib.Core.Logic.{◌≢◌}
use mathlib.Core.Bool.{Bool, true, false, not, beq, true≢false}
use mathlib.Core.List.{List, ◌++◌, map}
use Prim.Native.Nat.{ℕ, zero, suc, ◌+◌, ◌-◌, ◌*◌, ◌/◌, ◌%◌, ◌^◌, ◌≤◌, ◌<◌}
use native.Mathlib.Nat.{mod-lt, zero-lt-suc, div-one}
use native.Mathlib.Omega.{arith}
use borrow.Author.Rules.{rules, length_unmapped}
use borrow.Author.Tests.{eq-eqb, ne_eqb}
use mir.Syntax.{w8, w64}
use mir.Val.{Fits}
use lib.Dec.{eqb}
use lib.ListN.{length, get_or, set, length-set, replicate, length-replicate, get_or-replicate, get_or-eq_default}
use lib.Seq.{get_or-append_right, get_or-set_same, get_or-set_other, ext_get_or}
use lib.Bits.{bit_and, bit_xor, xor_zero_r}
use Rattle.std.specs.Int.{to_le_bytes}
use Rattle.limits.specs.Sizes.{block_bits}
use Rattle.model.specs.Limits.{block_length}
use Rattle.model.specs.Meaning.{State, bit, flipped, state_of}
use Rattle.model.specs.Gates.{exchange, renamed}
use Rattle.model.specs.Circuit.{block_of}
use Rattle.model.proofs.BooleanLaws.{by_eq, by_lt, not_not}
use Rattle.model.proofs.GateLaws.{flipped_same, flipped_other, exchange_left, exchange_right, exchange_other, renamed_at}
use Rattle.wires.specs.declared.Wires.{Wires}
use Rattle.wires.specs.StateOfABlock.{state_in, wires_of, in_state, flipped_in}
use Rattle.model.proofs.WordBits.{zero_bit, past_bit, tested, flip_same, flip_other, shifted}
use Rattle.wires.proofs.ByteBits.{flip_byte, byte_bit}
use Rattle.wires.proofs.BlocksAndStates.{IsBlock, state_at, state_zero, block_wire, block_is, block_of_state, same_block}

-- what is known of a field that is an array of bytes as long as a block, from its type
pub is_block : (bytes : List ℕ) → length (map (λ (b : ℕ). b) bytes) ≡ block_length → ((i : ℕ) → Fits w8 (get_or bytes i 0)) → IsBlock bytes
is_block bytes long byte = record { long = length_unmapped ℕ bytes block_length long; byte = λ i. (byte i).fits }

before : (w : ℕ) → w ≢ 0 → w ≡ suc (w - 1)
before w n = omega arith

-- bytes beside the data count and the ancilla count
abbrev holding : ℕ → ℕ → List ℕ → Wires
holding n ancillas bytes = record { bits = bytes; «data» = n; ancillas = ancillas }

abbrev beside : Wires → List ℕ → Wires
beside wires bytes = holding wires.«data» wires.ancillas bytes

-- the wires are in the state that their bytes hold
pub same_state : (wires : Wires) → IsBlock wires.bits → wires ≡ in_state (state_in wires.bits) wires
same_state wires h = ap (beside wires) (sym (block_of_state wires.bits h))

-- ---- holds

-- number 0 is no wire
pub holds_none : (bytes : List ℕ) (w : ℕ) → (1 ≤ w → ⊥) → false ≡ state_in bytes w
holds_none bytes w no_wire = let e : w ≡ 0 = omega arith in rw e (sym (state_zero bytes))

-- the bit of a wire
pub holds_bit : (bytes : List ℕ) (w place : ℕ) → (1 ≤ w) × (place ≡ w - 1)
    → eqb (bit_and (get_or bytes (place / 8) 0 / 2 ^ (place % 8)) 1) 1 ≡ state_in bytes w
holds_bit bytes w place (some, e) =
    tested (get_or bytes (place / 8) 0) (place % 8)
    ∙ sym (ap (state_in bytes) (let at : w ≡ suc place = omega arith in at) ∙ state_at bytes place)

-- ---- flip

-- the bytes with the bit of wire k + 1 flipped
abbrev flip_at : List ℕ → ℕ → List ℕ
flip_at bytes k = set bytes (k / 8) (bit_xor (get_or bytes (k / 8) 0) (2 ^ (k % 8)))

module _ (bytes : List ℕ) (h : IsBlock bytes) (k : ℕ) (l : k < block_bits) where
  at_byte : get_or (flip_at bytes k) (k / 8) 0 ≡ bit_xor (get_or bytes (k / 8) 0) (2 ^ (k % 8))
  at_byte = get_or-set_same bytes (k / 8) (bit_xor (get_or bytes (k / 8) 0) (2 ^ (k % 8))) 0 (rw h.long (omega arith))

  at_other_byte : (i : ℕ) → i ≢ k / 8 → get_or (flip_at bytes k) i 0 ≡ get_or bytes i 0
  at_other_byte i n = get_or-set_other bytes (k / 8) i (bit_xor (get_or bytes (k / 8) 0) (2 ^ (k % 8))) 0 n

  flip_is_block : IsBlock (flip_at bytes k)
  flip_is_block = record {
    long = length-set bytes (k / 8) _ ∙ h.long;
    byte = λ i. by_eq i (k / 8)
        (λ e. rw (e, at_byte) (flip_byte (get_or bytes (k / 8) 0) (k % 8) (h.byte (k / 8)) (omega arith)))
        (λ n. rw (at_other_byte i n) (h.byte i));
  }

  flip_wire : state_in (flip_at bytes k) (suc k) ≡ not (state_in bytes (suc k))
  flip_wire =
      state_at (flip_at bytes k) k
      ∙ ap (λ (x : ℕ). bit x (k % 8)) at_byte
      ∙ flip_same (get_or bytes (k / 8) 0) (k % 8)
      ∙ ap not (sym (state_at bytes k))

  flip_other_wire : (j : ℕ) → j ≢ k → state_in (flip_at bytes k) (suc j) ≡ state_in bytes (suc j)
  flip_other_wire j n = state_at (flip_at bytes k) j ∙ by_eq (j / 8) (k / 8)
      (λ e. rw (e, at_byte) (flip_other (get_or bytes (k / 8) 0) (k % 8) (j % 8) (λ q. n (omega arith))))
      (λ m. ap (λ (x : ℕ). bit x (j % 8)) (at_other_byte (j / 8) m))
      ∙ sym (state_at bytes j)

  flip_bytes : flip_at bytes k ≡ block_of (flipped (suc k) (state_in bytes))
  flip_bytes = sym (block_is (flip_at bytes k) flip_is_block (flipped (suc k) (state_in bytes)) wire)
    where
      wire : (w : ℕ) → 1 ≤ w → w ≤ block_bits → flipped (suc k) (state_in bytes) w ≡ state_in (flip_at bytes k) w
      wire zero p q = absurd (omega arith)
      wire (suc j) p q = by_eq j k
          (λ e. rw e (flipped_same (state_in bytes) (suc k) ∙ sym flip_wire))
          (λ n. flipped_other (state_in bytes) (suc k) (suc j) (λ e. n (omega arith)) ∙ sym (flip_other_wire j n))

module _ (wires : Wires) where
  abbrev now : State
  now = state_in wires.bits

  -- number 0 is no wire
  pub flips_none : (w : ℕ) → IsBlock wires.bits → (1 ≤ w → ⊥) → wires ≡ in_state (flipped w now) wires
  flips_none w h no_wire = ap (beside wires)
      (sym (block_is wires.bits h (flipped w now) (λ v l m. flipped_other now w v (λ q. omega arith))))

flipped_not : (i byte mask : ℕ) → i ≢ byte → 0 ≡ flipped_in i byte mask
flipped_not i byte mask n = rw (ne_eqb i byte n)

flipped_here : (i byte mask : ℕ) → i ≡ byte → mask ≡ flipped_in i byte mask
flipped_here i byte mask e = rw (eq-eqb i byte e)

-- bytes of which the first i are those behind a flip
pub record Flipping (before : List ℕ) (byte mask i : ℕ) (after : List ℕ) : Type 0 where
  pub long : length after ≡ length before
  pub below : (j : ℕ) → j < i → get_or after j 0 ≡ bit_xor (get_or before j 0) (flipped_in j byte mask)
  pub above : (j : ℕ) → i ≤ j → get_or after j 0 ≡ get_or before j 0

module _ (bytes : List ℕ) (byte mask : ℕ) where
  -- no byte yet
  pub flip_none : Flipping bytes byte mask 0 bytes
  flip_none = record { long = refl; below = λ j l. absurd (omega arith); above = λ j l. refl }

  module _ (i : ℕ) (after : List ℕ) (f : Flipping bytes byte mask i after) where
    -- one byte more
    pub flip_byte_more : i < length bytes → (x y : ℕ) → x ≡ flipped_in i byte mask → y ≡ bit_xor (get_or after i 0) x →
        Flipping bytes byte mask (i + 1) (set after i y)
    flip_byte_more l x y is e = record {
      long = length-set after i _ ∙ f.long;
      below = λ j m. by_eq j i
          (λ q. rw (q, get_or-set_same after i y 0 (rw f.long l), e, f.above i (omega arith), is))
          (λ n. get_or-set_other after i j _ 0 n ∙ f.below j (omega arith));
      above = λ j m. get_or-set_other after i j _ 0 (λ q. omega arith) ∙ f.above j (omega arith);
    }

    -- all bytes: one of them is flipped in
    flip_all : byte < length bytes → length bytes ≤ i → after ≡ set bytes byte (bit_xor (get_or bytes byte 0) mask)
    flip_all l g = ext_get_or 0 after (set bytes byte (bit_xor (get_or bytes byte 0) mask))
        (f.long ∙ sym (length-set bytes byte _))
        (λ j m. let k : j < length bytes = rw f.long at m in f.below j (omega arith) ∙ by_eq j byte
        (λ e. rw (e, ← flipped_here byte byte mask refl, get_or-set_same bytes byte (bit_xor (get_or bytes byte 0) mask) 0 l))
        (λ n. rw (← flipped_not j byte mask n, get_or-set_other bytes byte j (bit_xor (get_or bytes byte 0) mask) 0 n)
        (xor_zero_r (get_or bytes j 0))))

-- the bit of a wire, flipped
pub flips_bit : (wires : Wires) (w place : ℕ) → IsBlock wires.bits → (1 ≤ w) × (place ≡ w - 1) → w < 256 → (i : ℕ) (after : List ℕ) → block_length ≤ i
    → Flipping wires.bits (place / 8) ((1 * 2 ^ (place % 8)) % 256) i after → beside wires after ≡ in_state (flipped w (now wires)) wires
flips_bit wires w place h (some, at) l i after g f =
    let suc_place : suc place ≡ w = omega arith in
    ap (beside wires) (flip_all wires.bits (place / 8) ((1 * 2 ^ (place % 8)) % 256) i after f (rw h.long (omega arith)) (rw h.long g)
    ∙ ap (λ (m : ℕ). set wires.bits (place / 8) (bit_xor (get_or wires.bits (place / 8) 0) m)) (shifted 8 (place % 8) (omega arith))
    ∙ flip_bytes wires.bits h place (omega arith)
    ∙ ap (λ (v : ℕ). block_of (flipped v (now wires))) suc_place)

pub ruleset flipping = (rules, is_block, flips_none, flip_none, flip_byte_more, flips_bit)

-- ---- swap

same : (a b : Bool) → beq a b ≡ true → a ≡ b
same true true e = refl
same true false e = absurd (true≢false (sym e))
same false true e = absurd (true≢false (sym e))
same false false e = refl

differ : (a b : Bool) → beq a b ≡ false → b ≡ not a
differ true true e = absurd (true≢false e)
differ true false e = refl
differ false true e = refl
differ false false e = absurd (true≢false e)

-- two wires that hold the same, exchanged, leave the state
exchange_same : (s : State) (u v : ℕ) → s u ≡ s v → renamed (exchange u v) s ≡ s
exchange_same s u v e = fun_ext (λ w. renamed_at (exchange u v) s w ∙ by_eq w u
    (λ p. rw (p, exchange_left u v) (sym e))
    (λ nu. by_eq w v
    (λ p. rw (p, exchange_right u v) e)
    (λ nv. ap s (exchange_other u v w nu nv))))

-- two wires that differ, exchanged, are both flipped
exchange_differ : (s : State) (u v : ℕ) → s v ≡ not (s u) → renamed (exchange u v) s ≡ flipped v (flipped u s)
exchange_differ s u v d = fun_ext (λ w. renamed_at (exchange u v) s w ∙ by_eq w u
    (λ p. rw (p, exchange_left u v) (d ∙ sym (flipped_other (flipped u s) v u apart ∙ flipped_same s u)))
    (λ nu. by_eq w v
    (λ p. rw (p, exchange_right u v)
    (sym (flipped_same (flipped u s) v ∙ ap not (flipped_other s u v (λ e. apart (sym e)) ∙ d) ∙ not_not (s u))))
    (λ nv. ap s (exchange_other u v w nu nv) ∙ sym (flipped_other (flipped u s) v w nv ∙ flipped_other s u w nu))))
  where
    never : (b : Bool) → b ≡ not b → ⊥
    never true e = true≢false e
    never false e = true≢false (sym e)

    apart : u ≢ v
    apart e = never (s u) (ap s e ∙ d)

-- a flip goes by what the block holds
flip_block : (s : State) (w : ℕ) → block_of (flipped w (state_in (block_of s))) ≡ block_of (flipped w s)
flip_block s w = same_block (flipped w (state_in (block_of s))) (flipped w s) (λ v l m. by_eq v w
    (λ e. rw e (flipped_same (state_in (block_of s)) w ∙ ap not (block_wire s w (rw e at l) (rw e at m)) ∙ sym (flipped_same s w)))
    (λ n. flipped_other (state_in (block_of s)) w v n ∙ block_wire s v l m ∙ sym (flipped_other s w v n)))

module _ (wires : Wires) (u v : ℕ) (a b : Bool) (at_u : a ≡ now wires u) (at_v : b ≡ now wires v) where
  -- where both hold the same, the wires stay
  pub swaps_same : IsBlock wires.bits → beq a b ≡ true → wires ≡ in_state (renamed (exchange u v) (now wires)) wires
  swaps_same h e =
      same_state wires h ∙ ap (λ (s : State). in_state s wires) (sym (exchange_same (now wires) u v (sym at_u ∙ same a b e ∙ at_v)))

  -- where they differ, both are flipped
  pub swaps_differ : (once twice : Wires) → beq a b ≡ false
      → once ≡ in_state (flipped u (now wires)) wires → twice ≡ in_state (flipped v (state_in once.bits)) once
      → twice ≡ in_state (renamed (exchange u v) (now wires)) wires
  swaps_differ once twice e o t =
      t ∙ ap (λ (x : Wires). in_state (flipped v (state_in x.bits)) x) o
      ∙ ap (beside wires)
      (flip_block (flipped u (now wires)) v
      ∙ ap block_of (sym (exchange_differ (now wires) u v (sym at_v ∙ differ a b e ∙ ap not at_u))))

-- ---- start

repeated : (n j z : ℕ) → get_or (replicate n z) j z ≡ z
repeated n j z = by_lt j n
    (λ l. get_or-replicate n j z z l)
    (λ g. get_or-eq_default (replicate n z) z (rw (length-replicate n z) g))

-- the bytes of a word, and zeros behind them
abbrev written : ℕ → List ℕ
written word = to_le_bytes w64 word ++ replicate 24 0

written_below : (word j : ℕ) → j < 8 → get_or (written word) j 0 ≡ word / 2 ^ (8 * j) % 256
written_below word zero l = ap (λ (x : ℕ). x % 256) (sym (div-one word))
written_below word (suc zero) l = refl
written_below word (suc (suc zero)) l = refl
written_below word (suc (suc (suc zero))) l = refl
written_below word (suc (suc (suc (suc zero)))) l = refl
written_below word (suc (suc (suc (suc (suc zero))))) l = refl
written_below word (suc (suc (suc (suc (suc (suc zero)))))) l = refl
written_below word (suc (suc (suc (suc (suc (suc (suc zero))))))) l = refl
written_below word (suc (suc (suc (suc (suc (suc (suc (suc j)))))))) l = absurd (omega arith)

written_above : (word j : ℕ) → 8 ≤ j → get_or (written word) j 0 ≡ 0
written_above word j h = get_or-append_right (to_le_bytes w64 word) (replicate 24 0) j 0 h ∙ repeated 24 (j - 8) 0

word_block : (word : ℕ) → word < 2 ^ 64 → written word ≡ block_of (state_of word)
unfolding state_of
word_block word l = sym (block_is (written word) (record { long = refl; byte = byte }) (state_of word) wire)
  where
    byte : (i : ℕ) → get_or (written word) i 0 < 256
    byte i = by_lt i 8
        (λ m. rw (written_below word i m) (mod-lt (word / 2 ^ (8 * i)) (zero-lt-suc 255)))
        (λ g. rw (written_above word i g) (zero-lt-suc 255))

    wire : (w : ℕ) → 1 ≤ w → w ≤ block_bits → state_of word w ≡ state_in (written word) w
    wire zero p q = absurd (omega arith)
    wire (suc k) p q = sym (state_at (written word) k ∙ by_lt (k / 8) 8
        (λ m. rw (written_below word (k / 8) m) (byte_bit word (8 * (k / 8)) (k % 8) (omega arith) ∙ ap (bit word) (omega arith)))
        (λ g. rw (written_above word (k / 8) g) (zero_bit (k % 8) ∙ sym (past_bit 64 word k l (omega arith)))))

pub start_is : (n ancillas word : ℕ) (bytes : List ℕ) → word < 2 ^ 64 → bytes ≡ to_le_bytes w64 word →
    holding n ancillas (bytes ++ replicate 24 0) ≡ wires_of n ancillas (state_of word)
start_is n ancillas word bytes l e = ap (λ (b : List ℕ). holding n ancillas (b ++ replicate 24 0)) e ∙ ap (holding n ancillas) (word_block word l)
