-- Blocks of bytes and states give each other back, and gates keep a state within its block.
use mathlib.Core.Path.{◌≡◌, refl, ap, sym, ◌∙◌, subst, fun_ext}
use mathlib.Core.Bool.{true, false}
use mathlib.Core.List.{List, ◌∷◌, ◌++◌}
use Prim.Native.Nat.{ℕ, zero, suc, ◌+◌, ◌*◌, ◌/◌, ◌%◌, ◌^◌, ◌≤◌, ◌<◌}
use native.Mathlib.Nat.{not-suc-le-zero, le_trans}
use native.Mathlib.Omega.{arith}
use lib.Dec.{lit<}
use lib.ListN.{length, get_or, get_or-eq_default}
use lib.Seq.{ext_get_or}
use Rattle.limits.specs.Sizes.{block_bits}
use Rattle.model.specs.Limits.{block_length}
use Rattle.model.specs.Meaning.{State, bit, flipped, state_of, word_from}
use Rattle.model.specs.Gates.{Gate, flip, swap, exchange, renamed, fires, act}
use Rattle.model.specs.Circuit.{wires, within, block_from, block_of}
use Rattle.model.proofs.BooleanLaws.{by_bool, by_eq, by_lt}
use Rattle.model.proofs.AscendingWires.{within_head, within_tail}
use Rattle.model.proofs.GateLaws.{flipped_other, exchange_other, renamed_at}
use Rattle.wires.specs.StateOfABlock.{state_in}
use Rattle.model.proofs.WordBits.{zero_bit, past_bit, word_bit, word_below, word_is}

-- what the type of an array of bytes as long as a block says of a list
pub record IsBlock (bytes : List ℕ) : Type 0 where
  pub long : length bytes ≡ block_length
  pub byte : (i : ℕ) → get_or bytes i 0 < 256

-- ---- the state in a block

-- a wire's bit stands in the byte that document 01 names
pub state_at : (bytes : List ℕ) (k : ℕ) → state_in bytes (suc k) ≡ bit (get_or bytes (k / 8) 0) (k % 8)
unfolding state_in
state_at bytes k = refl

-- number 0 is no wire
pub state_zero : (bytes : List ℕ) → state_in bytes 0 ≡ false
unfolding state_in
state_zero bytes = refl

state_past : (bytes : List ℕ) (w : ℕ) → length bytes * 8 < w → state_in bytes w ≡ false
state_past bytes zero h = state_zero bytes
state_past bytes (suc k) h =
    state_at bytes k
    ∙ ap (λ (x : ℕ). bit x (k % 8)) (get_or-eq_default bytes 0 (omega arith))
    ∙ zero_bit (k % 8)

-- ---- the block of a state

block_length_lem : (n a : ℕ) (s : State) → length (block_from n a s) ≡ n
unfolding block_from
block_length_lem zero a s = refl
block_length_lem (suc n) a s = ap suc (block_length_lem n (a + 8) s)

block_byte : (n a : ℕ) (s : State) (i : ℕ) → i < n → get_or (block_from n a s) i 0 ≡ word_from 8 (a + 8 * i) s
unfolding block_from
block_byte zero a s i h = absurd (not-suc-le-zero h)
block_byte (suc n) a s zero h = ap (λ (b : ℕ). word_from 8 b s) (omega arith)
block_byte (suc n) a s (suc i) h = block_byte n (a + 8) s i (omega arith) ∙ ap (λ (b : ℕ). word_from 8 b s) (omega arith)

-- the block of a state has its length
pub block_bytes : (s : State) → IsBlock (block_of s)
block_bytes s = record {
  long = block_length_lem block_length 1 s;
  byte = λ i. by_lt i block_length
      (λ l. rw (block_byte block_length 1 s i l) (word_below 8 (1 + 8 * i) s))
      (λ g. rw (get_or-eq_default (block_of s) 0 {n = i} (rw (block_length_lem block_length 1 s) g)) (lit< tt));
}

-- a block holds what the wires of its state hold whose bits stand in it
pub block_wire : (s : State) (w : ℕ) → 1 ≤ w → w ≤ block_bits → state_in (block_of s) w ≡ s w
block_wire s zero h l = absurd (omega arith)
block_wire s (suc k) h l =
    state_at (block_of s) k
    ∙ ap (λ (x : ℕ). bit x (k % 8)) (block_byte block_length 1 s (k / 8) (omega arith))
    ∙ word_bit 8 (1 + 8 * (k / 8)) s (k % 8) (omega arith)
    ∙ ap s (omega arith)

-- bytes are the block of each state that has their bits on its wires
pub block_is : (bytes : List ℕ) → IsBlock bytes → (s : State) → ((w : ℕ) → 1 ≤ w → w ≤ block_bits → s w ≡ state_in bytes w) → block_of s ≡ bytes
block_is bytes h s e = ext_get_or 0 (block_of s) bytes (block_length_lem block_length 1 s ∙ sym h.long) (λ i l.
    let low : i < block_length = subst (λ (n : ℕ). i < n) (block_length_lem block_length 1 s) l in
    block_byte block_length 1 s i low
    ∙ word_is 8 (1 + 8 * i) s (get_or bytes i 0) (h.byte i) (λ k lk.
    ap s (omega arith)
    ∙ e (suc (8 * i + k)) (omega arith) (omega arith)
    ∙ state_at bytes (8 * i + k)
    ∙ ap (λ (j : ℕ). bit (get_or bytes j 0) ((8 * i + k) % 8)) (omega arith)
    ∙ ap (bit (get_or bytes i 0)) (omega arith)))

-- bytes are the block of the state in them: equal states have equal blocks
pub block_of_state : (bytes : List ℕ) → IsBlock bytes → block_of (state_in bytes) ≡ bytes
block_of_state bytes h = block_is bytes h (state_in bytes) (λ w l m. refl)

-- states that agree on the wires of a block have the same block
pub same_block : (s t : State) → ((w : ℕ) → 1 ≤ w → w ≤ block_bits → s w ≡ t w) → block_of s ≡ block_of t
same_block s t h = block_is (block_of t) (block_bytes t) s (λ w l m. h w l m ∙ sym (block_wire t w l m))

-- ---- states that stand in a block whole

-- only wires whose bits stand in a block may hold 1
pub record InBlock (s : State) : Type 0 where
  pub none : s 0 ≡ false
  pub past : (w : ℕ) → block_bits < w → s w ≡ false

-- such a state is the state in its block
pub state_of_block : (s : State) → InBlock s → state_in (block_of s) ≡ s
state_of_block s h = fun_ext (λ w. by_eq w 0
    (λ e. rw e (state_zero (block_of s) ∙ sym h.none))
    (λ ne. by_lt block_bits w
    (λ g. state_past (block_of s) w (rw (block_length_lem block_length 1 s) g) ∙ sym (h.past w g))
    (λ l. block_wire s w (omega arith) l)))

-- the state in a block is one of them
pub bytes_inside : (bytes : List ℕ) → IsBlock bytes → InBlock (state_in bytes)
bytes_inside bytes h = record { none = state_zero bytes; past = λ w g. state_past bytes w (rw h.long g) }

-- and so is the state of a data word
word_inside : (word : ℕ) → word < 2 ^ 64 → InBlock (state_of word)
unfolding state_of
word_inside word h = record { none = refl; past = past }
  where
    past : (w : ℕ) → block_bits < w → state_of word w ≡ false
    past zero g = refl
    past (suc k) g = past_bit 64 word k h (omega arith)

-- flipping a wire leaves it one of them
flipped_inside : (s : State) (w : ℕ) → InBlock s → 1 ≤ w → w ≤ block_bits → InBlock (flipped w s)
flipped_inside s w h l m = record {
  none = flipped_other s w 0 (λ e. omega arith) ∙ h.none;
  past = λ v g. flipped_other s w v (λ e. omega arith) ∙ h.past v g;
}

-- and so does exchanging two wires
exchanged_inside : (s : State) (u v : ℕ) → InBlock s → 1 ≤ u → u ≤ block_bits → 1 ≤ v → v ≤ block_bits → InBlock (renamed (exchange u v) s)
exchanged_inside s u v h lu mu lv mv = record {
  none = renamed_at (exchange u v) s 0 ∙ ap s (exchange_other u v 0 (λ e. omega arith) (λ e. omega arith)) ∙ h.none;
  past = λ w g. renamed_at (exchange u v) s w ∙ ap s (exchange_other u v w (λ e. omega arith) (λ e. omega arith)) ∙ h.past w g;
}

-- ---- the state after each function, by its contract

-- start's wires hold the data word and zeros
pub start_state : (word : ℕ) → word < 2 ^ 64 → state_in (block_of (state_of word)) ≡ state_of word
start_state word h = state_of_block (state_of word) (word_inside word h)

-- ---- a gate over the wires of a circuit

-- a gate over wires that have their bits in the block keeps the state within its block
pub act_inside : (most : ℕ) → most ≤ block_bits → (g : Gate) (s : State) → within most (wires g) ≡ true → InBlock s → InBlock (act g s)
unfolding act wires
act_inside most h (flip cs t) s e i =
    let at_t = within_head most t (cs.ones ++ cs.zeros) e in
    by_bool (fires cs s) (λ f. rw (f, act) (flipped_inside s t i at_t.0 (le_trans at_t.1 h))) (λ f. rw (f, act) i)
act_inside most h (swap cs u v) s e i =
    let at_u = within_head most u (v ∷ (cs.ones ++ cs.zeros)) e in
    let at_v = within_head most v (cs.ones ++ cs.zeros) (within_tail most u (v ∷ (cs.ones ++ cs.zeros)) e) in
    by_bool (fires cs s)
    (λ f. rw (f, act) (exchanged_inside s u v i at_u.0 (le_trans at_u.1 h) at_v.0 (le_trans at_v.1 h)))
    (λ f. rw (f, act) i)
