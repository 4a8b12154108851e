-- A run on words follows the model's run on states, where nothing faults: the word that it ends with is the end word.
use mathlib.Core.Path.{◌≡◌, refl, sym, ap, ◌∙◌}
use mathlib.Core.Logic.{◌≢◌}
use mathlib.Core.Bool.{false, not}
use mathlib.Core.List.{List, [], ◌∷◌}
use Prim.Native.Nat.{ℕ, zero, suc, ◌+◌, ◌^◌, ◌≤◌, ◌<◌, min}
use native.Mathlib.Omega.{arith}
use native.Mathlib.Nat.{not-suc-le-zero}
use native.Mathlib.Numerals.{one-add}
use lib.Bits.{bit_xor, xor_lt}
use lib.Pow.{pow-lt}
use Rattle.model.specs.Limits.{most_qubits}
use Rattle.model.specs.Syntax.{Number, Statement, skip, NOT, sequence, if, qcase, call, Program, body}
use Rattle.model.specs.Lists.{qubits, remaining, touched, holds}
use Rattle.model.specs.Faults.{touch_faults, call_faults_within, enough, program_faults}
use Rattle.model.specs.Meaning.{State, flipped, bit, state_of, CallDoes, call_does, does, call_does_within, end_state, end_word}
use Rattle.model.proofs.BooleanLaws.{by_bool, by_eq}
use Rattle.model.proofs.ListLaws.{not_head, Data, data_remaining, data_touched, qubits_data}
use Rattle.model.proofs.GateLaws.{flipped_same, flipped_other}
use Rattle.model.proofs.EnoughFuel.{does_yes, does_no, does_zero, does_one}
use Rattle.model.proofs.WordBits.{word_is, flip_same, flip_other}
use Rattle.agreement.proofs.ProgramFacts.{Safely, SafeCall, Safe}
use Rattle.agreement.proofs.FrameAndRenaming.{NoFault, safe_of}
use Rattle.run.specs.RunOnWords.{qubit_of, bit_flipped, flipped_word, bit_of, CallWords, call_words, word_does, call_words_within, ran_word}
use Rattle.run.proofs.WordClauses.{word_yes, word_no, word_zero, word_one, qubit_is}

-- a word of n bits holds what the wires from 1 on hold
pub record Follows (n : ℕ) (s : State) (w : ℕ) : Type 0 where
  pub below : w < 2 ^ n
  pub bits : (v : ℕ) → 1 ≤ v → s v ≡ state_of w v

-- read as a bit of the word
bit_at_lem : (n : ℕ) (s : State) (w k : ℕ) → Follows n s w → s (1 + k) ≡ bit w k
unfolding state_of
bit_at_lem n s w k F = ap s (one-add k) ∙ F.bits (suc k) (omega arith)

-- both with a qubit flipped
flip_bits : (k : ℕ) (s : State) (w : ℕ) → ((v : ℕ) → 1 ≤ v → s v ≡ state_of w v) → (v : ℕ) → 1 ≤ v →
    flipped (suc k) s v ≡ state_of (bit_xor w (2 ^ k)) v
unfolding state_of
flip_bits k s w h zero one = absurd (not-suc-le-zero one)
flip_bits k s w h (suc j) one = by_eq j k
    (λ e. rw e (flipped_same s (suc k) ∙ ap not (h (suc k) (omega arith)) ∙ sym (flip_same w k)))
    (λ ne. flipped_other s (suc k) (suc j) (λ e. ne (omega arith)) ∙ h (suc j) one ∙ sym (flip_other w k j ne))

flips : (n q : ℕ) (s : State) (w : ℕ) → q ≢ 0 → q ≤ n → Follows n s w → Follows n (flipped q s) (bit_flipped q w)
unfolding bit_flipped
flips n zero s w ne h F = absurd (ne refl)
flips n (suc k) s w ne h F = record { below = xor_lt n w (2 ^ k) F.below (pow-lt h); bits = flip_bits k s w F.bits }

-- calls on words follow safe calls
abbrev pub CallsFollow : ℕ → CallDoes → CallWords → Safely → Type 0
CallsFollow n o ow G = (f : ℕ) (l C : List ℕ) (s : State) (w : ℕ) → Data n l → G f l C → Follows n s w → Follows n (o f l s) (ow f l w)

module _ (n : ℕ) (most : n ≤ most_qubits) where
  module _ (rs : List Number) (a : Number) (l C : List ℕ) (D : Data n l) (s : State) (w : ℕ) (F : Follows n s w)
      (safe : touch_faults (touched rs a l) C ≡ false) where
    abbrev at : ℕ
    at = touched rs a l

    some : at ≢ 0
    some = not_head at 0 C safe

    is_qubit : qubit_of at ≡ at
    is_qubit = let h = data_touched n rs a l D in qubit_is at (omega arith)

    -- NOT flips the bit of the qubit that it touches
    flips_touched : Follows n (flipped at s) (flipped_word at w)
    flips_touched = rw is_qubit (flips n at s w some (data_touched n rs a l D) F)

    -- and qcase reads it
    reads_touched : bit_of at w ≡ s at
    reads_touched = rw is_qubit (sym (F.bits at (let h = some in omega arith)))

  module _ (o : CallDoes) (ow : CallWords) (G : Safely) (K : CallsFollow n o ow G) where
    call_follows : (f : ℕ) (l C : List ℕ) (s : State) (w : ℕ) → Data n l → SafeCall G f l C → Follows n s w →
        Follows n (call_does o f l s) (call_words ow f l w)
    unfolding call_does call_words
    call_follows f [] C s w D h F = F
    call_follows f (q ∷ l) C s w D h F = K f (q ∷ l) C s w D h F

    -- so do safe statements
    pub follows : (t : Statement) (l C : List ℕ) (s : State) (w : ℕ) → Data n l → Safe G t l C → Follows n s w →
        Follows n (does o t l s) (word_does ow t l w)
    unfolding does word_does
    follows skip l C s w D h F = F
    follows (NOT rs a) l C s w D h F = flips_touched rs a l C D s w F h
    follows (sequence t u) l C s w D h F = follows u l C (does o t l s) (word_does ow t l w) D h.1 (follows t l C s w D h.0 F)
    follows (if c t u) l C s w D h F = by_bool (holds c l)
        (λ e. rw (does_yes o c t u l s e, word_yes ow c t u l w e) (follows t l C s w D (rw e at h) F))
        (λ e. rw (does_no o c t u l s e, word_no ow c t u l w e) (follows u l C s w D (rw e at h) F))
    follows (qcase rs a t u) l C s w D h F =
        let q : ℕ = touched rs a l in
        let same : bit_of (touched rs a l) w ≡ s (touched rs a l) = reads_touched rs a l C D s w F h.0 in
        by_bool (s (touched rs a l))
        (λ e. rw (does_one o rs a t u l s e, word_one ow rs a t u l w (same ∙ e)) (follows u l (q ∷ C) s w D h.2 F))
        (λ e. rw (does_zero o rs a t u l s e, word_zero ow rs a t u l w (same ∙ e)) (follows t l (q ∷ C) s w D h.1 F))
    follows (call rs f) l C s w D h F = call_follows f (remaining rs l) C s w (data_remaining n rs l D) h F

  -- calls that do not fault, followed as deep as some fuel
  pub follows_within : (P : Program) (fuel : ℕ) →
      CallsFollow n (call_does_within P fuel) (call_words_within P fuel) (NoFault (call_faults_within P fuel))
  unfolding call_does_within call_words_within call_faults_within
  follows_within P zero f l C s w D h F = F
  follows_within P (suc fuel) f l C s w D h F =
      follows (call_does_within P fuel) (call_words_within P fuel) (NoFault (call_faults_within P fuel)) (follows_within P fuel)
      (body P f) l C s w D (safe_of (call_faults_within P fuel) (body P f) l C h) F

  -- a run on words that does not fault ends with the end word
  pub ran_end : (P : Program) (word : ℕ) → program_faults P n ≡ false → word < 2 ^ n → ran_word P n word ≡ end_word P n word
  unfolding ran_word end_word end_state program_faults
  ran_end P word safe h = sym (word_is n 1 end (ran_word P n word) F.below (λ k l. bit_at_lem n end (ran_word P n word) k F))
    where
      fuel : ℕ
      fuel = enough P n

      end : State
      end = does (call_does_within P fuel) P.main (qubits n) (state_of word)

      F : Follows n end (ran_word P n word)
      F = follows (call_does_within P fuel) (call_words_within P fuel) (NoFault (call_faults_within P fuel)) (follows_within P fuel)
          P.main (qubits n) [] (state_of word) word (qubits_data n)
          (safe_of (call_faults_within P fuel) P.main (qubits n) [] safe) (record { below = h; bits = λ v l. refl })

-- so what `end_word` ensures is the end word
pub ran_min : (P : Program) (n word r : ℕ) → n ≤ most_qubits → program_faults P n ≡ false → word < 2 ^ n →
    r ≡ ran_word P (min n most_qubits) word → r ≡ end_word P n word
ran_min P n word r most safe h e =
    let whole : min n most_qubits ≡ n = omega arith in
    e ∙ ap (λ (m : ℕ). ran_word P m word) whole ∙ ran_end n most P word safe h
