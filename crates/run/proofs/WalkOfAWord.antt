-- The ways out of the code: one law for each, from what its callees ensure to what the word becomes.
use mathlib.Core.Path.{◌≡◌, refl, sym, ap, ◌∙◌}
use mathlib.Core.Bool.{false, cond}
use mathlib.Core.List.{List, [], ◌∷◌}
use Prim.Native.Nat.{ℕ, zero, suc, ◌+◌, ◌-◌, ◌*◌, ◌/◌, ◌%◌, ◌^◌, ◌≤◌, ◌<◌}
use native.Mathlib.Nat.{le_refl}
use native.Mathlib.Omega.{arith}
use Rattle.std.proofs.Common.{inl, inr, ◌⊎◌}
use mir.Syntax.{w64}
use mir.Val.{Fits}
use borrow.Author.Rules.{rules}
use borrow.Author.Tests.{lt-ltb}
use lib.Bits.{bit_and, bit_xor}
use lib.Dec.{eqb}
use lib.ListN.{length}
use Rattle.model.specs.Limits.{most_qubits, most_depth}
use Rattle.model.specs.Syntax.{skip}
use Rattle.model.specs.Lists.{qubits, remaining, holds}
use Rattle.model.specs.Meaning.{state_of}
use Rattle.model.proofs.BooleanLaws.{by_bool}
use Rattle.model.proofs.ReachAndRank.{body_out}
use Rattle.model.proofs.ListLaws.{range_length}
use Rattle.sets.specs.Sets.{members_of}
use Rattle.sets.proofs.Members.{members_empty}
use Rattle.sets.proofs.Readings.{members_split}
use Rattle.decoded.specs.declared.Program as decoded
use Rattle.decoded.specs.DecodedTable.{root_of, procedure_count, removals_in, test_at, statement_at, program_at}
use Rattle.decoded.specs.declared.Step.{Step}
use Rattle.decoded.specs.declared.Step.TheVariants as step
use Rattle.decoded.specs.Steps.{touched_by, step_at}
use native.Mathlib.Numerals.{sub-one}
use Rattle.decoded.proofs.StatementAtARecord.{Idle, at_step, at_branches, idle_skip, spent_skip}
use Rattle.step.proofs.ChosenBranch.{chosen_means}
use Rattle.run.specs.RunOnWords.{bit_flipped, flipped_word, bit_of, call_words, word_does, call_words_within, ran_word, walked, called}
use Rattle.model.proofs.WordBits.{tested, shifted}
use Rattle.reach.proofs.MatrixOfAProgram.{count_at, body_at_lem}
use Rattle.run.proofs.WordClauses.{word_yes, word_no, word_zero, word_one, qubit_is}

-- ---- flip and bit

-- number 0 is no qubit, nor is one past the last
abbrev NoQubit : ℕ → Type 0
NoQubit q = (q ≡ 0) ⊎ ((q ≡ 0 → ⊥) × (most_qubits < q))

pub flip_none : (q word : ℕ) → NoQubit q → word ≡ flipped_word q word
unfolding bit_flipped
flip_none q word (inl e) = rw e
flip_none q word (inr h) = rw (lt-ltb most_qubits q h.1)

pub bit_none : (q word : ℕ) → NoQubit q → false ≡ bit_of q word
unfolding state_of
bit_none q word (inl e) = rw e
bit_none q word (inr h) = rw (lt-ltb most_qubits q h.1)

-- qubit q is bit q − 1
pub flip_bit : (q word : ℕ) → (q ≡ 0 → ⊥) → q ≤ most_qubits → bit_xor word ((1 * 2 ^ (q - 1)) % 2 ^ 64) ≡ flipped_word q word
unfolding bit_flipped
flip_bit zero word some h = absurd (some refl)
flip_bit (suc k) word some h = rw (qubit_is (suc k) h, sub-one, shifted 64 k (omega arith))

pub bit_bit : (q word : ℕ) → (q ≡ 0 → ⊥) → q ≤ most_qubits → eqb (bit_and (word / 2 ^ (q - 1)) 1) 1 ≡ bit_of q word
unfolding state_of
bit_bit zero word some h = absurd (some refl)
bit_bit (suc k) word some h = rw (qubit_is (suc k) h, sub-one) (tested word k)

-- ---- walk

-- what its loop keeps: the statement at record `at` makes of the word as it is now what the whole statement makes of the word given
module _ (g : decoded.Program) (left at : ℕ) (l : List ℕ) (fuel word whole : ℕ) (inv : walked g left at l fuel word ≡ whole) where
  -- skip gives its word back
  skipped : statement_at g left at ≡ skip → word ≡ whole
  unfolding word_does
  skipped e = rw (← inv, e)

  -- too deep is nothing
  pub walk_spent : left ≤ 0 → word ≡ whole
  walk_spent h = skipped (spent_skip g left at (omega arith))

  module _ (st : Step) (more : 0 < left) (steps : st ≡ step_at g at) where
    deep : left ≡ 0 → ⊥
    deep e = omega arith

    idle : (x : Step) → st ≡ x → Idle x → word ≡ whole
    idle x e o = skipped (idle_skip g left at deep steps x e o)

    -- skip, and what is no statement, gives its word back
    pub walk_idle : (st ≡ step.Nothing) ⊎ (((k : ℕ) × (st ≡ step.Greater k)) ⊎ (((k : ℕ) × (st ≡ step.AtLeast k)) ⊎ (((k : ℕ) × (st ≡ step.Equal k)) ⊎
        (((a : ℕ) × (b : ℕ) × (st ≡ step.Both a b)) ⊎ (((a : ℕ) × (b : ℕ) × (st ≡ step.Either a b)) ⊎ ((a : ℕ) × (st ≡ step.Negates a))))))) → word ≡ whole
    walk_idle (inl e) = idle step.Nothing e tt
    walk_idle (inr (inl h)) = idle (step.Greater h.0) h.1 tt
    walk_idle (inr (inr (inl h))) = idle (step.AtLeast h.0) h.1 tt
    walk_idle (inr (inr (inr (inl h)))) = idle (step.Equal h.0) h.1 tt
    walk_idle (inr (inr (inr (inr (inl h))))) = idle (step.Both h.0 h.1) h.2 tt
    walk_idle (inr (inr (inr (inr (inr (inl h)))))) = idle (step.Either h.0 h.1) h.2 tt
    walk_idle (inr (inr (inr (inr (inr (inr h)))))) = idle (step.Negates h.0) h.1 tt

    -- NOT flips the bit of the qubit that it touches
    pub walk_touches : (place q r : ℕ) → st ≡ step.Touches place → q ≡ touched_by g place l → r ≡ flipped_word q word → r ≡ whole
    unfolding word_does
    walk_touches place q r e t h = rw (← inv, at_step g left at deep steps e, ← t) h

    -- a sequence hands the first statement's word to the second
    pub walk_sequence : (a b middle : ℕ) → st ≡ step.Sequence a b → middle ≡ walked g (left - 1) a l fuel word →
        walked g (left - 1) b l fuel middle ≡ whole
    unfolding word_does
    walk_sequence a b middle e first = rw (← inv, at_step g left at deep steps e)
        (ap (λ (x : ℕ). walked g (left - 1) b l fuel x) first)

    -- if goes on as the statement that is chosen
    pub walk_chosen : (c a b x : ℕ) → st ≡ step.Chooses c a b → x ≡ cond (holds (test_at g (left - 1) c) l) a b →
        walked g (left - 1) x l fuel word ≡ whole
    walk_chosen c a b x e q =
        let calls = call_words_within (program_at g) fuel in
        sym (chosen_means (λ s. word_does calls s l word) l (λ c s t. word_yes calls c s t l word) (λ c s t. word_no calls c s t l word)
        g left at deep steps e q) ∙ inv

    -- qcase reads the bit of the qubit it touches and goes on as zero or one
    pub walk_taken : (place q a b x : ℕ) → st ≡ step.Branches place a b → q ≡ touched_by g place l → x ≡ cond (bit_of q word) b a →
        walked g (left - 1) x l fuel word ≡ whole
    walk_taken place q a b x e t k =
        let calls = call_words_within (program_at g) fuel in
        let s = at_branches g left at l deep steps t e in
        let part = statement_at g (left - 1) in
        let reads = ap (λ (y : ℕ). bit_of y word) s.3 in
        rw (← inv, s.2) (by_bool (bit_of q word)
        (λ h. rw (k, h) (sym (word_one calls s.0 s.1 (part a) (part b) l word (sym reads ∙ h))))
        (λ h. rw (k, h) (sym (word_zero calls s.0 s.1 (part a) (part b) l word (sym reads ∙ h)))))

    -- a call hands its word on, with what its removals left
    pub walk_calls : (f place r : ℕ) (rest : List ℕ) → st ≡ step.Calls f place → rest ≡ remaining (removals_in g place) l →
        r ≡ called g f rest fuel word → r ≡ whole
    unfolding word_does
    walk_calls f place r rest e kept h = rw (← inv, at_step g left at deep steps e, ← kept) h

pub less_deep : (left depth : ℕ) → left ≤ depth → left - 1 ≤ depth
less_deep left depth h = omega arith

-- ---- call

module _ (g : decoded.Program) where
  module _ (f : ℕ) where
    -- a call that is too deep gives the word back
    call_spent : (l : List ℕ) (fuel word : ℕ) → fuel ≡ 0 → word ≡ called g f l fuel word
    unfolding call_words call_words_within
    call_spent [] fuel word e = refl
    call_spent (q ∷ l) fuel word e = rw e

    -- so does one with an empty list
    pub call_empty : (list fuel word : ℕ) → list ≡ 0 → word ≡ called g f (members_of list) fuel word
    unfolding call_words
    call_empty list fuel word e = rw (e, members_empty)

    pub call_none : (list fuel word : ℕ) → (fuel ≡ 0) ⊎ ((fuel ≡ 0 → ⊥) × (list ≡ 0)) → word ≡ called g f (members_of list) fuel word
    call_none list fuel word (inl e) = call_spent (members_of list) fuel word e
    call_none list fuel word (inr h) = call_empty list fuel word h.1

    -- and a call of no procedure
    pub call_past : (l : List ℕ) (fuel word p : ℕ) → p ≡ procedure_count g → p < f → word ≡ called g f l fuel word
    unfolding call_words call_words_within word_does
    call_past [] fuel word p n h = refl
    call_past (q ∷ l) zero word p n h = refl
    call_past (q ∷ l) (suc fuel) word p n h = rw (body_out (program_at g) f (rw (count_at g, ← n) h))

    -- any other goes on with the body, on the list that was left
    pub call_body : (list fuel word p i r : ℕ) → Fits w64 list → (list ≡ 0 → ⊥) → (fuel ≡ 0 → ⊥) → p ≡ procedure_count g → f ≤ p →
        i ≡ root_of g f → r ≡ walked g most_depth i (members_of list) (fuel - 1) word → r ≡ called g f (members_of list) fuel word
    unfolding call_words call_words_within
    call_body list zero word p i r fits some left n named root h = absurd (left refl)
    call_body list (suc fuel) word p i r fits some left n named root h =
        let split = members_split list fits some in
        rw (split, body_at_lem g f (rw n at named)) (rw (root, sub-one, split) at h)

  -- main, on n qubits: calls go at most p + n deep
  pub main_ran : (m n i word r p : ℕ) (l : List ℕ) → l ≡ qubits m → i ≡ root_of g 0 → p ≡ procedure_count g → n ≡ length l →
      r ≡ walked g most_depth i l (p + n) word → r ≡ ran_word (program_at g) m word
  unfolding ran_word
  main_ran m n i word r p l all root count size h =
      let len : n ≡ m = size ∙ ap length all ∙ range_length m 1 in
      rw (count_at g) (rw (root, count, all, len) at h)

pub ruleset walking = (
  rules,
  le_refl,
  less_deep,
  walk_spent,
  walk_idle,
  walk_touches,
  walk_sequence,
  walk_chosen,
  walk_taken,
  walk_calls,
)

pub ruleset calling = (rules, call_none, call_past, call_body)
