-- The controls of a gate: what the loops over them keep.
use mathlib.Core.Path.{◌≡◌, refl}
use mathlib.Core.List.{List, [], ◌∷◌, ◌++◌, append_assoc}
use Prim.Native.Nat.{ℕ, suc, ◌+◌, ◌≤◌, ◌<◌}
use native.Mathlib.Numerals.{add-one}
use native.Mathlib.Omega.{arith}
use borrow.Author.Tests.{lt-ltb, le-ltb}
use lib.Dec.{ltb}
use lib.ListN.{length, get_or, take, drop, drop_of_length-le}
use lib.Seq.{drop-cons}
use Rattle.std.specs.List.{prefix_len}
use Rattle.model.specs.Listing.{plus, hyphen, signed, hyphens, placed, control_text}
use Rattle.model.proofs.BooleanLaws.{by_lt}
use Rattle.text.specs.declared.Writer.{Writer}
use Rattle.text.specs.AppendedBytes.{puts}
use Rattle.text.proofs.AppendLaws.{put_after}

-- what the loop of `put_hyphens` keeps
module _ (zeros : List ℕ) (i : ℕ) (w whole : Writer) (inv : whole ≡ puts (hyphens (drop i zeros)) w) where
  pub hyphens_end : length zeros ≤ i → w ≡ whole
  unfolding hyphens puts
  hyphens_end h = rw (inv, drop_of_length-le zeros h)

  pub hyphens_next : i < length zeros → (w₁ : Writer) → w₁ ≡ puts (signed hyphen (get_or zeros i 0)) w → whole ≡ puts (hyphens (drop (i + 1) zeros)) w₁
  unfolding hyphens
  hyphens_next h w₁ p =
      rw (inv, add-one, drop-cons zeros i 0, hyphens) (put_after (signed hyphen (get_or zeros i 0)) (hyphens (drop (suc i) zeros)) w w₁ p)

-- how many wires come before the first that is not below w
abbrev lower : ℕ → List ℕ → ℕ
lower w zeros = prefix_len (λ z. ltb z w) zeros

-- a control on 1 comes behind the controls on 0 that are below it
placed_at : (w : ℕ) (zeros : List ℕ) (others : List ℕ → List ℕ) →
    placed w zeros others ≡ hyphens (take (lower w zeros) zeros) ++ (signed plus w ++ others (drop (lower w zeros) zeros))
unfolding placed hyphens
placed_at w [] others = refl
placed_at w (z ∷ zeros) others = by_lt z w
    (λ h. let more : 1 + lower w zeros ≡ suc (lower w zeros) = omega arith in
    rw (lt-ltb z w h, placed, placed_at w zeros others, more, hyphens) (simp append_assoc))
    (λ h. rw (le-ltb z w h, placed))

-- what the loop of `put_controls` keeps
module _ (ones rest : List ℕ) (i : ℕ) (w whole : Writer) (inv : whole ≡ puts (control_text (drop i ones) rest) w) where
  pub controls_end : length ones ≤ i → (w₁ : Writer) → w₁ ≡ puts (hyphens rest) w → w₁ ≡ whole
  unfolding control_text
  controls_end h w₁ p = rw (inv, drop_of_length-le ones h) p

  pub controls_next : i < length ones → (below : ℕ) → below ≡ lower (get_or ones i 0) rest → (front back : List ℕ) → front ≡ take below rest →
      back ≡ drop below rest → (w₁ w₂ : Writer) → w₁ ≡ puts (hyphens front) w → w₂ ≡ puts (signed plus (get_or ones i 0)) w₁ →
      whole ≡ puts (control_text (drop (i + 1) ones) back) w₂
  unfolding control_text
  controls_next h below is front back first last w₁ w₂ p q =
      let wire : ℕ = get_or ones i 0 in
      let others : List ℕ = control_text (drop (suc i) ones) back in
      rw (
        inv,
        add-one,
        drop-cons ones i 0,
        control_text,
        placed_at wire rest (control_text (drop (suc i) ones)),
        ← is,
        ← first,
        ← last,
        put_after (hyphens front) (signed plus wire ++ others) w w₁ p,
      ) (put_after (signed plus wire) others w₁ w₂ q)
