-- Bytes put one behind the other: first these, then those, is both.
use mathlib.Core.Path.{◌≡◌, refl, ap, ◌∙◌}
use mathlib.Core.List.{List, [], ◌∷◌, ◌++◌}
use Prim.Native.Nat.{ℕ, zero, suc, ◌+◌, ◌^◌, ◌≤◌, ◌<◌}
use native.Mathlib.Nat.{add-zero, zero-add}
use native.Mathlib.Numerals.{add-one}
use native.Mathlib.Omega.{arith}
use borrow.Author.Rules.{rules}
use lib.ListN.{length, get_or, drop, set, drop_of_length-le}
use lib.Seq.{sets, sets-eq, drop-cons}
use Rattle.text.specs.declared.Writer.{Writer}
use Rattle.text.specs.AppendedBytes.{last_place, place_after, next_place, nothing_put, put_one, puts}

pub puts_append : (xs ys : List ℕ) (w : Writer) → puts (xs ++ ys) w ≡ puts ys (puts xs w)
unfolding puts
puts_append [] ys w = refl
puts_append (x ∷ xs) ys w = puts_append xs ys (put_one x w)

-- all the bytes are counted, and a text takes those that it reaches
abbrev pub moved : Writer → List ℕ → ℕ → Writer
moved w text at = record { text = record w.text { now = text }; at = at }

puts_all : (bytes : List ℕ) (w : Writer) → w.at + length bytes ≤ last_place → puts bytes w ≡ moved w (sets w.text.now w.at bytes) (w.at + length bytes)
unfolding puts
puts_all [] w h = rw (add-zero w.at)
puts_all (b ∷ bytes) w h =
    let next : next_place w.at ≡ suc w.at = omega arith in
    let e : suc w.at + length bytes ≡ w.at + suc (length bytes) = omega arith in
    rw (puts_all bytes (put_one b w) (omega arith), next, e)

-- nothing is written past the end
set_past : (text : List ℕ) (at b : ℕ) → length text ≤ at → set text at b ≡ text
set_past [] at b h = refl
set_past (x ∷ text) zero b h = absurd (omega arith)
set_past (x ∷ text) (suc at) b h = ap (λ (l : List ℕ). x ∷ l) (set_past text at b (omega arith))

-- the ways out of `put`
pub put_there : (b at : ℕ) (w : Writer) → at ≡ next_place w.at → moved w (set w.text.now w.at b) at ≡ puts (b ∷ []) w
unfolding puts
put_there b at w e = rw e

pub put_past : (b at : ℕ) (w : Writer) → length w.text.now ≤ w.at → at ≡ next_place w.at → moved w w.text.now at ≡ puts (b ∷ []) w
unfolding puts
put_past b at w h e = rw (set_past w.text.now w.at b h, e)

-- where the text has ended they are only counted
pub puts_past : (bytes : List ℕ) (w : Writer) → length w.text.now ≤ w.at → w.at < 2 ^ 64 → puts bytes w ≡ moved w w.text.now (place_after w.at (length bytes))
unfolding puts
puts_past [] w h l = let stays : place_after w.at 0 ≡ w.at = omega arith in rw stays
puts_past (b ∷ bytes) w h l =
    let on : place_after (next_place w.at) (length bytes) ≡ place_after w.at (suc (length bytes)) = omega arith in
    let past = set_past w.text.now w.at b h in
    let more : length (set w.text.now w.at b) ≤ next_place w.at = rw past (omega arith) in
    rw (puts_past bytes (put_one b w) more (omega arith), past, on)

-- first these bytes, then those
pub put_after : (xs ys : List ℕ) (w₀ w₁ : Writer) → w₁ ≡ puts xs w₀ → puts (xs ++ ys) w₀ ≡ puts ys w₁
put_after xs ys w₀ w₁ p = rw (puts_append xs ys w₀, ← p)

pub put_then : (xs ys : List ℕ) (w₀ w₁ w₂ : Writer) → w₁ ≡ puts xs w₀ → w₂ ≡ puts ys w₁ → w₂ ≡ puts (xs ++ ys) w₀
put_then xs ys w₀ w₁ w₂ p q = rw (put_after xs ys w₀ w₁ p) q

pub put_next : (x : ℕ) (ys : List ℕ) (w₀ w₁ w₂ : Writer) → w₁ ≡ puts (x ∷ []) w₀ → w₂ ≡ puts ys w₁ → w₂ ≡ puts (x ∷ ys) w₀
put_next x ys w₀ w₁ w₂ p q = put_then (x ∷ []) ys w₀ w₁ w₂ p q

pub ruleset putting = (rules, put_then, put_next)

-- what the loop of `put_all` keeps
module _ (bytes : List ℕ) (i : ℕ) (w whole : Writer) (inv : whole ≡ puts (drop i bytes) w) where
  pub all_end : length bytes ≤ i → w ≡ whole
  unfolding puts
  all_end h = rw (inv, drop_of_length-le bytes h)

  pub all_next : i < length bytes → (w₁ : Writer) → w₁ ≡ puts (get_or bytes i 0 ∷ []) w → whole ≡ puts (drop (i + 1) bytes) w₁
  all_next h w₁ p = rw (inv, add-one, drop-cons bytes i 0) (put_after (get_or bytes i 0 ∷ []) (drop (suc i) bytes) w w₁ p)

-- the text stays the same one
same_text : (bytes : List ℕ) (w : Writer) → (puts bytes w).text.ghost_name ≡ w.text.ghost_name
unfolding puts
same_text [] w = refl
same_text (b ∷ bytes) w = same_text bytes (put_one b w)

-- as many places behind the first as there are bytes
places : (bytes : List ℕ) (w : Writer) → w.at < 2 ^ 64 → (puts bytes w).at ≡ place_after w.at (length bytes)
unfolding puts
places [] w h = omega arith
places (b ∷ bytes) w h =
    let on : place_after (next_place w.at) (length bytes) ≡ place_after w.at (suc (length bytes)) = omega arith in
    rw (places bytes (put_one b w) (omega arith), on)

-- What a function knows that made a writer of its text, at its return: how many bytes were put, that the text is still the one that was lent, and
-- what stands in it.
module _ (bytes : List ℕ) {place : ℕ × ℕ} {name : ℕ} {text : List ℕ} {w₀ w : Writer} (p : w ≡ puts bytes w₀)
    (starts : w₀ ≡ nothing_put (record { ref_ptr = place; ghost_name = name; now = text })) where
  pub puts_place : w.at ≡ place_after 0 (length bytes)
  puts_place = rw (p, places bytes w₀ (rw starts (omega arith)), starts)

  pub puts_count : length bytes ≤ last_place → w.at ≡ length bytes
  puts_count few = let place = puts_place in omega arith

  pub name_kept : name ≡ w.text.ghost_name
  name_kept = rw (p, same_text bytes w₀, starts)

  -- in front of a text that is long enough stands the whole of them
  module _ (h : length bytes ≤ length text) (few : length text ≤ last_place) where
    pub puts_front : w.text.now ≡ bytes ++ drop (length bytes) text
    puts_front = rw (p, puts_all bytes w₀ (rw starts (omega arith)), starts, sets-eq bytes text 0 (omega arith), zero-add)

    -- where the text itself was handed on, it is the writer's last one if that is still the one that was lent
    pub left_front : {end : List ℕ} → (name ≡ w.text.ghost_name → end ≡ w.text.now) → end ≡ bytes ++ drop (length bytes) text
    left_front last = last name_kept ∙ puts_front
