-- What a gate does: it fires or changes nothing, it undoes itself, and it leaves every wire but its targets alone.
use mathlib.Core.Path.{◌≡◌, refl, sym, ap, ◌∙◌, fun_ext}
use mathlib.Core.Logic.{◌≢◌}
use mathlib.Core.Bool.{Bool, true, false, not, ◌&&◌, ◌||◌, true≢false}
use mathlib.Core.List.{List, [], ◌∷◌}
use Prim.Native.Nat.{ℕ, ◌<◌, min, max}
use native.Mathlib.Omega.{arith}
use borrow.Author.Tests.{le-ltb, lt-ltb, eq-eqb, ne_eqb}
use Rattle.model.specs.Lists.{member}
use Rattle.model.specs.Meaning.{State, update, flipped}
use Rattle.model.specs.Gates.{
  Controls,
  no_controls,
  insert,
  asked,
  with_control,
  Gate,
  flip,
  swap,
  targets,
  swap_of,
  exchange,
  renamed,
  all_one,
  all_zero,
  fires,
  act,
}
use Rattle.model.proofs.BooleanLaws.{by_bool, by_eq, by_lt, by_order, eqb_same, not_not, and_false_right, or_cases, or_left, or_right}
use Rattle.model.proofs.ListLaws.{member_head, member_tail, member_nil, member_cases, not_head, not_tail}

-- one bit of a state
update_same : (s : State) (w : ℕ) (b : Bool) → update s w b w ≡ b
unfolding update
update_same s w b = rw (eqb_same w, update)

update_other : (s : State) (w : ℕ) (b : Bool) (v : ℕ) → v ≢ w → update s w b v ≡ s v
unfolding update
update_other s w b v h = rw (ne_eqb v w h, update)

pub flipped_same : (s : State) (w : ℕ) → flipped w s w ≡ not (s w)
unfolding flipped
flipped_same s w = update_same s w (not (s w))

pub flipped_other : (s : State) (w v : ℕ) → v ≢ w → flipped w s v ≡ s v
unfolding flipped
flipped_other s w v h = update_other s w (not (s w)) v h

pub flipped_twice : (s : State) (w : ℕ) → flipped w (flipped w s) ≡ s
flipped_twice s w = fun_ext (λ v. by_eq v w
    (λ e. rw e (rw (flipped_same (flipped w s) w, flipped_same s w) (not_not (s w))))
    (λ n. flipped_other (flipped w s) w v n ∙ flipped_other s w v n))

-- two wires exchanged
pub exchange_left : (u v : ℕ) → exchange u v u ≡ v
unfolding exchange
exchange_left u v = rw (eqb_same u, exchange)

pub exchange_right : (u v : ℕ) → exchange u v v ≡ u
unfolding exchange
exchange_right u v = by_eq v u (λ e. rw e (exchange_left u u)) (λ n. rw (ne_eqb v u n, exchange) (rw (eqb_same v)))

pub exchange_other : (u v w : ℕ) → w ≢ u → w ≢ v → exchange u v w ≡ w
unfolding exchange
exchange_other u v w hu hv = rw (ne_eqb w u hu, exchange) (rw (ne_eqb w v hv))

pub exchange_twice : (u v w : ℕ) → exchange u v (exchange u v w) ≡ w
exchange_twice u v w = by_eq w u
    (λ e. rw (e, exchange_left u v) (exchange_right u v))
    (λ nu. by_eq w v
    (λ e. rw (e, exchange_right u v) (exchange_left u v))
    (λ nv. rw (exchange_other u v w nu nv) (exchange_other u v w nu nv)))

exchange_sym : (u v w : ℕ) → exchange u v w ≡ exchange v u w
exchange_sym u v w = by_eq w u
    (λ e. rw (e, exchange_left u v) (sym (exchange_right v u)))
    (λ nu. by_eq w v
    (λ e. rw (e, exchange_right u v) (sym (exchange_left v u)))
    (λ nv. rw (exchange_other u v w nu nv) (sym (exchange_other v u w nv nu))))

pub renamed_at : (π : ℕ → ℕ) (s : State) (w : ℕ) → renamed π s w ≡ s (π w)
unfolding renamed
renamed_at π s w = refl

renamed_twice : (u v : ℕ) (s : State) → renamed (exchange u v) (renamed (exchange u v) s) ≡ s
unfolding renamed
renamed_twice u v s = fun_ext (λ w. ap s (exchange_twice u v w))

-- the wires that controls ask
unfoldable pub asks : Controls → ℕ → Bool
asks cs w = member w cs.ones || member w cs.zeros

pub asks_none : (w : ℕ) → asks no_controls w ≡ false
unfolding asks
asks_none w = rw (member_nil w)

-- a wire put into a list that begins with x: before it, there already, or behind it
module _ (w x : ℕ) (l : List ℕ) where
  pub insert_before : w < x → insert w (x ∷ l) ≡ w ∷ x ∷ l
  unfolding insert
  insert_before h = rw (lt-ltb w x h, insert)

  pub insert_there : w ≡ x → insert w (x ∷ l) ≡ x ∷ l
  unfolding insert
  insert_there e = rw (le-ltb w x (omega arith), eq-eqb w x e, insert)

  pub insert_behind : x < w → insert w (x ∷ l) ≡ x ∷ insert w l
  unfolding insert
  insert_behind h = let n : w ≢ x = omega arith in rw (le-ltb w x (omega arith), ne_eqb w x n, insert)

-- what stands in a list with a wire put in is that wire, or stood there before
pub insert_cases {ℓ} : {A : Type ℓ} (w v : ℕ) (l : List ℕ) → member v (insert w l) ≡ true → (v ≡ w → A) → (member v l ≡ true → A) → A
unfolding insert
insert_cases w v [] h f g = member_cases v w [] h f g
insert_cases {A = A} w v (x ∷ l) h f g = by_order w x
    (λ o. member_cases v w (x ∷ l) (rw (insert_before w x l o) at h) f g)
    (λ o. g (rw (insert_there w x l o) at h))
    (λ o. member_cases v x (insert w l) (rw (insert_behind w x l o) at h)
    (λ q. g (rw q (member_head x l)))
    (λ m. insert_cases w v l m f (λ i. g (member_tail v x l i))))

-- a wire that is asked is put in; 0 is no wire, and the list stays as it is
pub asked_wire : (w : ℕ) (l : List ℕ) → 0 < w → asked w l ≡ insert w l
unfolding asked
asked_wire w l h = let n : w ≢ 0 = omega arith in rw (ne_eqb w 0 n, asked)

pub asked_none : (w : ℕ) (l : List ℕ) → w ≡ 0 → asked w l ≡ l
unfolding asked
asked_none w l e = rw (eq-eqb w 0 e, asked)

-- what stands in a list beside which a wire is asked is that wire, or stood there before
pub asked_cases {ℓ} : {A : Type ℓ} (w v : ℕ) (l : List ℕ) → member v (asked w l) ≡ true → (v ≡ w → A) → (member v l ≡ true → A) → A
asked_cases w v l h f g = by_eq w 0
    (λ e. g (rw (asked_none w l e) at h))
    (λ n. insert_cases w v l (rw (asked_wire w l (omega arith)) at h) f g)

-- a control on no wire adds nothing
pub control_none : (w : ℕ) (b : Bool) (cs : Controls) → w ≡ 0 → with_control w b cs ≡ cs
unfolding with_control
control_none w true cs e = rw (asked_none w cs.ones e)
control_none w false cs e = rw (asked_none w cs.zeros e)

pub asks_cases {ℓ} : {A : Type ℓ} (w : ℕ) (b : Bool) (cs : Controls) (v : ℕ) → asks (with_control w b cs) v ≡ true → (v ≡ w → A) → (asks cs v ≡ true → A) → A
unfolding asks with_control
asks_cases w true cs v h f g = or_cases (member v (asked w cs.ones)) (member v cs.zeros) h
    (λ m. asked_cases w v cs.ones m f (λ i. g (or_left (member v cs.ones) (member v cs.zeros) i)))
    (λ m. g (or_right (member v cs.ones) (member v cs.zeros) m))
asks_cases w false cs v h f g = or_cases (member v cs.ones) (member v (asked w cs.zeros)) h
    (λ m. g (or_left (member v cs.ones) (member v cs.zeros) m))
    (λ m. asked_cases w v cs.zeros m f (λ i. g (or_right (member v cs.ones) (member v cs.zeros) i)))

-- whether controls fire goes by the wires that they ask
all_one_same : (l : List ℕ) (s t : State) → ((w : ℕ) → member w l ≡ true → s w ≡ t w) → all_one l s ≡ all_one l t
unfolding all_one
all_one_same [] s t h = refl
all_one_same (x ∷ l) s t h = rw (h x (member_head x l), all_one_same l s t (λ w m. h w (member_tail w x l m)))

all_zero_same : (l : List ℕ) (s t : State) → ((w : ℕ) → member w l ≡ true → s w ≡ t w) → all_zero l s ≡ all_zero l t
unfolding all_zero
all_zero_same [] s t h = refl
all_zero_same (x ∷ l) s t h = rw (h x (member_head x l), all_zero_same l s t (λ w m. h w (member_tail w x l m)))

pub fires_same : (cs : Controls) (s t : State) → ((w : ℕ) → asks cs w ≡ true → s w ≡ t w) → fires cs s ≡ fires cs t
unfolding fires asks
fires_same cs s t h = rw (
  all_one_same cs.ones s t (λ w m. h w (or_left (member w cs.ones) (member w cs.zeros) m)),
  all_zero_same cs.zeros s t (λ w m. h w (or_right (member w cs.ones) (member w cs.zeros) m)),
)

asked_differs : (cs : Controls) (w v : ℕ) → asks cs w ≡ true → asks cs v ≡ false → w ≢ v
asked_differs cs w v h n e = true≢false (sym h ∙ ap (asks cs) e ∙ n)

pub fires_flipped : (cs : Controls) (s : State) (t : ℕ) → asks cs t ≡ false → fires cs (flipped t s) ≡ fires cs s
fires_flipped cs s t n = fires_same cs (flipped t s) s (λ w m. flipped_other s t w (asked_differs cs w t m n))

fires_renamed : (cs : Controls) (s : State) (u v : ℕ) → asks cs u ≡ false → asks cs v ≡ false → fires cs (renamed (exchange u v) s) ≡ fires cs s
unfolding renamed
fires_renamed cs s u v nu nv = fires_same cs (renamed (exchange u v) s) s
    (λ w m. ap s (exchange_other u v w (asked_differs cs w u m nu) (asked_differs cs w v m nv)))

-- one control more
exchanged : (a b c : Bool) → b && (a && c) ≡ a && (b && c)
exchanged true true c = refl
exchanged true false c = refl
exchanged false true c = refl
exchanged false false c = refl

repeated : (a b : Bool) → a && b ≡ a && (a && b)
repeated true b = refl
repeated false b = refl

all_one_insert : (w : ℕ) (l : List ℕ) (s : State) → all_one (insert w l) s ≡ s w && all_one l s
unfolding insert all_one
all_one_insert w [] s = refl
all_one_insert w (x ∷ l) s = by_order w x
    (λ o. rw (insert_before w x l o) refl)
    (λ o. rw (insert_there w x l o, o) (repeated (s x) (all_one l s)))
    (λ o. rw (insert_behind w x l o) (rw (all_one_insert w l s) (exchanged (s w) (s x) (all_one l s))))

all_zero_insert : (w : ℕ) (l : List ℕ) (s : State) → all_zero (insert w l) s ≡ not (s w) && all_zero l s
unfolding insert all_zero
all_zero_insert w [] s = refl
all_zero_insert w (x ∷ l) s = by_order w x
    (λ o. rw (insert_before w x l o) refl)
    (λ o. rw (insert_there w x l o, o) (repeated (not (s x)) (all_zero l s)))
    (λ o. rw (insert_behind w x l o) (rw (all_zero_insert w l s) (exchanged (not (s w)) (not (s x)) (all_zero l s))))

all_one_asked : (w : ℕ) (l : List ℕ) (s : State) → 0 < w → all_one (asked w l) s ≡ s w && all_one l s
all_one_asked w l s p = rw (asked_wire w l p) (all_one_insert w l s)

all_zero_asked : (w : ℕ) (l : List ℕ) (s : State) → 0 < w → all_zero (asked w l) s ≡ not (s w) && all_zero l s
all_zero_asked w l s p = rw (asked_wire w l p) (all_zero_insert w l s)

pub fires_none : (s : State) → fires no_controls s ≡ true
unfolding fires all_one all_zero
fires_none s = refl

-- it fires where the wire holds the bit asked for and the others fire
pub fires_hit : (w : ℕ) (b : Bool) (cs : Controls) (s : State) → s w ≡ b → fires (with_control w b cs) s ≡ fires cs s
unfolding fires with_control
fires_hit w true cs s e = by_eq w 0 (λ z. rw (asked_none w cs.ones z)) (λ n. rw (all_one_asked w cs.ones s (omega arith), e))
fires_hit w false cs s e = by_eq w 0 (λ z. rw (asked_none w cs.zeros z)) (λ n. rw (all_zero_asked w cs.zeros s (omega arith), e))

-- it does not where the wire holds the other bit (0 is no wire: nothing is asked of it)
pub fires_miss : (w : ℕ) (b : Bool) (cs : Controls) (s : State) → 0 < w → s w ≡ not b → fires (with_control w b cs) s ≡ false
unfolding fires with_control
fires_miss w true cs s p e = rw (all_one_asked w cs.ones s p, e)
fires_miss w false cs s p e = rw (all_zero_asked w cs.zeros s p, e) (and_false_right (all_one cs.ones s) false refl)

-- controls that do not fire do not with one more
pub fires_fewer : (w : ℕ) (b : Bool) (cs : Controls) (s : State) → fires cs s ≡ false → fires (with_control w b cs) s ≡ false
fires_fewer w b cs s h = by_eq w 0
    (λ z. rw (control_none w b cs z) h)
    (λ n. by_bool (s w) (λ e. go b (omega arith) e) (λ e. back b (omega arith) e))
  where
    go : (b : Bool) → 0 < w → s w ≡ true → fires (with_control w b cs) s ≡ false
    go true p e = fires_hit w true cs s e ∙ h
    go false p e = fires_miss w false cs s p e

    back : (b : Bool) → 0 < w → s w ≡ false → fires (with_control w b cs) s ≡ false
    back true p e = fires_miss w true cs s p e
    back false p e = fires_hit w false cs s e ∙ h

-- a gate that fires, and one that does not
pub flip_fires : (cs : Controls) (t : ℕ) (s : State) → fires cs s ≡ true → act (flip cs t) s ≡ flipped t s
unfolding act
flip_fires cs t s h = rw (h, act)

pub flip_rests : (cs : Controls) (t : ℕ) (s : State) → fires cs s ≡ false → act (flip cs t) s ≡ s
unfolding act
flip_rests cs t s h = rw (h, act)

swap_fires : (cs : Controls) (u v : ℕ) (s : State) → fires cs s ≡ true → act (swap cs u v) s ≡ renamed (exchange u v) s
unfolding act
swap_fires cs u v s h = rw (h, act)

swap_rests : (cs : Controls) (u v : ℕ) (s : State) → fires cs s ≡ false → act (swap cs u v) s ≡ s
unfolding act
swap_rests cs u v s h = rw (h, act)

-- a swap of two wires in either order
exchange_ordered : (u v : ℕ) (s : State) → renamed (exchange (min u v) (max u v)) s ≡ renamed (exchange u v) s
unfolding renamed
exchange_ordered u v s = by_lt v u
    (λ h. let p : min u v ≡ v = omega arith in let q : max u v ≡ u = omega arith in rw (p, q) (fun_ext (λ w. ap s (exchange_sym v u w))))
    (λ h. let p : min u v ≡ u = omega arith in let q : max u v ≡ v = omega arith in rw (p, q))

pub swap_of_fires : (cs : Controls) (u v : ℕ) (s : State) → fires cs s ≡ true → act (swap_of cs u v) s ≡ renamed (exchange u v) s
unfolding swap_of
swap_of_fires cs u v s h = swap_fires cs (min u v) (max u v) s h ∙ exchange_ordered u v s

pub swap_of_rests : (cs : Controls) (u v : ℕ) (s : State) → fires cs s ≡ false → act (swap_of cs u v) s ≡ s
unfolding swap_of
swap_of_rests cs u v s h = swap_rests cs (min u v) (max u v) s h

pub act_frame : (g : Gate) (s : State) (w : ℕ) → member w (targets g) ≡ false → act g s w ≡ s w
unfolding targets
act_frame (flip cs t) s w n = by_bool (fires cs s)
    (λ h. rw (flip_fires cs t s h) (flipped_other s t w (not_head w t [] n)))
    (λ h. rw (flip_rests cs t s h))
act_frame (swap cs u v) s w n = by_bool (fires cs s)
    (λ h. rw (swap_fires cs u v s h, renamed_at)
    (ap s (exchange_other u v w (not_head w u (v ∷ []) n) (not_head w v [] (not_tail w u (v ∷ []) n)))))
    (λ h. rw (swap_rests cs u v s h))

-- a gate that asks none of its targets
abbrev pub Clear : Gate → Type 0
Clear (flip cs t) = asks cs t ≡ false
Clear (swap cs u v) = (asks cs u ≡ false) × (asks cs v ≡ false)

pub act_twice : (g : Gate) (s : State) → Clear g → act g (act g s) ≡ s
act_twice (flip cs t) s n = by_bool (fires cs s)
    (λ h. rw (flip_fires cs t s h, flip_fires cs t (flipped t s) (fires_flipped cs s t n ∙ h)) (flipped_twice s t))
    (λ h. rw (flip_rests cs t s h) (flip_rests cs t s h))
act_twice (swap cs u v) s n = by_bool (fires cs s)
    (λ h. rw (swap_fires cs u v s h, swap_fires cs u v (renamed (exchange u v) s) (fires_renamed cs s u v n.0 n.1 ∙ h)) (renamed_twice u v s))
    (λ h. rw (swap_rests cs u v s h) (swap_rests cs u v s h))
