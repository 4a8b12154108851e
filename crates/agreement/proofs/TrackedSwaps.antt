-- Tracked swaps carry a later list onto the first: what stands on the first list's wires afterwards stood on the later's.
use mathlib.Core.Path.{◌≡◌, refl, sym, ap, ◌∙◌, subst}
use mathlib.Core.Logic.{◌≢◌}
use mathlib.Core.Bool.{true, false}
use mathlib.Core.List.{List, [], ◌∷◌, map}
use Prim.Native.Nat.{ℕ, suc, ◌<◌, min, max}
use native.Mathlib.Nat.{suc_inj}
use native.Mathlib.Omega.{arith}
use borrow.Author.Tests.{eqb-true}
use lib.ListN.{length, length-map}
use lib.Dec.{eqb}
use Rattle.model.specs.Lists.{member}
use Rattle.model.specs.Meaning.{State}
use Rattle.model.specs.Gates.{no_controls, swap_of, exchange, renamed, fires}
use Rattle.model.specs.Emission.{places, under, swaps}
use Rattle.model.proofs.BooleanLaws.{by_bool, by_lt, not_true_false, clash}
use Rattle.model.proofs.ListLaws.{Distinct, member_nil, member_skip, not_head, not_tail}
use Rattle.model.proofs.GateLaws.{asks, asks_none, asks_cases, fires_hit, fires_miss, fires_none, exchange_twice, exchange_right, exchange_other}
use Rattle.model.proofs.GateLaws.{swap_of_fires, swap_of_rests, Clear}
use Rattle.agreement.proofs.EffectOfEvents.{effect, effect_nil, effect_places, AllClear}

-- gates under one ancilla fire where it is 1
pub fires_under : (e : ℕ) (s : State) → 0 < e → fires (under e) s ≡ s e
fires_under e s p = by_bool (s e)
    (λ h. fires_hit e true no_controls s h ∙ (fires_none s ∙ sym h))
    (λ h. fires_miss e true no_controls s p h ∙ sym h)

-- they ask that ancilla and no other wire
pub asks_under : (e w : ℕ) → w ≢ e → asks (under e) w ≡ false
asks_under e w n = not_true_false (asks (under e) w) (λ h. asks_cases e true no_controls w h n (λ m. clash m (asks_none w)))

-- where the tracked swaps find what they put on a wire
unfoldable pub route : List ℕ → List ℕ → ℕ → ℕ
route [] ws u = u
route (k ∷ ks) [] u = u
route (k ∷ ks) (w ∷ ws) u = elim (eqb w k) [ true ↦ route ks ws u | false ↦ exchange w k (route ks (map (exchange w k) ws) u) ]

-- the two clauses of the tracking: the qubit is there already, or it comes by a swap
module _ (k w : ℕ) (ks ws : List ℕ) where
  route_there : eqb w k ≡ true → (u : ℕ) → route (k ∷ ks) (w ∷ ws) u ≡ route ks ws u
  unfolding route
  route_there h u = rw (h, route)

  route_swap : eqb w k ≡ false → (u : ℕ) → route (k ∷ ks) (w ∷ ws) u ≡ exchange w k (route ks (map (exchange w k) ws) u)
  unfolding route
  route_swap h u = rw (h, route)

  swaps_there : eqb w k ≡ true → (e : ℕ) → swaps e (k ∷ ks) (w ∷ ws) ≡ swaps e ks ws
  unfolding swaps
  swaps_there h e = rw (h, swaps)

  swaps_swap : eqb w k ≡ false → (e : ℕ) →
      swaps e (k ∷ ks) (w ∷ ws) ≡ places (swap_of (under e) w k) ∷ swaps e ks (map (exchange w k) ws)
  unfolding swaps
  swaps_swap h e = rw (h, swaps)

-- a wire is outside an exchanged list where the exchange takes it outside the list
member_exchanged : (u v w : ℕ) (l : List ℕ) → member (exchange u v w) l ≡ false → member w (map (exchange u v) l) ≡ false
member_exchanged u v w [] h = member_nil w
member_exchanged u v w (x ∷ l) h = member_skip w (exchange u v x) (map (exchange u v) l)
    (λ e. not_head (exchange u v w) x l h (ap (exchange u v) e ∙ exchange_twice u v x))
    (member_exchanged u v w l (not_tail (exchange u v w) x l h))

-- a wire outside the list and none of the two stays outside
member_moved : (u v w : ℕ) (l : List ℕ) → w ≢ u → w ≢ v → member w l ≡ false → member w (map (exchange u v) l) ≡ false
member_moved u v w l nu nv h = member_exchanged u v w l (rw (exchange_other u v w nu nv) h)

-- an exchange keeps a list distinct
distinct_exchanged : (u v : ℕ) (l : List ℕ) → Distinct l → Distinct (map (exchange u v) l)
distinct_exchanged u v [] d = tt
distinct_exchanged u v (x ∷ l) d = (member_exchanged u v (exchange u v x) l (rw (exchange_twice u v x) d.0), distinct_exchanged u v l d.1)

-- and undoes itself
exchanged_twice : (u v : ℕ) (l : List ℕ) → map (exchange u v) (map (exchange u v) l) ≡ l
exchanged_twice u v [] = refl
exchanged_twice u v (x ∷ l) = rw (exchange_twice u v x, exchanged_twice u v l)

-- a wire of neither list stays where it is
pub route_stays : (u : ℕ) (ks ws : List ℕ) → member u ks ≡ false → member u ws ≡ false → route ks ws u ≡ u
unfolding route
route_stays u [] ws hk hw = refl
route_stays u (k ∷ ks) [] hk hw = refl
route_stays u (k ∷ ks) (w ∷ ws) hk hw =
    let nk = not_head u k ks hk in
    let nw = not_head u w ws hw in
    by_bool (eqb w k)
    (λ e. route_there k w ks ws e u ∙ route_stays u ks ws (not_tail u k ks hk) (not_tail u w ws hw))
    (λ e. rw (
      route_swap k w ks ws e u,
      route_stays u ks (map (exchange w k) ws) (not_tail u k ks hk) (member_moved w k u ws nw nk (not_tail u w ws hw)),
    )
    (exchange_other w k u nw nk))

-- no two wires come from the same one
pub route_one_to_one : (ks ws : List ℕ) (a b : ℕ) → route ks ws a ≡ route ks ws b → a ≡ b
unfolding route
route_one_to_one [] ws a b e = e
route_one_to_one (k ∷ ks) [] a b e = e
route_one_to_one (k ∷ ks) (w ∷ ws) a b e = by_bool (eqb w k)
    (λ h. route_one_to_one ks ws a b (sym (route_there k w ks ws h a) ∙ (e ∙ route_there k w ks ws h b)))
    (λ h. route_one_to_one ks (map (exchange w k) ws) a b
    (exchange_one_to_one (route ks (map (exchange w k) ws) a) (route ks (map (exchange w k) ws) b)
    (sym (route_swap k w ks ws h a) ∙ (e ∙ route_swap k w ks ws h b))))
  where
    exchange_one_to_one : (x y : ℕ) → exchange w k x ≡ exchange w k y → x ≡ y
    exchange_one_to_one x y e = sym (exchange_twice w k x) ∙ (ap (exchange w k) e ∙ exchange_twice w k y)

-- the same clauses over a list
map_there : (k w : ℕ) (ks ws l : List ℕ) → eqb w k ≡ true → map (route (k ∷ ks) (w ∷ ws)) l ≡ map (route ks ws) l
map_there k w ks ws [] h = refl
map_there k w ks ws (x ∷ l) h = rw (route_there k w ks ws h x, map_there k w ks ws l h)

map_swap : (k w : ℕ) (ks ws l : List ℕ) → eqb w k ≡ false →
    map (route (k ∷ ks) (w ∷ ws)) l ≡ map (exchange w k) (map (route ks (map (exchange w k) ws)) l)
map_swap k w ks ws [] h = refl
map_swap k w ks ws (x ∷ l) h = rw (route_swap k w ks ws h x, map_swap k w ks ws l h)

-- the tracking: the k-th wire of the first list gets what the k-th wire of the later list held
pub route_list : (ks ws : List ℕ) → length ks ≡ length ws → Distinct ks → Distinct ws → map (route ks ws) ks ≡ ws
route_list [] [] e dk dw = refl
route_list [] (w ∷ ws) e dk dw = absurd (shorter e)
  where
    shorter : 0 ≡ suc (length ws) → ⊥
    shorter e = omega arith
route_list (k ∷ ks) [] e dk dw = absurd (longer e)
  where
    longer : suc (length ks) ≡ 0 → ⊥
    longer e = omega arith
route_list (k ∷ ks) (w ∷ ws) e dk dw = by_bool (eqb w k)
    (λ q.
    let w_is_k = eqb-true w k q in
    rw (
      map_there k w ks ws (k ∷ ks) q,
      route_list ks ws (suc_inj e) dk.1 dw.1,
      route_stays k ks ws dk.0 (subst (λ (x : ℕ). member x ws ≡ false) w_is_k dw.0),
    )
    (ap (λ (x : ℕ). x ∷ ws) (sym w_is_k)))
    (λ q.
    let moved = map (exchange w k) ws in
    let stays : route ks moved k ≡ k = route_stays k ks moved dk.0 (member_exchanged w k k ws (rw (exchange_right w k) dw.0)) in
    let rest : map (route ks moved) ks ≡ moved =
    route_list ks moved (suc_inj e ∙ sym (length-map ws (exchange w k))) dk.1 (distinct_exchanged w k ws dw.1) in
    rw (map_swap k w ks ws (k ∷ ks) q, stays, rest, exchanged_twice w k ws)
    (ap (λ (x : ℕ). x ∷ ws) (exchange_right w k)))

-- the swaps under an ancilla e that is 0 do nothing
pub swaps_rest : (e : ℕ) (ks ws : List ℕ) (s : State) → 0 < e → s e ≡ false → effect (swaps e ks ws) s ≡ s
unfolding swaps
swaps_rest e [] ws s p h = effect_nil s
swaps_rest e (k ∷ ks) [] s p h = effect_nil s
swaps_rest e (k ∷ ks) (w ∷ ws) s p h = by_bool (eqb w k)
    (λ q. rw (swaps_there k w ks ws q e) (swaps_rest e ks ws s p h))
    (λ q. rw (swaps_swap k w ks ws q e, effect_places, swap_of_rests (under e) w k s (fires_under e s p ∙ h))
    (swaps_rest e ks (map (exchange w k) ws) s p h))

-- where it is 1 they rename the wires by the route
pub swaps_fire : (e : ℕ) (ks ws : List ℕ) (s : State) → 0 < e → member e ks ≡ false → member e ws ≡ false → s e ≡ true →
    effect (swaps e ks ws) s ≡ renamed (route ks ws) s
unfolding swaps route renamed
swaps_fire e [] ws s p hk hw h = effect_nil s
swaps_fire e (k ∷ ks) [] s p hk hw h = effect_nil s
swaps_fire e (k ∷ ks) (w ∷ ws) s p hk hw h =
    let nk = not_head e k ks hk in
    let nw = not_head e w ws hw in
    by_bool (eqb w k)
    (λ q. rw (swaps_there k w ks ws q e, q, route) (swaps_fire e ks ws s p (not_tail e k ks hk) (not_tail e w ws hw) h))
    (λ q.
    let moved = map (exchange w k) ws in
    let t = renamed (exchange w k) s in
    rw (swaps_swap k w ks ws q e, effect_places, swap_of_fires (under e) w k s (fires_under e s p ∙ h), q, route)
    (swaps_fire e ks moved t p (not_tail e k ks hk) (member_moved w k e ws nw nk (not_tail e w ws hw)) (ap s (exchange_other w k e nw nk) ∙ h)))

-- a swap of two wires other than its ancilla does not ask its targets
swap_of_clear : (e u v : ℕ) → e ≢ u → e ≢ v → Clear (swap_of (under e) u v)
unfolding swap_of
swap_of_clear e u v nu nv = by_lt u v
    (λ h. let p : min u v ≡ u = omega arith in let q : max u v ≡ v = omega arith in
    rw (p, q) (asks_under e u (λ x. nu (sym x)), asks_under e v (λ x. nv (sym x))))
    (λ h. let p : min u v ≡ v = omega arith in let q : max u v ≡ u = omega arith in
    rw (p, q) (asks_under e v (λ x. nv (sym x)), asks_under e u (λ x. nu (sym x))))

-- none of them asks a wire that it swaps
pub swaps_clear : (e : ℕ) (ks ws : List ℕ) → member e ks ≡ false → member e ws ≡ false → AllClear (swaps e ks ws)
unfolding swaps
swaps_clear e [] ws hk hw = tt
swaps_clear e (k ∷ ks) [] hk hw = tt
swaps_clear e (k ∷ ks) (w ∷ ws) hk hw =
    let nk = not_head e k ks hk in
    let nw = not_head e w ws hw in
    by_bool (eqb w k)
    (λ q. rw (swaps_there k w ks ws q e) (swaps_clear e ks ws (not_tail e k ks hk) (not_tail e w ws hw)))
    (λ q. rw (swaps_swap k w ks ws q e)
    (swap_of_clear e w k nw nk, swaps_clear e ks (map (exchange w k) ws) (not_tail e k ks hk) (member_moved w k e ws nw nk (not_tail e w ws hw))))
