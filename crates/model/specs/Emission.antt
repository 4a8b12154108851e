-- "Emission": the gates of a program, and the ancillas that it takes, in order.
use Rattle.std.specs.Prelude.{ℕ, zero, suc, ◌+◌, max, Bool, true, false, ◌&&◌, List, [], ◌∷◌, ◌++◌, map, reverse, length, eqb, ltb}
use Rattle.model.specs.Syntax.{Statement, skip, NOT, sequence, if, qcase, call, Program, count, body}
use Rattle.model.specs.Lists.{qubits, remaining, touched, holds}
use Rattle.model.specs.Reach.{recursive, width}
use Rattle.model.specs.Gates.{Controls, no_controls, with_control, Gate, flip, swap_of, exchange}

-- what happens, step by step: an ancilla is taken, a gate is placed, or all ancillas from a on are given back
pub data Event : Type 0 where
  takes : ℕ → Event
  places : Gate → Event
  frees : ℕ → Event

-- the events of the chain that starts with a call of procedure f, a nonempty list and the ancilla a; its next wire is a + 1
abbrev pub Chains : Type 0
Chains = ℕ → List ℕ → ℕ → List Event

-- "A non-recursive call with a nonempty list starts a chain. It takes an ancilla, flips it under the caller's controls, emits the chain, flips it
-- back and gives back all the chain's ancillas." "A call with an empty list emits nothing"
unfoldable pub start_chain : Chains → ℕ → List ℕ → Controls → ℕ → List Event
start_chain chains f [] cs next = []
start_chain chains f (q ∷ l) cs next =
    takes next ∷ places (flip cs next) ∷ (chains f (q ∷ l) next ++ (places (flip cs next) ∷ frees next ∷ []))

-- a statement emitted whole, in order: `cs` are "the controls now in force", `next` the next wire. "a qcase of width 0 is emitted whole, zero then one"
unfoldable pub whole : Chains → Statement → List ℕ → Controls → ℕ → List Event
whole chains skip l cs next = []
-- "A NOT emits one gate under the controls now in force"
whole chains (NOT rs a) l cs next = places (flip cs (touched rs a l)) ∷ []
whole chains (sequence s t) l cs next = whole chains s l cs next ++ whole chains t l cs next
-- "If: the chosen branch alone."
whole chains (if c s t) l cs next = elim (holds c l) [ true ↦ whole chains s l cs next | false ↦ whole chains t l cs next ]
whole chains (qcase rs a s t) l cs next =
    whole chains s l (with_control (touched rs a l) false cs) next ++ whole chains t l (with_control (touched rs a l) true cs) next
whole chains (call rs f) l cs next = start_chain chains f (remaining rs l) cs next

-- one call into a chain that names a pair: the call that starts it, or a recursive one, with the ancilla that it took. "A recursive call met
-- first for its pair takes the body's ancilla"; "A later call to that pair takes an entry ancilla and flips that instead."
pub record Invocation : Type 0 where
  pub procedure : ℕ
  pub list : List ℕ
  pub ancilla : ℕ

abbrev pub invocation : ℕ → List ℕ → ℕ → Invocation
invocation f l a = record { procedure = f; list = l; ancilla = a }

-- "A call with an empty list emits nothing and names no pair."
unfoldable pub invoked : ℕ → List ℕ → ℕ → List Invocation
invoked f [] next = []
invoked f (q ∷ l) next = invocation f (q ∷ l) next ∷ []

-- "the width-1 part": in a body, where `r g` says that a call to g is recursive
abbrev pub is_wide : (ℕ → Bool) → Statement → Bool
is_wide r s = ltb 0 (width r s)

-- the recursive calls of a body in the order of its left part, each with its ancilla: the next one, "each new one the next number"
unfoldable pub invocations : (ℕ → Bool) → Statement → List ℕ → ℕ → List Invocation
invocations r skip l next = []
invocations r (NOT rs a) l next = []
invocations r (sequence s t) l next = elim (is_wide r s) [ true ↦ invocations r s l next | false ↦ invocations r t l next ]
invocations r (if c s t) l next = elim (holds c l) [ true ↦ invocations r s l next | false ↦ invocations r t l next ]
invocations r (qcase rs a s t) l next = invocations r s l next ++ invocations r t l (next + length (invocations r s l next))
invocations r (call rs f) l next = elim (r f) [ true ↦ invoked f (remaining rs l) next | false ↦ [] ]

-- a recursive call takes its ancilla "and flips it under the controls in force, in the left part and again at its place in the right"
unfoldable pub invokes : List ℕ → Controls → ℕ → List Event
invokes [] cs a = []
invokes (q ∷ l) cs a = takes a ∷ places (flip cs a) ∷ []

unfoldable pub returns : List ℕ → Controls → ℕ → List Event
returns [] cs a = []
returns (q ∷ l) cs a = places (flip cs a) ∷ []

-- the left part of a body
unfoldable pub left : Chains → (ℕ → Bool) → Statement → List ℕ → Controls → ℕ → List Event
left chains r skip l cs next = []
left chains r (NOT rs a) l cs next = places (flip cs (touched rs a l)) ∷ []
-- "Sequence: a part after the width-1 part goes right, behind that part's own right; all else left."
left chains r (sequence s t) l cs next =
    elim (is_wide r s) [ true ↦ left chains r s l cs next | false ↦ whole chains s l cs next ++ left chains r t l cs next ]
left chains r (if c s t) l cs next = elim (holds c l) [ true ↦ left chains r s l cs next | false ↦ left chains r t l cs next ]
-- "Qcase: left zero then one"
left chains r (qcase rs a s t) l cs next =
    left chains r s l (with_control (touched rs a l) false cs) next ++
    left chains r t l (with_control (touched rs a l) true cs) (next + length (invocations r s l next))
left chains r (call rs f) l cs next =
    elim (r f) [ true ↦ invokes (remaining rs l) cs next | false ↦ start_chain chains f (remaining rs l) cs next ]

-- the right part of a body: `next` numbers its ancillas as in the left part, chains that start here take wires from `top` on
unfoldable pub right : Chains → (ℕ → Bool) → Statement → List ℕ → Controls → ℕ → ℕ → List Event
right chains r skip l cs next top = []
right chains r (NOT rs a) l cs next top = []
right chains r (sequence s t) l cs next top =
    elim (is_wide r s) [ true ↦ right chains r s l cs next top ++ whole chains t l cs top | false ↦ right chains r t l cs next top ]
right chains r (if c s t) l cs next top = elim (holds c l) [ true ↦ right chains r s l cs next top | false ↦ right chains r t l cs next top ]
-- "right one then zero"
right chains r (qcase rs a s t) l cs next top =
    right chains r t l (with_control (touched rs a l) true cs) (next + length (invocations r s l next)) top ++
    right chains r s l (with_control (touched rs a l) false cs) next top
right chains r (call rs f) l cs next top = elim (r f) [ true ↦ returns (remaining rs l) cs next | false ↦ [] ]

-- the one control of a body, or of an entry: its ancilla is 1
abbrev pub under : ℕ → Controls
under a = with_control a true no_controls

-- "for k = 1 up to the length, swap, under the entry ancilla, the wire now holding the k-th qubit of the later list with the k-th wire of the first
-- list, unless equal": `ks` are the first list's wires still to come, `ws` the wires that now hold the later list's qubits
unfoldable pub swaps : ℕ → List ℕ → List ℕ → List Event
swaps e [] ws = []
swaps e (k ∷ ks) [] = []
swaps e (k ∷ ks) (w ∷ ws) =
    elim (eqb w k) [ true ↦ swaps e ks ws | false ↦ places (swap_of (under e) w k) ∷ swaps e ks (map (exchange w k) ws) ]

-- "flip the body's ancilla under the entry ancilla; then" the swaps. "For each such call the tracking starts afresh, every qubit on the wire its list names."
unfoldable pub entry_gates : Invocation → Invocation → List Event
entry_gates first later = places (flip (under later.ancilla) first.ancilla) ∷ swaps later.ancilla first.list later.list

-- "Before the shared body's left part, for each such call in order": the entry gates of the later calls to d's pair
unfoldable pub all_entry_gates : Invocation → List Invocation → List Event
all_entry_gates d [] = []
all_entry_gates d (e ∷ later) = entry_gates d e ++ all_entry_gates d later

-- "A chain has one body per pair (procedure, list length).": bodies of one list length are told apart by their key
abbrev pub Key : Type 0
Key = ℕ

abbrev pub key_of : Invocation → Key
key_of d = d.procedure

-- "Bodies of equal list length are now emitted in order of procedure number, lowest first." The order of keys
abbrev pub comes_before : Key → Key → Bool
comes_before = ltb

-- a key put into its place in that order, once only
unfoldable pub insert_key : Key → List Key → List Key
insert_key k [] = k ∷ []
insert_key k (x ∷ ks) = elim (comes_before k x) [ true ↦ k ∷ x ∷ ks | false ↦ elim (comes_before x k) [ true ↦ x ∷ insert_key k ks | false ↦ x ∷ ks ] ]

-- the keys of the calls with a list of length m, in order
unfoldable pub keys : ℕ → List Invocation → List Key
keys m [] = []
keys m (d ∷ calls) = elim (eqb (length d.list) m) [ true ↦ insert_key (key_of d) (keys m calls) | false ↦ keys m calls ]

-- is d a call to the pair of key k and length m?
abbrev pub is_of : ℕ → Key → Invocation → Bool
is_of m k d = eqb (length d.list) m && eqb (key_of d) k

-- the calls to that pair, the first one first
unfoldable pub calls_to : ℕ → Key → List Invocation → List Invocation
calls_to m k [] = []
calls_to m k (d ∷ calls) = elim (is_of m k d) [ true ↦ d ∷ calls_to m k calls | false ↦ calls_to m k calls ]

-- what is emitted, and the next wire behind it
pub record Emitted : Type 0 where
  pub events : List Event
  pub next : ℕ

module _ (P : Program) (chains : Chains) where
  abbrev pub body_invocations : Invocation → ℕ → List Invocation
  body_invocations d next = invocations (recursive P d.procedure) (body P d.procedure) d.list next

  -- "Bodies have a left part in order and a right part in reverse order of bodies": d's body around all bodies that follow it
  -- ("After its right part the same gates come in reverse.")
  unfoldable pub around : Invocation → List Invocation → ℕ → Emitted → Emitted
  around d later next inner = record {
    events = all_entry_gates d later
        ++ (left chains (recursive P d.procedure) (body P d.procedure) d.list (under d.ancilla) next
        ++ (inner.events
        ++ (right chains (recursive P d.procedure) (body P d.procedure) d.list (under d.ancilla) next inner.next
        ++ reverse (all_entry_gates d later))));
    next = inner.next;
  }

  -- the body that calls to one pair share, the first one's, around all bodies that follow it: `all` are the chain's invocations so far
  unfoldable pub shared : List Invocation → (List Invocation → ℕ → Emitted) → List Invocation → ℕ → Emitted
  shared [] following all next = following all next
  shared (d ∷ later) following all next =
      around d later next (following (all ++ body_invocations d next) (next + length (body_invocations d next)))

  -- the bodies of list length m for the keys `ks`, in order, around those of `shorter` lists: `calls` are the chain's invocations before the first of these
  unfoldable pub bodies : ℕ → (List Invocation → ℕ → Emitted) → List Key → List Invocation → List Invocation → ℕ → Emitted
  bodies m shorter [] calls = shorter
  bodies m shorter (k ∷ ks) calls = shared (calls_to m k calls) (bodies m shorter ks calls)

  -- "The longest list goes first", and of equal lengths the lowest key
  unfoldable pub bodies_from : ℕ → List Invocation → ℕ → Emitted
  bodies_from zero all next = record { events = []; next = next }
  bodies_from (suc m) all next = bodies (suc m) (bodies_from m) (keys (suc m) all) all all next

-- a chain within a chain calls procedures of lower rank: `rank` chains within one another, at most. A table that passes refusal 11 never comes to more,
-- and more changes nothing (`ChainDepth` in crate agreement).
unfoldable pub chains_within : Program → ℕ → Chains
chains_within P zero = λ f l a. []
chains_within P (suc rank) = λ f l a.
    (bodies_from P (chains_within P rank) (length l) (invocation f l a ∷ []) (suc a)).events

-- "Wires 1 to n are data; ancillas follow": main is emitted whole, under no control
unfoldable pub emission : Program → ℕ → List Event
emission P n = whole (chains_within P (count P)) P.main (qubits n) no_controls (suc n)

unfoldable pub gates : List Event → List Gate
gates [] = []
gates (takes w ∷ es) = gates es
gates (places g ∷ es) = g ∷ gates es
gates (frees a ∷ es) = gates es

unfoldable pub below : ℕ → List ℕ → List ℕ
below a [] = []
below a (w ∷ l) = elim (ltb w a) [ true ↦ w ∷ below a l | false ↦ below a l ]

-- the ancillas in use after an event
unfoldable pub in_use : Event → List ℕ → List ℕ
in_use (takes w) used = w ∷ used
in_use (places g) used = used
in_use (frees a) used = below a used

-- "highest number of ancillas in use", counted from those in use before
unfoldable pub peak : List ℕ → List Event → ℕ
peak used [] = length used
peak used (e ∷ es) = max (length used) (peak (in_use e used) es)
