-- Sets of qubits 1 to 64 as words: qubit q is in the set where the word has bit q − 1.
use Rattle.std.specs.Prelude.{ℕ, Bool, true, false, List, [], ◌∷◌, map, length}
use Rattle.model.specs.Lists.{qubits, entry}
use Rattle.model.specs.Meaning.{state_of}

-- the numbers of a list that pass a test
unfoldable pub filter : (ℕ → Bool) → List ℕ → List ℕ
filter test [] = []
filter test (x ∷ l) = elim (test x) [ true ↦ x ∷ filter test l | false ↦ filter test l ]

-- the members of a set among qubits 1 to n, ascending
abbrev pub members_within : ℕ → ℕ → List ℕ
members_within n word = filter (state_of word) (qubits n)

-- the members of a set, ascending
abbrev pub members_of : ℕ → List ℕ
members_of word = members_within 64 word

-- the entries of a list at the positions that are in a set
abbrev pub entries_at : ℕ → List ℕ → List ℕ
entries_at word l = map (entry l) (members_within (length l) word)
