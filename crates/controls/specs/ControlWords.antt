-- Controls as the code keeps them, in the terms of document 01's definitions.
use Rattle.std.specs.Prelude.{ℕ, ◌≡◌, ◌<◌, Bool, cond, List, [], ◌∷◌, ◌++◌, ltb}
use Rattle.limits.specs.Sizes.{set_length}
use Rattle.model.specs.Gates.{Controls, asked, with_control}
use Rattle.model.specs.Emission.{under}
use Rattle.sets.specs.Sets.{members_of}
use Rattle.controls.specs.declared.Site.{Site}
use Rattle.controls.specs.declared.Wires.{Wires}

-- a qubit asked beside others; above 64 there is none
abbrev pub asked_within : ℕ → List ℕ → List ℕ
asked_within q l = cond (ltb set_length q) l (asked q l)

-- one control more, on a qubit; above 64 there is none
abbrev pub with_qubit : ℕ → Bool → Controls → Controls
with_qubit q bit cs = cond (ltb set_length q) cs (with_control q bit cs)

-- a wire above 64, if it is one
abbrev pub high_wire : ℕ → List ℕ
high_wire w = cond (ltb set_length w) (w ∷ []) []

-- the wires of a list: the members of a set, and a wire above them
abbrev pub wires_in : ℕ → ℕ → List ℕ
wires_in set high = members_of set ++ high_wire high

-- controls by two sets of wires up to 64, those asked for 1 and those asked for 0, and a wire above 64 that is asked for 1
abbrev pub controls_of : ℕ → ℕ → ℕ → Controls
controls_of ones high zeros = record { ones = wires_in ones high; zeros = wires_in zeros 0 }

-- the wires of a list as the code keeps it
abbrev pub wires_of : Wires → List ℕ
wires_of w = wires_in w.set w.high

-- a site's controls and its list
abbrev pub controls_from : Site → Controls
controls_from site = controls_of site.ones site.high site.zeros

abbrev pub list_from : Site → List ℕ
list_from site = members_of site.list

-- a site with a list and under controls
pub record At (site : Site) (l : List ℕ) (cs : Controls) : Type 0 where
  pub list : list_from site ≡ l
  pub controls : controls_from site ≡ cs

-- a wire that is the only one that controls ask, for 1
abbrev pub Only : ℕ → Controls → Type 0
Only w cs = (0 < w) × (cs ≡ under w)
