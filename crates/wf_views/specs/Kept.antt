-- How view records are kept: each in a slab, under a key that a list by rising generation tells.
use Rattle.std.specs.Prelude.{◌≡◌, ◌≤◌, ◌+◌, ℕ, List, [], ◌∷◌, ◌++◌, Option, Some, None, IsSomeAnd, length, map}
use Rattle.std.specs.List.{AllByRecursion}
use Rattle.slab.specs.Slab.{Slab, get, slab_len}
use Rattle.wf_outside.specs.Lists.{IsRising}
use Rattle.wf_views.specs.declared.views.Place.{Place}
use Rattle.wf_views.specs.Views.{ViewValue}

-- what is there, as a list
abbrev pub one_or_none : Option ViewValue → List ViewValue
one_or_none None = []
one_or_none (Some v) = v ∷ []

-- the views at these places, in their order
abbrev pub views_at : Slab ViewValue → List Place → List ViewValue
views_at s [] = []
views_at s (p ∷ ps) = one_or_none (get s p.key) ++ views_at s ps

-- at each of these places there is the view of its generation
abbrev pub AreAt : Slab ViewValue → List Place → Type 0
AreAt s [] = Unit {0}
AreAt s (p ∷ ps) = IsSomeAnd (get s p.key) (λ v. v.generation ≡ p.generation) × AreAt s ps

-- the generation of a place
abbrev pub place_number : Place → ℕ
place_number p = p.generation

-- no generation of these places is above the greatest that was added
abbrev pub AreUpTo : Option ℕ → List Place → Type 0
AreUpTo None places = places ≡ []
AreUpTo (Some last) places = AllByRecursion (λ n. n ≤ last) (map place_number places)

-- what view records keep: the places rise, each has its view, and there is room for more in the
-- slab and in the list of places
pub record AreViews (s : Slab ViewValue) (places : List Place) (last : Option ℕ)
    (room capacity : ℕ) : Type 0 where
  pub at : AreAt s places
  pub rising : IsRising (map place_number places)
  pub up_to : AreUpTo last places
  pub slab_room : slab_len s + room ≤ s.capacity
  pub list_room : length places + room ≤ capacity

-- a key is that of the view of a generation: the one place of the generation has it
pub record IsKeyOf (s : Slab ViewValue) (places : List Place) (generation key : ℕ) : Type 0 where
  pub only : AllByRecursion (λ p. p.generation ≡ generation → p.key ≡ key) places
  pub there : IsSomeAnd (get s key) (λ v. v.generation ≡ generation)
