-- At most two values as a list.
use Rattle.std.specs.Prelude.{List, [], ◌∷◌}
use Rattle.routing.specs.declared.at_most_two.AtMostTwo.{AtMostTwo}
use Rattle.routing.specs.declared.at_most_two.AtMostTwo.TheVariants.{None, One, Two}

-- Those that there are, in their order.
abbrev pub listed : {A : Type 0} → AtMostTwo A → List A
listed None = []
listed (One first) = first ∷ []
listed (Two first second) = first ∷ second ∷ []

-- The first two of a list.
abbrev pub at_most_two : {A : Type 0} → List A → AtMostTwo A
at_most_two [] = None
at_most_two (first ∷ []) = One first
at_most_two (first ∷ second ∷ more) = Two first second
