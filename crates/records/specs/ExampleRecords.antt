-- What records are made of in examples.
use Rattle.std.specs.Prelude.{ℕ, List, [], ◌∷◌, ◌++◌, replicate}
use Rattle.buffer.specs.Number.{bytes_of}

-- the lamp ABCDEFGHIJKLMNOPQR, and eighteen blanks, which are no lamp
abbrev pub lamp : List ℕ
lamp = 65 ∷ 66 ∷ 67 ∷ 68 ∷ 69 ∷ 70 ∷ 71 ∷ 72 ∷ 73 ∷ 74 ∷ 75 ∷ 76 ∷ 77 ∷ 78 ∷ 79 ∷ 80 ∷ 81 ∷ 82 ∷ []

abbrev pub blanks : List ℕ
blanks = replicate 18 32

-- a plain frame of kinds 0 to 2: map, kind, from, to, hour, origin, lamp
abbrev pub frame : (kind from to hour origin : ℕ) → (lamp : List ℕ) → List ℕ
frame kind from to hour origin lamp = 63 ∷ kind ∷ from ∷ to ∷ (bytes_of 4 hour ++ (origin ∷ lamp))

-- a Failure at gateway 3
abbrev pub failure_frame : (hour : ℕ) → (lamp : List ℕ) → List ℕ
failure_frame hour lamp = frame 0 3 3 hour 3 lamp

-- a Restock at gateway 3: map, kind, from, to, hour, quantity
abbrev pub restock_frame : (hour quantity : ℕ) → List ℕ
restock_frame hour quantity = 79 ∷ 3 ∷ 3 ∷ 3 ∷ (bytes_of 4 hour ++ bytes_of 2 quantity)

-- a state: stock, failed, fitted, short
abbrev pub state : (stock failed fitted short : ℕ) → List ℕ
state stock failed fitted short = bytes_of 4 stock ++ (bytes_of 4 failed ++ (bytes_of 4 fitted ++ bytes_of 4 short))
