-- Examples of the first refusal of a frame, as one table: what taking it by the carrier, an opening list that holds it and reading its
-- lamp are refused with.
use Rattle.std.specs.Prelude.{◌≡◌, ℕ, List, [], ◌∷◌, ◌++◌, take, drop, replicate}
use Rattle.frame.specs.Lamps.{lamp_refusal}
use Rattle.gateway.specs.Calls.{take_bytes, taken}
use Rattle.gateway.specs.SettingUp.{set_up_refusal}
use Rattle.gateway.specs.Examples.{town_hours, among_two}
use Rattle.gateway.specs.declared.Opening.{Opening}

-- gateway 0 of two, H = 100, with nothing queued; and the settings with which it is set up, in memory that is long enough
abbrev carried : List ℕ → ℕ
carried bytes = (take_bytes bytes 100 (among_two 0 0 [] [])).number

abbrev as_opening : Opening
as_opening = record { n = 2; own = 0; supplier = 0; stock = 0; last = 100; q = 4; u = 4; hours = town_hours }

abbrev listed : List ℕ → ℕ
listed bytes = set_up_refusal as_opening 640 bytes

-- all three are refused with that number
abbrev Everywhere : List ℕ → ℕ → Type 0
Everywhere bytes number = (carried bytes ≡ number) × (listed bytes ≡ number) × (lamp_refusal bytes ≡ number)

-- a lamp, and one whose last character is a blank, 32
abbrev lamp : List ℕ
lamp = 76 ∷ replicate 17 48

abbrev bad_lamp : List ℕ
bad_lamp = 76 ∷ (replicate 16 48 ++ (32 ∷ []))

-- a frame of kinds 0 to 2: map, kind, from, to, hour, origin, the lamp, and a sense or nothing
abbrev event : (map kind from to hour origin : ℕ) → (lamp sense : List ℕ) → List ℕ
event map kind from to hour origin lamp sense = map ∷ kind ∷ from ∷ to ∷ 0 ∷ 0 ∷ 0 ∷ hour ∷ origin ∷ (lamp ++ sense)

-- a Failure of gateway 0 at that hour, and a Request from gateway 1 to gateway 0
abbrev failure : ℕ → List ℕ
failure hour = event 63 0 0 0 hour 0 lamp []

abbrev request : List ℕ → List ℕ
request lamp = event 63 1 1 0 7 1 lamp []

-- a Restock of 5 at gateway 0, and a Start from gateway 1 to gateway 0
abbrev restock : List ℕ
restock = 79 ∷ 3 ∷ 0 ∷ 0 ∷ 0 ∷ 0 ∷ 0 ∷ 7 ∷ 0 ∷ 5 ∷ []

abbrev start : List ℕ
start = 7 ∷ 4 ∷ 1 ∷ 0 ∷ []

-- five frames, where there are four queue places
abbrev five_times : List ℕ → List ℕ
five_times frame = frame ++ (frame ++ (frame ++ (frame ++ frame)))

pub record FirstReasons : Type 0 where
  -- no byte, which is no frame in a list; one byte
  pub no_byte : (carried [] ≡ 11) × (lamp_refusal [] ≡ 11) × (listed [] ≡ 0)
  pub one_byte : Everywhere (63 ∷ []) 11
  -- two bytes: a kind that there is not; the map of another kind
  pub no_kind : Everywhere (63 ∷ 7 ∷ []) 1
  pub other_map : Everywhere (63 ∷ 3 ∷ []) 1
  -- a Failure cut by one, and one byte too long: in a list that byte is a cut frame
  pub cut : Everywhere (take 26 (failure 7)) 11
  pub long : Everywhere (failure 7 ++ (63 ∷ [])) 11
  -- the map comes before the length: a Failure with the map of a Restock
  pub map_first : Everywhere (79 ∷ drop 1 (failure 7)) 1
  -- a sense of 4 with a bad lamp: the sense comes first
  pub sense_first : Everywhere (event 191 0 0 0 7 0 bad_lamp (4 ∷ [])) 1
  -- a bad lamp with gateway fields that disagree: the lamp comes first. With a good one: 1
  pub lamp_first : Everywhere (event 63 0 0 1 7 0 bad_lamp []) 12
  pub disagreeing : Everywhere (event 63 0 0 1 7 0 lamp []) 1
  -- a Request with a bad lamp, and with a good one, which a list does not take
  pub bad_request : Everywhere (request bad_lamp) 12
  pub good_request : (carried (request lamp) ≡ 0) × (listed (request lamp) ≡ 1) × (lamp_refusal (request lamp) ≡ 0)
  -- a whole Restock, which the carrier does not bring and which has no lamp; a cut one
  pub whole_restock : (carried restock ≡ 1) × (listed restock ≡ 0) × (lamp_refusal restock ≡ 1)
  pub cut_restock : Everywhere (take 9 restock) 11
  -- a Start has no lamp; one of a wrong length
  pub whole_start : (listed start ≡ 1) × (lamp_refusal start ≡ 1)
  pub long_start : (carried (start ++ (0 ∷ [])) ≡ 11) × (lamp_refusal (start ++ (0 ∷ [])) ≡ 11)
  -- a map of 0 in a list is a frame of that one byte
  pub map_of_zero : (listed (0 ∷ failure 7) ≡ 11) × (carried (0 ∷ failure 7) ≡ 1)
  -- frame after frame: the first frame's 3 comes before the second's 11; behind a good one a cut tail of no kind is 1
  pub in_turn : (listed (failure 101 ++ (63 ∷ [])) ≡ 3) × (listed (failure 7 ++ (63 ∷ 9 ∷ [])) ≡ 1)
  -- all of it comes before 2 and 3, and before 5, for which the list has a frame too many
  pub before2 : Everywhere (event 63 0 2 2 101 2 bad_lamp []) 12
  pub before5 : (listed (five_times (failure 7)) ≡ 5) × (listed (five_times (failure 7) ++ (63 ∷ [])) ≡ 11)
  -- and after 10, and after 8, for which the memory has a byte too few
  pub after10 : (taken [] [] []).answer.number ≡ 10
  pub after8 : set_up_refusal as_opening 639 (63 ∷ []) ≡ 8
