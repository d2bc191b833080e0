-- Examples of the views, as one table: what each reader gets of a record, and what a record is refused with.
use Rattle.std.specs.Prelude.{◌≡◌, ℕ, false, List, [], ◌∷◌, ◌++◌, take, drop, get_or, replicate}
use Rattle.buffer.specs.Slice.{same_bytes}
use Rattle.buffer.specs.Number.{bytes_of}
use Rattle.records.specs.Events.{record_refusal}
use Rattle.records.specs.ExampleRecords.{lamp, blanks, frame, failure_frame, restock_frame, state}
use Rattle.records.specs.declared.StockField.TheVariants.{Present, Old}
use Rattle.views.specs.Fields as Fields
use Rattle.views.specs.Fields.{holds, lacks}
use Rattle.views.specs.Bytes.{view}
use Rattle.views.specs.Viewing.{ViewResult, refused_view, viewed}
use Rattle.views.specs.Secrecy.{fields_seen, Agree}
use Rattle.views.specs.declared.Reader.TheVariants.{Purchasing, Maintenance}

-- the lamp of eighteen zeros
abbrev zeros : List ℕ
zeros = replicate 18 48

-- a Request at hour 10 with origin 3; the same from 3 to 4 with a sense, behind the lamp
abbrev request_frame : (from to : ℕ) → List ℕ
request_frame from to = frame 1 from to 10 3 lamp

abbrev sense_frame : (sense : ℕ) → List ℕ
sense_frame sense = 191 ∷ 1 ∷ 3 ∷ 4 ∷ (bytes_of 4 10 ++ (3 ∷ (lamp ++ (sense ∷ []))))

-- a state with the old stock
abbrev old_state : (stock failed fitted short : ℕ) → List ℕ
old_state stock failed fitted short = bytes_of 2 stock ++ (bytes_of 4 failed ++ (bytes_of 4 fitted ++ bytes_of 4 short))

-- an event: a frame, and the state after it; one whose state is cut by a byte
abbrev event : (frame : List ℕ) → List ℕ
event frame = frame ++ state 1 2 3 4

abbrev cut_event : (frame : List ℕ) → List ℕ
cut_event frame = frame ++ take 15 (state 1 2 3 4)

-- the Failure at hour 10, the Restock, and a record of both
abbrev failure : List ℕ
failure = event (failure_frame 10 lamp)

abbrev restock : List ℕ
restock = restock_frame 258 300 ++ state 301 2 3 4

abbrev pub both : List ℕ
both = failure ++ restock

-- the same events with the old stock, and the record of both
abbrev old_failure : List ℕ
old_failure = failure_frame 10 lamp ++ old_state 1 2 3 4

abbrev old_restock : List ℕ
old_restock = restock_frame 258 300 ++ old_state 301 2 3 4

abbrev pub old_both : List ℕ
old_both = old_failure ++ old_restock

-- the Failure with another stock and short after it; two Requests that differ in from, to, origin and lamp
abbrev other_failure : List ℕ
other_failure = failure_frame 10 lamp ++ state 5 2 3 8

abbrev request : List ℕ
request = event (request_frame 3 4)

abbrev other_request : List ℕ
other_request = event (frame 1 5 6 10 7 zeros)

-- the Failure with that stock after it
abbrev stocked : (stock : ℕ) → List ℕ
stocked stock = failure_frame 10 lamp ++ state stock 2 3 4

-- what purchasing gets of the Failure and of the Restock, 22 and 24 bytes: map, hour, kind, quantity, stock, failed, fitted, short
abbrev failure_for_purchasing : List ℕ
failure_for_purchasing = 123 ∷ 0 ∷ 0 ∷ 0 ∷ 10 ∷ 0 ∷ 0 ∷ 0 ∷ 0 ∷ 1 ∷ 0 ∷ 0 ∷ 0 ∷ 2 ∷ 0 ∷ 0 ∷ 0 ∷ 3 ∷ 0 ∷ 0 ∷ 0 ∷ 4 ∷ []

abbrev restock_for_purchasing : List ℕ
restock_for_purchasing = 127 ∷ 0 ∷ 0 ∷ 1 ∷ 2 ∷ 3 ∷ 1 ∷ 44 ∷ 0 ∷ 0 ∷ 1 ∷ 45 ∷ 0 ∷ 0 ∷ 0 ∷ 2 ∷ 0 ∷ 0 ∷ 0 ∷ 3 ∷ 0 ∷ 0 ∷ 0 ∷ 4 ∷ []

-- what maintenance gets of them, 25 and 6 bytes: map, hour, kind, lamp, origin
abbrev failure_for_maintenance : List ℕ
failure_for_maintenance = 15 ∷ 0 ∷ 0 ∷ 0 ∷ 10 ∷ 0 ∷ (lamp ++ (3 ∷ []))

abbrev restock_for_maintenance : List ℕ
restock_for_maintenance = 3 ∷ 0 ∷ 0 ∷ 1 ∷ 2 ∷ 3 ∷ []

-- what a record with the present stock is refused with, or 0
abbrev refusal : List ℕ → ℕ
refusal bytes = record_refusal Present bytes

-- what purchasing gets of the stock, behind map, hour and kind
abbrev stock_in : List ℕ → List ℕ
stock_in bytes = take 4 (drop 6 bytes)

-- an output of so many bytes, each 9
abbrev room : ℕ → List ℕ
room n = replicate n 9

-- the call wrote so many bytes, and that is its output
abbrev wrote : ℕ → List ℕ → ViewResult
wrote count output = record { answer = record { number = 0; written = count }; output = output }

pub record ViewExamples : Type 0 where
  -- an empty record: an empty view
  pub empty : (viewed 0 0 [] (room 1) ≡ wrote 0 (9 ∷ [])) × (viewed 1 0 [] [] ≡ wrote 0 [])
  -- a Failure, for purchasing: the quantity is left out; the two bytes past the 22 are as they were
  pub purchasing_failure : viewed 0 0 failure (room 24) ≡ wrote 22 (failure_for_purchasing ++ (9 ∷ 9 ∷ []))
  -- the same for maintenance: lamp and origin, and nothing of the state; the byte past the 25 is as it was
  pub maintenance_failure : viewed 1 0 failure (room 26) ≡ wrote 25 (failure_for_maintenance ++ (9 ∷ []))
  -- a Restock: purchasing gets its quantity too, maintenance hour and kind alone, since a Restock has no lamp and no origin
  pub restock_views : (viewed 0 0 restock (room 25) ≡ wrote 24 (restock_for_purchasing ++ (9 ∷ [])))
      × (viewed 1 0 restock (room 8) ≡ wrote 6 (restock_for_maintenance ++ (9 ∷ 9 ∷ [])))
  -- the fields of the Restock that each of them sees, as values; a field that it lacks has its place
  pub restock_fields : (fields_seen Purchasing Present restock ≡ (holds (Fields.hour 258) ∷ holds (Fields.kind 3) ∷ holds (Fields.quantity 300)
      ∷ holds (Fields.stock 301) ∷ holds (Fields.failed 2) ∷ holds (Fields.fitted 3) ∷ holds (Fields.short 4) ∷ []) ∷ [])
      × (fields_seen Maintenance Present restock ≡ (holds (Fields.hour 258) ∷ holds (Fields.kind 3) ∷ lacks ∷ lacks ∷ []) ∷ [])
  -- the kind, behind map and hour, is its number, not its rank within an hour: a Request's is 1, a Delivery's 2, a Restock's 3
  pub kind_numbers : (get_or (view Purchasing Present request) 5 0 ≡ 1) × (get_or (view Purchasing Present (event (frame 2 4 3 10 3 lamp))) 5 0 ≡ 2)
      × (get_or (view Purchasing Present restock) 5 0 ≡ 3)
  -- two events, and room for exactly both views
  pub exact_room : (viewed 0 0 both (room 46) ≡ wrote 46 (failure_for_purchasing ++ restock_for_purchasing))
      × (viewed 1 0 both (room 31) ≡ wrote 31 (failure_for_maintenance ++ restock_for_maintenance))
  -- one byte less is 5, and nothing is written, not even the view of the first event
  pub no_room : (viewed 0 0 both (room 45) ≡ refused_view 5 (room 45)) × (viewed 1 0 both (room 30) ≡ refused_view 5 (room 30))
  -- room comes last: no room for the first event's view, but the second event has a bad lamp, 12, or is cut, 11
  pub room_last : (viewed 0 0 (failure ++ event (failure_frame 10 blanks)) (room 3) ≡ refused_view 12 (room 3))
      × (viewed 1 0 (failure ++ cut_event (failure_frame 10 lamp)) [] ≡ refused_view 11 [])
  -- a cut state is 11, where its last byte is missing and where all are
  pub cut_state : (viewed 1 0 (cut_event (failure_frame 10 lamp)) (room 26) ≡ refused_view 11 (room 26)) × (refusal (failure_frame 10 lamp) ≡ 11)
  -- but its frame's refusals come first: a bad lamp, gateway 255, hour 4,294,967,295
  pub frame_first : (refusal (cut_event (failure_frame 10 blanks)) ≡ 12) × (refusal (cut_event (request_frame 255 4)) ≡ 2)
      × (refusal (cut_event (failure_frame 4294967295 lamp)) ≡ 3)
  -- the first event that is refused decides: its 3 before the second's 11, its 12 before the second's 2
  pub in_turn : (refusal (event (failure_frame 4294967295 lamp) ++ cut_event (failure_frame 10 lamp)) ≡ 3)
      × (refusal (event (failure_frame 10 blanks) ++ event (request_frame 255 4)) ≡ 12)
  -- gateway 254 is taken, 255 is 2, as from, as to and as origin
  pub numbers : (refusal (event (frame 1 254 254 10 254 lamp)) ≡ 0) × (refusal (event (request_frame 255 4)) ≡ 2)
      × (refusal (event (request_frame 3 255)) ≡ 2) × (refusal (event (frame 1 3 4 10 255 lamp)) ≡ 2)
  -- any addressee: two events that are addressed to different gateways are taken
  pub addressees : refusal (request ++ event (request_frame 3 5)) ≡ 0
  -- hour 4,294,967,294 is taken and written in all its bytes, the next hour is 3
  pub last_hour : (take 5 (view Purchasing Present (event (failure_frame 4294967294 lamp))) ≡ 123 ∷ 255 ∷ 255 ∷ 255 ∷ 254 ∷ [])
      × (refusal (event (failure_frame 4294967294 lamp)) ≡ 0) × (refusal (event (failure_frame 4294967295 lamp)) ≡ 3)
  -- any other form than a plain message of kinds 0 to 3 is 1: a cancel, an acknowledgment, a Start
  pub other_forms : (refusal (event (sense_frame 1)) ≡ 1) × (refusal (event (sense_frame 2)) ≡ 1)
      × (refusal (event (7 ∷ 4 ∷ 3 ∷ 4 ∷ [])) ≡ 1)
  -- 11: a cut frame; one byte, alone and behind an event; a map of 0, whose frame is that one byte
  pub lengths : (refusal (take 26 failure) ≡ 11) × (refusal (63 ∷ []) ≡ 11) × (refusal (failure ++ (63 ∷ [])) ≡ 11)
      × (refusal (0 ∷ failure) ≡ 11)
  -- there is no reader 2: 8, also where there is no room, and where the record would be refused too
  pub no_reader : (viewed 2 0 failure (room 26) ≡ refused_view 8 (room 26)) × (viewed 2 0 failure (room 3) ≡ refused_view 8 (room 3))
      × (viewed 2 0 (63 ∷ []) [] ≡ refused_view 8 [])
  -- the two Requests give purchasing equal bytes, and maintenance different ones
  pub purchasing_alike : (view Purchasing Present request ≡ view Purchasing Present other_request)
      × (same_bytes (view Maintenance Present request) (view Maintenance Present other_request) ≡ false)
  -- the Failure and the one with another stock and short after it give maintenance equal bytes, and purchasing different ones
  pub maintenance_alike : (view Maintenance Present failure ≡ view Maintenance Present other_failure)
      × (same_bytes (view Purchasing Present failure) (view Purchasing Present other_failure) ≡ false)
  -- a stock of 65,536, and the largest one, 33,619,455, in four bytes
  pub large_stock : (stock_in (view Purchasing Present (stocked 65536)) ≡ 0 ∷ 1 ∷ 0 ∷ 0 ∷ [])
      × (stock_in (view Purchasing Present (stocked 33619455)) ≡ 2 ∷ 0 ∷ 253 ∷ 255 ∷ [])
  -- an old stock in four bytes too: 65,535, the largest
  pub old_largest : stock_in (view Purchasing Old (failure_frame 10 lamp ++ old_state 65535 2 3 4)) ≡ 0 ∷ 0 ∷ 255 ∷ 255 ∷ []
  -- a record with the old stock gives both readers the bytes of the record with the same values and the present stock
  pub old_alike : (viewed 0 1 old_both (room 46) ≡ wrote 46 (failure_for_purchasing ++ restock_for_purchasing))
      × (viewed 1 1 old_both (room 31) ≡ wrote 31 (failure_for_maintenance ++ restock_for_maintenance))
  -- the two records agree in what each reader sees, though one has the old stock
  pub old_agrees : (Agree Purchasing Present both Old old_both) × (Agree Maintenance Present both Old old_both)
  -- so that by the law their views are equal, and the two calls leave the same, whatever the output was
  pub old_equal : (view Purchasing Present both ≡ view Purchasing Old old_both) × (view Maintenance Present both ≡ view Maintenance Old old_both)
      × ((out : List ℕ) → viewed 0 0 both out ≡ viewed 0 1 old_both out) × ((out : List ℕ) → viewed 1 0 both out ≡ viewed 1 1 old_both out)
  -- an old state of thirteen bytes is cut, 11, one of fourteen is whole; a present one has sixteen
  pub cut_states : (record_refusal Old (failure_frame 10 lamp ++ take 13 (old_state 1 2 3 4)) ≡ 11) × (record_refusal Old old_failure ≡ 0)
      × (refusal (failure_frame 10 lamp ++ take 15 (state 1 2 3 4)) ≡ 11) × (refusal failure ≡ 0)
  -- its frame's refusals come first there too: gateway 255 before a cut old state
  pub old_frame_first : record_refusal Old (request_frame 255 4 ++ take 13 (old_state 1 2 3 4)) ≡ 2
  -- whether the stock is old is 0 or 1: 2 is 8, also with reader 2, where there is no room, and where the record would be refused too
  pub no_such_stock : (viewed 0 2 failure (room 26) ≡ refused_view 8 (room 26)) × (viewed 2 2 failure (room 26) ≡ refused_view 8 (room 26))
      × (viewed 1 2 failure (room 3) ≡ refused_view 8 (room 3)) × (viewed 0 2 (63 ∷ []) [] ≡ refused_view 8 [])
  -- a record read with the stock that it does not have: alone the old Failure is cut, 11, with the Restock behind it the next event
  -- begins with another map, 1; two bytes of the Failure with the present stock are left, a map of 0, 11
  pub misread : (refusal old_failure ≡ 11) × (refusal old_both ≡ 1) × (record_refusal Old failure ≡ 11)
