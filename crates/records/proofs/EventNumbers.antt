-- The number of an event's refusal fits a byte.
use mathlib.Core.Bool.{Bool, true, false, cond}
use mathlib.Core.List.{List}
use Prim.Native.Nat.{ℕ, ◌<◌}
use native.Mathlib.Omega.{arith}
use lib.Dec.{leb, eqb}
use lib.ListN.{length}
use Rattle.std.specs.Prelude.{Result, Ok, Err}
use Rattle.frame.specs.Reasons.{reading, read_in, refusal_in}
use Rattle.frame.specs.declared.Frame.{Frame}
use Rattle.frame.specs.declared.forms.FormError.{FormError}
use Rattle.frame.proofs.FormNumbers.{number_small}
use Rattle.frame.proofs.Turning.{refusal-few}
use Rattle.frame.specs.Limits.{refusal_where}
use Rattle.records.specs.declared.StockField.{StockField}
use Rattle.records.specs.Events.{most_gateways, latest_hour, state_size_of, frame_in, state_in, is_event, frame_refusal, event_refusal}

chosen : (b : Bool) {n m : ℕ} → n < 256 → m < 256 → cond b n m < 256
chosen true h k = h
chosen false h k = k

frame-number : (r : Result Frame FormError) → frame_refusal r < 256
unfolding frame_refusal
frame-number r = by (read_in is_event r)
  where
    by : (q : Result Frame FormError) → refusal_in (λ f. refusal_where true f most_gateways latest_hour) q < 256
    by (Ok f) = omega (arith, refusal-few true f most_gateways latest_hour)
    by (Err reason) = number_small reason

pub event-number : (field : StockField) (s : List ℕ) → event_refusal field s < 256
unfolding event_refusal
event-number field s =
    chosen (eqb (frame_refusal (reading (frame_in s))) 0) (chosen (leb (state_size_of field) (length (state_in field s))) (omega arith) (omega arith)) (frame-number (reading (frame_in s)))
