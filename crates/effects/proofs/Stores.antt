-- Laws of the header after sending: the note, and one more that is counted.
use mathlib.Core.Path.{◌≡◌}
use Prim.Native.Nat.{ℕ, ◌+◌}
use native.Mathlib.Numerals.{add-one}
use Rattle.memory.specs.declared.Header.{Header}
use Rattle.memory.specs.declared.Round.{Round}
use Rattle.gateway.specs.Effects.{lowered_in, noted}
use Rattle.effects.specs.Inside.Sending.{header_sent}

-- the note in each phase
module _ (hour : ℕ) (r : Round) where
  pub with-note : (note : ℕ) → note ≡ lowered_in r.phase r.note hour → record { phase = r.phase; arrived = r.arrived; note = note } ≡ noted hour r
  unfolding noted
  with-note note e = λ i. record { phase = r.phase; arrived = r.arrived; note = e i }

-- one more is counted
pub header-counted : (h : Header) (hour : ℕ) {round : Round} → round ≡ noted hour h.round
    → record {
      settings = h.settings;
      state = h.state;
      agreed = h.agreed;
      round = round;
      queued = h.queued;
      outstanding = h.outstanding
          + 1;
    } ≡ header_sent hour h
header-counted h hour e = λ i. record {
  settings = h.settings;
  state = h.state;
  agreed = h.agreed;
  round = e i;
  queued = h.queued;
  outstanding = add-one h.outstanding i;
}
