-- A law for each branch of taking an acknowledgment.
use mathlib.Core.Path.{◌≡◌}
use mathlib.Core.Bool.{Bool}
use mathlib.Core.List.{List}
use Rattle.std.specs.Prelude.{Err}
use Rattle.refusal.specs.declared.Refusal.TheVariants.{NotOutstanding}
use Prim.Native.Nat.{ℕ, ◌<◌, ◌≤◌}
use native.Mathlib.Omega.{arith}
use Rattle.lists.specs.Inside.Positions.{first_where, without}
use Rattle.lists.proofs.PositionLaws.{any_found, any_none, without-first}
use Rattle.buffer.proofs.Writes.{write-nil}
use Rattle.model.specs.declared.Message.{Message}
use Rattle.memory.specs.Codec.{decode, encode}
use Rattle.memory.specs.declared.Header.{Header}
use Rattle.gateway.specs.Effects.{with_outstanding}
use Rattle.gateway.specs.Taking.{is_sent, take_acknowledgment}
use Rattle.gateway.specs.Calls.{left, leaving}
use Rattle.gateway.specs.Inside.Premises.{Known}
use Rattle.places.specs.Inside.Searching.{sent_in}
use Rattle.gateway.specs.Answers.{answer_of}
use Rattle.gateway.proofs.Knowing.{outstanding-count, outstanding-places}

module _ (m : List ℕ) (h : Header) (known : Known m h) (cancel : Bool) (message : Message) (k : ℕ)
    (found : k ≡ first_where (is_sent cancel message) (sent_in h.settings.q m h.outstanding)) where
  position : k ≡ first_where (is_sent cancel message) (decode m).outstanding
  position = rw (outstanding-places m h known) found

  pub acknowledgment-of-none : h.outstanding ≤ k → (output : List ℕ) → left (answer_of (Err NotOutstanding)) m output ≡ leaving (take_acknowledgment cancel message (decode m)) m output
  unfolding leaving take_acknowledgment
  acknowledgment-of-none e output =
      let none = any_none (is_sent cancel message) (decode m).outstanding (omega (arith, position, outstanding-count m h known)) in
      rw none

  pub acknowledgment-of-one : k < h.outstanding → {after : List ℕ}
      → after ≡ encode (with_outstanding (without k (decode m).outstanding) (decode m)) m
      → (output : List ℕ) → record { answer = record { number = 0; written = 0 }; memory = after; output = output } ≡ leaving
      (take_acknowledgment cancel message (decode m)) m output
  unfolding leaving take_acknowledgment
  acknowledgment-of-one n e output =
      let some = any_found (is_sent cancel message) (decode m).outstanding (omega (arith, position, outstanding-count m h known)) in
      rw (some, e, without-first (is_sent cancel message) (decode m).outstanding, ← position, write-nil)
