-- What is known of memory that is sound and whose header was read.
use mathlib.Core.Path.{◌≡◌, sym, subst}
use mathlib.Core.List.{List}
use Prim.Native.Nat.{ℕ, ◌≤◌}
use native.Mathlib.Nat.{add-zero}
use lib.ListN.{length}
use Rattle.memory.specs.Layout.{size_for, header_size, outstanding_size, queue_size, queue_at}
use Rattle.memory.specs.Codec.{header_at, entry_of, sent_of, places_at, decode}
use Rattle.memory.specs.declared.Header.{Header}
use Rattle.memory.proofs.Validated.{ValidSettings, settings-facts}
use Rattle.memory.proofs.Places.{length-read}
use Rattle.memory.proofs.SoundMemory.{sound-facts}
use Rattle.gateway.specs.Inside.Premises.{Known}

-- sizes and counts of memory that is known to be sound
pub record Sizes (m : List ℕ) (h : Header) : Type 0 where
  pub long : size_for h.settings.q h.settings.u ≤ length m
  pub queued : h.queued ≤ h.settings.q
  pub outstanding : h.outstanding ≤ h.settings.u
  pub settings : ValidSettings h.settings

pub sizes : (m : List ℕ) (h : Header) → Known m h → Sizes m h
sizes m h k =
    let s = sound-facts m k.soundness in
    let all : Sizes m (header_at m) = record { long = s.long; queued = s.queued; outstanding = s.sent; settings = settings-facts _ s.settings } in
    subst (λ (x : Header). Sizes m x) (sym k.header) all

-- the gateway in the memory, by its header
module _ (m : List ℕ) (h : Header) (k : Known m h) where
  pub queue-places : (decode m).queue ≡ places_at entry_of queue_size m header_size h.queued
  unfolding decode
  queue-places = rw k.header

  pub outstanding-places : (decode m).outstanding ≡ places_at sent_of outstanding_size m (queue_at h.settings.q) h.outstanding
  unfolding decode
  outstanding-places = rw (k.header, add-zero)

  pub queue-count : length (decode m).queue ≡ h.queued
  queue-count = rw queue-places (length-read entry_of queue_size m header_size h.queued)

  pub outstanding-count : length (decode m).outstanding ≡ h.outstanding
  outstanding-count = rw outstanding-places (length-read sent_of outstanding_size m (queue_at h.settings.q) h.outstanding)

  pub agreed-is : h.agreed ≡ (decode m).agreed
  unfolding decode
  agreed-is = rw k.header

  pub settings-are : h.settings ≡ (decode m).settings
  unfolding decode
  settings-are = rw k.header

  pub round_is : h.round ≡ (decode m).round
  unfolding decode
  round_is = rw k.header
