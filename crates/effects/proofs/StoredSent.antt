-- Laws of what a call sends: it stands in the outstanding places behind those that were in use, in the order in which its frames go out.
use mathlib.Core.Path.{◌≡◌, refl, sym, ◌∙◌, ap}
use mathlib.Core.Bool.{Bool}
use mathlib.Core.List.{List, [], ◌∷◌, ◌++◌, map, append-nil, append_assoc}
use Prim.Native.Nat.{ℕ, ◌+◌, ◌*◌, ◌≤◌}
use native.Mathlib.Omega.{arith}
use lib.ListN.{length, length-append}
use Rattle.model.specs.declared.Message.{Message}
use Rattle.frame.specs.declared.Frame.{Frame}
use Rattle.memory.specs.Layout.{outstanding_at, outstanding_size}
use Rattle.memory.specs.Records.{Gateway}
use Rattle.memory.specs.Validity.{frame_if}
use Rattle.memory.specs.declared.Header.{Header}
use Rattle.memory.specs.declared.Sent.{Sent}
use Rattle.gateway.specs.Effects.{frames_for, sent_one, sent_all}
use Rattle.effects.specs.Inside.Sending.{frame_of, stored_frames}
use Rattle.effects.specs.Inside.Placed.{Placed}
use Rattle.effects.proofs.PlacedLaws.{placed-inside, placed-frames}

-- a message or its cancel as it is outstanding
abbrev pub sent_as : Bool → Message → Sent
sent_as cancel m = record { message = m; cancel = cancel }

module _ (cancel : Bool) where
  -- sending changes neither settings nor queue
  pub sent-settings : (ms : List Message) (g : Gateway) → (sent_all cancel ms g).settings ≡ g.settings
  unfolding sent_all sent_one
  sent-settings [] g = refl
  sent-settings (m ∷ ms) g = sent-settings ms (sent_one cancel m g)

  pub sent-queue : (ms : List Message) (g : Gateway) → (sent_all cancel ms g).queue ≡ g.queue
  unfolding sent_all sent_one
  sent-queue [] g = refl
  sent-queue (m ∷ ms) g = sent-queue ms (sent_one cancel m g)

  -- they stand behind what was outstanding
  pub sent-behind : (ms : List Message) (g : Gateway) → (sent_all cancel ms g).outstanding ≡ g.outstanding ++ map (sent_as cancel) ms
  unfolding sent_all sent_one
  sent-behind [] g = sym (append-nil g.outstanding)
  sent-behind (m ∷ ms) g = sent-behind ms (sent_one cancel m g) ∙ append_assoc g.outstanding (sent_as cancel m ∷ []) (map (sent_as cancel) ms)

  pub frames-of : (ms : List Message) → map frame_of (map (sent_as cancel) ms) ≡ frames_for cancel ms
  frames-of [] = refl
  frames-of (m ∷ ms) = ap (◌∷◌ (frame_if cancel m)) (frames-of ms)

-- so many outstanding places from a position on hold what has these frames
pub record Stored (memory : List ℕ) (free count : ℕ) (frames : List Frame) : Type 0 where
  pub inside : free + outstanding_size * count ≤ length memory
  pub held : stored_frames memory free count ≡ frames

-- what a call sent, from the first place on that was free
pub sent-stored : {before found memory : List ℕ} {h r : Header} {g after : Gateway} → Placed before found h g → Placed before memory r after
    → after.settings ≡ g.settings → (new : List Sent) → after.outstanding ≡ g.outstanding ++ new → {free count : ℕ}
    → free ≡ outstanding_at h.settings.q h.outstanding → count ≡ length new → Stored memory free count (map frame_of new)
sent-stored {g = g} {after = after} first p same new behind {free} {count} at n =
    let same-q : after.settings.q ≡ g.settings.q = rw same in
    let q = ap (λ (x : Header). x.settings.q) first.header in
    let used = ap (λ (x : Header). x.outstanding) first.header in
    let q-then = ap (λ (x : Header). x.settings.q) p.header in
    let used-then = ap (λ (x : Header). x.outstanding) p.header in
    let more : length after.outstanding ≡ length g.outstanding + length new = ap length behind ∙ rw length-append in
    let i = placed-inside p in
    record { inside = omega (arith, i.long, i.outstanding); held = placed-frames p g.outstanding new behind (omega arith) n }
