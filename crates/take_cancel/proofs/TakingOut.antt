-- Laws of an entry that is taken out of the queue: those behind it are moved down and undone, then it is.
use mathlib.Core.Path.{◌≡◌, refl, sym, ◌∙◌, ap}
use mathlib.Core.List.{List, [], ◌∷◌, ◌++◌, map}
use Prim.Native.Nat.{ℕ, suc, ◌+◌, ◌-◌, ◌*◌, ◌≤◌, ◌<◌}
use native.Mathlib.Omega.{arith}
use lib.ListN.{length, take, drop, length-append}
use lib.Seq.{take_at, drop_at, length-take-le}
use Rattle.buffer.specs.Slice.{part, write}
use Rattle.model.specs.declared.Message.{Message}
use Rattle.memory.specs.Layout.{queue_at, queue_size}
use Rattle.memory.specs.Records.{Gateway, site_of}
use Rattle.memory.specs.Codec.{entry_of}
use Rattle.memory.specs.Inside.Fits.{EntryFits}
use Rattle.memory.specs.declared.Entry.{Entry}
use Rattle.memory.specs.declared.Header.{Header}
use Rattle.gateway.specs.Effects.{with_queue}
use Rattle.gateway.specs.Undoing.{processed_of, undone, rolled_back}
use Rattle.effects.specs.Inside.Placed.{Placed}
use Rattle.effects.proofs.PlacedLaws.{placed-inside, placed-count, placed-split, placed-fits, placed-removed}
use Rattle.rollback.specs.Inside.Undone.{sent_by_entries, MaySendBack, undone_from, taken_out}
use Rattle.rollback.proofs.RollbackLaws.{back_more, rolled-more, rolled-settings, rolled-outstanding, rolled-with-queue}

module _ {m : List ℕ} {g : Gateway} {header : Header} {k : ℕ} (low : k < length g.queue) (may : MaySendBack m g m header (sent_by_entries g (drop k
    g.queue))) where
  -- the places that are moved lie inside the memory
  pub record Movable : Type 0 where
    pub below : k < header.queued
    pub small : header.queued < 65536
    pub long : queue_at k + queue_size + queue_size * (header.queued - k - 1) ≤ length m

  pub movable : Movable
  movable =
      let i = placed-inside may.placed in
      let n = placed-count may.placed in
      record { below = omega arith; small = omega (arith, i.queued, i.q); long = omega (arith, i.long, i.queued) }

  module _ {x : Entry} (read : x ≡ entry_of (part m (queue_at k) queue_size)) {moved : List ℕ}
      (down : moved ≡ write (queue_at k) (part m (queue_at k + queue_size) (queue_size * (header.queued - k - 1))) m) where
    abbrev front : List Entry
    front = take k g.queue

    abbrev rest : List Entry
    rest = drop (suc k) g.queue

    -- the gateway without the entry, and its header
    abbrev pub without : Gateway
    without = with_queue (front ++ rest) g

    abbrev pub fewer : Header
    fewer = record {
      settings = header.settings;
      state = header.state;
      agreed = header.agreed;
      round = header.round;
      queued = header.queued - 1;
      outstanding = header.outstanding;
    }

    split : g.queue ≡ front ++ (x ∷ rest)
    split = placed-split may.placed k movable.below read

    front_long : length front ≡ k
    front_long = length-take-le k g.queue (omega arith)

    cut : drop k g.queue ≡ x ∷ rest
    cut = ap (drop k) split ∙ drop_at front (x ∷ rest) k front_long

    front-there : take k (front ++ rest) ≡ front
    front-there = take_at front rest k front_long

    rest-there : drop k (front ++ rest) ≡ rest
    rest-there = drop_at front rest k front_long

    -- what the events behind had sent, and what this one had
    abbrev behind : List Message
    behind = sent_by_entries g rest

    abbrev one : List Message
    one = sent_by_entries g (x ∷ [])

    both : sent_by_entries g (drop k g.queue) ≡ behind ++ one
    both = rw cut (back_more x (site_of g.settings) rest)

    places-both : length g.outstanding + length (behind ++ one) ≤ g.settings.u
    places-both = rw both at may.places

    pub may-undo-behind : (k ≤ length without.queue) × MaySendBack m without moved fewer (sent_by_entries without (drop k without.queue))
    may-undo-behind =
        let d = places-both in
        let n = length-append behind one in (
          rw (length-append, front_long) (omega arith),
          rw rest-there (record { placed = placed-removed may.placed front x rest split (sym front_long) down refl; places = omega arith }),
        )

    -- those behind are undone
    module _ {memory' : List ℕ} {r : Header} (undoing : Placed m memory' r (undone_from k without)) where
      abbrev left : Gateway
      left = with_queue (front ++ map undone rest) (rolled_back (processed_of rest) g)

      left_is : undone_from k without ≡ left
      unfolding undone_from
      left_is = rw (front-there, rest-there) (ap (with_queue (front ++ map undone rest)) (rolled-with-queue (processed_of rest) g (front ++ rest)))

      settings-left : left.settings ≡ g.settings
      settings-left = rolled-settings (processed_of rest) g

      places-left : length left.outstanding + length one ≤ left.settings.u
      places-left =
          let a = rolled-outstanding (processed_of rest) g in
          let d = places-both in
          let n = length-append behind one in
          rw settings-left (omega arith)

      one-there : sent_by_entries left (x ∷ []) ≡ one
      one-there = rw settings-left

      pub may-undo-last : EntryFits x × MaySendBack m (undone_from k without) memory' r (sent_by_entries (undone_from k without) (x ∷ []))
      may-undo-last = (
        placed-fits may.placed k movable.below read,
        rw (left_is, one-there) (record { placed = rw left_is at undoing; places = places-left }),
      )

      all-undone : rolled_back (processed_of (x ∷ [])) left ≡ taken_out k g
      unfolding taken_out
      all-undone =
          rolled-with-queue (processed_of (x ∷ [])) (rolled_back (processed_of rest) g) (front ++ map undone rest)
          ∙ rw cut (ap (with_queue (front ++ map undone rest)) (sym (rolled-more x rest g)))

      pub taken_out_lem : {memory'' : List ℕ} {r' : Header} → Placed m memory'' r' (rolled_back (processed_of (x ∷ [])) (undone_from k without)) → Placed m
          memory'' r' (taken_out k g)
      taken_out_lem d = rw (left_is, all-undone) at d
