-- The header with another count of places, written as that count alone.
use mathlib.Core.Path.{◌≡◌, sym, ◌∙◌, ap}
use mathlib.Core.List.{List, ◌++◌, append_assoc}
use Prim.Native.Nat.{ℕ, ◌+◌, ◌≤◌}
use native.Mathlib.Omega.{arith}
use lib.ListN.{length, length-append}
use Rattle.buffer.specs.Slice.{write}
use Rattle.buffer.specs.Number.{bytes_of}
use Rattle.buffer.proofs.Numbers.{length-bytes_of}
use Rattle.memory.specs.Layout.{header_used}
use Rattle.memory.specs.Codec.{state_bytes, header_front, header_back}
use Rattle.memory.specs.declared.Header.{Header}
use Rattle.memory.proofs.RoundTrips.{length_front}
use Rattle.buffer.proofs.Standing.{Stands, write-stands, write-replaced}

module _ (h : Header) (m : List ℕ) (long : header_used ≤ length m) (front : Stands 0 (header_front h) m) (back : Stands 6 (header_back h) m) where
  abbrev q : List ℕ
  q = bytes_of 2 h.settings.q

  abbrev u : List ℕ
  u = bytes_of 2 h.settings.u

  abbrev queued : List ℕ
  queued = bytes_of 2 h.queued

  abbrev outstanding : List ℕ
  outstanding = bytes_of 2 h.outstanding

  -- what stands behind the counts
  abbrev rest : List ℕ
  rest =
      bytes_of 4 h.settings.last
      ++ (bytes_of 4 h.agreed
      ++ (bytes_of 4 h.round.note
      ++ (bytes_of 4 h.settings.hours.request
      ++ (bytes_of 4 h.settings.hours.delivery
      ++ (bytes_of 4 h.settings.hours.life
      ++ state_bytes h.state)))))

  front-stays : write 0 (header_front h) m ≡ m
  front-stays = write-stands 0 (header_front h) m (omega (arith, length_front h)) front

  queued-stands : Stands 6 ((q ++ u) ++ (queued ++ (outstanding ++ rest))) m
  unfolding header_back
  queued-stands = rw (append_assoc q u (queued ++ (outstanding ++ rest))) back

  -- the bytes before the number of outstanding places
  behind-three : (zs : List ℕ) → (q ++ (u ++ queued)) ++ zs ≡ q ++ (u ++ (queued ++ zs))
  behind-three zs = append_assoc q (u ++ queued) zs ∙ ap (λ (l : List ℕ). q ++ l) (append_assoc u queued zs)

  outstanding-stands : Stands 6 ((q ++ (u ++ queued)) ++ (outstanding ++ rest)) m
  unfolding header_back
  outstanding-stands = rw (behind-three (outstanding ++ rest)) back

  module _ (n : ℕ) where
    pub queued-alone : write 6 (header_back (record {
      settings = h.settings;
      state = h.state;
      agreed = h.agreed;
      round = h.round;
      queued
          = n;
      outstanding = h.outstanding;
    }))
        (write 0 (header_front (record {
          settings = h.settings;
          state = h.state;
          agreed = h.agreed;
          round = h.round;
          queued = n;
          outstanding = h.outstanding;
        })) m)
        ≡ write 10 (bytes_of 2 n) m
    unfolding header_front header_back
    queued-alone =
        let position : 6 + length (q ++ u) ≡ 10 = simp (length-append, length-bytes_of) in
        ap (write 6 (q ++ (u ++ (bytes_of 2 n ++ (outstanding ++ rest))))) front-stays
        ∙ (ap (λ (l : List ℕ). write 6 l m) (sym (append_assoc q u (bytes_of 2 n ++ (outstanding ++ rest))))
        ∙ (write-replaced 6 (q ++ u) queued (outstanding ++ rest) m (simp (length-append, length-bytes_of) (omega arith)) queued-stands
        (bytes_of 2 n) (simp length-bytes_of)
        ∙ ap (λ (at : ℕ). write at (bytes_of 2 n) m) position))

    pub outstanding-alone : write 6 (header_back (record {
      settings = h.settings;
      state = h.state;
      agreed = h.agreed;
      round = h.round;
      queued = h.queued;
      outstanding = n;
    }))
        (write 0 (header_front (record {
          settings = h.settings;
          state = h.state;
          agreed = h.agreed;
          round = h.round;
          queued = h.queued;
          outstanding = n;
        })) m)
        ≡ write 12 (bytes_of 2 n) m
    unfolding header_front header_back
    outstanding-alone =
        let position : 6 + length (q ++ (u ++ queued)) ≡ 12 = simp (length-append, length-bytes_of) in
        ap (write 6 (q ++ (u ++ (queued ++ (bytes_of 2 n ++ rest))))) front-stays
        ∙ (ap (λ (l : List ℕ). write 6 l m) (sym (behind-three (bytes_of 2 n ++ rest)))
        ∙ (write-replaced 6 (q ++ (u ++ queued)) outstanding rest m (simp (length-append, length-bytes_of) (omega arith)) outstanding-stands
        (bytes_of 2 n) (simp length-bytes_of)
        ∙ ap (λ (at : ℕ). write at (bytes_of 2 n) m) position))
