-- Soundness by its parts, in the order in which the code tests them: header, round, queue places, outstanding places.
use mathlib.Core.Path.{◌≡◌, refl, sym, ◌∙◌}
use Prim.Native.Nat.{ℕ, ◌<◌, ◌≤◌}
use native.Mathlib.Nat.{add-zero}
use mathlib.Core.Bool.{Bool, true, false, cond, not, ◌&&◌, and-false}
use mathlib.Core.List.{List}
use Rattle.std.specs.Prelude.{Ok, Err}
use lib.Dec.{leb}
use lib.ListN.{length, get_or}
use borrow.Author.Tests.{leb-true, le-leb, lt-leb}
use Rattle.lists.specs.Lists.{every}
use Rattle.memory.specs.Records.{Gateway}
use Rattle.memory.specs.Layout.{outstanding_at, size_for, header_size, outstanding_size, queue_size, queue_at}
use Rattle.memory.specs.Codec.{entry_of, sent_of, header_at, places_at, decode}
use Rattle.memory.specs.Validity.{settings_valid, round_possible, ordered, processed_first, none_meet, entry_valid, sent_valid, valid}
use Rattle.memory.specs.Validity.{saved_stocks_bounded, held_stock_bounded}
use Rattle.memory.specs.Soundness.{entry_exact, sent_exact, sound}
use Rattle.soundness.specs.Inside.Passes.{header_sound, queue_sound, outstanding_sound}
use Rattle.memory.specs.declared.Header.{Header}
use Rattle.memory.specs.Inside.Checking.{blank_header, checked_as}
use Rattle.memory.proofs.Chains.{refuted, granted, above, within}
use Rattle.memory.proofs.Validated.{ValidSettings, settings-facts, facts-settings}
use Rattle.lists.proofs.BoolLaws.{and_left, and_right}
use Rattle.memory.proofs.SoundMemory.{Sound, sound-facts}
use Rattle.memory.proofs.Places.{length-read}

-- what a sound header says of its numbers and of the memory's length
pub record HeaderFacts (h : Header) (size : ℕ) : Type 0 where
  pub header : header_size ≤ size
  pub settings : ValidSettings h.settings
  pub long : size_for h.settings.q h.settings.u ≤ size
  pub queued : h.queued ≤ h.settings.q
  pub sent : h.outstanding ≤ h.settings.u

facts_at : (m : List ℕ) → header_sound m ≡ true → HeaderFacts (header_at m) (length m)
unfolding header_sound
facts_at m e =
    let h = header_at m in
    record {
      header = leb-true header_size (length m) (search (and_left, and_right) depth 9);
      settings = settings-facts h.settings (search (and_left, and_right) depth 9);
      long = leb-true (size_for h.settings.q h.settings.u) (length m) (search (and_left, and_right) depth 9);
      queued = leb-true h.queued h.settings.q (search (and_left, and_right) depth 9);
      sent = leb-true h.outstanding h.settings.u (search (and_left, and_right) depth 9);
    }

phase-at : (m : List ℕ) → header_sound m ≡ true → get_or m 3 0 ≤ 2
unfolding header_sound
phase-at m e = leb-true (get_or m 3 0) 2 (search (and_left, and_right) depth 9)

-- sound memory has a sound header
header_of : (m : List ℕ) → Sound m → header_sound m ≡ true
unfolding header_sound
header_of m s =
    let h = header_at m in
    rw (
      le-leb header_size (length m) s.header,
      s.settings,
      le-leb (size_for h.settings.q h.settings.u) (length m) s.long,
      le-leb (get_or m
          3 0) 2 s.phase,
      le-leb h.queued h.settings.q s.queued,
    )
    (le-leb h.outstanding h.settings.u s.sent)

pub header-facts : (m : List ℕ) {h : Header} {ok : Bool} → h ≡ header_at m → ok ≡ header_sound m → not ok ≡ false → HeaderFacts h (length m)
header-facts m e p k = rw e (facts_at m (granted p k))

regrouped : (ee se r ev o pf nm sv hd ss : Bool)
    → ((ee && se) && (((((((r && ev) && o) && pf) && nm) && sv) && hd) && ss))
    ≡ (r && ((ee && (ev && (pf && (o && (nm && (sv && hd)))))) && (se && ss)))
regrouped false se true ev o pf nm sv hd ss = refl
regrouped false se false ev o pf nm sv hd ss = refl
regrouped true se false ev o pf nm sv hd ss = and-false se
regrouped true false true ev o pf nm sv hd ss = sym (and-false (ev && (pf && (o && (nm && (sv && hd))))))
regrouped true true true false o pf nm sv hd ss = refl
regrouped true true true true false false nm sv hd ss = refl
regrouped true true true true false true nm sv hd ss = refl
regrouped true true true true true false nm sv hd ss = refl
regrouped true true true true true true false sv hd ss = refl
regrouped true true true true true true true false hd ss = refl
regrouped true true true true true true true true hd ss = refl

-- validity where settings and counts are right
valid-rest : (g : Gateway) → settings_valid g.settings ≡ true → length g.queue ≤ g.settings.q → length g.outstanding ≤ g.settings.u
    → valid g
    ≡ (((((((round_possible g.settings g.round && every (entry_valid g.settings) g.queue) && ordered g.queue) && processed_first
    false g.queue) && none_meet g.queue) && saved_stocks_bounded g.queue) && held_stock_bounded g.state g.queue)
    && every (sent_valid g.settings) g.outstanding)
unfolding valid
valid-rest g s q u = rw (s, le-leb (length g.queue) g.settings.q q, le-leb (length g.outstanding) g.settings.u u)

-- the parts of a memory with a sound header
module _ (m : List ℕ) (ok : header_sound m ≡ true) where
  exact-and-valid : sound m
      ≡ ((every entry_exact (places_at (λ b. b) queue_size m header_size (header_at m).queued)
      && every sent_exact (places_at (λ b. b) outstanding_size m (outstanding_at (header_at m).settings.q 0) (header_at m).outstanding))
      && valid (decode m))
  unfolding sound
  exact-and-valid =
      let h = header_at m in
      let facts = facts_at m ok in
      rw (
        le-leb header_size (length m) facts.header,
        le-leb (size_for h.settings.q h.settings.u) (length m) facts.long,
        le-leb (get_or m
            3 0) 2 (phase-at m ok),
      )

  by_parts : sound m
      ≡ (round_possible (header_at m).settings (header_at m).round
      && (queue_sound (header_at m).settings (header_at m).state.stock m (header_at m).queued
      && outstanding_sound (header_at m).settings m (outstanding_at (header_at m).settings.q 0) (header_at m).outstanding))
  unfolding decode queue_sound outstanding_sound held_stock_bounded
  by_parts =
      let g = decode m in
      let facts = facts_at m ok in
      let queued : length g.queue ≤ g.settings.q = rw (length-read entry_of queue_size m header_size (header_at m).queued) facts.queued in
      let sent : length g.outstanding ≤ g.settings.u = rw (length-read sent_of outstanding_size m (outstanding_at (header_at m).settings.q 0)
      (header_at m).outstanding) facts.sent in
      exact-and-valid
      ∙ rw (valid-rest g (facts-settings g.settings facts.settings) queued sent)
      (regrouped (every entry_exact (places_at (λ b. b) queue_size m header_size (header_at m).queued))
      (every sent_exact (places_at (λ b. b) outstanding_size m (outstanding_at (header_at m).settings.q 0) (header_at m).outstanding))
      (round_possible g.settings g.round) (every (entry_valid g.settings) g.queue) (ordered g.queue) (processed_first false
      g.queue) (none_meet g.queue) (saved_stocks_bounded g.queue) (held_stock_bounded g.state g.queue)
      (every (sent_valid g.settings) g.outstanding))

module _ (m : List ℕ) where
  sound-short : length m < 256 → false ≡ sound m
  unfolding sound
  sound-short h = rw (lt-leb header_size (length m) h)

  -- memory too short for a header, and memory long enough for one that is not sound
  pub checked-short : length m < 256 → {h : Header} → h ≡ blank_header → Err (record { header = h }) ≡ checked_as m
  checked-short l e = rw (← sound-short l, lt-leb header_size (length m) l, e)

  pub checked-long : 256 ≤ length m → {h : Header} {ok : Bool} → h ≡ header_at m → ok ≡ sound m
      → cond ok (Ok h) (Err (record { header = h })) ≡ checked_as m
  checked-long l e s = rw (le-leb header_size (length m) l, e, s)

  pub checked-refused : 256 ≤ length m → {h : Header} {ok : Bool} → h ≡ header_at m → ok ≡ sound m → not ok ≡ true
      → Err (record { header = h }) ≡ checked_as m
  checked-refused l {h} {ok} e s n = rw (← checked-long l e s, refuted refl n)

  module _ {h : Header} {ok : Bool} (e : h ≡ header_at m) (p : ok ≡ header_sound m) where
    pub sound-header : not ok ≡ true → false ≡ sound m
    sound-header k = by-case (sound m) refl
      where
        by-case : (b : Bool) → sound m ≡ b → false ≡ b
        by-case true h = sym (refuted p k) ∙ header_of m (sound-facts m h)
        by-case false h = refl

    module _ (k : not ok ≡ false) {round : Bool} (r : round ≡ round_possible h.settings h.round) where
      whole : sound m
          ≡ (round_possible h.settings h.round
          && (queue_sound h.settings h.state.stock m h.queued && outstanding_sound h.settings m (queue_at h.settings.q) h.outstanding))
      whole = rw (← add-zero (queue_at h.settings.q), e) (by_parts m (granted p k))

      pub sound-round : not round ≡ true → false ≡ sound m
      sound-round f = sym (whole ∙ rw (refuted r f))

      module _ (f : not round ≡ false) {queue : Bool} (q : queue ≡ queue_sound h.settings h.state.stock m h.queued) where
        pub sound-queue : not queue ≡ true → false ≡ sound m
        sound-queue g = sym (whole ∙ rw (granted r f, refuted q g))

        pub sound-decided : {x : Bool} → not queue ≡ false → x ≡ outstanding_sound h.settings m (queue_at h.settings.q) h.outstanding → x ≡ sound m
        sound-decided g o = o ∙ sym (whole ∙ rw (granted r f, granted q g))

-- the header's tests, each with those before it passed
module _ (m : List ℕ) {h : Header} (long : header_size ≤ length m) (e : h ≡ header_at m) {ok : Bool} (p : ok ≡ settings_valid h.settings) where
  pub settings-refused : not ok ≡ true → false ≡ header_sound m
  unfolding header_sound
  settings-refused k = rw (← e, le-leb header_size (length m) long, refuted p k)

  module _ (k : not ok ≡ false) {size : ℕ} (z : size ≡ size_for h.settings.q h.settings.u) where
    pub too_short : length m < size → false ≡ header_sound m
    unfolding header_sound
    too_short l = rw (← e, le-leb header_size (length m) long, granted p k, above (length m) z l)

    module _ (l : size ≤ length m) where
      pub no-phase : 2 < get_or m 3 0 → false ≡ header_sound m
      unfolding header_sound
      no-phase f = rw (← e, le-leb header_size (length m) long, granted p k, within (length m) z l, lt-leb (get_or m 3 0) 2 f)

      module _ (f : get_or m 3 0 ≤ 2) where
        pub too-many-queued : h.settings.q < h.queued → false ≡ header_sound m
        unfolding header_sound
        too-many-queued q = rw (
          ← e,
          le-leb header_size (length m) long,
          granted p k,
          within (length m) z l,
          le-leb (get_or m 3 0) 2 f,
          lt-leb
              h.queued h.settings.q q,
        )

        pub header-decided : h.queued ≤ h.settings.q → leb h.outstanding h.settings.u ≡ header_sound m
        unfolding header_sound
        header-decided q = rw (
          ← e,
          le-leb header_size (length m) long,
          granted p k,
          within (length m) z l,
          le-leb (get_or m 3 0) 2 f,
          le-leb
              h.queued h.settings.q q,
        )
