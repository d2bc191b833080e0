-- What the internal functions of the test of soundness are proved to compute; no reader has to believe them.
use Rattle.std.specs.Prelude.{ℕ, ◌+◌, ◌-◌, max, Bool, false, cond, not, ◌&&◌, ◌||◌, List, leb, length, get_or}
use Rattle.lists.specs.Lists.{every, tally}
use Rattle.model.specs.Doing.{most_stock}
use Rattle.memory.specs.Layout.{header_size, queue_size, outstanding_size, size_for}
use Rattle.memory.specs.Codec.{header_at, entry_of, sent_of, places_at}
use Rattle.memory.specs.Validity.{settings_valid, is_pending, is_processed, ordered, processed_first, none_meet, entry_valid, sent_valid, brings, still_brings, saved_stocks_bounded}
use Rattle.memory.specs.Soundness.{entry_exact, sent_exact}
use Rattle.memory.specs.declared.Settings.{Settings}
use Rattle.memory.specs.declared.Entry.{Entry}
use Rattle.following.specs.Inside.Follows.{entry_follows}
use Rattle.soundness.specs.declared.Passed.{Passed}

-- what 512 Restocks bring at most
abbrev pub most_brought : ℕ
most_brought = 33553920

-- of the stocks saved the highest, each with what the Restocks before it bring taken off, and put on the most that all bring, so that none is below 0
abbrev pub higher_with : Passed → Entry → ℕ
higher_with p e = cond (is_processed e) (max p.highest (e.before.stock + (most_brought - p.brought))) p.highest

-- what the pass over the queue carries from a place to the next
abbrev pub passed_on : Passed → Entry → Passed
passed_on p e = record {
  pending = p.pending || is_pending e;
  brought = p.brought + brings e;
  still = p.still + still_brings e;
  highest = higher_with p e;
}

-- what is tested at its end: the highest stock saved with the Restocks from there on, and the stock held with those that are pending
abbrev pub stocks_fit : Passed → ℕ → Bool
stocks_fit p stock = leb (p.highest + p.brought) (most_stock + most_brought) && leb (stock + p.still) most_stock

-- an entry behind another, with what is carried to it
unfoldable pub entry_accepted : Settings → Entry → Passed → Entry → Bool
entry_accepted s before p e = entry_valid s e && (not (p.pending && is_processed e) && entry_follows before e)

-- the header's tests: long enough for a header, settings in their ranges, long enough for its settings, a phase, no more places used
-- than there are
unfoldable pub header_sound : List ℕ → Bool
header_sound m =
    let h = header_at m in
    leb header_size (length m)
    && settings_valid h.settings
    && leb (size_for h.settings.q h.settings.u) (length m)
    && leb (get_or m 3 0) 2
    && leb h.queued h.settings.q
    && leb h.outstanding h.settings.u

-- the used queue places, and the stock held
unfoldable pub queue_sound : Settings → ℕ → List ℕ → ℕ → Bool
queue_sound s stock m count =
    let queue = places_at entry_of queue_size m header_size count in
    every entry_exact (places_at (λ b. b) queue_size m header_size count)
    && (every (entry_valid s) queue
    && (processed_first false queue
    && (ordered queue && (none_meet queue && (saved_stocks_bounded queue && leb (stock + tally still_brings queue) most_stock)))))

-- the used outstanding places, from a position on
unfoldable pub outstanding_sound : Settings → List ℕ → ℕ → ℕ → Bool
outstanding_sound s m at count =
    every sent_exact (places_at (λ b. b) outstanding_size m at count) && every (sent_valid s) (places_at sent_of outstanding_size m at count)
