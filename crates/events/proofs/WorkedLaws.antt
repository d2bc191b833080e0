-- Laws of work: so many events and then some more, as far as it did not stop.
use mathlib.Core.Path.{◌≡◌, refl, sym, ◌∙◌, ap}
use mathlib.Core.Bool.{Bool, true, false}
use mathlib.Core.List.{List, [], ◌∷◌, ◌++◌, map, map-append, append_assoc, append-nil}
use Prim.Native.Nat.{ℕ, zero, suc, ◌+◌, ◌-◌, ◌≤◌}
use native.Mathlib.Nat.{suc-add, zero-add, sub-zero}
use native.Mathlib.Omega.{arith}
use lib.ListN.{length, length-append}
use borrow.Author.Tests.{leb-true}
use Rattle.lists.specs.Lists.{joined}
use Rattle.lists.proofs.ListLaws.{joined-append}
use Rattle.model.specs.Doing.{after, sent}
use Rattle.model.specs.declared.Message.{Message}
use Rattle.frame.specs.Writing.{written}
use Rattle.memory.specs.Records.{Gateway, site_of}
use Rattle.memory.specs.declared.Sent.{Sent}
use Rattle.lists.proofs.BoolLaws.{and_left, and_right}
use Rattle.gateway.specs.Effects.{Effect, bytes_of_frames, fits, with_queue, with_state}
use Rattle.gateway.specs.Working.{pending_of, processed_next, done, Progress, none_done, once_more, worked}
use Rattle.effects.specs.Inside.Sending.{frame_of}
use Rattle.effects.proofs.StoredSent.{sent_as, sent-settings, sent-behind, frames-of}

-- from a gateway to another some messages or cancels were sent: they stand behind what was outstanding, and their frames are the output
pub record SentMore (g h : Gateway) (output : List ℕ) : Type 0 where
  pub sent : List Sent
  pub settings : h.settings ≡ g.settings
  pub outstanding : h.outstanding ≡ g.outstanding ++ sent
  pub frames : output ≡ bytes_of_frames (map frame_of sent)

-- none, and some and then others
pub sent-none : (g : Gateway) → SentMore g g []
unfolding joined
sent-none g = record { sent = []; settings = refl; outstanding = sym (append-nil g.outstanding); frames = refl }

sent-then : {f g h : Gateway} {output output' : List ℕ} → SentMore f g output → SentMore g h output' → SentMore f h (output ++ output')
sent-then {f} a b = record {
  sent = a.sent ++ b.sent;
  settings = b.settings ∙ a.settings;
  outstanding = b.outstanding ∙ (rw a.outstanding (append_assoc f.outstanding a.sent b.sent));
  frames = rw (a.frames, b.frames, map-append frame_of a.sent b.sent) (sym (joined-append written (map frame_of a.sent) (map frame_of b.sent)));
}

-- what doing a message sends
sent-done : (m : Message) (g : Gateway) → SentMore g (done m g).gateway (bytes_of_frames (done m g).frames)
unfolding done
sent-done m g =
    let ms = sent (site_of g.settings) g.state m in
    let after-it = with_state (after g.state m.kind) (with_queue (processed_next g.state g.queue) g) in
    record {
      sent = map (sent_as false) ms;
      settings = sent-settings false ms after-it;
      outstanding = sent-behind false ms after-it;
      frames = rw (frames-of false ms);
    }

-- the first event, whatever the budget behind it: work stops before it, or it is done
pub data First (room : ℕ) (g : Gateway) : Type 0 where
  stops : (why : ℕ) → (why ≡ 0 → ⊥) → ((b : ℕ) → worked (suc b) room g ≡ none_done why g) → First room g
  does : (output : List ℕ) (h : Gateway) → length output ≤ room → SentMore g h output → ((b : ℕ) → worked (suc b) room g ≡ once_more output (worked b (room -
      length output) h)) → First room g

-- one event, by what it does
abbrev pub done_by : Effect → Progress
done_by x = record { count = 1; why = 0; gateway = x.gateway; output = bytes_of_frames x.frames }

module _ (room : ℕ) (g : Gateway) where
  -- no unprocessed message
  pub worked-none : (b : ℕ) → pending_of g.queue ≡ [] → worked (suc b) room g ≡ none_done 6 g
  unfolding worked
  worked-none b e = rw e

  module _ (m : Message) (ms : List Message) (e : pending_of g.queue ≡ m ∷ ms) where
    -- no room for what the next one does
    pub worked-full : (b : ℕ) → fits room (done m g) ≡ false → worked (suc b) room g ≡ none_done 5 g
    unfolding worked
    worked-full b f = rw (e, f)

    -- one event
    pub worked-more : (b : ℕ) → fits room (done m g) ≡ true
        → worked (suc b) room g ≡ once_more (bytes_of_frames (done m g).frames) (worked b (room - length (bytes_of_frames (done m g).frames)) (done m g).gateway)
    unfolding worked
    worked-more b f = rw (e, f)

    -- that one alone, by what it does
    pub worked-one : (x : Effect) → done m g ≡ x → fits room (done m g) ≡ true → worked 1 room g ≡ done_by x
    unfolding worked
    worked-one x d f =
        let one : worked 1 room g ≡ done_by (done m g) = worked-more 0 f ∙ rw append-nil in
        one ∙ ap done_by d

    output-fits : fits room (done m g) ≡ true → length (bytes_of_frames (done m g).frames) ≤ room
    unfolding fits
    output-fits f = leb-true (length (bytes_of_frames (done m g).frames)) room (search (and_left, and_right))

    either : (t : Bool) → fits room (done m g) ≡ t → First room g
    either true f = does (bytes_of_frames (done m g).frames) (done m g).gateway (output-fits f) (sent-done m g) (λ b. worked-more b f)
    either false f = stops 5 (λ z. omega arith) (λ b. worked-full b f)

  pub first : First room g
  first = by-case (pending_of g.queue) refl
    where
      by-case : (ms : List Message) → pending_of g.queue ≡ ms → First room g
      by-case [] e = stops 6 (λ z. omega arith) (λ b. worked-none b e)
      by-case (m ∷ ms) e = either m ms e (fits room (done m g)) refl

-- no more is put out than there is room for
pub worked-inside : (b room : ℕ) (g : Gateway) → length (worked b room g).output ≤ room
unfolding worked
worked-inside zero room g = omega arith
worked-inside (suc b) room g = by-case (first room g) (worked-inside b)
  where
    by-case : First room g → ((room : ℕ) (g : Gateway) → length (worked b room g).output ≤ room) → length (worked (suc b) room g).output ≤ room
    by-case (stops why n e) again = rw (e b) (omega arith)
    by-case (does output h l s e) again = rw (e b, length-append) (omega (arith, again (room - length output) h))

-- what work sends stands behind what was outstanding, and its frames are the output
pub worked-sent : (b room : ℕ) (g : Gateway) → SentMore g (worked b room g).gateway (worked b room g).output
unfolding worked
worked-sent zero room g = sent-none g
worked-sent (suc b) room g = by-case (first room g) (worked-sent b)
  where
    by-case : First room g → ((room : ℕ) (g : Gateway) → SentMore g (worked b room g).gateway (worked b room g).output)
        → SentMore g (worked (suc b) room g).gateway (worked (suc b) room g).output
    by-case (stops why n e) again = rw (e b) (sent-none g)
    by-case (does output h l s e) again = rw (e b) (sent-then s (again (room - length output) h))

-- work that did not stop did as many as it was told
pub worked-all : (b room : ℕ) (g : Gateway) → (worked b room g).why ≡ 0 → (worked b room g).count ≡ b
unfolding worked
worked-all zero room g z = refl
worked-all (suc b) room g z = by-case (first room g) (worked-all b)
  where
    by-case : First room g → ((room : ℕ) (g : Gateway) → (worked b room g).why ≡ 0 → (worked b room g).count ≡ b) → (worked (suc b) room g).count ≡ suc b
    by-case (stops why n e) again = absurd (n (ap (λ (p : Progress). p.why) (sym (e b)) ∙ z))
    by-case (does output h l s e) again =
        rw (e b) (ap suc (again (room - length output) h (ap (λ (p : Progress). p.why) (sym (e b)) ∙ z)))

-- work, and then more work
abbrev pub and_then : Progress → Progress → Progress
and_then p q = record { count = p.count + q.count; why = q.why; gateway = q.gateway; output = p.output ++ q.output }

-- so many events, and as many more as d, from where they left the gateway and the room
abbrev further : ℕ → ℕ → Progress → Progress
further d room p = and_then p (worked d (room - length p.output) p.gateway)

-- work that did not stop, and more
pub worked_then : (b d room : ℕ) (g : Gateway) → (worked b room g).why ≡ 0 → worked (b + d) room g ≡ further d room (worked b room g)
unfolding worked
worked_then zero d room g z = rw (zero-add d, sub-zero room, zero-add (worked d room g).count)
worked_then (suc b) d room g z = by-case (first room g) (worked_then b d)
  where
    by-case : First room g → ((room : ℕ) (g : Gateway) → (worked b room g).why ≡ 0 → worked (b + d) room g ≡ further d room (worked b room g))
        → worked (suc b + d) room g ≡ further d room (worked (suc b) room g)
    by-case (stops why n e) again = absurd (n (ap (λ (p : Progress). p.why) (sym (e b)) ∙ z))
    by-case (does output h l s e) again =
        let p : Progress = worked b (room - length output) h in
        let less : room - length (output ++ p.output) ≡ room - length output - length p.output = rw length-append (omega arith) in
        let r = again (room - length output) h (ap (λ (q : Progress). q.why) (sym (e b)) ∙ z) in
        rw (suc-add, e (b + d), e b, r, less, append_assoc, suc-add)

-- work that stopped
pub worked-stopped : (b d room : ℕ) (g : Gateway) → ((worked b room g).why ≡ 0 → ⊥) → worked (b + d) room g ≡ worked b room g
unfolding worked
worked-stopped zero d room g n = absurd (n refl)
worked-stopped (suc b) d room g n = by-case (first room g) (worked-stopped b d)
  where
    by-case : First room g → ((room : ℕ) (g : Gateway) → ((worked b room g).why ≡ 0 → ⊥) → worked (b + d) room g ≡ worked b room g) → worked
        (suc b + d) room g ≡ worked (suc b) room g
    by-case (stops why k e) again = rw (suc-add, e (b + d), e b)
    by-case (does output h l s e) again =
        rw (suc-add, e (b + d), e b, again (room - length output) h (λ z. n (ap (λ (p : Progress). p.why) (e b) ∙ z)))
