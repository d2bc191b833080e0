-- The frames that a gateway writes for a round: they are read as they were written, count for the round, and are no events.
use mathlib.Core.Path.{◌≡◌, refl}
use mathlib.Core.Bool.{Bool, true, false, cond}
use mathlib.Core.List.{List, [], ◌∷◌}
use Prim.Native.Nat.{ℕ, ◌+◌, ◌*◌, ◌<◌}
use native.Mathlib.Omega.{arith}
use lib.Dec.{eqb, ltb}
use borrow.Author.Tests.{ltb-true, lt-ltb, le-leb}
use Rattle.lists.specs.Lists.{All, nil, cons}
use Rattle.lists.proofs.ListLaws.{all_append, all-image, all_map, all-every}
use Rattle.routing.specs.Arcs.{from, to, children, if_below}
use Rattle.routing.proofs.Theorems.{laws}
use Rattle.model.specs.Messages.{kind_number, origin_of, quantity_of}
use Rattle.model.specs.declared.Message.{Message}
use Rattle.model.specs.declared.Kind.{Kind}
use Rattle.model.specs.declared.Kind.TheVariants.{Start, Lvt, Update}
use Rattle.frame.specs.Limits.{hour_allowed}
use Rattle.frame.specs.Writing.{well_formed, written}
use Rattle.frame.specs.declared.Frame.{Frame}
use Rattle.frame.proofs.Laws.{one-to-one}
use Rattle.memory.specs.Records.{Gateway}
use Rattle.memory.specs.declared.Settings.{Settings}
use Rattle.memory.proofs.Validated.{ValidSettings, Valid}
use Rattle.gateway.specs.Rounds.{least_outstanding, frame_in_round, frames_in_round, value_at, finished, begun, all_bits, one_start, one_lvt}
use Rattle.gateway.specs.Effects.{Effect}
use Rattle.run.proofs.QueueChanges.{each_all}
use Rattle.run.proofs.EventsUnderWay.{seen_of, plain_by_kind, event_of, acknowledged_of}
use Rattle.run.proofs.RoundsUnderWay.{Readable}
use Rattle.run.proofs.FramesCut.{Whole}
use Rattle.run.proofs.RoundForms.{counts, round-ranged, frames-readable, kind-counted, start-formed, lvt-formed, update-formed}
use Rattle.run.proofs.RoundForms.{start-whole, lvt-whole, update-whole}
use Rattle.run.proofs.DueHours.{DueHour, due-fits, due-allowed, least-due, value-due}
use Rattle.run.proofs.PassingFrames.{Passing, passing-frame}

-- frames that are read as they are written, as long as the table says, that count for a round, are no events, and pass
pub record Sendable (s : Settings) (open? : Bool) (fs : List Frame) : Type 0 where
  pub readable : All Readable fs
  pub whole : All Whole fs
  pub counting : All (λ f. counts open? f.message.kind ≡ true) fs
  pub no-events : All (λ f. event_of f ≡ []) fs
  pub no-acknowledgments : All (λ f. acknowledged_of f ≡ []) fs
  pub passing : All (λ f. Passing s.n s.last (written f)) fs

-- nothing is seen of them
pub none_seen : {A : Type 0} (see : Frame → List A) {fs : List Frame} → All (λ f. see f ≡ []) fs → seen_of see fs ≡ []
unfolding seen_of
none_seen see nil = refl
none_seen see (cons e a) = rw e (none_seen see a)

module _ (s : Settings) (v : ValidSettings s) where
  -- no frame at all
  none-sendable : (open? : Bool) → Sendable s open? []
  none-sendable open? = record { readable = nil; whole = nil; counting = nil; no-events = nil; no-acknowledgments = nil; passing = nil }

  -- either of two effects
  either-sendable : {open? : Bool} (b : Bool) (x y : Effect) → Sendable s open? x.frames → Sendable s open? y.frames → Sendable s
      open? (cond b x y).frames
  either-sendable true x y h l = h
  either-sendable false x y h l = l

  -- frames of one kind of a round to some gateways
  frames-sendable : (open? : Bool) (kind : Kind) → origin_of kind ≡ 0 → quantity_of kind ≡ 0 → counts open? kind ≡ true → eqb (kind_number
      kind) 3 ≡ false → ((m : Message) → plain_by_kind m kind ≡ [])
      → (hour : ℕ) → hour < 4294967296 → ((j : ℕ) → hour_allowed s.last (frame_in_round kind hour s.own j).message ≡ true)
      → ((j : ℕ) → well_formed (frame_in_round kind hour s.own j) ≡ true) → ((j : ℕ) → Whole (frame_in_round kind hour s.own j))
      → {js : List ℕ} → All (λ j. j < s.n) js → Sendable s open? (frames_in_round kind hour s.own js)
  frames-sendable open? kind o q e taken none hour h due formed whole {js} a =
      record {
        readable = frames-readable one-to-one kind o q hour s.own h (omega (arith, v.own, v.n)) formed (all_map (λ j l. omega (arith, v.n)) a);
        whole = all-image (frame_in_round kind hour s.own) (all-every whole js);
        counting = kind-counted open? kind hour s.own js e;
        no-events = all-image (frame_in_round kind hour s.own) (all-every (λ j. none (frame_in_round kind hour s.own j).message) js);
        no-acknowledgments = all-image (frame_in_round kind hour s.own) (all-every (λ j. refl) js);
        passing = all-image (frame_in_round kind hour s.own) (all_map passes a);
      }
    where
      passes : (j : ℕ) → j < s.n → Passing s.n s.last (written (frame_in_round kind hour s.own j))
      passes j l =
          passing-frame s.n s.last (frame_in_round kind hour s.own j)
          (round-ranged kind o q hour s.own j h (omega (arith, v.own, v.n)) (omega (arith, v.n)))
          (formed j) taken
          (rw (lt-ltb s.own s.n v.own, lt-ltb j s.n l, lt-ltb (origin_of kind) s.n (omega (arith, v.some))) refl)
          (due j)

  starts-sendable : {js : List ℕ} → All (λ j. j < s.n) js → Sendable s true (frames_in_round Start 0 s.own js)
  starts-sendable a =
      frames-sendable true Start refl refl refl refl (λ m. refl) 0 (omega arith) (λ j. rw (le-leb 0 s.last (omega arith)) refl)
      (start-formed 0 s.own) (start-whole 0 s.own) a

  lvts-sendable : (hour : ℕ) → DueHour s.last hour → {js : List ℕ} → All (λ j. j < s.n) js → Sendable s true (frames_in_round Lvt hour s.own js)
  lvts-sendable hour d a =
      frames-sendable true Lvt refl refl refl refl (λ m. refl) hour (due-fits v.last d) (λ j. due-allowed d) (lvt-formed hour s.own)
      (lvt-whole hour s.own) a

  updates-sendable : (open? : Bool) (hour : ℕ) → DueHour s.last hour → {js : List ℕ} → All (λ j. j < s.n) js → Sendable s open?
      (frames_in_round Update hour s.own js)
  updates-sendable open? hour d a =
      frames-sendable open? Update refl refl refl refl (λ m. refl) hour (due-fits v.last d) (λ j. due-allowed d) (update-formed hour
      s.own) (update-whole hour s.own) a

  -- the gateways that frames of a round go to
  told-inside : All (λ j. j < s.n) (to s.n s.own)
  told-inside = each_all (to s.n s.own) (λ j m. ((laws s.n v.some).upward s.own j v.own m).1)

  heard-inside : All (λ j. j < s.n) (from s.n s.own)
  heard-inside = each_all (from s.n s.own) (λ j m. omega (arith, (laws s.n v.some).upward_from j s.own v.own m, v.own))

  child-inside : (k : ℕ) → All (λ j. j < s.n) (if_below s.n k)
  child-inside k = by-case (ltb k s.n) refl
    where
      by-case : (b : Bool) → ltb k s.n ≡ b → All (λ j. j < s.n) (cond b (k ∷ []) [])
      by-case true e = cons {a = k} (ltb-true k s.n e) nil
      by-case false e = nil

  children-inside : All (λ j. j < s.n) (children s.n s.own)
  unfolding children
  children-inside = all_append (child-inside (2 * s.own + 1)) (child-inside (2 * s.own + 2))

  -- an Update that is relayed
  pub relayed-sendable : (open? : Bool) (hour : ℕ) → DueHour s.last hour → Sendable s open? (frames_in_round Update hour s.own (children s.n s.own))
  relayed-sendable open? hour d = updates-sendable open? hour d children-inside

module _ (g : Gateway) (v : Valid g) where
  abbrev s : Settings
  s = g.settings

  finished-sendable : (value : ℕ) → DueHour s.last value → Sendable s true (finished value g).frames
  unfolding finished
  finished-sendable value d =
      either-sendable s v.settings (eqb s.own 0) _ _ (relayed-sendable s v.settings true value d) (lvts-sendable s v.settings
      value d (heard-inside s v.settings))

  -- the start call, and the last Start
  pub begun-sendable : Sendable s true (begun g).frames
  unfolding begun
  begun-sendable =
      either-sendable s v.settings (eqb (s.own + 1) s.n) _ _
      (finished-sendable (value_at (least_outstanding g.outstanding) g) (value-due g v (least_outstanding g.outstanding) (least-due g v)))
      (starts-sendable s v.settings (told-inside s v.settings))

  -- a Start
  pub start-sendable : (heard : List ℕ) (arrived : ℕ) → Sendable s true (one_start (all_bits heard) arrived g).frames
  unfolding one_start
  start-sendable heard arrived = either-sendable s v.settings (eqb arrived (all_bits heard)) _ _ begun-sendable (none-sendable s v.settings true)

  -- an Lvt
  pub lvt-sendable : (told : List ℕ) (arrived value : ℕ) → DueHour s.last value → Sendable s true (one_lvt (all_bits told) arrived value g).frames
  unfolding one_lvt
  lvt-sendable told arrived value d =
      either-sendable s v.settings (eqb arrived (all_bits told)) _ _ (finished-sendable value d) (none-sendable s v.settings true)
