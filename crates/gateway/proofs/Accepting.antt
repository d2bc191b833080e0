-- What a frame that was read and not refused may be stored as.
use mathlib.Core.Path.{◌≡◌, refl, sym, ◌∙◌, ap}
use mathlib.Core.Bool.{Bool, true, false, cond, ◌&&◌, ◌||◌, true≢false, false≢true}
use Prim.Native.Nat.{ℕ, ◌≤◌, ◌<◌}
use native.Mathlib.Omega.{arith}
use lib.Dec.{leb, eqb}
use borrow.Author.Tests.{leb-true, ltb-true, eqb-true, lt-leb}
use Rattle.model.specs.Messages.{kind_number, origin_of}
use Rattle.model.specs.declared.Message.{Message}
use Rattle.frame.specs.Claims.{RangedFrame}
use Rattle.frame.specs.Kinds.{has_lamp}
use Rattle.frame.specs.Limits.{addressee, numbers_below, hour_allowed, nothing_due, refusal, refusal_where}
use Rattle.frame.specs.Writing.{well_formed}
use Rattle.frame.specs.declared.Frame.{Frame}
use Rattle.frame.proofs.Turning.{refusal-few}
use Rattle.frame.proofs.Presence.{lamp-kinds}
use Rattle.memory.specs.Validity.{frame_if}
use Rattle.memory.specs.declared.Settings.{Settings}
use Rattle.lists.proofs.BoolLaws.{and_left, and_right}
use Rattle.gateway.proofs.Replies.{Good}

-- a frame passes 2 and 3
pub record Passes (s : Settings) (f : Frame) : Type 0 where
  pub numbers : numbers_below s.n f.message ≡ true
  pub here : addressee f.sense f.message ≡ s.own
  pub hour : hour_allowed s.last f.message ≡ true

pub not-refused : (s : Settings) (f : Frame) → refusal f s.n s.own s.last ≡ 0 → Passes s f
unfolding refusal refusal_where
not-refused s f = by-case (numbers_below s.n f.message && eqb (addressee f.sense f.message) s.own) refl (hour_allowed s.last f.message) refl
  where
    by-case : (a : Bool) → (numbers_below s.n f.message && eqb (addressee f.sense f.message) s.own) ≡ a
        → (b : Bool) → hour_allowed s.last f.message ≡ b → ◌≡◌ {A = ℕ} (cond a (cond b 0 3) 2) 0 → Passes s f
    by-case true e true h z =
        record {
          numbers = and_left (numbers_below s.n f.message) (eqb (addressee f.sense f.message) s.own) e;
          here = eqb-true (addressee f.sense f.message) s.own (and_right (numbers_below s.n f.message) (eqb (addressee
              f.sense f.message) s.own) e);
          hour = h;
        }
    by-case true e false h z = absurd (omega arith)
    by-case false e b h z = absurd (omega arith)

pub refusal-below : (f : Frame) (n own last : ℕ) → refusal f n own last < 10
unfolding refusal
refusal-below f n own last = refusal-few (eqb (addressee f.sense f.message) own) f n last

-- a frame that is well formed, fits its fields and is not refused
pub record Accepted (s : Settings) (f : Frame) : Type 0 where
  pub form : well_formed f ≡ true
  pub ranged : RangedFrame f
  pub passes : Passes s f

-- only a kind with a lamp has a cancel
pub cancel-kind : (m : Message) → well_formed (frame_if true m) ≡ true → kind_number m.kind ≤ 2
unfolding well_formed
cancel-kind m h = by-case (has_lamp (kind_number m.kind)) refl (search (and_left, and_right))
  where
    by-case : (b : Bool) → has_lamp (kind_number m.kind) ≡ b → (b || false) ≡ true → kind_number m.kind ≤ 2
    by-case true e k = leb-true (kind_number m.kind) 2 (sym (lamp-kinds (kind_number m.kind)) ∙ e)
    by-case false e k = absurd (false≢true k)

-- a plain message or a cancel of an event
pub record Taken (s : Settings) (cancel : Bool) (m : Message) : Type 0 where
  pub good : Good s cancel m
  pub here : m.to ≡ s.own

addressed : (cancel : Bool) (m : Message) → addressee (frame_if cancel m).sense m ≡ m.to
addressed true m = refl
addressed false m = refl

or-not : (a b : Bool) → b ≡ false → (a || b) ≡ true → a ≡ true
or-not true b h k = refl
or-not false b h k = absurd (true≢false (sym k ∙ h))

pub accepted-good : (s : Settings) (cancel : Bool) (m : Message) → kind_number m.kind ≤ 3 → Accepted s (frame_if cancel m) → Taken s cancel m
accepted-good s cancel m k a =
    record {
      good = record {
        storable = record {
          kind = k;
          form = a.form;
          from = ltb-true m.from s.n (search (and_left, and_right));
          to = ltb-true m.to s.n (search (and_left, and_right));
          origin = ltb-true (origin_of m.kind) s.n (search (and_left, and_right));
          hour = leb-true m.hour s.last (or-not (leb m.hour s.last) (leb 5 (kind_number m.kind) && eqb m.hour nothing_due)
              (ap (λ (t : Bool). t && eqb m.hour nothing_due) (lt-leb 5 (kind_number m.kind) (omega arith))) a.passes.hour);
        };
        ranged = record { quantity = a.ranged.quantity; lamp = a.ranged.lamp };
      };
      here = sym (addressed cancel m) ∙ a.passes.here;
    }
