-- Which frames are turned down for their numbers or their addressee (2) and for their hour (3).
use Rattle.std.specs.Prelude.{ℕ, Bool, cond, ◌&&◌, ◌||◌, leb, ltb, eqb}
use Rattle.model.specs.Messages.{kind_number, origin_of}
use Rattle.model.specs.declared.Message.{Message}
use Rattle.frame.specs.declared.Sense.{Sense}
use Rattle.frame.specs.declared.Sense.TheVariants.{Plain, Cancel, Acknowledgment, CancelAcknowledgment}
use Rattle.frame.specs.declared.Frame.{Frame}

-- the hour that means nothing due
abbrev pub nothing_due : ℕ
nothing_due = 4294967295

-- an acknowledgment is addressed to from, every other frame to to
abbrev pub addressee : Sense → Message → ℕ
addressee Plain m = m.to
addressee Cancel m = m.to
addressee Acknowledgment m = m.from
addressee CancelAcknowledgment m = m.from

-- every gateway number is below n; an origin that the kind lacks counts as zero
abbrev pub numbers_below : ℕ → Message → Bool
numbers_below n m = ltb m.from n && ltb m.to n && ltb (origin_of m.kind) n

-- the hour is not past the last one; nothing due is allowed in Lvt and Update, which are kinds 5 and 6
abbrev pub hour_allowed : ℕ → Message → Bool
hour_allowed last m = leb m.hour last || (leb 5 (kind_number m.kind) && eqb m.hour nothing_due)

-- 0, or the number with which a frame is turned down among n gateways, told whether it is addressed here: 2 where it is not or a number is
-- n or more, then 3 for the hour
unfoldable pub refusal_where : Bool → Frame → ℕ → ℕ → ℕ
refusal_where here f n last =
    cond (numbers_below n f.message && here)
    (cond (hour_allowed last f.message) 0 3)
    2

-- 0, or the number with which gateway own of n turns the frame down
unfoldable pub refusal : Frame → ℕ → ℕ → ℕ → ℕ
unfolding refusal_where
refusal f n own last = refusal_where (eqb (addressee f.sense f.message) own) f n last
