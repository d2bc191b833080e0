-- What a frame is written as, which values are frames, and what writing a value answers.
use Rattle.std.specs.Prelude.{ℕ, Bool, true, false, cond, ◌&&◌, ◌||◌, Result, Ok, Err, List, [], ◌∷◌, leb, eqb, length}
use Rattle.lists.specs.Lists.{joined}
use Rattle.buffer.specs.Slice.{write}
use Rattle.buffer.specs.Number.{bytes_of}
use Rattle.model.specs.Messages.{kind_number, origin_of, quantity_of}
use Rattle.model.specs.declared.Kind.{Kind}
use Rattle.model.specs.declared.Kind.TheVariants.{Failure, Request, Delivery, Restock, Start, Lvt, Update}
use Rattle.model.specs.declared.Message.{Message}
use Rattle.frame.specs.Layout.{gateway_width, standing}
use Rattle.frame.specs.Kinds.{has_hour, has_lamp, map_of, sense_number}
use Rattle.frame.specs.declared.Frame.{Frame}
use Rattle.refusal.specs.Numbers.{number_in}
use Rattle.refusal.specs.declared.Refusal.{Refusal}

-- the bytes of every field, bit 0 first: kind, from, to, hour, origin, lamp, quantity, sense; numbers high byte first
unfoldable pub contents : Frame → List (List ℕ)
contents f =
    bytes_of 1 (kind_number f.message.kind)
    ∷ bytes_of gateway_width f.message.from
    ∷ bytes_of gateway_width f.message.to
    ∷ bytes_of 4 f.message.hour
    ∷ bytes_of gateway_width (origin_of f.message.kind)
    ∷ f.message.lamp
    ∷ bytes_of 2 (quantity_of f.message.kind)
    ∷ bytes_of 1 (sense_number f.sense)
    ∷ []

-- the bytes that a frame is written as: its map, then the fields whose bit stands
unfoldable pub written : Frame → List ℕ
unfolding contents
written f = map_of f ∷ joined (λ x. x) (standing (map_of f) (contents f))

-- every byte lies between the two
unfoldable pub all_between : ℕ → ℕ → List ℕ → Bool
all_between low high [] = true
all_between low high (b ∷ bs) = leb low b && leb b high && all_between low high bs

-- a lamp's bytes are 33 to 126; where the kind has no lamp they are zero
unfoldable pub lamp_fits : Message → Bool
unfolding has_lamp
lamp_fits m = cond (has_lamp (kind_number m.kind)) (all_between 33 126 m.lamp) (all_between 0 0 m.lamp)

-- a Failure has from = to = origin, a Delivery has to = origin, a Restock has from = to
abbrev pub gateways_agree : ℕ → ℕ → Kind → Bool
gateways_agree from to (Failure origin) = eqb from to && eqb to origin
gateways_agree from to (Request origin) = true
gateways_agree from to (Delivery origin) = eqb to origin
gateways_agree from to (Restock quantity) = eqb from to
gateways_agree from to Start = true
gateways_agree from to Lvt = true
gateways_agree from to Update = true

-- only a kind with a lamp, one of 0 to 2, has a sense
abbrev pub sense_allowed : ℕ → ℕ → Bool
sense_allowed kind sense = has_lamp kind || eqb sense 0

-- an hour that the kind lacks, as a Start does, is zero
abbrev pub hour_fits : ℕ → ℕ → Bool
hour_fits kind hour = cond (has_hour kind) true (eqb hour 0)

-- a lamp that the kind lacks is zero
abbrev pub lamp_allowed : ℕ → List ℕ → Bool
lamp_allowed kind lamp = cond (has_lamp kind) true (all_between 0 0 lamp)

-- whether a value is one of the forms above, given that its numbers fit their fields
unfoldable pub well_formed : Frame → Bool
unfolding lamp_fits
well_formed f =
    sense_allowed (kind_number f.message.kind) (sense_number f.sense)
    && hour_fits (kind_number f.message.kind) f.message.hour
    && lamp_fits f.message
    && gateways_agree f.message.from f.message.to f.message.kind

-- a reason, unless the test passes: then what is found after it
abbrev pub unless : {A : Type 0} → Bool → A → A → A
unless true reason after = after
unless false reason after = reason

-- what a value is refused with, or 0: 1 for a sense, an hour or a lamp that its kind lacks, which is a field outside its map; then 12 for a
-- byte of its lamp outside 33 to 126; then 1 for gateways that disagree
unfoldable pub value_refusal : Frame → ℕ
unfolding lamp_fits
value_refusal f =
    let m = f.message in
    let kind = kind_number m.kind in
    unless (sense_allowed kind (sense_number f.sense) && hour_fits kind m.hour && lamp_allowed kind m.lamp) 1
    (unless (lamp_fits m) 12
    (unless (gateways_agree m.from m.to m.kind) 1
    0))

-- what writing a frame comes to: its number, the bytes written and the output afterwards
pub record WriteOutcome : Type 0 where
  pub number : ℕ
  pub count : ℕ
  pub output : List ℕ

-- how many bytes an answer says that it wrote: none where it is a refusal
abbrev pub count_in : Result ℕ Refusal → ℕ
count_in (Ok count) = count
count_in (Err why) = 0

-- what an answer comes to
abbrev pub outcome_of : Result ℕ Refusal → List ℕ → WriteOutcome
outcome_of answer output = record { number = number_in answer; count = count_in answer; output = output }

-- nothing is written
abbrev pub not_written : ℕ → List ℕ → WriteOutcome
not_written number m = record { number = number; count = 0; output = m }

-- a frame written at the start of an output: what the value is refused with, then 5 for too few bytes, and nothing is written; else the
-- bytes past it stay
unfoldable pub writing : Frame → List ℕ → WriteOutcome
unfolding value_refusal written
writing f m =
    unless (eqb (value_refusal f) 0) (not_written (value_refusal f) m)
    (unless (leb (length (written f)) (length m)) (not_written 5 m)
    (record { number = 0; count = length (written f); output = write 0 (written f) m }))
