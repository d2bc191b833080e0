-- `take::take_frame` meets its contract.
use mathlib.Core.Path.{◌≡◌, sym, ◌∙◌, ap}
use mathlib.Core.Bool.{true}
use Prim.Native.Nat.{◌≤◌}
use Rattle.model.specs.Messages.{kind_number}
use Rattle.frame.specs.Writing.{well_formed}
use Rattle.frame.specs.declared.Frame.{Frame}
use Rattle.frame.specs.declared.Sense.{Sense}
use Rattle.frame.specs.declared.Sense.TheVariants.{Cancel}
use Rattle.gateway.proofs.Dispatching.{sense-plain, sense-cancel, sense-acknowledgment, sense-cancel-acknowledgment}
use Rattle.gateway.proofs.Accepting.{cancel-kind}
use Rattle.take.proofs.take_frame.Goals as goal

-- a cancel has a lamp
cancelled : (f : Frame) → f.sense ≡ Cancel → well_formed f ≡ true → kind_number f.message.kind ≤ 2
cancelled f e h = cancel-kind f.message (ap (λ (t : Sense). well_formed (record { message = f.message; sense = t })) (sym e) ∙ h)

pub take_cancel-requires : goal.take_cancel-requires
take_cancel-requires c =
    (c.requires.0, c.requires.1, search cancelled)

pub returns-in-Plain : goal.returns-in-Plain
returns-in-Plain c = search sense-plain

pub returns-in-Cancel : goal.returns-in-Cancel
returns-in-Cancel c = search sense-cancel

pub returns-in-Acknowledgment : goal.returns-in-Acknowledgment
returns-in-Acknowledgment c = search sense-acknowledgment

pub returns-in-CancelAcknowledgment : goal.returns-in-CancelAcknowledgment
returns-in-CancelAcknowledgment c = search sense-cancel-acknowledgment
