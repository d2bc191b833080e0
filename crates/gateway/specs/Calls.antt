-- The calls on lent bytes: what each answers, the memory afterwards and the output afterwards, for every input.
-- Demand 2: "every call does what document 01's rules say". The rules are the files before this one; the contract of each call is that it
-- leaves what is defined here.
use Rattle.std.specs.Prelude.{ℕ, Bool, true, false, cond, not, Result, Ok, Err, List, [], ltb, eqb, length}
use Rattle.buffer.specs.Slice.{write}
use Rattle.model.specs.Messages.{kind_number}
use Rattle.model.specs.declared.Message.{Message}
use Rattle.frame.specs.Reasons.{reading, read_in, form_number}
use Rattle.frame.specs.Limits.{refusal}
use Rattle.frame.specs.declared.Frame.{Frame}
use Rattle.frame.specs.declared.forms.FormError.{FormError}
use Rattle.frame.specs.declared.forms.FormError.TheVariants.{NotTaken}
use Rattle.frame.specs.declared.Sense.{Sense}
use Rattle.frame.specs.declared.Sense.TheVariants.{Plain, Cancel, Acknowledgment, CancelAcknowledgment}
use Rattle.model.specs.declared.Kind.{Kind}
use Rattle.model.specs.declared.Kind.TheVariants.{Failure, Request, Delivery, Restock, Start, Lvt, Update}
use Rattle.memory.specs.Records.{Gateway}
use Rattle.memory.specs.declared.Settings.{Settings}
use Rattle.memory.specs.Codec.{decode, encode, header_at}
use Rattle.memory.specs.Soundness.{sound}
use Rattle.gateway.specs.Effects.{Outcome, refused, settled}
use Rattle.gateway.specs.Working.{worked}
use Rattle.gateway.specs.Taking.{take_plain, take_cancel, take_acknowledgment}
use Rattle.gateway.specs.Rounds.{start, take_start, take_lvt, take_update}
use Rattle.gateway.specs.Committing.{commit}
use Rattle.gateway.specs.SettingUp.{opened, set_up_refusal, cut_frames}
use Rattle.gateway.specs.Answers.{Answer, Worked, AgreedTime}
use Rattle.gateway.specs.declared.Opening.{Opening}

-- what a call leaves: its answer, the memory and the output
pub record CallResult (A : Type 0) : Type 0 where
  pub answer : A
  pub memory : List ℕ
  pub output : List ℕ

abbrev pub left : {A : Type 0} → A → List ℕ → List ℕ → CallResult A
left answer memory output = record { answer = answer; memory = memory; output = output }

-- a refusal writes nothing
abbrev pub refused_with : ℕ → List ℕ → List ℕ → CallResult Answer
refused_with number memory output = left (record { number = number; written = 0 }) memory output

-- an outcome on a gateway, on its memory and the output: a refusal leaves both as they were
unfoldable pub leaving : Outcome → List ℕ → List ℕ → CallResult Answer
leaving r memory output =
    cond (eqb r.number 0)
    (record {
      answer = record { number = 0; written = length r.output };
      memory = encode r.gateway memory;
      output = write 0 r.output output;
    })
    (refused_with r.number memory output)

-- a call on the gateway that the memory holds, with the output's length for its room
abbrev pub on_held : (ℕ → Gateway → Outcome) → List ℕ → List ℕ → CallResult Answer
on_held call memory output = leaving (call (length output) (decode memory)) memory output

-- a call on sound memory; 10 otherwise
unfoldable pub on_sound : (ℕ → Gateway → Outcome) → List ℕ → List ℕ → CallResult Answer
unfolding leaving
on_sound call memory output = cond (sound memory) (on_held call memory output) (refused_with 10 memory output)

-- an hour below the agreed time is refused with 9 before the call looks further
abbrev pub unless_below : ℕ → Gateway → Outcome → Outcome
unless_below hour g r = cond (ltb hour g.agreed) (refused 9 g) r

-- taking what has no sense, by its kind
abbrev pub take_by_kind : ℕ → Message → Gateway → Kind → Outcome
take_by_kind room m g (Failure origin) = unless_below m.hour g (settled room g (take_plain m g))
take_by_kind room m g (Request origin) = unless_below m.hour g (settled room g (take_plain m g))
take_by_kind room m g (Delivery origin) = unless_below m.hour g (settled room g (take_plain m g))
take_by_kind room m g (Restock quantity) = refused (form_number NotTaken) g
take_by_kind room m g Start = take_start room m.from g
take_by_kind room m g Lvt = unless_below m.hour g (take_lvt room m.from m.hour g)
take_by_kind room m g Update = take_update room m.from m.hour g

-- taking a message by its sense
abbrev pub take_by_sense : ℕ → Message → Gateway → Sense → Outcome
take_by_sense room m g Plain = take_by_kind room m g m.kind
take_by_sense room m g Cancel = unless_below m.hour g (settled room g (take_cancel m g))
take_by_sense room m g Acknowledgment = take_acknowledgment false m g
take_by_sense room m g CancelAcknowledgment = take_acknowledgment true m g

-- taking a frame that is one of the forms and passes 2 and 3
unfoldable pub take_frame : ℕ → Frame → Gateway → Outcome
take_frame room f g = take_by_sense room f.message g f.sense

-- the carrier brings every form but a Restock, kind 3
abbrev pub by_carrier : Frame → Bool
by_carrier f = not (eqb (kind_number f.message.kind) 3)

-- taking a frame of one of the forms, at a gateway with those settings: 2 and 3, then the rest
abbrev pub take_for : Settings → Frame → ℕ → Gateway → Outcome
take_for s f room g =
    let number = refusal f s.n s.own s.last in
    cond (eqb number 0) (take_frame room f g) (refused number g)

-- taking what was read: the number of the reason, or the rest
abbrev pub take_read : Result Frame FormError → ℕ → Gateway → Outcome
take_read (Ok f) room g = take_for g.settings f room g
take_read (Err reason) room g = refused (form_number reason) g

-- taking a byte string: the first reason why it is no frame or is not taken in this call, then the rest
unfoldable pub take_bytes : List ℕ → ℕ → Gateway → Outcome
unfolding take_frame
take_bytes bytes = take_read (read_in by_carrier (reading bytes))

-- the calls
unfoldable pub taken : List ℕ → List ℕ → List ℕ → CallResult Answer
unfolding on_sound take_bytes
taken memory frame output = on_sound (take_bytes frame) memory output

unfoldable pub started : List ℕ → List ℕ → CallResult Answer
unfolding on_sound
started memory output = on_sound start memory output

unfoldable pub committed : List ℕ → List ℕ → CallResult Answer
unfolding on_sound
committed memory output = on_sound commit memory output

-- work that stops early keeps what the counted events did
unfoldable pub worked_off : ℕ → List ℕ → List ℕ → CallResult Worked
worked_off b memory output =
    let p = worked b (length output) (decode memory) in
    cond (sound memory)
    (record {
      answer = record { count = p.count; why = p.why; written = length p.output };
      memory = encode p.gateway memory;
      output = write 0 p.output output;
    })
    (left (record { count = 0; why = 10; written = 0 }) memory output)

-- set up never looks at what the memory held, and writes no output
unfoldable pub set_up : Opening → List ℕ → List ℕ → CallResult Answer
set_up o list memory =
    let number = set_up_refusal o (length memory) list in
    cond (eqb number 0)
    (record {
      answer = record { number = 0; written = 0 };
      memory = encode (opened o (cut_frames (length list) list)) memory;
      output = [];
    })
    (refused_with number memory [])

-- reading the agreed time (GVT): 10, or the hour
unfoldable pub agreed_time : List ℕ → AgreedTime
agreed_time memory =
    cond (sound memory) (record { number = 0; hour = (header_at memory).agreed }) (record { number = 10; hour = 0 })
