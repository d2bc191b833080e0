-- The hours that a round carries: not past the last one, or nothing due.
use mathlib.Core.Path.{◌≡◌, refl}
use mathlib.Core.Bool.{Bool, true, false, cond, ◌||◌}
use mathlib.Core.List.Memᴰ.{head as member-first}
use mathlib.Core.List.Memᴰ.{tail as member-rest}
use mathlib.Core.List.{List, [], ◌∷◌}
use Prim.Native.Nat.{ℕ, ◌≤◌, ◌<◌, min}
use native.Mathlib.Omega.{arith}
use lib.Dec.{leb, eqb}
use borrow.Author.Tests.{leb-true, le-leb, eqb-true, eq-eqb}
use Rattle.lists.specs.Lists.{◌∈◌, All, nil, cons}
use Rattle.model.specs.declared.Message.{Message}
use Rattle.frame.specs.Limits.{nothing_due}
use Rattle.memory.specs.Records.{Gateway}
use Rattle.memory.specs.Validity.{is_processed}
use Rattle.memory.specs.declared.Entry.{Entry}
use Rattle.memory.specs.declared.Sent.{Sent}
use Rattle.memory.specs.declared.Round.{Round}
use Rattle.memory.specs.declared.Phase.{Phase}
use Rattle.memory.specs.declared.Phase.TheVariants.{Idle, Counting, Stopped}
use Rattle.memory.proofs.Validated.{Valid}
use Rattle.gateway.specs.Effects.{lowered_in, noted}
use Rattle.gateway.specs.Rounds.{least_outstanding, least_queued, value_at, value_in}
use Rattle.run.proofs.EventCalls.{noted_all}

-- an hour that an Lvt or an Update may have
pub data DueHour (last v : ℕ) : Type 0 where
  not-past : v ≤ last → DueHour last v
  nothing : v ≡ nothing_due → DueHour last v

pub due-min : {last v u : ℕ} → DueHour last v → DueHour last u → DueHour last (min v u)
due-min (not-past p) d = not-past (omega arith)
due-min (nothing p) (not-past q) = not-past (omega arith)
due-min (nothing p) (nothing q) = nothing (omega arith)

-- it fits its field
pub due-fits : {last v : ℕ} → last < nothing_due → DueHour last v → v < 4294967296
due-fits h (not-past p) = omega arith
due-fits h (nothing p) = omega arith

-- the test of it
pub due-allowed : {last v : ℕ} → DueHour last v → (leb v last || eqb v nothing_due) ≡ true
due-allowed {last} {v} (not-past p) = rw (le-leb v last p) refl
due-allowed {last} {v} (nothing p) = by-case (leb v last)
  where
    by-case : (b : Bool) → (b || eqb v nothing_due) ≡ true
    by-case true = refl
    by-case false = eq-eqb v nothing_due p

pub allowed-due : {last v : ℕ} → (leb v last || eqb v nothing_due) ≡ true → DueHour last v
allowed-due {last} {v} h = by-case (leb v last) refl h
  where
    by-case : (b : Bool) → leb v last ≡ b → (b || eqb v nothing_due) ≡ true → DueHour last v
    by-case true p k = not-past (leb-true v last p)
    by-case false p k = nothing (eqb-true v nothing_due k)

-- a gateway's note in an open round, or its value once it has stopped
abbrev pub DueIn : ℕ → Phase → ℕ → Type 0
DueIn last Idle note = Unit {0}
DueIn last Counting note = DueHour last note
DueIn last Stopped note = DueHour last note

abbrev pub NoteDue : ℕ → Round → Type 0
NoteDue last r = DueIn last r.phase r.note

-- sending lowers it
lowered-due : (last : ℕ) (phase : Phase) (note hour : ℕ) → DueIn last phase note → hour ≤ last → DueIn last phase (lowered_in phase note hour)
lowered-due last Idle note hour d h = tt
lowered-due last Counting note hour d h = due-min d (not-past h)
lowered-due last Stopped note hour d h = d

pub noted-due : (last : ℕ) {ms : List Message} → All (λ m. m.hour ≤ last) ms → (r : Round) → NoteDue last r → NoteDue last (noted_all ms r)
unfolding noted_all noted
noted-due last nil r d = d
noted-due last (cons {a = m} h a) r d = noted-due last a (noted m.hour r) (lowered-due last r.phase r.note m.hour d h)

-- the least hours of a valid gateway
outstanding-due : (last : ℕ) (xs : List Sent) → ((x : Sent) → x ∈ xs → x.message.hour ≤ last) → DueHour last (least_outstanding xs)
unfolding least_outstanding
outstanding-due last [] h = nothing refl
outstanding-due last (x ∷ xs) h = due-min (not-past (h x (member-first refl))) (outstanding-due last xs (λ y k. h y (member-rest k)))

queued-due : (last : ℕ) (es : List Entry) → ((e : Entry) → e ∈ es → e.message.hour ≤ last) → DueHour last (least_queued es)
unfolding least_queued
queued-due last [] h = nothing refl
queued-due last (e ∷ es) h = by-case (is_processed e) (queued-due last es (λ y k. h y (member-rest k)))
  where
    by-case : (b : Bool) → DueHour last (least_queued es) → DueHour last (cond b (least_queued es) (min e.message.hour (least_queued es)))
    by-case true d = d
    by-case false d = due-min (not-past (h e (member-first refl))) d

module _ (g : Gateway) (v : Valid g) where
  pub least-due : DueHour g.settings.last (least_outstanding g.outstanding)
  least-due = outstanding-due g.settings.last g.outstanding (λ x k. (v.outstanding x k).message.hour)

  -- the value at the stop
  pub value-due : (note : ℕ) → DueHour g.settings.last note → DueHour g.settings.last (value_at note g)
  value-due note d = due-min d (queued-due g.settings.last g.queue (λ e k. (v.entries e k).message.hour))

  -- the value before an Lvt
  pub value-in-due : (phase : Phase) → DueIn g.settings.last phase g.round.note → DueHour g.settings.last (value_in phase g)
  value-in-due Idle d = not-past (omega arith)
  value-in-due Counting d = value-due g.round.note d
  value-in-due Stopped d = d
