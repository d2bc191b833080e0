-- What the functions inside a call are told of the memory, and promise.
use Rattle.std.specs.Prelude.{◌≡◌, true, List, ℕ, Result}
use Rattle.std.specs.Borrow.{MutBor}
use denote.Triple.Both.{Both}
use Rattle.model.specs.declared.Kind.{Kind}
use Rattle.refusal.specs.declared.Refusal.{Refusal}
use Rattle.memory.specs.Records.{Gateway}
use Rattle.memory.specs.Codec.{header_at, decode}
use Rattle.memory.specs.Soundness.{sound}
use Rattle.memory.specs.declared.Header.{Header}
use Rattle.memory.specs.declared.Round.{Round}
use Rattle.gateway.specs.Effects.{Effect, Outcome}
use Rattle.gateway.specs.Rounds.{frames_in_round}
use Rattle.gateway.specs.Calls.{left, leaving, on_held}
use Rattle.gateway.specs.Answers.{answer_of}

-- the memory is sound, and this is its header
pub record Known (m : List ℕ) (h : Header) : Type 0 where
  pub soundness : sound m ≡ true
  pub header : h ≡ header_at m

-- the memory is sound, and this header has its settings and counts; the state, the agreed time and the round may differ
pub record Changed (m : List ℕ) (h : Header) : Type 0 where
  pub soundness : sound m ≡ true
  pub settings : h.settings ≡ (header_at m).settings
  pub queued : h.queued ≡ (header_at m).queued
  pub outstanding : h.outstanding ≡ (header_at m).outstanding

-- a gateway with the settings, state, agreed time and round of a header
abbrev pub with_header : Header → Gateway → Gateway
with_header h g = record {
  settings = h.settings;
  state = h.state;
  agreed = h.agreed;
  round = h.round;
  queue = g.queue;
  outstanding = g.outstanding;
}

-- what a call leaves of the lent memory and output, with its answer, is what `call` comes to on the gateway that it found in the memory
abbrev pub Leaves : Result ℕ Refusal → Both (MutBor (List ℕ)) (MutBor (List ℕ)) → Both (MutBor (List ℕ)) (MutBor (List ℕ)) → (ℕ → Gateway → Outcome) → Type 0
Leaves r memory output call = left (answer_of r) memory.exit.now output.exit.now ≡ on_held call memory.entry.now output.entry.now

-- the same of a call that has nothing to do with an output
abbrev pub LeavesMemory : Result ℕ Refusal → Both (MutBor (List ℕ)) (MutBor (List ℕ)) → (Gateway → Outcome) → Type 0
LeavesMemory r memory call =
    (output : List ℕ) → left (answer_of r) memory.exit.now output ≡ leaving (call (decode memory.entry.now)) memory.entry.now output

-- a header with another agreed time and round
abbrev pub changed_to : Header → ℕ → Round → Header
changed_to h agreed round = record { settings = h.settings; state = h.state; agreed = agreed; round = round; queued = h.queued; outstanding = h.outstanding }

-- the gateway has that header, and a frame of that kind and hour goes to each of some gateways
abbrev pub announced : Header → Kind → ℕ → List ℕ → Gateway → Effect
announced h kind hour receivers g = record { gateway = with_header h g; frames = frames_in_round kind hour h.settings.own receivers }
