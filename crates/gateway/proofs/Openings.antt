-- Set up that is not refused leaves a proper gateway.
use mathlib.Core.Path.{◌≡◌, refl, sym, ◌∙◌, ap, subst}
use mathlib.Core.Logic.{⊎_elim}
use mathlib.Core.Bool.{Bool, true, false, cond, ◌||◌, false≢true}
use mathlib.Core.List.Memᴰ
use mathlib.Core.List.Memᴰ.{head as here}
use mathlib.Core.List.Memᴰ.{tail as there}
use mathlib.Core.List.{List, [], ◌∷◌, ◌++◌}
use Prim.Native.Nat.{ℕ, suc, ◌+◌, ◌≤◌}
use native.Mathlib.Omega.{arith}
use lib.Dec.{leb, eqb}
use lib.ListN.{length, length-append}
use borrow.Author.Tests.{leb-true, eqb-true, eqb-false}
use Rattle.lists.specs.Lists.{◌∈◌, none}
use Rattle.lists.proofs.SearchLaws.{cut-first}
use Rattle.buffer.specs.Slice.{Bytes}
use Rattle.model.specs.Messages.{kind_number}
use Rattle.model.specs.Doing.{opening_state}
use Rattle.model.specs.declared.Message.{Message}
use Rattle.frame.proofs.Laws.{one-to-one}
use Rattle.frame.specs.Kinds.{sense_number}
use Rattle.frame.specs.Layout.{whole_length}
use Rattle.frame.specs.Limits.{refusal}
use Rattle.frame.specs.Reasons.{reading, frame_read}
use Rattle.frame.specs.declared.Frame.{Frame}
use Rattle.frame.specs.declared.Sense.{Sense}
use Rattle.frame.specs.declared.Sense.TheVariants.{Plain, Cancel, Acknowledgment, CancelAcknowledgment}
use Rattle.memory.specs.Codec.{encode}
use Rattle.memory.specs.Layout.{size_for}
use Rattle.memory.specs.Validity.{is_pending, round_possible}
use Rattle.memory.specs.declared.Settings.{Settings}
use Rattle.memory.specs.declared.Entry.{Entry}
use Rattle.memory.proofs.Validated.{ValidSettings, settings-facts}
use Rattle.lists.proofs.BoolLaws.{and_left, and_right}
use Rattle.lists.specs.Lists.{before_first, from_first}
use Rattle.gateway.specs.Taking.{is_later}
use Rattle.gateway.specs.Undoing.{pending_entry}
use Rattle.gateway.specs.SettingUp.{settings_of, opening_valid, cut_frames, may_open, opening_refusal, first_refusal, queued, opened, set_up_refusal}
use Rattle.gateway.specs.Calls.{CallResult, refused_with, set_up}
use Rattle.gateway.specs.Answers.{Answer}
use Rattle.gateway.specs.declared.Opening.{Opening}
use Rattle.lists.proofs.PieceLaws.{first-none}
use Rattle.frame.proofs.PieceBytes.{cut-bytes}
use Rattle.gateway.proofs.Maintaining.{Kept, enough}
use Rattle.gateway.proofs.Queues.{GoodQueue, pending-good, opening-enters, pending-not-processed}
use Rattle.gateway.proofs.Stocks.{stocks-open}
use Rattle.frame.proofs.FormNumbers.{refusal-passed}
use Rattle.gateway.proofs.Accepting.{Accepted, Taken, not-refused, accepted-good}

-- only a plain message has sense 0
plain-sense : (sense : Sense) → eqb (sense_number sense) 0 ≡ true → sense ≡ Plain
plain-sense Plain h = refl
plain-sense Cancel h = absurd (false≢true h)
plain-sense Acknowledgment h = absurd (false≢true h)
plain-sense CancelAcknowledgment h = absurd (false≢true h)

few-kinds : (n : ℕ) → (eqb n 0 || eqb n 3) ≡ true → n ≤ 3
few-kinds n = by-case (eqb n 0) refl
  where
    by-case : (b : Bool) → eqb n 0 ≡ b → (b || eqb n 3) ≡ true → n ≤ 3
    by-case true e h = omega (arith, eqb-true n 0 e)
    by-case false e h = omega (arith, eqb-true n 3 h)

-- an opening message
module _ (s : Settings) where
  opening-taken : (bytes : List ℕ) → Bytes bytes → opening_refusal s bytes ≡ 0 → Taken s false (frame_read bytes).message
  unfolding opening_refusal
  opening-taken bytes h z =
      let f = frame_read bytes in
      let (good, may, passed) = refusal-passed may_open (λ (x : Frame). refusal x s.n s.own s.last) (reading bytes) z in
      let plain = plain-sense f.sense (and_left (eqb (sense_number f.sense) 0) (eqb (kind_number f.message.kind) 0 || eqb
      (kind_number f.message.kind) 3) may) in
      accepted-good s false f.message
      (few-kinds (kind_number f.message.kind) (and_right (eqb (sense_number f.sense) 0) (eqb (kind_number f.message.kind) 0 ||
      eqb (kind_number f.message.kind) 3) may))
      (subst (λ (t : Sense). Accepted s (record { message = f.message; sense = t })) plain
      (record { form = one-to-one.read_well_formed bytes h f good; ranged = one-to-one.read_ranged bytes h f good; passes = not-refused s f passed }))

-- the queue that the opening messages make
pub length-entered : (m : Message) (e : Entry) (es : List Entry) → length (before_first (is_later m) es ++ (e ∷ from_first (is_later m) es)) ≡ suc (length es)
length-entered m e es =
    let l : length (before_first (is_later m) es) + length (from_first (is_later m) es) ≡ length es = sym (length-append (before_first (is_later
    m) es) (from_first (is_later m) es)) ∙ ap length (cut-first (is_later m) es) in
    simp length-append (omega arith)

pub length-queued : (es : List Entry) (fs : List (List ℕ)) → length (queued es fs) ≡ length es + length fs
unfolding queued
length-queued es [] = omega arith
length-queued es (f ∷ fs) =
    let m = (frame_read f).message in
    omega (arith, length-queued (before_first (is_later m) es ++ (pending_entry m ∷ from_first (is_later m) es)) fs, length-entered m (pending_entry m) es)

pub record OpeningQueue (s : Settings) (es : List Entry) : Type 0 where
  pub good : GoodQueue s es
  pub pending : (e : Entry) → e ∈ es → is_pending e ≡ true

queued-good : {s : Settings} (es : List Entry) → GoodQueue s es → ((e : Entry) → e ∈ es → is_pending e ≡ true)
    → (fs : List (List ℕ)) → ((f : List ℕ) → f ∈ fs → Taken s false (frame_read f).message) → OpeningQueue s (queued es fs)
unfolding queued
queued-good es q h [] t = record { good = q; pending = h }
queued-good es q h (f ∷ fs) t =
    let m = (frame_read f).message in
    let a = t f (here refl) in
    queued-good (before_first (is_later m) es ++ (pending_entry m ∷ from_first (is_later m) es))
    (opening-enters m es q (pending-good m a.here a.good) h)
    (λ e n. ⊎_elim
    (λ (o : e ∈ before_first (is_later m) es). h e (rw (cut-first (is_later m) es) at (Memᴰ.append_left (from_first (is_later m) es) o)))
    (λ (o : e ∈ (pending_entry m ∷ from_first (is_later m) es)). ⊎_elim (λ (d : e ≡ pending_entry m). ap is_pending d) (λ (i : e ∈ from_first
    (is_later m) es). h e (rw (cut-first (is_later m) es) at (Memᴰ.append_right (before_first (is_later m) es) i))) (Memᴰ.cases_cons
    o))
    (Memᴰ.append_cases (before_first (is_later m) es) n))
    fs (λ x n. t x (there n))

-- what a set up that is not refused has passed
record OpeningPasses (o : Opening) (size : ℕ) (list : List ℕ) : Type 0 where
  valid : opening_valid o size ≡ true
  frames : first_refusal (settings_of o) (cut_frames (length list) list) ≡ 0
  places : length (cut_frames (length list) list) ≤ o.q

opening-passes : (o : Opening) (size : ℕ) (list : List ℕ) → set_up_refusal o size list ≡ 0 → OpeningPasses o size list
unfolding set_up_refusal
opening-passes o size list = by-case (opening_valid o size) refl (eqb number 0) refl (leb (length fs) o.q) refl
  where
    fs : List (List ℕ)
    fs = cut_frames (length list) list

    number : ℕ
    number = first_refusal (settings_of o) fs

    by-case : (a : Bool) → opening_valid o size ≡ a → (b : Bool) → eqb number 0 ≡ b → (c : Bool) → leb (length fs) o.q ≡ c
        → ◌≡◌ {A = ℕ} (cond a (cond b (cond c 0 5) number) 8) 0 → OpeningPasses o size list
    by-case true e true i true j z = record { valid = e; frames = eqb-true number 0 i; places = leb-true (length fs) o.q j }
    by-case true e true i false j z = absurd (omega arith)
    by-case true e false i c j z = absurd (eqb-false number 0 i z)
    by-case false e b i c j z = absurd (omega arith)

pub opening-long : (o : Opening) (size : ℕ) (list : List ℕ) → set_up_refusal o size list ≡ 0 → size_for o.q o.u ≤ size
unfolding opening_valid
opening-long o size list h =
    let valid : opening_valid o size ≡ true = (opening-passes o size list h).valid in
    leb-true (size_for o.q o.u) size (search (and_left, and_right))

pub opening-settings : (o : Opening) (size : ℕ) (list : List ℕ) → set_up_refusal o size list ≡ 0 → ValidSettings (settings_of o)
unfolding opening_valid
opening-settings o size list h =
    let valid : opening_valid o size ≡ true = (opening-passes o size list h).valid in
    settings-facts (settings_of o) (search (and_left, and_right))

pub opening-stock : (o : Opening) (size : ℕ) (list : List ℕ) → set_up_refusal o size list ≡ 0 → o.stock ≤ 65535
unfolding opening_valid
opening-stock o size list h =
    let valid : opening_valid o size ≡ true = (opening-passes o size list h).valid in
    leb-true o.stock 65535 (search (and_left, and_right))

pub opened-keeps : (o : Opening) (size : ℕ) (list : List ℕ) → Bytes list → set_up_refusal o size list ≡ 0 → Kept (settings_of o) (opened o
    (cut_frames (length list) list))
unfolding opened round_possible
opened-keeps o size list bytes h =
    let fs = cut_frames (length list) list in
    let passes = opening-passes o size list h in
    let q = queued-good {s = settings_of o} [] (record { entries = λ e m. absurd (Memᴰ.not-nil m); order = none }) (λ e m. absurd (Memᴰ.not-nil m)) fs
    (λ f m. opening-taken (settings_of o) f (cut-bytes whole_length (length list) list bytes f m) (first-none (opening_refusal (settings_of o)) fs passes.frames f m)) in
    let stock = opening-stock o size list h in
    enough
    (record {
      same = refl;
      settings = opening-settings o size list h;
      state = record {
        stock = omega arith;
        failed = omega arith;
        fitted = omega
            arith;
        short = omega arith;
      };
      agreed = omega arith;
      note = omega arith;
      round = refl;
      entries = q.good.entries;
      order = q.good.order;
      stocks = stocks-open (opening_state o.stock) (queued [] fs)
          stock
          (omega (arith, length-queued [] fs, passes.places, (opening-settings o size list h).q))
          (λ e m. pending-not-processed e.mark (q.pending e m))
          (λ e m. omega (arith, (q.good.entries e m).ranged.message.quantity));
      outstanding = λ x m. absurd (Memᴰ.not-nil m);
    })
    (omega (arith, length-queued [] fs, passes.places)) (omega arith)

-- set up that answers 0 is not refused
pub set-up-accepted : (o : Opening) (list memory : List ℕ) → (set_up o list memory).answer.number ≡ 0 → set_up_refusal o (length memory) list ≡ 0
unfolding set_up
set-up-accepted o list memory = by-case (eqb number 0) refl
  where
    number : ℕ
    number = set_up_refusal o (length memory) list

    left : Bool → CallResult Answer
    left b = cond b (record {
      answer = record { number = 0; written = 0 };
      memory = encode (opened o (cut_frames (length list) list)) memory;
      output = [];
    }) (refused_with number memory [])

    by-case : (b : Bool) → eqb number 0 ≡ b → (left b).answer.number ≡ 0 → number ≡ 0
    by-case true e z = eqb-true number 0 e
    by-case false e z = z
