-- What a gateway keeps to, whether or not it has places for all of it, and the changes that keep to it.
use mathlib.Core.Path.{◌≡◌, refl, sym, subst}
use mathlib.Core.Logic.{⊎_elim}
use mathlib.Core.Bool.{Bool, true, false, cond}
use mathlib.Core.List.Memᴰ
use mathlib.Core.List.Memᴰ.{head as here}
use mathlib.Core.List.Memᴰ.{tail as there}
use mathlib.Core.List.{List, [], ◌∷◌, ◌++◌}
use Prim.Native.Nat.{ℕ, ◌≤◌, ◌<◌}
use native.Mathlib.Omega.{arith}
use lib.ListN.{length}
use borrow.Author.Tests.{leb-true}
use Rattle.lists.specs.Lists.{◌∈◌, Ascending}
use Rattle.model.specs.declared.Message.{Message}
use Rattle.model.specs.declared.State.{State}
use Rattle.memory.specs.Records.{Gateway, site_of}
use Rattle.memory.specs.Validity.{round_possible, valid}
use Rattle.memory.specs.declared.Settings.{Settings}
use Rattle.memory.specs.declared.Entry.{Entry}
use Rattle.memory.specs.declared.Sent.{Sent}
use Rattle.memory.specs.declared.Round.{Round}
use Rattle.memory.specs.declared.Phase.{Phase}
use Rattle.memory.specs.declared.Phase.TheVariants.{Idle, Counting, Stopped}
use Rattle.memory.specs.Ranges.{Ranged, RangedState, RangedEntry}
use Rattle.memory.proofs.Validated.{ValidSettings, ValidEntry, MayStand, Stocks, valid-facts, facts-valid}
use Rattle.lists.proofs.BoolLaws.{and_left, and_right}
use Rattle.gateway.specs.Effects.{Effect, Outcome, fits, refused, settled, bytes_of_frames, with_queue, with_state, with_agreed, with_round}
use Rattle.gateway.specs.Effects.{with_outstanding, lowered_in, noted, sent_one, sent_all}
use Rattle.gateway.specs.Undoing.{restored, sent_back, rolled_back}
use Rattle.gateway.proofs.Replies.{GoodSent, sent-good}

-- a valid gateway whose numbers fit their fields: what a call finds in sound memory, and what it leaves
pub record Proper (g : Gateway) : Type 0 where
  pub valid : valid g ≡ true
  pub ranged : Ranged g

-- a proper gateway with those settings, which no call changes
pub record Kept (s : Settings) (g : Gateway) : Type 0 where
  pub same : g.settings ≡ s
  pub proper : Proper g

pub record GoodEntry (s : Settings) (e : Entry) : Type 0 where
  pub valid : ValidEntry s e
  pub ranged : RangedEntry e

-- all but that there are places enough
pub record Standing (s : Settings) (g : Gateway) : Type 0 where
  pub same : g.settings ≡ s
  pub settings : ValidSettings s
  pub state : RangedState g.state
  pub agreed : g.agreed < 4294967296
  pub note : g.round.note < 4294967296
  pub round : round_possible s g.round ≡ true
  pub entries : (e : Entry) → e ∈ g.queue → GoodEntry s e
  pub order : Ascending MayStand g.queue
  pub stocks : Stocks g.state g.queue
  pub outstanding : (x : Sent) → x ∈ g.outstanding → GoodSent s x

pub standing : {g : Gateway} → Proper g → Standing g.settings g
standing {g} p =
    let v = valid-facts g p.valid in
    record {
      same = refl;
      settings = v.settings;
      state = p.ranged.state;
      agreed = p.ranged.agreed;
      note = p.ranged.note;
      round = v.round;
      entries = λ e m. record { valid = v.entries e m; ranged = p.ranged.queue e m };
      order = v.order;
      stocks = v.stocks;
      outstanding = λ x m. record { valid = v.outstanding x m; ranged = p.ranged.outstanding x m };
    }

module _ {s : Settings} {g : Gateway} (k : Standing s g) where
  -- with places enough it is proper
  pub enough : length g.queue ≤ g.settings.q → length g.outstanding ≤ g.settings.u → Kept s g
  enough h l =
      record {
        same = k.same;
        proper = record {
          valid = facts-valid g (record {
            settings = rw k.same k.settings;
            queued = h;
            sent = l;
            round = rw k.same k.round;
            entries = λ e m. rw k.same (k.entries e m).valid;
            order = k.order;
            stocks = k.stocks;
            outstanding = λ x m. rw k.same (k.outstanding x m).valid;
          });
          ranged = record {
            state = k.state;
            agreed = k.agreed;
            note = k.note;
            queue = λ e m. (k.entries e m).ranged;
            outstanding = λ x m. (k.outstanding x m).ranged;
          };
        };
      }

  pub with-queue : (queue : List Entry) → ((e : Entry) → e ∈ queue → GoodEntry s e) → Ascending MayStand queue → Stocks g.state queue
      → Standing s (with_queue queue g)
  with-queue queue h a t =
      record {
        same = k.same;
        settings = k.settings;
        state = k.state;
        agreed = k.agreed;
        note = k.note;
        round = k.round;
        entries = h;
        order = a;
        stocks = t;
        outstanding = k.outstanding;
      }

  pub with-state : (state : State) → RangedState state → Stocks state g.queue → Standing s (with_state state g)
  with-state state h t =
      record {
        same = k.same;
        settings = k.settings;
        state = h;
        agreed = k.agreed;
        note = k.note;
        round = k.round;
        entries = k.entries;
        order = k.order;
        stocks = t;
        outstanding = k.outstanding;
      }

  pub with-agreed : (agreed : ℕ) → agreed < 4294967296 → Standing s (with_agreed agreed g)
  with-agreed agreed h =
      record {
        same = k.same;
        settings = k.settings;
        state = k.state;
        agreed = h;
        note = k.note;
        round = k.round;
        entries = k.entries;
        order = k.order;
        stocks = k.stocks;
        outstanding = k.outstanding;
      }

  pub with-round : (round : Round) → round_possible s round ≡ true → round.note < 4294967296 → Standing s (with_round round g)
  with-round round h l =
      record {
        same = k.same;
        settings = k.settings;
        state = k.state;
        agreed = k.agreed;
        note = l;
        round = h;
        entries = k.entries;
        order = k.order;
        stocks = k.stocks;
        outstanding = k.outstanding;
      }

  pub with-outstanding : (outstanding : List Sent) → ((x : Sent) → x ∈ outstanding → GoodSent s x) → Standing s (with_outstanding outstanding g)
  with-outstanding outstanding h =
      record {
        same = k.same;
        settings = k.settings;
        state = k.state;
        agreed = k.agreed;
        note = k.note;
        round = k.round;
        entries =
            k.entries;
        order = k.order;
        stocks = k.stocks;
        outstanding = h;
      }

-- sending lowers the note at most
lowered-most : (phase : Phase) (note hour : ℕ) → lowered_in phase note hour ≤ note
lowered-most Idle note hour = omega arith
lowered-most Counting note hour = omega arith
lowered-most Stopped note hour = omega arith

pub send-one : {s : Settings} {g : Gateway} → Standing s g → (cancel : Bool) (m : Message) → GoodSent s (record {
  message = m;
  cancel =
      cancel;
}) → Standing s (sent_one cancel m g)
unfolding sent_one noted round_possible
send-one {s} {g} k cancel m h =
    with-outstanding
    (with-round k (noted m.hour g.round) k.round (omega (arith, lowered-most g.round.phase g.round.note m.hour, k.note)))
    (g.outstanding ++ (record { message = m; cancel = cancel } ∷ []))
    (λ x n. ⊎_elim (k.outstanding x) (λ o. subst (GoodSent s) (sym (Memᴰ.eq_of_singleton o)) h) (Memᴰ.append_cases g.outstanding n))

pub send-all : {s : Settings} {g : Gateway} → Standing s g → (cancel : Bool) (ms : List Message)
    → ((m : Message) → m ∈ ms → GoodSent s (record { message = m; cancel = cancel })) → Standing s (sent_all cancel ms g)
unfolding sent_all
send-all k cancel [] h = k
send-all {g = g} k cancel (m ∷ ms) h = send-all {g = sent_one cancel m g} (send-one k cancel m (h m (here refl))) cancel ms (λ x n. h x (there n))

-- sending leaves the state
sent-state : (cancel : Bool) (ms : List Message) (g : Gateway) → (sent_all cancel ms g).state ≡ g.state
unfolding sent_all sent_one
sent-state cancel [] g = refl
sent-state cancel (m ∷ ms) g = sent-state cancel ms (sent_one cancel m g)

pub rolled-state : (events : List Entry) (g : Gateway) → (rolled_back events g).state ≡ restored g.state events
unfolding rolled_back
rolled-state events g = sent-state true (sent_back (site_of g.settings) events) (with_state (restored g.state events) g)

-- undoing events of the queue
module _ {s : Settings} {g : Gateway} (k : Standing s g) where
  restored-ranged : (events : List Entry) → ((e : Entry) → e ∈ events → GoodEntry s e) → RangedState (restored g.state events)
  unfolding restored
  restored-ranged [] h = k.state
  restored-ranged (e ∷ es) h = (h e (here refl)).ranged.before

  sent-back-good : (events : List Entry) → ((e : Entry) → e ∈ events → GoodEntry s e) → (m : Message) → m ∈ sent_back (site_of s) events →
      GoodSent s (record { message = m; cancel = true })
  unfolding sent_back
  sent-back-good [] h m n = absurd (Memᴰ.not-nil n)
  sent-back-good (e ∷ es) h m n =
      ⊎_elim
      (sent-back-good es (λ f o. h f (there o)) m)
      (sent-good s k.settings e.message (record {
        storable = (h e (here refl)).valid.message;
        ranged = (h e (here
            refl)).ranged.message;
      }) true e.before m)
      (Memᴰ.append_cases (sent_back (site_of s) es) n)

  pub roll-back : (events : List Entry) → ((e : Entry) → e ∈ events → GoodEntry s e) → Stocks (restored g.state events) g.queue
      → Standing s (rolled_back events g)
  unfolding rolled_back
  roll-back events h t =
      send-all (with-state k (restored g.state events) (restored-ranged events h) t) true (sent_back (site_of g.settings) events)
      (λ m n. sent-back-good events h m (rw k.same at n))

-- either of two effects
pub either-stands : {s : Settings} (b : Bool) (u v : Effect) → (b ≡ true → Standing s u.gateway) → (b ≡ false → Standing s v.gateway)
    → Standing s (cond b u v).gateway
either-stands true u v h l = h refl
either-stands false u v h l = l refl

-- an effect for which there is room
pub fitting : {s : Settings} (room : ℕ) (e : Effect) → Standing s e.gateway → fits room e ≡ true → Kept s e.gateway
unfolding fits
fitting room e k h =
    enough k
    (leb-true (length e.gateway.queue) e.gateway.settings.q (search (and_left, and_right)))
    (leb-true (length e.gateway.outstanding) e.gateway.settings.u (search (and_left, and_right)))

-- a number that a call may answer to sound memory: it is not 10, and it fits a byte
pub record Answers (number : ℕ) : Type 0 where
  pub sound : number ≡ 10 → ⊥
  pub small : number < 256

pub below-ten : {number : ℕ} → number < 10 → Answers number
below-ten h = record { sound = λ e. omega (arith, h, e); small = omega (arith, h) }

-- how a call ends: with a proper gateway of those settings, and with no 10
pub record Ends (s : Settings) (r : Outcome) : Type 0 where
  pub gateway : Kept s r.gateway
  pub number : Answers r.number

-- a refusal changes nothing
pub unchanged : {g : Gateway} → Proper g → Kept g.settings g
unchanged p = record { same = refl; proper = p }

pub refuse : {g : Gateway} → Proper g → (number : ℕ) → Answers number → Ends g.settings (refused number g)
refuse p number h = record { gateway = unchanged p; number = h }

-- a call that settles
pub settle : {g : Gateway} → Proper g → (room : ℕ) (e : Effect) → Standing g.settings e.gateway → Ends g.settings (settled room g e)
unfolding settled
settle {g} p room e k = by-case (fits room e) refl
  where
    by-case : (b : Bool) → fits room e ≡ b → Ends g.settings (cond b (record {
      number = 0;
      gateway = e.gateway;
      output = bytes_of_frames
          e.frames;
    }) (refused 5 g))
    by-case true h = record { gateway = fitting room e k h; number = below-ten (omega arith) }
    by-case false h = refuse p 5 (below-ten (omega arith))
