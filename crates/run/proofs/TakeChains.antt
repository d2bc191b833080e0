-- Taking an event or an acknowledgment that is under way: what it comes to, beside the theory's world and the ledger.
use mathlib.Core.Path.{◌≡◌, refl, ◌∙◌, ap}
use Prim.Native.Nat.{ℕ}
use mathlib.Core.Bool.{Bool, true, false}
use mathlib.Core.List.{List}
use Rattle.lists.specs.Lists.{any, from_last}
use Rattle.model.specs.declared.Message.{Message}
use Rattle.memory.specs.Records.{Gateway}
use Rattle.memory.proofs.Validated.{valid-facts}
use Rattle.gateway.specs.Undoing.{processed_of}
use Rattle.lists.specs.Lists.{from_first}
use Rattle.gateway.specs.Taking.{is_later, is_cancel_of, is_plain, take_plain, take_cancel}
use Rattle.gateway.proofs.Maintaining.{Kept}
use Rattle.run.specs.Forecast.{SetUpInput}
use Rattle.run.proofs.SavedStates.{Saved}
use Rattle.run.proofs.EventCalls.{Stands, noted_all, rolled, plain_back, cancel_back}

module _ (n last : ℕ) (setups : ℕ → SetUpInput) (i : ℕ) (c : List Message) (g : Gateway) (st : Stands n last setups i c g) where
  -- a gateway that a call left stands as before
  pub still-stands : (c' : List Message) (h : Gateway) → Kept g.settings h → Saved n last setups i c' h.queue h.state → Stands n last setups i c' h
  still-stands c' h k v =
      record {
        settings = k.same ∙ st.settings;
        settled = st.settled;
        valid = valid-facts h k.proper.valid;
        saved = v;
      }

  -- what taking an event does to the note and to the agreed time: it is sending
  pub record Noted (sends : List Message) (h : Gateway) : Type 0 where
    pub round : h.round ≡ noted_all sends g.round
    pub agreed : h.agreed ≡ g.agreed

  pub plain-noted : (m : Message) → Noted (plain_back n last setups i c g st m) (take_plain m g).gateway
  unfolding take_plain plain_back noted_all
  plain-noted m = by-case (any (is_cancel_of m) g.queue) refl
    where
      by-case : (t : Bool) → any (is_cancel_of m) g.queue ≡ t → Noted (plain_back n last setups i c g st m) (take_plain m g).gateway
      by-case true p = rw p (record { round = refl; agreed = refl })
      by-case false p =
          let r = rolled n last setups i c g st (processed_of (from_first (is_later m) g.queue)) in
          rw p (record { round = ap (λ (h : Gateway). h.round) r; agreed = ap (λ (h : Gateway). h.agreed) r })

  pub cancel-noted : (m : Message) → Noted (cancel_back n last setups i c g st m) (take_cancel m g).gateway
  unfolding take_cancel cancel_back noted_all
  cancel-noted m = by-case (any (is_plain m) g.queue) refl
    where
      by-case : (t : Bool) → any (is_plain m) g.queue ≡ t → Noted (cancel_back n last setups i c g st m) (take_cancel m g).gateway
      by-case true p =
          let r = rolled n last setups i c g st (processed_of (from_last (is_plain m) g.queue)) in
          rw p (record { round = ap (λ (h : Gateway). h.round) r; agreed = ap (λ (h : Gateway). h.agreed) r })
      by-case false p = rw p (record { round = refl; agreed = refl })
