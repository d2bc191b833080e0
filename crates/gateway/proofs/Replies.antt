-- What doing a stored message sends may be stored too, and the state after it fits its fields.
use mathlib.Core.Path.{◌≡◌, refl, sym, subst}
use mathlib.Core.Bool.{Bool, true, false, cond}
use mathlib.Core.List.Memᴰ
use mathlib.Core.List.{List, [], ◌∷◌}
use Prim.Native.Nat.{ℕ, ◌+◌, ◌-◌, ◌≤◌, ◌<◌}
use native.Mathlib.Omega.{arith}
use lib.Dec.{leb, ltb}
use borrow.Author.Tests.{leb-true, le-leb, eq-eqb}
use Rattle.frame.proofs.Branches.{lamp-map}
use Rattle.frame.proofs.Presence.{lamp-kinds, hour-stands}
use Rattle.lists.specs.Lists.{◌∈◌}
use Rattle.model.specs.Messages.{kind_number, origin_of, quantity_of}
use Rattle.model.specs.Doing.{after, counted, most_stock, not_past, reply, sent, sent_for}
use Rattle.model.specs.declared.Kind.{Kind}
use Rattle.model.specs.declared.Kind.TheVariants.{Failure, Request, Delivery, Restock, Start, Lvt, Update}
use Rattle.model.specs.declared.Message.{Message}
use Rattle.model.specs.declared.State.{State}
use Rattle.frame.specs.Writing.{well_formed, lamp_fits, all_between, gateways_agree}
use Rattle.memory.specs.Records.{site_of}
use Rattle.memory.specs.Validity.{frame_if}
use Rattle.memory.specs.declared.Settings.{Settings}
use Rattle.memory.specs.declared.Sent.{Sent}
use Rattle.memory.specs.Ranges.{RangedState, RangedMessage}
use Rattle.memory.proofs.Validated.{ValidSettings, Storable, ValidSent}
use Rattle.lists.proofs.BoolLaws.{and_left, and_right}

-- a message that may be stored as it is, and whose numbers fit their fields
pub record Good (s : Settings) (cancel : Bool) (m : Message) : Type 0 where
  pub storable : Storable s cancel m
  pub ranged : RangedMessage m

-- an outstanding one
pub record GoodSent (s : Settings) (x : Sent) : Type 0 where
  pub valid : ValidSent s x
  pub ranged : RangedMessage x.message

-- the lamp of a message of kind 0 to 2
lamp-printable : (cancel : Bool) (m : Message) → kind_number m.kind ≤ 2 → well_formed (frame_if cancel m) ≡ true → all_between 33 126 m.lamp ≡ true
unfolding well_formed lamp_fits
lamp-printable cancel m k h =
    let fits : lamp_fits m ≡ true = search (and_left, and_right) in
    rw (lamp-kinds (kind_number m.kind), le-leb (kind_number m.kind) 2 k) at fits

-- a message of kind 0 to 2 is well formed whatever its sense, if its lamp and its gateways are
lamp-formed : (cancel : Bool) (m : Message) → kind_number m.kind ≤ 2 → all_between 33 126 m.lamp ≡ true → gateways_agree m.from m.to m.kind ≡ true
    → well_formed (frame_if cancel m) ≡ true
unfolding well_formed lamp_fits
lamp-formed cancel m k lamp gateways =
    rw (
      lamp-kinds (kind_number m.kind),
      le-leb (kind_number m.kind) 2 k,
      hour-stands (kind_number m.kind) (lamp-map (kind_number m.kind) k) refl,
      lamp,
      gateways,
    )

module _ (s : Settings) (v : ValidSettings s) {cancel : Bool} (m : Message) (good : Good s cancel m) (some : kind_number m.kind ≤ 2) (again : Bool) where
  reply-good : (hours to : ℕ) (kind : Kind) → kind_number kind ≤ 2 → gateways_agree s.own to kind ≡ true → to < s.n → origin_of kind < s.n
      → quantity_of kind ≡ 0
      → (x : Message) → x ∈ not_past s.last (reply (site_of s) m hours to kind) → GoodSent s (record { message = x; cancel = again })
  reply-good hours to kind k agree t o q x n = by-case (leb (m.hour + hours) s.last) refl n
    where
      r : Message
      r = reply (site_of s) m hours to kind

      good-reply : m.hour + hours ≤ s.last → GoodSent s (record { message = r; cancel = again })
      good-reply h =
          record {
            valid = record {
              message = record {
                kind = omega arith;
                form = lamp-formed again r k (lamp-printable cancel m some good.storable.form) agree;
                from = v.own;
                to = t;
                origin = o;
                hour = h;
              };
              kind = k;
              from = refl;
            };
            ranged = record { quantity = omega arith; lamp = good.ranged.lamp };
          }

      by-case : (b : Bool) → leb (m.hour + hours) s.last ≡ b → x ∈ cond b (r ∷ []) [] → GoodSent s (record { message = x; cancel = again })
      by-case true e n = subst (λ (y : Message). GoodSent s (record { message = y; cancel = again })) (sym (Memᴰ.eq_of_singleton n))
          (good-reply (leb-true (m.hour + hours) s.last e))
      by-case false e n = absurd (Memᴰ.not-nil n)

module _ (s : Settings) (v : ValidSettings s) {cancel : Bool} (m : Message) (good : Good s cancel m) (again : Bool) (before : State) where
  either : (b : Bool) {us vs : List Message} {P : Message → Type 0} → ((x : Message) → x ∈ us → P x) → ((x : Message) → x ∈ vs → P x) → (x :
      Message) → x ∈ cond b us vs → P x
  either true p q = p
  either false p q = q

  -- what doing it sends, or what is sent to cancel that, takes an outstanding place
  pub sent-good : (x : Message) → x ∈ sent (site_of s) before m → GoodSent s (record { message = x; cancel = again })
  unfolding sent
  sent-good = by-kind m.kind refl
    where
      few : {kind : Kind} → m.kind ≡ kind → kind_number kind ≤ 2 → kind_number m.kind ≤ 2
      few e h = rw e h

      origin : {kind : Kind} → m.kind ≡ kind → origin_of kind < s.n
      origin e = rw e at good.storable.origin

      by-kind : (kind : Kind) → m.kind ≡ kind → (x : Message) → x ∈ sent_for (site_of s) before m kind → GoodSent s (record { message = x; cancel = again })
      by-kind (Failure origin') e = reply-good s v m good (few e (omega arith)) again _ s.supplier (Request s.own) (omega
          arith) refl v.supplier v.own refl
      by-kind (Request origin') e =
          either (ltb 0 before.stock)
          (reply-good s v m good (few e (omega arith)) again _ origin' (Delivery origin') (omega arith) (eq-eqb origin' origin'
          refl) (origin e) (origin e) refl)
          (reply-good s v m good (few e (omega arith)) again _ s.supplier (Request origin') (omega arith) refl v.supplier (origin e) refl)
      by-kind (Delivery origin') e =
          reply-good s v m good (few e (omega arith)) again _ s.own (Failure s.own) (omega arith) (rw (eq-eqb s.own
          s.own refl)) v.own v.own refl
      by-kind (Restock quantity) e = λ x n. absurd (Memᴰ.not-nil n)
      by-kind Start e = λ x n. absurd (Memᴰ.not-nil n)
      by-kind Lvt e = λ x n. absurd (Memᴰ.not-nil n)
      by-kind Update e = λ x n. absurd (Memᴰ.not-nil n)

-- the state after it, where the stock comes to no more than it can
pub after-ranged : {s : State} → RangedState s → (kind : Kind) → s.stock + quantity_of kind ≤ most_stock → RangedState (after s kind)
after-ranged r (Failure origin) h = record { stock = r.stock; failed = omega arith; fitted = r.fitted; short = r.short }
after-ranged {s} r (Request origin) h = by-case (ltb 0 s.stock)
  where
    by-case : (b : Bool)
        → RangedState (cond b (record { stock = s.stock - 1; failed = s.failed; fitted = s.fitted; short = s.short }) (record {
          stock =
              s.stock;
          failed = s.failed;
          fitted = s.fitted;
          short = counted s.short;
        }))
    by-case true = record { stock = omega arith; failed = r.failed; fitted = r.fitted; short = r.short }
    by-case false = record { stock = r.stock; failed = r.failed; fitted = r.fitted; short = omega arith }
after-ranged r (Delivery origin) h = record { stock = r.stock; failed = r.failed; fitted = omega arith; short = r.short }
after-ranged r (Restock quantity) h = record { stock = omega arith; failed = r.failed; fitted = r.fitted; short = r.short }
after-ranged r Start h = r
after-ranged r Lvt h = r
after-ranged r Update h = r
