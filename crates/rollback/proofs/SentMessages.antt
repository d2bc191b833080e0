-- What an event had sent: at most one message, whose numbers fit their fields, and whose cancel is a frame of twenty-eight bytes.
use mathlib.Core.Path.{◌≡◌, refl}
use mathlib.Core.Bool.{Bool, true, false, cond}
use mathlib.Core.List.{List, [], ◌∷◌}
use Prim.Native.Nat.{ℕ, suc, ◌+◌, ◌*◌, ◌≤◌, ◌<◌}
use native.Mathlib.Omega.{arith}
use lib.Dec.{leb, ltb}
use lib.ListN.{length, length-append}
use borrow.Author.Tests.{leb-true}
use Rattle.lists.specs.Lists.{All, nil, cons, joined}
use Rattle.lists.proofs.ListLaws.{all_append}
use Rattle.model.specs.Messages.{kind_number, origin_of, quantity_of}
use Rattle.model.specs.Doing.{not_past, reply, sent, sent_for}
use Rattle.model.specs.declared.Kind.{Kind}
use Rattle.model.specs.declared.Kind.TheVariants.{Failure, Request, Delivery, Restock, Start, Lvt, Update}
use Rattle.model.specs.declared.Message.{Message}
use Rattle.model.specs.declared.State.{State}
use Rattle.model.specs.declared.Site.{Site}
use Rattle.frame.specs.Writing.{written}
use Rattle.frame.proofs.Sizes.{sense-size}
use Rattle.memory.specs.Records.{site_of}
use Rattle.memory.specs.Validity.{is_processed, frame_if}
use Rattle.memory.specs.Inside.Fits.{MessageFits, EntryFits, SettingsFit}
use Rattle.memory.specs.declared.Settings.{Settings}
use Rattle.memory.specs.declared.Entry.{Entry}
use Rattle.gateway.specs.Effects.{bytes_of_frames, frames_for}
use Rattle.gateway.specs.Undoing.{processed_of, sent_back}

-- a message whose numbers fit, and whose cancel has twenty-eight bytes
pub record Cancelled (m : Message) : Type 0 where
  pub fits : MessageFits m
  pub size : length (written (frame_if true m)) ≡ 28

module _ (s : Settings) (fit : SettingsFit s) (m : Message) (fits : MessageFits m) where
  reply-fits : (hours to : ℕ) (kind : Kind) → kind_number kind ≤ 2 → to < 256 → origin_of kind < 256 → quantity_of kind ≡ 0
      → All Cancelled (not_past s.last (reply (site_of s) m hours to kind))
  reply-fits hours to kind k t o q = by (leb (m.hour + hours) s.last) refl
    where
      r : Message
      r = reply (site_of s) m hours to kind

      by : (b : Bool) → leb (m.hour + hours) s.last ≡ b → All Cancelled (cond b (r ∷ []) [])
      by true e =
          let h = leb-true (m.hour + hours) s.last e in
          cons {a = r}
          (record {
            fits = record { hour = omega (arith, fit.last); from = fit.own; to = t; origin = o; quantity = omega arith; lamp = fits.lamp };
            size = sense-size (frame_if true r) fits.lamp k (omega arith);
          })
          nil
      by false e = nil

  either : (b : Bool) {us vs : List Message} → All Cancelled us → All Cancelled vs → All Cancelled (cond b us vs)
  either true p q = p
  either false p q = q

  pub sent-cancelled : (before : State) → All Cancelled (sent (site_of s) before m)
  unfolding sent
  sent-cancelled before = by m.kind fits.origin
    where
      by : (kind : Kind) → origin_of kind < 256 → All Cancelled (sent_for (site_of s) before m kind)
      by (Failure origin) h = reply-fits _ s.supplier (Request s.own) (omega arith) fit.supplier fit.own refl
      by (Request origin) h =
          either (ltb 0 before.stock)
          (reply-fits _ origin (Delivery origin) (omega arith) h h refl)
          (reply-fits _ s.supplier (Request origin) (omega arith) fit.supplier h refl)
      by (Delivery origin) h = reply-fits _ s.own (Failure s.own) (omega arith) fit.own fit.own refl
      by (Restock quantity) h = nil
      by Start h = nil
      by Lvt h = nil
      by Update h = nil

-- at most one
few-of : (b : Bool) (us vs : List Message) → length us ≤ 1 → length vs ≤ 1 → length (cond b us vs) ≤ 1
few-of true us vs p q = p
few-of false us vs p q = q

few-not-past : (last : ℕ) (m : Message) → length (not_past last m) ≤ 1
few-not-past last m = few-of (leb m.hour last) (m ∷ []) [] (omega arith) (omega arith)

pub sent-few : (site : Site) (before : State) (m : Message) → length (sent site before m) ≤ 1
unfolding sent
sent-few site before m = by m.kind
  where
    by : (kind : Kind) → length (sent_for site before m kind) ≤ 1
    by (Failure origin) = few-not-past site.last (reply site m site.hours.request site.supplier (Request site.own))
    by (Request origin) =
        let delivery = reply site m site.hours.delivery origin (Delivery origin) in
        let request = reply site m site.hours.request site.supplier (Request origin) in
        few-of (ltb 0 before.stock) (not_past site.last delivery) (not_past site.last request) (few-not-past site.last delivery)
        (few-not-past site.last request)
    by (Delivery origin) = few-not-past site.last (reply site m site.hours.life site.own (Failure site.own))
    by (Restock quantity) = omega arith
    by Start = omega arith
    by Lvt = omega arith
    by Update = omega arith

-- what the processed ones of some entries had sent
module _ (s : Settings) where
  pub back-cancelled : SettingsFit s → {es : List Entry} → All EntryFits es → All Cancelled (sent_back (site_of s) (processed_of es))
  unfolding processed_of sent_back
  back-cancelled fit nil = nil
  back-cancelled fit (cons {a = e} {l = es} p ps) = by (is_processed e) (back-cancelled fit ps)
    where
      by : (b : Bool) → All Cancelled (sent_back (site_of s) (processed_of es)) → All Cancelled (sent_back (site_of s) (cond b (e ∷ processed_of
          es) (processed_of es)))
      by true r = all_append r (sent-cancelled s fit e.message p.message e.before)
      by false r = r

  pub back-few : (es : List Entry) → length (sent_back (site_of s) (processed_of es)) ≤ length es
  unfolding processed_of sent_back
  back-few [] = omega arith
  back-few (e ∷ es) = by (is_processed e) (back-few es)
    where
      by : (b : Bool) → length (sent_back (site_of s) (processed_of es)) ≤ length es → length (sent_back (site_of s) (cond b (e ∷ processed_of es)
          (processed_of es))) ≤ suc (length es)
      by true r = rw length-append (omega (arith, sent-few (site_of s) e.before e.message))
      by false r = omega arith

-- the cancels' frames
pub cancels-size : {ms : List Message} → All Cancelled ms → length (bytes_of_frames (frames_for true ms)) ≡ 28 * length ms
unfolding joined
cancels-size nil = refl
cancels-size (cons {a = m} {l = ms} p ps) = rw (length-append, p.size, cancels-size ps) (omega arith)
