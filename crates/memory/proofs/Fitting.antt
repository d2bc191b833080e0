-- Every number of an element fits its field: what a valid gateway's ranges come to, element by element.
use mathlib.Core.Path.{◌≡◌, refl}
use Prim.Native.Nat.{ℕ, ◌<◌, ◌≤◌}
use native.Mathlib.Omega.{arith}
use mathlib.Core.Bool.{Bool, true, false, ◌&&◌, ◌||◌}
use lib.Dec.{eqb, leb}
use lib.ListN.{length}
use borrow.Author.Tests.{eqb-true, leb-true}
use Rattle.lists.proofs.ListLaws.{all_of, all-each}
use Rattle.model.specs.Doing.{lead_times_valid}
use Rattle.model.specs.declared.LeadTimes.{LeadTimes}
use Rattle.model.specs.declared.Message.{Message}
use Rattle.memory.specs.Records.{Gateway}
use Rattle.routing.specs.Arcs.{from, to}
use Rattle.memory.specs.Ranges.{RangedMessage, Ranged}
use Rattle.memory.specs.Validity.{one_of_two, arrivals_possible, round_possible}
use Rattle.memory.specs.declared.Settings.{Settings}
use Rattle.memory.specs.declared.Round.{Round}
use Rattle.memory.specs.declared.Phase.{Phase}
use Rattle.memory.specs.declared.Phase.TheVariants.{Idle, Counting, Stopped}
use Rattle.memory.specs.Inside.Fits.{LeadTimesFit, MessageFits, GatewayFits}
use Rattle.memory.proofs.LeadTimeFacts.{at_most}
use Rattle.memory.proofs.Validated.{Valid, ValidSettings, Storable}
use Rattle.lists.proofs.BoolLaws.{and_left, and_right}

-- a valid gateway's ranges, element by element
message-fits : (s : Settings) (cancel : Bool) (m : Message) → ValidSettings s → Storable s cancel m → RangedMessage m → MessageFits m
message-fits s cancel m v x r =
    record {
      hour = omega (arith, x.hour, v.last);
      from = omega (arith, x.from, v.n);
      to = omega (arith, x.to, v.n);
      origin = omega (arith, x.origin, v.n);
      quantity = r.quantity;
      lamp = r.lamp;
    }

one_of_two_lem : (arrived : ℕ) → one_of_two arrived ≡ true → arrived ≤ 2
one_of_two_lem arrived h = leb-true arrived 2 (and_right (leb 1 arrived) (leb arrived 2) h)

arrivals-fit : (arrived froms tos : ℕ) (phase : Phase) → arrivals_possible arrived froms tos phase ≡ true → arrived ≤ 2
arrivals-fit arrived froms tos Idle h = by-case (eqb arrived 0) refl h
  where
    by-case : (b : Bool) → eqb arrived 0 ≡ b → (b || (eqb froms 2 && one_of_two arrived)) ≡ true → arrived ≤ 2
    by-case true e k = omega (arith, eqb-true arrived 0 e)
    by-case false e k = one_of_two_lem arrived (and_right (eqb froms 2) (one_of_two arrived) k)
arrivals-fit arrived froms tos Counting h = omega (arith, eqb-true arrived 0 (and_left (eqb arrived 0) (leb 1 tos) h))
arrivals-fit arrived froms tos Stopped h = one_of_two_lem arrived (and_right (eqb tos 2) (one_of_two arrived) h)

round-fits : (s : Settings) (r : Round) → round_possible s r ≡ true → r.arrived < 256
unfolding round_possible
round-fits s r h = omega (arith, arrivals-fit r.arrived (length (from s.n s.own)) (length (to s.n s.own)) r.phase h)

lead-times-fit : (t : LeadTimes) → lead_times_valid t ≡ true → LeadTimesFit t
lead-times-fit t h =
    let most = at_most t h in
    record { request = omega (arith, most.request); delivery = omega (arith, most.delivery); life = omega (arith, most.life) }

pub valid-fits : (g : Gateway) → Valid g → Ranged g → GatewayFits g
valid-fits g v r =
    let s = v.settings in
    record {
      header = record {
        settings = record {
          n = omega (arith, s.n);
          own = omega (arith, s.own, s.n);
          supplier = omega (arith, s.supplier, s.n);
          last = omega (arith, s.last);
          q = omega (arith, s.q);
          u = omega (arith, s.u);
          hours = lead-times-fit g.settings.hours s.hours;
        };
        state = r.state;
        agreed = r.agreed;
        round = record { arrived = round-fits g.settings g.round v.round; note = r.note };
        queued = omega (arith, s.q, v.queued);
        outstanding = omega (arith, s.u, v.sent);
      };
      queue = all_of g.queue (λ e m. record {
        message = message-fits g.settings _ e.message s (v.entries e m).message (r.queue e m).message;
        before = (r.queue e m).before;
      });
      outstanding = all_of g.outstanding (λ x m. record {
        message = message-fits g.settings _ x.message s (v.outstanding x
            m).message (r.outstanding x m);
      });
    }

-- and back
pub fits-ranged : (g : Gateway) → GatewayFits g → Ranged g
fits-ranged g f =
    record {
      state = f.header.state;
      agreed = f.header.agreed;
      note = f.header.round.note;
      queue = λ e m. let x = all-each f.queue e m in record {
        message = record {
          quantity = x.message.quantity;
          lamp = x.message.lamp;
        };
        before = x.before;
      };
      outstanding = λ e m. let x = all-each f.outstanding e m in record { quantity = x.message.quantity; lamp = x.message.lamp };
    }
