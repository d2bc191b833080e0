-- What is proved of these definitions beside the contracts.
use Rattle.std.specs.Prelude.{◌≡◌, ℕ, ◌<◌, ◌≤◌, [], ◌∷◌, length}
use Rattle.model.specs.Doing.{sent}
use Rattle.model.specs.EventOrder.{key, compared}
use Rattle.model.specs.declared.Kind.TheVariants.{Failure, Request, Delivery, Restock}
use Rattle.model.specs.declared.Message.{Message}
use Rattle.model.specs.declared.State.{State}
use Rattle.model.specs.declared.LeadTimes.{LeadTimes}
use Rattle.model.specs.declared.Site.{Site}
use Rattle.std.specs.declared.cmp.Ordering.TheVariants.{Less, Equal}
use Rattle.std.specs.Ordering.{ordering_reverse}

-- the event order is total, antisymmetric and transitive, and only equal messages are the same in it
pub record EventOrderLaws : Type 0 where
  pub reflexive : (a : Message) → compared (key a) (key a) ≡ Equal
  pub same : (a b : Message) → compared (key a) (key b) ≡ Equal → a ≡ b
  pub flips : (a b : Message) → compared (key b) (key a) ≡ ordering_reverse (compared (key a) (key b))
  pub transitive : (a b c : Message) → compared (key a) (key b) ≡ Less → compared (key b) (key c) ≡ Less → compared (key a) (key c) ≡ Less
  pub injective : (a b : Message) → key a ≡ key b → a ≡ b

-- the hour weighs most; in one hour Failures come first, then Restocks, then Requests, then Deliveries, whatever their other fields
pub record HoursAndKinds (a b : Message) : Type 0 where
  pub hour : a.hour < b.hour → compared (key a) (key b) ≡ Less
  pub failure_restock : {i q : ℕ} → a.hour ≡ b.hour → a.kind ≡ Failure i → b.kind ≡ Restock q → compared (key a) (key b) ≡ Less
  pub failure_request : {i j : ℕ} → a.hour ≡ b.hour → a.kind ≡ Failure i → b.kind ≡ Request j → compared (key a) (key b) ≡ Less
  pub failure_delivery : {i j : ℕ} → a.hour ≡ b.hour → a.kind ≡ Failure i → b.kind ≡ Delivery j → compared (key a) (key b) ≡ Less
  pub restock_request : {q i : ℕ} → a.hour ≡ b.hour → a.kind ≡ Restock q → b.kind ≡ Request i → compared (key a) (key b) ≡ Less
  pub restock_delivery : {q i : ℕ} → a.hour ≡ b.hour → a.kind ≡ Restock q → b.kind ≡ Delivery i → compared (key a) (key b) ≡ Less
  pub request_delivery : {i j : ℕ} → a.hour ≡ b.hour → a.kind ≡ Request i → b.kind ≡ Delivery j → compared (key a) (key b) ≡ Less

-- each of the hours is at least 1
pub record AtLeastOne (hours : LeadTimes) : Type 0 where
  pub request : 1 ≤ hours.request
  pub delivery : 1 ≤ hours.delivery
  pub life : 1 ≤ hours.life

-- at most one message is sent, from this gateway, not past the last hour and, where each of its hours is at least 1, later than its cause
pub record SendingLaws (site : Site) (s : State) (m : Message) : Type 0 where
  pub one : length (sent site s m) ≤ 1
  pub later : AtLeastOne site.hours → (x : Message) → sent site s m ≡ x ∷ [] → m.hour < x.hour
  pub inside : (x : Message) → sent site s m ≡ x ∷ [] → x.hour ≤ site.last
  pub source : (x : Message) → sent site s m ≡ x ∷ [] → x.from ≡ site.own
