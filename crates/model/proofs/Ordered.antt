-- The laws of the event order: total, antisymmetric, transitive, and equal only for equal messages; the order of hours and kinds.
use mathlib.Core.Path.{◌≡◌, refl, sym, ◌∙◌, ap}
use Prim.Native.Nat.{ℕ, zero, suc, ◌<◌}
use native.Mathlib.Omega.{arith}
use mathlib.Core.Bool.{cond}
use mathlib.Core.List.{List, [], ◌∷◌, ◌++◌}
use lib.Dec.{eqb}
use lib.ListN.{length, length-append, take, drop}
use lib.Seq.{take_at, drop_at}
use Rattle.std.specs.declared.cmp.Ordering.TheVariants.{Less, Equal}
use Rattle.std.specs.Ordering.{is_eq, nat_cmp}
use Rattle.std.specs.Cmp.{IsTotalOrder, nat_cmp_total, unsigned_ties, unsigned_Decides, tied_itself}
use Rattle.std.specs.Cmp.Lexicographic.{slice_cmp, lists_total, lists_ties, pointwise_decides}
use Rattle.model.specs.Messages.{kind_number, origin_of, quantity_of, kind_of}
use Rattle.model.specs.EventOrder.{rank, key, compared}
use Rattle.model.specs.Claims.{EventOrderLaws, HoursAndKinds}
use Rattle.model.specs.declared.Kind.{Kind}
use Rattle.model.specs.declared.Kind.TheVariants.{Failure, Request, Delivery, Restock, Start, Lvt, Update}
use Rattle.model.specs.declared.Message.{Message}
use Rattle.model.proofs.Comparing.{less, same-number}

-- lists of numbers
lists : IsTotalOrder (slice_cmp nat_cmp)
lists = lists_total nat_cmp_total

list-same : (xs ys : List ℕ) → compared xs ys ≡ Equal → xs ≡ ys
unfolding compared
list-same xs ys e = (pointwise_decides unsigned_Decides xs ys).0 (lists_ties nat_cmp unsigned_ties xs ys ∙ ap is_eq e)

-- a kind by its number and fields
pub kind-again : (k : Kind) → kind_of (kind_number k) (origin_of k) (quantity_of k) ≡ k
kind-again (Failure origin) = refl
kind-again (Request origin) = refl
kind-again (Delivery origin) = refl
kind-again (Restock quantity) = refl
kind-again Start = refl
kind-again Lvt = refl
kind-again Update = refl

-- the number of the kind with rank r, of those with numbers below n
number_below : ℕ → ℕ → ℕ
number_below zero r = 0
number_below (suc n) r = cond (eqb r (rank (kind_of n 0 0))) n (number_below n r)

number-again : (k : Kind) → number_below 7 (rank k) ≡ kind_number k
unfolding number_below
number-again (Failure origin) = refl
number-again (Request origin) = refl
number-again (Delivery origin) = refl
number-again (Restock quantity) = refl
number-again Start = refl
number-again Lvt = refl
number-again Update = refl

-- no two kinds have one rank
pub rank-injective : (j k : Kind) → rank j ≡ rank k → kind_number j ≡ kind_number k
rank-injective j k e = sym (number-again j) ∙ ap (number_below 7) e ∙ number-again k

-- lists joined alike, with ends of one length
module _ (xs ys us vs : List ℕ) (e : xs ++ us ≡ ys ++ vs) (ends : length us ≡ length vs) where
  same_length : length ys ≡ length xs
  same_length = let l = ap length e in omega (arith, simp length-append at l)

  same-front : xs ≡ ys
  same-front = sym (take_at xs us (length xs) refl) ∙ ap (take (length xs)) e ∙ take_at ys vs (length xs) same_length

  same_back : us ≡ vs
  same_back = sym (drop_at xs us (length xs) refl) ∙ ap (drop (length xs)) e ∙ drop_at ys vs (length xs) same_length

-- equal keys are equal messages
pub key-injective : (a b : Message) → key a ≡ key b → a ≡ b
unfolding key
key-injective a b e =
    λ i. record { hour = hour i; from = from i; to = to i; kind = kind i; lamp = lamp i }
  where
    back : Message → List ℕ
    back m = quantity_of m.kind ∷ m.from ∷ m.to ∷ []

    rest : a.lamp ++ back a ≡ b.lamp ++ back b
    rest = cc

    lamp : a.lamp ≡ b.lamp
    lamp = same-front a.lamp b.lamp (back a) (back b) rest refl

    ends : back a ≡ back b
    ends = same_back a.lamp b.lamp (back a) (back b) rest refl

    hour : a.hour ≡ b.hour
    hour = cc

    from : a.from ≡ b.from
    from = cc ends

    to : a.to ≡ b.to
    to = cc ends

    rankings : rank a.kind ≡ rank b.kind
    rankings = cc

    kind : a.kind ≡ b.kind
    kind = cc (ends, rank-injective a.kind b.kind rankings, kind-again a.kind, kind-again b.kind)

pub event-order : EventOrderLaws
unfolding compared
event-order =
    record {
      reflexive = λ a. tied_itself lists (key a);
      same = λ a b e. key-injective a b (list-same (key a) (key b) e);
      flips = λ a b. lists.antisymm (key b) (key a);
      transitive = λ a b c. lists.trans (key a) (key b) (key c);
      injective = key-injective;
    }

-- the hour decides, and in one hour the rank
module _ (a b : Message) where
  hour-decides : a.hour < b.hour → compared (key a) (key b) ≡ Less
  unfolding key compared
  hour-decides h = rw (less a.hour b.hour h)

  rank-decides : a.hour ≡ b.hour → rank a.kind < rank b.kind → compared (key a) (key b) ≡ Less
  unfolding key compared
  rank-decides e h = rw (same-number a.hour b.hour e, less (rank a.kind) (rank b.kind) h)

  -- two kinds, by their ranks
  kinds-decide : {j k : Kind} → rank j < rank k → a.hour ≡ b.hour → a.kind ≡ j → b.kind ≡ k → compared (key a) (key b) ≡ Less
  kinds-decide h e p q = rank-decides e (omega (arith, h, ap rank p, ap rank q))

  pub hours-and-kinds : HoursAndKinds a b
  hours-and-kinds =
      record {
        hour = hour-decides;
        failure_restock = kinds-decide (omega arith);
        failure_request = kinds-decide (omega arith);
        failure_delivery = kinds-decide (omega arith);
        restock_request = kinds-decide (omega arith);
        restock_delivery = kinds-decide (omega arith);
        request_delivery = kinds-decide (omega arith);
      }
