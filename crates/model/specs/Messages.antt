-- A message's fields. A field that its kind lacks counts as zero.
use Rattle.std.specs.Prelude.{ℕ, cond, eqb}
use Rattle.model.specs.declared.Kind.{Kind}
use Rattle.model.specs.declared.Kind.TheVariants.{Failure, Request, Delivery, Restock, Start, Lvt, Update}

-- the kind's number
abbrev pub kind_number : Kind → ℕ
kind_number (Failure origin) = 0
kind_number (Request origin) = 1
kind_number (Delivery origin) = 2
kind_number (Restock quantity) = 3
kind_number Start = 4
kind_number Lvt = 5
kind_number Update = 6

-- the gateway whose lamp it is about
abbrev pub origin_of : Kind → ℕ
origin_of (Failure origin) = origin
origin_of (Request origin) = origin
origin_of (Delivery origin) = origin
origin_of (Restock quantity) = 0
origin_of Start = 0
origin_of Lvt = 0
origin_of Update = 0

-- the drivers that come in
abbrev pub quantity_of : Kind → ℕ
quantity_of (Failure origin) = 0
quantity_of (Request origin) = 0
quantity_of (Delivery origin) = 0
quantity_of (Restock quantity) = quantity
quantity_of Start = 0
quantity_of Lvt = 0
quantity_of Update = 0

-- the kind with that number and those fields; only the numbers 0 to 6 are kinds
abbrev pub kind_of : ℕ → ℕ → ℕ → Kind
kind_of number origin quantity =
    cond (eqb number 0) (Failure origin)
    (cond (eqb number 1) (Request origin)
    (cond (eqb number 2) (Delivery origin)
    (cond (eqb number 3) (Restock quantity)
    (cond (eqb number 4) Start
    (cond (eqb number 5) Lvt Update)))))
