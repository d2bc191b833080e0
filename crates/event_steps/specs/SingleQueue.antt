-- The single queue: a plain machine with one list of messages. It is fed the opening states and lists and nothing more.
use Rattle.std.specs.Prelude.{List, [], ◌∷◌, ◌++◌, ◌≡◌, ℕ, zero, suc, ◌+◌, ◌-◌, ltb, eqb, Bool, true, false, cond}
use Rattle.lists.specs.Families.{change, together}
use Rattle.event_steps.specs.Models.{Model, hour, sent_by}

-- Whether a key is not later than another: `KeyNotLater` as a test.
unfoldable pub is_not_later : List ℕ → List ℕ → Bool
is_not_later [] l = true
is_not_later (a ∷ k) [] = false
is_not_later (a ∷ k) (b ∷ l) = cond (ltb a b) true (cond (eqb a b) (is_not_later k l) false)

-- Its list of messages, and for each gateway what was done there, the newest in front.
pub record Queue (Message : Type 0) : Type 0 where
  pub list : List Message
  pub done : ℕ → List Message

module _ (M : Model) where
  open M use {Message, key, to, last, never, opening}

  -- The first of m and l in event order.
  unfoldable pub earliest : Message → List Message → Message
  earliest m [] = m
  earliest m (n ∷ l) = let e = earliest n l in cond (is_not_later (key m) (key e)) m e

  -- m and l without the first of them.
  unfoldable pub others : Message → List Message → List Message
  others m [] = []
  others m (n ∷ l) = let r = m ∷ others n l in cond (is_not_later (key m) (key (earliest n l))) (n ∷ l) r

  -- At first all opening lists together, and nothing is done.
  unfoldable pub opening_queue : Queue Message
  opening_queue = record { list = together (suc last) opening; done = λ i. [] }

  -- The gateway in its to does m. What is sent joins the list.
  unfoldable pub do_next : Message → List Message → (ℕ → List Message) → Queue Message
  do_next m rest h = record { list = sent_by M (to m) (h (to m)) m ++ rest; done = change (to m) (m ∷ h (to m)) h }

  -- A step takes the first message in event order out of the list and does it. With the list empty it has ended.
  unfoldable pub next : List Message → (ℕ → List Message) → Queue Message
  next [] h = record { list = []; done = h }
  next (m ∷ l) h = do_next (earliest m l) (others m l) h

  unfoldable pub steps : ℕ → Queue Message → Queue Message
  steps zero q = q
  steps (suc n) q = steps n (next q.list q.done)

  -- How many steps are enough: a message leaves the list, and what it sends is later.
  unfoldable pub measure : List Message → ℕ
  measure [] = 0
  measure (m ∷ l) = (never - hour M m) + measure l

  -- What the single queue does at gateway i, the newest in front.
  unfoldable pub single_history : ℕ → List Message
  single_history i = (steps (measure opening_queue.list) opening_queue).done i

-- c is what was first of h: its beginning in time, as both have the newest event in front.
abbrev pub EarlierPart : {A : Type 0} → List A → List A → Type 0
EarlierPart {A} c h = (later : List A) × (h ≡ later ++ c)
