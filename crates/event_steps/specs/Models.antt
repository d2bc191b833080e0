-- Messages, event order and the model: all that the theory knows of what is forecast.
use Rattle.std.specs.Prelude.{List, [], ◌∷◌, ◌≡◌, length, ℕ, ◌≤◌, ◌<◌}
use Rattle.lists.specs.Lists.{All}

-- The first number of a key, zero if there is none.
unfoldable pub first : List ℕ → ℕ
first [] = 0
first (a ∷ k) = a

-- `KeyNotLater k l`: the key k is not later than l. Keys are compared number by number, the first numbers first.
pub data KeyNotLater : List ℕ → List ℕ → Type 0 where
  ended : {l : List ℕ} → KeyNotLater [] l
  less : {a b : ℕ} {k l : List ℕ} → a < b → KeyNotLater (a ∷ k) (b ∷ l)
  same : {a b : ℕ} {k l : List ℕ} → a ≡ b → KeyNotLater k l → KeyNotLater (a ∷ k) (b ∷ l)

-- The gateways are 0 to `last`. A message has a key, whose first number is its hour, and the gateways that it goes from and to.
pub record Model : Type 1 where
  pub Message : Type 0
  pub State : Type 0
  pub key : Message → List ℕ
  pub from : Message → ℕ
  pub to : Message → ℕ
  pub last : ℕ
  -- A number above every hour: nothing due.
  pub never : ℕ
  -- The state and the messages with which a gateway begins.
  pub start : ℕ → State
  pub opening : ℕ → List Message
  -- Doing a message at a gateway in a state: the state afterwards, and what is sent.
  pub step : ℕ → State → Message → State
  pub sends : ℕ → State → Message → List Message
  -- Messages with equal keys are equal.
  pub key-injective : (x y : Message) → key x ≡ key y → x ≡ y

module _ (M : Model) where
  open M use {Message, State, key, from, to, last, never, start, opening, step, sends}

  -- What is asked of a model: of the gateways 0 to `last`, and of no other number.
  pub record ModelLaws : Type 0 where
    -- Openings are addressed to their gateway and have an hour.
    pub opening-here : (i : ℕ) → i ≤ last → All (λ y. to y ≡ i) (opening i)
    pub opening-due : (i : ℕ) → i ≤ last → All (λ y. first (key y) < never) (opening i)
    -- At most one message is sent. It goes from the gateway that sends it to one of the gateways, and is due later than its cause.
    pub sends-one : (i : ℕ) → i ≤ last → (s : State) (m : Message) → length (sends i s m) ≤ 1
    pub sends-from : (i : ℕ) → i ≤ last → (s : State) (m : Message) → All (λ y. from y ≡ i) (sends i s m)
    pub sends-inside : (i : ℕ) → i ≤ last → (s : State) (m : Message) → All (λ y. to y ≤ last) (sends i s m)
    pub sends-later : (i : ℕ) → i ≤ last → (s : State) (m : Message) → All (λ y. first (key m) < first (key y)) (sends i s m)
    pub sends-due : (i : ℕ) → i ≤ last → (s : State) (m : Message) → All (λ y. first (key y) < never) (sends i s m)

  -- A message's hour.
  unfoldable pub hour : Message → ℕ
  hour m = first (key m)

  -- Event order: m is not later than n.
  abbrev pub NotLater : Message → Message → Type 0
  NotLater m n = KeyNotLater (key m) (key n)

  -- Gateway i's state after a history. Histories have the newest event in front.
  unfoldable pub state_after : ℕ → List Message → State
  state_after i [] = start i
  state_after i (m ∷ h) = step i (state_after i h) m

  -- What gateway i sends in doing m after a history.
  unfoldable pub sent_by : ℕ → List Message → Message → List Message
  sent_by i h m = sends i (state_after i h) m
