-- The earliest unprocessed plain message, by its position in the queue.
use mathlib.Core.Path.{◌≡◌, refl, ap}
use mathlib.Core.Bool.{Bool, true, false, cond}
use mathlib.Core.List.{List, [], ◌∷◌, ◌++◌}
use Prim.Native.Nat.{ℕ, suc, ◌+◌, ◌≤◌, ◌<◌}
use native.Mathlib.Nat.{zero-add}
use native.Mathlib.Omega.{arith}
use lib.ListN.{length, take, drop, get_or}
use Rattle.lists.specs.Lists.{tally}
use Rattle.lists.specs.Inside.Positions.{first_where}
use Rattle.model.specs.declared.Message.{Message}
use Rattle.model.specs.declared.State.{State}
use Rattle.memory.specs.Validity.{is_pending, brings, still_brings}
use Rattle.memory.specs.declared.Entry.{Entry}
use Rattle.memory.specs.declared.Mark.TheVariants.{Processed}
use Rattle.gateway.specs.Working.{pending_of, processed_next}

-- its position, or the length of the queue where there is none
abbrev pub next : List Entry → ℕ
next es = first_where is_pending es

pub none-pending : (es : List Entry) → length es ≤ next es → pending_of es ≡ []
unfolding first_where pending_of
none-pending [] h = refl
none-pending (e ∷ es) h = here (is_pending e) h (none-pending es)
  where
    here : (b : Bool) → suc (length es) ≤ cond b 0 (suc (next es)) → (length es ≤ next es → pending_of es ≡ []) → cond b (e.message ∷
        pending_of es) (pending_of es) ≡ []
    here true h r = absurd (omega arith)
    here false h r = r (omega arith)

pub next-message : (es : List Entry) (d : Entry) → next es < length es → (rest : List Message) × (pending_of es ≡ (get_or es (next es) d).message ∷ rest)
unfolding first_where pending_of
next-message [] d h = absurd (omega arith)
next-message (e ∷ es) d h = here (is_pending e) h (next-message es d)
  where
    here : (b : Bool) → cond b 0 (suc (next es)) < suc (length es)
        → (next es < length es → (rest : List Message) × (pending_of es ≡ (get_or es (next es) d).message ∷ rest))
        → (rest : List Message) × (cond b (e.message ∷ pending_of es) (pending_of es) ≡ (get_or (e ∷ es) (cond b 0 (suc (next es))) d).message ∷ rest)
    here true h r = (pending_of es, refl)
    here false h r = r (omega arith)

-- what it brings is among what is still to be brought
pub next-brings : (es : List Entry) (d : Entry) → next es < length es → brings (get_or es (next es) d) ≤ tally still_brings es
unfolding first_where tally
next-brings [] d h = absurd (omega arith)
next-brings (e ∷ es) d h = here (is_pending e) h (next-brings es d)
  where
    here : (b : Bool) → cond b 0 (suc (next es)) < suc (length es) → (next es < length es → brings (get_or es (next es) d) ≤ tally still_brings es)
        → brings (get_or (e ∷ es) (cond b 0 (suc (next es))) d) ≤ cond b (brings e) 0 + tally still_brings es
    here true h r = omega arith
    here false h r = rw zero-add (r (omega arith))

-- the queue after it is processed
module _ (s : State) where
  -- an entry that is processed in that state
  abbrev pub processed : Entry → Entry
  processed e = record { message = e.message; mark = Processed; before = s }

  pub processed-at : (es : List Entry) (d : Entry) → next es < length es
      → processed_next s es ≡ take (next es) es ++ (processed (get_or es (next es) d) ∷ drop (suc (next es)) es)
  unfolding first_where processed_next
  processed-at [] d h = absurd (omega arith)
  processed-at (e ∷ es) d h = here (is_pending e) h (processed-at es d)
    where
      here : (b : Bool) → cond b 0 (suc (next es)) < suc (length es)
          → (next es < length es → processed_next s es ≡ take (next es) es ++ (processed (get_or es (next es) d) ∷ drop (suc (next es)) es))
          → cond b (processed e ∷ es) (e ∷ processed_next s es)
          ≡ take (cond b 0 (suc (next es))) (e ∷ es) ++ (processed (get_or (e ∷ es) (cond b 0 (suc (next es))) d) ∷ drop (suc (cond b 0 (suc
          (next es)))) (e ∷ es))
      here true h r = refl
      here false h r = ap (◌∷◌ e) (r (omega arith))

  pub processed-length : (es : List Entry) → length (processed_next s es) ≡ length es
  unfolding processed_next
  processed-length [] = refl
  processed-length (e ∷ es) = here (is_pending e) (processed-length es)
    where
      here : (b : Bool) → length (processed_next s es) ≡ length es → length (cond b (processed e ∷ es) (e ∷ processed_next s es)) ≡ suc (length es)
      here true r = refl
      here false r = ap suc r

  -- the next one stands behind it
  pub next-behind : (es : List Entry) → next es < length es
      → next (processed_next s es) ≡ suc (next es) + next (drop (suc (next es)) (processed_next s es))
  unfolding first_where processed_next
  next-behind [] h = absurd (omega arith)
  next-behind (e ∷ es) h = here (is_pending e) refl h (next-behind es)
    where
      here : (b : Bool) → is_pending e ≡ b → cond b 0 (suc (next es)) < suc (length es)
          → (next es < length es → next (processed_next s es) ≡ suc (next es) + next (drop (suc (next es)) (processed_next s es)))
          → next (cond b (processed e ∷ es) (e ∷ processed_next s es))
          ≡ suc (cond b 0 (suc (next es))) + next (drop (suc (cond b 0 (suc (next es)))) (cond b (processed e ∷ es) (e ∷ processed_next s es)))
      here true i h r = omega arith
      here false i h r = rw i (omega (arith, r (omega arith)))
