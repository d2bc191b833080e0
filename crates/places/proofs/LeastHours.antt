-- Laws of the least hour in places that are read one after the other.
use mathlib.Core.Path.{◌≡◌, refl, sym, ◌∙◌, ap}
use mathlib.Core.Bool.{Bool, true, false, cond}
use mathlib.Core.List.{List, [], ◌∷◌}
use Prim.Native.Nat.{ℕ, ◌+◌, ◌-◌, ◌*◌, ◌≤◌, ◌<◌, min}
use native.Mathlib.Nat.{add-zero, sub-zero, mul-zero}
use native.Mathlib.Omega.{arith}
use Rattle.buffer.specs.Slice.{part}
use Rattle.frame.specs.Limits.{nothing_due}
use Rattle.memory.specs.Codec.{places_at}
use Rattle.memory.specs.Validity.{is_processed}
use Rattle.memory.specs.declared.Entry.{Entry}
use Rattle.memory.specs.declared.Sent.{Sent}
use Rattle.gateway.specs.Rounds.{least_outstanding, least_queued}
use Rattle.places.specs.Inside.Searching.{due_hour, least_of}
use Rattle.places.proofs.Positions.{more}

least-bound : {A : Type 0} (due : A → ℕ) (xs : List A) → least_of due xs ≤ nothing_due
unfolding least_of
least-bound due [] = omega arith
least-bound due (x ∷ xs) = let h = least-bound due xs in omega arith

-- both least hours are of that form
pub sent-least : (xs : List Sent) → least_outstanding xs ≡ least_of (λ x. x.message.hour) xs
unfolding least_of least_outstanding
sent-least [] = refl
sent-least (x ∷ xs) = ap (min x.message.hour) (sent-least xs)

pub queued-least : (es : List Entry) → least_queued es ≡ least_of due_hour es
unfolding least_of least_queued
queued-least [] = refl
queued-least (e ∷ es) = here (is_processed e) (queued-least es) (least-bound due_hour es)
  where
    here : (b : Bool) → least_queued es ≡ least_of due_hour es → least_of due_hour es ≤ nothing_due
        → cond b (least_queued es) (min e.message.hour (least_queued es)) ≡ min (cond b nothing_due e.message.hour) (least_of due_hour es)
    here true r h = omega arith
    here false r h = omega arith

-- a forward pass, by the least so far and what is left
module _ {A : Type 0} (decode : List ℕ → A) (due : A → ℕ) (size base : ℕ) (m : List ℕ) (count whole : ℕ) where
  abbrev pub Lowering : ℕ → ℕ → Type 0
  Lowering i least = whole ≡ min least (least_of due (places_at decode size m (base + size * i) (count - i)))

  pub least_start : whole ≡ least_of due (places_at decode size m base count) → Lowering 0 4294967295
  least_start e = let h = least-bound due (places_at decode size m base count) in e ∙ rw (mul-zero, add-zero, sub-zero) (omega arith)

  pub least-turn : (i least : ℕ) {x : A} {d next : ℕ} → i < count → Lowering i least → x ≡ decode (part m (base + size * i) size) → d ≡ due
      x → next ≡ min least d → Lowering (i + 1) next
  unfolding least_of
  least-turn i least {x} {d} {next} h l read e n =
      let same : d ≡ due (decode (part m (base + size * i) size)) = cc in
      l ∙ rw (more decode size base m count i h, n, same) (omega arith)

  pub least-end : (i least : ℕ) → count ≤ i → least ≤ 4294967295 → Lowering i least → least ≡ whole
  unfolding least_of places_at
  least-end i least h k l = let e : count - i ≡ 0 = omega arith in sym (l ∙ rw e (omega arith))
