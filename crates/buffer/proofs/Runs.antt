-- Laws of numbers of one width put one behind the other.
use mathlib.Core.Path.{◌≡◌, ◌∙◌, ap}
use Prim.Native.Nat.{ℕ, ◌+◌, ◌*◌, ◌≤◌, ◌<◌}
use native.Mathlib.Numerals.{add-one}
use native.Mathlib.Omega.{arith}
use native.Mathlib.Nat.{mul-le-mul_left}
use mathlib.Core.List.{List, [], ◌∷◌, ◌++◌}
use lib.ListN.{length, take, get_or, length-append}
use lib.Seq.{take-suc, length-take-le}
use Rattle.std.specs.List.{flat_map}
use Rattle.std.proofs.lemmas.Grind.{flat_map-append}
use Rattle.std.proofs.lemmas.List.{append-nil}
use Rattle.buffer.specs.Slice.{write}
use Rattle.buffer.proofs.Writes.{write-join}

module _ {A : Type 0} (f : A → List ℕ) (w : ℕ) (each : (x : A) → length (f x) ≡ w) where
  pub length-all : (xs : List A) → length (flat_map f xs) ≡ w * length xs
  length-all [] = omega arith
  length-all (x ∷ xs) = simp (length-append, each, length-all xs) (omega arith)

  -- one more number behind those that are put
  pub write-next : (at i : ℕ) (xs : List A) (x : A) (m : List ℕ) {now : List ℕ} → i < length xs → at + w * length xs ≤ length m → x ≡ get_or xs i x
      → now ≡ write at (flat_map f (take i xs)) m → write (at + w * i) (f x) now ≡ write at (flat_map f (take (i + 1) xs)) m
  write-next at i xs x m h fits e p =
      let size : length (flat_map f (take i xs)) ≡ w * i = length-all (take i xs) ∙ ap (λ (n : ℕ). w * n) (length-take-le i xs (omega arith)) in
      let more : flat_map f (take (i + 1) xs) ≡ flat_map f (take i xs) ++ f x =
      rw (add-one, take-suc xs i x h, ← e) (flat_map-append f (take i xs) (x ∷ []) ∙ ap (λ (l : List ℕ). flat_map f (take i xs) ++ l) (append-nil (f x))) in
      let below : w * i ≤ w * length xs = mul-le-mul_left w (omega arith) in
      rw (p, more, ← size) (write-join at (flat_map f (take i xs)) (f x) m (omega arith))
