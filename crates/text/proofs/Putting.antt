-- How the digits of a number are put one behind the other, and how many there are.
use mathlib.Core.Path.{◌≡◌, ◌∙◌, ap}
use mathlib.Core.List.{List, [], ◌∷◌}
use Rattle.std.specs.Prelude.{Option, Some, None, IfSome, IfNone, unwrap_or}
use Prim.Native.Nat.{ℕ, suc, zero, ◌+◌, ◌*◌, ◌/◌, ◌%◌, ◌^◌, ◌≤◌, ◌<◌}
use native.Mathlib.Omega.{arith}
use native.Mathlib.Nat.{pow-succ'}
use native.Mathlib.Decide.{dec_lt}
use lib.ListN.{length, set, length-append}
use Rattle.buffer.specs.Slice.{write, Puts}
use Rattle.buffer.proofs.Putting.{puts-byte, puts-more, puts-length}
use Rattle.text.specs.Decimal.{decimal, digit, field}
use Rattle.text.proofs.Digits.{decimal-small, decimal-more}

pub length-small : (n : ℕ) → n < 10 → length (decimal n) ≡ 1
length-small n h = ap length (decimal-small n h)

pub length_more : (n : ℕ) → 10 ≤ n → length (decimal n) ≡ length (decimal (n / 10)) + 1
length_more n h = ap length (decimal-more n h) ∙ length-append (decimal (n / 10)) (digit (n % 10) ∷ [])

-- as many digits as the power of ten needs
pub length-within : (k n : ℕ) → n < 10 ^ suc k → (1 ≤ length (decimal n)) × (length (decimal n) ≤ suc k)
length-within zero n h = omega (arith, length-small n h)
length-within (suc k) n h = go (dec_lt n 10) (length-within k (n / 10))
  where
    go : Dec (n < 10) → (n / 10 < 10 ^ suc k → (1 ≤ length (decimal (n / 10))) × (length (decimal (n / 10)) ≤ suc k)) → (1 ≤ length (decimal
        n)) × (length (decimal n) ≤ suc (suc k))
    go (yes l) rest = omega (arith, length-small n l)
    go (no l) rest = omega (arith, length_more n (omega arith), rest (omega (arith, pow-succ' 10 (suc k))))

-- at least one
length-some : (bound n : ℕ) → n ≤ bound → 1 ≤ length (decimal n)
length-some zero n h = omega (arith, length-small n (omega arith))
length-some (suc bound) n h = go (dec_lt n 10)
  where
    go : Dec (n < 10) → 1 ≤ length (decimal n)
    go (yes l) = omega (arith, length-small n l)
    go (no l) = omega (arith, length_more n (omega arith))

-- a power of ten is at least one
power-some : (k : ℕ) → 1 ≤ 10 ^ k
power-some zero = omega arith
power-some (suc k) = omega (arith, pow-succ' 10 k, power-some k)

-- and no fewer
pub length-least : (k n : ℕ) → 10 ^ k ≤ n → suc k ≤ length (decimal n)
length-least zero n h = length-some n n (omega arith)
length-least (suc k) n h =
    omega (arith, length_more n (omega (arith, pow-succ' 10 k, power-some k)), length-least k (n / 10) (omega (arith, pow-succ' 10 k)))

-- the digits counted by the power of ten, which 0 has not
pub digits-counted : (n : ℕ) (o : Option ℕ) → n < 4294967296 → IfNone o (n ≡ 0) → IfSome o (λ k. 10 ^ k ≤ n) → IfSome o (λ k. n < 10 * 10 ^ k)
    → (unwrap_or o 0 + 1 ≡ length (decimal n)) × (1 ≤ unwrap_or o 0 + 1) × (unwrap_or o 0 + 1 ≤ 10)
digits-counted n None w z p q = omega (arith, length-small n (omega arith))
digits-counted n (Some k) w z p q =
    let at-most = length-within k n (omega (arith, pow-succ' 10 k)) in
    omega (arith, length-least k n p, length-within 9 n (omega arith))

module _ (m : List ℕ) (at n : ℕ) (room : at + length (decimal n) ≤ length m) where
  pub put_small : n < 10 → Puts at (decimal n) m (set m at (48 + n % 10)) (at + 1)
  put_small h =
      let e : n % 10 ≡ n = omega arith in
      rw (decimal-small n h, e) (puts-byte at (48 + n) m (omega (arith, length-small n h)))

  pub put-more : {next : ℕ} {now : List ℕ} → 10 ≤ n → Puts at (decimal (n / 10)) m now next → Puts at (decimal n) m (set now next (48 + n % 10)) (next + 1)
  put-more {next} {now} h a =
      let l : length (decimal n) ≡ length (decimal (n / 10)) + 1 = length_more n h in
      let fits : at + length (decimal (n / 10)) ≤ length m = omega arith in
      rw (decimal-more n h) (puts-more fits a (puts-byte next (48 + n % 10) now (omega (arith, puts-length fits a))))

-- a number has at most ten digits
pub few-digits : (n : ℕ) → n < 4294967296 → length (decimal n) ≤ 10
few-digits n h = (length-within 9 n (omega arith)).1

-- a number and a blank
pub field_put : (at n : ℕ) (m : List ℕ) {p : ℕ} {now : List ℕ} → at + 11 ≤ length m → n < 4294967296
    → (p ≡ at + length (decimal n)) × (now ≡ write at (decimal n) m) → Puts at (field n) m (set now p 32) (p + 1)
unfolding field
field_put at n m {p} {now} room h e =
    let d = few-digits n h in
    let digits : Puts at (decimal n) m now p = record { position = e.0; output = e.1 } in
    let l = puts-length (omega arith) digits in
    puts-more (omega arith) digits (puts-byte p 32 now (omega (arith, e.0)))
