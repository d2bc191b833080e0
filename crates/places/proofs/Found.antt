-- What a search answers, and what its caller knows of the place.
use Rattle.std.proofs.Common.{◌≡◌, ℕ, ◌+◌, ◌-◌, ◌<◌, ◌≤◌, Option, Some, None, arith}
use Rattle.std.specs.Option.{unwrap_or}
use Rattle.places.specs.Inside.Searching.{place_below, place_before}

-- the answer of a forward search
pub at-place : {count k whole : ℕ} → k ≡ whole → k < count → Some k ≡ place_below count whole
at-place e h = grind arith

-- what is known of a place that was found, and where none was
pub place-found : {k : ℕ} (count whole : ℕ) → Some k ≡ place_below count whole → k ≡ whole
place-found count whole e = grind arith

pub place-inside : {k : ℕ} (count whole : ℕ) → Some k ≡ place_below count whole → k < count
place-inside count whole e = grind arith

pub place-none : (count whole : ℕ) → None ≡ place_below count whole → count ≤ whole
place-none count whole e = grind arith

-- the place, or the one behind all
pub place-or-behind : {r : ℕ} {found : Option ℕ} (count whole : ℕ) → r ≡ unwrap_or found count → found ≡ place_below count whole → whole ≤
    count → r ≡ whole
place-or-behind count whole e f h = grind arith

-- the answer of a backward search
pub before-place : {left whole : ℕ} → left ≡ whole → 0 < left → Some (left - 1) ≡ place_before whole
before-place e h = grind arith

pub before-none : {whole : ℕ} → 0 ≡ whole → None ≡ place_before whole
before-none e = grind arith

-- what is known of a place that was found, and where none was
pub place-behind : {k : ℕ} (behind : ℕ) → Some k ≡ place_before behind → k + 1 ≡ behind
place-behind behind e = grind arith

pub none-behind : (behind : ℕ) → None ≡ place_before behind → behind ≡ 0
none-behind behind e = grind arith
