-- The reader's tests, a law for each branch of the code that makes them.
use mathlib.Core.Path.{◌≡◌, refl, sym, ◌∙◌, ap}
use Prim.Native.Nat.{ℕ, zero, suc, ◌<◌, ◌≤◌}
use mathlib.Core.Bool.{Bool, true, false, not}
use native.Mathlib.Omega.{arith}
use lib.Dec.{eqb}
use lib.ListN.{length, get_or}
use mathlib.Core.List.{List}
use borrow.Author.Tests.{le-leb, lt-leb, eq-eqb, ne_eqb, not-true, not-false}
use Rattle.frame.specs.Layout.{whole_length}
use Rattle.frame.specs.Kinds.{map_of_kind, sense_of}
use Rattle.frame.specs.Writing.{lamp_fits, gateways_agree}
use Rattle.std.specs.Prelude.{Result, Ok, Err}
use Rattle.frame.specs.Reasons.{map_fits, sense_fits, fields_of, frame_of, fields_reading, reading}
use Rattle.frame.specs.declared.Sense.TheVariants.{Plain}
use Rattle.frame.specs.declared.Frame.{Frame}
use Rattle.frame.specs.declared.forms.FormError.{FormError}
use Rattle.frame.specs.declared.forms.FormError.TheVariants.{TooShort, WrongMap, WrongLength, WrongSense, WrongLamp, WrongGateways}
use Rattle.frame.specs.declared.Fields.{Fields}

pub sense-last : (n : ℕ) → (n ≡ 1 → ⊥) → (n ≡ 2 → ⊥) → (n ≡ 3 → ⊥) → Plain ≡ sense_of n
sense-last n a b c = rw (ne_eqb n 1 a, ne_eqb n 2 b, ne_eqb n 3 c)

-- a kind with a lamp has the map 63
pub lamp-map : (kind : ℕ) → kind ≤ 2 → map_of_kind kind ≡ 63
unfolding map_of_kind
lamp-map zero h = refl
lamp-map (suc zero) h = refl
lamp-map (suc (suc zero)) h = refl
lamp-map (suc (suc (suc kind))) h = absurd (omega arith)

-- the last three reasons, each with the tests before it passed
module _ (map : ℕ) (v : Fields) {ok : Bool} (e : ok ≡ sense_fits map v.sense) where
  pub wrong-sense : not ok ≡ true → Err WrongSense ≡ fields_reading map v
  unfolding fields_reading
  wrong-sense h = rw (sym e ∙ not-true ok h)

  module _ (h : not ok ≡ false) {f : Frame} (g : f ≡ frame_of v) {lamp : Bool} (l : lamp ≡ lamp_fits f.message) where
    lamp-test : lamp ≡ lamp_fits (frame_of v).message
    lamp-test = l ∙ ap (λ (x : Frame). lamp_fits x.message) g

    pub wrong-lamp : not lamp ≡ true → Err WrongLamp ≡ fields_reading map v
    unfolding fields_reading
    wrong-lamp k = rw (sym e ∙ not-false ok h, sym lamp-test ∙ not-true lamp k)

    module _ (k : not lamp ≡ false) {agree : Bool} (a : agree ≡ gateways_agree f.message.from f.message.to f.message.kind) where
      gateways-test : agree ≡ gateways_agree (frame_of v).message.from (frame_of v).message.to (frame_of v).message.kind
      gateways-test = a ∙ ap (λ (x : Frame). gateways_agree x.message.from x.message.to x.message.kind) g

      pub wrong-gateways : not agree ≡ true → Err WrongGateways ≡ fields_reading map v
      unfolding fields_reading
      wrong-gateways b = rw (sym e ∙ not-false ok h, sym lamp-test ∙ not-false lamp k, sym gateways-test ∙ not-true agree b)

      pub all_right : not agree ≡ false → Ok f ≡ fields_reading map v
      unfolding fields_reading
      all_right b = rw (sym e ∙ not-false ok h, sym lamp-test ∙ not-false lamp k, sym gateways-test ∙ not-false agree b) (ap Ok g)

-- the first three reasons, and then the others
module _ (s : List ℕ) where
  pub too_short : length s < 2 → Err TooShort ≡ reading s
  unfolding reading
  too_short h = rw (lt-leb 2 (length s) h)

  module _ (h : 2 ≤ length s) {fits : Bool} (e : fits ≡ map_fits (get_or s 0 0) (get_or s 1 0)) where
    pub wrong-map : not fits ≡ true → Err WrongMap ≡ reading s
    unfolding reading
    wrong-map k = rw (le-leb 2 (length s) h, sym e ∙ not-true fits k)

    module _ (k : not fits ≡ false) {n : ℕ} (l : n ≡ whole_length (get_or s 0 0)) where
      pub wrong-length : (length s ≡ n → ⊥) → Err WrongLength ≡ reading s
      unfolding reading
      wrong-length d =
          let no-match : eqb (length s) (whole_length (get_or s 0 0)) ≡ false = ne_eqb _ _ (λ p. d (p ∙ sym l)) in
          rw (le-leb 2 (length s) h, sym e ∙ not-false fits k, no-match)

      pub judged : {v : Fields} {r : Result Frame FormError} → length s ≡ n → v ≡ fields_of s → r ≡ fields_reading (get_or s 0 0) v → r ≡ reading s
      unfolding reading
      judged d p q =
          let match : eqb (length s) (whole_length (get_or s 0 0)) ≡ true = eq-eqb _ _ (d ∙ l) in
          q ∙ rw (p, le-leb 2 (length s) h, sym e ∙ not-false fits k, match)
