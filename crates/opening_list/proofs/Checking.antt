-- The pass over the opening list: a law for each branch of the code.
use mathlib.Core.Path.{◌≡◌, refl, sym, ◌∙◌, ap}
use mathlib.Core.Bool.{true, false}
use mathlib.Core.List.{List, [], ◌∷◌}
use Prim.Native.Nat.{ℕ, ◌+◌, ◌-◌, ◌≤◌, ◌<◌}
use native.Mathlib.Omega.{arith}
use lib.Dec.{eqb}
use lib.ListN.{length, take, drop}
use Rattle.lists.specs.Lists.{before_first, tally}
use Rattle.lists.specs.Inside.Pieces.{piece_end, is_refused}
use Rattle.lists.proofs.PieceLaws.{pieces-all, Passing, Passed, passing-start, passing-end, passing-refused, passing-turn}
use Rattle.frame.specs.Layout.{whole_length}
use Rattle.frame.proofs.Sizes.{whole-some}
use Rattle.memory.specs.declared.Settings.{Settings}
use Rattle.gateway.specs.SettingUp.{cut_frames, may_open, opening_refusal}
use Rattle.opening_list.specs.Inside.Frames.{frames_from, checked_as}

pub frames-all : (list : List ℕ) → frames_from list 0 ≡ cut_frames (length list) list
frames-all list = pieces-all whole_length whole-some list

-- the pass has come to a position, and none before it is refused
abbrev pub Checking : List ℕ → Settings → ℕ → ℕ → Type 0
Checking list s count at = Passing whole_length (opening_refusal s) (λ f. 1) list count at

one_each : {A : Type 0} (l : List A) → tally (λ a. 1) l ≡ length l
unfolding tally
one_each [] = refl
one_each (a ∷ l) = omega (arith, one_each l)

checked-as : (list : List ℕ) (s : Settings) (number count : ℕ) → Passed whole_length (opening_refusal s) (λ f. 1) list number count
    → record { number = number; count = count } ≡ checked_as s (frames_from list 0)
checked-as list s number count p =
    let all = p.added ∙ one_each (before_first (is_refused (opening_refusal s)) (frames_from list 0)) in
    λ i. record { number = p.first i; count = all i }

pub pass-start : (list : List ℕ) (s : Settings) → Checking list s 0 0
pass-start list s = passing-start whole_length whole-some (opening_refusal s) (λ f. 1) list (λ at n h z. h)

module _ (list : List ℕ) (s : Settings) (count at : ℕ) (p : Checking list s count at) where
  pub pass-end : length list ≤ at → record { number = 0; count = count } ≡ checked_as s (frames_from list 0)
  pass-end h = checked-as list s 0 count (passing-end whole_length whole-some (opening_refusal s) (λ f. 1) list (λ at n h z. h) count at p h)

  module _ (h : at < length list) {end : ℕ} (e : end ≡ piece_end whole_length list at) {number : ℕ} (n : number ≡ opening_refusal s (take (end - at)
      (drop at list)))
    where
      pub pass-refused : (number ≡ 0 → ⊥) → record { number = number; count = count } ≡ checked_as s (frames_from list 0)
      pass-refused d =
          checked-as list s number count (passing-refused whole_length whole-some (opening_refusal s) (λ f. 1) list (λ at n h z. h) count at p h e n d)

      pub pass-turn : number ≡ 0 → Checking list s (count + 1) end
      pass-turn z = passing-turn whole_length whole-some (opening_refusal s) (λ f. 1) list (λ at n h z. h) count at p h e n z refl
