-- The pieces of bytes are bytes.
use mathlib.Core.Path.{◌≡◌, sym, subst}
use mathlib.Core.Logic.{⊎_elim}
use mathlib.Core.List.Memᴰ
use mathlib.Core.List.{List, [], ◌∷◌}
use Prim.Native.Nat.{ℕ, zero, suc}
use lib.ListN.{take, drop}
use Rattle.lists.specs.Lists.{◌∈◌, cut_by}
use Rattle.buffer.specs.Slice.{Bytes}
use Rattle.buffer.proofs.Lent.{bytes_take, bytes_drop}

pub cut-bytes : (size : ℕ → ℕ) (turns : ℕ) (s : List ℕ) → Bytes s → (p : List ℕ) → p ∈ cut_by size turns s → Bytes p
unfolding cut_by
cut-bytes size zero s h p m = absurd (Memᴰ.not-nil m)
cut-bytes size (suc turns) [] h p m = absurd (Memᴰ.not-nil m)
cut-bytes size (suc turns) (b ∷ s) h p m =
    ⊎_elim
    (λ (e : p ≡ take (size b) (b ∷ s)). subst Bytes (sym e) (bytes_take (size b) (b ∷ s) h))
    (cut-bytes size turns (drop (size b) (b ∷ s)) (bytes_drop (size b) (b ∷ s) h) p)
    (Memᴰ.cases_cons m)
