-- A call of a round changes the round and the agreed time of its gateway, and nothing else of it; its note is an hour that may
-- be sent, or nothing due.
use mathlib.Core.Path.{◌≡◌, refl}
use mathlib.Core.Bool.{Bool, true, false, cond}
use mathlib.Core.List.{List}
use Prim.Native.Nat.{ℕ, ◌+◌}
use lib.Dec.{eqb}
use Rattle.memory.specs.Records.{Gateway}
use Rattle.gateway.specs.Effects.{Effect, with_agreed, with_round}
use Rattle.gateway.specs.Rounds.{least_outstanding, value_at, finished, begun, all_bits, one_start, one_lvt}
use Rattle.memory.proofs.Validated.{Valid}
use Rattle.run.proofs.DueHours.{DueHour, NoteDue, least-due}

-- h is g with another round and agreed time
abbrev pub OnlyRound : Gateway → Gateway → Type 0
OnlyRound g h = h ≡ with_agreed h.agreed (with_round h.round g)

module _ (g : Gateway) where
  -- either of two effects
  either-only : (b : Bool) (u v : Effect) → OnlyRound g u.gateway → OnlyRound g v.gateway → OnlyRound g (cond b u v).gateway
  either-only true u v h l = h
  either-only false u v h l = l

  finished-only : (value : ℕ) → OnlyRound g (finished value g).gateway
  unfolding finished
  finished-only value = either-only (eqb g.settings.own 0) _ _ refl refl

  pub begun-only : OnlyRound g (begun g).gateway
  unfolding begun
  begun-only =
      either-only (eqb (g.settings.own + 1) g.settings.n) _ _ (finished-only (value_at (least_outstanding g.outstanding) g)) refl

  pub start-only : (heard : List ℕ) (arrived : ℕ) → OnlyRound g (one_start (all_bits heard) arrived g).gateway
  unfolding one_start
  start-only heard arrived = either-only (eqb arrived (all_bits heard)) _ _ begun-only refl

  pub lvt-only : (told : List ℕ) (arrived value : ℕ) → OnlyRound g (one_lvt (all_bits told) arrived value g).gateway
  unfolding one_lvt
  lvt-only told arrived value = either-only (eqb arrived (all_bits told)) _ _ (finished-only value) refl

module _ (g : Gateway) (v : Valid g) where
  either-due : (b : Bool) (x y : Effect) → NoteDue g.settings.last x.gateway.round → NoteDue g.settings.last y.gateway.round
      → NoteDue g.settings.last (cond b x y).gateway.round
  either-due true x y h l = h
  either-due false x y h l = l

  finished-due : (value : ℕ) → NoteDue g.settings.last (finished value g).gateway.round
  unfolding finished
  finished-due value = either-due (eqb g.settings.own 0) _ _ tt tt

  pub begun-due : NoteDue g.settings.last (begun g).gateway.round
  unfolding begun
  begun-due = either-due (eqb (g.settings.own + 1) g.settings.n) _ _ (finished-due (value_at (least_outstanding g.outstanding) g)) (least-due g v)

  pub start-due : (heard : List ℕ) (arrived : ℕ) → NoteDue g.settings.last (one_start (all_bits heard) arrived g).gateway.round
  unfolding one_start
  start-due heard arrived = either-due (eqb arrived (all_bits heard)) _ _ begun-due tt

  pub lvt-due : (told : List ℕ) (arrived value : ℕ) → DueHour g.settings.last value → NoteDue g.settings.last (one_lvt (all_bits told)
      arrived value g).gateway.round
  unfolding one_lvt
  lvt-due told arrived value d = either-due (eqb arrived (all_bits told)) _ _ (finished-due value) d
