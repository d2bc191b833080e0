-- A header with another agreed time and round.
use mathlib.Core.Path.{◌≡◌, sym, ◌∙◌, ap, subst}
use mathlib.Core.List.{List}
use Prim.Native.Nat.{ℕ}
use lib.ListN.{length}
use Rattle.memory.specs.Codec.{decode}
use Rattle.memory.specs.declared.Header.{Header}
use Rattle.memory.specs.declared.Round.{Round}
use Rattle.gateway.specs.Effects.{Effect, settled, with_agreed, with_round}
use Rattle.gateway.specs.Calls.{CallResult, leaving}
use Rattle.gateway.specs.Inside.Premises.{Known, Changed, with_header, changed_to}
use Rattle.gateway.specs.Answers.{Answer}

-- what is left, by another name of the effect
pub as-effect : (m output : List ℕ) {l : CallResult Answer} {e f : Effect} → l ≡ leaving (settled (length output) (decode m) e) m output → e
    ≡ f → l ≡ leaving (settled (length output) (decode m) f) m output
as-effect m output p q = p ∙ ap (λ (e : Effect). leaving (settled (length output) (decode m) e) m output) q

module _ (m : List ℕ) (h : Header) (k : Known m h) where
  pub still : {agreed : ℕ} {round : Round} {next : Header} → next ≡ changed_to h agreed round → Changed m next
  still {agreed} {round} {next} e = subst (λ (x : Header). Changed m x) (sym e) (record {
    soundness = k.soundness;
    settings = ap (λ (x : Header). x.settings) k.header;
    queued = ap (λ (x : Header). x.queued) k.header;
    outstanding = ap (λ (x : Header). x.outstanding) k.header;
  })

  pub gateway-is : (agreed : ℕ) (round : Round) → with_header (changed_to h agreed round) (decode m) ≡ with_agreed agreed (with_round round (decode m))
  unfolding decode
  gateway-is agreed round = rw k.header
