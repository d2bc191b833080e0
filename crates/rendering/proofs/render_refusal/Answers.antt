-- `render_refusal` puts 8 and a line end where there is room.
use Rattle.rendering.proofs.Whole.{refusal-short, refusal-put}
use Rattle.rendering.proofs.render_refusal.Goals as goal

pub returns-then-out-lt2 : goal.returns-then-out-lt2
returns-then-out-lt2 c = refusal-short _ c.if-out-lt2.true

pub returns : goal.returns
returns c = refusal-put _ c.if-out-lt2.false
