-- `take_update::take_update` meets its contract.
use native.Mathlib.Omega.{arith}
use Rattle.phases.proofs.Changing.{still}
use Rattle.take_update.proofs.Updating.{update-at-root, update-elsewhere, update-taken}
use Rattle.take_update.proofs.take_update.Goals.{then-settings-eq0-via-then-settings-eq0, then-settings-eq0-via-else-settings-eq0+then-k-settings}
use Rattle.take_update.proofs.take_update.Goals as goal

pub returns-then-settings-eq0 : goal.returns-then-settings-eq0
returns-then-settings-eq0 c = elim c.then-settings-eq0.branch [
  | then-settings-eq0-via-then-settings-eq0 w ↦ update-at-root _ _ c.requires _ _ _ (omega (arith, w.if-settings-eq0.true))
  | then-settings-eq0-via-else-settings-eq0+then-k-settings w ↦
      let own = w.if-settings-eq0.false in update-elsewhere _ _ c.requires _ _ _ (omega arith) w.if-k-settings.true
]

pub announce-requires : goal.announce-requires
announce-requires c =
    (still _ _ c.requires c.changed-next.ensures, omega arith)

pub returns : goal.returns
returns c =
    update-taken _ _ c.requires c.args.output.now _ _ _ (omega arith) c.if-k-settings.false c.max.ensures
    c.changed-next.ensures c.children.ensures c.announce.ensures
