-- `opening::set_up::set_up` meets its contract.
use mathlib.Core.Path.{refl, ap}
use Rattle.std.proofs.lemmas.Result.{err_from_is_err_and}
use Rattle.refusal.specs.Numbers.{refusal_number}
use native.Mathlib.Omega.{arith}
use Rattle.buffer.proofs.Lent.{bytes-known}
use Rattle.opening.proofs.SetUpBranches.{not_valid, valid-settings, frame_refused, too_many, list-room, few-enough, set-up-done}
use borrow.Author.Rules.{rules}
use Rattle.std.proofs.lemmas.Bool.{not_from_true}
use Rattle.opening.proofs.set_up.set_up.Goals as goal

pub returns-then-not-opening_valid : goal.returns-then-not-opening_valid
returns-then-not-opening_valid c = search not_valid

pub settings_of-settings-requires : goal.settings_of-settings-requires
settings_of-settings-requires c =
    (valid-settings c.args.opening c.args.list.now c.args.memory.now c.opening_valid.ensures
    (not_from_true _ c.if-not-opening_valid.false)).settings

pub returns-in_err-count : goal.returns-in_err-count
returns-in_err-count c =
    let p = err_from_is_err_and c.from_residual.result c.from_residual.ensures.1 in
    rw p.1 (frame_refused _ _ _ c.opening_valid.ensures (not_from_true _ c.if-not-opening_valid.false) c.settings_of-settings.ensures
    c.in_err-count.ensures _ (ap refusal_number p.2))

pub returns-then-count-settings : goal.returns-then-count-settings
returns-then-count-settings c =
    too_many _ _ _ c.opening_valid.ensures (not_from_true _ c.if-not-opening_valid.false) c.settings_of-settings.ensures
    c.in_ok-count.ensures refl c.if-count-settings.true

pub enter_list-requires : goal.enter_list-requires
enter_list-requires c =
    list-room _ _ _ c.opening_valid.ensures (not_from_true _ c.if-not-opening_valid.false) c.settings_of-settings.ensures
    c.in_ok-count.ensures refl c.if-count-settings.false

pub opened_header-requires : goal.opened_header-requires
opened_header-requires c =
    let v = valid-settings c.args.opening c.args.list.now c.args.memory.now
    c.opening_valid.ensures (not_from_true _ c.if-not-opening_valid.false) in let f = few-enough c.args.opening c.args.list.now
    c.args.memory.now c.opening_valid.ensures (not_from_true _ c.if-not-opening_valid.false) c.settings_of-settings.ensures
    c.in_ok-count.ensures refl c.if-count-settings.false in (
      c.settings_of-settings.ensures,
      omega arith,
    )

pub write_header-requires : goal.write_header-requires
write_header-requires c =
    let v = valid-settings c.args.opening c.args.list.now c.args.memory.now
    c.opening_valid.ensures (not_from_true _ c.if-not-opening_valid.false) in search rules

pub returns : goal.returns
returns c =
    set-up-done _ _ _ c.opening_valid.ensures (not_from_true _ c.if-not-opening_valid.false) c.settings_of-settings.ensures
    c.in_ok-count.ensures refl c.if-count-settings.false (bytes-known c.args.list.now
    c.type_inv.list) c.enter_list.ensures c.opened_header.ensures
    c.write_header.ensures
