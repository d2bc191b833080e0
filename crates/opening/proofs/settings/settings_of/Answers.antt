-- `opening::settings::settings_of` meets its contract.
use Rattle.memory.proofs.Validated.{settings-facts}
use borrow.Author.Rules.{rules}
use Rattle.opening.proofs.settings.settings_of.Goals as goal

pub overflow_cast-result : goal.overflow_cast-result
overflow_cast-result c = let v = settings-facts _ c.requires in search rules

pub overflow_cast-result-2 : goal.overflow_cast-result-2
overflow_cast-result-2 c = let v = settings-facts _ c.requires in search rules

pub overflow_cast-result-3 : goal.overflow_cast-result-3
overflow_cast-result-3 c = let v = settings-facts _ c.requires in search rules

pub overflow_cast-result-4 : goal.overflow_cast-result-4
overflow_cast-result-4 c = let v = settings-facts _ c.requires in search rules

pub overflow_cast-result-5 : goal.overflow_cast-result-5
overflow_cast-result-5 c = let v = settings-facts _ c.requires in search rules
