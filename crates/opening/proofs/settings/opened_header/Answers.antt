-- `opening::settings::opened_header` meets its contract.
use Rattle.opening.proofs.settings.opened_header.Goals as goal

pub returns : goal.returns
returns c = cc
