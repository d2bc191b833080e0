-- `reader::judge` meets its contract.
use Rattle.frame.proofs.Branches.{wrong-sense, wrong-lamp, wrong-gateways, all_right}
use Rattle.reader.proofs.judge.Goals as goal

pub returns-then-not-sense_fits : goal.returns-then-not-sense_fits
returns-then-not-sense_fits c = search wrong-sense

pub returns-then-not-lamp_fits : goal.returns-then-not-lamp_fits
returns-then-not-lamp_fits c = search wrong-lamp

pub returns-then-not-gateways_agree : goal.returns-then-not-gateways_agree
returns-then-not-gateways_agree c = search wrong-gateways

pub returns : goal.returns
returns c = search all_right
