use Rattle.dz_desk.proofs.RuleLemmas.{opens, admits, shows, enters, tells, learns}
use Rattle.dz_desk.proofs.laws.steps_keep.Goals as goal

pub returns : goal.returns
returns c = record {
  making = opens;
  handing_out = admits;
  publishing = shows;
  entering = enters;
  telling = tells;
  learning = learns;
}
