use Rattle.dz_config.proofs.LaterLemmas.{not_toml}
use Rattle.dz_config.proofs.laws.not_toml_is_exact.Goals as goal

pub returns : goal.returns
returns c = not_toml
