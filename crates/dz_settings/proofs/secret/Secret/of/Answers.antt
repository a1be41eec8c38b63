use Rattle.dz_settings.proofs.SecretLemmas.{secret_kept}
use Rattle.dz_settings.proofs.secret.Secret.of.Goals as goal

pub invariant_of-result : goal.invariant_of-result
invariant_of-result c = secret_kept c.args.octets.now _ c.requires c.put_front.ensures
