use Rattle.std.proofs.Common.{◌≡◌, length, take}
use Rattle.dz_config.specs.Document.{addresses_of}
use Rattle.dz_config.proofs.downstream.Downstream.of.Given as goal

abbrev pub invariant-hosts : goal.invariant-hosts
invariant-hosts l = (length l.addresses ≡ 16) × (take l.place l.addresses ≡ addresses_of (take l.place l.hosts))
