use Rattle.std.proofs.Common.{◌≡◌, take}
use Rattle.dz_provision.proofs.copied.copied.Given as goal

abbrev pub invariant-catalogs : goal.invariant-catalogs
invariant-catalogs l = l.catalogs.items ≡ take l.settings-index l.config
