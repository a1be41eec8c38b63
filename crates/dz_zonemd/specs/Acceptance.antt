-- Meaning: which new versions of a zone a policy accepts, by what their ZONEMD records say (RFC 8976 section 4 leaves
-- this to the operator of the server).
use Rattle.std.specs.Prelude.{Bool, true, false}
use Rattle.dz_settings.specs.declared.config.Policy.{Policy}
use Rattle.dz_settings.specs.declared.config.Policy.TheVariants.{Off, Present, Require}
use Rattle.dz_zonemd.specs.declared.acceptance.Standing.{Standing}
use Rattle.dz_zonemd.specs.declared.acceptance.Standing.TheVariants.{Absent, Unsupported, Good, Bad}

-- a policy accepts a new version whose ZONEMD records say this (RFC 8976 section 4)
abbrev pub accepts : Policy → Standing → Bool
accepts Off standing = true
accepts Present Absent = true
accepts Present Unsupported = true
accepts Present Good = true
accepts Present Bad = false
accepts Require Absent = false
accepts Require Unsupported = false
accepts Require Good = true
accepts Require Bad = false
