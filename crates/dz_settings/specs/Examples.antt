-- Judge: the numbers of configurations.
use Rattle.std.specs.Prelude.{◌≡◌, refl}
use Rattle.dz_settings.specs.declared.limits.TheConstants.{CATALOGS, CATALOG_GROUPS, PRIMARIES, WORD_OCTETS}
use Rattle.dz_settings.specs.declared.limits.TheConstants.{SECRET_OCTETS}
use Rattle.dz_settings.specs.declared.peer.TheConstants.{DNS_PORT}

-- ---- the limits of configurations, so that none can change, and the port of the DNS (RFC 1035 section 4.2)
pub catalogs_is_8 : CATALOGS ≡ 8
catalogs_is_8 = refl

pub catalog_groups_is_64 : CATALOG_GROUPS ≡ 64
catalog_groups_is_64 = refl

pub primaries_is_8 : PRIMARIES ≡ 8
primaries_is_8 = refl

pub word_octets_is_255 : WORD_OCTETS ≡ 255
word_octets_is_255 = refl

pub secret_octets_is_64 : SECRET_OCTETS ≡ 64
secret_octets_is_64 = refl

pub dns_port_is_53 : DNS_PORT ≡ 53
dns_port_is_53 = refl
