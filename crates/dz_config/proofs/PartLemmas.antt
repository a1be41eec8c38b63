-- Groups and catalogs of their parts.
use Rattle.std.proofs.Common.{◌≡◌, List, Option, refl, sym, ap, ◌∙◌}
use Rattle.std.specs.Prelude.{codes, Err}
use Rattle.dz_io.specs.declared.peer.Peer.{Peer}
use Rattle.dz_settings.specs.declared.config.CatalogSettings.{CatalogSettings}
use Rattle.dz_settings.specs.declared.config.GroupSettings.{GroupSettings}
use Rattle.dz_settings.specs.declared.config.Policy.{Policy}
use Rattle.dz_settings.specs.declared.key.Key.{Key}
use Rattle.dz_name.specs.Words.{Name, Octets}
use Rattle.toml.specs.Data.{Members}
use Rattle.dz_config.specs.Document.{known, text_at, name_from, policy_from, peer_from, primaries_of, groups_of}
use Rattle.dz_config.specs.Document.{key_of, group_in, catalog_in, catalogs_of, hosts_of, settings_of}
use Rattle.dz_config.specs.Reading.{Reading, both, made, read_in}
use Rattle.dz_config.specs.declared.fault.ConfigFault.{ConfigFault}
use Rattle.dz_config.specs.declared.keys.Place.TheVariants.{Document, Catalog, Group}

pub group_is : (table : Members) (k : Reading (Unit {0})) (w : Reading Octets) (q : Reading Policy)
    (r : Reading (List Peer)) (b1 : Reading (Policy × List Peer)) (b2 : Reading (Octets × (Policy × List Peer)))
    (b3 : Reading (Unit {0} × (Octets × (Policy × List Peer)))) (g : Reading GroupSettings) → k ≡ known Group table
    → w ≡ text_at (codes "word") table → q ≡ read_in policy_from (text_at (codes "policy") table)
    → r ≡ primaries_of table → b1 ≡ both q r → b2 ≡ both w b1 → b3 ≡ both k b2
    → g ≡ made (λ p. record { word = p.1.0; policy = p.1.1.0; primaries = p.1.1.1 }) b3 → g ≡ group_in table
group_is table k w q r b1 b2 b3 g ek ew eq er e1 e2 e3 eg = rw (eg, e3, e2, e1, ek, ew, eq, er) refl

pub catalog_is : (table : Members) (k : Reading (Unit {0})) (n : Reading Name) (q : Reading Policy)
    (r : Reading (List Peer)) (s : Reading (List GroupSettings)) (t : Reading (Option Key))
    (b : Reading (List GroupSettings × Option Key))
    (b0 : Reading (List Peer × (List GroupSettings × Option Key)))
    (b1 : Reading (Policy × (List Peer × (List GroupSettings × Option Key))))
    (b2 : Reading (Name × (Policy × (List Peer × (List GroupSettings × Option Key)))))
    (b3 : Reading (Unit {0} × (Name × (Policy × (List Peer × (List GroupSettings × Option Key))))))
    (g : Reading CatalogSettings)
    → k ≡ known Catalog table → n ≡ read_in name_from (text_at (codes "name") table)
    → q ≡ read_in policy_from (text_at (codes "policy") table) → r ≡ primaries_of table → s ≡ groups_of table
    → t ≡ key_of table
    → b ≡ both s t → b0 ≡ both r b → b1 ≡ both q b0 → b2 ≡ both n b1 → b3 ≡ both k b2 → g ≡ made (λ p.
    record { name = p.1.0; policy = p.1.1.0; primaries = p.1.1.1.0; groups = p.1.1.1.1.0; key = p.1.1.1.1.1 }) b3
    → g ≡ catalog_in table
catalog_is table k n q r s t b b0 b1 b2 b3 g ek en eq er es et eb e0 e1 e2 e3 eg =
    rw (eg, e3, e2, e1, e0, eb, ek, en, eq, er, es, et) refl

-- the fault of a document's parts is that of its settings
pub settings_fail : (table : Members) (k : Reading (Unit {0})) (l : Reading Peer)
    (s : Reading (List CatalogSettings × List Peer)) (b1 : Reading (Peer × (List CatalogSettings × List Peer)))
    (b2 : Reading (Unit {0} × (Peer × (List CatalogSettings × List Peer)))) (fault : ConfigFault)
    → k ≡ known Document table → l ≡ read_in peer_from (text_at (codes "listen") table)
    → s ≡ both (catalogs_of table) (hosts_of table)
    → b1 ≡ both l s → b2 ≡ both k b1 → b2 ≡ Err fault → Err fault ≡ settings_of table
settings_fail table k l s b1 b2 fault ek el es e1 e2 is =
    let all : Err fault ≡ both (known Document table)
    (both (read_in peer_from (text_at (codes "listen") table)) (both (catalogs_of table) (hosts_of table))) =
    sym is ∙ (rw (e2, e1, ek, el, es) refl) in
    ap (λ b. made (λ p. p.1) b) all
