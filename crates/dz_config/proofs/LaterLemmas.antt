-- No fault of a document is that it is no TOML.
use Rattle.std.proofs.Common.{◌≡◌, ℕ, Bool, true, false, List, [], ◌∷◌, ◌++◌, length, map}
use Rattle.std.specs.Prelude.{Option, Some, None, Result, Ok, Err, nat_le, nat_lt, not, codes, if◌then◌else◌}
use Rattle.std.specs.List.{fold, list_any}
use Rattle.std.specs.Option.{option_and_then, option_map_or}
use Rattle.dz_io.specs.declared.peer.Peer.{Peer}
use Rattle.dz_settings.specs.Config.{is_within_limits, has_each_once, has_secrets}
use Rattle.dz_settings.specs.declared.config.CatalogSettings.{CatalogSettings}
use Rattle.dz_name.specs.Text.{name_of_text}
use Rattle.dz_name.specs.Words.{Name}
use Rattle.toml.specs.Data.{Data, Members, get_member, as_str, as_array, as_table}
use Rattle.dz_config.specs.Config.{IsDocument, IsFaultOf}
use Rattle.dz_config.specs.Document.{is_key, keys_of, known, wanted, list_of, text_at, values_at, name_read, name_from}
use Rattle.dz_config.specs.Document.{policy_from, peer_from, primary_of, primaries_of, group_in, group_of, groups_from}
use Rattle.dz_config.specs.Document.{secret_from, key_in, key_from, catalog_in, catalog_of, catalogs_of, host_from}
use Rattle.dz_config.specs.Document.{downstream_host, hosts_from, addresses_of, settings_of, judged, said_of}
use Rattle.dz_config.specs.Document.{config_of}
use Rattle.dz_settings.specs.Peer.{policy_of, host_of, peer_of}
use Rattle.dz_config.specs.Reading.{Reading, number_of, least, both, made, read_in, more, gathered}
use Rattle.dz_config.specs.declared.config.Said.{Said}
use Rattle.dz_config.specs.declared.fault.ConfigFault.{ConfigFault}
use Rattle.dz_config.specs.declared.fault.ConfigFault.TheVariants.{NotToml, UnknownKey, UnknownPolicy, BadPeer}
use Rattle.dz_config.specs.declared.fault.ConfigFault.TheVariants.{OutOfLimits, Twice, BadSecret}
use Rattle.dz_config.specs.declared.keys.Place.{Place}
use Rattle.dz_config.specs.declared.keys.Place.TheVariants.{Document, Catalog, Group}

later : {X : Type 0} → Reading X → Type 0
later (Ok x) = Unit {0}
later (Err f) = f ≡ NotToml → ⊥

of_least : (f g : ConfigFault) → (f ≡ NotToml → ⊥) → (g ≡ NotToml → ⊥) → least f g ≡ NotToml → ⊥
of_least f g a b =
    elim (nat_le (number_of f) (number_of g)) as (λ t. (if t then f else g) ≡ NotToml → ⊥) [ true ↦ a | false ↦ b ]

of_both : {X Y : Type 0} (r : Reading X) (s : Reading Y) → later r → later s → later (both r s)
unfolding later
of_both (Ok x) (Ok y) a b = tt
of_both (Ok x) (Err g) a b = b
of_both (Err f) (Ok y) a b = a
of_both (Err f) (Err g) a b = of_least f g a b

of_made : {X Y : Type 0} (make : X → Y) (r : Reading X) → later r → later (made make r)
unfolding later
of_made make (Ok x) a = tt
of_made make (Err f) a = a

of_in : {X Y : Type 0} (read : X → Reading Y) (r : Reading X) → ((x : X) → later (read x)) → later r
    → later (read_in read r)
unfolding later
of_in read (Ok x) each a = each x
of_in read (Err f) each a = a

of_fold : {D X : Type 0} (read : D → Reading X) (acc : Reading (List X)) (ds : List D) → ((d : D) → later (read d))
    → later acc → later (fold more acc (map read ds))
of_fold read acc [] each a = a
of_fold read acc (d ∷ ds) each a = of_fold read (more acc (read d)) ds each
    (of_made (λ p. p.0 ++ p.1 ∷ []) (both acc (read d)) (of_both acc (read d) a (each d)))

of_all : {D X : Type 0} (read : D → Reading X) (ds : List D) → ((d : D) → later (read d))
    → later (gathered (map read ds))
unfolding later
of_all read ds each = of_fold read (Ok []) ds each tt

of_wanted : {X : Type 0} (o : Option X) → later (wanted o)
unfolding later
of_wanted None = λ e. cc
of_wanted (Some x) = tt

of_known : (place : Place) (table : Members) → later (known place table)
unfolding later
of_known place table =
    elim (list_any (λ key. not (is_key place key)) (keys_of table)) as (λ t.
    later (if t then Err UnknownKey else Ok tt)) [ true ↦ λ e. cc | false ↦ tt ]

of_text : (key : List ℕ) (table : Members) → later (text_at key table)
of_text key table = of_wanted (option_and_then as_str (get_member key table))

of_values : (key : List ℕ) (table : Members) → later (values_at key table)
of_values key table = of_made list_of (wanted (option_and_then as_array (get_member key table)))
    (of_wanted (option_and_then as_array (get_member key table)))

of_name_read : {E : Type 0} (r : Result Name E) → later (name_read r)
unfolding later
of_name_read (Ok name) = tt
of_name_read (Err fault) = λ e. cc

of_policy : (text : List ℕ) → later (policy_from text)
unfolding later
of_policy text =
    elim (policy_of text) as (λ o. later (option_map_or Ok o (Err UnknownPolicy))) [ None ↦ λ e. cc | Some x ↦ tt ]

of_peer : (text : List ℕ) → later (peer_from text)
unfolding later
of_peer text = elim (peer_of text) as (λ o. later (option_map_or Ok o (Err BadPeer))) [ None ↦ λ e. cc | Some x ↦ tt ]

of_primary : (value : Data) → later (primary_of value)
of_primary value = of_in peer_from (wanted (as_str value)) of_peer (of_wanted (as_str value))

of_primaries : (table : Members) → later (primaries_of table)
of_primaries table = of_in (λ values. gathered (map primary_of values)) (values_at (codes "primaries") table)
    (λ values. of_all primary_of values of_primary) (of_values (codes "primaries") table)

of_policy_at : (table : Members) → later (read_in policy_from (text_at (codes "policy") table))
of_policy_at table = of_in policy_from (text_at (codes "policy") table) of_policy (of_text (codes "policy") table)

of_group_in : (table : Members) → later (group_in table)
of_group_in table =
    of_made _ _
    (of_both _ _ (of_known Group table)
    (of_both _ _ (of_text (codes "word") table) (of_both _ _ (of_policy_at table) (of_primaries table))))

of_group : (value : Data) → later (group_of value)
of_group value = of_in group_in (wanted (as_table value)) of_group_in (of_wanted (as_table value))

of_groups_from : (found : Option Data) (table : Members) → later (groups_from found table)
unfolding later
of_groups_from None table = tt
of_groups_from (Some value) table = of_in (λ values. gathered (map group_of values)) (values_at (codes "group") table)
    (λ values. of_all group_of values of_group) (of_values (codes "group") table)

of_key_in : (table : Members) → later (key_in table)
of_key_in table =
    of_made _ _ (of_both _ _ (of_in name_from (text_at (codes "key") table)
    (λ text. of_name_read (name_of_text text)) (of_text (codes "key") table))
    (of_made secret_from (text_at (codes "secret") table) (of_text (codes "secret") table)))

of_key_from : (name secret : Option Data) (table : Members) → later (key_from name secret table)
unfolding later
of_key_from None None table = tt
of_key_from None (Some secret) table = of_made Some (key_in table) (of_key_in table)
of_key_from (Some name) secret table = of_made Some (key_in table) (of_key_in table)

of_catalog_in : (table : Members) → later (catalog_in table)
of_catalog_in table =
    of_made _ _
    (of_both _ _ (of_known Catalog table)
    (of_both _ _ (of_in name_from (text_at (codes "name") table) (λ text. of_name_read (name_of_text text))
    (of_text (codes "name") table))
    (of_both _ _ (of_policy_at table)
    (of_both _ _ (of_primaries table) (of_both _ _ (of_groups_from (get_member (codes "group") table) table)
    (of_key_from (get_member (codes "key") table) (get_member (codes "secret") table) table))))))

of_catalog : (value : Data) → later (catalog_of value)
of_catalog value = of_in catalog_in (wanted (as_table value)) of_catalog_in (of_wanted (as_table value))

of_catalogs : (table : Members) → later (catalogs_of table)
of_catalogs table = of_in (λ values. gathered (map catalog_of values)) (values_at (codes "catalog") table)
    (λ values. of_all catalog_of values of_catalog) (of_values (codes "catalog") table)

of_host : (text : List ℕ) → later (host_from text)
unfolding later
of_host text = elim (host_of text) as (λ o. later (option_map_or Ok o (Err BadPeer))) [ None ↦ λ e. cc | Some x ↦ tt ]

of_downstream : (value : Data) → later (downstream_host value)
of_downstream value = of_in host_from (wanted (as_str value)) of_host (of_wanted (as_str value))

of_hosts_from : (found : Option Data) (table : Members) → later (hosts_from found table)
unfolding later
of_hosts_from None table = tt
of_hosts_from (Some value) table =
    of_in (λ values. gathered (map downstream_host values)) (values_at (codes "downstream") table)
    (λ values. of_all downstream_host values of_downstream) (of_values (codes "downstream") table)

of_settings : (table : Members) → later (settings_of table)
of_settings table =
    of_made _ _
    (of_both _ _ (of_known Document table)
    (of_both _ _ (of_in peer_from (text_at (codes "listen") table) of_peer (of_text (codes "listen") table))
    (of_both _ _ (of_catalogs table) (of_hosts_from (get_member (codes "downstream") table) table))))

of_tests : (a b d s : Bool) (said : Said) → later (if not a then Err OutOfLimits else if b then Err OutOfLimits
    else if not d then Err Twice else if not s then Err BadSecret else Ok said)
unfolding later
of_tests false b d s said = λ e. cc
of_tests true true d s said = λ e. cc
of_tests true false false s said = λ e. cc
of_tests true false true false said = λ e. cc
of_tests true false true true said = tt

of_judged : (settings : Peer × (List CatalogSettings × List Peer)) → later (judged settings)
of_judged settings = of_tests (is_within_limits settings.1.0)
    (nat_lt 16 (length settings.1.1)) (has_each_once settings.1.0) (has_secrets settings.1.0)
    (record { listen = settings.0; config = settings.1.0; downstream = addresses_of settings.1.1 })

never : {X : Type 0} (r : Reading X) → later r → r ≡ Err NotToml → ⊥
unfolding later
never (Ok x) a e = cc
never (Err f) a e = let g : f ≡ NotToml = cc in a g

pub not_toml : (text : List ℕ) → IsFaultOf text NotToml → (table : Members) → IsDocument text table → ⊥
not_toml text fault table document =
    never (config_of table) (of_made (λ s. (s.listen, s.config)) (said_of table)
    (of_in judged (settings_of table) of_judged (of_settings table))) (fault.least table document)
