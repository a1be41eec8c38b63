-- Inner: how many records of a zone are of types that it treats apart.
use Rattle.std.specs.Prelude.{◌+◌, ◌==◌, ◌&&◌, not, cond, List}
use Rattle.std.specs.List.{count_by}
use Rattle.dz_name.specs.Words.{Name}
use Rattle.dz_name.specs.Name.{same_name}
use Rattle.dz_name.specs.declared.dns.TheConstants.{TYPE_DNAME, TYPE_NS}
use Rattle.dz_record.specs.Record.{Record}
use Rattle.dz_zone.specs.Version.{is_of_dnssec}
use Rattle.dz_zone.specs.inner.Singletons.{is_singleton}
use Rattle.dz_zone.specs.declared.kinds.Kinds.{Kinds}

-- the counts with one more record
abbrev pub counted : Name → Kinds → Record → Kinds
counted apex kinds r = record {
  singletons = kinds.singletons + cond (is_singleton r.kind) 1 0;
  cuts = kinds.cuts + cond (r.kind == TYPE_NS && not (same_name r.owner apex)) 1 0;
  dnames = kinds.dnames + cond (r.kind == TYPE_DNAME) 1 0;
  secure = kinds.secure + cond (is_of_dnssec r.kind) 1 0;
}

-- how many records are of types of which an owner has one, NS below the apex, DNAME, and of types of DNSSEC
abbrev pub kinds_of : Name → List Record → Kinds
kinds_of apex records = record {
  singletons = count_by (λ r. is_singleton r.kind) records;
  cuts = count_by (λ r. r.kind == TYPE_NS && not (same_name r.owner apex)) records;
  dnames = count_by (λ r. r.kind == TYPE_DNAME) records;
  secure = count_by (λ r. is_of_dnssec r.kind) records;
}
