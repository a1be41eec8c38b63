-- Inner: the ZONEMD records of an apex, algorithm by algorithm.
use Rattle.std.specs.Prelude.{Bool, ◌==◌, ◌&&◌, List, length, count_by}
use Rattle.std.specs.List.{list_any}
use Rattle.std.specs.Str.{bytes_eq}
use Rattle.dz_name.specs.Words.{Name}
use Rattle.dz_record.specs.Record.{Record}
use Rattle.dz_zonemd.specs.Digested.{digested}
use Rattle.dz_zonemd.specs.Standing.{is_serial}
use Rattle.dz_zonemd.specs.Zonemd.{serial_in, digest_in, is_by, size_of, hash_by}
use Rattle.dz_zonemd.specs.declared.algorithm.Algorithm.{Algorithm}

-- a record of this algorithm, whole, with the zone's serial and the zone's digest
abbrev pub agrees : Algorithm → Name → List Record → Record → Bool
agrees algorithm apex records r =
    is_by algorithm r && (length (digest_in r) == size_of algorithm && (is_serial apex records (serial_in r)
    && bytes_eq (digest_in r) (hash_by algorithm (digested apex records))))

-- there is one record of this algorithm, and it agrees
abbrev pub verified_by : Algorithm → Name → List Record → List Record → Bool
verified_by algorithm apex records found =
    count_by (is_by algorithm) found == 1 && list_any (agrees algorithm apex records) found
