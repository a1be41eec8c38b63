-- The records of a stream.
use Rattle.std.proofs.Common.{◌≡◌, true, List, [], ◌∷◌, ◌++◌, length, refl, arith, Some, None, Option}
use Rattle.std.specs.Prelude.{filter, nat_le}
use Rattle.std.specs.List.{All, AllByRecursion, list_all}
use Rattle.std.specs.Option.{option_to_list}
use Rattle.std.proofs.lemmas.Bool.{and_parts}
use Rattle.std.proofs.lemmas.Bool.Decides.{nat_tests}
use Rattle.std.proofs.lemmas.List.Elements.{All-from_recursion}
use Rattle.dz_message.specs.Frame.{stream}
use Rattle.dz_message.specs.Piece.{FitsAlone, written}
use Rattle.dz_outward.specs.Stream.{is_fit, fits_alone, is_other, messages_of, sent_records, soa_of}
use Rattle.dz_producer.proofs.OctetLemmas.{all_filter, all_found}
use Rattle.dz_producer.proofs.RecordLemmas.{all_append}
use Rattle.dz_record.specs.Record.{Record}
use Rattle.dz_zone.specs.Valid.{at_apex}
use Rattle.dz_zone.specs.Version.{Zone, apex_soa}

each_fits : (rs : List Record) → list_all fits_alone rs ≡ true → AllByRecursion FitsAlone rs
each_fits [] h = tt
each_fits (r ∷ rs) h =
    let parts = and_parts (fits_alone r) (list_all fits_alone rs) h in
    (fits r parts.0, each_fits rs parts.1)
  where
    fits : (r : Record) → fits_alone r ≡ true → FitsAlone r
    fits r t = grind (arith, nat_tests)

found_fits : (found : Option Record) → ((r : Record) → found ≡ Some r → FitsAlone r)
    → AllByRecursion FitsAlone (option_to_list found)
found_fits None h = tt
found_fits (Some r) h = (h r refl, tt)

-- each record of a version that can be sent fits into a message
pub all_fit : (zone : Zone) → is_fit zone ≡ true → (rs : List Record) → rs ≡ sent_records zone → All FitsAlone rs
all_fit zone fit rs are =
    let each : AllByRecursion FitsAlone zone.records =
    each_fits zone.records (and_parts (list_all fits_alone zone.records)
    (nat_le (length (stream (written (messages_of 0 zone)))) 67108864) fit).0 in
    let one : AllByRecursion FitsAlone (soa_of zone) =
    found_fits (apex_soa zone) (λ r e. all_found FitsAlone (at_apex 6 zone.apex) zone.records r each e) in
    let others : AllByRecursion FitsAlone (filter is_other zone.records) =
    all_filter FitsAlone is_other zone.records each in
    let all : AllByRecursion FitsAlone (sent_records zone) =
    all_append FitsAlone (soa_of zone) (filter is_other zone.records ++ soa_of zone) one
    (all_append FitsAlone (filter is_other zone.records) (soa_of zone) others one) in
    All-from_recursion FitsAlone rs (rw are all)
