-- All octets of the zones' transfers are used, and how many they are.
use Rattle.std.proofs.Common.{ℕ, ◌<◌, ◌≤◌, ◌^◌, List, [], ◌∷◌, ◌++◌, length, sym, subst, arith, length-append}
use Rattle.std.specs.Prelude.{codes}
use Rattle.std.specs.List.{AllByRecursion}
use Rattle.dz_name.specs.Name.{IsName}
use Rattle.dz_record.specs.Record.{Record}
use Rattle.dz_zone.specs.Version.{zone_of}
use Rattle.dz_zonemd.specs.Digested.{digested}
use Rattle.dz_name.specs.declared.dns.TheConstants.{TYPE_AXFR, TYPE_IXFR}
use Rattle.dz_gen.specs.Texts.{digits, named, numbered}
use Rattle.dz_gen.specs.Records.{soa, zone, www, mail, is_strict, first_records, second_records, first_digest}
use Rattle.dz_gen.specs.Records.{second_digest}
use Rattle.dz_gen.specs.Messages.{part_of, whole_of, changes_of}
use Rattle.dz_gen.proofs.SentLemmas.{IsSmall, small_append}
use Rattle.dz_gen.proofs.SmallLemmas.{zone_named, www_named, mail_named, soa_small, server_small, address_small}
use Rattle.dz_gen.proofs.SmallLemmas.{zonemd_small}
use Rattle.dz_gen.proofs.SpelledLemmas.{IsFour, four_digits, zone_is, www_is, mail_is}
use Rattle.dz_rehearsal.proofs.LifeLemmas.{either}
use Rattle.dz_rehearsal.proofs.UsedLemmas.{IsOne, response_is}

-- ---- the records of zones
module _ (k : ℕ) (f : IsFour (digits k)) where
  apex_named : IsName (zone k)
  apex_named = subst IsName (sym (zone_is k f)) (zone_named f.a f.b f.c f.d f.digits)

  host_named : IsName (www k)
  host_named = subst IsName (sym (www_is k f)) (www_named f.a f.b f.c f.d f.digits)

  post_named : IsName (named (numbered (codes "mail.z") k (codes ".test.")))
  post_named = subst IsName (sym (mail_is k f)) (mail_named f.a f.b f.c f.d f.digits)

  soa_is : (serial : ℕ) → IsSmall (soa (zone k) serial)
  soa_is serial = soa_small (zone k) apex_named serial

  mail_small : IsSmall (mail k)
  mail_small = address_small (named (numbered (codes "mail.z") k (codes ".test."))) post_named 1 k

  first_small : AllByRecursion IsSmall (first_records k)
  first_small = (soa_is 1, (server_small (zone k) apex_named, (address_small (www k) host_named 0 k, tt)))

  digest_one : AllByRecursion IsSmall (first_digest k)
  digest_one = either (AllByRecursion IsSmall) (is_strict k) _ [] (
    zonemd_small (zone k) apex_named 1
        (digested (zone k) (zone_of (zone k) (first_records k)).records),
    tt,
  ) tt

  digest_two : AllByRecursion IsSmall (second_digest k)
  digest_two = either (AllByRecursion IsSmall) (is_strict k) _ [] (
    zonemd_small (zone k) apex_named 2
        (digested (zone k) (zone_of (zone k) (second_records k)).records),
    tt,
  ) tt

  few_one : length (first_digest k) ≤ 1
  few_one = either (λ rs. length rs ≤ 1) (is_strict k) _ [] (omega arith) (omega arith)

  few_two : length (second_digest k) ≤ 1
  few_two = either (λ rs. length rs ≤ 1) (is_strict k) _ [] (omega arith) (omega arith)

  part_small : AllByRecursion IsSmall (first_records k ++ first_digest k)
  part_small = small_append (first_records k) (first_digest k) first_small digest_one

  module _ (id : ℕ) (small : id < 2 ^ 16) where
    part_one : IsOne (part_of id k)
    part_one =
        response_is (zone k) id TYPE_AXFR (first_records k ++ first_digest k) apex_named small (omega arith) part_small
        (omega (arith, length-append (first_records k) (first_digest k), few_one))

    whole_one : IsOne (whole_of id k)
    whole_one =
        let rs : List Record = first_records k ++ first_digest k in
        response_is (zone k) id TYPE_AXFR (rs ++ soa (zone k) 1 ∷ []) apex_named small (omega arith)
        (small_append rs (soa (zone k) 1 ∷ []) part_small (soa_is 1, tt))
        (omega (
          arith,
          length-append rs (soa (zone k) 1 ∷ []),
          length-append (first_records k) (first_digest k),
          few_one,
        ))

    changes_one : IsOne (changes_of id k)
    changes_one =
        let a : List Record = soa (zone k) 2 ∷ soa (zone k) 1 ∷ [] in
        let b : List Record = soa (zone k) 2 ∷ mail k ∷ [] in
        let z : List Record = soa (zone k) 2 ∷ [] in
        let one : AllByRecursion IsSmall (a ++ first_digest k) = small_append a (first_digest k)
        (soa_is 2, (soa_is 1, tt)) digest_one in
        let two : AllByRecursion IsSmall ((a ++ first_digest k) ++ b) = small_append (a ++ first_digest k) b one
        (soa_is 2, (mail_small, tt)) in
        let three : AllByRecursion IsSmall (((a ++ first_digest k) ++ b) ++ second_digest k) = small_append
        ((a ++ first_digest k) ++ b) (second_digest k) two digest_two in
        response_is (zone k) id TYPE_IXFR ((((a ++ first_digest k) ++ b) ++ second_digest k) ++ z) apex_named small
        (omega arith)
        (small_append (((a ++ first_digest k) ++ b) ++ second_digest k) z three (soa_is 2, tt))
        (omega (
          arith,
          length-append (((a ++ first_digest k) ++ b) ++ second_digest k) z,
          length-append ((a ++ first_digest k) ++ b) (second_digest k),
          length-append (a ++ first_digest k) b,
          length-append a (first_digest k),
          few_one,
          few_two,
        ))

-- all octets are used, of whatever transfer they answer
pub part_is : (k id : ℕ) → 0 < k → k ≤ 1000 → id < 2 ^ 16 → IsOne (part_of id k)
part_is k id some few small = part_one k (four_digits k some few) id small

pub whole_is : (k id : ℕ) → 0 < k → k ≤ 1000 → id < 2 ^ 16 → IsOne (whole_of id k)
whole_is k id some few small = whole_one k (four_digits k some few) id small

pub changes_is : (k id : ℕ) → 0 < k → k ≤ 1000 → id < 2 ^ 16 → IsOne (changes_of id k)
changes_is k id some few small = changes_one k (four_digits k some few) id small
