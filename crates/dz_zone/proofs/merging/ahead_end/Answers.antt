use Rattle.std.proofs.Common.{rules, ◌≡◌, ℕ, ◌+◌, ◌-◌, List, length, take, drop, get_or, sym, ◌∙◌, ap, subst, arith}
use Rattle.std.proofs.Common.{true, false}
use Rattle.std.specs.Ordering.{is_ge}
use Rattle.std.specs.List.{AllByRecursion}
use Rattle.std.specs.List.Sorted.{IsPartitionPoint}
use Rattle.std.proofs.lemmas.Bool.{false≢true}
use Rattle.std.proofs.lemmas.Fn.{always_returns_same}
use Rattle.std.proofs.lemmas.List.{get_or-drop, length-drop, take_all}
use Rattle.dz_record.specs.Order.{record_total}
use Rattle.dz_record.specs.Record.{Record, record_order}
use Rattle.dz_zone.specs.inner.Overlay.{first_before, Rises}
use Rattle.dz_zone.proofs.MergeLemmas.{rises_drop, part_of, ahead_take, some_ahead, none_ahead}
use Rattle.dz_zone.proofs.OverlayLemmas.{no_key}
use Rattle.dz_zone.proofs.merging.ahead_end.Goals as goal

abbrev rest_of : List Record → ℕ → List Record
rest_of records place = take (length records - place) (drop place records)

rest_is : (records : List Record) (place : ℕ) → rest_of records place ≡ drop place records
rest_is records place =
    take_all (length records - place) (drop place records) (omega (arith, length-drop place records))

point : (c : goal.After-partition_point) → IsPartitionPoint (λ r. is_ge (record_order c.in-Some.first.now r) ≡ true)
    (λ r. is_ge (record_order c.in-Some.first.now r) ≡ false)
    (rest_of c.args.records.now c.args.place) c.partition_point.result
point c =
    let rest = rest_of c.args.records.now c.args.place in
    c.partition_point.ensures.partitioned (λ (r : Record). is_ge (record_order c.in-Some.first.now r))
    (always_returns_same _ _ _ (λ a r f h. search rules))
    (part_of record_order record_total c.in-Some.first.now rest
    (subst (Rises record_order) (sym (rest_is c.args.records.now c.args.place))
    (rises_drop record_order record_total c.args.place c.args.records.now c.requires.rises)))

pub returns-in-Some-clause-some : goal.returns-in-Some-clause-some
returns-in-Some-clause-some c =
    let records = c.args.records.now in
    let place = c.args.place in
    let is = rest_is records place in
    let here : place + 0 ≡ place = omega arith in
    let long = ap length is in
    let some = some_ahead record_order record_total c.args.added.now.keys c.in-Some.first.now c.partition_point.result
    (rest_of records place) c.in-Some.ensures.first
    (omega (arith, c.requires.within, length-drop place records, long))
    (λ d. ap (λ l. first_before record_order c.args.added.now.keys (get_or l 0 d)) is
    ∙ (ap (first_before record_order c.args.added.now.keys) (get_or-drop place records 0 d)
    ∙ rw here (c.requires.ahead d))) (point c).1 in
    omega (arith, some)

pub returns-in-Some-clause-ahead : goal.returns-in-Some-clause-ahead
returns-in-Some-clause-ahead c =
    let e : c.args.place + c.partition_point.result - c.args.place ≡ c.partition_point.result = omega arith in
    let ahead = ahead_take record_order record_total c.args.added.now.keys c.in-Some.first.now c.partition_point.result
    (rest_of c.args.records.now c.args.place) c.in-Some.ensures.first c.partition_point.ensures.bound
    (point c).0 in
    rw e (subst (λ l. AllByRecursion (λ r. first_before record_order c.args.added.now.keys r ≡ false)
    (take c.partition_point.result l)) (rest_is c.args.records.now c.args.place) ahead)

pub returns-in-None-clause-ahead : goal.returns-in-None-clause-ahead
returns-in-None-clause-ahead c = none_ahead record_order record_total c.args.added.now.keys _
    (no_key c.args.added.now.keys (λ l. false≢true (c.in-None.ensures.variant.1 l)))
