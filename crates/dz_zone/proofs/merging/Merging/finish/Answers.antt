use Rattle.std.proofs.Common.{◌≡◌, ◌<◌, ◌∷◌, ◌++◌, length, length-append, append_assoc, refl, sym, ◌∙◌, ap, arith, []}
use Rattle.std.proofs.Common.{List, Bool, true, false}
use Rattle.dz_record.specs.Record.{Record}
use Rattle.std.proofs.lemmas.Bool.{false≢true}
use Rattle.std.proofs.lemmas.List.{append-nil}
use Rattle.dz_zone.proofs.MergeLemmas.{total_length, follows_next}
use Rattle.dz_zone.proofs.MergingLemmas.{keys_are}
use Rattle.dz_zone.proofs.OverlayLemmas.{no_key}
use Rattle.dz_zone.proofs.merging.Merging.finish.Goals as goal

some_left : (keys : List Record) (none : Bool) → none ≡ false → (length keys ≡ 0 → none ≡ true) → 0 < length keys
some_left [] none f h = absurd (false≢true (sym f ∙ h refl))
some_left (k ∷ keys) none f h = omega arith

pub put_first-requires-clause-few : goal.put_first-requires-clause-few
put_first-requires-clause-few c =
    let some = some_left c.added.added.keys c.is_empty.result c.added-test.true c.is_empty.ensures.1 in
    let all = ap length c.added.invariant.all in
    let few = c.requires.few in
    omega (
      arith,
      some,
      few,
      all,
      total_length c.added.self c.added.invariant.made,
      total_length c.args.self c.requires.made,
      length-append c.added.self.records c.added.added.keys,
      length-append c.args.self.records c.args.added.keys,
    )

pub put_first-requires-clause-after : goal.put_first-requires-clause-after
put_first-requires-clause-after c =
    λ first rest e. follows_next c.added.self.records first rest (c.args.self.records ++ c.args.added.keys)
    (ap (λ k. c.added.self.records ++ k) (sym e) ∙ c.added.invariant.all) c.requires.rises

pub returns-clause-records : goal.returns-clause-records
returns-clause-records c =
    let none =
    no_key c.added.added.keys (λ l. let z = c.is_empty.ensures.0 c.added-test.false in omega (arith, l, z)) in
    ap (λ m. m.records) c.self-2.view_is ∙ (sym (append-nil c.added.self.records)
    ∙ (ap (λ k. c.added.self.records ++ k) (sym none) ∙ c.added.invariant.all))

pub added-smaller : goal.added-smaller
added-smaller c =
    let k = keys_are c.added.added.keys
    (some_left c.added.added.keys c.is_empty.result c.added-test.true c.is_empty.ensures.1) in
    let now = ap length (c.in_ok-put_first.ensures.rest k.0 k.1 k.2) in
    let before = ap length k.2 in
    omega (arith, now, before)

pub added-preserved : goal.added-preserved
added-preserved c =
    let k = keys_are c.added.added.keys
    (some_left c.added.added.keys c.is_empty.result c.added-test.true c.is_empty.ensures.1) in
    record {
      made = c.in_ok-put_first.ensures.made;
      all = ap (λ l. l ++ c.put_first.new.added.keys) (c.in_ok-put_first.ensures.first k.0 k.1 k.2)
          ∙ (ap (λ l. (c.added.self.records ++ k.0 ∷ []) ++ l) (c.in_ok-put_first.ensures.rest k.0 k.1 k.2)
          ∙ (append_assoc c.added.self.records (k.0 ∷ []) k.1
          ∙ (ap (λ l. c.added.self.records ++ l) (sym k.2) ∙ c.added.invariant.all)));
    }
