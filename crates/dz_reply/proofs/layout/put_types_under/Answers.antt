use Rattle.std.proofs.Common.{arith, sym, ◌∙◌, refl}
use Rattle.dz_lookup.specs.inner.Links.{no_record}
use Rattle.dz_reply.proofs.LayoutLemmas.{also_full}
use Rattle.dz_reply.proofs.TypeLemmas.{type_written, type_within, type_some, types_done}
use Rattle.dz_reply.proofs.layout.put_types_under.Goals as goal

pub types-init : goal.types-init
types-init c = record { within = omega arith; octets = λ q o h. refl }

pub returns-then-is_over : goal.returns-then-is_over
returns-then-is_over c q o h =
    also_full _ _ _ _ (sym c.is_over.ensures ∙ c.if-is_over.true) (c.types.invariant.octets q o h)

pub types-preserved : goal.types-preserved
types-preserved c =
    let records = c.args.records.now in
    let begin = c.types.begin in
    let run = c.run_from-run.result.now in
    let is = c.run_from-run.ensures no_record in
    record {
      within = type_within records begin no_record c.requires c.types-test.true run is;
      octets = λ q o h. type_written records begin no_record c.requires c.types-test.true run is q o _
          c.types.writer.writing _ (c.put_entries_under-in-types.ensures q o h) (c.types.invariant.octets q o h);
    }

pub returns : goal.returns
returns c q o h = types_done q o c.args.records.now c.types.begin _ c.types.writer.writing c.types-test.false
    (c.types.invariant.octets q o h)

pub types-smaller : goal.types-smaller
types-smaller c =
    let records = c.args.records.now in
    let begin = c.types.begin in
    let run = c.run_from-run.result.now in
    let is = c.run_from-run.ensures no_record in
    let some = type_some records begin no_record c.requires c.types-test.true run is in
    let within = type_within records begin no_record c.requires c.types-test.true run is in
    omega (arith, some, within, c.types-test.true)
