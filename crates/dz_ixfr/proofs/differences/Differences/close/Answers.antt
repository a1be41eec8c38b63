use Rattle.std.proofs.Common.{sym}
use Rattle.dz_record.specs.Records.{insertion}
use Rattle.dz_ixfr.proofs.KeptLemmas.{rdata_gap, first_joined, closed_says, closed_kept, kept_as}
use Rattle.dz_ixfr.proofs.differences.Differences.close.Goals as goal

pub returns-then-not-same_rdata-clause-says : goal.returns-then-not-same_rdata-clause-says
returns-then-not-same_rdata-clause-says c =
    rdata_gap c.self.invariant c.args.self.now c.self.view_is c.args.found c.requires.soa c.requires.here
    (sym c.if-not-same_rdata.ensures)

pub invariant_of-self : goal.invariant_of-self
invariant_of-self c = kept_as c.insert.new.self c.in_err-insert.ensures.wanting c.self.invariant

pub invariant_of-self-2 : goal.invariant_of-self-2
invariant_of-self-2 c =
    kept_as c.insert.new.self
    (first_joined c.self.invariant c.args.self.now c.self.view_is c.args.found c.requires.soa c.requires.here
    c.in_ok-insert.field-0 c.in_ok-first.first c.insert.new.self
    c.in_ok-first.ensures c.in_ok-insert.ensures.added c.in_ok-insert.ensures.joined)
    (closed_kept c.self.invariant c.args.self.now c.self.view_is c.args.found c.requires.soa c.requires.here
    c.and.result c.and.ensures (sym c.if-not-same_rdata.ensures))

pub returns-clause-says : goal.returns-clause-says
returns-clause-says c = (
  insertion c.self.inside.first c.self.inside.revision.records,
  closed_says c.self.invariant c.args.self.now c.self.view_is c.args.found c.requires.soa c.requires.here
      (sym c.if-not-same_rdata.ensures),
)
