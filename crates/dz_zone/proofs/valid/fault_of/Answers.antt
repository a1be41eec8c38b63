use Rattle.std.proofs.Common.{rules, sym, ◌∙◌}
use Rattle.dz_zone.proofs.AbsenceLemmas.{soa_there}
use Rattle.dz_zone.specs.Valid.{fault_of}
use Rattle.dz_zone.proofs.valid.fault_of.Goals as goal

pub is_cname_beside-requires-clause-soa : goal.is_cname_beside-requires-clause-soa
is_cname_beside-requires-clause-soa c =
    soa_there c.args.apex.now c.args.records.now (sym c.no_soa.ensures ∙ c.if-no_soa.false)

pub is_owned_twice-requires-clause-soa : goal.is_owned_twice-requires-clause-soa
is_owned_twice-requires-clause-soa c =
    soa_there c.args.apex.now c.args.records.now (sym c.no_soa.ensures ∙ c.if-no_soa.false)

pub is_owned_twice-requires-else-is_owned_twice-clause-soa :
    goal.is_owned_twice-requires-else-is_owned_twice-clause-soa
is_owned_twice-requires-else-is_owned_twice-clause-soa c =
    soa_there c.args.apex.now c.args.records.now (sym c.no_soa.ensures ∙ c.if-no_soa.false)

pub returns-then-no_soa : goal.returns-then-no_soa
unfolding fault_of
returns-then-no_soa c = search rules

pub returns-then-is_soa_twice : goal.returns-then-is_soa_twice
unfolding fault_of
returns-then-is_soa_twice c = search rules

pub returns-then-is_soa_below : goal.returns-then-is_soa_below
unfolding fault_of
returns-then-is_soa_below c = search rules

pub returns-then-no_ns : goal.returns-then-no_ns
unfolding fault_of
returns-then-no_ns c = search rules

pub returns-then-out_of_zone : goal.returns-then-out_of_zone
unfolding fault_of
returns-then-out_of_zone c = search rules

pub returns-then-is_cname_beside : goal.returns-then-is_cname_beside
unfolding fault_of
returns-then-is_cname_beside c = search rules

pub returns-then-is_owned_twice : goal.returns-then-is_owned_twice
unfolding fault_of
returns-then-is_owned_twice c = search rules

pub returns-then-is_owned_twice-2 : goal.returns-then-is_owned_twice-2
unfolding fault_of
returns-then-is_owned_twice-2 c = search rules

pub returns-then-too_many : goal.returns-then-too_many
unfolding fault_of
returns-then-too_many c = search rules

pub returns-else-too_many : goal.returns-else-too_many
unfolding fault_of
returns-else-too_many c = search rules
