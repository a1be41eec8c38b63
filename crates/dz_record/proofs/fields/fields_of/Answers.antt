use Rattle.std.proofs.Common.{rules}
use Rattle.dz_record.specs.Fields.{fields_of}
use Rattle.dz_record.proofs.fields.fields_of.Goals as goal

pub returns-in-1 : goal.returns-in-1
unfolding fields_of
returns-in-1 c = search rules

pub returns-in-28 : goal.returns-in-28
unfolding fields_of
returns-in-28 c = search rules

pub returns-in-6 : goal.returns-in-6
unfolding fields_of
returns-in-6 c = search rules

pub returns-in-14 : goal.returns-in-14
unfolding fields_of
returns-in-14 c = search rules

pub returns-in-15 : goal.returns-in-15
unfolding fields_of
returns-in-15 c = search rules

pub returns-in-26 : goal.returns-in-26
unfolding fields_of
returns-in-26 c = search rules

pub returns-in-33 : goal.returns-in-33
unfolding fields_of
returns-in-33 c = search rules

pub returns-in-35 : goal.returns-in-35
unfolding fields_of
returns-in-35 c = search rules

pub returns-in-46 : goal.returns-in-46
unfolding fields_of
returns-in-46 c = search rules

pub returns-in_default : goal.returns-in_default
unfolding fields_of
returns-in_default c = search rules

pub returns-in-2 : goal.returns-in-2
unfolding fields_of
returns-in-2 c = search rules
