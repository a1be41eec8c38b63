use Rattle.std.proofs.Common.{rules}
use Rattle.dz_record.specs.Fields.{field_end}
use Rattle.dz_record.proofs.fields.field_end.Goals as goal

pub returns-in-FixedLength-clause-value : goal.returns-in-FixedLength-clause-value
unfolding field_end
returns-in-FixedLength-clause-value c = search rules

pub returns-in-FixedLength-2-clause-value : goal.returns-in-FixedLength-2-clause-value
unfolding field_end
returns-in-FixedLength-2-clause-value c = search rules

pub returns-in-DomainName-clause-value : goal.returns-in-DomainName-clause-value
unfolding field_end
returns-in-DomainName-clause-value c = search rules

pub returns-in-CharacterString-clause-value : goal.returns-in-CharacterString-clause-value
unfolding field_end
returns-in-CharacterString-clause-value c = search rules

pub returns-in-Remainder-clause-value : goal.returns-in-Remainder-clause-value
unfolding field_end
returns-in-Remainder-clause-value c = search rules
